-- The numbers of an atom's automaton, by the formula alone.
use Rattle.std.specs.Prelude.{ℕ, zero, suc, ◌+◌, ◌-◌, ◌*◌, max, List, [], ◌∷◌, length, map, nat_lt, Option, Some, None, Bool, if◌then◌else◌}
use Rattle.spanner_model.specs.Captures.{VarName}
use Rattle.spanner_model.specs.Tree.{Tree, empty, one, cat_end, cat, alt_end, alt, rep, cap}
use Rattle.spanner_model.specs.Expression.{AtomTree}
use Rattle.marked_automaton.specs.declared.TheConstants.{MOST_WAYS}
use Rattle.place_automaton.specs.declared.TheConstants.{MOST_SETS}
use Rattle.place_automaton.specs.Places.{add_once, either_once, sums}
use Rattle.place_automaton.specs.Variables.{with_vars}
use Rattle.place_automaton.specs.Words.{opening_of, closing_of}

pub record PlaceCounts : Type 0 where
  pub places : ℕ
  -- the blocks with which the empty string fits
  pub null : List ℕ
  pub first : ℕ
  pub last : ℕ
  pub follow : ℕ

abbrev pub counts_nothing : PlaceCounts
counts_nothing = record { places = 0; null = 0 ∷ []; first = 0; last = 0; follow = 0 }

abbrev pub counts_never : PlaceCounts
counts_never = record { places = 0; null = []; first = 0; last = 0; follow = 0 }

abbrev pub counts_one : PlaceCounts
counts_one = record { places = 1; null = []; first = 1; last = 1; follow = 0 }

abbrev pub counts_cat : PlaceCounts → PlaceCounts → PlaceCounts
counts_cat a b = record {
  places = a.places + b.places;
  null = sums a.null b.null;
  first = a.first + length a.null * b.first;
  last = b.last + length b.null * a.last;
  follow = a.follow + b.follow + a.last * b.first;
}

abbrev pub counts_alt : PlaceCounts → PlaceCounts → PlaceCounts
counts_alt a b = record {
  places = a.places + b.places;
  null = either_once a.null b.null;
  first = a.first + b.first;
  last = a.last + b.last;
  follow = a.follow + b.follow;
}

abbrev pub counts_opt : PlaceCounts → PlaceCounts
counts_opt a = record { places = a.places; null = add_once 0 a.null; first = a.first; last = a.last; follow = a.follow }

abbrev pub counts_plus : PlaceCounts → PlaceCounts
counts_plus a = record { places = a.places; null = a.null; first = a.first; last = a.last; follow = a.follow + a.last * a.first }

-- in a capture, whose two markers have these bits
abbrev pub counts_cap : ℕ → PlaceCounts → PlaceCounts
counts_cap both a = record { places = a.places; null = map (◌+◌ both) a.null; first = a.first; last = a.last; follow = a.follow }

abbrev pub counts_copies : ℕ → PlaceCounts → PlaceCounts → PlaceCounts
counts_copies zero a b = b
counts_copies (suc n) a b = counts_cat a (counts_copies n a b)

abbrev pub counts_at_most : ℕ → PlaceCounts → PlaceCounts
counts_at_most zero a = counts_nothing
counts_at_most (suc n) a = counts_opt (counts_cat a (counts_at_most n a))

abbrev pub counts_repeated : ℕ → Option ℕ → PlaceCounts → PlaceCounts
counts_repeated zero None a = counts_opt (counts_plus a)
counts_repeated (suc n) None a = counts_copies n a (counts_plus a)
counts_repeated n (Some most) a = counts_copies n a (counts_at_most (most - n) a)

module _ (opening closing : VarName → ℕ) where
  abbrev pub counts : Tree → PlaceCounts
  counts empty = counts_nothing
  counts (one set) = counts_one
  counts cat_end = counts_nothing
  counts (cat f rest) = counts_cat (counts f) (counts rest)
  counts alt_end = counts_never
  counts (alt f rest) = counts_alt (counts f) (counts rest)
  counts (rep f least most) = counts_repeated least most (counts f)
  counts (cap x f) = counts_cap (opening x + closing x) (counts f)

  -- with how many blocks the empty string fits
  abbrev pub null_size : Tree → ℕ
  null_size f = length (counts f).null

  -- with how many it fits some part of the formula, or the first parts of a concatenation, joined from left to
  -- right: the most of these numbers; in the rest of a concatenation, `before` is that of the parts before it
  abbrev pub largest_null : ℕ → Tree → ℕ
  largest_null before empty = 1
  largest_null before (one set) = 0
  largest_null before cat_end = before
  largest_null before (cat f rest) = max before (max (largest_null 1 f) (largest_null (before * null_size f) rest))
  largest_null before alt_end = 0
  largest_null before (alt f rest) = max (null_size (alt f rest)) (max (largest_null 1 f) (largest_null 1 rest))
  largest_null before (rep f least most) = max (null_size (rep f least most)) (largest_null 1 f)
  largest_null before (cap x f) = largest_null 1 f

-- where the markers are those of these names
abbrev pub counts_over : List VarName → Tree → PlaceCounts
counts_over names f = counts (opening_of names) (closing_of names) f

abbrev pub largest_null_over : List VarName → Tree → ℕ
largest_null_over names f = largest_null (opening_of names) (closing_of names) 1 f

abbrev pub states_of : Bool → PlaceCounts → ℕ
states_of to_end c = 1 + c.places + (if to_end then 0 else 1)

abbrev pub ways_of : Bool → Bool → PlaceCounts → ℕ
ways_of from_start to_end c =
    c.first + c.follow + (if from_start then 0 else 1) + (if to_end then 0 else c.last + 1 + length c.null)

-- some part of the formula, or the first parts of a concatenation, have a null with more blocks than are listed
abbrev pub has_large_null : Tree → Bool
has_large_null f = nat_lt MOST_SETS (largest_null_over (with_vars [] f) f)

abbrev pub count_states : AtomTree → ℕ
count_states a = states_of a.to_end (counts_over (with_vars [] a.formula) a.formula)

-- one more than an automaton may have, where null is large
abbrev pub count_ways : AtomTree → ℕ
count_ways a =
    if has_large_null a.formula then MOST_WAYS + 1 else ways_of a.from_start a.to_end (counts_over (with_vars [] a.formula) a.formula)
