-- The numbers of the automaton of a functional formula, where the empty string fits with one block or with
-- none: null is a number, and no marker is looked at.
use Rattle.std.specs.Prelude.{ℕ, zero, suc, ◌+◌, ◌-◌, ◌*◌, max, Option, Some, None, if◌then◌else◌}
use Rattle.spanner_model.specs.Tree.{Tree, empty, one, cat_end, cat, alt_end, alt, rep, cap}
use Rattle.spanner_model.specs.Expression.{AtomTree}

pub record PlainCounts : Type 0 where
  pub places : ℕ
  -- 1 where the empty string fits, else 0
  pub null : ℕ
  pub first : ℕ
  pub last : ℕ
  pub follow : ℕ

abbrev pub plain_nothing : PlainCounts
plain_nothing = record { places = 0; null = 1; first = 0; last = 0; follow = 0 }

abbrev pub plain_never : PlainCounts
plain_never = record { places = 0; null = 0; first = 0; last = 0; follow = 0 }

abbrev pub plain_one : PlainCounts
plain_one = record { places = 1; null = 0; first = 1; last = 1; follow = 0 }

abbrev pub plain_cat : PlainCounts → PlainCounts → PlainCounts
plain_cat a b = record {
  places = a.places + b.places;
  null = a.null * b.null;
  first = a.first + a.null * b.first;
  last = b.last + a.last * b.null;
  follow = a.follow + b.follow + a.last * b.first;
}

abbrev pub plain_alt : PlainCounts → PlainCounts → PlainCounts
plain_alt a b = record {
  places = a.places + b.places;
  null = max a.null b.null;
  first = a.first + b.first;
  last = a.last + b.last;
  follow = a.follow + b.follow;
}

abbrev pub plain_opt : PlainCounts → PlainCounts
plain_opt a = record { places = a.places; null = 1; first = a.first; last = a.last; follow = a.follow }

abbrev pub plain_plus : PlainCounts → PlainCounts
plain_plus a = record { places = a.places; null = a.null; first = a.first; last = a.last; follow = a.follow + a.last * a.first }

abbrev pub plain_copies : ℕ → PlainCounts → PlainCounts → PlainCounts
plain_copies zero a b = b
plain_copies (suc n) a b = plain_cat a (plain_copies n a b)

abbrev pub plain_at_most : ℕ → PlainCounts → PlainCounts
plain_at_most zero a = plain_nothing
plain_at_most (suc n) a = plain_opt (plain_cat a (plain_at_most n a))

abbrev pub plain_repeated : ℕ → Option ℕ → PlainCounts → PlainCounts
plain_repeated zero None a = plain_opt (plain_plus a)
plain_repeated (suc n) None a = plain_copies n a (plain_plus a)
plain_repeated n (Some most) a = plain_copies n a (plain_at_most (most - n) a)

abbrev pub plain : Tree → PlainCounts
plain empty = plain_nothing
plain (one set) = plain_one
plain cat_end = plain_nothing
plain (cat f rest) = plain_cat (plain f) (plain rest)
plain alt_end = plain_never
plain (alt f rest) = plain_alt (plain f) (plain rest)
plain (rep f least most) = plain_repeated least most (plain f)
plain (cap x f) = plain f

abbrev pub plain_states : AtomTree → ℕ
plain_states a = 1 + (plain a.formula).places + (if a.to_end then 0 else 1)

abbrev pub plain_ways : AtomTree → ℕ
plain_ways a =
    let c = plain a.formula in
    c.first + c.follow + (if a.from_start then 0 else 1) + (if a.to_end then 0 else c.last + 1 + c.null)
