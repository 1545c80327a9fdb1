-- The places of a formula, after its repetitions are written out, and what may begin, follow and end.
use Rattle.std.specs.Prelude.{ℕ, zero, suc, ◌+◌, ◌-◌, List, [], ◌∷◌, ◌++◌, map, Option, Some, None, if◌then◌else◌, nat_eq}
use Rattle.std.specs.List.{list_any, flat_map}
use Rattle.spanner_model.specs.Captures.{VarName}
use Rattle.spanner_model.specs.Tree.{Tree, empty, one, cat_end, cat, alt_end, alt, rep, cap}
use Rattle.marked_automaton.specs.declared.way.Way.{Way}
use Rattle.marked_automaton.specs.declared.way.Stop.{Stop}
use Rattle.marked_automaton.specs.Automaton.{ByteClass}
use Rattle.place_automaton.specs.declared.fragment.Entry.{Entry}

pub record Places : Type 0 where
  -- how many places
  pub count : ℕ
  -- the blocks with which the empty string fits
  pub null : List ℕ
  pub first : List Entry
  pub last : List Stop
  pub follow : List Way

-- places numbered from the given number on
abbrev pub Placed : Type 0
Placed = ℕ → Places

-- from an end, through an entry: their marks are joined
abbrev pub way_into : Stop → Entry → Way
way_into s e = record { from = s.state; marks = s.marks + e.marks; bytes = e.bytes; to = e.to }

abbrev pub ways_between : List Stop → List Entry → List Way
ways_between last first = flat_map (λ s. map (way_into s) first) last

abbrev pub entry_with : ℕ → Entry → Entry
entry_with m e = record { marks = m + e.marks; bytes = e.bytes; to = e.to }

abbrev pub stop_with : ℕ → Stop → Stop
stop_with m s = record { state = s.state; marks = s.marks + m }

-- n, where it is not there yet
abbrev pub add_once : ℕ → List ℕ → List ℕ
add_once n ms = if list_any (nat_eq n) ms then ms else n ∷ ms

abbrev pub either_once : List ℕ → List ℕ → List ℕ
either_once [] ns = ns
either_once (m ∷ ms) ns = add_once m (either_once ms ns)

-- the elements that are not among the others
abbrev pub without : List ℕ → List ℕ → List ℕ
without others [] = []
without others (m ∷ ms) = if list_any (nat_eq m) others then without others ms else m ∷ without others ms

abbrev pub sums : List ℕ → List ℕ → List ℕ
sums ms ns = flat_map (λ m. map (◌+◌ m) ns) ms

abbrev pub nothing_placed : Placed
nothing_placed k = record { count = 0; null = 0 ∷ []; first = []; last = []; follow = [] }

abbrev pub never_placed : Placed
never_placed k = record { count = 0; null = []; first = []; last = []; follow = [] }

abbrev pub one_placed : ByteClass → Placed
one_placed set k =
    record { count = 1; null = []; first = record { marks = 0; bytes = set; to = k } ∷ []; last = record { state = k; marks = 0 } ∷ []; follow = [] }

abbrev pub cat_places : Places → Places → Places
cat_places P Q = record {
  count = P.count + Q.count;
  null = sums P.null Q.null;
  first = P.first ++ flat_map (λ m. map (entry_with m) Q.first) P.null;
  last = Q.last ++ flat_map (λ m. map (stop_with m) P.last) Q.null;
  follow = P.follow ++ (Q.follow ++ ways_between P.last Q.first);
}

abbrev pub alt_places : Places → Places → Places
alt_places P Q = record {
  count = P.count + Q.count;
  null = either_once P.null Q.null;
  first = P.first ++ Q.first;
  last = P.last ++ Q.last;
  follow = P.follow ++ Q.follow;
}

abbrev pub opt_places : Places → Places
opt_places P = record { count = P.count; null = add_once 0 P.null; first = P.first; last = P.last; follow = P.follow }

abbrev pub plus_places : Places → Places
plus_places P = record { count = P.count; null = P.null; first = P.first; last = P.last; follow = P.follow ++ ways_between P.last P.first }

abbrev pub cap_places : ℕ → ℕ → Places → Places
cap_places opening closing P = record {
  count = P.count;
  null = map (◌+◌ (opening + closing)) P.null;
  first = map (entry_with opening) P.first;
  last = map (stop_with closing) P.last;
  follow = P.follow;
}

abbrev pub cat_placed : Placed → Placed → Placed
cat_placed F G k = cat_places (F k) (G (k + (F k).count))

abbrev pub alt_placed : Placed → Placed → Placed
alt_placed F G k = alt_places (F k) (G (k + (F k).count))

abbrev pub opt_placed : Placed → Placed
opt_placed F k = opt_places (F k)

abbrev pub plus_placed : Placed → Placed
plus_placed F k = plus_places (F k)

abbrev pub cap_placed : ℕ → ℕ → Placed → Placed
cap_placed opening closing F k = cap_places opening closing (F k)

-- so many copies of F, and then G
abbrev pub copies_then : ℕ → Placed → Placed → Placed
copies_then zero F G = G
copies_then (suc n) F G = cat_placed F (copies_then n F G)

-- so many copies of F, each of which may stand only where the one before it does
abbrev pub at_most : ℕ → Placed → Placed
at_most zero F = nothing_placed
at_most (suc n) F = opt_placed (cat_placed F (at_most n F))

-- a repetition, written out
abbrev pub repeated : ℕ → Option ℕ → Placed → Placed
repeated zero None F = opt_placed (plus_placed F)
repeated (suc n) None F = copies_then n F (plus_placed F)
repeated n (Some most) F = copies_then n F (at_most (most - n) F)

-- what the opening, and the closing, of a variable count in a block
module _ (opening closing : VarName → ℕ) where
  abbrev pub placed : Tree → Placed
  placed empty = nothing_placed
  placed (one set) = one_placed set
  placed cat_end = nothing_placed
  placed (cat f rest) = cat_placed (placed f) (placed rest)
  placed alt_end = never_placed
  placed (alt f rest) = alt_placed (placed f) (placed rest)
  placed (rep f least most) = repeated least most (placed f)
  placed (cap x f) = cap_placed (opening x) (closing x) (placed f)
