-- What stands at the two sides of a part of a formula whose places are numbered.
use Rattle.std.specs.Prelude.{◌≡◌, ℕ, zero, suc, ◌+◌, ◌⊎◌, List, [], ◌∷◌, ◌++◌, map, bit_or, ◌==◌, if◌then◌else◌}
use Rattle.std.specs.List.{flat_map}
use Rattle.span_core.specs.Lists.{Has}
use Rattle.marked_automaton.specs.declared.way.Way.{Way}
use Rattle.marked_automaton.specs.declared.way.Stop.{Stop}
use Rattle.marked_automaton.specs.Automaton.{ByteClass}
use Rattle.place_automaton.specs.declared.fragment.Entry.{Entry}
use Rattle.place_automaton.specs.Places.{Places, ways_between, entry_with, stop_with, add_once, either_once, sums}

pub record Sides : Type 0 where
  -- the blocks with which the empty string fits
  pub null : List ℕ
  pub first : List Entry
  pub last : List Stop

abbrev pub sides_of : Places → Sides
sides_of P = record { null = P.null; first = P.first; last = P.last }

abbrev pub nothing_sides : Sides
nothing_sides = record { null = 0 ∷ []; first = []; last = [] }

abbrev pub one_sides : ByteClass → ℕ → Sides
one_sides set k = record { null = []; first = record { marks = 0; bytes = set; to = k } ∷ []; last = record { state = k; marks = 0 } ∷ [] }

abbrev pub cat_sides : Sides → Sides → Sides
cat_sides P Q = record {
  null = sums P.null Q.null;
  first = P.first ++ flat_map (λ m. map (entry_with m) Q.first) P.null;
  last = Q.last ++ flat_map (λ m. map (stop_with m) P.last) Q.null;
}

abbrev pub opt_sides : Sides → Sides
opt_sides P = record { null = add_once 0 P.null; first = P.first; last = P.last }

abbrev pub cap_sides : ℕ → ℕ → Sides → Sides
cap_sides opening closing P = record {
  null = map (◌+◌ (opening + closing)) P.null;
  first = map (entry_with opening) P.first;
  last = map (stop_with closing) P.last;
}

-- a block that stands at one of the sides
abbrev pub MarkOf : Sides → ℕ → Type 0
MarkOf P m = Has P.null m ⊎ (((e : Entry) × Has P.first e × (e.marks ≡ m)) ⊎ ((s : Stop) × Has P.last s × (s.marks ≡ m)))

-- the two blocks have no marker in common, so that what both have is their sum
abbrev pub JoinAsSum : ℕ → ℕ → Type 0
JoinAsSum m n = bit_or m n ≡ m + n

-- the blocks of the one and of the other
abbrev pub JoinAsSums : Sides → Sides → Type 0
JoinAsSums P Q = (m n : ℕ) → MarkOf P m → MarkOf Q n → JoinAsSum m n

-- no marker stands at the sides
abbrev pub IsUnmarked : Sides → Type 0
IsUnmarked P = (m : ℕ) → MarkOf P m → m ≡ 0

-- the markers of a capture have none in common, and none with the part in it
pub record CanCapture (opening closing : ℕ) (P : Sides) : Type 0 where
  pub apart : JoinAsSum opening closing
  pub null : (m : ℕ) → Has P.null m → JoinAsSum (opening + closing) m
  pub first : (m : ℕ) → MarkOf P m → JoinAsSum opening m
  pub last : (m : ℕ) → MarkOf P m → JoinAsSum m closing

-- parts one after another, of which so many are required and the others may stand only where all before
-- them do; last comes Q
abbrev pub row_sides : ℕ → List Sides → Sides → Sides
row_sides required [] Q = Q
row_sides zero (P ∷ Ps) Q = opt_sides (cat_sides P (row_sides zero Ps Q))
row_sides (suc required) (P ∷ Ps) Q = cat_sides P (row_sides required Ps Q)

-- the blocks with which the empty string fits any of the parts, each once
abbrev pub any_null : List Sides → List ℕ
any_null [] = []
any_null (P ∷ Ps) = either_once P.null (any_null Ps)

-- any of the parts
abbrev pub any_sides : List Sides → Sides
any_sides Ps = record { null = any_null Ps; first = flat_map (λ (P : Sides). P.first) Ps; last = flat_map (λ (P : Sides). P.last) Ps }

abbrev pub less_one : ℕ → ℕ
less_one zero = zero
less_one (suc n) = n

-- the ways between such parts
abbrev pub row_ways : ℕ → List Sides → Sides → List Way
row_ways required [] Q = []
row_ways required (P ∷ Ps) Q = row_ways (less_one required) Ps Q ++ ways_between P.last (row_sides (less_one required) Ps Q).first

-- each of such parts shares no marker with what comes after it
abbrev pub RowJoins : ℕ → List Sides → Sides → Type 0
RowJoins required [] Q = Unit {0}
RowJoins required (P ∷ Ps) Q = JoinAsSums P (row_sides (less_one required) Ps Q) × RowJoins (less_one required) Ps Q

-- a part that comes again and again, or not at all where none is required
abbrev pub again_sides : ℕ → Sides → Sides
again_sides required P = if required == 0 then opt_sides P else P
