-- What is open at a place of the text, with what has been read of it.
use Rattle.std.specs.Prelude.{◌≡◌, ℕ, Bool, true, false, List, [], ◌∷◌, ◌++◌}
use Rattle.spanner_model.specs.Tree.{Tree, empty, cat_all, alt_all}
use Rattle.formula_parser.specs.Faults.{Opener, slash}

-- an opener, its place, the whole arms since then, and the whole pieces of the arm that is being read
pub record Frame : Type 0 where
  pub opener : Opener
  pub place : ℕ
  pub arms : List Tree
  pub parts : List Tree

-- the last thing read: the start of a sequence, a unit, or a unit with its repeat
pub data Last : Type 0 where
  start : Last
  unit : Tree → Last
  repeated : Tree → Last

-- the innermost frame, those around it from the inside out, and the last thing read
pub record Nest : Type 0 where
  pub below : List Frame
  pub top : Frame
  pub last : Last

-- the pieces of a sequence, the last thing read among them
abbrev pub held : List Tree → Last → List Tree
held parts start = parts
held parts (unit f) = parts ++ f ∷ []
held parts (repeated f) = parts ++ f ∷ []

-- the tree of a sequence that ends here
abbrev pub lone : Last → Tree
lone start = empty
lone (unit f) = f
lone (repeated f) = f

abbrev pub whole_seq : List Tree → Last → Tree
whole_seq [] last = lone last
whole_seq (p ∷ ps) last = cat_all (held (p ∷ ps) last)

abbrev pub whole_alt : List Tree → Tree → Tree
whole_alt [] seq = seq
whole_alt (a ∷ arms) seq = alt_all ((a ∷ arms) ++ seq ∷ [])

-- what stands in the innermost frame
abbrev pub whole : Nest → Tree
whole n = whole_alt n.top.arms (whole_seq n.top.parts n.last)

abbrev pub outermost : ℕ → Nest
outermost place = record { below = []; top = record { opener = slash; place = place; arms = []; parts = [] }; last = start }

-- the frame with the last thing read among its pieces
abbrev pub settled : Frame → Last → Frame
settled f last = record f { parts = held f.parts last }

abbrev pub with_unit : Tree → Nest → Nest
with_unit f n = record n { top = settled n.top n.last; last = unit f }

abbrev pub with_repeat : Tree → Nest → Nest
with_repeat f n = record n { last = repeated f }

abbrev pub opened : Opener → ℕ → Nest → Nest
opened opener place n = record {
  below = settled n.top n.last ∷ n.below;
  top = record { opener = opener; place = place; arms = []; parts = [] };
  last = start;
}

abbrev pub next_arm : Nest → Nest
next_arm n = record n { top = record (n.top) { arms = n.top.arms ++ whole_seq n.top.parts n.last ∷ []; parts = [] }; last = start }

-- the frame f is closed: its tree is the last unit of the frame around it; false where there is none
abbrev pub Left : Tree → List Frame → Bool → Nest → Type 0
Left f [] found n = found ≡ false
Left f (outer ∷ below) found n = (found ≡ true) × (n ≡ record { below = below; top = outer; last = unit f })
