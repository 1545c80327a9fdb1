-- The right side as it is read: its ways by their blocks, and which states lead nowhere but where the state before them does.
use Rattle.std.specs.Prelude.{◌≡◌, ℕ, ◌+◌, ◌⊎◌, Bool, true, List, [], slice_get, Some, take}
use Rattle.std.specs.List.Sorted.{IsNonDecreasingBy}
use Rattle.span_core.specs.Lists.{Has}
use Rattle.marked_automaton.specs.declared.way.Way.{Way}
use Rattle.marked_automaton.specs.Automaton.{AreGrouped, HasByte, ways_from}
use Rattle.algebra.specs.Pairs.{HaveSameRows}
use Rattle.algebra_minus.specs.declared.rows.RightSide.{RightSide}
use Rattle.algebra_minus.specs.Pieces.{SomeWayLeads, way_marks, ways_of}

-- wherever the ways from p lead with a block, those from q lead with it
abbrev pub Covers : List Way → ℕ → ℕ → Type 0
Covers ways q p = (m c t : ℕ) → SomeWayLeads (ways_of ways m p) c t → SomeWayLeads (ways_of ways m q) c t

-- each state that is noted covers the next one
abbrev pub AreCovering : List Way → List Bool → Type 0
AreCovering ways noted = (q : ℕ) → slice_get noted q ≡ Some true → Covers ways q (q + 1)

-- y has the block and the target of z, and all its bytes
pub record LeadsAs (y z : Way) : Type 0 where
  pub marks : y.marks ≡ z.marks
  pub to : y.to ≡ z.to
  pub bytes : (c : ℕ) → HasByte z.bytes c → HasByte y.bytes c

-- for each of the ways xs there is one of ys that leads as it does
abbrev pub LeadWithin : List Way → List Way → Type 0
LeadWithin xs ys = (z : Way) → Has xs z → (y : Way) × Has ys y × LeadsAs y z

-- the member at this place is the next state after one before it, which covers it
abbrev pub IsPassed : List Bool → List ℕ → ℕ → Type 0
IsPassed noted members place = (q : ℕ) × Has (take place members) q × (slice_get noted q ≡ Some true) × (slice_get members place ≡ Some (q + 1))

-- these are the ways of the row from the member at this place; or they are none, and it is passed over
abbrev pub AreFromMember : List Way → List Bool → List ℕ → ℕ → List Way → Type 0
AreFromMember row noted members place ways =
    ((ways ≡ []) × IsPassed noted members place) ⊎ ((p : ℕ) × (slice_get members place ≡ Some p) × (ways ≡ ways_from row p))

-- the same ways by their blocks, and those with the same block by the states that they lead from; and states that cover the next
pub record AreRights (right : RightSide) : Type 0 where
  pub order : IsNonDecreasingBy way_marks right.ways.now
  pub rows : HaveSameRows way_marks right.ways.now right.automaton.now.graph.ways
  pub grouped : AreGrouped right.automaton.now.graph.ways
  pub covering : AreCovering right.automaton.now.graph.ways right.covering.now
