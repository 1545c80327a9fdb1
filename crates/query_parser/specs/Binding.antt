-- The tests of a text among those that a program knows, and the fault of a text under them.
use Rattle.std.specs.Prelude.{◌≡◌, ◌⊎◌, ℕ, List, [], ◌∷◌}
use Rattle.span_tests.specs.Listed.{IsNamed}
use Rattle.spanner_model.specs.declared.tested.Asked.{Asked}
use Rattle.spanner_model.specs.Tested.{TestedTree}
use Rattle.spanner_model.specs.Passing.{AreKnown, Known}
use Rattle.query_parser.specs.declared.fault.QueryFault.{QueryFault}
use Rattle.query_parser.specs.declared.fault.QueryFault.TheVariants.{UnknownTest}
use Rattle.query_parser.specs.Tested.{IsTestedText, HasTestedFault}

-- the first test that is not known stands at this place
abbrev pub FirstUnknown : Known → List Asked → ℕ → Type 0
FirstUnknown k [] at = ⊥
FirstUnknown k (a ∷ asked) at = (¬ IsNamed k.tests a.test × (a.at ≡ at)) ⊎ (IsNamed k.tests a.test × FirstUnknown k asked at)

-- the text is that of this query with known tests, and of no other
pub record IsOnlyTested (k : Known) (text : List ℕ) (t : TestedTree) : Type 0 where
  pub spelled : IsTestedText text t
  pub only : (other : TestedTree) → IsTestedText text other → other ≡ t
  pub tests_known : AreKnown k t.asked

-- the fault of a text: its own, or where it has none that of its first test that is not known
pub data HasFaultUnder (k : Known) (text : List ℕ) : QueryFault → Type 0 where
  of_text : {fault : QueryFault} → HasTestedFault text fault → ((t : TestedTree) → ¬ IsTestedText text t) → HasFaultUnder k text fault
  unknown_test : {t : TestedTree} {at : ℕ} → IsTestedText text t → ((other : TestedTree) → IsTestedText text other → other ≡ t) →
      FirstUnknown k t.asked at → HasFaultUnder k text (UnknownTest at)
