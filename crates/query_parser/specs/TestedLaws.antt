-- What the grammar of queries with tests has in common with that of queries.
use Rattle.std.specs.Prelude.{◌≡◌, ◌↔◌, ◌<◌, ◌⊎◌, ℕ, List, [], All}
use Rattle.spanner_model.specs.Expression.{QueryTree}
use Rattle.query_parser.specs.declared.fault.QueryFault.{QueryFault}
use Rattle.query_parser.specs.Faults.{HasFault, IsQueryText}
use Rattle.query_parser.specs.Tested.{HasNoTests, IsTestedText, HasTestedFault}
use Rattle.spanner_model.specs.Tested.{TestedTree}

-- a query without tests
abbrev pub plain : QueryTree → TestedTree
plain q = record { query = q; asked = [] }

-- a text without tests is what it was
pub record QueriesAreAsBefore : Type 0 where
  pub same_query : (text : List ℕ) (q : QueryTree) → IsQueryText text q ↔ IsTestedText text (plain q)
  pub same_fault : (text : List ℕ) (e : QueryFault) → HasNoTests text → HasFault text e ↔ HasTestedFault text e

-- no text is that of two queries with tests, or of one and has a fault, or has two faults; and each text of bytes is that of one or has a fault
pub record EachTextIsTold : Type 0 where
  pub one_query : (text : List ℕ) (t u : TestedTree) → IsTestedText text t → IsTestedText text u → t ≡ u
  pub not_both : (text : List ℕ) (t : TestedTree) (e : QueryFault) → IsTestedText text t → HasTestedFault text e → ⊥
  pub one_fault : (text : List ℕ) (e d : QueryFault) → HasTestedFault text e → HasTestedFault text d → e ≡ d
  pub one_of_both : (text : List ℕ) → All (λ b. b < 256) text → ((t : TestedTree) × IsTestedText text t) ⊎ ((e : QueryFault) × HasTestedFault text e)
