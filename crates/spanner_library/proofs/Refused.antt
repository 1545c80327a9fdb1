-- Why a text is not prepared.
use Rattle.std.proofs.Common.{◌≡◌, ◌⊎◌, inl, inr, List, ℕ, Ok, Err, sym, subst, refl}
use Rattle.spanner_model.specs.declared.tested.Tested.{Tested}
use Rattle.query_parser.specs.declared.fault.QueryFault.{QueryFault}
use Rattle.query_parser.specs.declared.fault.QueryFault.TheVariants as query
use Rattle.query_parser.specs.Tested.{HasTestedFault, IsTestedText}
use Rattle.spanner_model.specs.Tested.{TestedTree, tested_of}
use Rattle.query_parser.specs.TestedAnswers.{IsTestedAnswer}
use Rattle.spanner_model.specs.Passing.{Known}
use Rattle.query_parser.specs.Binding.{FirstUnknown, HasFaultUnder, of_text, unknown_test}

-- want of memory, or a fault of a text that is none of a query
memory_or : (e : QueryFault) → (e ≡ query.OutOfMemory) ⊎ ((t : TestedTree) → IsTestedAnswer (Err e) (Ok t) → ⊥)
memory_or query.OutOfMemory = inl refl
memory_or (query.Formula x) = inr (λ t a. absurd (cc))
memory_or (query.Check x) = inr (λ t a. absurd (cc))
memory_or (query.Unexpected x) = inr (λ t a. absurd (cc))
memory_or (query.UnknownName x) = inr (λ t a. absurd (cc))
memory_or (query.NameTwice x) = inr (λ t a. absurd (cc))
memory_or (query.NameTooLong x) = inr (λ t a. absurd (cc))
memory_or (query.UnknownVariable x) = inr (λ t a. absurd (cc))
memory_or query.TooManyVariables = inr (λ t a. absurd (cc))
memory_or query.TooLong = inr (λ t a. absurd (cc))
memory_or (query.TooDeep x) = inr (λ t a. absurd (cc))
memory_or (query.JoinUnsure x) = inr (λ t a. absurd (cc))
memory_or (query.UnknownTest x) = inr (λ t a. absurd (cc))
memory_or (query.TestVariable x) = inr (λ t a. absurd (cc))
memory_or (query.MinusVariables x) = inr (λ t a. absurd (cc))

-- a text that is not read
pub refused_text : (k : Known) (text : List ℕ) (e : QueryFault) → (e ≡ query.OutOfMemory) ⊎ HasTestedFault text e → ((t : TestedTree) → IsTestedText text t → IsTestedAnswer (Err e) (Ok t)) →
    (e ≡ query.OutOfMemory) ⊎ HasFaultUnder k text e
refused_text k text e (inl m) only = inl m
refused_text k text e (inr has) only = elim (memory_or e) [
  | inl m ↦ inl m
  | inr none ↦ inr (of_text has (λ t spelled. none t (only t spelled)))
]

-- the query of a text is the one that was read
pub only_of : (text : List ℕ) (t : Tested) → ((other : TestedTree) → IsTestedText text other → IsTestedAnswer (Ok t) (Ok other)) → (other : TestedTree) → IsTestedText text other → other ≡ tested_of t
only_of text t only other spelled = let e = only other spelled in cc

-- a test that is not known
pub refused_unknown : (k : Known) (text : List ℕ) (e : QueryFault) (t : TestedTree) → IsTestedText text t → ((other : TestedTree) → IsTestedText text other → other ≡ t) →
    ((at : ℕ) × FirstUnknown k t.asked at × (e ≡ query.UnknownTest at)) → (e ≡ query.OutOfMemory) ⊎ HasFaultUnder k text e
refused_unknown k text e t spelled only (at, first, is) = inr (subst (HasFaultUnder k text) (sym is) (unknown_test spelled only first))
