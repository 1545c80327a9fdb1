-- What the answers of the queries' reader, and of the look for the tests, tell.
use Rattle.std.proofs.Common.{◌≡◌, ◌⊎◌, List, [], ◌∷◌, ℕ, Result, Ok, Err, inl, inr, refl, sym, ◌∙◌, subst}
use Rattle.spanner_model.specs.declared.tested.Asked.{Asked}
use Rattle.spanner_model.specs.declared.tested.Tested.{Tested}
use Rattle.query_parser.specs.declared.fault.QueryFault.{QueryFault}
use Rattle.query_parser.specs.declared.fault.QueryFault.TheVariants.{Formula, Check, Unexpected, UnknownName, NameTwice, NameTooLong, UnknownVariable, TooManyVariables, TooLong, TooDeep, OutOfMemory, JoinUnsure, UnknownTest, TestVariable, MinusVariables}
use Rattle.query_parser.specs.Tested.{HasTestedFault, IsTestedText}
use Rattle.spanner_model.specs.Tested.{TestedTree, tested_of}
use Rattle.query_parser.specs.TestedAnswers.{IsTestedAnswer}
use Rattle.spanner_model.specs.Passing.{AreKnown, Known}
use Rattle.query_parser.specs.Binding.{FirstUnknown, HasFaultUnder, IsOnlyTested, of_text, unknown_test}
use Rattle.rematch_program.specs.Run.{IsOnlyFault}

abbrev is_query : TestedTree → Result TestedTree QueryFault
is_query t = Ok t

abbrev is_fault : QueryFault → Result TestedTree QueryFault
is_fault e = Err e

same_query : (t u : TestedTree) → is_query t ≡ is_query u → t ≡ u
same_query t u e = cc

-- an answer that is a fault other than want of memory
answer_is : (e : QueryFault) (r : Result TestedTree QueryFault) → ¬ (e ≡ OutOfMemory) → IsTestedAnswer (Err e) r → r ≡ Err e
answer_is OutOfMemory r other h = absurd (other refl)
answer_is (Formula f) r other h = h
answer_is (Check f) r other h = h
answer_is (Unexpected at) r other h = h
answer_is (UnknownName at) r other h = h
answer_is (NameTwice at) r other h = h
answer_is (NameTooLong at) r other h = h
answer_is (JoinUnsure x) r other h = h
answer_is (UnknownTest x) r other h = h
answer_is (TestVariable x) r other h = h
answer_is (MinusVariables x) r other h = h
answer_is (UnknownVariable x) r other h = h
answer_is TooManyVariables r other h = h
answer_is TooLong r other h = h
answer_is (TooDeep at) r other h = h

same_fault : (e d : QueryFault) → is_fault e ≡ is_fault d → e ≡ d
same_fault e d is = cc

not_both : (t : TestedTree) (e : QueryFault) → is_query t ≡ is_fault e → ⊥
not_both t e is = absurd (cc)

-- the first test that is not known, of which there is one
first_one : (k : Known) (asked : List Asked) (a b : ℕ) → FirstUnknown k asked a → FirstUnknown k asked b → a ≡ b
first_one k [] a b h g = absurd h
first_one k (x ∷ asked) a b (inl h) (inl g) = sym h.1 ∙ g.1
first_one k (x ∷ asked) a b (inl h) (inr g) = absurd (h.0 g.0)
first_one k (x ∷ asked) a b (inr h) (inl g) = absurd (g.0 h.0)
first_one k (x ∷ asked) a b (inr h) (inr g) = first_one k asked a b h.1 g.1

not_all : (k : Known) (asked : List Asked) (a : ℕ) → FirstUnknown k asked a → ¬ AreKnown k asked
not_all k [] a h all = h
not_all k (x ∷ asked) a (inl h) all = h.0 (all x (inl refl))
not_all k (x ∷ asked) a (inr h) all = not_all k asked a h.1 (λ y has. all y (inr has))

same_unknown : (a b : ℕ) → a ≡ b → UnknownTest a ≡ UnknownTest b
same_unknown a b e = cc

-- the reader found the query
module _ (k : Known) (text : List ℕ) (tested : Tested) (found : IsTestedText text (tested_of tested)) (only : (t : TestedTree) → IsTestedText text t → IsTestedAnswer (Ok tested) (Ok t)) where
  one_query : (other : TestedTree) → IsTestedText text other → other ≡ tested_of tested
  one_query other h = same_query other (tested_of tested) (only other h)

  pub only_tested : AreKnown k tested.asked → IsOnlyTested k text (tested_of tested)
  only_tested all = record { spelled = found; only = one_query; tests_known = all }

  -- of which some test is not known
  module _ (at : ℕ) (first : FirstUnknown k tested.asked at) where
    one_fault : (other : QueryFault) → HasFaultUnder k text other → other ≡ UnknownTest at
    one_fault _ (of_text has none) = absurd (none (tested_of tested) found)
    one_fault _ (unknown_test {t = t} {at = there} spelled alone h) =
        let same : t ≡ tested_of tested = one_query t spelled in
        same_unknown there at (first_one k tested.asked there at (rw same at h) first)

    pub unknown_fault : IsOnlyFault k text (UnknownTest at)
    unknown_fault = record {
      found = unknown_test found one_query first;
      only = one_fault;
      unsound = λ t spelled. subst (λ (u : TestedTree). ¬ AreKnown k u.asked) (sym (one_query t spelled)) (not_all k tested.asked at first);
    }

-- the reader refused the text
module _ (k : Known) (text : List ℕ) (e : QueryFault) (other : ¬ (e ≡ OutOfMemory)) (found : (e ≡ OutOfMemory) ⊎ HasTestedFault text e)
    (queries : (t : TestedTree) → IsTestedText text t → IsTestedAnswer (Err e) (Ok t))
    (faults : (d : QueryFault) → HasTestedFault text d → IsTestedAnswer (Err e) (Err d)) where
  no_query : (t : TestedTree) → ¬ IsTestedText text t
  no_query t h = not_both t e (answer_is e (Ok t) other (queries t h))

  text_fault : (d : QueryFault) → HasFaultUnder k text d → d ≡ e
  text_fault d (of_text has none) = same_fault d e (answer_is e (Err d) other (faults d has))
  text_fault _ (unknown_test {t = t} spelled alone h) = absurd (no_query t spelled)

  pub only_fault : IsOnlyFault k text e
  only_fault = record {
    found = elim found [ inl memory ↦ absurd (other memory) | inr fault ↦ of_text fault no_query ];
    only = text_fault;
    unsound = λ t h. absurd (no_query t h);
  }
