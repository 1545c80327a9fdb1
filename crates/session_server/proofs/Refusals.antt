-- Why a session was not opened.
use Rattle.std.proofs.Common.{◌≡◌, ◌⊎◌, inl, inr, List, [], ◌∷◌, length, ℕ, Ok, Err, sym, subst, refl}
use Rattle.std.specs.Prelude.{Result, IfOk}
use Rattle.std.specs.Str.{IsUtf8}
use Rattle.spanner_model.specs.Captures.{VarName}
use Rattle.spanner_model.specs.Expression.{QueryTree}
use Rattle.query_parser.specs.declared.fault.QueryFault.{QueryFault}
use Rattle.query_parser.specs.declared.fault.QueryFault.TheVariants as query
use Rattle.query_parser.specs.Tested.{HasTestedFault, IsTestedText}
use Rattle.spanner_model.specs.Tested.{TestedTree}
use Rattle.query_parser.specs.TestedAnswers.{IsTestedAnswer}
use Rattle.marked_automaton.specs.declared.fault.SizeFault.{SizeFault}
use Rattle.marked_automaton.specs.declared.fault.SizeFault.TheVariants as size
use Rattle.query_automaton.specs.Parts.{AtomsAreSmall, HasLargePart}
use Rattle.spanner_model.specs.Passing.{Known}
use Rattle.query_parser.specs.Binding.{FirstUnknown, HasFaultUnder, of_text, unknown_test, IsOnlyTested}
use Rattle.session_server.specs.declared.TheConstants.{SESSION_TABLE}
use Rattle.session_server.specs.declared.session.Ready.{Ready}
use Rattle.note_texts.specs.declared.refusals.Refusal.{Refusal}
use Rattle.note_texts.specs.declared.refusals.Refusal.TheVariants.{Note, OutOfMemory}
use Rattle.note_texts.specs.Notes.{fault_note, size_note, table_note}
use Rattle.session_server.specs.Replies.{IsHeavy, by_states, by_table, by_ways, by_text, by_size}
use Rattle.note_texts.specs.Refusals.{MatchNote}
use Rattle.session_server.specs.Standing.{IsRefusal, IsTooHeavy}

-- a fault of a text
pub refused_by : (k : Known) (text document : List ℕ) (r : Refusal) (fault : QueryFault) → MatchNote r (fault_note fault) → HasFaultUnder k text fault → IsRefusal k text document r
refused_by k text document (Note note) fault is has = (by_text fault has is.0, subst IsUtf8 (sym is.0) is.1)
refused_by k text document OutOfMemory fault is has = tt

-- want of memory, or a fault of a text that is none of a query
memory_or : (e : QueryFault) → (e ≡ query.OutOfMemory) ⊎ ((t : TestedTree) → IsTestedAnswer (Err e) (Ok t) → ⊥)
memory_or query.OutOfMemory = inl refl
memory_or (query.Formula x) = inr (λ t a. absurd (cc))
memory_or (query.Check x) = inr (λ t a. absurd (cc))
memory_or (query.Unexpected x) = inr (λ t a. absurd (cc))
memory_or (query.UnknownName x) = inr (λ t a. absurd (cc))
memory_or (query.NameTwice x) = inr (λ t a. absurd (cc))
memory_or (query.NameTooLong x) = inr (λ t a. absurd (cc))
memory_or (query.UnknownVariable x) = inr (λ t a. absurd (cc))
memory_or query.TooManyVariables = inr (λ t a. absurd (cc))
memory_or query.TooLong = inr (λ t a. absurd (cc))
memory_or (query.TooDeep x) = inr (λ t a. absurd (cc))
memory_or (query.JoinUnsure x) = inr (λ t a. absurd (cc))
memory_or (query.UnknownTest x) = inr (λ t a. absurd (cc))
memory_or (query.TestVariable x) = inr (λ t a. absurd (cc))
memory_or (query.MinusVariables x) = inr (λ t a. absurd (cc))

by_memory : (k : Known) (text document : List ℕ) (r : Refusal) → r ≡ OutOfMemory → IsRefusal k text document r
by_memory k text document r is = subst (IsRefusal k text document) (sym is) tt

pub refused_text : (k : Known) (text document : List ℕ) (r : Refusal) (e : QueryFault) → (e ≡ query.OutOfMemory) ⊎ HasTestedFault text e →
    ((t : TestedTree) → IsTestedText text t → IsTestedAnswer (Err e) (Ok t)) → MatchNote r (fault_note e) → (e ≡ query.OutOfMemory → r ≡ OutOfMemory) → IsRefusal k text document r
refused_text k text document r e (inl m) only is memory = by_memory k text document r (memory m)
refused_text k text document r e (inr has) only is memory = elim (memory_or e) [
  | inl m ↦ by_memory k text document r (memory m)
  | inr none ↦ refused_by k text document r e is (of_text has (λ t spelled. none t (only t spelled)))
]

pub refused_unknown : (k : Known) (text document : List ℕ) (r : Refusal) (e : QueryFault) (t : TestedTree) → IsTestedText text t → ((other : TestedTree) → IsTestedText text other → other ≡ t) →
    ((at : ℕ) × FirstUnknown k t.asked at × (e ≡ query.UnknownTest at)) → MatchNote r (fault_note e) → IsRefusal k text document r
refused_unknown k text document r e t spelled only (at, first, is) note =
    refused_by k text document r e note (subst (HasFaultUnder k text) (sym is) (unknown_test spelled only first))

pub refused_size : (k : Known) (text document : List ℕ) (t : TestedTree) (r : Refusal) → IsOnlyTested k text t → IsTooHeavy t.query document r → IsRefusal k text document r
refused_size k text document t (Note note) only heavy = (by_size t only heavy.0, heavy.1)
refused_size k text document t OutOfMemory only heavy = tt

pub heavy_by : (q : QueryTree) (document : List ℕ) (r : Refusal) (e : SizeFault) → HasLargePart q e → MatchNote r (size_note e) → (e ≡ size.OutOfMemory → r ≡ OutOfMemory) → IsTooHeavy q document r
heavy_by q document (Note note) (size.States n) large is memory = (by_states n large is.0, subst IsUtf8 (sym is.0) is.1)
heavy_by q document (Note note) (size.Ways n) large is memory = (by_ways n large is.0, subst IsUtf8 (sym is.0) is.1)
heavy_by q document (Note note) size.OutOfMemory large is memory = let e = memory refl in absurd (cc)
heavy_by q document OutOfMemory e large is memory = tt

pub heavy_table : (q : QueryTree) (document : List ℕ) (r : Refusal) → AtomsAreSmall q → IsHeavy q document (length document ∷ []) → MatchNote r (table_note SESSION_TABLE) → IsTooHeavy q document r
heavy_table q document (Note note) small heavy is = (by_table small heavy is.0, subst IsUtf8 (sym is.0) is.1)
heavy_table q document OutOfMemory small heavy is = tt

-- what is true of the names of a result
pub ok_under : {E : Type 0} (r : Result Ready E) (names : List VarName) (P : List VarName → Type 0) → P names → IfOk r (λ b. b.vars ≡ names) → IfOk r (λ b. P b.vars)
ok_under (Ok b) names P p is = subst P (sym is) p
ok_under (Err e) names P p is = tt
