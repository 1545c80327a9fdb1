-- What follows from an answer that is the text's.
use Rattle.std.proofs.Common.{◌≡◌, ◌≤◌, ◌⊎◌, ℕ, inl, inr, Bool, true, false, List, length, Option, Some, None, Result, Ok, Err, refl, sym, ap, ◌∙◌, subst}
use Rattle.std.specs.Prelude.{IfOk, IfErr}
use Rattle.std.specs.Option.{IsSomeAnd}
use Rattle.spanner_model.specs.declared.query.Query.{Query}
use Rattle.spanner_model.specs.Captures.{VarName}
use Rattle.spanner_model.specs.Expression.{ExprTree, QueryTree, atom, named, union_end, union, join_end, join, project, minus}
use Rattle.spanner_model.specs.ExprView.{query_of}
use Rattle.spanner_model.specs.Answer.{vars_of_lets}
use Rattle.formula_parser.specs.declared.fault.FormulaFault.TheVariants as formula_fault
use Rattle.formula_parser.proofs.AtomLaws.{fault_memory}
use Rattle.query_parser.specs.Nest.{outermost}
use Rattle.query_parser.specs.Step.{EndsReading}
use Rattle.query_parser.specs.Turn.{AnswersBody}
use Rattle.query_parser.specs.Reads.{start_read}
use Rattle.query_parser.proofs.FaultLaws.{ends_fault, ends_kept}
use Rattle.query_parser.specs.Spells.{SpellsQuery}
use Rattle.query_parser.specs.Formed.{IsFormedQuery, PassesQuery}
use Rattle.query_parser.proofs.SoundQuery.{query_formed, sound_query}
use Rattle.formula_parser.proofs.BuiltLaws.{IsText}
use Rattle.span_core.specs.declared.TheConstants.{MOST_VARIABLES}
use Rattle.span_core.specs.Lists.{AtMost}
use Rattle.spanner_model.specs.Sound.{IsSound, NameOf, sure_of_lets}
use Rattle.query_parser.proofs.TextLaws.{Answer, ends_spelled}
use Rattle.query_parser.specs.declared.TheConstants.{MOST_TEXT_BYTES}
use Rattle.query_parser.specs.declared.fault.QueryFault.{QueryFault}
use Rattle.query_parser.specs.declared.fault.QueryFault.TheVariants.{Formula, Check, Unexpected, UnknownName, NameTwice, NameTooLong, JoinUnsure, UnknownVariable, TooManyVariables, TooLong, TooDeep, OutOfMemory, UnknownTest, TestVariable, MinusVariables}
use Rattle.query_parser.specs.Reads.{Refusal, unexpected, name_too_long, name_twice, unknown_name, too_deep}
use Rattle.query_parser.specs.TreeFaults.{OwnFault, InnerFault, IsExprFault, IsFaultUnder, IsTreeFault}
use Rattle.query_parser.specs.Faults.{refused, IsReadFault, bad_atom, atom_out_of_place, token_refused, no_token, not_whole, HasFault, too_long, unreadable, too_many_kept, too_many_captured, not_sound, IsQueryText}
use Rattle.query_parser.specs.Answers.{IsQueryAnswer, IsRead}
use Rattle.query_parser.proofs.GrammarLaws.{one_query}
use Rattle.query_parser.proofs.QueryLaws.{no_query_with_fault, one_fault}

-- the fault of an atom that is want of memory
abbrev pub memory_fault : QueryFault
memory_fault = Formula formula_fault.OutOfMemory

pub refused_memory : (why : Refusal) (p : ℕ) → refused why p ≡ memory_fault → ⊥
refused_memory unexpected p e = absurd (cc)
refused_memory name_too_long p e = absurd (cc)
refused_memory name_twice p e = absurd (cc)
refused_memory unknown_name p e = absurd (cc)
refused_memory too_deep p e = absurd (cc)

pub read_memory : {text : List ℕ} {e : QueryFault} → IsReadFault text e → e ≡ memory_fault → ⊥
read_memory (bad_atom {e = f} r at w fault) e = fault_memory fault (let same : f ≡ formula_fault.OutOfMemory = cc in same)
read_memory (atom_out_of_place r at w) e = absurd (cc)
read_memory (token_refused {p = p} {why = why} r at is) e = refused_memory why p e
read_memory (no_token r at s) e = absurd (cc)
read_memory (not_whole r at w) e = absurd (cc)

module _ (V S : ℕ → VarName → Type 0) where
  own_memory : (e : ExprTree) → OwnFault V S e memory_fault → ⊥
  own_memory (atom a) h = h
  own_memory (named k) h = h
  own_memory union_end h = h
  own_memory (union e rest) h = h
  own_memory join_end h = h
  own_memory (join e rest) h = h
  own_memory (project names e) h = h
  own_memory (minus e g) h = h

  over_memory : (e : ExprTree) → (InnerFault V S e memory_fault → ⊥) → IsExprFault V S e memory_fault → ⊥
  over_memory e inside (inl i) = inside i
  over_memory e inside (inr o) = own_memory e o.1

  inner_memory : (e : ExprTree) → InnerFault V S e memory_fault → ⊥
  inner_memory (union e rest) (inl f) = over_memory e (inner_memory e) f
  inner_memory (union e rest) (inr i) = inner_memory rest i.1
  inner_memory (join e rest) (inl f) = over_memory e (inner_memory e) f
  inner_memory (join e rest) (inr i) = inner_memory rest i.1
  inner_memory (project names e) f = over_memory e (inner_memory e) f
  inner_memory (minus e g) (inl f) = over_memory e (inner_memory e) f
  inner_memory (minus e g) (inr f) = over_memory g (inner_memory g) f.1
  inner_memory (atom a) i = i
  inner_memory (named k) i = i
  inner_memory union_end i = i
  inner_memory join_end i = i

  expr_memory : (e : ExprTree) → IsExprFault V S e memory_fault → ⊥
  expr_memory e = over_memory e (inner_memory e)

let_memory : (lets : List (VarName × ExprTree)) (k : ℕ) (found : Option (VarName × ExprTree)) → IsSomeAnd found (λ (l : VarName × ExprTree). IsFaultUnder lets k l.1 memory_fault) → ⊥
let_memory lets k None f = f
let_memory lets k (Some l) f = expr_memory (vars_of_lets lets k) (sure_of_lets lets k) l.1 f

pub tree_memory : (q : QueryTree) → IsTreeFault q memory_fault → ⊥
tree_memory q (inl (k, before, f)) = let_memory q.lets k _ f
tree_memory q (inr (lets, f)) = expr_memory (vars_of_lets q.lets (length q.lets)) (sure_of_lets q.lets (length q.lets)) q.body f

-- no text has want of memory of an atom for its fault
pub never_memory : {text : List ℕ} {e : QueryFault} → HasFault text e → e ≡ memory_fault → ⊥
never_memory (too_long h) e = absurd (cc)
never_memory (unreadable h f) e = read_memory f e
never_memory (too_many_kept h k) e = absurd (cc)
never_memory (too_many_captured h s m) e = absurd (cc)
never_memory (not_sound {q = q} h s r f) e = tree_memory q (subst (IsTreeFault q) e f)

-- ---- the clauses of the public call

pub read_found : (text : List ℕ) (r : Result Query QueryFault) → IsRead text r → IfOk r (λ q. IsQueryText text (query_of q))
read_found text (Ok q) h = h
read_found text (Err e) h = tt

pub read_fault : (text : List ℕ) (r : Result Query QueryFault) → IsRead text r → IfErr r (λ e. (e ≡ OutOfMemory) ⊎ HasFault text e)
read_fault text (Ok q) h = tt
read_fault text (Err e) h = h

pub read_never : (text : List ℕ) (r : Result Query QueryFault) → IsRead text r → IfErr r (λ e. ¬ (e ≡ memory_fault))
read_never text (Ok q) h = tt
read_never text (Err e) (inl is) = λ same. out (sym is ∙ same)
  where
    out : OutOfMemory ≡ memory_fault → ⊥
    out e = absurd (cc)
read_never text (Err e) (inr f) = never_memory f

-- a fault that is answered
answer_err : (e : QueryFault) (r : Result QueryTree QueryFault) → r ≡ Err e → IsQueryAnswer (Err e) r
answer_err OutOfMemory r h = tt
answer_err (Formula x) r h = h
answer_err (Check x) r h = h
answer_err (Unexpected x) r h = h
answer_err (UnknownName x) r h = h
answer_err (NameTwice x) r h = h
answer_err (NameTooLong x) r h = h
answer_err (JoinUnsure x) r h = h
answer_err (UnknownVariable x) r h = h
answer_err TooManyVariables r h = h
answer_err TooLong r h = h
answer_err (TooDeep x) r h = h
answer_err (UnknownTest x) r h = h
answer_err (TestVariable x) r h = h
answer_err (MinusVariables x) r h = h

answer_memory : (e : QueryFault) (r : Result QueryTree QueryFault) → e ≡ OutOfMemory → IsQueryAnswer (Err e) r
answer_memory e r is = rw is tt

pub read_only : (text : List ℕ) (r : Result Query QueryFault) → IsRead text r → (q : QueryTree) → IsQueryText text q → IsQueryAnswer r (Ok q)
read_only text (Ok p) h q is = ap (λ (t : QueryTree). Ok t) (one_query text q (query_of p) is.1 h.1)
read_only text (Err e) (inl m) q is = answer_memory e (Ok q) m
read_only text (Err e) (inr f) q is = absurd (no_query_with_fault text q e is f)

pub read_only_fault : (text : List ℕ) (r : Result Query QueryFault) → IsRead text r → (e : QueryFault) → HasFault text e → IsQueryAnswer r (Err e)
read_only_fault text (Ok q) h e f = absurd (no_query_with_fault text (query_of q) e h f)
read_only_fault text (Err d) (inl m) e f = answer_memory d (Err e) m
read_only_fault text (Err d) (inr g) e f = answer_err d (Err e) (ap (λ (x : QueryFault). Err x) (one_fault text e d f g))

-- ---- the stages

answers_err : (e : QueryFault) (P : Answer → Type 0) → AnswersBody (Err e) P → (e ≡ OutOfMemory) ⊎ P (Err e)
answers_err OutOfMemory P h = inl refl
answers_err (Formula x) P h = inr h
answers_err (Check x) P h = inr h
answers_err (Unexpected x) P h = inr h
answers_err (UnknownName x) P h = inr h
answers_err (NameTwice x) P h = inr h
answers_err (NameTooLong x) P h = inr h
answers_err (JoinUnsure x) P h = inr h
answers_err (UnknownVariable x) P h = inr h
answers_err TooManyVariables P h = inr h
answers_err TooLong P h = inr h
answers_err (TooDeep x) P h = inr h
answers_err (UnknownTest x) P h = inr h
answers_err (TestVariable x) P h = inr h
answers_err (MinusVariables x) P h = inr h

-- reading met a fault
pub read_stopped : (text : List ℕ) (e : QueryFault) → length text ≤ MOST_TEXT_BYTES → AnswersBody (Err e) (EndsReading text 0 outermost) → IsRead text (Err e)
read_stopped text e short h = elim (answers_err e (EndsReading text 0 outermost) h) [
  | inl is ↦ inl is
  | inr (steps, ends) ↦ inr (unreadable short (ends_fault steps text 0 outermost e start_read ends))
]

-- reading met the end, and a projection keeps too many names
pub kept_fault : (text : List ℕ) (q : QueryTree) (many : Bool) → length text ≤ MOST_TEXT_BYTES → EndsReading text 0 outermost (Ok (q, many)) → many ≡ true → IsRead text (Err TooManyVariables)
kept_fault text q false short ends is = absurd (cc)
kept_fault text q true short ends is = inr (too_many_kept short (ends_kept text q ends))

-- reading met the end, and no projection does
pub kept_spelled : (text : List ℕ) (q : QueryTree) (many : Bool) → EndsReading text 0 outermost (Ok (q, many)) → many ≡ false → SpellsQuery text q
kept_spelled text q true ends is = absurd (cc)
kept_spelled text q false ends is = ends_spelled text q ends

-- its names are not few
pub checked_many : (text : List ℕ) (q : QueryTree) → length text ≤ MOST_TEXT_BYTES → SpellsQuery text q → ¬ AtMost MOST_VARIABLES (NameOf q) → IsRead text (Err TooManyVariables)
checked_many text q short spelled many = inr (too_many_captured {q = q} short spelled many)

pub checked_formed : (text : List ℕ) (q : QueryTree) → IsText text → SpellsQuery text q → IsFormedQuery q
checked_formed text q bytes (ts, has, spelled) = query_formed text ts q bytes has spelled

pub checked_sound : (text : List ℕ) (q : QueryTree) → IsText text → SpellsQuery text q → PassesQuery q → AtMost MOST_VARIABLES (NameOf q) → IsSound q
checked_sound text q bytes (ts, has, spelled) passes few = sound_query text ts q bytes has spelled passes few

pub checked_fault : (text : List ℕ) (q : QueryTree) (e : QueryFault) → length text ≤ MOST_TEXT_BYTES → SpellsQuery text q →
    AtMost MOST_VARIABLES (NameOf q) → (e ≡ OutOfMemory) ⊎ IsTreeFault q e → IsRead text (Err e)
checked_fault text q e short spelled few (inl is) = inl is
checked_fault text q e short spelled few (inr f) = inr (not_sound {q = q} short spelled few f)
