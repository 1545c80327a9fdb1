-- Turns of the code, and what the code answers.
use Rattle.std.proofs.Common.{◌≡◌, ℕ, ◌+◌, ◌<◌, ◌≤◌, Bool, true, false, List, ◌∷◌, length, drop, length-drop, length-append, Result, Ok, Err, sym, subst, ap, arith, refl, IfOk, IfErr, ◌⊎◌, inl, inr}
use Rattle.std.specs.Str.{IsUtf8, IsValidUpTo}
use Rattle.spanner_model.specs.View.{tree_of, atom_of}
use Rattle.spanner_model.specs.declared.formula.Atom.{Atom}
use Rattle.spanner_model.specs.Expression.{AtomTree}
use Rattle.formula_parser.specs.declared.fault.FormulaFault.{FormulaFault}
use Rattle.formula_parser.specs.declared.fault.FormulaFault.TheVariants.{OutOfMemory, NotUtf8}
use Rattle.formula_parser.specs.Alphabet.{Alphabet, of_bytes, of_characters}
use Rattle.formula_parser.specs.Dialect.{Dialect, plain_bytes, with_characters, alphabet_of, Speaks}
use Rattle.formula_parser.specs.Nest.{Nest, outermost}
use Rattle.formula_parser.specs.Step.{Body, goes, step, is_tied, start_at, Reading, Ends}
use Rattle.formula_parser.specs.Signs.{HasSign, HasNoSign}
use Rattle.formula_parser.specs.Spells.{IsAtomOver, IsAtomAt, over_bytes}
use Rattle.formula_parser.specs.Faults as faults
use Rattle.formula_parser.specs.Faults.{HasFaultOver, HasFault}
use Rattle.formula_parser.specs.Laws.{HasOneTree, HasNoTreeWithFault}
use Rattle.formula_parser.specs.AtomView.{Answers}
use Rattle.formula_parser.specs.Turn.{IsStep, AnswersBody}
use Rattle.formula_parser.proofs.HeadLaws.{byte_front}
use Rattle.formula_parser.proofs.FaultLaws.{plain_start, tied_start}
use Rattle.formula_parser.proofs.FaultsMet.{ends_fault}
use Rattle.formula_parser.proofs.GrammarLaws.{ends_atom}
use Rattle.formula_parser.proofs.EachText.{IsWithin, within_here}
use Rattle.formula_parser.proofs.TheTrees.{the_trees, the_trees_are}

-- there is a reader of each alphabet
pub some_dialect : (alphabet : Alphabet) → (lang : Dialect) × Speaks lang × (alphabet_of lang ≡ alphabet)
some_dialect of_bytes = (plain_bytes, tt, refl)
some_dialect of_characters = (with_characters the_trees, the_trees_are, refl)

-- a step takes a byte or more, and no more than there are
pub takes_within : (lang : Dialect) → Speaks lang → (at : ℕ) (rest : List ℕ) (n m : Nest) (len : ℕ) → step lang at rest n ≡ goes len m → (0 < len) × (len ≤ length rest)
takes_within lang speaks at rest n m len is = subst (IsWithin (length rest)) is (within_here lang speaks at rest n)

-- a fault of the code's turn is the answer
fails : (lang : Dialect) (e : FormulaFault) (at : ℕ) (text : List ℕ) (n m : Nest) (P : Result (Body × ℕ) FormulaFault → Type 0) →
    IsStep (Err e) (step lang at text n) m → ((r : Result (Body × ℕ) FormulaFault) → Ends lang at text n r → P r) → AnswersBody (Err e) P
fails lang OutOfMemory at text n m P is next = tt
fails lang e at text n m P is next = next (Err e) (0, is)

pub fails_on : (lang : Dialect) (e : FormulaFault) (at : ℕ) (text rest : List ℕ) (n m : Nest) (P : Result (Body × ℕ) FormulaFault → Type 0) →
    rest ≡ drop at text →
    IsStep (Err e) (step lang at rest n) m → ((r : Result (Body × ℕ) FormulaFault) → Ends lang at (drop at text) n r → P r) → AnswersBody (Err e) P
fails_on lang e at text rest n m P from is next = fails lang e at (drop at text) n m P (rw (← from) is) next

-- the formula begins within the text
pub start_within : (text : List ℕ) (from : ℕ) → from < length text → start_at text from ≤ length text
start_within text from some = by (is_tied text from) refl
  where
    by : (b : Bool) → is_tied text from ≡ b → start_at text from ≤ length text
    by false e = rw (← plain_start text from e) (omega arith)
    by true e =
        let front = byte_front 94 (drop (from + 1) text) e in
        rw (← tied_start text from e) (omega (arith, length-drop (from + 1) text, ap length front.1))

-- what is read on from the formula's start, where nothing is open, is the reading of the atom
pub reads_from_start : (lang : Dialect) (text : List ℕ) (from at : ℕ) (n : Nest) (r : Result (Atom × ℕ) FormulaFault) → at ≡ start_at text from → n ≡ outermost from →
    AnswersBody r (Ends lang at (drop at text) n) → AnswersBody r (Reading lang text from)
reads_from_start lang text from at n r here empty ends =
    rw here at (rw empty at ends)

-- what the code returns, over one alphabet
pub answer_found : (lang : Dialect) → Speaks lang → (text : List ℕ) (from : ℕ) (r : Result (Atom × ℕ) FormulaFault) → AnswersBody r (Reading lang text from) →
    IfOk r (λ x. x.0.from_start ≡ is_tied text from) → IfOk r (λ x. IsAtomOver (alphabet_of lang) text from (atom_of x.0, x.1))
answer_found lang speaks text from (Ok x) h tied =
    let atom : Bool → AtomTree = λ b. record { from_start = b; to_end = x.0.to_end; formula = tree_of x.0.formula } in
    subst (λ b. IsAtomOver (alphabet_of lang) text from (atom b, x.1)) (sym tied) (ends_atom lang speaks text from ((tree_of x.0.formula, x.0.to_end), x.1) h)
answer_found lang speaks text from (Err e) h tied = tt

pub answer_fault : (lang : Dialect) → Speaks lang → (text : List ℕ) (from : ℕ) (r : Result (Atom × ℕ) FormulaFault) → AnswersBody r (Reading lang text from) →
    IfErr r (λ e. (e ≡ OutOfMemory) ⊎ HasFaultOver (alphabet_of lang) text from e)
answer_fault lang speaks text from (Ok y) h = tt
answer_fault lang speaks text from (Err OutOfMemory) h = inl refl
answer_fault lang speaks text from (Err e) h = inr (ends_fault lang speaks text from e h)

-- it ends within the text
pub ends_within : (alphabet : Alphabet) (text : List ℕ) (from : ℕ) (x : AtomTree × ℕ) → IsAtomOver alphabet text from x → x.1 ≤ length text
ends_within alphabet text from x (u, v, stands, spells, place) =
    omega (arith, place, length-drop (from + 1) text, ap length stands, length-append u (47 ∷ v))

pub answer_within : (alphabet : Alphabet) (text : List ℕ) (from : ℕ) (r : Result (Atom × ℕ) FormulaFault) →
    IfOk r (λ x. IsAtomOver alphabet text from (atom_of x.0, x.1)) → IfOk r (λ x. x.1 ≤ length text)
answer_within alphabet text from (Ok x) found = ends_within alphabet text from (atom_of x.0, x.1) found
answer_within alphabet text from (Err e) found = tt

-- what the whole reader returns
pub byte_answer : (text : List ℕ) (from : ℕ) (r : Result (Atom × ℕ) FormulaFault) → HasNoSign text from →
    IfOk r (λ x. IsAtomOver of_bytes text from (atom_of x.0, x.1)) → IfOk r (λ x. IsAtomAt text from (atom_of x.0, x.1))
byte_answer text from (Ok x) none is = over_bytes none is
byte_answer text from (Err e) none is = tt

pub byte_fault : (text : List ℕ) (from : ℕ) (r : Result (Atom × ℕ) FormulaFault) → HasNoSign text from →
    IfErr r (λ e. (e ≡ OutOfMemory) ⊎ HasFaultOver of_bytes text from e) → IfErr r (λ e. (e ≡ OutOfMemory) ⊎ HasFault text from e)
byte_fault text from (Ok x) none is = tt
byte_fault text from (Err e) none (inl memory) = inl memory
byte_fault text from (Err e) none (inr fault) = inr (faults.over_bytes none fault)

pub character_fault : (text : List ℕ) (from : ℕ) (u : List ℕ) (e : FormulaFault) → HasSign text from u → IsUtf8 u →
    (e ≡ OutOfMemory) ⊎ HasFaultOver of_characters text from e → (e ≡ OutOfMemory) ⊎ HasFault text from e
character_fault text from u e sign is (inl memory) = inl memory
character_fault text from u e sign is (inr fault) = inr (faults.over_characters sign is fault)

pub not_utf8_fault : (text : List ℕ) (from : ℕ) (u between : List ℕ) (n m : ℕ) → HasSign text from u → between ≡ u → IsValidUpTo between n → m ≡ n →
    HasFault text from (NotUtf8 (from + 1 + m))
not_utf8_fault text from u between n m sign is valid same =
    subst (λ k. HasFault text from (NotUtf8 (from + 1 + k))) (sym same) (faults.not_utf8 sign (subst (λ t. IsValidUpTo t n) is valid))

-- nothing else is answered
pub answer_only : HasOneTree → HasNoTreeWithFault → (text : List ℕ) (from : ℕ) (r : Result (Atom × ℕ) FormulaFault) →
    IfOk r (λ x. IsAtomAt text from (atom_of x.0, x.1)) → IfErr r (λ e. (e ≡ OutOfMemory) ⊎ HasFault text from e) →
    (x : AtomTree × ℕ) → IsAtomAt text from x → Answers r (λ s. s ≡ Ok x)
answer_only one none text from (Ok y) found fault x is = ap Ok (one text from (atom_of y.0, y.1) x found is)
answer_only one none text from (Err OutOfMemory) found fault x is = tt
answer_only one none text from (Err e) found (inl memory) x is = absurd (cc)
answer_only one none text from (Err e) found (inr fault) x is = absurd (none text from x e is fault)
