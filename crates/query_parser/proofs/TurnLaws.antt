-- Turns of the code.
use Rattle.std.proofs.Common.{◌≡◌, inl, inr, ℕ, zero, ◌+◌, ◌<◌, ◌≤◌, Bool, true, List, [], ◌∷◌, length, drop, length-drop, length-append, Result, Ok, Err, ap, sym, ◌∙◌, arith, if◌then◌else◌}
use Rattle.spanner_model.specs.declared.query.Query.{Query}
use Rattle.query_parser.specs.declared.fault.QueryFault.{QueryFault}
use Rattle.query_parser.specs.declared.fault.QueryFault.TheVariants.{OutOfMemory}
use Rattle.query_parser.specs.Tokens.{Token, atom_token, TokenAt, atom_at, word_at, sign_at}
use Rattle.spanner_model.specs.Expression.{AtomTree, atom}
use Rattle.query_parser.specs.Reads.{unexpected}
use Rattle.query_parser.specs.Nest.{Nest, move, with_unit, wants_unit}
use Rattle.query_parser.specs.Step.{step, EndsReading}
use Rattle.query_parser.specs.Turn.{IsTurn, IsEnd, AnswersBody}
use Rattle.formula_parser.proofs.AtomLaws.{atom_ends}
use Rattle.query_parser.proofs.TextLaws.{Answer}
use Rattle.query_parser.proofs.StepLaws.{ends_more, ends_atom, Went, went_blank, went_token, went, atom_due}

-- a token takes a byte or more, and no more than there are
pub token_within : {text : List ℕ} {p q : ℕ} {t : Token} → TokenAt text p t q → (p < q) × (q ≤ p + length (drop p text))
token_within {text = text} {p = p} (atom_at {a = a} {q = q} (r, stands) found) =
    let e = atom_ends text p (a, q) found in
    (omega (arith, e.moves), omega (arith, e.moves, e.within, length-drop p text))
token_within {text = text} {p = p} (word_at [] (rest, splits, word, last) is) = absurd (cc)
token_within {text = text} {p = p} (word_at (c ∷ x) (rest, splits, word, last) is) = (omega arith, omega (arith, ap length splits, length-append (c ∷ x) rest))
token_within {text = text} {p = p} (sign_at (rest, stands) is) = (omega arith, omega (arith, ap length stands))

-- what the code read
pub turn_within : (text : List ℕ) (at : ℕ) (n m : Nest) (len : ℕ) → IsTurn (Ok len) text at n m → (0 < len) × (len ≤ length (drop at text))
turn_within text at n m len (inl is) = by (went text at n m len is)
  where
    by : {l : ℕ} {k : Nest} → Went text at n l k → (0 < l) × (l ≤ length (drop at text))
    by (went_blank (c, (rest, stands), b)) = (omega arith, omega (arith, ap length stands))
    by (went_token t is moves) = let w = token_within is in (omega (arith, w.0), omega (arith, w.1))
turn_within text at n m len (inr (is, (a, found, same))) =
    let (stands, wants) = atom_due text at n is in
    let w = token_within (atom_at stands found) in (omega (arith, w.0), omega (arith, w.1))

pub atom_moves : (a : AtomTree) (n : Nest) → wants_unit n.last ≡ true → move (atom_token a) n ≡ Ok (with_unit (atom a) n)
atom_moves a n w = ap (λ b. if b then Ok (with_unit (atom a) n) else Err unexpected) w

-- a turn, and then the others
pub turn_on : (text : List ℕ) (at len : ℕ) (n m : Nest) (r : Answer) → IsTurn (Ok len) text at n m → EndsReading text (at + len) m r → EndsReading text at n r
turn_on text at len n m r (inl is) e = ends_more text at len n m r is e
turn_on text at len n m r (inr (is, (a, found, same))) e =
    ends_atom text at (at + len) a n m r is found (atom_moves a n (atom_due text at n is).1 ∙ ap (λ k. Ok k) (sym same)) e

-- a fault of a turn is the answer
pub turn_fails : (text : List ℕ) (at : ℕ) (n m : Nest) (e : QueryFault) (P : Answer → Type 0) → IsTurn (Err e) text at n m → ((r : Answer) → EndsReading text at n r → P r) →
    AnswersBody (Err e) P
turn_fails text at n m OutOfMemory P is next = tt
turn_fails text at n m e P (inl is) next = next (Err e) (zero, inl is)
turn_fails text at n m e P (inr (is, (f, fault, same))) next = next (Err e) (zero, inr (is, (f, fault, ap (λ x. Err x) same)))

-- the answer at the text's end
pub end_answers : (text : List ℕ) (at : ℕ) (n : Nest) (r : Result (Query × Bool) QueryFault) (P : Answer → Type 0) → drop at text ≡ [] → IsEnd r (step at [] n) →
    ((s : Answer) → EndsReading text at n s → P s) → AnswersBody r P
end_answers text at n (Ok x) P here is next = next _ (zero, inl (ap (λ t. step at t n) here ∙ is))
end_answers text at n (Err OutOfMemory) P here is next = tt
end_answers text at n (Err e) P here is next = next (Err e) (zero, inl (ap (λ t. step at t n) here ∙ is))
