-- The laws of the grammar and of the faults that are met when a text is read.
use Rattle.std.proofs.Common.{◌≡◌, inl, inr, ℕ, zero, suc, ◌+◌, true, false, List, Ok, Err, ap, sym, ◌∙◌, true≢false}
use Rattle.spanner_model.specs.Expression.{AtomTree, QueryTree}
use Rattle.formula_parser.proofs.AtomLaws.{one_tree, no_tree_with_fault, one_fault}
use Rattle.query_parser.specs.declared.fault.QueryFault.TheVariants.{Formula}
use Rattle.query_parser.specs.Tokens.{atom_token}
use Rattle.query_parser.specs.Nest.{Nest, Move, Body, move, outermost}
use Rattle.query_parser.specs.Step.{EndsAfter, EndsReading}
use Rattle.query_parser.specs.Laws.{HasOneQuery, HasNoQueryWithReadFault, HasOneReadFault}
use Rattle.query_parser.proofs.TextLaws.{Answer, spelled_ends}
use Rattle.query_parser.proofs.FaultLaws.{fault_ends, kept_ends}

-- two answers are one
one_end : (k l : ℕ) (text : List ℕ) (at : ℕ) (n : Nest) (r s : Answer) → EndsAfter k text at n r → EndsAfter l text at n s → r ≡ s
one_end zero zero text at n r s (inl a) (inl b) = cc
one_end zero zero text at n r s (inl a) (inr (b, rest)) = absurd (cc)
one_end zero zero text at n r s (inr (a, rest)) (inl b) = absurd (cc)
one_end zero zero text at n r s (inr (a, (e, f, is))) (inr (b, (d, g, same))) = let this = one_fault text at e d f g in is ∙ ap (λ x. Err (Formula x)) this ∙ sym same
one_end zero (suc l) text at n r s (inl a) (inl (len, m, b, rest)) = absurd (cc)
one_end zero (suc l) text at n r s (inl a) (inr (b, rest)) = absurd (cc)
one_end zero (suc l) text at n r s (inr (a, rest)) (inl (len, m, b, others)) = absurd (cc)
one_end zero (suc l) text at n r s (inr (a, (e, f, is))) (inr (b, (t, q, m, found, moves, rest))) = absurd (no_tree_with_fault text at (t, q) e found f)
one_end (suc k) zero text at n r s (inl (len, m, a, rest)) (inl b) = absurd (cc)
one_end (suc k) zero text at n r s (inl (len, m, a, rest)) (inr (b, others)) = absurd (cc)
one_end (suc k) zero text at n r s (inr (a, rest)) (inl b) = absurd (cc)
one_end (suc k) zero text at n r s (inr (a, (t, q, m, found, moves, rest))) (inr (b, (e, f, is))) = absurd (no_tree_with_fault text at (t, q) e found f)
one_end (suc k) (suc l) text at n r s (inl (len, m, a, x)) (inl (len', m', b, y)) =
    let same_len : len ≡ len' = cc in
    let same : m ≡ m' = cc in
    one_end k l text (at + len) m r s x (rw same_len (rw same y))
one_end (suc k) (suc l) text at n r s (inl (len, m, a, x)) (inr (b, rest)) = absurd (cc)
one_end (suc k) (suc l) text at n r s (inr (a, rest)) (inl (len, m, b, y)) = absurd (cc)
one_end (suc k) (suc l) text at n r s (inr (a, (t, q, m, found, moves, x))) (inr (b, (t', q', m', found', moves', y))) =
    let pair : (t, q) ≡ (t', q') = one_tree text at (t, q) (t', q') found found' in
    let same_place : q ≡ q' = ap (λ (z : AtomTree × ℕ). z.1) pair in
    let same_atom : t ≡ t' = ap (λ (z : AtomTree × ℕ). z.0) pair in
    let moved : ◌≡◌ {A = Move} (Ok m) (Ok m') = sym moves ∙ ap (λ z. move (atom_token z) n) same_atom ∙ moves' in
    let same : m ≡ m' = cc in
    one_end k l text q m r s x (rw same_place (rw same y))

pub same_answer : (text : List ℕ) (r s : Answer) → EndsReading text 0 outermost r → EndsReading text 0 outermost s → r ≡ s
same_answer text r s (k, a) (l, b) = one_end k l text 0 outermost r s a b

pub one_query : HasOneQuery
one_query text q r a b =
    let same : ◌≡◌ {A = Answer} (Ok (q, false)) (Ok (r, false)) = same_answer text (Ok (q, false)) (Ok (r, false)) (spelled_ends text q a) (spelled_ends text r b) in
    let pair : ◌≡◌ {A = Body} (q, false) (r, false) = cc in
    ap (λ (b : Body). b.0) pair

pub no_query_with_read_fault : HasNoQueryWithReadFault
no_query_with_read_fault text q a =
    ((λ e d. let same = same_answer text (Ok (q, false)) (Err e) (spelled_ends text q a) (fault_ends d) in absurd (cc)), (λ k. by (kept_ends text k)))
  where
    by : (p : QueryTree) × EndsReading text 0 outermost (Ok (p, true)) → ⊥
    by (p, e) =
        let same : ◌≡◌ {A = Answer} (Ok (p, true)) (Ok (q, false)) = same_answer text (Ok (p, true)) (Ok (q, false)) e (spelled_ends text q a) in
        let pair : ◌≡◌ {A = Body} (p, true) (q, false) = cc in
        true≢false (ap (λ (b : Body). b.1) pair)

pub one_read_fault : HasOneReadFault
one_read_fault text e a =
    ((λ d b. let same : ◌≡◌ {A = Answer} (Err e) (Err d) = same_answer text (Err e) (Err d) (fault_ends a) (fault_ends b) in cc), (λ k. by (kept_ends text k)))
  where
    by : (p : QueryTree) × EndsReading text 0 outermost (Ok (p, true)) → ⊥
    by (p, b) = let same = same_answer text (Ok (p, true)) (Err e) b (fault_ends a) in absurd (cc)
