-- Steps, one after another.
use Rattle.std.proofs.Common.{◌≡◌, ℕ, zero, suc, ◌+◌, List, drop, drop-drop, Result, Ok, Err, ap, sym, ◌∙◌}
use Rattle.formula_parser.specs.declared.fault.FormulaFault.{FormulaFault}
use Rattle.formula_parser.specs.Nest.{Nest}
use Rattle.formula_parser.specs.Step.{Body, goes, step, end_len, Ends, EndsAfter}
use Rattle.formula_parser.specs.Dialect.{Dialect, Speaks}

-- the answer of reading: a formula, whether it is tied to the end, and the place after it; or a fault
abbrev pub Answer : Type 0
Answer = Result (Body × ℕ) FormulaFault

pub ok_same : (x y : Body × ℕ) → x.0 ≡ y.0 → x.1 ≡ y.1 → ◌≡◌ {A = Answer} (Ok x) (Ok y)
ok_same x y e d = ap (λ f. Ok (f, x.1)) e ∙ ap (λ k. Ok (y.0, k)) d

module _ (lang : Dialect) (speaks : Speaks lang) where
  -- a step, and then the others
  pub ends_more : (at len : ℕ) (text : List ℕ) (n m : Nest) (r : Answer) → step lang at text n ≡ goes len m →
      Ends lang (at + len) (drop len text) m r → Ends lang at text n r
  ends_more at len text n m r is (steps, ends) = (suc steps, (len, m, is, ends))

  -- the same where the text is what is left of a longer one
  pub ends_on : (at len : ℕ) (text rest : List ℕ) (n m : Nest) (r : Answer) → rest ≡ drop at text →
      step lang at rest n ≡ goes len m → Ends lang (at + len) (drop (at + len) text) m r → Ends lang at (drop at text) n r
  ends_on at len text rest n m r from is ends =
      ends_more at len (drop at text) n m r (rw (← from) is)
      (rw (drop-drop len at text) ends)

  -- two answers of one reading are the same
  pub one_end : (k l at : ℕ) (text : List ℕ) (n : Nest) (r s : Answer) → EndsAfter lang k at text n r → EndsAfter lang l at text n s → r ≡ s
  one_end zero zero at text n (Ok x) (Ok y) a b =
      let e = a.0 in
      let d = b.0 in
      let same : x.0 ≡ y.0 = cc in
      ok_same x y same (a.1 ∙ ap (λ z. at + end_len z.1) same ∙ sym b.1)
  one_end zero zero at text n (Ok x) (Err e) a b = let d = a.0 in absurd (cc)
  one_end zero zero at text n (Err e) (Ok y) a b = let d = b.0 in absurd (cc)
  one_end zero zero at text n (Err e) (Err d) a b = cc
  one_end zero (suc l) at text n (Ok x) s a (len, m, is, b) = let d = a.0 in absurd (cc)
  one_end zero (suc l) at text n (Err e) s a (len, m, is, b) = absurd (cc)
  one_end (suc k) zero at text n r (Ok y) (len, m, is, a) b = let d = b.0 in absurd (cc)
  one_end (suc k) zero at text n r (Err e) (len, m, is, a) b = absurd (cc)
  one_end (suc k) (suc l) at text n r s (len, m, is, a) (len', m', is', b) =
      let same_len : len ≡ len' = cc in
      let same : m ≡ m' = cc in
      one_end k l (at + len) (drop len text) m r s a
      (rw same (rw same_len b))
