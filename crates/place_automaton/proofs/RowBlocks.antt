-- The blocks of a fit's captures are those of its row.
use Rattle.std.proofs.Common.{◌≡◌, ℕ, zero, suc, ◌+◌, ◌*◌, ◌^◌, Bool, true, false, List, [], ◌∷◌, ◌++◌, Some, None, Option, length, inl, inr, refl, sym, ap, subst, arith, ◌∙◌}
use Rattle.std.specs.Prelude.{map, nat_eq, if◌then◌else◌}
use Rattle.std.specs.Str.{bytes_eq}
use Rattle.std.proofs.lemmas.List.{length-map}
use Rattle.std.proofs.lemmas.Bool.{false≢true}
use Rattle.spanner_model.specs.Captures.{VarName, Captures, Captured, AreApart, span_of, row_of}
use Rattle.spanner_model.specs.Fit.{Piece, Times, Fit}
use Rattle.span_core.specs.Lists.{Has, AreDistinct}
use Rattle.span_core.specs.Block.{opening_bit, closing_bit, marker, markers, markers_from, block}
use Rattle.spanner_model.specs.Tree.{Tree, empty, one, cat_end, cat, alt_end, alt, rep, cap}
use Rattle.span_core.specs.declared.span.Span.{Span}
use Rattle.span_core.proofs.NameSetLaws.{names_differ}
use Rattle.spanner_model.proofs.CapturesLaws.{Captured-append_cases, row_same}
use Rattle.spanner_model.proofs.FitLaws.{fit_only_vars}
use Rattle.spanner_model.proofs.AnswerLaws.{span_of-absent}
use Rattle.marked_automaton.proofs.Erasing.{same_name, name_itself}
use Rattle.place_automaton.specs.Reads.{blocks}
use Rattle.place_automaton.specs.Words.{opening_of, closing_of, AtomRowLaw}
use Rattle.place_automaton.proofs.AtomLaws.{atom_law}

-- the bits that a span gives at a position, where so many variables follow: it opens there, and it closes there
abbrev bits_at : Option Span → ℕ → ℕ → ℕ
bits_at None after p = 0
bits_at (Some s) after p =
    (if nat_eq s.start p then 2 ^ (2 * after + 1) else 0) + (if nat_eq s.end p then 2 ^ (2 * after) else 0)

-- the block of a row, by the variables that follow each
abbrev pub block_at : List (Option Span) → ℕ → ℕ
block_at [] p = 0
block_at (s ∷ row) p = bits_at s (length row) p + block_at row p

bits_are : (v k n : ℕ) (s : Option Span) (p : ℕ) → k + suc n ≡ v → bits_at s n p ≡ markers v k s p
bits_are v k n None p e = refl
bits_are v k n (Some s) p e =
    let o : 2 * n + 1 ≡ opening_bit v k = omega (arith, e) in
    let c : 2 * n ≡ closing_bit v k = omega (arith, e) in
    ap (λ b. marker b s.start p + marker (2 * n) s.end p) o ∙ ap (λ b. marker (opening_bit v k) s.start p + marker b s.end p) c

block_from : (v k : ℕ) (row : List (Option Span)) (p : ℕ) → k + length row ≡ v → block_at row p ≡ markers_from v k row p
block_from v k [] p e = refl
block_from v k (s ∷ row) p e = omega (arith, bits_are v k (length row) s p (omega (arith, e)), block_from v (k + 1) row p (omega (arith, e)))

pub block_is : (row : List (Option Span)) (p : ℕ) → block_at row p ≡ block row p
block_is row p = block_from (length row) 0 row p (omega arith)

-- each name is captured once
abbrev pub IsOnce : Captures → Type 0
IsOnce [] = Unit {0}
IsOnce (c ∷ m) = (Captured m c.0 → ⊥) × IsOnce m

once_append : (m n : Captures) → IsOnce m → IsOnce n → AreApart m n → IsOnce (m ++ n)
once_append [] n a b apart = b
once_append (c ∷ m) n a b apart = (
  (λ h. elim (Captured-append_cases m n c.0 h) [ inl x ↦ a.0 x | inr x ↦ apart c.0 (inl refl) x ]),
  once_append m n a.1 b (λ x p q. apart x (inr p) q),
)

times_once : (X : Piece) → ((i j : ℕ) (m : Captures) → X i j m → IsOnce m) → (c i j : ℕ) (m : Captures) → Times X c i j m → IsOnce m
times_once X x zero i j m h = subst IsOnce (sym h.1) tt
times_once X x (suc c) i j m h =
    subst IsOnce (sym h.6) (once_append h.1 h.2 (x i h.0 h.1 h.3) (times_once X x c h.0 j h.2 h.4) h.5)

pub fit_once : (f : Tree) (d : List ℕ) (i j : ℕ) (m : Captures) → Fit f d i j m → IsOnce m
fit_once empty d i j m h = subst IsOnce (sym h.1) tt
fit_once (one set) d i j m h = subst IsOnce (sym h.4) tt
fit_once cat_end d i j m h = subst IsOnce (sym h.1) tt
fit_once (cat f rest) d i j m h =
    subst IsOnce (sym h.6) (once_append h.1 h.2 (fit_once f d i h.0 h.1 h.3) (fit_once rest d h.0 j h.2 h.4) h.5)
fit_once alt_end d i j m h = absurd h
fit_once (alt f rest) d i j m (inl h) = fit_once f d i j m h
fit_once (alt f rest) d i j m (inr h) = fit_once rest d i j m h
fit_once (rep f least most) d i j m h = times_once (Fit f d) (λ i j m. fit_once f d i j m) h.0 i j m h.3
fit_once (cap x f) d i j m h = subst IsOnce (sym h.6) (h.5, fit_once f d i j h.1 h.4)

-- the other names have the spans that they had
others : (names : List VarName) (x : VarName) (s : Span) (m : Captures) → (Has names x → ⊥) → map (span_of ((x, s) ∷ m)) names ≡ map (span_of m) names
others [] x s m h = refl
others (y ∷ names) x s m h =
    let e : span_of ((x, s) ∷ m) y ≡ span_of m y = ap (λ b. if b then Some s else span_of m y) (names_differ x y (λ e. h (inl (sym e)))) in
    λ i. e i ∷ others names x s m (λ a. h (inr a)) i

none_block : (names : List VarName) (p : ℕ) → block_at (row_of names (span_of [])) p ≡ 0
none_block [] p = refl
none_block (y ∷ names) p = omega (arith, none_block names p)

module _ (p : ℕ) where
  -- what a capture adds to a block
  abbrev bits : List VarName → VarName → Span → ℕ
  bits names x s = (if nat_eq s.start p then opening_of names x else 0) + (if nat_eq s.end p then closing_of names x else 0)

  add_row : (names : List VarName) (x : VarName) (s : Span) (m : Captures) → AreDistinct names → Has names x → (Captured m x → ⊥) →
      block_at (row_of names (span_of ((x, s) ∷ m))) p ≡ bits names x s + block_at (row_of names (span_of m)) p
  add_row [] x s m dis h free = absurd h
  add_row (y ∷ names) x s m dis h free = go (add_row names x s m dis.1) (bytes_eq y x) refl h
    where
      go : (Has names x → (Captured m x → ⊥) → block_at (row_of names (span_of ((x, s) ∷ m))) p ≡ bits names x s + block_at (row_of names (span_of m)) p) →
          (b : Bool) → bytes_eq y x ≡ b → Has (y ∷ names) x →
          block_at (row_of (y ∷ names) (span_of ((x, s) ∷ m))) p ≡ bits (y ∷ names) x s + block_at (row_of (y ∷ names) (span_of m)) p
      go rest true e k =
          let same : y ≡ x = same_name y x e in
          let head : span_of ((x, s) ∷ m) y ≡ Some s = ap (λ b. if b then Some s else span_of m y) (name_itself x y (sym same)) in
          let old : span_of m y ≡ None = span_of-absent m y (λ a. free (subst (Captured m) same a)) in
          let tail = others names x s m (λ a. dis.0 (subst (Has names) (sym same) a)) in
          let l1 = length-map names (span_of ((x, s) ∷ m)) in
          let new_head : bits_at (span_of ((x, s) ∷ m) y) (length (map (span_of ((x, s) ∷ m)) names)) p ≡ bits_at (Some s) (length names) p =
          ap (λ o. bits_at o (length (map (span_of ((x, s) ∷ m)) names)) p) head ∙ ap (λ n. bits_at (Some s) n p) l1 in
          let old_head : bits_at (span_of m y) (length (map (span_of m) names)) p ≡ 0 = ap (λ o. bits_at o (length (map (span_of m) names)) p) old in
          let bits_here : bits (y ∷ names) x s ≡ bits_at (Some s) (length names) p =
          ap (λ b. (if nat_eq s.start p then (if b then 2 ^ (2 * length names + 1) else opening_of names x) else 0)
          + (if nat_eq s.end p then (if b then 2 ^ (2 * length names) else closing_of names x) else 0)) e in
          let tails : block_at (map (span_of ((x, s) ∷ m)) names) p ≡ block_at (map (span_of m) names) p = ap (λ r. block_at r p) tail in
          omega (arith, new_head, old_head, bits_here, tails)
      go rest false e k =
          let apart : y ≡ x → ⊥ = λ a. false≢true (sym e ∙ name_itself y x a) in
          let head : span_of ((x, s) ∷ m) y ≡ span_of m y = ap (λ b. if b then Some s else span_of m y) (names_differ x y (λ a. apart (sym a))) in
          let there : Has names x = elim k [ inl a ↦ absurd (apart a) | inr a ↦ a ] in
          let l1 = length-map names (span_of ((x, s) ∷ m)) in
          let l2 = length-map names (span_of m) in
          let heads : bits_at (span_of ((x, s) ∷ m) y) (length (map (span_of ((x, s) ∷ m)) names)) p ≡ bits_at (span_of m y) (length (map (span_of m) names)) p =
          ap (λ o. bits_at o (length (map (span_of ((x, s) ∷ m)) names)) p) head ∙ ap (λ n. bits_at (span_of m y) n p) (l1 ∙ sym l2) in
          let bits_there : bits (y ∷ names) x s ≡ bits names x s =
          ap (λ b. (if nat_eq s.start p then (if b then 2 ^ (2 * length names + 1) else opening_of names x) else 0)
          + (if nat_eq s.end p then (if b then 2 ^ (2 * length names) else closing_of names x) else 0)) e in
          omega (arith, heads, bits_there, rest there free)

  pub row_blocks : (names : List VarName) (c : Captures) → AreDistinct names → IsOnce c → ((x : VarName) → Captured c x → Has names x) →
      blocks (opening_of names) (closing_of names) c p ≡ block_at (row_of names (span_of c)) p
  row_blocks names [] dis once sub = sym (none_block names p)
  row_blocks names (c ∷ m) dis once sub =
      let rest = row_blocks names m dis once.1 (λ x a. sub x (inr a)) in
      let here = add_row names c.0 c.1 m dis (sub c.0 (inl refl)) once.0 in
      omega (arith, rest, here)

pub atom_row_law : AtomRowLaw
atom_row_law names a dis vars seq ord d ok w =
    let f = a.formula in
    let law = atom_law (opening_of names) (closing_of names) a seq ord d ok w in (
      (λ h.
          let r = law.0 h in (
            span_of r.2,
            (r.0, r.1, r.2, r.3, r.4, r.5, r.6, λ x. refl),
            λ p l. (r.7 p l ∙ row_blocks p names r.2 dis (fit_once f d r.0 r.1 r.2 r.3) (λ x a. vars x (fit_only_vars f d r.0 r.1 r.2 r.3 x a)))
                ∙ block_is (row_of names (span_of r.2)) p,
          )),
      (λ h.
          let r = h.1 in
          law.1 (
            r.0,
            r.1,
            r.2,
            r.3,
            r.4,
            r.5,
            r.6,
            λ p l. (h.2 p l ∙ sym (block_is (row_of names h.0) p)) ∙ (ap (λ row. block_at row p) (row_same names h.0 (span_of r.2) r.7)
                ∙ sym (row_blocks p names r.2 dis (fit_once f d r.0 r.1 r.2 r.3) (λ x a. vars x (fit_only_vars f d r.0 r.1 r.2 r.3 x a)))),
          )),
    )
