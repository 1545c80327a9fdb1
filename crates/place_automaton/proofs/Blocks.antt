-- Blocks of captures.
use Rattle.std.proofs.Common.{◌≡◌, ℕ, zero, suc, ◌+◌, ◌<◌, ◌≤◌, ◌⊎◌, List, [], ◌∷◌, ◌++◌, inl, inr, ap, arith, ◌∙◌}
use Rattle.std.specs.Prelude.{nat_eq, if◌then◌else◌}
use Rattle.std.proofs.lemmas.Bool.{eq-eqb, ne_eqb}
use Rattle.span_core.specs.declared.span.Span.{Span}
use Rattle.spanner_model.specs.Captures.{VarName, Captures}
use Rattle.spanner_model.specs.Fit.{Piece, Then, Nothing, Times, Fit}
use Rattle.spanner_model.specs.Tree.{Tree, empty, one, cat_end, cat, alt_end, alt, rep, cap}
use Rattle.spanner_model.proofs.FitLaws.{times_le, fit_le}
use Rattle.place_automaton.specs.Reads.{blocks}

-- what a bit counts where it stands, and elsewhere
pub bit_here : (q p v : ℕ) → q ≡ p → (if nat_eq q p then v else 0) ≡ v
bit_here q p v e = ap (λ b. if b then v else 0) (eq-eqb q p e)

pub bit_apart : (q p v : ℕ) → (q ≡ p → ⊥) → (if nat_eq q p then v else 0) ≡ 0
bit_apart q p v h = ap (λ b. if b then v else 0) (ne_eqb q p h)

module _ (opening closing : VarName → ℕ) where
  pub blocks_append : (m n : Captures) (p : ℕ) → blocks opening closing (m ++ n) p ≡ blocks opening closing m p + blocks opening closing n p
  blocks_append [] n p = omega arith
  blocks_append (c ∷ m) n p = omega (arith, blocks_append m n p)

  -- outside of the part, before i and after j, the blocks are empty
  abbrev pub IsEmptyOutside : Piece → Type 0
  IsEmptyOutside X = (i j : ℕ) (m : Captures) → X i j m → (p : ℕ) → (p < i) ⊎ (j < p) → blocks opening closing m p ≡ 0

  abbrev pub DoesNotEndBefore : Piece → Type 0
  DoesNotEndBefore X = (i j : ℕ) (m : Captures) → X i j m → i ≤ j

  pub nothing_outside : IsEmptyOutside Nothing
  nothing_outside i j m h p o = ap (λ c. blocks opening closing c p) h.1

  pub then_outside : (X Y : Piece) → DoesNotEndBefore X → DoesNotEndBefore Y → IsEmptyOutside X → IsEmptyOutside Y → IsEmptyOutside (Then X Y)
  then_outside X Y lx ly x y i j m h p o =
      let e : blocks opening closing m p ≡ blocks opening closing (h.1 ++ h.2) p = ap (λ c. blocks opening closing c p) h.6 in
      let s = blocks_append h.1 h.2 p in
      elim o [
        | inl b ↦ omega (arith, e, s, x i h.0 h.1 h.3 p (inl b), y h.0 j h.2 h.4 p (inl (omega (arith, b, lx i h.0 h.1 h.3))))
        | inr b ↦ omega (arith, e, s, x i h.0 h.1 h.3 p (inr (omega (arith, b, ly h.0 j h.2 h.4))), y h.0 j h.2 h.4 p (inr b))
      ]

  pub times_outside : (X : Piece) → DoesNotEndBefore X → IsEmptyOutside X → (c : ℕ) → IsEmptyOutside (Times X c)
  times_outside X lx x zero = nothing_outside
  times_outside X lx x (suc c) = then_outside X (Times X c) lx (times_le X lx c) x (times_outside X lx x c)

  -- the block of a capture and the captures inside it
  pub cap_block : (x : VarName) (s : Span) (i j : ℕ) → s.start ≡ i → s.end ≡ j → (n m : Captures) (p : ℕ) → m ≡ (x, s) ∷ n →
      blocks opening closing m p ≡ (if nat_eq i p then opening x else 0) + (if nat_eq j p then closing x else 0) + blocks opening closing n p
  cap_block x s i j a b n m p e =
      ap (λ c. blocks opening closing c p) e
      ∙ (ap (λ (i : ℕ). (if nat_eq i p then opening x else 0) + (if nat_eq s.end p then closing x else 0) + blocks opening closing n p) a
      ∙ ap (λ (j : ℕ). (if nat_eq i p then opening x else 0) + (if nat_eq j p then closing x else 0) + blocks opening closing n p) b)

  pub fit_outside : (f : Tree) (d : List ℕ) → IsEmptyOutside (Fit f d)
  fit_outside empty d = nothing_outside
  fit_outside (one set) d = λ i j m h p o. ap (λ c. blocks opening closing c p) h.4
  fit_outside cat_end d = nothing_outside
  fit_outside (cat f rest) d = then_outside (Fit f d) (Fit rest d) (fit_le f d) (fit_le rest d) (fit_outside f d) (fit_outside rest d)
  fit_outside alt_end d = λ i j m h p o. absurd h
  fit_outside (alt f rest) d = λ i j m h p o. elim h [ inl a ↦ fit_outside f d i j m a p o | inr b ↦ fit_outside rest d i j m b p o ]
  fit_outside (rep f least most) d = λ i j m h p o. times_outside (Fit f d) (fit_le f d) (fit_outside f d) h.0 i j m h.3 p o
  fit_outside (cap x f) d = λ i j m h p o.
      let le = fit_le f d i j h.1 h.4 in
      elim o [
        | inl b ↦ omega (
          arith,
          cap_block x h.0 i j h.2 h.3 h.1 m p h.6,
          fit_outside f d i j h.1 h.4 p o,
          bit_apart i p (opening x) (λ e. omega (arith, e, b)),
          bit_apart j p (closing x) (λ e. omega (arith, e, b, le)),
        )
        | inr b ↦ omega (
          arith,
          cap_block x h.0 i j h.2 h.3 h.1 m p h.6,
          fit_outside f d i j h.1 h.4 p o,
          bit_apart i p (opening x) (λ e. omega (arith, e, b, le)),
          bit_apart j p (closing x) (λ e. omega (arith, e, b)),
        )
      ]
