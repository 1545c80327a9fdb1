-- The automaton of an atom accepts exactly the words of its answers.
use Rattle.std.proofs.Common.{◌≡◌, ℕ, ◌≤◌, List, inl, inr, sym, ap, subst, arith, ◌∙◌}
use Rattle.spanner_model.specs.Captures.{VarName, Captures}
use Rattle.spanner_model.specs.Fit.{Fit}
use Rattle.place_automaton.specs.Repeats.{HasOrderedRepeats}
use Rattle.span_core.specs.Lists.{Has}
use Rattle.spanner_model.specs.Tree.{Tree}
use Rattle.spanner_model.specs.Expression.{AtomTree}
use Rattle.spanner_model.proofs.FitLaws.{fit_le}
use Rattle.marked_automaton.specs.Automaton.{Accepts}
use Rattle.place_automaton.specs.Atom.{automaton_of_atom, AreBytes, FitsWithBlocks, AtomLaw}
use Rattle.place_automaton.specs.Places.{Places, placed}
use Rattle.place_automaton.specs.Reads.{Shown, blocks}
use Rattle.spanner_model.specs.Sequential.{IsSequential}
use Rattle.marked_automaton.proofs.Listed.{compared}
use Rattle.place_automaton.proofs.AtomRuns.{accepts_shown, shown_accepts}
use Rattle.place_automaton.proofs.Blocks.{fit_outside}
use Rattle.place_automaton.proofs.FormulaShows.{shows_formula}
use Rattle.place_automaton.proofs.PlaceReads.{reads_same}
use Rattle.place_automaton.proofs.Ranges.{places_lie}

shown_same : (P : Places) (d : List ℕ) (i j : ℕ) (w v : ℕ → ℕ) → ((p : ℕ) → i ≤ p → p ≤ j → w p ≡ v p) → i ≤ j → Shown P d i j w → Shown P d i j v
shown_same P d i j w v e le (inl h) = inl (h.0, subst (Has P.null) (e i (omega arith) le) h.1)
shown_same P d i j w v e le (inr h) =
    inr (
      h.0,
      h.1,
      reads_same P d i h.0 (w i) (v i) w v (w j) (v j) (e i (omega arith) le) (e j le (omega arith))
          (λ p l u. e p (omega (arith, l)) (omega (arith, u, h.1))) h.2,
    )

module _ (opening closing : VarName → ℕ) (atom : AtomTree) (seq : IsSequential atom.formula) (ord : HasOrderedRepeats atom.formula) (d : List ℕ) (w : ℕ → ℕ) where
  abbrev f : Tree
  f = atom.formula

  abbrev B : Captures → ℕ → ℕ
  B = blocks opening closing

  -- a part that is shown is fitted, with captures that have these blocks
  shown_fits : (i j : ℕ) → Shown (placed opening closing f 1) d i j w →
      (c : Captures) × Fit f d i j c × ((p : ℕ) → i ≤ p → p ≤ j → w p ≡ B c p)
  shown_fits i j (inl h) =
      let r = (shows_formula opening closing d f seq ord 1).null i (w i) h.1 in
      (r.0, subst (λ x. Fit f d i x r.0) h.0 r.1, λ p a b. let e : i ≡ p = omega (arith, a, b, h.0) in subst (λ x. w x ≡ B r.0 x) e (sym r.2))
  shown_fits i j (inr h) =
      let r = (shows_formula opening closing d f seq ord 1).reads i h.0 (w i) w (w j) h.2 in (
        r.0,
        subst (λ x. Fit f d i x r.0) (sym h.1) r.1,
        λ p a b. elim (compared p i) [
          | inl less ↦ absurd (omega (arith, a, less))
          | inr c ↦ elim c [
            | inl at ↦ subst (λ x. w x ≡ B r.0 x) (sym at) (sym r.2)
            | inr more ↦ elim (compared p j) [
              | inl less ↦ sym (r.4 p more (omega (arith, less, h.1)))
              | inr k ↦ elim k [
                | inl at ↦ subst (λ x. w x ≡ B r.0 x) (sym at) (sym r.3 ∙ ap (B r.0) (sym h.1))
                | inr past ↦ absurd (omega (arith, b, past))
              ]
            ]
          ]
        ],
      )

  accepted_fits : Accepts (automaton_of_atom opening closing atom) d w → FitsWithBlocks opening closing atom d w
  accepted_fits h =
      let a = accepts_shown atom.from_start atom.to_end (placed opening closing f 1) (places_lie opening closing f 1) d w h in
      let r = shown_fits a.0 a.1 a.6 in
      let out = fit_outside opening closing f d a.0 a.1 r.0 r.1 in (
        a.0,
        a.1,
        r.0,
        r.1,
        a.3,
        a.4,
        a.5,
        λ p l. elim (compared p a.0) [
          | inl less ↦ a.7 p (omega arith) less ∙ sym (out p (inl less))
          | inr c ↦ elim (compared a.1 p) [
            | inl past ↦ a.8 p (omega (arith, past)) (omega (arith, l)) ∙ sym (out p (inr past))
            | inr k ↦ r.2 p (elim c [ inl at ↦ omega (arith, at) | inr more ↦ omega (arith, more) ]) (elim k [ inl at ↦ omega (arith, at) | inr more ↦ omega (arith, more) ])
          ]
        ],
      )

  fitted_accepts : AreBytes d → FitsWithBlocks opening closing atom d w → Accepts (automaton_of_atom opening closing atom) d w
  fitted_accepts ok h =
      let le = fit_le f d h.0 h.1 h.2 h.3 in
      let out = fit_outside opening closing f d h.0 h.1 h.2 h.3 in
      let sh = (shows_formula opening closing d f seq ord 1).shown h.0 h.1 h.2 h.3 in
      shown_accepts atom.from_start atom.to_end (placed opening closing f 1) (places_lie opening closing f 1) d w ok (
        h.0,
        h.1,
        le,
        h.4,
        h.5,
        h.6,
        shown_same (placed opening closing f 1) d h.0 h.1 (B h.2) w (λ p a b. sym (h.7 p (omega (arith, b, h.4)))) le sh,
        (λ p a b. h.7 p (omega (arith, b, le, h.4)) ∙ out p (inl b)),
        (λ p a b. h.7 p (omega (arith, b)) ∙ out p (inr (omega (arith, a)))),
      )

pub atom_law : AtomLaw
atom_law opening closing a seq ord d ok w =
    (accepted_fits opening closing a seq ord d w, fitted_accepts opening closing a seq ord d w ok)
