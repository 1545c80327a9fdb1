-- The flags of a layer, one after another.
use Rattle.std.proofs.Common.{◌≡◌, ℕ, ◌+◌, ◌<◌, Bool, true, false, List, [], ◌∷◌, ◌++◌, length, inl, inr, sym, ap, subst, arith, ◌∙◌, length-append}
use Rattle.std.specs.Prelude.{◌↔◌, IsTrue}
use Rattle.std.proofs.Math.Seq.{get_or-append_seam}
use Rattle.std.proofs.lemmas.List.{get_or_append_left}
use Rattle.std.proofs.lemmas.Bool.{cases_lt, false≢true}
use Rattle.numbered_lists.specs.Numbered.{set_at}
use Rattle.output_graph.specs.Graph.{Graph, sources}
use Rattle.set_table.specs.Tabled.{Tabled}
use Rattle.one_pass.specs.Layers.{source_at}
use Rattle.one_pass.specs.Flags.{AreToldTo, IsTold, flag_at}
use Rattle.one_pass.specs.Settling.{Rule}

pub told_none : (G : Rule) (t : Tabled) (g : Graph) (flags : List Bool) → flags ≡ [] → AreToldTo G t g 0 flags
told_none G t g flags e = (ap length e, λ j l. absurd (omega (arith, l)))

pub told_more : (G : Rule) (t : Tabled) (g : Graph) (k : ℕ) (flags more : List Bool) (b : Bool) (set : ℕ) → AreToldTo G t g k flags → more ≡ flags ++ b ∷ [] →
    set ≡ (source_at (sources g) k).set → (IsTrue b ↔ G (set_at t.sets set)) → AreToldTo G t g (k + 1) more
told_more G t g k flags more b set told is same tells = (
  (let l = length-append flags (b ∷ []) in omega (arith, ap length is, l, told.0)),
  each,
)
  where
    name : ℕ → List ℕ
    name j = set_at t.sets (source_at (sources g) j).set

    here : name k ≡ set_at t.sets set
    here = ap (set_at t.sets) (sym same)

    each : (j : ℕ) → j < k + 1 → IsTold G t g more j
    each j l = elim (cases_lt j k) as (λ _. IsTold G t g more j) [
      | inl m ↦ (let front : flag_at more j ≡ flag_at flags j = ap (λ (xs : List Bool). flag_at xs j) is ∙ get_or_append_left flags (b ∷ []) false j (omega (arith, m, told.0)) in
          (λ e. (told.1 j m).0 (sym front ∙ e), λ e. (told.1 j m).1 (sym front ∙ e)))
      | inr m ↦ (let at : j ≡ length flags = omega (arith, m, l, told.0) in
          let now : j ≡ k = omega (arith, m, l) in
          let last : flag_at more j ≡ b = ap (λ (xs : List Bool). flag_at xs j) is ∙ (ap (flag_at (flags ++ b ∷ [])) at ∙ get_or-append_seam flags b [] false) in
          let there : set_at t.sets set ≡ name j = sym here ∙ ap name (sym now) in
          (λ e. subst G there (tells.0 (sym last ∙ e)), λ e given. false≢true (sym e ∙ (last ∙ tells.1 (subst G (sym there) given)))))
    ]
