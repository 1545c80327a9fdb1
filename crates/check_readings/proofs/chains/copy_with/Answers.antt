use Rattle.std.proofs.Common.{◌++◌, ◌∷◌, [], ℕ, List, inl, inr, ap, subst, ◌∙◌}
use Rattle.span_core.specs.Lists.{Has}
use Rattle.node_arena.specs.Cells.{HasCell}
use Rattle.check_readings.proofs.chains.copy_with.Goals as goal

pub copy-requires : goal.copy-requires
copy-requires g c = record {
  there = λ x h.
      let one : Has (c.args.cell ∷ []) x = subst (λ (xs : List ℕ). Has xs x) (c.in-Ok.ensures.items ∙ ap (λ (xs : List ℕ). xs ++ c.args.cell ∷ []) c.new-cells.ensures.items) h in
      elim one as (λ _. HasCell c.args.arena.now.cells x) [
        | inl e ↦ subst (λ k. HasCell c.args.arena.now.cells k) e (c.is_arena.ensures.held_there c.args.cell c.requires)
        | inr none ↦ absurd none
      ];
}
