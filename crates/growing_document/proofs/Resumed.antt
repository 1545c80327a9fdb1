-- A reading that was taken up and is laid down again.
use Rattle.std.proofs.Common.{◌≡◌, sym, ap, ◌∙◌}
use Rattle.marked_automaton.specs.Automaton.{Automaton}
use Rattle.one_pass.specs.declared.readings.Laid.{Laid}
use Rattle.one_pass.specs.Readings.{IsLaidOf, resumed}
use Rattle.one_pass.specs.SoFar.{SoFar}

module _ (A : Automaton) (x y : SoFar) (r s : Laid) (x_is : x ≡ resumed A r) (grown : y.table.graph ≡ x.table.graph) (laid : IsLaidOf y.table.graph s) (same : resumed y.table.graph s ≡ y) where
  graph_is : y.table.graph ≡ A
  graph_is = grown ∙ ap (λ (z : SoFar). z.table.graph) x_is

  -- it is so with the automaton
  pub laid_again : IsLaidOf A s
  laid_again = rw (← graph_is) laid

  pub again_is : y ≡ resumed A s
  again_is = sym same ∙ ap (λ (B : Automaton). resumed B s) graph_is
