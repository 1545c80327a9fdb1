use Rattle.span_core.specs.Lists.{Has}
use Rattle.spanner_model.specs.Captures.{VarName}
use Rattle.spanner_model.proofs.GatheredLaws.{gathered_next, gathered_no_more, names_in_turn}
use Rattle.std.proofs.Common.{◌≡◌}
use Rattle.spanner_model.proofs.gathering.gather_all.Goals as goal

pub returns-then-not-gather_name : goal.returns-then-not-gather_name
returns-then-not-gather_name c =
    gathered_no_more (λ (y : VarName) (x : VarName). y ≡ x) Has names_in_turn c.args.names.now c.loop-k.k c.at.result.now c.args.into.now
    c.loop-k.into c.gather_name.new.into c.at.ensures.value c.loop-k.invariant c.if-not-gather_name.ensures

pub loop-k-preserved : goal.loop-k-preserved
loop-k-preserved c =
    gathered_next (λ (y : VarName) (x : VarName). y ≡ x) Has names_in_turn c.args.names.now c.loop-k.k c.at.result.now c.args.into.now c.loop-k.into
    c.gather_name.new.into c.at.ensures.value c.loop-k.invariant c.if-not-gather_name.ensures
