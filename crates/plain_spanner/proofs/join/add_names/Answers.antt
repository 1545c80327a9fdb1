use Rattle.std.proofs.Common.{◌≡◌, List, length, take, ap, ◌∙◌, arith}
use Rattle.std.proofs.Math.Seq.{take-length}
use Rattle.span_core.specs.Lists.{Has}
use Rattle.spanner_model.specs.Captures.{VarName}
use Rattle.spanner_model.specs.Gathered.{Adds}
use Rattle.spanner_model.proofs.GatheredLaws.{gathered_next, gathered_first, names_in_turn}
use Rattle.plain_spanner.proofs.JoinLaws.{room_more}
use Rattle.plain_spanner.proofs.join.add_names.Goals as goal

pub add_name-requires : goal.add_name-requires
add_name-requires c = room_more c.args.into.now c.loop-k.into c.args.names.now c.loop-k.k c.at.result.now c.at.ensures.value c.requires c.loop-k.invariant

pub loop-k-init : goal.loop-k-init
loop-k-init c = gathered_first (λ (y : VarName) (x : VarName). y ≡ x) Has names_in_turn c.args.names.now c.args.into.now

pub loop-k-preserved : goal.loop-k-preserved
loop-k-preserved c =
    gathered_next (λ (y : VarName) (x : VarName). y ≡ x) Has names_in_turn c.args.names.now c.loop-k.k c.at.result.now c.args.into.now c.loop-k.into c.add_name.new.into
    c.at.ensures.value c.loop-k.invariant c.add_name.ensures

pub returns : goal.returns
returns c =
    let e : c.loop-k.k ≡ length c.args.names.now = omega arith in
    rw (← (ap (λ n. take n c.args.names.now) e ∙ take-length c.args.names.now)) c.loop-k.invariant
