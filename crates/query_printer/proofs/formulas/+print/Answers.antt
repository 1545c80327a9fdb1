use Rattle.std.proofs.Common.{◌+◌, ◌++◌, ap, refl, ◌∙◌, arith}
use Rattle.span_core.proofs.ListLaws.{prefix_then, appended}
use Rattle.spanner_model.specs.View.{tree_of, trees_of}
use Rattle.query_printer.specs.PrintedFormula.{wraps_arm, wraps_part, printed, wrapped}
use Rattle.query_printer.proofs.PrintedTrees.{part_less, arm_less, parts_step, arms_step, arms_from}
use Rattle.query_printer.proofs.formulas.+print.Goals as goal

pub push_parts-push_wrapped-requires : goal.push_parts-push_wrapped-requires
push_parts-push_wrapped-requires t c =
    (omega (arith, part_less (trees_of c.args.parts.now) c.loop-k.k (tree_of c.at-part.result.now) c.at-part.ensures), tt)

pub push_arms-push_wrapped-requires : goal.push_arms-push_wrapped-requires
push_arms-push_wrapped-requires t c =
    (omega (arith, arm_less (trees_of c.args.arms.now) c.loop-k.k (tree_of c.at-arm.result.now) c.at-arm.ensures), tt)

pub push_parts-loop-k-preserved : goal.push_parts-loop-k-preserved
push_parts-loop-k-preserved t c =
    let ts = trees_of c.args.parts.now in
    let f = tree_of c.at-part.result.now in
    let w = c.wraps_part.ensures ∙ ap wraps_part c.of.ensures in
    record {
      printed = appended c.loop-k.out.items (wrapped c.wraps_part.result (printed f)) c.push_wrapped.new.out.items _ _ _ c.in_ok-push_wrapped.ensures.ok
          (parts_step ts c.loop-k.k f c.wraps_part.result c.at-part.ensures w) c.loop-k.invariant.printed;
      front = prefix_then _ _ _ c.loop-k.invariant.front c.in_ok-push_wrapped.ensures.front;
    }

pub push_arms-loop-k-preserved : goal.push_arms-loop-k-preserved
push_arms-loop-k-preserved t c =
    let ts = trees_of c.args.arms.now in
    let f = tree_of c.at-arm.result.now in
    let w = c.wraps_arm.ensures ∙ ap wraps_arm c.of.ensures in
    let barred = appended c.loop-k.out.items _ c.push_given.new.out.items (arms_from c.loop-k.k ts) (wrapped c.wraps_arm.result (printed f) ++ arms_from (c.loop-k.k + 1) ts) _
    c.in_ok-push_given.ensures.ok (arms_step ts c.loop-k.k f c.wraps_arm.result c.at-arm.ensures w) c.loop-k.invariant.printed in
    record {
      printed = appended c.push_given.new.out.items (wrapped c.wraps_arm.result (printed f)) c.push_wrapped.new.out.items _ (arms_from (c.loop-k.k + 1) ts) _
          c.in_ok-push_wrapped.ensures.ok refl barred;
      front = prefix_then _ _ _ (prefix_then _ _ _ c.loop-k.invariant.front c.in_ok-push_given.ensures.front) c.in_ok-push_wrapped.ensures.front;
    }
