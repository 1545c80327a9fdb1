use Rattle.std.proofs.Common.{ℕ, ◌+◌, ◌-◌, ◌*◌, ◌/◌, ◌^◌, ◌<◌, sym, ap, subst, arith, ◌∙◌}
use Rattle.span_core.specs.Intervals.{Covers, AreApart}
use Rattle.span_core.specs.Lists.{Has}
use Rattle.span_core.proofs.HasLaws.{Has-get_or}
use Rattle.spanner_model.specs.Tree.{Tree, cat, cat_end, cat_all}
use Rattle.spanner_model.specs.View.{tree_of}
use Rattle.spanner_model.proofs.Trees.{tree_of-One, tree_of-Cat}
use Rattle.unicode_classes.specs.Arms.{arm_trees}
use Rattle.unicode_classes.specs.Joined.{IsBlockText}
use Rattle.unicode_classes.specs.ClassTree.{IsTreeOf}
use Rattle.unicode_classes.specs.Grouped.{AreGrouped}
use Rattle.unicode_classes.proofs.RangeLaws.{Ranges}
use Rattle.unicode_classes.proofs.UnitLaws.{unit_positive}
use Rattle.unicode_classes.proofs.TreeLaws.{block_zero, unit_few, arms_more, arms_end, tails_few}
use Rattle.unicode_classes.proofs.blocks.+block_formula.Goals as goal

pub returns-then-tails-eq0 : goal.returns-then-tails-eq0
returns-then-tails-eq0 t c = block_zero c.args.base c.args.tails c.args.ranges.now c.single_bytes.result _ c.if-tails-eq0.true c.single_bytes.ensures (tree_of-One c.single_bytes.result)

pub grouped-requires-clause-positive : goal.grouped-requires-clause-positive
grouped-requires-clause-positive t c = omega (arith, c.unit_of.ensures, unit_positive c.args.tails)

pub grouped-requires-clause-unit : goal.grouped-requires-clause-unit
grouped-requires-clause-unit t c = omega (arith, c.unit_of.ensures, unit_few c.args.tails c.requires.tails)

pub block_formula-requires : goal.block_formula-requires
block_formula-requires t c =
    let gs = c.deref-group-items.result.now in
    let g = c.group-item.result in
    let tails = c.args.tails in
    let are = subst (AreGrouped c.args.base c.unit_of.result c.args.ranges.now 64) (sym c.deref-group-items.ensures.value) c.in_ok-groups.ensures in
    let has : Has gs g = subst (Has gs) (sym c.group-item.is) (Has-get_or gs c.loop-group.group-index g c.loop-group-test.true) in
    let few = tails_few c.args.base tails c.unit_of.result c.args.ranges.now gs g c.if-tails-eq0.false c.unit_of.ensures are has in
    let both = rw (← c.parts.ensures.value) at few in
    (omega (arith, c.decreases, c.if-tails-eq0.false), (omega (arith, c.requires.tails), (subst AreApart (sym c.parts.ensures.value) c.parts.ensures.apart, (λ l. both.0, both.1))))

pub loop-group-preserved : goal.loop-group-preserved
loop-group-preserved t c =
    let g = c.group-item.result in
    let tails = c.args.tails - 1 in
    let tree = rw c.parts.ensures.value at c.in_ok-rest.ensures in
    let both = tree_of-Cat c.in_ok-both.both ∙ ap cat_all c.in_ok-both.ensures ∙ ap (λ (x : Tree). cat x (cat (tree_of c.in_ok-rest.rest) cat_end)) (tree_of-One g.bytes) in
    record {
      proper = c.in_ok-arms.ensures.proper;
      trees = arms_more tails c.deref-group-items.result.now c.loop-group.group-index g (arm_trees c.loop-group.arms) (arm_trees c.in_ok-arms.arms)
          (tree_of c.in_ok-rest.rest) _ c.loop-group-test.true c.group-item.is tree both
          c.in_ok-arms.ensures.trees c.loop-group.invariant.trees;
    }

pub returns : goal.returns
returns t c =
    let gs = c.deref-group-items.result.now in
    let are = subst (AreGrouped c.args.base c.unit_of.result c.args.ranges.now 64) (sym c.deref-group-items.ensures.value) c.in_ok-groups.ensures in
    arms_end c.args.base c.args.tails c.unit_of.result c.args.ranges.now gs c.loop-group.group-index (arm_trees c.loop-group.arms)
    (tree_of c.alternation_of.result) c.if-tails-eq0.false c.unit_of.ensures (c.requires.few (omega (arith, c.if-tails-eq0.false))) are
    c.loop-group-test.false c.alternation_of.ensures c.loop-group.invariant.trees
