use Rattle.std.proofs.Common.{◌≡◌, [], ◌∷◌, arith, sym, subst, ◌∙◌}
use Rattle.span_core.specs.Intervals.{AreApart}
use Rattle.spanner_model.specs.View.{tree_of}
use Rattle.unicode_classes.specs.Texts.{AreCharacters}
use Rattle.unicode_classes.specs.ClassTree.{IsClassTree, no_length}
use Rattle.unicode_classes.specs.Arms.{arm_trees}
use Rattle.unicode_classes.proofs.RangeLaws.{Ranges}
use Rattle.unicode_classes.proofs.TreeFits.{class_tree_fits}
use Rattle.unicode_classes.proofs.PlainLaws.{class_tree_is_plain}
use Rattle.unicode_classes.proofs.ClassLaws.{next_arm, block_one, block_two, block_three, block_four, part_few, part_bytes}
use Rattle.unicode_classes.proofs.char_set.CharSet.tree.Goals as goal

pub with_block-requires-clause-few : goal.with_block-requires-clause-few
with_block-requires-clause-few c = λ l. absurd (omega arith)

pub with_block-requires-clause-bytes : goal.with_block-requires-clause-bytes
with_block-requires-clause-bytes c = part_bytes 0 0 0 128 c.parts-ranges.result.now c.in_ok-one.one c.in_ok-one.ensures (omega arith) (omega arith)

pub with_block-requires-2-clause-few : goal.with_block-requires-2-clause-few
with_block-requires-2-clause-few c = λ l. part_few 1 128 2048 c.parts-ranges.result.now c.in_ok-two.two c.in_ok-two.ensures (omega arith)

pub with_block-requires-2-clause-bytes : goal.with_block-requires-2-clause-bytes
with_block-requires-2-clause-bytes c = part_bytes 192 1 128 2048 c.parts-ranges.result.now c.in_ok-two.two c.in_ok-two.ensures (omega arith) (omega arith)

pub with_block-requires-3-clause-few : goal.with_block-requires-3-clause-few
with_block-requires-3-clause-few c = λ l. part_few 2 2048 65536 c.parts-ranges.result.now c.in_ok-three.three c.in_ok-three.ensures (omega arith)

pub with_block-requires-3-clause-bytes : goal.with_block-requires-3-clause-bytes
with_block-requires-3-clause-bytes c = part_bytes 224 2 2048 65536 c.parts-ranges.result.now c.in_ok-three.three c.in_ok-three.ensures (omega arith) (omega arith)

pub with_block-requires-4-clause-few : goal.with_block-requires-4-clause-few
with_block-requires-4-clause-few c = λ l. part_few 3 65536 1114112 c.parts-ranges.result.now c.in_ok-four.four c.in_ok-four.ensures (omega arith)

pub with_block-requires-4-clause-bytes : goal.with_block-requires-4-clause-bytes
with_block-requires-4-clause-bytes c = part_bytes 240 3 65536 1114112 c.parts-ranges.result.now c.in_ok-four.four c.in_ok-four.ensures (omega arith) (omega arith)

pub returns : goal.returns
returns c =
    let rs = c.parts-ranges.result.now in
    let is : rs ≡ c.args.self.now = c.parts-ranges.ensures.value ∙ c.self.view_is in
    let are : AreCharacters rs = subst AreCharacters (sym c.parts-ranges.ensures.value) c.self.invariant in
    let one = next_arm 0 0 0 128 rs c.in_ok-one.one [] [] (arm_trees c.in_ok-arms.arms) are (subst AreApart c.one.view_is c.one.invariant) block_one
    c.in_ok-one.ensures c.in_ok-arms.ensures.block no_length in
    let two = next_arm 192 1 128 2048 rs c.in_ok-two.two (0 ∷ []) (arm_trees c.in_ok-arms.arms) (arm_trees c.in_ok-arms-2.arms) are
    (subst AreApart c.two.view_is c.two.invariant) block_two c.in_ok-two.ensures c.in_ok-arms-2.ensures.block one in
    let three = next_arm 224 2 2048 65536 rs c.in_ok-three.three (0 ∷ (1 ∷ [])) (arm_trees c.in_ok-arms-2.arms) (arm_trees c.in_ok-arms-3.arms) are
    (subst AreApart c.three.view_is c.three.invariant) block_three c.in_ok-three.ensures
    c.in_ok-arms-3.ensures.block two in
    let four = next_arm 240 3 65536 1114112 rs c.in_ok-four.four (0 ∷ (1 ∷ (2 ∷ []))) (arm_trees c.in_ok-arms-3.arms) (arm_trees c.in_ok-arms-4.arms)
    are (subst AreApart c.four.view_is c.four.invariant) block_four c.in_ok-four.ensures
    c.in_ok-arms-4.ensures.block three in
    let shape : IsClassTree c.args.self.now (tree_of c.alternation_of.result) =
    subst (λ (xs : Ranges). IsClassTree xs (tree_of c.alternation_of.result)) is (arm_trees c.in_ok-arms-4.arms, four, c.alternation_of.ensures) in
    record {
      fits = class_tree_fits c.args.self.now (tree_of c.alternation_of.result) shape;
      shape = shape;
      plain = class_tree_is_plain c.args.self.now (tree_of c.alternation_of.result)
          (subst AreApart (sym c.parts-ranges.ensures.value ∙ is) c.parts-ranges.ensures.apart) (subst AreCharacters is are) c.requires shape;
    }
