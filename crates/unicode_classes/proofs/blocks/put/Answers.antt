use Rattle.std.proofs.Common.{◌<◌, ◌≤◌, length, arith, ◌∙◌, ap, sym}
use Rattle.std.specs.FinSet.{union}
use Rattle.unicode_classes.specs.declared.blocks.TailGroup.{TailGroup}
use Rattle.unicode_classes.proofs.PutLaws.{put_here, put_behind, others_more}
use Rattle.unicode_classes.proofs.blocks.put.Goals as goal

pub returns-then-are_equal : goal.returns-then-are_equal
returns-then-are_equal c =
    let l : c.loop-k.k < length c.loop-k.groups.items = omega (arith, c.loop-k-test.true, c.len-k-end.ensures, c.args.groups.now.ok.0, ap (length {A = TailGroup}) c.loop-k.invariant.same) in
    put_here c.args.byte c.args.tails c.loop-k.groups.items c.args.groups.now.items c.loop-k.k c.index.result.now c.index-then-are_equal.result.now c.index_mut.result.now c.union.result
    c.loop-k.invariant.same l c.index.ensures c.index-then-are_equal.ensures c.index_mut.ensures.value c.loop-k.invariant.others
    (sym c.parts.ensures.value ∙ c.are_equal.ensures.0 c.if-are_equal.true ∙ c.parts-in-loop-k.ensures.value)
    (c.union.ensures ∙ ap (union c.index-then-are_equal.result.now.bytes) c.single.ensures)

pub loop-k-preserved : goal.loop-k-preserved
loop-k-preserved c =
    let l : c.loop-k.k < length c.loop-k.groups.items = omega (arith, c.loop-k-test.true, c.len-k-end.ensures, c.args.groups.now.ok.0, ap (length {A = TailGroup}) c.loop-k.invariant.same) in record {
      same = c.loop-k.invariant.same;
      others = others_more c.loop-k.groups.items c.args.tails c.loop-k.k c.index.result.now l c.index.ensures c.loop-k.invariant.others
          (λ e. absurd (let t = c.are_equal.ensures.1 (c.parts.ensures.value ∙ e ∙ sym c.parts-in-loop-k.ensures.value) in cc));
    }

pub returns : goal.returns
returns c =
    let l : length c.loop-k.groups.items ≤ c.loop-k.k = omega (arith, c.loop-k-test.false, c.len-k-end.ensures, c.args.groups.now.ok.0, ap (length {A = TailGroup}) c.loop-k.invariant.same) in
    put_behind c.args.byte c.args.tails c.loop-k.groups.items c.args.groups.now.items c.push.new.self.items c.loop-k.k c.single-2.result
    c.loop-k.invariant.same l c.loop-k.invariant.others c.single-2.ensures c.in_ok-push.ensures.items
