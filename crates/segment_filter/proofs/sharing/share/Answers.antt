use Rattle.std.proofs.Common.{◌≡◌, ◌<◌, get_or, length, subst, arith}
use Rattle.std.proofs.lemmas.Bool.{leb-true, le-leb}
use Rattle.span_core.specs.Lists.{Has}
use Rattle.span_core.proofs.HasLaws.{Has-get_or}
use Rattle.segment_filter.proofs.Shares.{shared_least, stand_left, stand_right}
use Rattle.segment_filter.proofs.sharing.share.Goals as goal

pub loop-i-preserved-then-left-right : goal.loop-i-preserved-then-left-right
loop-i-preserved-then-left-right c =
    let l : c.loop-i.i < length c.args.a.now = omega arith in
    record {
      left = omega arith;
      right = omega arith;
      behind = stand_left c.args.a.now c.args.b.now c.loop-i.i c.loop-i.j c.requires.b c.if-left-right.true c.loop-i.invariant.behind;
    }

pub loop-i-preserved : goal.loop-i-preserved
loop-i-preserved c =
    record {
      left = omega arith;
      right = omega arith;
      behind = stand_right c.args.a.now c.args.b.now c.loop-i.i c.loop-i.j c.requires.a c.if-right-left.true c.loop-i.invariant.behind;
    }

pub returns-else-right-left : goal.returns-else-right-left
returns-else-right-left c =
    let a = c.args.a.now in
    let b = c.args.b.now in
    let i = c.loop-i.i in
    let j = c.loop-i.j in
    let same : get_or b j 0 ≡ get_or a i 0 = omega arith in
    let here : Has b (get_or a i 0) = subst (Has b) same (Has-get_or b j 0 (omega arith)) in (
      λ t. (get_or a i 0, Has-get_or a i 0 (omega arith), here, leb-true (get_or a i 0) c.args.most t),
      λ h. le-leb (get_or a i 0) c.args.most (let l = shared_least a b i j h.0 c.requires.a c.loop-i.invariant.behind h.1 h.2 in omega (arith, l, h.3)),
    )
