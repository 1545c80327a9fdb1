use Rattle.std.proofs.Common.{◌≡◌, ◌+◌, List, [], ◌∷◌, take, drop, refl}
use Rattle.std.specs.Prelude.{slice_get, Some}
use Rattle.span_core.proofs.ListLaws.{get_left}
use Rattle.marked_automaton.specs.declared.fault.SizeFault.{SizeFault}
use Rattle.algebra.specs.Pairs.{PairWay, IsFollowed, IsRefusalOf, pair_of, way_pair, ways_meet, ways_with}
use Rattle.algebra.proofs.Alike.{Has-item}
use Rattle.algebra.proofs.Followed.{followed_none, followed_then, refusal_then, row_more, row_split, handed_on}
use Rattle.algebra.proofs.pairs.Search.follow_way.Goals as goal

pub loop-y-init : goal.loop-y-init
loop-y-init c = followed_none c.args.self.now.found.keys c.args.self.now.ways.items

pub follow_both-requires-clause-from : goal.follow_both-requires-clause-from
follow_both-requires-clause-from c =
    let ys = c.args.ys.now in
    let y = c.y-item.result in
    let inv = c.loop-y.invariant in
    let at = pair_of c.args.x.now.way.from y.way.from in
    let has = Has-item ys ys c.loop-y.y-index y refl c.loop-y-test.true c.y-item.is in
    rw inv.keys (get_left c.args.self.now.found.keys inv.found c.args.from at (c.requires.from y has))

pub follow_both-requires-clause-marks : goal.follow_both-requires-clause-marks
follow_both-requires-clause-marks c =
    let ys = c.args.ys.now in
    let y = c.y-item.result in
    c.requires.marks y (Has-item ys ys c.loop-y.y-index y refl c.loop-y-test.true c.y-item.is)

pub returns-in_err-follow_both-clause-fault : goal.returns-in_err-follow_both-clause-fault
returns-in_err-follow_both-clause-fault c =
    let x = c.args.x.now in
    let ys = c.args.ys.now in
    let y = c.y-item.result in
    let i = c.loop-y.y-index in
    let k = c.args.self.now.found.keys in
    let w = c.args.self.now.ways.items in
    let e = c.in_err-follow_both.field-0.0 in
    handed_on (λ (e : SizeFault). IsRefusalOf (ways_with x ys) k w e) c.from_residual.result e c.from_residual.ensures.1
    (rw (row_split ways_meet way_pair x ys i y c.loop-y-test.true c.y-item.is)
    (refusal_then (ways_with x (take i ys)) (ways_with x (y ∷ [])) (ways_with x (drop (i + 1) ys)) k c.loop-y.self.found.keys w c.loop-y.self.ways.items e
    c.loop-y.invariant c.in_err-follow_both.ensures.fault))

pub loop-y-preserved : goal.loop-y-preserved
loop-y-preserved c =
    let x = c.args.x.now in
    let ys = c.args.ys.now in
    let y = c.y-item.result in
    let i = c.loop-y.y-index in
    let k = c.args.self.now.found.keys in
    let w = c.args.self.now.ways.items in
    let new = c.follow_both.new.self in
    rw (row_more ways_meet way_pair x ys i y c.loop-y-test.true c.y-item.is)
    (followed_then (ways_with x (take i ys)) (ways_with x (y ∷ [])) k c.loop-y.self.found.keys new.found.keys w c.loop-y.self.ways.items new.ways.items
    c.loop-y.invariant c.in_ok-follow_both.ensures.followed)
