use Rattle.std.proofs.Common.{◌≡◌, ◌+◌, List, ◌++◌, take, drop, length, rules, refl, sym, arith, ◌∙◌, append_assoc}
use Rattle.std.specs.Prelude.{slice_get, Some}
use Rattle.span_core.proofs.ListLaws.{get_left}
use Rattle.marked_automaton.specs.declared.fault.SizeFault.{SizeFault}
use Rattle.marked_automaton.specs.declared.fault.SizeFault.TheVariants.{Ways}
use Rattle.algebra.specs.Pairs.{PairWay, IsFollowed, IsRefusalOf, pair_of, pairs, way_pair, ways_meet, ways_with}
use Rattle.algebra.proofs.Alike.{Has-item}
use Rattle.algebra.proofs.Followed.{followed_none, followed_then, refusal_then, refusal_of_ways, pairs_more, pairs_split, handed_on}
use Rattle.algebra.proofs.pairs.Search.follow_pair.Goals as goal

pub loop-x-init : goal.loop-x-init
loop-x-init c = followed_none c.args.self.now.found.keys c.args.self.now.ways.items

pub follow_way-requires-clause-from : goal.follow_way-requires-clause-from
follow_way-requires-clause-from c = λ y h.
    let xs = c.args.xs.now in
    let x = c.x-item.result in
    let inv = c.loop-x.invariant in
    let at = pair_of x.way.from y.way.from in
    let has = Has-item xs xs c.loop-x.x-index x refl c.loop-x-test.true c.x-item.is in
    rw inv.keys (get_left c.args.self.now.found.keys inv.found c.args.from at (c.requires.from x y has h))

pub follow_way-requires-clause-marks : goal.follow_way-requires-clause-marks
follow_way-requires-clause-marks c = λ y h.
    let xs = c.args.xs.now in
    let x = c.x-item.result in
    c.requires.marks x y (Has-item xs xs c.loop-x.x-index x refl c.loop-x-test.true c.x-item.is) h

pub returns-in_err-follow_way-clause-fault : goal.returns-in_err-follow_way-clause-fault
returns-in_err-follow_way-clause-fault c =
    let xs = c.args.xs.now in
    let ys = c.args.ys.now in
    let x = c.x-item.result in
    let i = c.loop-x.x-index in
    let k = c.args.self.now.found.keys in
    let w = c.args.self.now.ways.items in
    let e = c.in_err-follow_way.field-0.0 in
    handed_on (λ (e : SizeFault). IsRefusalOf (pairs ways_meet way_pair ys xs) k w e) c.from_residual.result e c.from_residual.ensures.1
    (rw (pairs_split ways_meet way_pair xs ys i x c.loop-x-test.true c.x-item.is)
    (refusal_then (pairs ways_meet way_pair ys (take i xs)) (ways_with x ys) (pairs ways_meet way_pair ys (drop (i + 1) xs)) k c.loop-x.self.found.keys w c.loop-x.self.ways.items e
    c.loop-x.invariant c.in_err-follow_way.ensures.fault))

pub returns-then-len-gt-MOST_WAYS-clause-fault : goal.returns-then-len-gt-MOST_WAYS-clause-fault
returns-then-len-gt-MOST_WAYS-clause-fault c =
    let xs = c.args.xs.now in
    let ys = c.args.ys.now in
    let x = c.x-item.result in
    let i = c.loop-x.x-index in
    let k = c.args.self.now.found.keys in
    let w = c.args.self.now.ways.items in
    let new = c.follow_way.new.self in
    let before = pairs ways_meet way_pair ys (take i xs) in
    let rest = pairs ways_meet way_pair ys (drop (i + 1) xs) in
    let count = c.len-then-len-gt-MOST_WAYS.result in
    let split = pairs_split ways_meet way_pair xs ys i x c.loop-x-test.true c.x-item.is ∙ sym (append_assoc before (ways_with x ys) rest) in
    rw split
    (refusal_of_ways (before ++ ways_with x ys) rest k new.found.keys w new.ways.items count
    (followed_then before (ways_with x ys) k c.loop-x.self.found.keys new.found.keys w c.loop-x.self.ways.items new.ways.items c.loop-x.invariant c.in_ok-follow_way.ensures.followed)
    (omega (arith, c.if-len-gt-MOST_WAYS.true, c.len.ensures, c.len-then-len-gt-MOST_WAYS.ensures)) (let e : count ≡ length new.ways.items =
    search (rules, c.len-then-len-gt-MOST_WAYS.ensures, new.ways.ok) in e))

pub loop-x-preserved : goal.loop-x-preserved
loop-x-preserved c =
    let xs = c.args.xs.now in
    let ys = c.args.ys.now in
    let x = c.x-item.result in
    let i = c.loop-x.x-index in
    let k = c.args.self.now.found.keys in
    let w = c.args.self.now.ways.items in
    let new = c.follow_way.new.self in
    rw (pairs_more ways_meet way_pair xs ys i x c.loop-x-test.true c.x-item.is)
    (followed_then (pairs ways_meet way_pair ys (take i xs)) (ways_with x ys) k c.loop-x.self.found.keys new.found.keys w c.loop-x.self.ways.items new.ways.items
    c.loop-x.invariant c.in_ok-follow_way.ensures.followed)
