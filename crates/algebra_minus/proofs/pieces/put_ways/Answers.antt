use Rattle.std.proofs.Common.{◌≡◌, ◌+◌, [], ◌++◌, length, take, sym, ap, ◌∙◌, arith}
use Rattle.std.specs.Prelude.{nat_eq}
use Rattle.std.specs.List.{flat_map}
use Rattle.std.proofs.Math.Seq.{take-length}
use Rattle.std.proofs.lemmas.List.Kept.{IsNonDecreasingBy-filter}
use Rattle.marked_automaton.specs.declared.way.Way.{Way}
use Rattle.marked_automaton.proofs.Segments.{are_grouped, rises}
use Rattle.algebra_minus.specs.Pieces.{way_marks, ways_of}
use Rattle.algebra_minus.proofs.CoveringLaws.{member_alike}
use Rattle.algebra_minus.proofs.KnownLaws.{alike_both, alike_then}
use Rattle.algebra_minus.proofs.pieces.put_ways.Goals as goal

pub ways_at-ways-requires-clause-ways : goal.ways_at-ways-requires-clause-ways
ways_at-ways-requires-clause-ways c =
    let ways = c.args.right.now.automaton.now.graph.ways in
    let m = c.args.marks in
    let is = c.requires.rights in
    rw (c.with_marks-row.ensures, is.rows m)
    (are_grouped _ (IsNonDecreasingBy-filter (λ (y : Way). y.from) (λ (y : Way). nat_eq (way_marks y) m) ways (rises ways is.grouped)))

pub put_taken-requires : goal.put_taken-requires
put_taken-requires c = λ t b k. c.loop-place.invariant.known t b (c.in_ok-make_room.ensures t b k)

pub loop-place-preserved : goal.loop-place-preserved
loop-place-preserved c =
    let right = c.args.right.now in
    let m = c.args.marks in
    let f = ways_of right.ways.now m in
    let members = c.args.members.now in
    let xs = c.loop-place.taken.items in
    let i = c.loop-place.place in
    let ways = c.ways_at-ways.result.now in
    let next = flat_map f (take (i + 1) members) in
    let more = member_alike right.automaton.now.graph.ways right.ways.now c.requires.rights.rows m right.covering.now c.with_marks-row.result.now members i ways
    c.requires.rights.covering c.with_marks-row.ensures c.loop-place-test.true c.ways_at-ways.ensures in
    record {
      known = c.in_ok-put_taken.ensures.known;
      ways = alike_then c.put_taken.new.taken.items (xs ++ ways) next c.in_ok-put_taken.ensures.ways
          (alike_then (xs ++ ways) (flat_map f (take i members) ++ ways) next (alike_both xs (flat_map f (take i members)) ways c.loop-place.invariant.ways) more);
      effort = omega (arith, c.charge.ensures.effort, c.loop-place.invariant.effort);
      room = omega (arith, c.charge.ensures.room, c.loop-place.invariant.room);
    }

pub returns-clause-ways : goal.returns-clause-ways
returns-clause-ways c =
    let members = c.args.members.now in
    let at : c.loop-place.place ≡ length members = omega (arith, c.loop-place-test.false, c.loop-place.auto.place-end) in
    rw (← (ap (λ k. take k members) at ∙ take-length members)) c.loop-place.invariant.ways
