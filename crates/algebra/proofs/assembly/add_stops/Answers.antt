use Rattle.std.proofs.Common.{◌≡◌, ◌+◌, ◌*◌, ◌^◌, ◌<◌, ◌++◌, List, [], length, map, take, get_or, refl, sym, ap, arith, ◌∙◌, append_assoc}
use Rattle.std.specs.Prelude.{slice_get, Some}
use Rattle.std.specs.List.{flat_map}
use Rattle.std.proofs.lemmas.List.{append-nil}
use Rattle.std.proofs.lemmas.Option.{slice_get-get_or}
use Rattle.span_core.specs.Lists.{Has}
use Rattle.algebra.specs.declared.halves.HalfStop.{HalfStop}
use Rattle.algebra.specs.declared.pairs.Pair.{Pair}
use Rattle.algebra.specs.Pairs.{IsStopAt, Matched, PairStop, half_at, pair_of, pairs, stop_at, stop_pair, stops_at_pair, stops_meet, tried_at}
use Rattle.algebra.specs.Joining.{IsJoinFaultWithin, IsSpentOn}
use Rattle.algebra.specs.Sides.{stops_tried}
use Rattle.algebra.proofs.EndLaws.{ends_with_pair, first_no_more}
use Rattle.algebra.proofs.StepLaws.{spent_by, stops_step}
use Rattle.algebra.proofs.JoinResults.{faults_more}
use Rattle.algebra.proofs.Followed.{handed_on, matched_append}
use Rattle.algebra.proofs.Searched.{rows_more, row_has, read_pair}
use Rattle.algebra.proofs.Assembled.{stops_match}
use Rattle.algebra.proofs.assembly.add_stops.Goals as goal

pub add_stops_at-requires-clause-marks : goal.add_stops_at-requires-clause-marks
add_stops_at-requires-clause-marks c = λ x y hx hy.
    rw (ap length c.loop-state.invariant.names)
    (c.requires.marks x y (row_has half_at _ c.args.xs.now x (rw c.stops_from.ensures at hx)).0
    (row_has half_at _ c.args.ys.now y (rw c.stops_from-in-loop-state.ensures at hy)).0)

pub loop-state-preserved : goal.loop-state-preserved
loop-state-preserved c =
    let inv = c.loop-state.invariant in
    let xs = c.args.xs.now in
    let ys = c.args.ys.now in
    let found = c.args.found.now in
    let i = c.loop-state.state in
    let k : Pair = get_or found i (pair_of 0 0) in
    let at : slice_get found i ≡ Some k = slice_get-get_or found i (pair_of 0 0) c.loop-state-test.true in
    let is : k ≡ get_or found i k = read_pair found found i (pair_of 0 0) k refl c.loop-state-test.true in
    let ok = c.in_ok-add_stops_at.ensures in
    let rows : pairs stops_meet stop_pair c.stops_from-in-loop-state.result.now c.stops_from.result.now ≡ stops_at_pair xs ys k =
    (λ j. pairs stops_meet stop_pair (c.stops_from-in-loop-state.ensures j) (c.stops_from.ensures j)) in
    let here = stops_at_pair xs ys k in
    let before = flat_map (stops_at_pair xs ys) (take i found) in
    let more : flat_map (stops_at_pair xs ys) (take (i + 1) found) ≡ before ++ here =
    ap (λ zs. flat_map (stops_at_pair xs ys) (take (i + 1) zs)) (sym (append-nil found)) ∙ rows_more (stops_at_pair xs ys) found [] i k c.loop-state-test.true is in
    let new = map (stop_at i) here in
    record {
      names = c.add_stops_at.ensures.names ∙ inv.names;
      stops = (
        inv.stops.0 ++ new,
        ok.stops ∙ (ap (λ zs. c.loop-state.automaton.graph.stops ++ map (stop_at i) zs) rows
            ∙ (ap (λ zs. zs ++ new) inv.stops.1 ∙ append_assoc c.args.automaton.now.graph.stops inv.stops.0 new)),
        rw more
            (matched_append (IsStopAt found) before here inv.stops.0 new inv.stops.2 (stops_match found i k xs ys at)),
      );
      same = record {
        states = ok.same.states ∙ inv.same.states;
        starts = ok.same.starts ∙ inv.same.starts;
        ways = ok.same.ways ∙ inv.same.ways;
        idle = ok.same.idle ∙ inv.same.idle;
      };
      effort = omega (arith, c.add_stops_at.ensures.effort, inv.effort);
      steps = omega (
        arith,
        ok.steps,
        inv.steps,
        stops_step xs ys found i k c.loop-state-test.true is c.stops_from.result.now c.stops_from-in-loop-state.result.now c.stops_from.ensures c.stops_from-in-loop-state.ensures,
      );
    }

pub returns-in_err-add_stops_at-clause-fault : goal.returns-in_err-add_stops_at-clause-fault
returns-in_err-add_stops_at-clause-fault c =
    let inv = c.loop-state.invariant in
    let xs = c.args.xs.now in
    let ys = c.args.ys.now in
    let found = c.args.found.now in
    let i = c.loop-state.state in
    let k : Pair = get_or found i (pair_of 0 0) in
    let is : k ≡ get_or found i k = read_pair found found i (pair_of 0 0) k refl c.loop-state-test.true in
    let rows : pairs stops_meet stop_pair c.stops_from-in-loop-state.result.now c.stops_from.result.now ≡ stops_at_pair xs ys k =
    (λ j. pairs stops_meet stop_pair (c.stops_from-in-loop-state.ensures j) (c.stops_from.ensures j)) in
    let e = c.in_err-add_stops_at.field-0.0 in
    let all = length c.args.automaton.now.graph.stops + length (flat_map (stops_at_pair xs ys) found) in
    let most = ends_with_pair c.args.automaton.now.graph.stops c.loop-state.automaton.graph.stops inv.stops.0 xs ys found i k c.loop-state-test.true is inv.stops.1 inv.stops.2 in
    let here = length c.loop-state.automaton.graph.stops + length (pairs stops_meet stop_pair c.stops_from-in-loop-state.result.now c.stops_from.result.now) in
    handed_on (IsJoinFaultWithin 0 0 all) c.from_residual.result e c.from_residual.ensures.1
    (faults_more 0 0 0 0 here all e (omega arith) (omega arith) (omega (arith, most, ap length rows)) c.in_err-add_stops_at.ensures.fault)

pub returns-in_err-add_stops_at-clause-spent : goal.returns-in_err-add_stops_at-clause-spent
returns-in_err-add_stops_at-clause-spent c =
    let xs = c.args.xs.now in
    let ys = c.args.ys.now in
    let found = c.args.found.now in
    let i = c.loop-state.state in
    let k : Pair = get_or found i (pair_of 0 0) in
    let is : k ≡ get_or found i k = read_pair found found i (pair_of 0 0) k refl c.loop-state-test.true in
    let lefts = c.stops_from.result.now in
    let rights = c.stops_from-in-loop-state.result.now in
    let e = c.in_err-add_stops_at.field-0.0 in
    let step = stops_step xs ys found i k c.loop-state-test.true is lefts rights c.stops_from.ensures c.stops_from-in-loop-state.ensures in
    let most = first_no_more (tried_at half_at half_at xs ys) (i + 1) found in
    handed_on (IsSpentOn c.args.effort.now (length (stops_tried xs ys found))) c.from_residual.result e c.from_residual.ensures.1
    (spent_by c.args.effort.now c.loop-state.effort (length lefts * length rights) (length (stops_tried xs ys found)) e (λ le. omega (arith, le, c.loop-state.invariant.steps, step, most))
    c.in_err-add_stops_at.ensures.spent)

pub returns-clause-steps : goal.returns-clause-steps
returns-clause-steps c =
    omega (arith, c.loop-state.invariant.steps, first_no_more (tried_at half_at half_at c.args.xs.now c.args.ys.now) c.loop-state.state c.args.found.now)
