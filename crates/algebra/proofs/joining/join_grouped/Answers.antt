use Rattle.std.proofs.Common.{◌≤◌, length, ap, arith}
use Rattle.std.proofs.lemmas.Result.{IfErr-weaker, on_ok_weaker}
use Rattle.span_core.specs.declared.TheConstants.{MOST_VARIABLES}
use Rattle.algebra.specs.Joining.{IsJoinFault, IsSpentOn, most_steps}
use Rattle.algebra.specs.Sides.{stops_tried}
use Rattle.algebra.proofs.StepLaws.{spent_by, spent_more}
use Rattle.algebra.proofs.Followed.{handed_on}
use Rattle.algebra.proofs.JoinTheory as of
use Rattle.algebra.proofs.NamesLaws.{names_by}
use Rattle.algebra.proofs.joining.join_grouped.Goals as goal

pub searched-requires-clause-marks : goal.searched-requires-clause-marks
searched-requires-clause-marks c =
    let all_are = names_by c.names_of_both-all.ensures c.vars.ensures c.vars-2.ensures in
    let few : length c.names_of_both-all.result ≤ MOST_VARIABLES = omega (arith, ap length all_are, c.requires.few) in
    of.small_marks c.is_marked.ensures c.is_marked-2.ensures c.names_of_both-all.result c.in_ok-left.ensures.side c.in_ok-right.ensures.side few

pub returns-in_err-reached-clause-fault : goal.returns-in_err-reached-clause-fault
returns-in_err-reached-clause-fault c =
    let all_are = names_by c.names_of_both-all.ensures c.vars.ensures c.vars-2.ensures in
    let e = c.in_err-reached.field-0.0 in
    handed_on (IsJoinFault c.args.a.now c.args.b.now) c.from_residual-in_err-reached.result e c.from_residual-in_err-reached.ensures.1
    (of.told_refusal c.is_marked.ensures c.is_marked-2.ensures c.names_of_both-all.result c.in_ok-left.ensures.side c.in_ok-right.ensures.side all_are e c.in_err-reached.ensures.fault)

pub assembled-requires-clause-starts : goal.assembled-requires-clause-starts
assembled-requires-clause-starts c =
    of.starts_few c.is_marked.ensures c.is_marked-2.ensures c.names_of_both-all.result c.in_ok-left.ensures.side c.in_ok-right.ensures.side c.in_ok-reached.ensures.searched

pub assembled-requires-clause-ways : goal.assembled-requires-clause-ways
assembled-requires-clause-ways c =
    of.all_fit c.is_marked.ensures c.is_marked-2.ensures c.names_of_both-all.result c.in_ok-left.ensures.side c.in_ok-right.ensures.side c.in_ok-reached.ensures.searched

pub assembled-requires-clause-within : goal.assembled-requires-clause-within
assembled-requires-clause-within c =
    of.within_sides c.is_marked.ensures c.is_marked-2.ensures c.names_of_both-all.result c.in_ok-left.ensures.side c.in_ok-right.ensures.side c.in_ok-reached.ensures.searched

pub assembled-requires-clause-idle : goal.assembled-requires-clause-idle
assembled-requires-clause-idle c =
    of.idle_in_sides c.is_marked.ensures c.is_marked-2.ensures c.names_of_both-all.result c.in_ok-left.ensures.side c.in_ok-right.ensures.side c.in_ok-reached.ensures.searched

pub assembled-requires-clause-marks : goal.assembled-requires-clause-marks
assembled-requires-clause-marks c =
    of.small_stop_marks c.is_marked.ensures c.is_marked-2.ensures c.names_of_both-all.result c.in_ok-left.ensures.side c.in_ok-right.ensures.side

pub returns-clause-join : goal.returns-clause-join
returns-clause-join c =
    let all_are = names_by c.names_of_both-all.ensures c.vars.ensures c.vars-2.ensures in
    of.join_made c.is_marked.ensures c.is_marked-2.ensures c.names_of_both-all.result c.in_ok-left.ensures.side c.in_ok-right.ensures.side c.in_ok-reached.ensures.searched
    all_are c.assembled.result c.assembled.ensures.names c.assembled.ensures.made

pub returns-clause-fault : goal.returns-clause-fault
returns-clause-fault c =
    let all_are = names_by c.names_of_both-all.ensures c.vars.ensures c.vars-2.ensures in
    of.fault_made c.is_marked.ensures c.is_marked-2.ensures c.names_of_both-all.result c.in_ok-left.ensures.side c.in_ok-right.ensures.side c.in_ok-reached.ensures.searched
    all_are c.assembled.result c.assembled.ensures.fault

pub returns-in_err-reached-clause-spent : goal.returns-in_err-reached-clause-spent
returns-in_err-reached-clause-spent c =
    let most = most_steps c.args.a.now c.args.b.now in
    let e = c.in_err-reached.field-0.0 in
    let ways = of.ways_steps c.is_marked.ensures c.is_marked-2.ensures c.names_of_both-all.result c.in_ok-left.ensures.side c.in_ok-right.ensures.side in
    handed_on (IsSpentOn c.args.effort.now most) c.from_residual-in_err-reached.result e c.from_residual-in_err-reached.ensures.1
    (spent_more c.args.effort.now _ most e (omega (arith, ways)) c.in_err-reached.ensures.spent)

pub returns-clause-spent : goal.returns-clause-spent
returns-clause-spent c =
    let ways = of.ways_steps c.is_marked.ensures c.is_marked-2.ensures c.names_of_both-all.result c.in_ok-left.ensures.side c.in_ok-right.ensures.side in
    let ends = of.stops_steps c.is_marked.ensures c.is_marked-2.ensures c.names_of_both-all.result c.in_ok-left.ensures.side c.in_ok-right.ensures.side c.in_ok-reached.ensures.searched in
    let after = c.searched.new.effort in
    let tried = length (stops_tried c.in_ok-left.left.stops.items c.in_ok-right.right.stops.items c.in_ok-reached.reached.found.keys) in
    IfErr-weaker c.assembled.result (IsSpentOn after tried) (IsSpentOn c.args.effort.now (most_steps c.args.a.now c.args.b.now))
    (λ e h. spent_by c.args.effort.now after tried (most_steps c.args.a.now c.args.b.now) e (λ le. omega (arith, le, ways, ends, c.in_ok-reached.ensures.steps)) h) c.assembled.ensures.spent

pub returns-clause-steps : goal.returns-clause-steps
returns-clause-steps c =
    let ways = of.ways_steps c.is_marked.ensures c.is_marked-2.ensures c.names_of_both-all.result c.in_ok-left.ensures.side c.in_ok-right.ensures.side in
    let ends = of.stops_steps c.is_marked.ensures c.is_marked-2.ensures c.names_of_both-all.result c.in_ok-left.ensures.side c.in_ok-right.ensures.side c.in_ok-reached.ensures.searched in
    on_ok_weaker c.assembled.result (λ le. omega (arith, le, ways, ends, c.in_ok-reached.ensures.steps)) c.assembled.ensures.steps
