use Rattle.std.proofs.Common.{rules, ◌≡◌, ◌<◌}
use Rattle.rematch_c.proofs.CallLaws.{filled, filled_no_room, filled_other}
use Rattle.rematch_c.proofs.held.fill.Goals as goal

pub returns-in_default : goal.returns-in_default
returns-in_default c = filled_other c.args.held.now c.args.out.now c.args.most c.args.given.now c.in_default.not-Rows c.requires.none

pub returns-then-most-gt0 : goal.returns-then-most-gt0
returns-then-most-gt0 c =
    let some : 0 < c.args.most = search rules in
    let zero : c.fitting-fitting.result ≡ 0 = search rules in
    filled_no_room c.args.held.now c.in-Rows.rows c.args.out.now c.args.most c.fitting-fitting.result c.args.given.now c.in-Rows.is c.requires.none some zero c.fitting-fitting.ensures

pub returns : goal.returns
returns c =
    let some : 0 < c.args.most → 0 < c.fitting-fitting.result = λ wanted. search rules in
    filled c.args.held.now c.in-Rows.rows c.fill.new.self c.args.out.now c.fill.new.out c.args.most c.fitting-fitting.result c.fill.result c.in-Rows.is c.fill.ensures.query c.fill.ensures.document some
    c.fitting-fitting.ensures c.fill.ensures.given
