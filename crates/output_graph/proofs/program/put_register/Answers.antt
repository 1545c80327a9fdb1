use Rattle.std.proofs.Common.{sym, ◌∙◌, arith}
use Rattle.std.proofs.lemmas.Option.{slice_get_past}
use Rattle.output_graph.proofs.PlanLaws.{put_behind, put_within}
use Rattle.output_graph.proofs.program.put_register.Goals as goal

pub returns-then-place-len-clause-held : goal.returns-then-place-len-clause-held
returns-then-place-len-clause-held c =
    let has = c.args.held.now.ok.0 in
    let len = c.len.ensures in
    let lt = c.if-place-len.true in
    sym (put_within c.args.held.now.items c.args.place c.args.register (omega arith))

pub returns-clause-had : goal.returns-clause-had
returns-clause-had c =
    let has = c.args.held.now.ok.0 in
    let len = c.len.ensures in
    let le = c.if-place-len.false in
    sym (slice_get_past c.args.held.now.items c.args.place (omega arith))

pub returns-clause-held : goal.returns-clause-held
returns-clause-held c =
    let has = c.args.held.now.ok.0 in
    let len = c.len.ensures in
    let le = c.if-place-len.false in
    c.in_ok-push.ensures.items ∙ sym (put_behind c.args.held.now.items c.args.place c.args.register (omega arith))
