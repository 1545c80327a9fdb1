use Rattle.std.proofs.Common.{subst}
use Rattle.automaton_reading.specs.Reading.{byte_read}
use Rattle.set_table.specs.Tabled.{HasEdges, IsRefusal, look_up, once_asked}
use Rattle.set_table.proofs.OnceLaws.{gives_err, gives_ok}
use Rattle.segment_filter.proofs.FirstTargets.{next_is, not_asked}
use Rattle.segment_filter.proofs.targets.asked_target.Goals as goal

pub returns-in-Ok-clause-ok : goal.returns-in-Ok-clause-ok
returns-in-Ok-clause-ok g c =
    next_is c.args.table.now c.row.follows.lender-at-none c.args.set c.args.byte c.target_of.result c.in-Ok.edges.now c.target_of.ensures
    (gives_ok HasEdges c.args.table.now (look_up c.args.table.now c.args.set (byte_read c.args.byte)) c.row.result c.row.follows.lender-at-none c.row.follows.holds-at-none c.in-Ok.edges c.in-Ok.is)

pub returns-in-Err-Full-clause-full : goal.returns-in-Err-Full-clause-full
returns-in-Err-Full-clause-full g c =
    let t = c.args.table.now in
    let r = look_up t c.args.set (byte_read c.args.byte) in
    let refused = gives_err HasEdges t r c.row.result c.row.follows.lender-at-none c.row.follows.holds-at-none c.in-Err-Full.field-0 c.in-Err-Full.is in
    let full = subst (IsRefusal (once_asked t r)) c.in-Err-Full.field-0-is refused.1 in
    not_asked t r c.in-Err-Full.weight c.row.ensures.tabled full.0 full.1
