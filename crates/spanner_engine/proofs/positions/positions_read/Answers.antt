use Rattle.std.proofs.Common.{length}
use Rattle.spanner_model.specs.ExprView.{query_of}
use Rattle.spanner_engine.proofs.ReadAt.{covers_whole, read_whole}
use Rattle.spanner_engine.proofs.positions.positions_read.Goals as goal

pub returns-clause-read : goal.returns-clause-read
returns-clause-read g c = λ i.
    let whole = read_whole c.args.options.filter (query_of c.args.query.now) c.args.doc.now c.if-leaves_out.ensures.no i in
    let all = covers_whole c.in_ok-all.field-0 (length c.args.doc.now) i c.in_ok-all.ensures in
    (λ h. whole.0 (all.0 h), λ h. all.1 (whole.1 h))

pub returns-then-leaves_out-clause-read : goal.returns-then-leaves_out-clause-read
returns-then-leaves_out-clause-read g c =
    rw c.if-leaves_out.ensures.yes.0 c.touched_by_query.ensures.touched
