use Rattle.std.proofs.Common.{◌+◌, List, drop, sym, subst}
use Rattle.marked_automaton.specs.declared.way.Way.{Way}
use Rattle.set_table.specs.Runs.{AreRuns, Bounds}
use Rattle.set_table.proofs.WayRunLaws.{passing_all, passing_more, passing_none, runs_end, runs_next}
use Rattle.set_table.proofs.staying.Leading.add_runs.Goals as goal

pub loop-bytes-init : goal.loop-bytes-init
loop-bytes-init c = (c.requires.runs, passing_none c.args.members.now c.args.ways.now c.args.self.now c.requires.count)

pub add_run-requires-clause-bounds : goal.add_run-requires-clause-bounds
add_run-requires-clause-bounds c =
    subst (Bounds c.bytes-item.result) (sym c.first_run.ensures.run)
    (runs_next c.loop-bytes.rest.now c.args.runs.now c.loop-bytes.bytes-index c.bytes-item.result c.loop-bytes-test.true c.bytes-item.is c.loop-bytes.invariant.0).0

pub loop-bytes-preserved : goal.loop-bytes-preserved
loop-bytes-preserved c =
    let i = c.loop-bytes.bytes-index in
    let rest = c.loop-bytes.rest.now in
    let next = runs_next rest c.args.runs.now i c.bytes-item.result c.loop-bytes-test.true c.bytes-item.is c.loop-bytes.invariant.0 in (
      subst (λ (ys : List Way). AreRuns ys (drop (i + 1) c.args.runs.now)) (sym c.first_run.ensures.behind) next.1,
      passing_more c.args.members.now c.args.ways.now rest c.first_run.result.0.now c.first_run.result.1.now c.args.self.now c.loop-bytes.self c.add_run.new.self
          c.loop-bytes.invariant.1 c.first_run.ensures.run c.first_run.ensures.behind c.add_run.ensures.count c.add_run.ensures.gathered,
    )

pub returns-clause-gathered : goal.returns-clause-gathered
returns-clause-gathered c =
    passing_all c.args.members.now c.args.ways.now c.loop-bytes.rest.now c.args.self.now c.loop-bytes.self c.loop-bytes.invariant.1
    (runs_end c.loop-bytes.rest.now c.args.runs.now c.loop-bytes.bytes-index c.loop-bytes-test.false c.loop-bytes.invariant.0)
