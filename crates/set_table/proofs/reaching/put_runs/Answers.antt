use Rattle.std.proofs.Common.{◌+◌, ◌∙◌, List, drop, sym, subst}
use Rattle.marked_automaton.specs.declared.way.Way.{Way}
use Rattle.set_table.specs.Runs.{AreRuns}
use Rattle.set_table.proofs.WayRunLaws.{read_run, runs_next, skip_run}
use Rattle.set_table.proofs.reaching.put_runs.Goals.{then-contains+in_ok-put_row, else-contains}
use Rattle.set_table.proofs.reaching.put_runs.Goals as goal

pub loop-bytes-preserved : goal.loop-bytes-preserved
loop-bytes-preserved c =
    let b = c.args.byte in
    let ways = c.args.ways.now in
    let i = c.loop-bytes.bytes-index in
    let rest = c.loop-bytes.rest.now in
    let before = c.args.codes.now.items in
    let codes = c.loop-bytes.codes.items in
    let run = c.first_run.result.0.now in
    let behind = c.if-contains.rest.now in
    let new = c.if-contains.codes.items in
    let next = runs_next rest c.args.runs.now i c.bytes-item.result c.loop-bytes-test.true c.bytes-item.is c.loop-bytes.invariant.0 in
    elim c.if-contains.branch [
      | then-contains+in_ok-put_row w ↦
          let left = (λ j. (w.rest-is j).now) ∙ c.first_run.ensures.behind in (
            subst (λ (ys : List Way). AreRuns ys (drop (i + 1) c.args.runs.now)) (sym left) next.1,
            read_run b ways rest run behind before codes new c.loop-bytes.invariant.1 c.first_run.ensures.run left ((λ j. (w.codes-is j).items) ∙ w.in_ok-put_row.ensures),
          )
      | else-contains w ↦
          let left = (λ j. (w.rest-is j).now) ∙ c.first_run.ensures.behind in (
            subst (λ (ys : List Way). AreRuns ys (drop (i + 1) c.args.runs.now)) (sym left) next.1,
            skip_run b ways rest behind before codes new c.bytes-item.result c.loop-bytes.invariant.1 (sym c.contains.ensures ∙ w.if-contains.false) next.0 left (λ j. (w.codes-is j).items),
          )
    ]
