use Rattle.std.proofs.Common.{subst, sym}
use Rattle.std.specs.Option.{option_copied}
use Rattle.spanner_model.specs.ExprView.{query_of}
use Rattle.spanner_engine.specs.Begun.{row_kept}
use Rattle.spanner_engine.specs.Left.{AreLeft}
use Rattle.spanner_engine.proofs.ReadAt.{answers_left, parts_within, read_limit, rows_listed, steps_read, steps_sought, table_cause}
use Rattle.spanner_engine.proofs.beginning.begin_with.Goals as goal

pub lists-requires-clause-within : goal.lists-requires-clause-within
lists-requires-clause-within g c = parts_within c.args.options.filter (query_of c.args.query.now) c.args.doc.now c.in-Ok.positions c.in-Ok.ensures.read

pub new-rows-requires-clause-rows : goal.new-rows-requires-clause-rows
new-rows-requires-clause-rows g c =
    rows_listed c.args.options.filter (query_of c.args.query.now) c.args.doc.now c.in-Ok.positions c.in-Ok.ensures.read
    c.args.automaton.now c.requires.compiled c.is_marked.ensures c.type_inv.doc _ c.in-Ok-lists.ensures.words c.len.result c.vars.result.now c.len.ensures.value c.vars.ensures

pub returns-in-Err-Full-lists-clause-fault : goal.returns-in-Err-Full-lists-clause-fault
returns-in-Err-Full-lists-clause-fault g c =
    let full = c.in-Err-Full-lists in
    table_cause c.args.options.filter (query_of c.args.query.now) c.args.doc.now c.in-Ok.positions c.in-Ok.ensures.read
    c.args.automaton.now c.requires.compiled c.is_marked.ensures c.args.options.limit full.weight full.field-0 full.field-0-is full.ensures.cause

pub returns-in-Err-Full-lists-clause-steps : goal.returns-in-Err-Full-lists-clause-steps
returns-in-Err-Full-lists-clause-steps g c =
    steps_read c.args.options.filter (query_of c.args.query.now) c.args.doc.now c.in-Ok.positions c.in-Ok.ensures.read
    c.args.automaton.now c.requires.compiled c.is_marked.ensures c.args.cache.now.kept c.args.steps.now c.positions_read.new.steps c.lists.new.steps
    (row_kept (option_copied c.args.after)) c.positions_read.ensures.steps c.lists.ensures.steps

pub returns-in-Err-OutOfMemory-lists-clause-steps : goal.returns-in-Err-OutOfMemory-lists-clause-steps
returns-in-Err-OutOfMemory-lists-clause-steps g c =
    steps_read c.args.options.filter (query_of c.args.query.now) c.args.doc.now c.in-Ok.positions c.in-Ok.ensures.read
    c.args.automaton.now c.requires.compiled c.is_marked.ensures c.args.cache.now.kept c.args.steps.now c.positions_read.new.steps c.lists.new.steps
    (row_kept (option_copied c.args.after)) c.positions_read.ensures.steps c.lists.ensures.steps

pub returns-clause-left : goal.returns-clause-left
returns-clause-left g c =
    subst (λ rest. AreLeft (query_of c.args.query.now) c.args.doc.now c.args.automaton.now.names (row_kept (option_copied c.args.after)) rest) (sym c.over.ensures.rest)
    (answers_left c.args.options.filter (query_of c.args.query.now) c.args.doc.now c.in-Ok.positions c.in-Ok.ensures.read
    c.args.automaton.now c.requires.compiled c.is_marked.ensures c.type_inv.doc _ c.in-Ok-lists.ensures.words c.len.result c.vars.result.now c.len.ensures.value c.vars.ensures
    c.new-rows.result.whole _ (row_kept (option_copied c.args.after)) c.new-rows.ensures.whole c.new-rows.ensures.order c.from_row.ensures.rest)

pub returns-clause-weighs : goal.returns-clause-weighs
returns-clause-weighs g c =
    read_limit c.args.options.filter (query_of c.args.query.now) c.args.doc.now c.in-Ok.positions c.in-Ok.ensures.read
    c.args.automaton.now c.requires.compiled c.is_marked.ensures c.args.options.limit c.in-Ok-lists.ensures.weighs

pub returns-clause-atoms : goal.returns-clause-atoms
returns-clause-atoms g c = c.in-Ok.ensures.within

pub returns-clause-steps : goal.returns-clause-steps
returns-clause-steps g c =
    steps_sought c.args.options.filter (query_of c.args.query.now) c.args.doc.now c.in-Ok.positions c.in-Ok.ensures.read
    c.args.automaton.now c.requires.compiled c.is_marked.ensures c.args.cache.now.kept c.args.steps.now c.positions_read.new.steps c.lists.new.steps
    c.from_row.new.steps c.new-rows.result.cells _ (row_kept (option_copied c.args.after))
    c.positions_read.ensures.steps c.lists.ensures.steps c.new-rows.ensures.cells c.in-Ok-lists.ensures.cells c.from_row.ensures.steps
