use Rattle.std.proofs.Common.{◌≡◌, List, [], ◌∷◌, length, length-append, ap, ◌∙◌, arith}
use Rattle.std.specs.Prelude.{slice_get}
use Rattle.spanner_model.specs.Captures.{VarName}
use Rattle.spanner_model.specs.Expression.{ExprTree}
use Rattle.spanner_model.specs.ExprView.{expr_of, query_of}
use Rattle.plain_spanner.specs.declared.table.Table.{Table}
use Rattle.plain_spanner.specs.Tables.{AreTables, IsTableOf}
use Rattle.plain_spanner.proofs.RowLaws.{row_eq_exact}
use Rattle.plain_spanner.proofs.JoinTables.{tables_none, tables_more, asked_let, asked_body, are_answers}
use Rattle.plain_spanner.proofs.answers.all.Goals as goal

pub expr_table-requires : goal.expr_table-requires
expr_table-requires c =
    let q = query_of c.args.query.now in
    let is = c.deref.ensures.value in
    record {
      known = rw is c.loop-k.invariant.1;
      asked = asked_let q (length c.deref.result.now) c.loop-k.k (c.at.result.now.0, expr_of c.at.result.now.1) c.requires.sound (ap length is ∙ c.loop-k.invariant.0) c.at.ensures;
      short = c.requires.short;
    }

pub loop-k-init : goal.loop-k-init
loop-k-init c = (ap length c.new-tables.ensures.items, tables_none (query_of c.args.query.now) c.args.doc.now c.new-tables.result.items c.new-tables.ensures.items)

pub loop-k-preserved : goal.loop-k-preserved
loop-k-preserved c =
    let q = query_of c.args.query.now in
    let d = c.args.doc.now in
    let tables = c.loop-k.tables.items in
    let t = c.in_ok-table.table in
    let l : VarName × ExprTree = (c.at.result.now.0, expr_of c.at.result.now.1) in
    let items = c.in_ok-push.ensures.items in
    let table = rw c.deref.ensures.value at c.in_ok-table.ensures in (
      omega (arith, ap length items, length-append tables (t ∷ []), c.loop-k.invariant.0),
      tables_more q d tables c.push.new.self.items l t (ap (λ n. slice_get q.lets n) c.loop-k.invariant.0 ∙ c.at.ensures) c.loop-k.invariant.1 table items,
    )

pub expr_table-requires-2 : goal.expr_table-requires-2
expr_table-requires-2 c =
    let q = query_of c.args.query.now in
    let is = c.deref-2.ensures.value in
    let long : length c.deref-2.result.now ≡ length q.lets = omega (arith, ap length is, c.loop-k.invariant.0, c.loop-k-test.false, c.loop-k.auto.k-end, c.len-k-end.ensures) in
    record {
      known = rw is c.loop-k.invariant.1;
      asked = asked_body q (length c.deref-2.result.now) c.requires.sound long;
      short = c.requires.short;
    }

pub sort_once-requires : goal.sort_once-requires
sort_once-requires c = record { exact = λ x y e. row_eq_exact x y e }

pub returns : goal.returns
returns c =
    let q = query_of c.args.query.now in
    let is = c.deref-2.ensures.value in
    let long : length c.deref-2.result.now ≡ length q.lets = omega (arith, ap length is, c.loop-k.invariant.0, c.loop-k-test.false, c.loop-k.auto.k-end, c.len-k-end.ensures) in
    are_answers q c.args.doc.now (length c.deref-2.result.now) c.in_ok-table-2.table.names c.in_ok-table-2.table.rows.items
    c.sort_once.new.values.items long c.in_ok-table-2.ensures c.sort_once.ensures.in_order c.sort_once.ensures.keeps c.sort_once.ensures.adds_none
