use Rattle.std.proofs.Common.{List, [], ◌⊎◌, ◌<◌, length, get_or, arith, sym, ap, ◌∙◌}
use Rattle.span_core.specs.Lists.{Has}
use Rattle.spanner_model.specs.Answers.{SpanRow}
use Rattle.span_core.proofs.HasLaws.{Has-get_or}
use Rattle.plain_spanner.specs.Listed.{Tells, FromSome}
use Rattle.plain_spanner.specs.Tables.{IsRowOver}
use Rattle.plain_spanner.proofs.TellsLaws.{tells_through, tells_only, tells_pushed, from_none, from_more, from_all}
use Rattle.plain_spanner.proofs.RowLaws.{row_eq_exact}
use Rattle.plain_spanner.proofs.table.Table.over.Goals as goal

pub row_with-requires : goal.row_with-requires
row_with-requires c =
    let rows = c.deref-row-items.result.now in
    let r = c.row-item.result in
    let here : Has rows r = rw c.row-item.is (Has-get_or rows c.loop-row.row-index r c.loop-row-test.true) in
    c.requires r (rw (← c.deref-row-items.ensures.value) here)

pub loop-row-init : goal.loop-row-init
loop-row-init c =
    let R = IsRowOver c.args.self.now.names c.args.names.now in
    rw c.new-rows.ensures.items (from_none R (Has []))

pub loop-row-preserved : goal.loop-row-preserved
loop-row-preserved c =
    let old = c.args.self.now.rows.items in
    let rows = c.deref-row-items.result.now in
    let a = c.row-item.result in
    let R = IsRowOver c.args.self.now.names c.args.names.now in
    let within = rw c.deref-row-items.ensures.value at c.loop-row-test.true in
    let is = c.row-item.is ∙ ap (λ (xs : List SpanRow). get_or xs c.loop-row.row-index a) c.deref-row-items.ensures.value in
    let added = tells_pushed (R a) c.loop-row.rows.items c.row_with.result (λ y e. c.row_with.ensures ∙ sym e) c.row_with.ensures in
    from_more R (Has []) (Has c.loop-row.rows.items) (Has c.push.new.self.items) old c.loop-row.row-index a a within is c.loop-row.invariant
    (rw c.in_ok-push.ensures.items added)

pub sort_once-requires : goal.sort_once-requires
sort_once-requires c = record { exact = λ x y e. row_eq_exact x y e }

pub returns : goal.returns
returns c =
    let old = c.args.self.now.rows.items in
    let long = ap length c.deref-row-items.ensures.value in
    let R = IsRowOver c.args.self.now.names c.args.names.now in
    let all = from_all R (Has []) (Has c.loop-row.rows.items) old c.loop-row.row-index (omega (arith, long)) (omega (arith, long)) c.loop-row.invariant in
    record {
      names = c.copy.ensures;
      ascending = c.len.ensures.ascending;
      rows = tells_through (Has c.sort_once.new.values.items) (Has c.loop-row.rows.items) (FromSome R old) c.sort_once.ensures.adds_none c.sort_once.ensures.keeps
          (tells_only (Has c.loop-row.rows.items) (Has []) (FromSome R old) (λ x h. h) all);
    }
