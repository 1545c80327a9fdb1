use Rattle.std.proofs.Common.{◌<◌, ◌⊎◌, List, [], length, get_or, ap, ◌∙◌, arith}
use Rattle.span_core.specs.Lists.{Has}
use Rattle.spanner_model.specs.Captures.{VarName}
use Rattle.spanner_model.specs.Answers.{SpanRow}
use Rattle.spanner_model.specs.Gathered.{Adds, HaveRoom}
use Rattle.span_core.proofs.HasLaws.{Has-get_or}
use Rattle.plain_spanner.specs.Listed.{Tells, FromSome}
use Rattle.plain_spanner.specs.Tables.{JoinsRow}
use Rattle.plain_spanner.proofs.TellsLaws.{tells_only, from_none, from_more, from_all}
use Rattle.plain_spanner.proofs.JoinLaws.{rows_joined}
use Rattle.plain_spanner.proofs.join.join.Goals as goal

pub places_by_key-requires : goal.places_by_key-requires
places_by_key-requires c = c.requires.right

pub add_names-requires : goal.add_names-requires
add_names-requires c = rw c.copy-names.ensures c.requires.room

pub add_joins-requires : goal.add_joins-requires
add_joins-requires c =
    let rows = c.deref-row-items.result.now in
    let r = c.row-item.result in
    let here : Has rows r = rw c.row-item.is (Has-get_or rows c.loop-row.row-index r c.loop-row-test.true) in
    record {
      left = c.requires.left r (rw (← c.deref-row-items.ensures.value) here);
      right = c.requires.right;
      shared = c.names_in_both-shared.ensures;
      places = c.in_ok-places.ensures;
    }

pub loop-row-init : goal.loop-row-init
loop-row-init c =
    let R = JoinsRow c.add_names.new.into c.args.left.now.names c.args.right.now.names c.args.right.now.rows.items in
    rw c.new-rows.ensures.items (from_none R (Has []))

pub loop-row-preserved : goal.loop-row-preserved
loop-row-preserved c =
    let R = JoinsRow c.add_names.new.into c.args.left.now.names c.args.right.now.names c.args.right.now.rows.items in
    let a = c.row-item.result in
    let within = rw c.deref-row-items.ensures.value at c.loop-row-test.true in
    let is = c.row-item.is ∙ ap (λ (xs : List SpanRow). get_or xs c.loop-row.row-index a) c.deref-row-items.ensures.value in
    from_more R (Has []) (Has c.loop-row.rows.items) (Has c.add_joins.new.rows.items) c.args.left.now.rows.items c.loop-row.row-index a a within is c.loop-row.invariant c.in_ok-add_joins.ensures

pub returns : goal.returns
returns c =
    let V = c.args.left.now.names in
    let W = c.args.right.now.names in
    let names = c.add_names.new.into in
    let lefts = c.args.left.now.rows.items in
    let rights = c.args.right.now.rows.items in
    let R = JoinsRow names V W rights in
    let long = ap length c.deref-row-items.ensures.value in
    let all = from_all R (Has []) (Has c.loop-row.rows.items) lefts c.loop-row.row-index (omega (arith, long)) (omega (arith, long)) c.loop-row.invariant in
    record {
      names = rw (← c.copy-names.ensures) c.add_names.ensures;
      ascending = c.len.ensures.ascending;
      rows = rows_joined names V W lefts rights (Has c.loop-row.rows.items) (tells_only (Has c.loop-row.rows.items) (Has []) (FromSome R lefts) (λ x h. h) all);
    }
