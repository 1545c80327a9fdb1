use Rattle.std.proofs.Common.{◌≡◌, List, sym, subst}
use Rattle.span_core.specs.NameSets.{Ascending}
use Rattle.span_core.specs.Lists.{Has}
use Rattle.spanner_model.specs.Captures.{VarName}
use Rattle.spanner_model.specs.Gathered.{Adds, HaveRoom}
use Rattle.plain_spanner.specs.Listed.{Tells, FromSome}
use Rattle.plain_spanner.specs.Tables.{IsRowOver, IsUnited}
use Rattle.plain_spanner.proofs.TellsLaws.{tells_through, tells_both}
use Rattle.plain_spanner.proofs.RowLaws.{row_eq_exact}
use Rattle.plain_spanner.proofs.unite.unite.Goals as goal

pub add_names-requires : goal.add_names-requires
add_names-requires c = rw c.copy-names.ensures c.requires.room

pub sort_once-requires : goal.sort_once-requires
sort_once-requires c = record { exact = λ x y e. row_eq_exact x y e }

pub returns : goal.returns
returns c =
    let V = c.args.left.now.names in
    let W = c.args.right.now.names in
    let names = c.add_names.new.into in
    let lefts = c.args.left.now.rows.items in
    let rights = c.args.right.now.rows.items in
    let both = tells_both c.in_ok-all.all.rows.items c.in_ok-others.others.rows.items c.append.new.self.items (FromSome (IsRowOver V names) lefts) (FromSome (IsRowOver W names) rights)
    c.in_ok-append.ensures.items c.in_ok-all.ensures.rows c.in_ok-others.ensures.rows in
    let is : c.in_ok-all.all.names ≡ names = c.in_ok-all.ensures.names in
    let added = rw c.copy-names.ensures at c.add_names.ensures in
    let rows = tells_through (Has c.sort_once.new.values.items) (Has c.append.new.self.items) (IsUnited names V W lefts rights) c.sort_once.ensures.adds_none c.sort_once.ensures.keeps both in
    record {
      names = subst (Adds V (Has W)) (sym is) added;
      ascending = subst Ascending (sym is) c.over.ensures.ascending;
      rows = rw is rows;
    }
