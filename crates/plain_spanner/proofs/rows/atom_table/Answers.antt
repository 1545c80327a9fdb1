use Rattle.std.proofs.Common.{◌≡◌, ◌⊎◌, List, [], ◌∷◌, length, arith}
use Rattle.span_core.specs.Lists.{Has}
use Rattle.spanner_model.specs.Answers.{SpanRow}
use Rattle.spanner_model.specs.Answer.{FitsSomewhere}
use Rattle.spanner_model.specs.View.{tree_of, atom_of}
use Rattle.spanner_model.specs.Fit.{Fit}
use Rattle.plain_spanner.specs.Listed.{Tells, FromSome, CapturesAndEnds, HasFit, Continued, EndWithin}
use Rattle.plain_spanner.specs.Tables.{IsRowOf, IsRowOfFits}
use Rattle.plain_spanner.proofs.TellsLaws.{tells_through}
use Rattle.plain_spanner.proofs.FitLists.{here_within}
use Rattle.plain_spanner.proofs.RowLaws.{FitsBefore, places_none, places_more, places_all, row_eq_exact, gathered_are, are_gathered}
use Rattle.plain_spanner.proofs.rows.atom_table.Goals as goal

pub go_on-requires-clause-within : goal.go_on-requires-clause-within
go_on-requires-clause-within c =
    let o = c.places-from-end.ensures.only c.loop-from.from c.loop-from-test.true in
    rw c.in_ok-at.ensures (here_within c.loop-from.from (length c.args.doc.now) o.0)

pub loop-from-init : goal.loop-from-init
loop-from-init c =
    rw c.new-rows.ensures.items
    (places_none c.args.atom.now.to_end (tree_of c.args.atom.now.formula) c.args.doc.now c.gather-all.new.into)

pub loop-from-preserved : goal.loop-from-preserved
loop-from-preserved c =
    let g = tree_of c.args.atom.now.formula in
    let d = c.args.doc.now in
    let to_end = c.args.atom.now.to_end in
    let names = c.gather-all.new.into in
    let found = c.in_ok-found.found.items in
    let all = rw c.in_ok-at.ensures at c.in_ok-found.ensures in
    let added = rw c.deref.ensures.value at c.in_ok-add_rows.ensures in
    places_more to_end g d names c.loop-from.from c.loop-from.rows.items c.add_rows.new.rows.items found c.loop-from.invariant all added

pub sort_once-requires : goal.sort_once-requires
sort_once-requires c = record { exact = λ x y e. row_eq_exact x y e }

pub returns : goal.returns
returns c =
    let g = tree_of c.args.atom.now.formula in
    let d = c.args.doc.now in
    let atom = c.args.atom.now in
    let names = c.gather-all.new.into in
    let e : c.loop-from.from ≡ c.places-from-end.result = omega arith in
    let listed = places_all atom.to_end g d names atom.from_start c.places-from-end.result (Has c.loop-from.rows.items) c.places-from-end.ensures.only c.places-from-end.ensures.enough
    (rw e at c.loop-from.invariant) in
    record {
      ascending = c.len.ensures.ascending;
      named = λ x. (
        λ h. gathered_are g c.empty-names.result names c.gather-all.result c.empty-names.ensures c.if-prove.false c.gather-all.ensures.added x h,
        λ v. are_gathered g c.empty-names.result names c.gather-all.result c.empty-names.ensures c.if-prove.false c.gather-all.ensures.added x v,
      );
      listed = tells_through (Has c.sort_once.new.values.items) (Has c.loop-from.rows.items) (IsRowOf (FitsSomewhere (atom_of atom) d) names)
          c.sort_once.ensures.adds_none c.sort_once.ensures.keeps listed;
    }
