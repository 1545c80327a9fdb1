use Rattle.std.proofs.Common.{List, refl, subst, sym, arith}
use Rattle.std.proofs.lemmas.Result.{IfOk-weaker}
use Rattle.output_graph.specs.Graph.{IsPast, Source}
use Rattle.output_graph.specs.Rows.{rows}
use Rattle.one_pass.proofs.Flagged.{kept_whole, listed_steps, none_given, none_told}
use Rattle.one_pass.proofs.settling.settle_layer.Goals as goal

pub list_sources-requires-clause-past : goal.list_sources-requires-clause-past
list_sources-requires-clause-past g c = subst (λ (xs : List Source). IsPast xs c.args.at) (sym c.in_ok-copy.ensures.sources) c.requires.past

pub returns-then-are_all_kept-clause-listed : goal.returns-then-are_all_kept-clause-listed
returns-then-are_all_kept-clause-listed g c =
    let none = none_told c.args.graph.now c.args.settled.now c.requires.fresh.0 c.requires.many (c.if-are_all_kept.ensures.kept refl) in
    IfOk-weaker c.no_rows.result _ _ (λ l empty. none_given c.args.graph.now c.args.settled.now (rows l.store l.first) empty none) c.no_rows.ensures.none

pub returns-then-are_all_kept-clause-kept : goal.returns-then-are_all_kept-clause-kept
returns-then-are_all_kept-clause-kept g c =
    let none = none_told c.args.graph.now c.args.settled.now c.requires.fresh.0 c.requires.many (c.if-are_all_kept.ensures.kept refl) in
    IfOk-weaker c.no_rows.result _ _ (λ l empty. kept_whole c.args.graph.now c.args.settled.now none c.requires.fresh c.is_graph.ensures.sources.distinct) c.no_rows.ensures.none

pub returns-in_err-lists-clause-steps : goal.returns-in_err-lists-clause-steps
returns-in_err-lists-clause-steps g c =
    let e = c.in_ok-copy.ensures in
    (listed_steps c.args.graph.now c.in_ok-copy.copy c.args.settled.now _ _ _ _ e.sources c.requires.fresh.0 e.stepped e.cells c.requires.many e.steps c.list_sources.ensures.steps).0

pub returns-in_err-keep_sources-clause-steps : goal.returns-in_err-keep_sources-clause-steps
returns-in_err-keep_sources-clause-steps g c =
    let e = c.in_ok-copy.ensures in
    let left = listed_steps c.args.graph.now c.in_ok-copy.copy c.args.settled.now _ _ _ _ e.sources c.requires.fresh.0 e.stepped e.cells c.requires.many e.steps c.list_sources.ensures.steps in
    omega (arith, left.1, c.keep_sources.ensures.steps)

pub returns-clause-steps : goal.returns-clause-steps
returns-clause-steps g c =
    let e = c.in_ok-copy.ensures in
    let left = listed_steps c.args.graph.now c.in_ok-copy.copy c.args.settled.now _ _ _ _ e.sources c.requires.fresh.0 e.stepped e.cells c.requires.many e.steps c.list_sources.ensures.steps in
    omega (arith, left.1, c.keep_sources.ensures.steps)
