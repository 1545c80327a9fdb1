use Rattle.std.proofs.Common.{◌<◌, ◌+◌, length, get_or, sym, ap, ◌∙◌, subst, arith, add-one, ℕ}
use Rattle.span_core.specs.Lists.{Has}
use Rattle.span_core.proofs.HasLaws.{Has-get_or}
use Rattle.marked_automaton.specs.declared.way.Stop.{Stop}
use Rattle.place_automaton.specs.Places.{stop_with}
use Rattle.place_automaton.proofs.JoinLists.{rest_same, map_next, stops_same}
use Rattle.place_automaton.proofs.joins.mark_stops.Goals as goal

pub returns-then-is_none : goal.returns-then-is_none
returns-then-is_none c = stops_same c.args.marks c.args.stops.now (c.is_none.ensures.0 c.if-is_none.true)

pub loop-stop-preserved : goal.loop-stop-preserved
loop-stop-preserved c =
    let f = stop_with c.args.marks in
    let xs = c.args.stops.now in
    let ys = c.loop-stop.stops in
    let i = c.loop-stop.stop-index in
    let d = c.stop-item.result in
    let within : i < length xs = omega arith in
    let s = get_or ys i d in
    let same = rest_same f xs ys i d within c.loop-stop.invariant in
    let has : Has xs s = subst (Has xs) (sym same) (Has-get_or xs i d within) in
    let make : ℕ → Stop = λ n. record { state = s.state; marks = n } in
    map_next f xs ys i (i + 1) (make c.with-stop.result) d within (add-one i) c.loop-stop.invariant
    (ap make (c.with-stop.ensures ∙ c.requires s has) ∙ ap f same)
