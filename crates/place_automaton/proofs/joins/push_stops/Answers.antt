use Rattle.std.proofs.Common.{◌<◌, ◌∷◌, ◌++◌, [], length, sym, ap, ◌∙◌, subst, arith, ℕ}
use Rattle.span_core.specs.Lists.{Has}
use Rattle.span_core.proofs.HasLaws.{Has-get_or}
use Rattle.marked_automaton.specs.declared.way.Stop.{Stop}
use Rattle.place_automaton.specs.Places.{stop_with}
use Rattle.place_automaton.proofs.JoinLists.{pushed_next}
use Rattle.place_automaton.proofs.joins.push_stops.Goals as goal

pub loop-stop-preserved : goal.loop-stop-preserved
loop-stop-preserved c =
    let xs = c.args.stops.now in
    let i = c.loop-stop.stop-index in
    let e = c.stop-item.result in
    let within : i < length xs = omega arith in
    let has : Has xs e = subst (Has xs) (sym c.stop-item.is) (Has-get_or xs i e within) in
    let make : ℕ → Stop = λ n. record { state = e.state; marks = n } in
    c.in_ok-push.ensures.items
    ∙ (ap (λ y. c.loop-stop.all.items ++ y ∷ []) (ap make (c.with.ensures ∙ c.requires e has))
    ∙ pushed_next (stop_with c.args.marks) xs i e c.args.all.now.items c.loop-stop.all.items within c.stop-item.is c.loop-stop.invariant)
