use Rattle.std.proofs.Common.{◌<◌, ◌∷◌, ◌++◌, [], length, sym, ap, ◌∙◌, subst, arith, ℕ}
use Rattle.span_core.specs.Lists.{Has}
use Rattle.span_core.proofs.HasLaws.{Has-get_or}
use Rattle.marked_automaton.specs.declared.way.Way.{Way}
use Rattle.place_automaton.specs.Places.{way_into}
use Rattle.place_automaton.proofs.JoinLists.{pushed_next}
use Rattle.place_automaton.proofs.joins.push_ways_from.Goals as goal

pub loop-entry-preserved : goal.loop-entry-preserved
loop-entry-preserved c =
    let s = c.args.stop.now in
    let xs = c.args.first.now in
    let i = c.loop-entry.entry-index in
    let e = c.entry-item.result in
    let within : i < length xs = omega arith in
    let has : Has xs e = subst (Has xs) (sym c.entry-item.is) (Has-get_or xs i e within) in
    let make : ℕ → Way = λ n. record { from = s.state; marks = n; bytes = e.bytes; to = e.to } in
    c.in_ok-push.ensures.items
    ∙ (ap (λ y. c.loop-entry.ways.items ++ y ∷ []) (ap make (c.with.ensures ∙ c.requires e has))
    ∙ pushed_next (way_into s) xs i e c.args.ways.now.items c.loop-entry.ways.items within c.entry-item.is c.loop-entry.invariant)
