use Rattle.std.proofs.Common.{◌<◌, length, sym, subst, arith}
use Rattle.span_core.specs.Lists.{Has}
use Rattle.span_core.proofs.HasLaws.{Has-get_or}
use Rattle.place_automaton.proofs.moving.moved_stops.Goals as goal

pub overflow_add-stop : goal.overflow_add-stop
overflow_add-stop c =
    let xs = c.args.stops.now in
    let s = c.stop-item.result in
    let within : c.loop-stop.stop-index < length xs = omega arith in
    let has : Has xs s = subst (Has xs) (sym c.stop-item.is) (Has-get_or xs c.loop-stop.stop-index s within) in
    omega (arith, c.requires s has)
