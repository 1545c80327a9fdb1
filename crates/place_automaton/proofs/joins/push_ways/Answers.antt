use Rattle.std.proofs.Common.{◌<◌, length, sym, subst, arith}
use Rattle.span_core.specs.Lists.{Has}
use Rattle.span_core.proofs.HasLaws.{Has-get_or}
use Rattle.place_automaton.proofs.joins.push_ways.Goals as goal

pub push_ways_from-requires : goal.push_ways_from-requires
push_ways_from-requires c =
    let xs = c.args.last.now in
    let s = c.stop-item.result in
    let within : c.loop-stop.stop-index < length xs = omega arith in
    let has : Has xs s = subst (Has xs) (sym c.stop-item.is) (Has-get_or xs c.loop-stop.stop-index s within) in
    λ e h. c.requires s e has h
