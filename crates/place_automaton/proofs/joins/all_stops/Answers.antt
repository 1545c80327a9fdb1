use Rattle.std.proofs.Common.{◌<◌, length, sym, subst, arith}
use Rattle.span_core.specs.Lists.{Has}
use Rattle.span_core.proofs.HasLaws.{Has-get_or}
use Rattle.place_automaton.proofs.joins.all_stops.Goals as goal

pub push_stops-requires : goal.push_stops-requires
push_stops-requires c =
    let xs = c.args.null.now in
    let m = c.marks-item.result in
    let within : c.loop-marks.marks-index < length xs = omega arith in
    let has : Has xs m = subst (Has xs) (sym c.marks-item.is) (Has-get_or xs c.loop-marks.marks-index m within) in
    λ e h. c.requires m e has (rw (← c.deref.ensures.value) h)
