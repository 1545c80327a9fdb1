use Rattle.std.proofs.Common.{◌<◌, length, sym, subst, arith}
use Rattle.span_core.specs.Lists.{Has}
use Rattle.span_core.proofs.HasLaws.{Has-get_or}
use Rattle.place_automaton.proofs.moving.moved_entries.Goals as goal

pub overflow_add-entry : goal.overflow_add-entry
overflow_add-entry c =
    let xs = c.args.entries.now in
    let e = c.entry-item.result in
    let within : c.loop-entry.entry-index < length xs = omega arith in
    let has : Has xs e = subst (Has xs) (sym c.entry-item.is) (Has-get_or xs c.loop-entry.entry-index e within) in
    omega (arith, c.requires e has)
