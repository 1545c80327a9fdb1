use Rattle.std.proofs.Common.{◌≡◌, ◌<◌, ◌∷◌, [], length, sym, ap, ◌∙◌, subst, arith}
use Rattle.span_core.specs.Lists.{Has}
use Rattle.span_core.proofs.HasLaws.{Has-get_or}
use Rattle.place_automaton.specs.Places.{sums}
use Rattle.place_automaton.proofs.OncePlaces.{sums_zero}
use Rattle.place_automaton.proofs.null_sets.joined_with.Goals as goal

pub push_joined-requires : goal.push_joined-requires
push_joined-requires c =
    let xs = c.deref-marks-items.result.now in
    let m = c.marks-item.result in
    let within : c.loop-marks.marks-index < length xs = omega arith in
    let has : Has xs m = subst (Has xs) (sym c.marks-item.is) (Has-get_or xs c.loop-marks.marks-index m within) in
    λ n h. c.requires m n (rw (← c.deref-marks-items.ensures.value) has) (rw (← c.deref-in-loop-marks.ensures.value) h)

pub returns-then-is_only_none-2 : goal.returns-then-is_only_none-2
returns-then-is_only_none-2 c =
    let only : c.args.behind.items ≡ 0 ∷ [] = sym c.deref-2.ensures.value ∙ c.is_only_none-2.ensures c.if-is_only_none-2.true in
    sym (ap (λ ns. sums c.args.front.items ns) only ∙ sums_zero c.args.front.items)
