use Rattle.std.proofs.Common.{◌≡◌, ◌+◌, ◌<◌, ◌∷◌, [], ◌++◌, length, get_or, take, sym, ap, ◌∙◌, arith}
use Rattle.std.proofs.lemmas.List.{take_more}
use Rattle.place_automaton.specs.Places.{without}
use Rattle.place_automaton.proofs.WithoutLaws.{without_more}
use Rattle.place_automaton.proofs.null_sets.other_sets.Goals as goal

pub loop-set-preserved : goal.loop-set-preserved
loop-set-preserved c =
    let others = c.args.others.now in
    let xs = c.args.sets.now.items in
    let i = c.loop-set.set-index in
    let x = c.set-item.result in
    let same = c.deref-set-items.ensures.value in
    let within : i < length xs = omega (arith, c.loop-set-test.true, ap length same) in
    let at : x ≡ get_or xs i x = c.set-item.is ∙ ap (λ zs. get_or zs i x) same in
    let front : take (i + 1) xs ≡ take i xs ++ x ∷ [] = take_more xs i x within ∙ ap (λ z. take i xs ++ z ∷ []) (sym at) in
    c.in_ok-push_other.ensures
    ∙ (ap (λ zs. zs ++ without others (x ∷ [])) c.loop-set.invariant ∙ (sym (without_more others (take i xs) x) ∙ ap (without others) (sym front)))
