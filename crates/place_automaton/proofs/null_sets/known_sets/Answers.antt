use Rattle.std.proofs.Common.{◌≡◌, ◌+◌, ◌<◌, ◌∷◌, [], ◌++◌, true, length, get_or, take, sym, ap, ◌∙◌, arith}
use Rattle.std.specs.Prelude.{nat_eq, cond}
use Rattle.std.specs.HashSet.{contains}
use Rattle.std.specs.List.{list_any}
use Rattle.std.proofs.lemmas.List.{take_more}
use Rattle.place_automaton.proofs.EitherLaws.{known_behind}
use Rattle.place_automaton.proofs.null_sets.known_sets.Goals as goal

pub loop-set-preserved : goal.loop-set-preserved
loop-set-preserved c = λ q.
    let xs = c.args.sets.now.items in
    let i = c.loop-set.set-index in
    let x = c.set-item.result in
    let n = c.number.result in
    let same = c.deref-set-items.ensures.value in
    let within : i < length xs = omega (arith, c.loop-set-test.true, ap length same) in
    let at : x ≡ get_or xs i x = c.set-item.is ∙ ap (λ zs. get_or zs i x) same in
    let front : take (i + 1) xs ≡ take i xs ++ x ∷ [] = take_more xs i x within ∙ ap (λ z. take i xs ++ z ∷ []) (sym at) in
    let put : contains nat_eq c.insert.new.self q ≡ cond (nat_eq n q) true (contains nat_eq c.loop-set.known q) = c.in_ok-insert.ensures.updates.0 q in
    known_behind (contains nat_eq c.insert.new.self q) (contains nat_eq c.loop-set.known q) n q (take i xs) put (c.loop-set.invariant q)
    ∙ (ap (λ y. list_any (nat_eq q) (take i xs ++ y ∷ [])) c.number.ensures ∙ ap (list_any (nat_eq q)) (sym front))
