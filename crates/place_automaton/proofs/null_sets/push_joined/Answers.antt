use Rattle.std.proofs.Common.{◌<◌, ◌+◌, ◌∷◌, ◌++◌, [], length, sym, ap, ◌∙◌, subst, arith, ℕ}
use Rattle.span_core.specs.Lists.{Has}
use Rattle.span_core.proofs.HasLaws.{Has-get_or}
use Rattle.place_automaton.proofs.JoinLists.{pushed_next}
use Rattle.place_automaton.proofs.null_sets.push_joined.Goals as goal

pub loop-set-preserved : goal.loop-set-preserved
loop-set-preserved c =
    let xs = c.args.behind.now in
    let i = c.loop-set.set-index in
    let n = c.set-item.result in
    let within : i < length xs = omega arith in
    let has : Has xs n = subst (Has xs) (sym c.set-item.is) (Has-get_or xs i n within) in
    c.in_ok-push.ensures.items
    ∙ (ap (λ (y : ℕ). c.loop-set.all.items ++ y ∷ []) (c.with.ensures ∙ c.requires n has)
    ∙ pushed_next (◌+◌ c.args.marks) xs i n c.args.all.now.items c.loop-set.all.items within c.set-item.is c.loop-set.invariant)
