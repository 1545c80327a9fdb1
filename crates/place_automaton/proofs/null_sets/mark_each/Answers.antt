use Rattle.std.proofs.Common.{◌<◌, ◌+◌, length, get_or, sym, ap, ◌∙◌, subst, arith, add-one, ℕ}
use Rattle.span_core.specs.Lists.{Has}
use Rattle.span_core.proofs.HasLaws.{Has-get_or}
use Rattle.place_automaton.proofs.JoinLists.{rest_same, map_next}
use Rattle.place_automaton.proofs.null_sets.mark_each.Goals as goal

pub loop-set-preserved : goal.loop-set-preserved
loop-set-preserved c =
    let f : ℕ → ℕ = ◌+◌ c.args.marks in
    let xs = c.args.sets.now in
    let ys = c.loop-set.sets in
    let i = c.loop-set.set-index in
    let d = c.set-item.result in
    let within : i < length xs = omega arith in
    let e = get_or ys i d in
    let same = rest_same f xs ys i d within c.loop-set.invariant in
    let has : Has xs e = subst (Has xs) (sym same) (Has-get_or xs i d within) in
    map_next f xs ys i (i + 1) c.with.result d within (add-one i) c.loop-set.invariant ((c.with.ensures ∙ c.requires e has) ∙ ap f same)
