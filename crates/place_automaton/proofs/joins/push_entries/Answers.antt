use Rattle.std.proofs.Common.{◌<◌, ◌∷◌, ◌++◌, [], length, sym, ap, ◌∙◌, subst, arith, ℕ}
use Rattle.span_core.specs.Lists.{Has}
use Rattle.span_core.proofs.HasLaws.{Has-get_or}
use Rattle.place_automaton.specs.declared.fragment.Entry.{Entry}
use Rattle.place_automaton.specs.Places.{entry_with}
use Rattle.place_automaton.proofs.JoinLists.{pushed_next}
use Rattle.place_automaton.proofs.joins.push_entries.Goals as goal

pub loop-entry-preserved : goal.loop-entry-preserved
loop-entry-preserved c =
    let xs = c.args.entries.now in
    let i = c.loop-entry.entry-index in
    let e = c.entry-item.result in
    let within : i < length xs = omega arith in
    let has : Has xs e = subst (Has xs) (sym c.entry-item.is) (Has-get_or xs i e within) in
    let make : ℕ → Entry = λ n. record { marks = n; bytes = e.bytes; to = e.to } in
    c.in_ok-push.ensures.items
    ∙ (ap (λ y. c.loop-entry.all.items ++ y ∷ []) (ap make (c.with.ensures ∙ c.requires e has))
    ∙ pushed_next (entry_with c.args.marks) xs i e c.args.all.now.items c.loop-entry.all.items within c.entry-item.is c.loop-entry.invariant)
