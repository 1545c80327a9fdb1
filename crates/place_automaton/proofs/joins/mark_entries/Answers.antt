use Rattle.std.proofs.Common.{◌<◌, ◌+◌, length, get_or, sym, ap, ◌∙◌, subst, arith, add-one, ℕ}
use Rattle.span_core.specs.Lists.{Has}
use Rattle.span_core.proofs.HasLaws.{Has-get_or}
use Rattle.place_automaton.specs.declared.fragment.Entry.{Entry}
use Rattle.place_automaton.specs.Places.{entry_with}
use Rattle.place_automaton.proofs.JoinLists.{rest_same, map_next, entries_same}
use Rattle.place_automaton.proofs.joins.mark_entries.Goals as goal

pub returns-then-is_none : goal.returns-then-is_none
returns-then-is_none c = entries_same c.args.marks c.args.entries.now (c.is_none.ensures.0 c.if-is_none.true)

pub loop-entry-preserved : goal.loop-entry-preserved
loop-entry-preserved c =
    let f = entry_with c.args.marks in
    let xs = c.args.entries.now in
    let ys = c.loop-entry.entries in
    let i = c.loop-entry.entry-index in
    let d = c.entry-item.result in
    let within : i < length xs = omega arith in
    let e = get_or ys i d in
    let same = rest_same f xs ys i d within c.loop-entry.invariant in
    let has : Has xs e = subst (Has xs) (sym same) (Has-get_or xs i d within) in
    let make : ℕ → Entry = λ n. record { marks = n; bytes = e.bytes; to = e.to } in
    map_next f xs ys i (i + 1) (make c.with-entry.result) d within (add-one i) c.loop-entry.invariant
    (ap make (c.with-entry.ensures ∙ c.requires e has) ∙ ap f same)
