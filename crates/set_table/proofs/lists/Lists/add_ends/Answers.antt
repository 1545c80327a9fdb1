use Rattle.std.proofs.Common.{◌≡◌, ◌<◌, refl, sym, subst, rules, ◌∙◌}
use Rattle.span_core.specs.Lists.{IsInOrder}
use Rattle.automaton_reading.specs.Reading.{set_of}
use Rattle.set_table.specs.Cut.{marks_among}
use Rattle.numbered_lists.specs.Numbered.{set_at}
use Rattle.set_table.proofs.AddsLaws.{adds_ends, ready_set}
use Rattle.set_table.proofs.lists.Lists.add_ends.Goals as goal

pub put_marks-requires : goal.put_marks-requires
put_marks-requires c =
    let s = c.args.self.now in
    subst (IsInOrder ◌<◌) (sym c.at.ensures) (ready_set c.args.automaton.now s c.args.set c.requires).order

pub returns-clause-added : goal.returns-clause-added
returns-clause-added c =
    let M = c.args.automaton.now in
    let s = c.args.self.now in
    let S = set_at s.sets c.args.set in
    let codes : c.as_slice.result.now ≡ set_of (marks_among S M.graph.stops) = c.as_slice.ensures.value ∙
    (c.in_ok-put_marks.ensures ∙ (λ i. set_of (marks_among (c.at.ensures i) (c.stops.ensures i)))) in
    adds_ends M s _ c.args.set _ _ c.as_slice.result.now c.requires.marked c.requires.names refl refl codes c.in_ok-put_ends.ensures.put (search rules) (search rules) (search rules)
