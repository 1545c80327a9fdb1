use Rattle.std.proofs.Common.{◌↔◌, IsTrue, List, length, sym, ap, subst, ◌∙◌}
use Rattle.marked_automaton.specs.declared.way.Way.{Way}
use Rattle.marked_automaton.specs.Automaton.{AreGrouped, IsMarked}
use Rattle.marked_automaton.proofs.Parts.{copied}
use Rattle.marked_automaton.proofs.automaton.Automaton.copy.Goals as goal

pub invariant_of-result : goal.invariant_of-result
invariant_of-result c =
    let a = c.self.inside in
    let same = copied a.vars c.copy.result a.states a.starts.items c.in_ok-copy_of.field-0.items a.ways.items c.in_ok-copy_of-2.field-0.items a.stops.items c.in_ok-copy_of-3.field-0.items
    a.idle.items c.in_ok-copy_of-4.field-0.items c.copy.ensures (c.in_ok-copy_of.ensures ∙ c.as_slice.ensures.value) (c.in_ok-copy_of-2.ensures ∙ c.as_slice-2.ensures.value)
    (c.in_ok-copy_of-3.ensures ∙ c.as_slice-3.ensures.value) (c.in_ok-copy_of-4.ensures ∙ c.as_slice-4.ensures.value) in (
      subst IsMarked (sym same) c.self.invariant.0,
      ap length (c.in_ok-copy_of-4.ensures ∙ c.as_slice-4.ensures.value) ∙ c.self.invariant.1,
      subst (λ (xs : List Way). IsTrue a.grouped ↔ AreGrouped xs) (sym (c.in_ok-copy_of-2.ensures ∙ c.as_slice-2.ensures.value)) c.self.invariant.2,
    )

pub returns : goal.returns
returns c =
    let a = c.self.inside in
    let same = copied a.vars c.copy.result a.states a.starts.items c.in_ok-copy_of.field-0.items a.ways.items c.in_ok-copy_of-2.field-0.items a.stops.items c.in_ok-copy_of-3.field-0.items
    a.idle.items c.in_ok-copy_of-4.field-0.items c.copy.ensures (c.in_ok-copy_of.ensures ∙ c.as_slice.ensures.value) (c.in_ok-copy_of-2.ensures ∙ c.as_slice-2.ensures.value)
    (c.in_ok-copy_of-3.ensures ∙ c.as_slice-3.ensures.value) (c.in_ok-copy_of-4.ensures ∙ c.as_slice-4.ensures.value) in
    same ∙ c.self.view_is
