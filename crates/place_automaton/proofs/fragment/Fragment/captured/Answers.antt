use Rattle.std.proofs.Common.{inl, inr, refl, ap, ◌∙◌}
use Rattle.span_core.specs.Lists.{Has}
use Rattle.place_automaton.specs.Sides.{Sides}
use Rattle.place_automaton.proofs.fragment.Fragment.captured.Goals as goal

pub mark_entries-requires : goal.mark_entries-requires
mark_entries-requires c = λ e he.
    let he' = rw (c.deref_mut-2.ensures.value ∙ ap (λ (P : Sides). P.first) c.self.view_is) at he in
    c.requires.first e.marks (inr (inl (e, he', refl)))
