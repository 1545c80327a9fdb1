use Rattle.std.proofs.Common.{inl, inr, refl, ap, ◌∙◌}
use Rattle.span_core.specs.Lists.{Has}
use Rattle.place_automaton.specs.Sides.{Sides}
use Rattle.place_automaton.proofs.fragment.Fragment.push_again.Goals as goal

pub push_ways-requires : goal.push_ways-requires
push_ways-requires c = λ s e hs he.
    let hs' = rw (c.deref.ensures.value ∙ ap (λ (P : Sides). P.last) c.self.view_is) at hs in
    let he' = rw (c.deref-2.ensures.value ∙ ap (λ (P : Sides). P.first) c.self.view_is) at he in
    c.requires s.marks e.marks (inr (inr (s, hs', refl))) (inr (inl (e, he', refl)))
