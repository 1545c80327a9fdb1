use Rattle.std.proofs.Common.{◌≡◌, ◌∷◌, [], ◌++◌, List, inl, refl, sym, ap, ◌∙◌, subst, append_assoc}
use Rattle.span_core.specs.Lists.{AreDistinct, Has}
use Rattle.span_core.proofs.HasLaws.{Has-append_right}
use Rattle.place_automaton.specs.Sides.{Sides}
use Rattle.place_automaton.proofs.fragment.join_arms.Goals as goal

pub either_of-requires : goal.either_of-requires
either_of-requires c =
    let inv = c.loop-fragment-2.invariant in
    let P : Sides = c.in-Some.fragment in
    let front = c.pop.new.self.items in
    let whole : c.args.fragments.items ≡ front ++ P ∷ inv.0 =
    inv.1 ∙ (ap (λ (xs : List Sides). xs ++ inv.0) c.in-Some.ensures.items ∙ append_assoc front (P ∷ []) inv.0) in
    let has : Has c.args.fragments.items P = rw whole (Has-append_right front (P ∷ inv.0) P (inl refl)) in
    subst AreDistinct (sym (ap (λ (P : Sides). P.null) c.fragment-in-Some.view_is)) (c.requires P has)
