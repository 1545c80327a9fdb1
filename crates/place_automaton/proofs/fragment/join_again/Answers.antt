use Rattle.std.proofs.Common.{◌∷◌, [], inl, refl, sym, subst}
use Rattle.span_core.specs.Lists.{Has}
use Rattle.place_automaton.specs.Sides.{IsUnmarked}
use Rattle.span_core.proofs.HasLaws.{Has-append_left, Has-append_right}
use Rattle.place_automaton.proofs.Unmarked.{unmarked_joins, again_unmarked, row_joins}
use Rattle.place_automaton.proofs.fragment.join_again.Goals as goal

pub push_again-requires : goal.push_again-requires
push_again-requires c =
    let P = c.in-Some.last in
    let there = c.requires P (rw c.in-Some.ensures.items (Has-append_right c.pop.new.self.items (P ∷ []) P (inl refl))) in
    unmarked_joins P P there there

pub join_row-requires : goal.join_row-requires
join_row-requires c =
    let P = c.in-Some.last in
    let new = c.pop.new.self.items in
    let there = c.requires P (rw c.in-Some.ensures.items (Has-append_right new (P ∷ []) P (inl refl))) in
    row_joins c.args.required new c.in_ok-rest.rest
    (λ Q h. c.requires Q (rw c.in-Some.ensures.items (Has-append_left new (P ∷ []) Q h)))
    (subst IsUnmarked (sym c.in_ok-rest.ensures) (again_unmarked c.args.required P there))
