use Rattle.std.proofs.Common.{◌≡◌, ℕ, suc, ◌+◌, ◌↔◌, List, [], ◌∷◌, ◌++◌, length, get_or, inl, inr, sym, ap, ◌∙◌, subst, arith}
use Rattle.std.specs.Prelude.{if◌then◌else◌}
use Rattle.span_core.specs.NameSets.{Ascending}
use Rattle.spanner_model.specs.Captures.{VarName}
use Rattle.spanner_model.specs.Sequential.{HasVar}
use Rattle.span_core.specs.Lists.{Has}
use Rattle.spanner_model.specs.View.{tree_of, atom_of}
use Rattle.span_core.proofs.HasLaws.{Has-get_or}
use Rattle.spanner_model.proofs.NameLaws.{ascending-distinct}
use Rattle.marked_automaton.specs.declared.way.Way.{Way}
use Rattle.marked_automaton.specs.Automaton.{Automaton, IsBlockOf, idle_way}
use Rattle.marked_automaton.specs.Reduct.{Rearranges}
use Rattle.place_automaton.specs.Counts.{counts_over, ways_of}
use Rattle.place_automaton.specs.Variables.{with_vars}
use Rattle.place_automaton.specs.Drafts.{places_of}
use Rattle.place_automaton.specs.Sides.{Sides}
use Rattle.place_automaton.specs.Made.{all_stops, idle_states}
use Rattle.place_automaton.specs.Words.{opening_of, closing_of, atom_automaton}
use Rattle.place_automaton.proofs.BuiltRepeats.{ordered_repeats}
use Rattle.place_automaton.proofs.CountLaws.{all_ways}
use Rattle.place_automaton.proofs.FineLaws.{built_classes}
use Rattle.place_automaton.proofs.MadeLaws.{made_ways, before_way, after_way, stop_there, stop_marks, is_way, rearranges_like}
use Rattle.place_automaton.proofs.PlaceNumbers.{place_count}
use Rattle.place_automaton.proofs.NameLists.{list_ascends, same_places, vars_are, vars_named}
use Rattle.place_automaton.proofs.WholeLaws.{whole_law}
use Rattle.place_automaton.proofs.building.made.Goals as goal

pub place-requires-clause-distinct : goal.place-requires-clause-distinct
place-requires-clause-distinct c =
    let names = c.vars_of-vars.result in
    ascending-distinct names (subst Ascending (sym c.vars_of-vars.ensures) (list_ascends (tree_of c.args.atom.now.formula)))

pub place-requires-clause-named : goal.place-requires-clause-named
place-requires-clause-named c = vars_named (tree_of c.args.atom.now.formula) c.vars_of-vars.result c.vars_of-vars.ensures

pub states_of-states-requires : goal.states_of-states-requires
states_of-states-requires c =
    let names = c.vars_of-vars.result in
    omega (
      arith,
      c.in_ok-fragment.ensures.next,
      place_count (opening_of names) (closing_of names) (tree_of c.args.atom.now.formula) 1,
      same_places names (tree_of c.args.atom.now.formula) c.vars_of-vars.ensures,
      c.requires.states,
    )

pub with_ways-requires : goal.with_ways-requires
with_ways-requires c = λ k d l.
    let names = c.vars_of-vars.result in
    let a = atom_of c.args.atom.now in
    let f = a.formula in
    let P = places_of names f 1 in
    let ws = c.push_outer.new.ways.items in
    let all = made_ways a.from_start a.to_end P c.place.new.draft.next c.in_ok-fragment.fragment c.in_ok-with_capacity.field-0.items c.place.new.draft.ways.items ws
    c.in_ok-with_capacity.ensures.items c.in_ok-fragment.ensures.ways c.in_ok-fragment.ensures.next c.in_ok-fragment.ensures.sides c.in_ok-push_outer.ensures in
    let has = subst (λ (xs : List Way). Has xs (get_or ws k d)) all (Has-get_or ws k d l) in
    let states : c.states_of-states.result ≡ (atom_automaton names a).states =
    c.states_of-states.ensures ∙ ap (λ (n : ℕ). n + (if a.to_end then 0 else 1)) c.in_ok-fragment.ensures.next in
    is_way names a c.requires.sequential (ordered_repeats f c.requires.built) (built_classes f c.requires.built.0) (vars_named f names c.vars_of-vars.ensures)
    c.states_of-states.result (get_or ws k d) states has

pub finish-requires-clause-stops : goal.finish-requires-clause-stops
finish-requires-clause-stops c = λ x h.
    let names = c.vars_of-vars.result in
    let a = atom_of c.args.atom.now in
    let states : c.states_of-states.result ≡ (atom_automaton names a).states =
    c.states_of-states.ensures ∙ ap (λ (n : ℕ). n + (if a.to_end then 0 else 1)) c.in_ok-fragment.ensures.next in
    let graph = ap (λ (A : Automaton). A.states) c.in-Ok.ensures.ok.1 in
    let there = stop_there names a c.in_ok-fragment.fragment x c.in_ok-fragment.ensures.sides h in
    omega (arith, (whole_law names a).stops x there, states, graph)

pub finish-requires-clause-marks : goal.finish-requires-clause-marks
finish-requires-clause-marks c = λ x h.
    let names = c.vars_of-vars.result in
    let a = atom_of c.args.atom.now in
    let f = a.formula in
    let there = stop_there names a c.in_ok-fragment.fragment x c.in_ok-fragment.ensures.sides h in
    rw c.in-Ok.ensures.ok.0
    (stop_marks names a c.requires.sequential (ordered_repeats f c.requires.built) (built_classes f c.requires.built.0) (vars_named f names c.vars_of-vars.ensures) x there)

pub finish-requires-clause-before_way : goal.finish-requires-clause-before_way
finish-requires-clause-before_way c = λ e.
    let names = c.vars_of-vars.result in
    let a = atom_of c.args.atom.now in
    let f = a.formula in
    let P = places_of names f 1 in
    let ws = c.push_outer.new.ways.items in
    let all = made_ways a.from_start a.to_end P c.place.new.draft.next c.in_ok-fragment.fragment c.in_ok-with_capacity.field-0.items c.place.new.draft.ways.items ws
    c.in_ok-with_capacity.ensures.items c.in_ok-fragment.ensures.ways c.in_ok-fragment.ensures.next c.in_ok-fragment.ensures.sides c.in_ok-push_outer.ensures in
    let graph = ap (λ (A : Automaton). A.ways) c.in-Ok.ensures.ok.1 in
    rw (graph ∙ all) (before_way names a e)

pub finish-requires-clause-after_way : goal.finish-requires-clause-after_way
finish-requires-clause-after_way c = λ e.
    let names = c.vars_of-vars.result in
    let a = atom_of c.args.atom.now in
    let f = a.formula in
    let P = places_of names f 1 in
    let ws = c.push_outer.new.ways.items in
    let all = made_ways a.from_start a.to_end P c.place.new.draft.next c.in_ok-fragment.fragment c.in_ok-with_capacity.field-0.items c.place.new.draft.ways.items ws
    c.in_ok-with_capacity.ensures.items c.in_ok-fragment.ensures.ways c.in_ok-fragment.ensures.next c.in_ok-fragment.ensures.sides c.in_ok-push_outer.ensures in
    let graph = ap (λ (A : Automaton). A.ways) c.in-Ok.ensures.ok.1 in
    rw (graph ∙ all)
    (after_way names a c.place.new.draft.next c.in_ok-fragment.ensures.next e)

pub returns : goal.returns
returns c =
    let names = c.vars_of-vars.result in
    let a = atom_of c.args.atom.now in
    let s = a.from_start in
    let t = a.to_end in
    let f = a.formula in
    let P = places_of names f 1 in
    let A = atom_automaton names a in
    let ws = c.push_outer.new.ways.items in
    let after = c.place.new.draft.next in
    let all = made_ways s t P after c.in_ok-fragment.fragment c.in_ok-with_capacity.field-0.items c.place.new.draft.ways.items ws
    c.in_ok-with_capacity.ensures.items c.in_ok-fragment.ensures.ways c.in_ok-fragment.ensures.next c.in_ok-fragment.ensures.sides c.in_ok-push_outer.ensures in
    let bare = c.in-Ok.ensures.ok in
    let done = c.in_ok-finish.ensures in
    let last = c.in_ok-group_ways.ensures in
    let is = c.vars_of-vars.ensures in
    let ascends : Ascending names = subst Ascending (sym is) (list_ascends f) in
    let exactly : (x : VarName) → Has names x ↔ HasVar f x = rw is (vars_are f) in
    let same_names : c.group_ways.new.self.names ≡ names = last.names ∙ (done.names ∙ bare.0) in
    let B = c.finish.new.automaton.graph in
    let next : after ≡ suc P.count = c.in_ok-fragment.ensures.next ∙ (let e : 1 + P.count ≡ suc P.count = omega arith in e) in
    let states : A.states ≡ B.states =
    sym (done.ok.states ∙ (ap (λ (A : Automaton). A.states) bare.1 ∙ (c.states_of-states.ensures ∙ ap (λ (n : ℕ). n + (if t then 0 else 1)) c.in_ok-fragment.ensures.next))) in
    let starts : A.starts ≡ B.starts = sym (done.ok.starts ∙ ap (λ (A : Automaton). A.starts ++ 0 ∷ []) bare.1) in
    let ways : A.ways ≡ B.ways = sym (done.ok.ways ∙ (ap (λ (A : Automaton). A.ways) bare.1 ∙ all)) in
    let stops : A.stops ≡ B.stops =
    sym (done.ok.stops ∙ (ap (λ (A : Automaton). A.stops ++ all_stops t after c.in_ok-fragment.fragment) bare.1
    ∙ (ap (λ (n : ℕ). all_stops t n c.in_ok-fragment.fragment) next ∙ ap (λ (E : Sides). all_stops t (suc P.count) E) c.in_ok-fragment.ensures.sides))) in
    let none : (p : ℕ) → Has c.in-Ok.automaton.graph.idle p → ⊥ = λ p h. rw bare.1 at h in
    let idle : (p : ℕ) → Has B.idle p ↔ Has A.idle p = λ p. (
      (λ h. elim ((done.ok.idle p).0 h) [ inl a ↦ absurd (none p a) | inr b ↦ rw (← next) b ]),
      (λ h. (done.ok.idle p).1 (inr (rw next h))),
    ) in
    let reduct : Rearranges c.group_ways.new.self.graph A = rearranges_like c.group_ways.new.self.graph B A last.rearranges states starts ways stops idle in
    record {
      ascending = subst Ascending (sym same_names) ascends;
      names = rw same_names exactly;
      reduct = rw same_names reduct;
      ways = last.same.3 ∙ (ap length (sym ways) ∙ rw is (all_ways a));
      grouped = last.grouped;
      stops = last.same.1 ∙ (sym stops ∙ ap (λ (ns : List VarName). (atom_automaton ns a).stops) (sym same_names));
    }
