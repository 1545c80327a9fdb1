use Rattle.std.proofs.Common.{◌≡◌, ℕ, ◌<◌, ◌↔◌, IsTrue, List, length, sym, ap, subst, arith, ◌∙◌, refl}
use Rattle.span_core.specs.Lists.{Has}
use Rattle.marked_automaton.specs.declared.way.Way.{Way}
use Rattle.marked_automaton.specs.declared.way.Stop.{Stop}
use Rattle.marked_automaton.specs.Automaton.{AreGrouped, Automaton, Marked, IsMarked}
use Rattle.marked_automaton.specs.Inside.{graph_of}
use Rattle.marked_automaton.specs.Reduct.{IsUseful, Reduces}
use Rattle.marked_automaton.proofs.Filtered.{kept_place, kept_origin}
use Rattle.marked_automaton.proofs.Numbers.{kept_flags_len}
use Rattle.marked_automaton.proofs.TrimLaws.{between_same, numbers_length, trim_graph, trimmed_marked, trimmed_reduct, trimmed_useful}
use Rattle.marked_automaton.proofs.Rearranged.{reduct_of_itself}
use Rattle.marked_automaton.proofs.Untrimmed.{all_useful}
use Rattle.marked_automaton.specs.Reach.{IsFlagged}
use Rattle.marked_automaton.specs.Trimmed.{IsBetween, count_set, moved_stop, moved_way, number_of, numbered, trimmed}
use Rattle.marked_automaton.proofs.automaton.Automaton.trim.Goals as goal
use Rattle.marked_automaton.proofs.automaton.Automaton.trim.Goals.{In_ok-kept, In_ok-flags_of_kept}

-- each state has a number
numbers_len : (c : In_ok-kept) → length c.in_ok-kept.kept.numbers.items ≡ c.self.inside.states
numbers_len c = numbers_length c.in_ok-useful.useful.items c.as_slice-4.result.now c.in_ok-kept.kept.numbers.items c.self.inside.states
    c.as_slice-4.ensures.value c.in_ok-kept.ensures.numbers c.in_ok-useful.ensures.len

-- the flags of useful states are as many as those of idle ones
idle_len : (c : In_ok-kept) → length c.in_ok-useful.useful.items ≡ length c.self.inside.idle.items
idle_len c = c.in_ok-useful.ensures.len ∙ sym c.self.invariant.1

-- the useful states are those between the starts and the ends
exactly_between : (c : In_ok-kept) → (p : ℕ) → IsFlagged c.in_ok-useful.useful.items p ↔ IsBetween c.self.inside.starts.items c.self.inside.ways.items c.self.inside.stops.items p
exactly_between c =
    let a = c.self.inside in
    let B = graph_of a.states a.starts.items a.ways.items a.stops.items a.idle.items in
    between_same B c.in_ok-useful.useful.items c.as_slice.result.now c.as_slice-2.result.now c.as_slice-3.result.now
    c.as_slice.ensures.value c.as_slice-2.ensures.value c.as_slice-3.ensures.value c.in_ok-useful.ensures.exactly

-- what is made is the trimmed automaton
made_of : (c : In_ok-flags_of_kept) →
    graph_of c.in_ok-kept.kept.count c.in_ok-states.field-0.items c.ways-ways.result.items c.in_ok-stops.field-0.items c.in_ok-flags_of_kept.field-0.items
    ≡ trimmed (graph_of c.self.inside.states c.self.inside.starts.items c.self.inside.ways.items c.self.inside.stops.items c.self.inside.idle.items)
    c.in_ok-useful.useful.items c.self.inside.idle.items
made_of c =
    let a = c.self.inside in
    let B = graph_of a.states a.starts.items a.ways.items a.stops.items a.idle.items in
    trim_graph B c.in_ok-useful.useful.items a.idle.items c.as_slice-4.result.now c.as_slice-8.result.now c.as_slice-9.result.now c.in_ok-kept.kept.numbers.items c.in_ok-kept.kept.count
    c.as_slice-6.result.now c.in_ok-states.field-0.items a.ways.items c.ways-ways.result.items c.as_slice-7.result.now c.in_ok-stops.field-0.items
    c.in_ok-flags_of_kept.field-0.items c.as_slice-4.ensures.value c.in_ok-kept.ensures.numbers c.in_ok-kept.ensures.count
    c.as_slice-6.ensures.value refl c.as_slice-7.ensures.value c.as_slice-8.ensures.value c.as_slice-9.ensures.value
    c.in_ok-states.ensures c.ways-ways.ensures c.in_ok-stops.ensures c.in_ok-flags_of_kept.ensures

pub states-requires : goal.states-requires
states-requires c = λ p h.
    omega (arith, c.self.invariant.0.whole.starts p (subst (λ (xs : List ℕ). Has xs p) c.as_slice-6.ensures.value h), numbers_len (goal.at.states-requires c).In_ok-kept)

pub ways-ways-requires-clause-froms : goal.ways-ways-requires-clause-froms
ways-ways-requires-clause-froms c = λ y h.
    omega (arith, c.self.invariant.0.whole.froms y (h), numbers_len (goal.at.ways-ways-requires-clause-froms c).In_ok-kept)

pub ways-ways-requires-clause-tos : goal.ways-ways-requires-clause-tos
ways-ways-requires-clause-tos c = λ y h.
    omega (arith, c.self.invariant.0.whole.tos y (h), numbers_len (goal.at.ways-ways-requires-clause-tos c).In_ok-kept)

pub stops-requires : goal.stops-requires
stops-requires c = λ x h.
    omega (arith, c.self.invariant.0.whole.stops x (subst (λ (xs : List Stop). Has xs x) c.as_slice-7.ensures.value h), numbers_len (goal.at.stops-requires c).In_ok-kept)

pub returns-then-kept-self-clause-reduct : goal.returns-then-kept-self-clause-reduct
returns-then-kept-self-clause-reduct c =
    let a = c.self.inside in
    let B = graph_of a.states a.starts.items a.ways.items a.stops.items a.idle.items in
    subst (λ (M : Marked). Reduces M.graph M.graph) c.self.view_is (reduct_of_itself B c.self.invariant.0.whole)

pub returns-then-kept-self-clause-useful : goal.returns-then-kept-self-clause-useful
returns-then-kept-self-clause-useful c =
    let a = c.self.inside in
    let B = graph_of a.states a.starts.items a.ways.items a.stops.items a.idle.items in
    let useful = c.in_ok-useful.useful.items in
    let here = (goal.at.returns-then-kept-self-clause-useful c).In_ok-kept in
    let len = c.in_ok-useful.ensures.len in
    let len_idle = idle_len here in
    let all : count_set useful ≡ length useful = omega (arith, c.if-kept-self.true, c.in_ok-kept.ensures.count, ap count_set c.as_slice-4.ensures.value, len) in
    subst (λ (M : Marked). (p : ℕ) → p < M.graph.states → IsUseful M.graph p) c.self.view_is
    (all_useful B c.self.invariant.0.whole useful a.idle.items len len_idle refl all (exactly_between here))

pub invariant_of-result : goal.invariant_of-result
invariant_of-result c =
    let a = c.self.inside in
    let B = graph_of a.states a.starts.items a.ways.items a.stops.items a.idle.items in
    let useful = c.in_ok-useful.useful.items in
    let here = (goal.at.invariant_of-result c).In_ok-kept in
    let made = made_of (goal.at.invariant_of-result c).In_ok-flags_of_kept in
    let len = c.in_ok-useful.ensures.len in
    let len_idle = idle_len here in (
      subst (λ G. IsMarked (record { names = a.vars; graph = G })) (sym made)
          (trimmed_marked B c.self.invariant.0.whole useful a.idle.items len len_idle refl (exactly_between here) a.vars c.self.invariant.0),
      ap length c.in_ok-flags_of_kept.ensures ∙ (kept_flags_len c.as_slice-8.result.now c.as_slice-9.result.now
          (ap length c.as_slice-8.ensures.value ∙ (len_idle ∙ sym (ap length c.as_slice-9.ensures.value)))
          ∙ (ap count_set (c.as_slice-8.ensures.value ∙ sym c.as_slice-4.ensures.value) ∙ sym c.in_ok-kept.ensures.count)),
      subst (λ (xs : List Way). IsTrue c.are_grouped-grouped.result ↔ AreGrouped xs) c.as_slice-5.ensures.value c.are_grouped-grouped.ensures,
    )

pub returns-clause-reduct : goal.returns-clause-reduct
returns-clause-reduct c =
    let a = c.self.inside in
    let B = graph_of a.states a.starts.items a.ways.items a.stops.items a.idle.items in
    let useful = c.in_ok-useful.useful.items in
    let here = (goal.at.returns-clause-reduct c).In_ok-kept in
    let made = made_of (goal.at.returns-clause-reduct c).In_ok-flags_of_kept in
    let len = c.in_ok-useful.ensures.len in
    let len_idle = idle_len here in
    subst (λ (M : Marked). Reduces (graph_of c.in_ok-kept.kept.count c.in_ok-states.field-0.items c.ways-ways.result.items c.in_ok-stops.field-0.items
    c.in_ok-flags_of_kept.field-0.items) M.graph) c.self.view_is
    (subst (λ G. Reduces G B) (sym made) (
      number_of (numbered 0 useful),
      kept_place (moved_way (numbered 0 useful)) B.ways,
      (λ b k. kept_origin (moved_stop (numbered 0 useful)) B.stops k),
      trimmed_reduct B c.self.invariant.0.whole useful a.idle.items len len_idle refl (exactly_between here),
    ))

pub returns-clause-useful : goal.returns-clause-useful
returns-clause-useful c =
    let a = c.self.inside in
    let B = graph_of a.states a.starts.items a.ways.items a.stops.items a.idle.items in
    let useful = c.in_ok-useful.useful.items in
    let here = (goal.at.returns-clause-useful c).In_ok-kept in
    let made = made_of (goal.at.returns-clause-useful c).In_ok-flags_of_kept in
    let len = c.in_ok-useful.ensures.len in
    let len_idle = idle_len here in
    subst (λ (G : Automaton). (p : ℕ) → p < G.states → IsUseful G p) (sym made)
    (trimmed_useful B c.self.invariant.0.whole useful a.idle.items len len_idle refl (exactly_between here))
