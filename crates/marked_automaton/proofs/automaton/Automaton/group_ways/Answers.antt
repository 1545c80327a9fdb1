use Rattle.std.proofs.Common.{◌≡◌, ℕ, ◌↔◌, ◌++◌, IsTrue, List, length, take, drop, true, refl, sym, ap, subst, ◌∙◌}
use Rattle.std.proofs.Math.Seq.{take-append_seam}
use Rattle.std.specs.List.Sorted.{IsPermutation}
use Rattle.marked_automaton.specs.declared.way.Way.{Way}
use Rattle.marked_automaton.specs.Automaton.{AreGrouped, IsMarked, Marked}
use Rattle.marked_automaton.specs.Inside.{graph_of}
use Rattle.marked_automaton.specs.Reduct.{Rearranges}
use Rattle.marked_automaton.proofs.Parts.{rearranged_is_marked}
use Rattle.marked_automaton.proofs.Permuted.{permutation_placed, permutation_len, placed_has, has_placed}
use Rattle.marked_automaton.proofs.Rearranged.{permutation_rearranges, rearranges_itself}
use Rattle.marked_automaton.proofs.automaton.Automaton.group_ways.Goals as goal

-- what a slice of a whole list holds is the list
written : {X : Type 0} (n : ℕ) (new old : List X) → length new ≡ n → new ≡ take n (new ++ drop (length new) old)
written n new old e = sym (take-append_seam new (drop (length new) old)) ∙ ap (λ k. take k (new ++ drop (length new) old)) e

pub returns-then-self-clause-rearranges : goal.returns-then-self-clause-rearranges
returns-then-self-clause-rearranges c =
    let a = c.self.inside in
    subst (λ (B : Marked). Rearranges B.graph B.graph) c.self.view_is
    (rearranges_itself (graph_of a.states a.starts.items a.ways.items a.stops.items a.idle.items) c.self.invariant.0.whole)

pub invariant_of-self : goal.invariant_of-self
invariant_of-self c =
    let a = c.self.inside in
    let same : c.group.new.ways ≡ a.ways.items = c.in_err-group.ensures.err ∙ c.as_mut_slice.ensures.value in
    let here = written a.ways.len c.group.new.ways a.ways.items (ap length same ∙ sym a.ways.ok.0) in
    subst (λ (ways : List Way). IsMarked (record { names = a.vars; graph = graph_of a.states a.starts.items ways a.stops.items a.idle.items })
    × (length a.idle.items ≡ a.states) × (IsTrue a.grouped ↔ AreGrouped ways)) (sym same ∙ here) c.self.invariant

pub invariant_of-self-2 : goal.invariant_of-self-2
invariant_of-self-2 c =
    let a = c.self.inside in
    let p = subst (λ (ways : List Way). IsPermutation ways c.group.new.ways) c.as_mut_slice.ensures.value c.in_ok-group.ensures.permutation in
    let len = permutation_len a.ways.items c.group.new.ways p in
    let here = written a.ways.len c.group.new.ways a.ways.items (len ∙ sym a.ways.ok.0) in
    let g = permutation_placed a.ways.items c.group.new.ways p in
    subst (λ (ways : List Way). IsMarked (record { names = a.vars; graph = graph_of a.states a.starts.items ways a.stops.items a.idle.items })
    × (length a.idle.items ≡ a.states) × (IsTrue true ↔ AreGrouped ways)) here (
      rearranged_is_marked _ c.self.invariant.0 c.group.new.ways len (has_placed a.ways.items c.group.new.ways g.0 g.1) (placed_has a.ways.items c.group.new.ways g.0 g.1),
      c.self.invariant.1,
      ((λ t. c.in_ok-group.ensures.grouped), (λ h. refl)),
    )

pub returns-clause-rearranges : goal.returns-clause-rearranges
returns-clause-rearranges c =
    let a = c.self.inside in
    let p = subst (λ (ways : List Way). IsPermutation ways c.group.new.ways) c.as_mut_slice.ensures.value c.in_ok-group.ensures.permutation in
    let here = written a.ways.len c.group.new.ways a.ways.items (permutation_len a.ways.items c.group.new.ways p ∙ sym a.ways.ok.0) in
    subst (λ (ways : List Way). Rearranges (graph_of a.states a.starts.items ways a.stops.items a.idle.items) c.args.self.now.graph) here
    (subst (λ (B : Marked). Rearranges (graph_of a.states a.starts.items c.group.new.ways a.stops.items a.idle.items) B.graph) c.self.view_is
    (permutation_rearranges (graph_of a.states a.starts.items a.ways.items a.stops.items a.idle.items) c.group.new.ways c.self.invariant.0.whole p))
