use Rattle.std.proofs.Common.{get_or, inl, inr, arith, ◌∙◌}
use Rattle.std.proofs.lemmas.Option.{slice_get_within, slice_get-get_or}
use Rattle.span_core.specs.Lists.{Has}
use Rattle.span_core.proofs.HasLaws.{Has-slice_get}
use Rattle.marked_automaton.specs.Automaton.{idle_way}
use Rattle.algebra.specs.declared.pairs.Pair.{Pair}
use Rattle.algebra.specs.Pairs.{pair_of}
use Rattle.algebra.proofs.Assembled.{one_idle_more}
use Rattle.algebra.proofs.assembly.add_idle.Goals as goal

pub add_idle_of-requires-clause-left : goal.add_idle_of-requires-clause-left
add_idle_of-requires-clause-left c =
    let found = c.args.found.now in
    let i = c.loop-state.state in
    let k : Pair = get_or found i (pair_of 0 0) in
    (c.requires.within k (Has-slice_get found i k (slice_get-get_or found i (pair_of 0 0) c.loop-state-test.true))).0

pub add_idle_of-requires-clause-right : goal.add_idle_of-requires-clause-right
add_idle_of-requires-clause-right c =
    let found = c.args.found.now in
    let i = c.loop-state.state in
    let k : Pair = get_or found i (pair_of 0 0) in
    (c.requires.within k (Has-slice_get found i k (slice_get-get_or found i (pair_of 0 0) c.loop-state-test.true))).1

pub add_idle_of-requires-clause-way : goal.add_idle_of-requires-clause-way
add_idle_of-requires-clause-way c = λ l r.
    let found = c.args.found.now in
    let i = c.loop-state.state in
    let k : Pair = get_or found i (pair_of 0 0) in
    rw c.loop-state.invariant.graph.ways
    (c.requires.ways i (k, slice_get-get_or found i (pair_of 0 0) c.loop-state-test.true, l, r))

pub loop-state-preserved : goal.loop-state-preserved
loop-state-preserved c =
    let inv = c.loop-state.invariant in
    let found = c.args.found.now in
    let i = c.loop-state.state in
    let k : Pair = get_or found i (pair_of 0 0) in
    let ok = c.in_ok-add_idle_of.ensures in
    record {
      names = c.add_idle_of.ensures.names ∙ inv.names;
      graph = record {
        states = ok.graph.states ∙ inv.graph.states;
        starts = ok.graph.starts ∙ inv.graph.starts;
        ways = ok.graph.ways ∙ inv.graph.ways;
        stops = ok.graph.stops ∙ inv.graph.stops;
      };
      idles = one_idle_more found c.args.a.now.graph.idle c.args.b.now.graph.idle c.args.automaton.now.graph.idle c.loop-state.automaton.graph.idle c.add_idle_of.new.automaton.graph.idle i k
          (slice_get-get_or found i (pair_of 0 0) c.loop-state-test.true) inv.idles ok.idles;
    }

pub returns-clause-idles : goal.returns-clause-idles
returns-clause-idles c = λ p.
    let inv = c.loop-state.invariant in (
      (λ h. elim ((inv.idles p).0 h) [ inl x ↦ inl x | inr y ↦ inr y.1 ]),
      (λ h. (inv.idles p).1 (elim h [
        | inl x ↦ inl x
        | inr y ↦ inr (omega (arith, slice_get_within c.args.found.now p y.0 y.1, c.loop-state-test.false), y)
      ])),
    )
