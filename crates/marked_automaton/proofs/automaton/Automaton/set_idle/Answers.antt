use Rattle.std.proofs.Common.{◌≡◌, ℕ, ◌<◌, true, ◌↔◌, ◌⊎◌, arith, sym, ap, subst, ◌∙◌, inl, inr}
use Rattle.span_core.specs.Lists.{Has}
use Rattle.marked_automaton.specs.Automaton.{Marked, idle_way}
use Rattle.marked_automaton.specs.Inside.{flagged}
use Rattle.std.proofs.Math.ListN.{length-set, set}
use Rattle.marked_automaton.proofs.Flags.{flagged_set}
use Rattle.marked_automaton.proofs.Parts.{idle_is_marked}
use Rattle.marked_automaton.proofs.automaton.Automaton.set_idle.Goals as goal

pub invariant_of-self : goal.invariant_of-self
invariant_of-self c =
    let a = c.self.inside in
    let here : c.args.state < a.states = omega (arith, c.requires.state, ap (λ (A : Marked). A.graph.states) c.self.view_is) in
    let way = subst (λ (A : Marked). Has A.graph.ways (idle_way c.args.state)) (sym c.self.view_is) c.requires.way in
    let m = c.self.invariant.0 in (
      idle_is_marked _ m (flagged 0 (set a.idle.items c.args.state true)) (λ p h.
          elim ((flagged_set a.idle.items c.args.state p (omega (arith, here, c.self.invariant.1))).0 h) [
            | inl i ↦ (m.whole.idles p i, m.idle_ways p i)
            | inr e ↦ (omega (arith, here, e), subst (λ p. Has a.ways.items (idle_way p)) (sym e) way)
          ]),
      length-set a.idle.items c.args.state true ∙ c.self.invariant.1,
      c.self.invariant.2,
    )

pub returns-clause-ok : goal.returns-clause-ok
returns-clause-ok c =
    let a = c.self.inside in
    let here : c.args.state < a.states = omega (arith, c.requires.state, ap (λ (A : Marked). A.graph.states) c.self.view_is) in
    subst (λ (A : Marked). (p : ℕ) → Has (flagged 0 (set a.idle.items c.args.state true)) p ↔ (Has A.graph.idle p ⊎ (p ≡ c.args.state))) c.self.view_is
    (λ p. flagged_set a.idle.items c.args.state p (omega (arith, here, c.self.invariant.1)))
