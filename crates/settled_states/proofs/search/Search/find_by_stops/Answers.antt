use Rattle.std.proofs.Common.{◌≡◌, ℕ, ◌+◌, List, take, refl, subst, sym, arith, ◌∙◌}
use Rattle.std.proofs.lemmas.Bool.{false≢true}
use Rattle.std.proofs.lemmas.List.{take_all}
use Rattle.span_core.specs.Lists.{Has}
use Rattle.span_core.proofs.HasLaws.{Has-get_or}
use Rattle.marked_automaton.specs.Reach.{IsFlagged}
use Rattle.marked_automaton.specs.declared.way.Stop.{Stop}
use Rattle.marked_automaton.proofs.Growing.{grows_none, grows_then, grows_weaker}
use Rattle.settled_states.specs.States.{HasMarkedEnd}
use Rattle.settled_states.proofs.Marking.{IsFoundSoFar, found_more}
use Rattle.settled_states.proofs.search.Search.find_by_stops.Goals as goal
use Rattle.settled_states.proofs.search.Search.find_by_stops.Goals.{then-not-is_none+in_ok-find, else-not-is_none}

pub loop-stop-init : goal.loop-stop-init
loop-stop-init c = record { grows = grows_none (HasMarkedEnd c.args.stops.now) c.args.self.now.found.items c.args.self.now.waiting.items; found = λ q h. absurd h.1 }

pub find-requires : goal.find-requires
find-requires c =
    let stops = c.args.stops.now in
    let there = subst (Has stops) (sym c.stop-item.is) (Has-get_or stops c.loop-stop.stop-index c.stop-item.result c.loop-stop-test.true) in
    omega (arith, c.loop-stop.invariant.grows.len, c.requires c.stop-item.result there)

pub loop-stop-preserved : goal.loop-stop-preserved
loop-stop-preserved c =
    let stops = c.args.stops.now in
    let i = c.loop-stop.stop-index in
    let x = c.stop-item.result in
    let s0 = c.args.self.now in
    let s1 = c.loop-stop.self in
    let inv = c.loop-stop.invariant in
    let within = c.loop-stop-test.true in
    let M : Stop → Type 0 = λ (z : Stop). z.marks ≡ 0 → ⊥ in
    elim c.if-not-is_none.branch as (λ _. IsFoundSoFar (HasMarkedEnd stops) (HasMarkedEnd (take (i + 1) stops)) s0 c.if-not-is_none.self) [
      | then-not-is_none+in_ok-find w ↦
          let s2 = w.find.new.self in
          let one = w.in_ok-find.ensures.grows in
          let marked : x.marks ≡ 0 → ⊥ = λ e. false≢true (sym w.if-not-is_none.true ∙ c.is_none.ensures.1 e) in
          let here : HasMarkedEnd stops x.state = (x, subst (Has stops) (sym c.stop-item.is) (Has-get_or stops i x within), refl, marked) in
          subst (IsFoundSoFar (HasMarkedEnd stops) (HasMarkedEnd (take (i + 1) stops)) s0) (sym w.self-is) (record {
            grows = grows_then (HasMarkedEnd stops) s0.found.items s1.found.items s2.found.items s0.waiting.items s1.waiting.items s2.waiting.items inv.grows
                (grows_weaker (λ p. p ≡ x.state) (HasMarkedEnd stops) (λ p e. subst (HasMarkedEnd stops) (sym e) here) s1.found.items s2.found.items s1.waiting.items s2.waiting.items one);
            found = found_more M (λ (z : Stop). z.state) stops i x s1.found.items s2.found.items within c.stop-item.is inv.found one.kept (λ m. w.in_ok-find.ensures.found);
          })
      | else-not-is_none w ↦
          subst (IsFoundSoFar (HasMarkedEnd stops) (HasMarkedEnd (take (i + 1) stops)) s0) (sym w.self-is) (record {
            grows = inv.grows;
            found = found_more M (λ (z : Stop). z.state) stops i x s1.found.items s1.found.items within c.stop-item.is inv.found (λ q h. h)
                (λ m. absurd (m (c.is_none.ensures.0 w.if-not-is_none.false)));
          })
    ]

pub returns-clause-found : goal.returns-clause-found
returns-clause-found c =
    subst (λ (xs : List Stop). (q : ℕ) → HasMarkedEnd xs q → IsFlagged c.loop-stop.self.found.items q) (take_all c.loop-stop.stop-index c.args.stops.now c.loop-stop-test.false) c.loop-stop.invariant.found
