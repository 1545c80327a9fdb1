use Rattle.std.proofs.Common.{◌≡◌, ℕ, ◌+◌, List, take, refl, subst, sym, arith, ◌∙◌}
use Rattle.std.proofs.lemmas.Bool.{false≢true}
use Rattle.std.proofs.lemmas.List.{take_all}
use Rattle.span_core.specs.Lists.{Has}
use Rattle.span_core.proofs.HasLaws.{Has-get_or}
use Rattle.marked_automaton.specs.Reach.{IsFlagged}
use Rattle.marked_automaton.specs.declared.way.Way.{Way}
use Rattle.marked_automaton.proofs.Growing.{grows_none, grows_then, grows_weaker}
use Rattle.settled_states.specs.States.{HasMarkedWay}
use Rattle.settled_states.proofs.Marking.{IsFoundSoFar, found_more}
use Rattle.settled_states.proofs.search.Search.find_by_ways.Goals as goal
use Rattle.settled_states.proofs.search.Search.find_by_ways.Goals.{then-not-is_none+in_ok-find, else-not-is_none}

pub loop-way-init : goal.loop-way-init
loop-way-init c = record { grows = grows_none (HasMarkedWay c.args.ways.now) c.args.self.now.found.items c.args.self.now.waiting.items; found = λ q h. absurd h.1 }

pub find-requires : goal.find-requires
find-requires c =
    let ways = c.args.ways.now in
    let there = subst (Has ways) (sym c.way-item.is) (Has-get_or ways c.loop-way.way-index c.way-item.result c.loop-way-test.true) in
    omega (arith, c.loop-way.invariant.grows.len, c.requires c.way-item.result there)

pub loop-way-preserved : goal.loop-way-preserved
loop-way-preserved c =
    let ways = c.args.ways.now in
    let i = c.loop-way.way-index in
    let x = c.way-item.result in
    let s0 = c.args.self.now in
    let s1 = c.loop-way.self in
    let inv = c.loop-way.invariant in
    let within = c.loop-way-test.true in
    let M : Way → Type 0 = λ (z : Way). z.marks ≡ 0 → ⊥ in
    elim c.if-not-is_none.branch as (λ _. IsFoundSoFar (HasMarkedWay ways) (HasMarkedWay (take (i + 1) ways)) s0 c.if-not-is_none.self) [
      | then-not-is_none+in_ok-find w ↦
          let s2 = w.find.new.self in
          let one = w.in_ok-find.ensures.grows in
          let marked : x.marks ≡ 0 → ⊥ = λ e. false≢true (sym w.if-not-is_none.true ∙ c.is_none.ensures.1 e) in
          let here : HasMarkedWay ways x.from = (x, subst (Has ways) (sym c.way-item.is) (Has-get_or ways i x within), refl, marked) in
          subst (IsFoundSoFar (HasMarkedWay ways) (HasMarkedWay (take (i + 1) ways)) s0) (sym w.self-is) (record {
            grows = grows_then (HasMarkedWay ways) s0.found.items s1.found.items s2.found.items s0.waiting.items s1.waiting.items s2.waiting.items inv.grows
                (grows_weaker (λ p. p ≡ x.from) (HasMarkedWay ways) (λ p e. subst (HasMarkedWay ways) (sym e) here) s1.found.items s2.found.items s1.waiting.items s2.waiting.items one);
            found = found_more M (λ (z : Way). z.from) ways i x s1.found.items s2.found.items within c.way-item.is inv.found one.kept (λ m. w.in_ok-find.ensures.found);
          })
      | else-not-is_none w ↦
          subst (IsFoundSoFar (HasMarkedWay ways) (HasMarkedWay (take (i + 1) ways)) s0) (sym w.self-is) (record {
            grows = inv.grows;
            found = found_more M (λ (z : Way). z.from) ways i x s1.found.items s1.found.items within c.way-item.is inv.found (λ q h. h)
                (λ m. absurd (m (c.is_none.ensures.0 w.if-not-is_none.false)));
          })
    ]

pub returns-clause-found : goal.returns-clause-found
returns-clause-found c =
    subst (λ (xs : List Way). (q : ℕ) → HasMarkedWay xs q → IsFlagged c.loop-way.self.found.items q) (take_all c.loop-way.way-index c.args.ways.now c.loop-way-test.false) c.loop-way.invariant.found
