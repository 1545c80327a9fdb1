use Rattle.std.proofs.Common.{get_or, inl, inr, refl, sym, subst, ◌∙◌}
use Rattle.std.proofs.lemmas.Bool.{false≢true}
use Rattle.span_core.proofs.HasLaws.{Has-get_or, Has-take_more_cases}
use Rattle.marked_automaton.specs.Reach.{IsFlagged}
use Rattle.one_pass.proofs.settled.some_good.Goals as goal

pub bounds-good-state : goal.bounds-good-state
bounds-good-state c =
    let states = c.args.states.now in
    let i = c.loop-state.state-index in
    c.requires (get_or states i 0) (Has-get_or states i 0 c.loop-state-test.true)

pub returns-then-good-state : goal.returns-then-good-state
returns-then-good-state c =
    let states = c.args.states.now in
    let i = c.loop-state.state-index in
    ((λ h. (get_or states i 0, Has-get_or states i 0 c.loop-state-test.true, c.if-good-state.true)), (λ h. refl))

pub loop-state-preserved : goal.loop-state-preserved
loop-state-preserved c = λ p h f.
    let states = c.args.states.now in
    let i = c.loop-state.state-index in
    elim (Has-take_more_cases states i 0 p c.loop-state-test.true h) [
      | inl a ↦ c.loop-state.invariant p a f
      | inr e ↦ false≢true (sym c.if-good-state.false ∙ subst (IsFlagged c.args.good.now) (sym e) f)
    ]
