use Rattle.std.proofs.Common.{◌≡◌, ℕ, None, Vec, Global, get_or, sym, ap, arith, ◌∙◌}
use Rattle.std.proofs.lemmas.List.{get_or_read}
use Rattle.span_core.proofs.HasLaws.{Has-get_or}
use Rattle.marked_automaton.specs.Trimmed.{number_of}
use Rattle.marked_automaton.proofs.Loops.{kept_one_more, kept_none_more}
use Rattle.marked_automaton.proofs.trimming.Numbers.states.Goals.{in-Some+in_ok-push, in_default}
use Rattle.marked_automaton.proofs.trimming.Numbers.states.Goals as goal

pub index-requires : goal.index-requires
index-requires c =
    let states = c.args.states.now in
    let i = c.loop-state.state-index in
    omega (arith, c.requires (get_or states i 0) (Has-get_or states i 0 c.loop-state-test.true), c.args.self.now.numbers.ok.0)

pub loop-state-preserved : goal.loop-state-preserved
loop-state-preserved c =
    let states = c.args.states.now in
    let i = c.loop-state.state-index in
    let numbers = c.args.self.now.numbers.items in
    let state = get_or states i 0 in
    let within = c.requires state (Has-get_or states i 0 c.loop-state-test.true) in
    let at : c.index.result.now ≡ number_of numbers state = get_or_read numbers state c.index.result.now within c.index.ensures None in
    elim c.match-index.branch [
      | in-Some+in_ok-push w ↦
          ap (λ (v : Vec ℕ Global). v.items) w.kept-is ∙ (w.in_ok-push.ensures.items
          ∙ kept_one_more (number_of numbers) states i 0 c.loop-state.kept.items w.in-Some.number c.loop-state-test.true (sym at ∙ w.in-Some.is) c.loop-state.invariant)
      | in_default w ↦
          ap (λ (v : Vec ℕ Global). v.items) w.kept-is
          ∙ kept_none_more (number_of numbers) states i 0 c.loop-state.kept.items c.loop-state-test.true (sym at ∙ w.in_default.is) c.loop-state.invariant
    ]
