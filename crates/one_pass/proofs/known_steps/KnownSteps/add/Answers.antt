use Rattle.std.proofs.Common.{◌≡◌, ℕ, List, [], ◌∷◌, ◌++◌, ap, ◌∙◌}
use Rattle.output_graph.specs.Programs.{Steps}
use Rattle.one_pass.specs.KnownSteps.{known_steps_of}
use Rattle.one_pass.proofs.KnownStepLaws.{steps_more}
use Rattle.one_pass.proofs.known_steps.KnownSteps.add.Goals as goal

pub returns-clause-added : goal.returns-clause-added
returns-clause-added c =
    let programs : List Steps = c.self.inside.programs in
    let old : List ℕ = c.self.inside.numbers.items in
    let numbers : c.push_reserved.new.self.items ≡ old ++ c.args.next ∷ [] =
    c.push_reserved.ensures.items ∙ (ap (λ (ns : List ℕ). ns ++ c.in-Ok.number ∷ []) c.reserve.ensures.items ∙ ap (λ (n : ℕ). old ++ n ∷ []) c.in-Ok.ensures.1) in
    rw (← c.self.view_is)
    (ap (λ (ps : List Steps). known_steps_of ps c.push_reserved.new.self.items) c.in_ok-add.ensures.added
    ∙ (ap (λ (ns : List ℕ). known_steps_of (programs ++ c.args.program.now ∷ []) ns) numbers ∙ steps_more programs old c.args.program.now c.args.next c.self.invariant))
