use Rattle.std.proofs.Common.{◌≡◌, sym, ap, ◌∙◌, arith}
use Rattle.output_graph.specs.Programs.{place_in}
use Rattle.output_graph.proofs.ProgramLaws.{with_last, with_same}
use Rattle.output_graph.proofs.program.add_target.Goals as goal

pub returns-in_ok-push-clause-targets : goal.returns-in_ok-push-clause-targets
returns-in_ok-push-clause-targets c =
    let has = c.args.targets.now.ok.0 in
    let place : c.place_of-place.result ≡ place_in c.args.targets.now.items c.args.to =
    c.place_of-place.ensures ∙ ap (λ xs. place_in xs c.args.to) c.as_slice.ensures.value in
    c.in_ok-push.ensures.items ∙ sym (with_last c.args.targets.now.items c.args.to (omega arith))

pub returns-else-place-len-clause-targets : goal.returns-else-place-len-clause-targets
returns-else-place-len-clause-targets c =
    let has = c.args.targets.now.ok.0 in
    let place : c.place_of-place.result ≡ place_in c.args.targets.now.items c.args.to =
    c.place_of-place.ensures ∙ ap (λ xs. place_in xs c.args.to) c.as_slice.ensures.value in
    sym (with_same c.args.targets.now.items c.args.to (λ e. c.if-place-len.false (omega arith)))
