use Rattle.std.proofs.Common.{◌^◌, ap, ◌∙◌, ℕ}
use Rattle.span_core.specs.Block.{opening_bit, closing_bit}
use Rattle.span_core.proofs.HasLaws.{Contains-Has}
use Rattle.place_automaton.specs.Sides.{CanCapture, cap_sides}
use Rattle.place_automaton.specs.Words.{opening_of}
use Rattle.place_automaton.proofs.CapPlaces.{opening_at, closing_at}
use Rattle.place_automaton.proofs.placing.captured.Goals as goal

pub captured-requires : goal.captured-requires
captured-requires c =
    let names = c.args.vars.now in
    let x = c.args.name.now in
    let o = c.opening.ensures ∙ (ap (λ (v : ℕ). 2 ^ opening_bit v c.in-Some.k) c.len-count.ensures.value ∙ opening_at names c.in-Some.k x c.requires.distinct c.in-Some.ensures.some) in
    let e = c.closing.ensures ∙ (ap (λ (v : ℕ). 2 ^ closing_bit v c.in-Some.k) c.len-count.ensures.value ∙ closing_at names c.in-Some.k x c.requires.distinct c.in-Some.ensures.some) in
    rw o (rw e c.requires.marks)

pub returns-in-Some : goal.returns-in-Some
returns-in-Some c =
    let names = c.args.vars.now in
    let x = c.args.name.now in
    let o = c.opening.ensures ∙ (ap (λ (v : ℕ). 2 ^ opening_bit v c.in-Some.k) c.len-count.ensures.value ∙ opening_at names c.in-Some.k x c.requires.distinct c.in-Some.ensures.some) in
    let e = c.closing.ensures ∙ (ap (λ (v : ℕ). 2 ^ closing_bit v c.in-Some.k) c.len-count.ensures.value ∙ closing_at names c.in-Some.k x c.requires.distinct c.in-Some.ensures.some) in
    c.captured.ensures ∙ (ap (λ (n : ℕ). cap_sides n c.closing.result c.args.fragment) o ∙ ap (λ (n : ℕ). cap_sides (opening_of names x) n c.args.fragment) e)

pub returns-in-None : goal.returns-in-None
returns-in-None c = absurd (c.in-None.ensures.none (Contains-Has c.args.vars.now c.args.name.now c.requires.named))
