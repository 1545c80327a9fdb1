use Rattle.std.proofs.Common.{◌≡◌, ℕ, ◌+◌, ◌-◌, ◌*◌, ◌^◌, sym, ap, arith, ◌∙◌}
use Rattle.std.specs.Prelude.{bit_or}
use Rattle.span_core.specs.Block.{opening_bit}
use Rattle.marked_automaton.proofs.EraserLaws.{add_closing, add_opening, add_both}
use Rattle.marked_automaton.proofs.eraser.with_digit.Goals as goal

pub returns-in-1 : goal.returns-in-1
returns-in-1 c =
    let b = c.requires.before in
    let w : ℕ = 2 ^ (2 * (c.args.v - (c.args.k + 1))) in
    c.with.ensures ∙ (ap (bit_or c.args.marks) c.closing.ensures
    ∙ (add_closing c.args.marks c.args.k c.args.v b.0 c.requires.variable b.1 ∙ ap (λ d. c.args.marks + d * w) (sym c.in-1.is)))

pub returns-in-2 : goal.returns-in-2
returns-in-2 c =
    let b = c.requires.before in
    let w : ℕ = 2 ^ (2 * (c.args.v - (c.args.k + 1))) in
    c.with-in-2.ensures ∙ (ap (bit_or c.args.marks) c.opening.ensures
    ∙ (add_opening c.args.marks c.args.k c.args.v b.0 c.requires.variable b.1 ∙ ap (λ d. c.args.marks + d * w) (sym c.in-2.is)))

pub returns-in_default : goal.returns-in_default
returns-in_default c =
    let b = c.requires.before in
    let w : ℕ = 2 ^ (2 * (c.args.v - (c.args.k + 1))) in
    let three : 3 ≡ c.args.digit = omega arith in
    c.with-in_default-2.ensures
    ∙ (ap (λ x. bit_or x c.closing-in_default.result) (c.with-in_default.ensures ∙ ap (bit_or c.args.marks) c.opening-in_default.ensures)
    ∙ (ap (bit_or (bit_or c.args.marks (2 ^ opening_bit c.args.v c.args.k))) c.closing-in_default.ensures
    ∙ (add_both c.args.marks c.args.k c.args.v b.0 c.requires.variable b.1 ∙ ap (λ d. c.args.marks + d * w) three)))
