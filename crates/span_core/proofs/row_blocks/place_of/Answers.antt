use Rattle.std.proofs.Common.{◌≡◌, ℕ, ◌/◌, ◌^◌, sym, ap, ◌∙◌, arith, bit_and}
use Rattle.std.specs.Int.{bit_at}
use Rattle.std.proofs.lemmas.Nat.Bits.{bit_at-zero, shr_and_one}
use Rattle.span_core.specs.Blocks.{listed}
use Rattle.span_core.proofs.ListedBlocks.{listed_at, listed_holds}
use Rattle.span_core.proofs.row_blocks.place_of.Goals as goal

pub returns-then-number-bit-eq1-clause-some : goal.returns-then-number-bit-eq1-clause-some
returns-then-number-bit-eq1-clause-some c =
    let blocks = c.args.blocks.now in
    let bit = c.args.bit in
    let item = c.loop-at-item.result in
    let is = c.loop-at-item.is in
    ap (λ (b : ℕ × ℕ). bit_at (listed blocks b.0) bit) is
    ∙ ap (λ n. bit_at n bit) (listed_at blocks c.loop-at.at-index item c.requires.ascending c.loop-at-test.true)
    ∙ ap (λ (b : ℕ × ℕ). bit_at b.1 bit) (sym is)
    ∙ sym (shr_and_one item.1 bit)
    ∙ ap (λ n. bit_and (n / 2 ^ bit) 1) (sym c.number.ensures)
    ∙ c.if-number-bit-eq1.true

pub returns-clause-none : goal.returns-clause-none
returns-clause-none c = listed_holds (λ n. bit_at n c.args.bit ≡ 0) c.args.blocks.now (bit_at-zero c.args.bit) (λ j d l. c.loop-at.invariant j d (omega arith))
