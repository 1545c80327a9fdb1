use Rattle.std.proofs.Common.{◌≡◌, ◌+◌, ◌*◌, ◌/◌, get_or, set, sym, arith, ◌∙◌}
use Rattle.std.proofs.lemmas.List.{get_or_read}
use Rattle.set_table.specs.Spread.{spread}
use Rattle.set_table.proofs.SpreadLaws.{block_items, opened_same}
use Rattle.set_table.proofs.index.own_block.Goals as goal

pub returns-clause-same : goal.returns-clause-same
returns-clause-same c =
    let xs = c.args.runs.now.items in
    let ns = c.args.numbers.now.items in
    let s = c.requires.spread in
    let blocks : c.len-blocks.result / 16 ≡ s.blocks = omega (arith, c.len-blocks.ensures, c.args.numbers.now.ok, s.whole) in
    let more = block_items ns c.resize.new.self.items (16 * (c.len-blocks.result / 16 + 1)) _ c.args.numbers.now.ok.0 (omega (arith, blocks, s.whole)) c.in_ok-resize.ensures.items in
    let none : get_or xs c.args.run 0 ≡ 0 = sym (get_or_read xs c.args.run c.index-block.result.now c.requires.run c.index-block.ensures 0) ∙ c.if-block-ne0.false in
    (λ i. spread (set xs c.args.run (blocks i)) (more i)) ∙ opened_same xs ns c.args.run s c.requires.run none
