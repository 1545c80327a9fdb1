use Rattle.std.proofs.Common.{ℕ, ◌+◌, ◌*◌, ◌/◌, ◌%◌, ◌<◌, List, length, get_or, set, sym, ap, subst, arith, ◌∙◌}
use Rattle.set_table.specs.Spread.{spread}
use Rattle.set_table.proofs.SpreadLaws.{run_of, written_is}
use Rattle.set_table.proofs.index.Index.put.Goals as goal

pub own_block-requires-clause-run : goal.own_block-requires-clause-run
own_block-requires-clause-run c =
    let i = c.self.inside in
    run_of i.runs.items i.numbers.items c.args.place c.self.invariant (subst (λ (v : List ℕ). c.args.place < length v) (sym c.self.view_is) c.requires)

pub returns-clause-put : goal.returns-clause-put
returns-clause-put c =
    let i = c.self.inside in
    let p = c.args.place in
    let n = c.args.number in
    let rs = c.own_block.new.runs.items in
    let ms = c.own_block.new.numbers.items in
    let own = c.in_ok-block.ensures.own in
    let all = c.own_block.ensures.same ∙ c.self.view_is in
    let l : p < length (spread rs ms) = subst (λ (v : List ℕ). p < length v) (sym all) c.requires in
    let mine : 0 < get_or rs (p / 16) 0 = omega (arith, own.0, own.1) in
    ap (λ b. spread rs (set ms (16 * b + p % 16) n)) (sym own.1) ∙ (written_is rs ms p n c.own_block.ensures.spread l mine ∙ ap (λ (v : List ℕ). set v p n) all)
