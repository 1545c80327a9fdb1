use Rattle.std.proofs.Common.{◌≡◌, ℕ, ◌+◌, ◌*◌, ◌/◌, ◌%◌, ◌<◌, List, length, get_or, sym, ap, subst, arith, ◌∙◌}
use Rattle.std.proofs.lemmas.List.{get_or_read}
use Rattle.set_table.specs.Spread.{spread}
use Rattle.set_table.proofs.SpreadLaws.{read_at, run_of}
use Rattle.set_table.proofs.index.Index.at.Goals as goal

pub index-requires : goal.index-requires
index-requires c =
    let i = c.self.inside in
    let l : c.args.place < length (spread i.runs.items i.numbers.items) = subst (λ (v : List ℕ). c.args.place < length v) (sym c.self.view_is) c.requires in
    omega (arith, run_of i.runs.items i.numbers.items c.args.place c.self.invariant l, i.runs.ok)

pub index-requires-2 : goal.index-requires-2
index-requires-2 c =
    let i = c.self.inside in
    let p = c.args.place in
    let l : p < length (spread i.runs.items i.numbers.items) = subst (λ (v : List ℕ). p < length v) (sym c.self.view_is) c.requires in
    let run = run_of i.runs.items i.numbers.items p c.self.invariant l in
    let read : c.index.result.now ≡ get_or i.runs.items (p / 16) 0 = get_or_read i.runs.items (p / 16) c.index.result.now run c.index.ensures 0 in
    omega (arith, read, c.self.invariant.within (p / 16), c.self.invariant.whole, i.numbers.ok)

pub returns : goal.returns
returns c =
    let i = c.self.inside in
    let p = c.args.place in
    let l : p < length (spread i.runs.items i.numbers.items) = subst (λ (v : List ℕ). p < length v) (sym c.self.view_is) c.requires in
    let run = run_of i.runs.items i.numbers.items p c.self.invariant l in
    let read : c.index.result.now ≡ get_or i.runs.items (p / 16) 0 = get_or_read i.runs.items (p / 16) c.index.result.now run c.index.ensures 0 in
    let there : 16 * c.index.result.now + p % 16 < length i.numbers.items = omega (arith, read, c.self.invariant.within (p / 16), c.self.invariant.whole) in
    get_or_read i.numbers.items (16 * c.index.result.now + p % 16) c.index-2.result.now there c.index-2.ensures 0
    ∙ (ap (λ b. get_or i.numbers.items (16 * b + p % 16) 0) read
    ∙ (sym (read_at i.runs.items i.numbers.items p c.self.invariant l) ∙ ap (λ (v : List ℕ). get_or v p 0) c.self.view_is))
