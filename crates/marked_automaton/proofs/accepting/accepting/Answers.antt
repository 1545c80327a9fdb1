use Rattle.std.proofs.Common.{ℕ, ◌-◌, ◌<◌, ◌↔◌, Bool, List, length, get_or, sym, subst, arith}
use Rattle.std.proofs.lemmas.Option.{slice_get-get_or}
use Rattle.span_core.specs.Block.{block}
use Rattle.marked_automaton.specs.Accepting.{AcceptsFrom}
use Rattle.marked_automaton.specs.Reach.{IsFlagged}
use Rattle.marked_automaton.proofs.Gathering.{accepts_before}
use Rattle.marked_automaton.proofs.accepting.accepting.Goals as goal

pub loop-at-preserved : goal.loop-at-preserved
loop-at-preserved c =
    let ways = c.args.ways.now in
    let stops = c.args.stops.now in
    let d = c.args.doc.now in
    let w = block c.args.row.now in
    let i : ℕ = c.loop-at.at - 1 in
    let within : i < length d = omega (arith, c.loop-at.invariant.within) in
    let so_far = subst (λ (flags : List Bool). (p : ℕ) → IsFlagged flags p ↔ AcceptsFrom ways stops d w c.loop-at.at p) (sym c.as_slice.ensures.value) c.loop-at.invariant.exactly in
    record {
      within = omega (arith, c.loop-at.invariant.within);
      len = c.in_ok-good-2.ensures.len;
      exactly = accepts_before ways stops d w c.block_at-in-loop-at.result (get_or d i 0) i c.loop-at.at c.as_slice.result.now c.in_ok-good-2.good.items
          c.block_at-in-loop-at.ensures (slice_get-get_or d i 0 within) within (omega arith) so_far c.in_ok-good-2.ensures.exactly;
    }
