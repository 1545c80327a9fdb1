use Rattle.std.proofs.Common.{Some, sym, arith, ◌∙◌}
use Rattle.std.proofs.lemmas.Option.{slice_get_within}
use Rattle.marked_automaton.proofs.Gathering.{no_block}
use Rattle.marked_automaton.proofs.accepting.none_past.Goals as goal

pub returns : goal.returns
returns c =
    let row = c.args.row.now in
    c.none.ensures ∙ sym (no_block c.args.at row (λ j s e.
    let r = c.loop-k.invariant j s (omega (arith, slice_get_within row j (Some s) e, c.len-k-end.ensures.value)) e in
    (omega (arith, r.0, c.requires), omega (arith, r.1, c.requires))))
