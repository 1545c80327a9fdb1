use Rattle.std.proofs.Common.{◌≡◌, ◌∙◌, map, take, sym, ap, arith}
use Rattle.std.specs.List.{range_with_len}
use Rattle.std.proofs.lemmas.List.{take_more_set}
use Rattle.enumerator.specs.Rows.{positions_of, span_of}
use Rattle.enumerator.proofs.Spans.{span_more}
use Rattle.enumerator.proofs.positions.read_spans.Goals as goal

pub loop-k-preserved : goal.loop-k-preserved
loop-k-preserved c =
    take_more_set c.loop-k.spans c.loop-k.k c.span_of.result (omega arith)
    ∙ span_more c.args.v c.args.settled (positions_of c.args.positions.now) c.loop-k.k (take c.loop-k.k c.loop-k.spans) c.span_of.result c.loop-k.invariant c.span_of.ensures

pub returns : goal.returns
returns c =
    let e : c.loop-k.k ≡ c.args.v = omega arith in
    sym (ap (λ n. take n c.loop-k.spans) e) ∙ c.loop-k.invariant ∙ ap (λ n. map (span_of c.args.v c.args.settled (positions_of c.args.positions.now)) (range_with_len 0 n)) e
