use Rattle.std.proofs.Common.{arith, ◌∷◌, []}
use Rattle.span_core.proofs.ListLaws.{prefix_then}
use Rattle.query_printer.proofs.PrintedParts.{texts_put, keep_some}
use Rattle.query_printer.proofs.queries.push_keep.Goals as goal

pub loop-k-preserved : goal.loop-k-preserved
loop-k-preserved c = record {
  printed = texts_put c.loop-k.out.items (44 ∷ []) c.args.names.now c.loop-k.k c.at.result.now c.push_given.new.out.items c.push_bytes-in-loop-k.new.out.items _ c.at.ensures.value
      c.in_ok-push_given.ensures.ok (rw c.as_bytes.ensures.value at c.in_ok-push_bytes.ensures.ok) c.loop-k.invariant.printed;
  front = prefix_then _ _ _ (prefix_then _ _ _ c.loop-k.invariant.front c.in_ok-push_given.ensures.front) c.in_ok-push_bytes.ensures.front;
}

pub returns-clause-ok : goal.returns-clause-ok
returns-clause-ok c =
    let some = c.if-len-eq0.false in
    keep_some c.args.names.now c.args.out.now.items c.loop-k.out.items c.loop-k.k (omega (arith, some, c.len.ensures.value)) (omega (arith, c.loop-k-test.false, c.len-k-end.ensures.value))
    c.loop-k.invariant.printed
