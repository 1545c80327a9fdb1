use Rattle.std.proofs.Common.{◌≡◌, Some, length, refl, sym, ap, ◌∙◌}
use Rattle.std.specs.Prelude.{slice_get}
use Rattle.std.proofs.lemmas.Option.{slice_get_read, slice_get_within}
use Rattle.marked_automaton.proofs.Listed.{some_same}
use Rattle.algebra_minus.specs.declared.partitions.Part.{Part}
use Rattle.algebra_minus.proofs.PartitionLaws.{put_at, put_last}
use Rattle.algebra_minus.proofs.partitions.put_part.Goals as goal

pub returns-in-Some : goal.returns-in-Some
returns-in-Some c =
    let partition = c.args.partition.now.items in
    let k = c.in-Some.k in
    let some = c.in-Some.ensures.some in
    let at : slice_get partition k ≡ Some some.0 = rw (← c.as_slice.ensures.value) some.1 in
    let part : Part = c.index.result.now in
    let read : slice_get partition k ≡ Some part = slice_get_read partition (length partition) k part refl (slice_get_within partition k some.0 at) c.index.ensures in
    let same : some.0 ≡ part = some_same some.0 part (sym at ∙ read) in
    put_at partition c.args.bytes c.args.to k part (record { bytes = c.union.result; to = c.args.to }) read (ap (λ (p : Part). p.to) (sym same) ∙ some.2) c.union.ensures refl

pub returns-in_ok-push-in-None : goal.returns-in_ok-push-in-None
returns-in_ok-push-in-None c =
    let partition = c.args.partition.now.items in
    put_last partition c.args.bytes c.args.to (record { bytes = c.args.bytes; to = c.args.to }) c.push.new.self.items c.in_ok-push-in-None.ensures.items refl refl
    (λ q h e. c.in-None.ensures.none q (rw c.as_slice.ensures.value h) e)
