use Rattle.std.proofs.Common.{arith}
use Rattle.std.proofs.lemmas.Result.{IfErr-weaker, on_ok_weaker}
use Rattle.one_pass.proofs.Parting.{at_end, before_end, gap_gives_up, gap_reads, part_gives_up, part_later, part_reads, part_starts, part_within, skip_gives_up, up_to_end, up_to_more, up_to_none}
use Rattle.one_pass.proofs.pass.Pass.read_parts.Goals as goal

pub loop-part-init : goal.loop-part-init
loop-part-init g c = up_to_none c.requires.goes_on c.requires.first c.requires.apart

pub skip-requires-clause-goes_on : goal.skip-requires-clause-goes_on
skip-requires-clause-goes_on g c = c.loop-part.invariant.reads.goes_on

pub skip-requires-clause-later : goal.skip-requires-clause-later
skip-requires-clause-later g c = part_later c.loop-part.invariant c.requires.within (omega arith)

pub returns-in-Err-clause-given_up : goal.returns-in-Err-clause-given_up
returns-in-Err-clause-given_up g c = skip_gives_up c.loop-part.invariant c.requires.within (omega arith) c.in-Err.ensures.given_up

pub overflow_add-next : goal.overflow_add-next
overflow_add-next g c =
    let last = part_within c.loop-part.invariant c.requires.within (omega arith) in
    omega (arith, last, c.requires.few)

pub slice_bounds-read-count : goal.slice_bounds-read-count
slice_bounds-read-count g c = part_starts c.loop-part.invariant c.requires.within (omega arith) c.min-end.ensures

pub slice_bounds-read-start : goal.slice_bounds-read-start
slice_bounds-read-start g c = part_starts c.loop-part.invariant c.requires.within (omega arith) c.min-end.ensures

pub returns-in-Err-read-clause-given_up : goal.returns-in-Err-read-clause-given_up
returns-in-Err-read-clause-given_up g c =
    part_gives_up c.loop-part.invariant c.requires.within (omega arith) c.in_default.ensures.read c.in_default.ensures.at c.min-end.ensures c.in-Err-read.ensures.given_up

pub loop-part-preserved : goal.loop-part-preserved
loop-part-preserved g c =
    let first = part_starts c.loop-part.invariant c.requires.within (omega arith) c.min-end.ensures in
    up_to_more c.loop-part.invariant c.requires.within (omega arith)
    (part_reads c.loop-part.invariant c.requires.within (omega arith) c.in_default.ensures.read c.in_default.ensures.at c.min-end.ensures c.in_default-read.ensures.read)
    (omega (arith, first, c.min-end.ensures, c.in_default.ensures.at, c.in_default-read.ensures.at))

pub step_rest-requires-clause-goes_on : goal.step_rest-requires-clause-goes_on
step_rest-requires-clause-goes_on g c = c.loop-part.invariant.reads.goes_on

pub step_rest-requires-clause-later : goal.step_rest-requires-clause-later
step_rest-requires-clause-later g c = before_end c.loop-part.invariant c.requires.within (omega arith)

pub returns-clause-read : goal.returns-clause-read
returns-clause-read g c =
    on_ok_weaker c.step_rest.result (gap_reads c.loop-part.invariant c.requires.within (omega arith) (omega arith)) c.step_rest.ensures.read

pub returns-clause-given_up : goal.returns-clause-given_up
returns-clause-given_up g c =
    IfErr-weaker c.step_rest.result _ _ (λ e up. gap_gives_up c.loop-part.invariant c.requires.within (omega arith) (omega arith) up) c.step_rest.ensures.given_up

pub returns-then-next-doc-clause-read : goal.returns-then-next-doc-clause-read
returns-then-next-doc-clause-read g c = up_to_end c.loop-part.invariant c.requires.within (omega arith) (omega arith)

pub returns-then-next-doc-clause-at : goal.returns-then-next-doc-clause-at
returns-then-next-doc-clause-at g c = at_end c.loop-part.invariant c.requires.within (omega arith) (omega arith)
