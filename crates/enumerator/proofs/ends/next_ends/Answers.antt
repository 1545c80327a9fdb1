use Rattle.std.proofs.Common.{◌≡◌, ◌-◌, ◌*◌, ◌^◌, ◌<◌, ◌++◌, List, take, length, None, slice_set, sym, ap, ◌∙◌, arith}
use Rattle.std.proofs.lemmas.List.{get_or-take}
use Rattle.span_core.specs.Block.{closing_bit}
use Rattle.node_arena.specs.Rows.{named_row}
use Rattle.enumerator.specs.Enumeration.{SpanRow}
use Rattle.enumerator.specs.Rows.{positions_of, put, row_of, waiting_rows}
use Rattle.enumerator.specs.Waiting.{waited}
use Rattle.enumerator.proofs.Ending.{ends_row}
use Rattle.enumerator.proofs.EndsLaws.{popped_few, top_taken, taken_stacked, row_ended_to, rows_ended_to, last_ended, long_taken, are_ends}
use Rattle.enumerator.proofs.ends.next_ends.Goals as goal

pub push-requires : goal.push-requires
push-requires g c = let n = popped_few c.args.lists.now.store c.args.v _ _ _ c.in-Some.ensures c.requires.stacked in let few = c.requires.few in omega arith

pub push-requires-then-number : goal.push-requires-then-number
push-requires-then-number g c = let n = popped_few c.args.lists.now.store c.args.v _ _ _ c.in-Some.ensures c.requires.stacked in let few = c.requires.few in omega arith

pub push-requires-in_default-open_end : goal.push-requires-in_default-open_end
push-requires-in_default-open_end g c = let n = popped_few c.args.lists.now.store c.args.v _ _ _ c.in-Some.ensures c.requires.stacked in let few = c.requires.few in omega arith

pub push-requires-then-taken-eq0 : goal.push-requires-then-taken-eq0
push-requires-then-taken-eq0 g c = let n = popped_few c.args.lists.now.store c.args.v _ _ _ c.in-Some.ensures c.requires.stacked in let few = c.requires.few in omega arith

pub wait-requires : goal.wait-requires
wait-requires g c = let n = popped_few c.args.lists.now.store c.args.v _ _ _ c.in-Some.ensures c.requires.stacked in let few = c.requires.few in omega arith

pub returns-clause-stacked : goal.returns-clause-stacked
returns-clause-stacked g c =
    rw (c.wait.ensures)
    (taken_stacked c.args.lists.now.store c.args.v (positions_of c.args.row.now.positions) _ _ _ c.in-Some.ensures c.requires.stacked c.requires.sound.made
    c.in-Row.id (named_row c.in-Row.id c.at-cell.result) c.at-cell.ensures.row c.in-Row.is _ _ _ _ c.take_ends-taken.ensures.taken)

pub returns-clause-row : goal.returns-clause-row
returns-clause-row g c =
    let o = c.in-Some-open_end.ensures in
    let v = c.args.v in
    let h = c.in-Some-open_end.open.half in
    let inside : h < v = o.inside in
    let bit_is : 2 * h ≡ closing_bit v (v - 1 - h) = omega (arith, inside) in
    (ends_row v c.args.row.now.settled h c.take_ends-taken.result.last c.at-cell.result.marks c.args.row.now.positions c.args.row.now.spans o.span c.new.result
    inside (omega (arith, inside)) (omega arith) (o.alone ∙ ap (λ n. 2 ^ n) bit_is) c.requires.row None o.there (c.new.ensures.start ∙ sym o.starts) c.new.ensures.end).1

pub returns-clause-next : goal.returns-clause-next
returns-clause-next g c =
    let o = c.in-Some-open_end.ensures in
    let v = c.args.v in
    let h = c.in-Some-open_end.open.half in
    let store = c.args.lists.now.store in
    let P = positions_of c.args.row.now.positions in
    let last = c.take_ends-taken.result.last in
    let marks = c.at-cell.result.marks in
    let inside : h < v = o.inside in
    let bit_is : 2 * h ≡ closing_bit v (v - 1 - h) = omega (arith, inside) in
    let puts = (ends_row v c.args.row.now.settled h last marks c.args.row.now.positions c.args.row.now.spans o.span c.new.result
    inside (omega (arith, inside)) (omega arith) (o.alone ∙ ap (λ n. 2 ^ n) bit_is) c.requires.row None o.there (c.new.ensures.start ∙ sym o.starts) c.new.ensures.end).0 in
    let new : positions_of (slice_set c.args.row.now.positions (2 * h) last) ≡ put P (last, marks) = λ i bit. puts bit i in
    let begun = sym c.with.ensures ∙ sym c.number.ensures ∙ c.if-number.false ∙ c.number-2.ensures in
    let row = c.requires.row ∙ ap (λ m. row_of v m P) (sym begun) in
    let there = get_or-take v c.args.row.now.spans (v - 1 - h) None (omega (arith, inside)) ∙ o.there in
    let ends = take c.take_ends-taken.result.count c.take_ends-taken.new.ends in
    rw (new, c.wait.ensures) (
    top_taken store v P _ _ _ c.in-Some.ensures c.requires.stacked c.requires.sound.made
    c.in-Row.id (named_row c.in-Row.id c.at-cell.result) c.at-cell.ensures.row c.in-Row.is _ _ _ _ c.take_ends-taken.ensures.taken
    ∙ ap (λ (xs : List SpanRow). xs ++ waiting_rows store v (put P (last, marks)) (waited c.in-Some.waiting.settled c.take_ends-taken.result.later c.pop.new.self))
    (rows_ended_to v _ h marks P (take v c.args.row.now.spans) o.span inside o.alone row there ends)
    )

pub returns-clause-last : goal.returns-clause-last
returns-clause-last g c =
    let o = c.in-Some-open_end.ensures in
    let v = c.args.v in
    let h = c.in-Some-open_end.open.half in
    let P = positions_of c.args.row.now.positions in
    let last = c.take_ends-taken.result.last in
    let marks = c.at-cell.result.marks in
    let inside : h < v = o.inside in
    let bit_is : 2 * h ≡ closing_bit v (v - 1 - h) = omega (arith, inside) in
    let both = ends_row v c.args.row.now.settled h last marks c.args.row.now.positions c.args.row.now.spans o.span c.new.result
    inside (omega (arith, inside)) (omega arith) (o.alone ∙ ap (λ n. 2 ^ n) bit_is) c.requires.row None o.there (c.new.ensures.start ∙ sym o.starts) c.new.ensures.end in
    let new : positions_of (slice_set c.args.row.now.positions (2 * h) last) ≡ put P (last, marks) = λ i bit. both.0 bit i in
    let there = get_or-take v c.args.row.now.spans (v - 1 - h) None (omega (arith, inside)) ∙ o.there in
    let ends = take c.take_ends-taken.result.count c.take_ends-taken.new.ends in
    let some : 0 < length ends = long_taken c.take_ends-taken.result.count c.take_ends-taken.new.ends (omega arith) (omega arith) in
    both.1 ∙ ap (row_of v c.args.row.now.settled) new
    ∙ row_ended_to v c.args.row.now.settled h marks P (take v c.args.row.now.spans) o.span inside o.alone c.requires.row there last
    ∙ sym (last_ended (take v c.args.row.now.spans) (v - 1 - h) c.in-Some-open_end.open.start last ends some c.take_ends-taken.ensures.taken.last_is)

pub returns-clause-ends : goal.returns-clause-ends
returns-clause-ends g c =
    let o = c.in-Some-open_end.ensures in
    let v = c.args.v in
    let h = c.in-Some-open_end.open.half in
    let inside : h < v = o.inside in
    let there = get_or-take v c.args.row.now.spans (v - 1 - h) None (omega (arith, inside)) ∙ o.there in
    are_ends (take v c.args.row.now.spans) (v - 1 - h) c.in-Some-open_end.open.start o.span (take c.take_ends-taken.result.count c.take_ends-taken.new.ends) there o.starts
    c.take_ends-taken.ensures.taken.from
