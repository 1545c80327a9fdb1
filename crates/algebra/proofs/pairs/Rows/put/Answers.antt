use Rattle.std.proofs.Common.{◌≡◌, ◌≤◌, ◌⊎◌, List, [], length, map, inl, inr, sym, ap, ◌∙◌}
use Rattle.std.proofs.lemmas.Bool.{eqb-true}
use Rattle.std.proofs.lemmas.List.{length-map}
use Rattle.marked_automaton.specs.declared.TheConstants.{MOST_WAYS}
use Rattle.algebra.specs.declared.halves.HalfWay.{HalfWay}
use Rattle.algebra.specs.Pairs.{AreRowsOf, half_from, those_at}
use Rattle.algebra.specs.Renaming.{half_way}
use Rattle.algebra.specs.Sides.{graph_of, half_ways_of}
use Rattle.algebra.proofs.Searched.{no_rows_of, row_few, row_length, row_of_side, rows_of}
use Rattle.algebra.proofs.StepLaws.{row_steps, some_there, tried_len}
use Rattle.algebra.proofs.pairs.Rows.put.Goals.{then-is_empty-via-then-is_empty, then-is_empty-via-else-is_empty+then-is_empty-2}
use Rattle.algebra.proofs.pairs.Rows.put.Goals as goal

pub returns-then-is_empty-clause-rows : goal.returns-then-is_empty-clause-rows
returns-then-is_empty-clause-rows c =
    let xs = half_ways_of c.args.left.now in
    let ys = half_ways_of c.args.right.now in
    let k = c.args.pair in
    let lefts = c.ways_from-lefts.result.now in
    let rights = c.ways_from-rights.result.now in
    let one : length lefts ≡ length (those_at half_from k.left xs) = row_length c.args.left.now k.left lefts c.ways_from-lefts.ensures in
    let two : length rights ≡ length (those_at half_from k.right ys) = row_length c.args.right.now k.right rights c.ways_from-rights.ensures in
    let empty : (length (those_at half_from k.left xs) ≡ 0) ⊎ (length (those_at half_from k.right ys) ≡ 0) = elim c.then-is_empty.branch [
      | then-is_empty-via-then-is_empty w ↦ inl (sym one ∙ eqb-true (length lefts) 0 (sym c.is_empty.ensures ∙ w.if-is_empty.true))
      | then-is_empty-via-else-is_empty+then-is_empty-2 w ↦ inr (sym two ∙ eqb-true (length rights) 0 (sym w.is_empty-else-is_empty.ensures ∙ w.if-is_empty-2.true))
    ] in
    rw c.clear.ensures.items
    (rw c.clear-then-is_empty.ensures.items (no_rows_of xs ys k empty))

pub returns-clause-rows : goal.returns-clause-rows
returns-clause-rows c =
    let k = c.args.pair in
    let lefts = c.ways_from-lefts.result.now in
    let rights = c.ways_from-rights.result.now in
    rows_of (half_ways_of c.args.left.now) (half_ways_of c.args.right.now) _ _ k
    (c.in_ok-put_half_ways.ensures ∙ ((λ i. map (half_way (c.as_slice.ensures.value i) (c.as_slice-2.ensures.value i)) lefts)
    ∙ row_of_side c.args.left.now k.left lefts c.ways_from-lefts.ensures))
    (c.in_ok-put_half_ways-2.ensures ∙ ((λ i. map (half_way (c.as_slice-3.ensures.value i) (c.as_slice-4.ensures.value i)) rights)
    ∙ row_of_side c.args.right.now k.right rights c.ways_from-rights.ensures))

pub returns-clause-few : goal.returns-clause-few
returns-clause-few c =
    let A = graph_of c.args.left.now in
    let B = graph_of c.args.right.now in (
      row_few _ _ c.args.pair.left MOST_WAYS A.ways c.ways_from-lefts.result.now _ c.ways_from-lefts.ensures c.in_ok-put_half_ways.ensures c.is_marked.ensures.few_ways,
      row_few _ _ c.args.pair.right MOST_WAYS B.ways c.ways_from-rights.result.now _ c.ways_from-rights.ensures c.in_ok-put_half_ways-2.ensures c.is_marked-2.ensures.few_ways,
    )

pub returns-clause-steps : goal.returns-clause-steps
returns-clause-steps c =
    let xs = half_ways_of c.args.left.now in
    let ys = half_ways_of c.args.right.now in
    let k = c.args.pair in
    let lefts = c.ways_from-lefts.result.now in
    let rights = c.ways_from-rights.result.now in
    let one : length lefts ≡ length (those_at half_from k.left xs) = row_length c.args.left.now k.left lefts c.ways_from-lefts.ensures in
    let two : length rights ≡ length (those_at half_from k.right ys) = row_length c.args.right.now k.right rights c.ways_from-rights.ensures in
    row_steps _ _ (length (those_at half_from k.left xs)) (length (those_at half_from k.right ys)) _ (ap length c.in_ok-put_half_ways.ensures ∙ (length-map lefts _ ∙ one))
    (ap length c.in_ok-put_half_ways-2.ensures ∙ (length-map rights _ ∙ two)) (tried_len half_from half_from xs ys k)
    (rw (← one) (some_there (length lefts) (sym c.is_empty.ensures ∙ c.if-is_empty.false)))
    (rw (← two) (some_there (length rights) (sym c.is_empty-else-is_empty.ensures ∙ c.if-is_empty-2.false)))
