-- Rows that are counted.
use Rattle.std.proofs.Common.{◌≡◌, ℕ, suc, ◌+◌, ◌≤◌, List, [], length, min, sym, ap, ◌∙◌, arith}
use Rattle.spanner_model.specs.Answers.{SpanRow}

-- where none is left, all are counted
pub rows_all : (rows most all : ℕ) (rest : List SpanRow) → rest ≡ [] → rows ≤ most → min (rows + length rest) most ≡ min all most → rows ≡ min all most
rows_all rows most all rest none few same =
    let empty : length rest ≡ 0 = ap length none in
    let here : min (rows + length rest) most ≡ rows = grind (arith, empty, few) in
    sym here ∙ same

-- one more is counted
pub one_counted : (count next left before all most : ℕ) → next ≡ min (count + 1) most → before ≡ suc left → min (count + before) most ≡ min all most → min (next + left) most ≡ min all most
one_counted count next left before all most is one same =
    let here : min (next + left) most ≡ min (count + before) most = omega (arith, is, one) in
    here ∙ same
