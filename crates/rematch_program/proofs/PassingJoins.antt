-- Pages of the answers that pass join.
use Rattle.std.proofs.Common.{◌≡◌, ℕ, ◌+◌, ◌-◌, ◌<◌, Bool, true, false, IsTrue, List, [], ◌∷◌, ◌++◌, length, take, drop, filter, Option, Some, None, ap, ◌∙◌, arith, length-drop}
use Rattle.std.specs.Prelude.{◌↔◌, if◌then◌else◌}
use Rattle.std.specs.List.{AllByRecursion}
use Rattle.span_core.specs.Order.{StandsBefore}
use Rattle.spanner_model.specs.Captures.{VarName}
use Rattle.spanner_model.specs.Expression.{QueryTree}
use Rattle.spanner_model.specs.Answers.{SpanRow, AreAnswers, AreInBlockOrder, IsRest, page_end}
use Rattle.spanner_model.proofs.RowOrder.{answers_one, page_leaves, rest_one, take_both}
use Rattle.spanner_model.specs.Passing.{Check, IsPassingPage, passes, passing}
use Rattle.rematch_program.specs.Testing.{IsPassingPageOf}
use Rattle.rematch_program.specs.Resume.{with_limit}

-- ---- those that pass are in order

all_filter : (P : SpanRow → Type 0) (f : SpanRow → Bool) (rows : List SpanRow) → AllByRecursion P rows → AllByRecursion P (filter f rows)
all_filter P f [] h = tt
all_filter P f (r ∷ rows) h = by (f r) (all_filter P f rows h.1)
  where
    by : (b : Bool) → AllByRecursion P (filter f rows) → AllByRecursion P (if b then r ∷ filter f rows else filter f rows)
    by true later = (h.0, later)
    by false later = later

order_filter : (f : SpanRow → Bool) (rows : List SpanRow) → AreInBlockOrder rows → AreInBlockOrder (filter f rows)
order_filter f [] up = tt
order_filter f (r ∷ rows) up = by (f r) (order_filter f rows up.1)
  where
    by : (b : Bool) → AreInBlockOrder (filter f rows) → AreInBlockOrder (if b then r ∷ filter f rows else filter f rows)
    by true later = (all_filter (StandsBefore r) f rows up.0, later)
    by false later = later

pub passing_in_order : (checks : List Check) (names : List VarName) (d : List ℕ) (rows : List SpanRow) → AreInBlockOrder rows → AreInBlockOrder (passing checks names d rows)
passing_in_order [] names d rows up = up
passing_in_order (c ∷ checks) names d rows up = order_filter (passes (c ∷ checks) names d) rows up

-- ---- what a page leaves

-- The page of a limit after a row, among rows in order of which these stand after it: they are its first, and the others stand after its end.
pub record Leaves (after : Option SpanRow) (limit : ℕ) (page : List SpanRow) (more : Bool) (rows rest : List SpanRow) : Type 0 where
  pub first : page ≡ take limit rest
  pub left : IsRest (page_end page after) rows (drop limit rest)
  pub counted : IsTrue more ↔ (limit < length rest)

pub page_of : (checks : List Check) (q : QueryTree) (d : List ℕ) (names : List VarName) (after : Option SpanRow) (limit : ℕ) (page : List SpanRow) (more : Bool) (rows rest : List SpanRow) →
    AreAnswers q d names rows → IsRest after (passing checks names d rows) rest → IsPassingPage checks q d names after limit page more →
    Leaves after limit page more (passing checks names d rows) rest
page_of checks q d names after limit page more rows rest are is p =
    let same = answers_one q d names p.0 rows p.2 are in
    let there : IsRest after (passing checks names d rows) p.1 = rw (← same) p.3 in
    let one : p.1 ≡ rest = rest_one after (passing checks names d rows) p.1 rest there is in
    let first : page ≡ take limit rest = p.4 ∙ ap (take limit) one in
    record {
      first = first;
      left = rw first
          (page_leaves limit after (passing checks names d rows) rest (passing_in_order checks names d rows are.in_order) is);
      counted = rw (← one) p.5;
    }

-- ---- two pages

pub passing_pages_join : (checks : List Check) (q : QueryTree) (d : List ℕ) (names : List VarName) (after : Option SpanRow) (a b : ℕ) (page next : List SpanRow) (more more' : Bool) →
    IsPassingPage checks q d names after a page more → IsPassingPage checks q d names (page_end page after) b next more' →
    IsPassingPage checks q d names after (a + b) (page ++ next) more'
passing_pages_join checks q d names after a b page next more more' h g =
    let first = page_of checks q d names after a page more h.0 h.1 h.2 h.3 h in
    let second = page_of checks q d names (page_end page after) b next more' h.0 (drop a h.1) h.2 first.left g in
    let count : length (drop a h.1) ≡ length h.1 - a = length-drop a h.1 in (
      h.0,
      h.1,
      h.2,
      h.3,
      ap (λ (p : List SpanRow). p ++ next) first.first ∙ ap (λ (p : List SpanRow). take a h.1 ++ p) second.first ∙ take_both a b h.1,
      (λ t. omega (arith, second.counted.0 t, count), λ t. second.counted.1 (omega (arith, t, count))),
    )

pub passing_pages_meet : (checks : List Check) (q : QueryTree) (d : List ℕ) (names : List VarName) (after : Option SpanRow) (a : ℕ) (b : Option ℕ) (page next : List SpanRow) (more more' : Bool) →
    IsPassingPage checks q d names after a page more → IsPassingPageOf checks q d names (page_end page after) b next more' →
    IsPassingPageOf checks q d names after (with_limit a b) (page ++ next) more'
passing_pages_meet checks q d names after a None page next more more' h g =
    (a + g.0, passing_pages_join checks q d names after a g.0 page next more more' h g.1, g.2)
passing_pages_meet checks q d names after a (Some b) page next more more' h g = passing_pages_join checks q d names after a b page next more more' h g
