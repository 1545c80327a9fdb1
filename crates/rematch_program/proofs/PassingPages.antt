-- Pages of the answers that pass.
use Rattle.std.proofs.Common.{◌≡◌, ℕ, suc, ◌<◌, ◌↔◌, Bool, true, false, IsTrue, List, [], ◌∷◌, length, Option, Some, None, refl, sym, ap, ◌∙◌, arith, length-take}
use Rattle.std.proofs.lemmas.List.{take_all}
use Rattle.spanner_model.specs.Captures.{VarName}
use Rattle.spanner_model.specs.Expression.{QueryTree}
use Rattle.spanner_model.specs.Answers.{SpanRow, AreAnswers, IsRest}
use Rattle.spanner_model.specs.declared.tested.Asked.{Asked}
use Rattle.spanner_engine.specs.Begun.{begin_steps}
use Rattle.spanner_engine.specs.Fitting.{AreLast}
use Rattle.spanner_engine.specs.Left.{AreLeft}
use Rattle.spanner_model.specs.Passing.{Check, Known, checks_of, passing}
use Rattle.spanner_engine.proofs.PassingLaws.{passing_append, has_passing}
use Rattle.rematch_program.specs.Work.{clock}
use Rattle.rematch_program.specs.Pages.{first_rows}
use Rattle.rematch_program.specs.Steps.{KeepsWithin}
use Rattle.rematch_program.specs.Taking.{PageTakes, TrialTakes}
use Rattle.rematch_program.specs.Testing.{AreAllPassing, IsPassingPageOf, PageKeeps, TrialKeeps}

-- ---- those that pass

-- those after a row are the rest of those that pass
rest_passes : (checks : List Check) (names : List VarName) (d : List ℕ) (after : Option SpanRow) (rows rest : List SpanRow) → IsRest after rows rest →
    IsRest after (passing checks names d rows) (passing checks names d rest)
rest_passes checks names d None rows rest is = ap (passing checks names d) is
rest_passes checks names d (Some after) rows rest is = (
  passing checks names d is.0,
  ap (passing checks names d) is.1 ∙ passing_append checks names d is.0 rest,
  λ r h. is.2 r (has_passing checks names d is.0 r h),
  λ r h. is.3 r (has_passing checks names d rest r h),
)

-- the answers that are left are the last of all
pub left_last : (q : QueryTree) (d : List ℕ) (names : List VarName) (after : Option SpanRow) (rest : List SpanRow) → AreLeft q d names after rest → AreLast q d names rest
left_last q d names None rest (rows, answers, is) = record { all = rows; answers = answers; front = []; joined = sym is }
left_last q d names (Some after) rest (rows, answers, is) = record { all = rows; answers = answers; front = is.0; joined = is.1 }

-- ---- the page

first_is : (checks : List Check) (q : QueryTree) (d : List ℕ) (names : List VarName) (after : Option SpanRow) (limit : Option ℕ) (rows rest : List SpanRow) (more : Bool) → AreAnswers q d names rows →
    IsRest after (passing checks names d rows) rest → IsTrue more ↔ (length (first_rows limit rest) < length rest) → IsPassingPageOf checks q d names after limit (first_rows limit rest) more
first_is checks q d names after (Some limit) rows rest more a is m = (
  rows,
  rest,
  a,
  is,
  refl,
  (λ t. let h = m.0 t in omega (arith, h, length-take limit rest), λ h. m.1 (omega (arith, h, length-take limit rest))),
)
first_is checks q d names after None rows rest true a is m = let h = m.0 refl in absurd (omega (arith, h))
first_is checks q d names after None rows rest false a is m = (
  length rest,
  (rows, rest, a, is, sym (take_all (length rest) rest (omega arith)), (λ t. absurd (cc), λ h. absurd (omega (arith, h)))),
  refl,
)

pub passing_page : (checks : List Check) (q : QueryTree) (d : List ℕ) (names : List VarName) (after : Option SpanRow) (limit : Option ℕ)
    (rest : List SpanRow) (more : Bool) → AreLeft q d names after rest →
    IsTrue more ↔ (length (first_rows limit (passing checks names d rest)) < length (passing checks names d rest)) →
    IsPassingPageOf checks q d names after limit (first_rows limit (passing checks names d rest)) more
passing_page checks q d names after limit rest more (rows, answers, is) m =
    first_is checks q d names after limit rows (passing checks names d rest) more answers (rest_passes checks names d after rows rest is) m

pub all_passing : (checks : List Check) (q : QueryTree) (d : List ℕ) (names : List VarName) (rest : List SpanRow) → AreLeft q d names None rest →
    AreAllPassing checks q d names (passing checks names d rest)
all_passing [] q d names rest (rows, answers, is) = rw is answers
all_passing (c ∷ checks) q d names rest (rows, answers, is) = (rows, answers, ap (passing (c ∷ checks) names d) is)

-- ---- what it costs, counted from an earlier moment on

pub length_checks : (k : Known) (asked : List Asked) → length asked ≡ length (checks_of k asked)
length_checks k [] = refl
length_checks k (a ∷ asked) = ap suc (length_checks k asked)

module _ (filter : Bool) (q : QueryTree) (d : List ℕ) (names : List VarName) (old mid new : ℕ) where
  pub page_keeps : (checks : List Check) (after : Option SpanRow) (rest page : List SpanRow) → AreLeft q d names after rest →
      KeepsWithin filter q d (λ K. begin_steps filter q d K after) (clock old mid) → PageTakes checks names d rest page (clock mid new) →
      PageKeeps checks filter q names d after page (clock old new)
  page_keeps [] after rest page left few took = λ K reads. let first = few K reads in omega (arith, first, took)
  page_keeps (c ∷ checks) after rest page left few (tried, within, fewer, took) = (
    tried,
    record { rest = rest; left = left; within = within; few = fewer },
    λ K reads. let first = few K reads in omega (arith, first, took),
  )

  pub trial_keeps : (checks : List Check) (rest : List SpanRow) → AreLeft q d names None rest →
      KeepsWithin filter q d (λ K. begin_steps filter q d K None) (clock old mid) → TrialTakes checks names rest (passing checks names d rest) (clock mid new) →
      TrialKeeps checks filter q names d (passing checks names d rest) (clock old new)
  trial_keeps [] rest left few took = λ K reads. let first = few K reads in omega (arith, first, took)
  trial_keeps (c ∷ checks) rest (rows, answers, is) few took = (
    rest,
    rw is answers,
    λ K reads. let first = few K reads in omega (arith, first, took),
  )
