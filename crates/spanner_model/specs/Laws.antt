-- Laws that the meaning has.
use Rattle.std.specs.Prelude.{◌≡◌, None, Some, ℕ, ◌+◌, ◌≤◌, ◌↔◌, Bool, List, ◌++◌, length, Option}
use Rattle.span_core.specs.declared.span.Span.{Span}
use Rattle.span_core.specs.Lists.{Has}
use Rattle.spanner_model.specs.Tree.{Tree}
use Rattle.spanner_model.specs.Captures.{VarName, Captures, Captured, Mapping}
use Rattle.spanner_model.specs.Expression.{ExprTree, QueryTree, union_all, join_all}
use Rattle.spanner_model.specs.Answer.{VarOf, IsRestriction, Answer, vars_of_lets, answers_of_lets, IsAnswer, IsResultVar}
use Rattle.spanner_model.specs.Answers.{SpanRow, AreResultNames, AreAnswers, IsPage, page_end}
use Rattle.spanner_model.specs.Fit.{Fit}
use Rattle.spanner_model.specs.Sequential.{HasVar, IsSequential, IsSure}
use Rattle.spanner_model.specs.Functional.{IsFunctional, IsFunctionalQuery, IsTotalAnswer}
use Rattle.spanner_model.specs.Sound.{IsSound, IsSureResult}

-- a fit of a sequential formula captures each sure variable, and no name but the formula's variables
abbrev pub SequentialFitsGiveTheSure : Type 0
SequentialFitsGiveTheSure =
    (f : Tree) (d : List ℕ) (i j : ℕ) (m : Captures) → IsSequential f → Fit f d i j m → (x : VarName) →
    (IsSure f x → Captured m x) × (Captured m x → HasVar f x)

-- a part that fits does not end before it begins, and it ends in the document where it begins there
abbrev pub FitsLieInTheDocument : Type 0
FitsLieInTheDocument =
    (f : Tree) (d : List ℕ) (i j : ℕ) (m : Captures) → i ≤ length d → Fit f d i j m → (i ≤ j) × (j ≤ length d)

-- an answer gives a span to no name but the result's variables
abbrev pub AnswersAreAbsentOutside : Type 0
AnswersAreAbsentOutside =
    (q : QueryTree) (d : List ℕ) (m : Mapping) → IsAnswer q d m → (x : VarName) → ¬ IsResultVar q x → m x ≡ None

-- an answer gives a span to each sure variable of the result
abbrev pub AnswersGiveTheSure : Type 0
AnswersGiveTheSure =
    (q : QueryTree) (d : List ℕ) (m : Mapping) → IsAnswer q d m → (x : VarName) → IsSureResult q x → (s : Span) × (m x ≡ Some s)

-- functional formulas are sequential, and each of their variables is sure
abbrev pub FunctionalIsSequential : Type 0
FunctionalIsSequential = (f : Tree) → IsFunctional f → IsSequential f × ((x : VarName) → HasVar f x → IsSure f x)

-- Queries of functional formulas, whose unions have equal variables, are sound; each variable of their result is
-- sure; and they have the answers that they had where a join's answer had to have all variables of its parts.
pub record FunctionalQueriesAreAsBefore : Type 0 where
  pub are_sound : (q : QueryTree) → IsFunctionalQuery q → IsSound q
  pub all_are_sure : (q : QueryTree) → IsFunctionalQuery q → (x : VarName) → IsResultVar q x → IsSureResult q x
  pub same_answers : (q : QueryTree) (d : List ℕ) (m : Mapping) → IsFunctionalQuery q → IsTotalAnswer q d m ↔ IsAnswer q d m

-- a mapping is an answer of a union where it is one of some part
abbrev pub UnionsAnswerForSomePart : Type 0
UnionsAnswerForSomePart =
    (lets : List (VarName × ExprTree)) (d : List ℕ) (n : ℕ) (parts : List ExprTree) (m : Mapping) →
    let answers = Answer (vars_of_lets lets n) (answers_of_lets lets d n) d in
    answers (union_all parts) m ↔ ((e : ExprTree) × Has parts e × answers e m)

-- a mapping is an answer of a join where it is absent outside the variables of all parts, and its
-- restriction to each part's variables is an answer of that part
abbrev pub JoinsAnswerForEachPart : Type 0
JoinsAnswerForEachPart =
    (lets : List (VarName × ExprTree)) (d : List ℕ) (n : ℕ) (parts : List ExprTree) (m : Mapping) →
    let vars = VarOf (vars_of_lets lets n) in
    let answers = Answer (vars_of_lets lets n) (answers_of_lets lets d n) d in
    answers (join_all parts) m
    ↔ (((x : VarName) → ¬ vars (join_all parts) x → m x ≡ None)
    × ((e : ExprTree) → Has parts e → (r : Mapping) × IsRestriction (vars e) m r × answers e r))

-- two lists that are the names of a query's result are equal
abbrev pub ResultNamesAreOne : Type 0
ResultNamesAreOne =
    (q : QueryTree) (names others : List VarName) → AreResultNames q names → AreResultNames q others → names ≡ others

-- two lists that are all answers are equal
abbrev pub AnswersAreOne : Type 0
AnswersAreOne =
    (q : QueryTree) (d : List ℕ) (names : List VarName) (rows others : List SpanRow) →
    AreAnswers q d names rows → AreAnswers q d names others → rows ≡ others

-- two pages after the same row with the same limit are equal
abbrev pub PagesAreOne : Type 0
PagesAreOne =
    (q : QueryTree) (d : List ℕ) (names : List VarName) (after : Option SpanRow) (limit : ℕ) (page other : List SpanRow) (more more' : Bool) →
    IsPage q d names after limit page more → IsPage q d names after limit other more' → (page ≡ other) × (more ≡ more')

-- a page, and the page that follows it, are one page of both limits together
abbrev pub PagesJoin : Type 0
PagesJoin =
    (q : QueryTree) (d : List ℕ) (names : List VarName) (after : Option SpanRow) (a b : ℕ) (page next : List SpanRow) (more more' : Bool) →
    IsPage q d names after a page more → IsPage q d names (page_end page after) b next more' →
    IsPage q d names after (a + b) (page ++ next) more'
