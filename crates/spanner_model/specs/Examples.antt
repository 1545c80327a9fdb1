-- The meaning on small documents.
use Rattle.std.specs.Prelude.{ℕ, ◌+◌, [], ◌∷◌, Some, None, codes}
use Rattle.std.specs.FinSet as set
use Rattle.std.proofs.Math.Nat.{le-add_right}
use Rattle.span_core.specs.declared.span.Span.{Span}
use Rattle.span_core.specs.ByteSets.{bytes_between}
use Rattle.span_core.specs.Order.{StandsBefore}
use Rattle.spanner_model.specs.Tree.{Tree, one, cat_all, alt_all, rep, cap}
use Rattle.spanner_model.specs.Captures.{VarName, span_of}
use Rattle.spanner_model.specs.Expression.{ExprTree, QueryTree, atom, tied, untied, union_all, join_all, project}
use Rattle.spanner_model.specs.Answer.{FitsSomewhere}
use Rattle.spanner_model.specs.Sound.{IsSound}
use Rattle.spanner_model.specs.Answers.{SpanRow, IsAnswerRow, AreAnswers}

-- the byte of this code, and any byte but the end of a line
abbrev pub byte : ℕ → Tree
byte code = one (set.insert set.empty code)

abbrev pub dot : Tree
dot = one (set.difference (bytes_between 0 255) (set.insert set.empty 10))

abbrev pub a : Tree
a = byte 97

abbrev pub b : Tree
b = byte 98

abbrev pub c : Tree
c = byte 99

abbrev pub star : Tree → Tree
star f = rep f 0 None

abbrev pub plus : Tree → Tree
plus f = rep f 1 None

abbrev pub x : VarName
x = codes "x"

abbrev pub y : VarName
y = codes "y"

-- an atom that is not tied, and a query without lets
abbrev pub free : Tree → ExprTree
free f = atom (untied f)

abbrev pub query : ExprTree → QueryTree
query e = record { lets = []; body = e }

-- the span of so many bytes from a position on
abbrev pub span : ℕ → ℕ → Span
span from bytes = record { start = from; end = from + bytes; ordered = le-add_right from bytes }

abbrev pub row1 : Span → SpanRow
row1 s = Some s ∷ []

abbrev pub row2 : Span → Span → SpanRow
row2 s t = Some s ∷ (Some t ∷ [])

-- /!x{a*}/ on `aa`: each part that is made of `a` alone, the empty ones too
abbrev pub EachPart : Type 0
EachPart =
    let answers = IsAnswerRow (query (free (cap x (star a)))) (codes "aa") (x ∷ []) in
    answers (row1 (span 0 0)) × answers (row1 (span 0 1)) × answers (row1 (span 0 2))
    × answers (row1 (span 1 0)) × answers (row1 (span 1 1)) × answers (row1 (span 2 0))

-- the same on the empty document: the empty part is the one answer
abbrev pub EmptyDocument : Type 0
EmptyDocument = AreAnswers (query (free (cap x (star a)))) [] (x ∷ []) (row1 (span 0 0) ∷ [])

-- /^!x{a*}$/ on `aa`: the whole document, and no shorter part
abbrev pub Tied : Type 0
Tied =
    let answers = IsAnswerRow (query (atom (tied (cap x (star a))))) (codes "aa") (x ∷ []) in
    answers (row1 (span 0 2)) × ¬ answers (row1 (span 0 1))

-- /!x{a}(a|aa)*/ on `aaa`: however many ways there are, the row is one
abbrev pub ManyWays : Type 0
ManyWays =
    let f = cat_all (cap x a ∷ (star (alt_all (a ∷ (cat_all (a ∷ (a ∷ [])) ∷ []))) ∷ [])) in
    let answers = IsAnswerRow (query (free f)) (codes "aaa") (x ∷ []) in
    answers (row1 (span 0 1)) × answers (row1 (span 1 1)) × answers (row1 (span 2 1))

-- /!x{a+}!y{b+}/ on `aabb`
abbrev pub Neighbours : Type 0
Neighbours =
    let f = cat_all (cap x (plus a) ∷ (cap y (plus b) ∷ [])) in
    let answers = IsAnswerRow (query (free f)) (codes "aabb") (x ∷ (y ∷ [])) in
    answers (row2 (span 0 2) (span 2 1)) × answers (row2 (span 0 2) (span 2 2))
    × answers (row2 (span 1 1) (span 2 1)) × answers (row2 (span 1 1) (span 2 2))

-- /!x{a!y{b}c}/ on `abcabc`: a capture inside another
abbrev pub Nested : Type 0
Nested =
    let f = cap x (cat_all (a ∷ (cap y b ∷ (c ∷ [])))) in
    let answers = IsAnswerRow (query (free f)) (codes "abcabc") (x ∷ (y ∷ [])) in
    answers (row2 (span 0 3) (span 1 1)) × answers (row2 (span 3 3) (span 4 1))

-- /!x{[ab]+}/ join /!x{.}b/ on `aab`: the same span on both sides
abbrev pub Joined : Type 0
Joined =
    let letters = cap x (plus (one (bytes_between 97 98))) in
    let before_b = cat_all (cap x dot ∷ (b ∷ [])) in
    let answers = IsAnswerRow (query (join_all (free letters ∷ (free before_b ∷ [])))) (codes "aab") (x ∷ []) in
    answers (row1 (span 1 1)) × ¬ answers (row1 (span 0 1))

-- project x (/!x{a}!y{b*}/) on `abb`
abbrev pub Projected : Type 0
Projected =
    let f = cat_all (cap x a ∷ (cap y (star b) ∷ [])) in
    IsAnswerRow (query (project (x ∷ []) (free f))) (codes "abb") (x ∷ []) (row1 (span 0 1))

-- project none (/!x{a}/) on `aa`: the empty row
abbrev pub ProjectedToNone : Type 0
ProjectedToNone = IsAnswerRow (query (project [] (free (cap x a)))) (codes "aa") [] []

-- !x{a}|b
abbrev pub x_or_b : Tree
x_or_b = alt_all (cap x a ∷ (b ∷ []))

-- /!x{a}|b/ on `ab`: `x=0-1`, and x absent
abbrev pub OptionalRows : Type 0
OptionalRows =
    let answers = IsAnswerRow (query (free x_or_b)) (codes "ab") (x ∷ []) in
    answers (row1 (span 0 1)) × answers (None ∷ [])

-- /(!x{a})?b/ on `ab`: `x=0-1`, and x absent
abbrev pub MaybeRows : Type 0
MaybeRows =
    let f = cat_all (rep (cap x a) 0 (Some 1) ∷ (b ∷ [])) in
    let answers = IsAnswerRow (query (free f)) (codes "ab") (x ∷ []) in
    answers (row1 (span 0 1)) × answers (None ∷ [])

-- /!x{a}/ union /!y{a}/ on `a`: `x=0-1` with y absent, and `y=0-1` with x absent
abbrev pub UnionRows : Type 0
UnionRows =
    let answers = IsAnswerRow (query (union_all (free (cap x a) ∷ (free (cap y a) ∷ [])))) (codes "a") (x ∷ (y ∷ [])) in
    answers (Some (span 0 1) ∷ (None ∷ [])) × answers (None ∷ (Some (span 0 1) ∷ []))

-- /!x{a}|b/ join /!x{.}/ on `ab`: a part's answer without x and another's with `x=1-2` do not join, though
-- they give no name two spans; such a join is not sound, since x is not sure on the left
abbrev pub UnsureJoin : Type 0
UnsureJoin =
    let q = query (join_all (free x_or_b ∷ (free (cap x dot) ∷ []))) in
    FitsSomewhere (untied x_or_b) (codes "ab") (λ z. None)
    × FitsSomewhere (untied (cap x dot)) (codes "ab") (span_of ((x, span 1 1) ∷ []))
    × ¬ IsAnswerRow q (codes "ab") (x ∷ []) (row1 (span 1 1)) × ¬ IsSound q

-- block order looks at all variables at a position before it looks at the next position:
-- `x=0-1 y=1-2 z=0-1` stands before `x=0-1 y=1-1 z=1-1`, though 1-1 is less than 1-2
abbrev pub BlocksBeforeTuples : Type 0
BlocksBeforeTuples =
    StandsBefore (Some (span 0 1) ∷ (Some (span 1 1) ∷ (Some (span 0 1) ∷ []))) (Some (span 0 1) ∷ (Some (span 1 0) ∷ (Some (span 1 0) ∷ [])))
