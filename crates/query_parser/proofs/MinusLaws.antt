-- How many differences stand in what is made of parts.
use Rattle.std.proofs.Common.{◌≡◌, ℕ, suc, ◌+◌, List, [], ◌∷◌, ◌++◌, Option, Some, None, refl, ◌∙◌, arith}
use Rattle.spanner_model.specs.Captures.{VarName}
use Rattle.spanner_model.specs.Expression.{ExprTree, union_all, join_all}
use Rattle.query_parser.specs.Minuses.{minuses_in, minuses_in_lets}
use Rattle.query_parser.specs.Spells.{union_tree, join_tree}
use Rattle.query_parser.specs.Nest.{Frame, whole_conj, less, whole_expr, whole, keeping, closed}

-- in all of these
abbrev pub minuses_among : List ExprTree → ℕ
minuses_among [] = 0
minuses_among (e ∷ es) = minuses_in e + minuses_among es

abbrev pub minuses_beside : Option ExprTree → ℕ
minuses_beside None = 0
minuses_beside (Some l) = suc (minuses_in l)

abbrev pub minuses_of_frame : Frame → ℕ
minuses_of_frame f = minuses_among f.conjs + (minuses_beside f.left + minuses_among f.units)

pub among_more : (es : List ExprTree) (e : ExprTree) → minuses_among (es ++ e ∷ []) ≡ minuses_among es + minuses_in e
among_more [] e = omega arith
among_more (f ∷ es) e = omega (arith, among_more es e)

pub lets_more : (lets : List (VarName × ExprTree)) (x : VarName) (e : ExprTree) → minuses_in_lets (lets ++ (x, e) ∷ []) ≡ minuses_in_lets lets + minuses_in e
lets_more [] x e = omega arith
lets_more (l ∷ lets) x e = omega (arith, lets_more lets x e)

pub joined_count : (es : List ExprTree) → minuses_in (join_all es) ≡ minuses_among es
joined_count [] = refl
joined_count (e ∷ es) = omega (arith, joined_count es)

pub united_count : (es : List ExprTree) → minuses_in (union_all es) ≡ minuses_among es
united_count [] = refl
united_count (e ∷ es) = omega (arith, united_count es)

pub join_count : (es : List ExprTree) → minuses_in (join_tree es) ≡ minuses_among es
join_count [] = refl
join_count (e ∷ []) = omega arith
join_count (e ∷ f ∷ es) = joined_count (e ∷ f ∷ es)

pub union_count : (es : List ExprTree) → minuses_in (union_tree es) ≡ minuses_among es
union_count [] = refl
union_count (e ∷ []) = omega arith
union_count (e ∷ f ∷ es) = united_count (e ∷ f ∷ es)

pub conj_count : (us : List ExprTree) (e : ExprTree) → minuses_in (whole_conj us e) ≡ minuses_among us + minuses_in e
conj_count [] e = omega arith
conj_count (u ∷ us) e = joined_count ((u ∷ us) ++ e ∷ []) ∙ among_more (u ∷ us) e

pub less_count : (left : Option ExprTree) (c : ExprTree) → minuses_in (less left c) ≡ minuses_beside left + minuses_in c
less_count None c = omega arith
less_count (Some l) c = omega arith

pub expr_count : (cs : List ExprTree) (c : ExprTree) → minuses_in (whole_expr cs c) ≡ minuses_among cs + minuses_in c
expr_count [] c = omega arith
expr_count (d ∷ ds) c = united_count ((d ∷ ds) ++ c ∷ []) ∙ among_more (d ∷ ds) c

pub whole_count : (f : Frame) (e : ExprTree) → minuses_in (whole f e) ≡ minuses_of_frame f + minuses_in e
whole_count f e =
    let conj = whole_conj f.units e in
    omega (arith, expr_count f.conjs (less f.left conj), less_count f.left conj, conj_count f.units e)

pub keeping_count : (keep : Option (List VarName)) (e : ExprTree) → minuses_in (keeping keep e) ≡ minuses_in e
keeping_count None e = refl
keeping_count (Some names) e = refl

pub closed_count : (f : Frame) (e : ExprTree) → minuses_in (closed f e) ≡ minuses_of_frame f + minuses_in e
closed_count f e = keeping_count f.names (whole f e) ∙ whole_count f e
