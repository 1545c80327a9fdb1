-- The parts of expressions that are formed, and the names in their atoms.
use Rattle.std.proofs.Common.{ℕ, ◌<◌, ◌↔◌, List, [], ◌∷◌, length, take, inl, inr, refl, subst, arith}
use Rattle.span_core.specs.Lists.{Has}
use Rattle.spanner_model.specs.Expression.{ExprTree, union_all, join_all}
use Rattle.spanner_model.specs.Captures.{VarName}
use Rattle.spanner_model.specs.Sound.{NameIn, NameInLets}
use Rattle.span_core.proofs.HasLaws.{Has-take}
use Rattle.spanner_model.proofs.ExprLaws.{join_named}
use Rattle.spanner_model.proofs.GatheredLaws.{NamesInTurn}
use Rattle.query_parser.specs.Formed.{IsFormed, AreUnitedFormed, AreJoinedFormed}
use Rattle.query_parser.specs.Bounds.{BoundNames, vars_known, sure_known, HasSureAmongVars}
use Rattle.query_parser.proofs.SureLaws.{sure_var}
use Rattle.query_parser.proofs.CheckLaws.{AreSureVars}

united_part : (n : ℕ) (es : List ExprTree) → AreUnitedFormed n (union_all es) → (e : ExprTree) → Has es e → IsFormed n e
united_part n [] f e h = absurd h
united_part n (g ∷ es) f e (inl is) = subst (IsFormed n) is f.0
united_part n (g ∷ es) f e (inr h) = united_part n es f.1 e h

joined_part : (n : ℕ) (es : List ExprTree) → AreJoinedFormed n (join_all es) → (e : ExprTree) → Has es e → IsFormed n e
joined_part n [] f e h = absurd h
joined_part n (g ∷ es) f e (inl is) = subst (IsFormed n) is f.0
joined_part n (g ∷ es) f e (inr h) = joined_part n es f.1 e h

pub union_formed : (n : ℕ) (es : List ExprTree) → IsFormed n (union_all es) → ((e : ExprTree) → Has es e → IsFormed n e) × (0 < length es)
union_formed n [] f = absurd f
union_formed n (g ∷ es) f = (λ e h. elim h [ inl is ↦ subst (IsFormed n) is f.0 | inr h ↦ united_part n es f.1 e h ], omega arith)

pub join_formed : (n : ℕ) (es : List ExprTree) → IsFormed n (join_all es) → (e : ExprTree) → Has es e → IsFormed n e
join_formed n [] f e h = absurd h
join_formed n (g ∷ es) f e (inl is) = subst (IsFormed n) is f.0
join_formed n (g ∷ es) f e (inr h) = joined_part n es f.1 e h

pub names_united : (es : List ExprTree) (x : VarName) → NameIn (join_all es) x → NameIn (union_all es) x
names_united [] x n = n
names_united (g ∷ es) x (inl n) = inl n
names_united (g ∷ es) x (inr n) = inr (names_united es x n)

-- the names of a part are among the names that have those of all
pub part_named : (names : List VarName) (es : List ExprTree) (e : ExprTree) → Has es e → ((x : VarName) → NameIn (join_all es) x → Has names x) → (x : VarName) → NameIn e x → Has names x
part_named names es e h all x n = all x (join_named es e x h n)

-- the sure variables of formed parts are variables
pub parts_sure : (known : List BoundNames) (n : ℕ) (es : List ExprTree) (k : ℕ) → HasSureAmongVars known → ((g : ExprTree) → Has es g → IsFormed n g) →
    AreSureVars (vars_known known) (sure_known known) (take k es)
parts_sure known n es k among formed e has x s = sure_var (vars_known known) (sure_known known) among n e x (formed e (Has-take es k e has)) s

names_joined : (es : List ExprTree) (x : VarName) → NameIn (union_all es) x → NameIn (join_all es) x
names_joined [] x n = n
names_joined (g ∷ es) x (inl n) = inl n
names_joined (g ∷ es) x (inr n) = inr (names_joined es x n)

pub name_of_union : (es : List ExprTree) (x : VarName) → NameIn (join_all es) x ↔ NameIn (union_all es) x
name_of_union es x = (names_united es x, names_joined es x)

part_name : (es : List ExprTree) (x : VarName) → NameIn (join_all es) x → (e : ExprTree) × Has es e × NameIn e x
part_name [] x n = absurd n
part_name (g ∷ es) x (inl n) = (g, inl refl, n)
part_name (g ∷ es) x (inr n) = let (e, h, m) = part_name es x n in (e, inr h, m)

pub name_in_turn : NamesInTurn NameIn (λ es. NameIn (join_all es))
name_in_turn = record { of_one = λ es e x. join_named es e x; one_of = λ es x. part_name es x }

-- the names of the atoms of lets, one let after another
pub let_name : (lets : List (VarName × ExprTree)) (l : VarName × ExprTree) (x : VarName) → Has lets l → NameIn l.1 x → NameInLets lets x
let_name [] l x h n = absurd h
let_name (m ∷ lets) l x (inl e) n = inl (rw e n)
let_name (m ∷ lets) l x (inr h) n = inr (let_name lets l x h n)

name_let : (lets : List (VarName × ExprTree)) (x : VarName) → NameInLets lets x → (l : VarName × ExprTree) × Has lets l × NameIn l.1 x
name_let [] x n = absurd n
name_let (m ∷ lets) x (inl n) = (m, inl refl, n)
name_let (m ∷ lets) x (inr n) = let (l, h, k) = name_let lets x n in (l, inr h, k)

pub let_in_turn : NamesInTurn (λ (l : VarName × ExprTree) (x : VarName). NameIn l.1 x) NameInLets
let_in_turn = record { of_one = λ lets l x. let_name lets l x; one_of = λ lets x. name_let lets x }
