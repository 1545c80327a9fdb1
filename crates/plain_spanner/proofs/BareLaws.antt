-- Formulas without variables.
use Rattle.std.proofs.Common.{◌≡◌, ℕ, ◌+◌, ◌↔◌, List, [], ◌∷◌, ◌++◌, take, Some, inl, inr}
use Rattle.std.specs.Prelude.{slice_get}
use Rattle.span_core.specs.Lists.{Has}
use Rattle.spanner_model.specs.Captures.{VarName}
use Rattle.spanner_model.specs.Tree.{Tree, cat_all}
use Rattle.spanner_model.specs.Sequential.{HasVar, HasNoVar}
use Rattle.span_core.proofs.HasLaws.{Has-append_cases, Has-take}
use Rattle.spanner_model.proofs.TreeLaws.{take_at_more, parts_have, part_has}

pub bare_same : (f g : Tree) → ((x : VarName) → HasVar g x ↔ HasVar f x) → HasNoVar g ↔ HasNoVar f
bare_same f g same = (λ b x v. b x ((same x).1 v), λ b x v. b x ((same x).0 v))

-- a part of what is bare
pub bare_part : (ts : List Tree) (t : Tree) → Has ts t → HasNoVar (cat_all ts) → HasNoVar t
bare_part ts t has b x v = b x (part_has ts t x has v)

pub bare_more : (ts : List Tree) (k : ℕ) (t : Tree) → slice_get ts k ≡ Some t → HasNoVar (cat_all (take k ts)) → HasNoVar t → HasNoVar (cat_all (take (k + 1) ts))
bare_more ts k t at b one x v =
    let p = parts_have (take k ts ++ t ∷ []) x (rw (← take_at_more ts k t at) v) in
    elim (Has-append_cases (take k ts) (t ∷ []) p.0 p.1) [
      | inl a ↦ b x (part_has (take k ts) p.0 x a p.2)
      | inr a ↦ elim a [ inl e ↦ one x (rw e p.2) | inr n ↦ n ]
    ]

pub bare_take : (ts : List Tree) (k : ℕ) → HasNoVar (cat_all ts) → HasNoVar (cat_all (take k ts))
bare_take ts k b x v = let p = parts_have (take k ts) x v in b x (part_has ts p.0 x (Has-take ts k p.0 p.1) p.2)
