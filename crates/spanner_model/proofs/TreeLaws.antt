-- The parts of concatenations and alternations.
use Rattle.std.proofs.Common.{◌≡◌, ℕ, ◌+◌, ◌<◌, ◌≤◌, ◌⊎◌, ◌↔◌, List, [], ◌∷◌, ◌++◌, length, get_or, take, Some, inl, inr, refl, sym, ap, ◌∙◌, subst, arith}
use Rattle.std.specs.Prelude.{slice_get}
use Rattle.std.proofs.lemmas.List.{take_more}
use Rattle.std.proofs.lemmas.Option.{slice_get_within, get_or_from_slice_get}
use Rattle.span_core.specs.Lists.{Has}
use Rattle.spanner_model.specs.Tree.{Tree, cat_all, alt_all}
use Rattle.spanner_model.specs.Captures.{VarName}
use Rattle.spanner_model.specs.Sequential.{HasVar, IsSequential}
use Rattle.spanner_model.specs.WellBuilt.{IsBuilt, AreParts, AreArms, nesting, IsWellBuilt}
use Rattle.spanner_model.proofs.Nodes.{nodes}

-- the parts before a place, and that part
pub take_at_more : {X : Type 0} (ts : List X) (k : ℕ) (t : X) → slice_get ts k ≡ Some t → take (k + 1) ts ≡ take k ts ++ t ∷ []
take_at_more ts k t e =
    let within = slice_get_within ts k t e in
    let here : get_or ts k t ≡ t = get_or_from_slice_get ts k t t e in
    take_more ts k t within ∙ ap (λ x. take k ts ++ x ∷ []) here

-- ---- variables

-- arms and parts have the same variables
pub arms_have : (ts : List Tree) (x : VarName) → HasVar (alt_all ts) x ↔ HasVar (cat_all ts) x
arms_have [] x = (λ h. h, λ h. h)
arms_have (t ∷ ts) x = (
  λ h. elim h as (λ _. HasVar t x ⊎ HasVar (cat_all ts) x) [ inl a ↦ inl a | inr b ↦ inr ((arms_have ts x).0 b) ],
  λ h. elim h as (λ _. HasVar t x ⊎ HasVar (alt_all ts) x) [ inl a ↦ inl a | inr b ↦ inr ((arms_have ts x).1 b) ],
)

-- the variables of some part
pub parts_have : (ts : List Tree) (x : VarName) → HasVar (cat_all ts) x → (t : Tree) × Has ts t × HasVar t x
parts_have [] x h = absurd h
parts_have (t ∷ ts) x (inl a) = (t, inl refl, a)
parts_have (t ∷ ts) x (inr b) = let p = parts_have ts x b in (p.0, inr p.1, p.2)

pub part_has : (ts : List Tree) (t : Tree) (x : VarName) → Has ts t → HasVar t x → HasVar (cat_all ts) x
part_has [] t x h v = absurd h
part_has (u ∷ ts) t x (inl e) v = inl (subst (λ (w : Tree). HasVar w x) (sym e) v)
part_has (u ∷ ts) t x (inr h) v = inr (part_has ts t x h v)

-- ---- sizes

pub arms_nodes : (ts : List Tree) → nodes (alt_all ts) ≡ nodes (cat_all ts)
arms_nodes [] = refl
arms_nodes (t ∷ ts) = ap (λ n. 1 + nodes t + n) (arms_nodes ts)

pub part_nodes : (ts : List Tree) (t : Tree) → Has ts t → nodes t < nodes (cat_all ts)
part_nodes [] t h = absurd h
part_nodes (u ∷ ts) t (inl e) = omega (arith, ap nodes e)
part_nodes (u ∷ ts) t (inr h) = omega (arith, part_nodes ts t h)

-- ---- well built

built_of_parts : (ts : List Tree) (t : Tree) → AreParts (cat_all ts) → Has ts t → IsBuilt t
built_of_parts [] t h has = absurd has
built_of_parts (u ∷ ts) t h (inl e) = subst IsBuilt e h.0
built_of_parts (u ∷ ts) t h (inr has) = built_of_parts ts t h.1 has

built_of_arms : (ts : List Tree) (t : Tree) → AreArms (alt_all ts) → Has ts t → IsBuilt t
built_of_arms [] t h has = absurd has
built_of_arms (u ∷ ts) t h (inl e) = subst IsBuilt e h.0
built_of_arms (u ∷ ts) t h (inr has) = built_of_arms ts t h.1 has

nesting_of_parts : (ts : List Tree) (t : Tree) → Has ts t → nesting t < nesting (cat_all ts)
nesting_of_parts [] t h = absurd h
nesting_of_parts (u ∷ ts) t (inl e) = omega (arith, ap nesting e)
nesting_of_parts (u ∷ ts) t (inr h) = omega (arith, nesting_of_parts ts t h)

pub arms_nesting : (ts : List Tree) → nesting (alt_all ts) ≡ nesting (cat_all ts)
arms_nesting [] = refl
arms_nesting (t ∷ ts) = omega (arith, arms_nesting ts)

-- the parts of a well built concatenation, and the arms of a well built alternation, are well built
pub parts_well_built : (ts : List Tree) → IsWellBuilt (cat_all ts) → (t : Tree) → Has ts t → IsWellBuilt t
parts_well_built [] h t has = absurd has
parts_well_built (u ∷ ts) h t (inl e) = subst IsWellBuilt e (h.0.0, omega (arith, h.1))
parts_well_built (u ∷ ts) h t (inr has) = (built_of_parts ts t h.0.1 has, omega (arith, nesting_of_parts ts t has, h.1))

pub arms_well_built : (ts : List Tree) → IsWellBuilt (alt_all ts) → (t : Tree) → Has ts t → IsWellBuilt t
arms_well_built [] h t has = absurd has
arms_well_built (u ∷ ts) h t (inl e) = subst IsWellBuilt e (h.0.0, omega (arith, h.1))
arms_well_built (u ∷ ts) h t (inr has) = (built_of_arms ts t h.0.1 has, omega (arith, nesting_of_parts ts t has, arms_nesting ts, h.1))

pub arms_two : (ts : List Tree) → IsWellBuilt (alt_all ts) → 2 ≤ length ts
arms_two [] h = absurd h.0
arms_two (t ∷ []) h = absurd (h.0.2 refl)
arms_two (t ∷ u ∷ ts) h = omega arith

are_arms : (ts : List Tree) → ((t : Tree) → Has ts t → IsBuilt t) → AreArms (alt_all ts)
are_arms [] each = tt
are_arms (t ∷ ts) each = (each t (inl refl), are_arms ts (λ u h. each u (inr h)))

pub alt_built : (ts : List Tree) → 2 ≤ length ts → ((t : Tree) → Has ts t → IsBuilt t) → IsBuilt (alt_all ts)
alt_built [] two each = absurd (omega (arith, two))
alt_built (t ∷ []) two each = absurd (omega (arith, two))
alt_built (t ∷ u ∷ ts) two each = (each t (inl refl), are_arms (u ∷ ts) (λ v h. each v (inr h)), λ e. absurd (cc))

-- nested one deeper than the deepest part
pub cat_nesting : (ts : List Tree) (n : ℕ) → 1 ≤ n → ((t : Tree) → Has ts t → nesting t < n) → nesting (cat_all ts) ≤ n
cat_nesting [] n one each = omega arith
cat_nesting (t ∷ ts) n one each = omega (arith, each t (inl refl), cat_nesting ts n one (λ u h. each u (inr h)))

-- the parts, and the arms, of a sequential formula are sequential
pub sequential_part : (ts : List Tree) (t : Tree) → Has ts t → IsSequential (cat_all ts) → IsSequential t
sequential_part [] t has ok = absurd has
sequential_part (u ∷ ts) t (inl e) ok = subst IsSequential e ok.0
sequential_part (u ∷ ts) t (inr has) ok = sequential_part ts t has ok.1

pub sequential_arm : (ts : List Tree) (t : Tree) → Has ts t → IsSequential (alt_all ts) → IsSequential t
sequential_arm [] t has ok = absurd has
sequential_arm (u ∷ ts) t (inl e) ok = subst IsSequential e ok.0
sequential_arm (u ∷ ts) t (inr has) ok = sequential_arm ts t has ok.1
