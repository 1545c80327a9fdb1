-- Names added in turn.
use Rattle.std.proofs.Common.{◌≡◌, ℕ, ◌+◌, ◌<◌, ◌≤◌, ◌⊎◌, ◌↔◌, Bool, true, false, List, [], ◌∷◌, ◌++◌, length, take, Some, Contains, inl, inr, refl, sym, subst, arith, IsTrue}
use Rattle.std.specs.Bool.{OnTrue, OnFalse}
use Rattle.span_core.specs.declared.TheConstants.{MOST_VARIABLES}
use Rattle.span_core.specs.NameSets.{Ascending, with_name}
use Rattle.spanner_model.specs.Captures.{VarName}
use Rattle.std.specs.Prelude.{slice_get}
use Rattle.span_core.specs.Lists.{Has}
use Rattle.spanner_model.specs.Tree.{cat_all}
use Rattle.spanner_model.specs.Sequential.{HasVar}
use Rattle.spanner_model.specs.Expression.{join_all}
use Rattle.spanner_model.specs.Answer.{VarOf}
use Rattle.spanner_model.specs.Gathered.{Adds, HaveRoom, Gathered}
use Rattle.span_core.proofs.HasLaws.{distinct-le, Contains-Has, Has-slice_get, Has-take, Has-append_left, Has-append_right, Has-append_cases}
use Rattle.spanner_model.proofs.TreeLaws.{take_at_more, parts_have, part_has}
use Rattle.spanner_model.proofs.ExprLaws.{LetVars, join_part_var, join_var_part}
use Rattle.spanner_model.proofs.NameLaws.{ascending-distinct, with_cases, with_here, with_there}

-- the same set, said of other names
pub gathered_same : (old new : List VarName) (P Q : VarName → Type 0) (all : Bool) → ((x : VarName) → P x ↔ Q x) → Gathered old P all new → Gathered old Q all new
gathered_same old new P Q true same h = λ x. (
  λ a. elim ((h x).0 a) as (λ _. Has old x ⊎ Q x) [ inl b ↦ inl b | inr b ↦ inr ((same x).0 b) ],
  λ a. (h x).1 (elim a as (λ _. Has old x ⊎ P x) [ inl b ↦ inl b | inr b ↦ inr ((same x).1 b) ]),
)
gathered_same old new P Q false same h = (
  λ x. ((h.0 x).0, λ a. elim ((h.0 x).1 a) as (λ _. Has old x ⊎ Q x) [ inl b ↦ inl b | inr b ↦ inr ((same x).0 b) ]),
  λ r. h.1 (r.0, r.1, λ x a. r.2 x (elim a as (λ _. Has old x ⊎ Q x) [ inl b ↦ inl b | inr b ↦ inr ((same x).0 b) ])),
)

-- first the names of P, then those of Q
pub gathered_then : (old mid new : List VarName) (P Q : VarName → Type 0) (all : Bool) → Adds old P mid → Gathered mid Q all new → Gathered old (λ x. P x ⊎ Q x) all new
gathered_then old mid new P Q true a h = λ x. (
  λ z. elim ((h x).0 z) as (λ _. Has old x ⊎ (P x ⊎ Q x)) [
    | inl b ↦ elim ((a x).0 b) as (λ _. Has old x ⊎ (P x ⊎ Q x)) [ inl o ↦ inl o | inr p ↦ inr (inl p) ]
    | inr q ↦ inr (inr q)
  ],
  λ z. (h x).1 (elim z as (λ _. Has mid x ⊎ Q x) [
    | inl o ↦ inl ((a x).1 (inl o))
    | inr pq ↦ elim pq as (λ _. Has mid x ⊎ Q x) [ inl p ↦ inl ((a x).1 (inr p)) | inr q ↦ inr q ]
  ]),
)
gathered_then old mid new P Q false a h = (
  λ x. (
    λ o. (h.0 x).0 ((a x).1 (inl o)),
    λ z. elim ((h.0 x).1 z) as (λ _. Has old x ⊎ (P x ⊎ Q x)) [
      | inl b ↦ elim ((a x).0 b) as (λ _. Has old x ⊎ (P x ⊎ Q x)) [ inl o ↦ inl o | inr p ↦ inr (inl p) ]
      | inr q ↦ inr (inr q)
    ],
  ),
  λ r. h.1 (
    r.0,
    r.1,
    λ x z. r.2 x (elim z as (λ _. Has old x ⊎ (P x ⊎ Q x)) [
      | inl b ↦ elim ((a x).0 b) as (λ _. Has old x ⊎ (P x ⊎ Q x)) [ inl o ↦ inl o | inr p ↦ inr (inl p) ]
      | inr q ↦ inr (inr q)
    ]),
  ),
)

-- where those of P are too many, those of Q are, which has them all
pub gathered_less : (old new : List VarName) (P Q : VarName → Type 0) → ((x : VarName) → P x → Q x) → Gathered old P false new → Gathered old Q false new
gathered_less old new P Q in_q h = (
  λ x. ((h.0 x).0, λ z. elim ((h.0 x).1 z) as (λ _. Has old x ⊎ Q x) [ inl o ↦ inl o | inr p ↦ inr (in_q x p) ]),
  λ r. h.1 (r.0, r.1, λ x z. r.2 x (elim z as (λ _. Has old x ⊎ Q x) [ inl o ↦ inl o | inr p ↦ inr (in_q x p) ])),
)

-- one name
pub gathered_name : (name : VarName) (old new : List VarName) (all : Bool) → Ascending old → length old ≤ MOST_VARIABLES →
    (IsTrue all ↔ (Contains old name ⊎ (length old < MOST_VARIABLES))) → OnTrue all (new ≡ with_name name old) → OnFalse all (new ≡ old) →
    Gathered old (λ x. name ≡ x) all new
gathered_name name old new true up few room added kept = λ x. (
  λ h. elim (with_cases name x old (subst (λ (xs : List VarName). Has xs x) added h)) as (λ _. Has old x ⊎ (name ≡ x)) [ inl e ↦ inr e | inr o ↦ inl o ],
  λ h. subst (λ (xs : List VarName). Has xs x) (sym added) (elim h as (λ _. Has (with_name name old) x) [
    | inl o ↦ with_there name x old o
    | inr e ↦ subst (Has (with_name name old)) e (with_here name old)
  ]),
)
gathered_name name old new false up few room added kept = (
  λ x. (
    λ o. subst (λ (xs : List VarName). Has xs x) (sym kept) o,
    λ h. inl (subst (λ (xs : List VarName). Has xs x) kept h),
  ),
  λ r.
      let absent : Has old name → ⊥ = λ h. let e : IsTrue false = room.1 (inl (Contains-Has old name h)) in absurd (cc) in
      let full : length old < MOST_VARIABLES → ⊥ = λ l. let e : IsTrue false = room.1 (inr l) in absurd (cc) in
      let more = distinct-le (name ∷ old) r.0 (absent, ascending-distinct old up) (λ x h. r.2 x (elim h as (λ _. Has old x ⊎ (name ≡ x)) [ inl e ↦ inr e | inr o ↦ inl o ])) in
      full (omega (arith, more, r.1)),
)

-- where there is room all names are added
pub gathered_all : (old new : List VarName) (P : VarName → Type 0) (all : Bool) → HaveRoom old P → Gathered old P all new → IsTrue all × Adds old P new
gathered_all old new P true room h = (refl, h)
gathered_all old new P false room h = absurd (h.1 room)

-- the things of a list in turn, of which each has its names: the next one
--   `In xs x` is that x is a name of one of the things xs.
pub record NamesInTurn {X : Type 0} (N : X → VarName → Type 0) (In : List X → VarName → Type 0) : Type 0 where
  pub of_one : (xs : List X) (x : X) (name : VarName) → Has xs x → N x name → In xs name
  pub one_of : (xs : List X) (name : VarName) → In xs name → (x : X) × Has xs x × N x name

module _ {X : Type 0} (N : X → VarName → Type 0) (In : List X → VarName → Type 0) (turn : NamesInTurn N In) where
  pub in_more : (xs : List X) (y : X) (name : VarName) → In (xs ++ y ∷ []) name ↔ (In xs name ⊎ N y name)
  in_more xs y name = (
    λ h. let p = turn.one_of (xs ++ y ∷ []) name h in elim (Has-append_cases xs (y ∷ []) p.0 p.1) as (λ _. In xs name ⊎ N y name) [
      | inl a ↦ inl (turn.of_one xs p.0 name a p.2)
      | inr b ↦ elim b as (λ _. In xs name ⊎ N y name) [ inl e ↦ inr (subst (λ z. N z name) (sym e) p.2) | inr n ↦ absurd n ]
    ],
    λ h. elim h as (λ _. In (xs ++ y ∷ []) name) [
      | inl a ↦ (let p = turn.one_of xs name a in turn.of_one (xs ++ y ∷ []) p.0 name (Has-append_left xs (y ∷ []) p.0 p.1) p.2)
      | inr b ↦ turn.of_one (xs ++ y ∷ []) y name (Has-append_right xs (y ∷ []) y (inl refl)) b
    ],
  )

  pub gathered_next : (xs : List X) (k : ℕ) (y : X) (old mid new : List VarName) → slice_get xs k ≡ Some y →
      Adds old (In (take k xs)) mid → Adds mid (N y) new → Adds old (In (take (k + 1) xs)) new
  gathered_next xs k y old mid new at a h =
      gathered_same old new (λ x. In (take k xs) x ⊎ N y x) (In (take (k + 1) xs)) true
      (λ x. subst (λ zs. (In (take k xs) x ⊎ N y x) ↔ In zs x) (sym (take_at_more xs k y at)) ((in_more (take k xs) y x).1, (in_more (take k xs) y x).0))
      (gathered_then old mid new (In (take k xs)) (N y) true a h)

  -- where there is no room for the next one, there is none for all
  pub gathered_no_more : (xs : List X) (k : ℕ) (y : X) (old mid new : List VarName) → slice_get xs k ≡ Some y →
      Adds old (In (take k xs)) mid → Gathered mid (N y) false new → Gathered old (In xs) false new
  gathered_no_more xs k y old mid new at a h =
      let both = gathered_then old mid new (In (take k xs)) (N y) false a h in
      let some : (x : VarName) → In (take k xs) x ⊎ N y x → In xs x = λ x v.
      elim v as (λ _. In xs x) [
        | inl b ↦ (let p = turn.one_of (take k xs) x b in turn.of_one xs p.0 x (Has-take xs k p.0 p.1) p.2)
        | inr c ↦ turn.of_one xs y x (Has-slice_get xs k y at) c
      ] in
      gathered_less old new (λ x. In (take k xs) x ⊎ N y x) (In xs) some both

  pub gathered_first : (xs : List X) (old : List VarName) → Adds old (In (take 0 xs)) old
  gathered_first xs old x = (λ h. inl h, λ h. elim h as (λ _. Has old x) [ inl a ↦ a | inr b ↦ absurd ((turn.one_of [] x b).1) ])

-- the parts of a formula
pub parts_in_turn : NamesInTurn HasVar (λ ts. HasVar (cat_all ts))
parts_in_turn = record { of_one = λ ts t x. part_has ts t x; one_of = λ ts x. parts_have ts x }

-- names themselves
pub names_in_turn : NamesInTurn (λ (y : VarName) (x : VarName). y ≡ x) Has
names_in_turn = record { of_one = λ ys y x h e. subst (Has ys) e h; one_of = λ ys x h. (x, h, refl) }

-- the parts of a join, under given lets
pub exprs_in_turn : (V : LetVars) → NamesInTurn (VarOf V) (λ es. VarOf V (join_all es))
exprs_in_turn V = record { of_one = λ es e x. join_part_var V es e x; one_of = λ es x. join_var_part V es x }
