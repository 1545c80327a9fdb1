-- A set of strings has one tree.
use Rattle.std.proofs.Common.{◌≡◌, ℕ, zero, suc, ◌↔◌, Bool, true, false, List, [], ◌∷◌, map, refl, sym, ap, subst, inl, inr, arith, ◌∙◌}
use Rattle.std.specs.Prelude.{IsTrue}
use Rattle.std.specs.Ordering.{nat_cmp}
use Rattle.std.specs.FinSet.{FinSet, contains}
use Rattle.span_core.specs.Lists.{Has, IsInOrder}
use Rattle.span_core.proofs.ByteSetLaws.{same_bytes}
use Rattle.span_core.proofs.ListLaws.{all_has}
use Rattle.spanner_model.specs.Tree.{Tree, one}
use Rattle.unicode_classes.specs.ClassTree.{Strings, TailsOf, Group, BeginsBelow, group_tree, alternation, AreGroups, IsTreeOf, IsLongText, AreArms, no_length, no_text, some_text, IsClassTree, IsByteIn}

pub same_truth : (a b : Bool) → IsTrue a ↔ IsTrue b → a ≡ b
same_truth true true h = refl
same_truth true false h = sym (h.0 refl)
same_truth false true h = h.1 refl
same_truth false false h = refl

pub one_set : (s t : FinSet nat_cmp) → ((b : ℕ) → IsByteIn s b ↔ IsByteIn t b) → s ≡ t
one_set s t same = same_bytes s t (λ b. same_truth (contains s b) (contains t b) (same b))

-- what stands before itself nowhere, stands in an order once
module _ {X : Type 0} (Before : X → X → Type 0) where
  ordered_part : (x y : X) (xs ys : List X) → IsInOrder Before (x ∷ xs) → ((z : X) → Has (x ∷ xs) z → Before z z → ⊥) → x ≡ y →
      ((z : X) → Has (x ∷ xs) z → Has (y ∷ ys) z) → (z : X) → Has xs z → Has ys z
  ordered_part x y xs ys order never e all z h = elim (all z (inr h)) [
    | inl f ↦ absurd (never z (inr h) (rw (e ∙ f) at (all_has (Before x) xs z order.0 h)))
    | inr k ↦ k
  ]

  pub one_order : (xs ys : List X) → IsInOrder Before xs → IsInOrder Before ys → ((z : X) → Has xs z → Before z z → ⊥) → ((z : X) → Has ys z → Before z z → ⊥)
      → ((x y : X) → Has xs x → Has ys y → Before x y → Before y x → ⊥) → ((z : X) → Has xs z → Has ys z) → ((z : X) → Has ys z → Has xs z) → xs ≡ ys
  one_order [] [] p q a b apart there back = refl
  one_order [] (y ∷ ys) p q a b apart there back = absurd (back y (inl refl))
  one_order (x ∷ xs) [] p q a b apart there back = absurd (there x (inl refl))
  one_order (x ∷ xs) (y ∷ ys) p q a b apart there back =
      let first : x ≡ y = elim (there x (inl refl)) [
        | inl e ↦ sym e
        | inr h ↦ elim (back y (inl refl)) [
          | inl e ↦ e
          | inr k ↦ absurd (apart x y (inl refl) (inl refl) (all_has (Before x) xs y p.0 k) (all_has (Before y) ys x q.0 h))
        ]
      ] in
      let rest : xs ≡ ys = one_order xs ys p.1 q.1 (λ z h. a z (inr h)) (λ z h. b z (inr h)) (λ u v h k. apart u v (inr h) (inr k))
      (ordered_part x y xs ys p a first there) (ordered_part y x ys xs q b (sym first) back) in
      λ i. first i ∷ rest i

not_below_itself : (n : ℕ) (W : Strings) (gs : List Group) → AreGroups (IsTreeOf n) W gs → (g : Group) → Has gs g → BeginsBelow g g → ⊥
not_below_itself n W gs are g h below = (let b = are.least g h in let l = below b.0 b.0 b.1 b.1 in omega arith)

-- a group of some strings is one of the same strings, told otherwise
same_group : (n : ℕ) (W V : Strings) (gs hs : List Group) → ((w : List ℕ) → W w ↔ V w) → ((P Q : Strings) (f g : Tree) → ((w : List ℕ) → P w ↔ Q w) → IsTreeOf n P f → IsTreeOf n Q g → f ≡ g)
    → AreGroups (IsTreeOf n) W gs → AreGroups (IsTreeOf n) V hs → (g : Group) → Has gs g → Has hs g
same_group n W V gs hs same only are those g h =
    let b = are.least g h in
    let begins = are.first g b.0 h b.1.0 in
    let k = those.each b.0 (begins.0, (same (b.0 ∷ begins.0)).0 begins.1) in
    let bytes : k.0.bytes ≡ g.bytes = one_set k.0.bytes g.bytes (λ c. (
      λ is. (are.same g b.0 c h b.1.0).1 (λ w. (
        λ x. (same (c ∷ w)).1 (((those.same k.0 b.0 c k.1 k.2).0 is w).0 ((same (b.0 ∷ w)).0 x)),
        λ x. (same (b.0 ∷ w)).1 (((those.same k.0 b.0 c k.1 k.2).0 is w).1 ((same (c ∷ w)).0 x)),
      )),
      λ is. (those.same k.0 b.0 c k.1 k.2).1 (λ w. (
        λ x. (same (c ∷ w)).0 (((are.same g b.0 c h b.1.0).0 is w).0 ((same (b.0 ∷ w)).1 x)),
        λ x. (same (b.0 ∷ w)).0 (((are.same g b.0 c h b.1.0).0 is w).1 ((same (c ∷ w)).1 x)),
      )),
    )) in
    let tails : k.0.tails ≡ g.tails = sym (only (TailsOf W b.0) (TailsOf V b.0) g.tails k.0.tails (λ w. same (b.0 ∷ w)) (are.tails g b.0 h b.1.0) (those.tails k.0 b.0 k.1 k.2)) in
    let is : k.0 ≡ g = λ i. record { bytes = bytes i; tails = tails i } in
    subst (Has hs) is k.1

pub one_tree : (n : ℕ) (W V : Strings) (f g : Tree) → ((w : List ℕ) → W w ↔ V w) → IsTreeOf n W f → IsTreeOf n V g → f ≡ g
one_tree zero W V f g same t s =
    let bytes : t.0 ≡ s.0 = one_set t.0 s.0 (λ b. (λ h. (s.1 b).1 ((same (b ∷ [])).0 ((t.1 b).0 h)), λ h. (t.1 b).1 ((same (b ∷ [])).1 ((s.1 b).0 h)))) in
    t.2 ∙ ap one bytes ∙ sym s.2
one_tree (suc n) W V f g same t s =
    let groups : t.0 ≡ s.0 = one_order BeginsBelow t.0 s.0 t.1.ascending s.1.ascending (not_below_itself n W t.0 t.1) (not_below_itself n V s.0 s.1)
    (λ x y h k p q. (let b = t.1.least x h in let c = s.1.least y k in let l = p b.0 c.0 b.1 c.1 in let m = q c.0 b.0 c.1 b.1 in omega arith))
    (same_group n W V t.0 s.0 same (one_tree n) t.1 s.1)
    (same_group n V W s.0 t.0 (λ w. ((same w).1, (same w).0)) (one_tree n) s.1 t.1) in
    t.2 ∙ ap (λ (gs : List Group). alternation (map group_tree gs)) groups ∙ sym s.2

pub one_list_of_arms : (ranges : List (ℕ × ℕ)) (ns : List ℕ) (a b : List Tree) → AreArms ranges ns a → AreArms ranges ns b → a ≡ b
one_list_of_arms ranges _ _ _ no_length no_length = refl
one_list_of_arms ranges _ _ _ (no_text none r) (no_text none' s) = one_list_of_arms ranges _ _ _ r s
one_list_of_arms ranges _ _ _ (no_text none r) (some_text w is t s) = absurd (none w is)
one_list_of_arms ranges _ _ _ (some_text w is t r) (no_text none s) = absurd (none w is)
one_list_of_arms ranges _ _ _ (some_text {n} {ns} {f} {arms = a} w is t r) (some_text {f = g} {arms = b} v is' u s) =
    let first : f ≡ g = one_tree n (IsLongText ranges n) (IsLongText ranges n) f g (λ w. (λ h. h, λ h. h)) t u in
    let rest : a ≡ b = one_list_of_arms ranges ns a b r s in
    λ i. first i ∷ rest i

pub one_class_tree : (ranges : List (ℕ × ℕ)) (f g : Tree) → IsClassTree ranges f → IsClassTree ranges g → f ≡ g
one_class_tree ranges f g t s = t.2 ∙ ap alternation (one_list_of_arms ranges _ t.0 s.0 t.1 s.1) ∙ sym s.2
