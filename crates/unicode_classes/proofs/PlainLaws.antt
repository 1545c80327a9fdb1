-- The tree of a set that is not empty is well built, and has no variable.
use Rattle.std.proofs.Common.{◌≡◌, ℕ, zero, suc, ◌+◌, ◌*◌, ◌/◌, ◌%◌, ◌^◌, ◌<◌, ◌≤◌, List, [], ◌∷◌, length, map, refl, sym, ap, subst, inl, inr, arith, ◌∙◌}
use Rattle.std.specs.Char.{encode_utf8}
use Rattle.std.specs.List.{AllByRecursion}
use Rattle.std.specs.Ordering.{nat_cmp}
use Rattle.std.specs.FinSet.{FinSet, contains, contains-empty}
use Rattle.std.proofs.lemmas.Bool.{cases_lt, true≢false}
use Rattle.span_core.specs.Lists.{Has}
use Rattle.span_core.specs.Intervals.{Covers, AreApart}
use Rattle.span_core.proofs.HasLaws.{Has-map, Has-map_cases}
use Rattle.spanner_model.specs.Tree.{Tree, cat, cat_end, alt_all}
use Rattle.spanner_model.specs.Captures.{VarName}
use Rattle.spanner_model.specs.Sequential.{HasVar}
use Rattle.spanner_model.specs.WellBuilt.{IsBuilt, IsByteClass, nesting}
use Rattle.spanner_model.proofs.TreeLaws.{arms_have, parts_have, arms_nesting, alt_built, cat_nesting}
use Rattle.unicode_classes.specs.Texts.{AreCharacters, IsText}
use Rattle.unicode_classes.specs.Joined.{digits}
use Rattle.unicode_classes.specs.ClassTree.{Strings, TailsOf, Group, group_tree, alternation, IsTreeOf, IsLongText, AreArms, no_length, no_text, some_text, IsClassTree, IsByteIn, IsPlain}
use Rattle.unicode_classes.proofs.RangeLaws.{scalar_below}
use Rattle.unicode_classes.proofs.DigitLaws.{has_digits}
use Rattle.unicode_classes.proofs.UnitLaws.{last_digit}
use Rattle.unicode_classes.proofs.TreeFits.{the_lengths, has_length}

-- well built, without a variable, and at most so many formulas in each other
pub record IsSimple (most : ℕ) (f : Tree) : Type 0 where
  pub built : IsBuilt f
  pub nested : nesting f ≤ most
  pub free : (x : VarName) → HasVar f x → ⊥

no_vars : (fs : List Tree) → ((f : Tree) → Has fs f → (x : VarName) → HasVar f x → ⊥) → (x : VarName) → HasVar (alt_all fs) x → ⊥
no_vars fs free x h = (let r = parts_have fs x ((arms_have fs x).0 h) in free r.0 r.1 x r.2)

pub simple_alternation : (most : ℕ) (fs : List Tree) → (f : Tree) × Has fs f → ((f : Tree) → Has fs f → IsSimple most f) → IsSimple (suc most) (alternation fs)
simple_alternation most [] some each = absurd some.1
simple_alternation most (f ∷ []) some each = (let s = each f (inl refl) in record { built = s.built; nested = omega (arith, s.nested); free = s.free })
simple_alternation most (f ∷ (g ∷ fs)) some each = record {
  built = alt_built (f ∷ (g ∷ fs)) (omega arith) (λ t h. (each t h).built);
  nested = omega (arith, arms_nesting (f ∷ (g ∷ fs)), cat_nesting (f ∷ (g ∷ fs)) (suc most) (omega arith) (λ t h. (let n = (each t h).nested in omega arith)));
  free = no_vars (f ∷ (g ∷ fs)) (λ t h. (each t h).free);
}

-- the strings are made of bytes
abbrev AreOfBytes : Strings → Type 0
AreOfBytes W = (w : List ℕ) → W w → AllByRecursion (λ b. b < 256) w

class_of : (bytes : FinSet nat_cmp) (b : ℕ) → IsByteIn bytes b → ((c : ℕ) → IsByteIn bytes c → c < 256) → IsByteClass bytes
class_of bytes b is small = (λ e. true≢false (sym is ∙ ap (λ (s : FinSet nat_cmp). contains s b) e ∙ contains-empty nat_cmp b), small)

simple_group : (most : ℕ) (g : Group) → 1 ≤ most → IsByteClass g.bytes → IsSimple most g.tails → IsSimple (suc most) (group_tree g)
simple_group most g positive bytes s = record {
  built = (bytes, (s.built, tt), λ e. absurd (cat_is_no_end e));
  nested = omega (arith, s.nested);
  free = λ x h. elim h [ inl none ↦ none | inr r ↦ elim r [ inl v ↦ s.free x v | inr none ↦ none ] ];
}
  where
    cat_is_no_end : {f h : Tree} → cat f h ≡ cat_end → ⊥
    cat_is_no_end e = cc

pub simple_tree : (n : ℕ) (W : Strings) (f : Tree) → (w : List ℕ) × W w → ((w : List ℕ) → W w → length w ≡ suc n) → AreOfBytes W → IsTreeOf n W f → IsSimple (suc (2 * n)) f
simple_tree zero W f some long small t =
    let first : (b : ℕ) × W (b ∷ []) = string_of some.0 some.1 (long some.0 some.1) in
    subst (IsSimple 1) (sym t.2) (record {
      built = class_of t.0 first.0 ((t.1 first.0).1 first.1) (λ c is. (small (c ∷ []) ((t.1 c).0 is)).0);
      nested = omega arith;
      free = λ x h. h;
    })
  where
    string_of : (w : List ℕ) → W w → length w ≡ 1 → (b : ℕ) × W (b ∷ [])
    string_of [] h l = absurd (cc)
    string_of (b ∷ []) h l = (b, h)
    string_of (b ∷ (c ∷ w)) h l = absurd (omega arith)
simple_tree (suc n) W f some long small t =
    let groups = t.0 in
    let are = t.1 in
    let group : (g : Group) × Has groups g = some_group some.0 some.1 (long some.0 some.1) in
    let each : (g : Group) → Has groups g → IsSimple (suc (suc (2 * n))) (group_tree g) = λ g h.
    let b = are.least g h in
    let w = are.first g b.0 h b.1.0 in
    simple_group (suc (2 * n)) g (omega arith) (class_of g.bytes b.0 b.1.0 (λ c is. (let v = are.first g c h is in (small (c ∷ v.0) v.1).0)))
    (simple_tree n (TailsOf W b.0) g.tails w (λ v k. omega (arith, long (b.0 ∷ v) k)) (λ v k. (small (b.0 ∷ v) k).1) (are.tails g b.0 h b.1.0)) in
    let all = simple_alternation (suc (suc (2 * n))) (map group_tree groups) (group_tree group.0, Has-map group_tree groups group.0 group.1)
    (λ f h. (let g = Has-map_cases group_tree groups f h in subst (IsSimple (suc (suc (2 * n)))) g.2 (each g.0 g.1))) in
    subst (IsSimple (suc (2 * suc n))) (sym t.2) (subst (λ (k : ℕ). IsSimple k (alternation (map group_tree groups))) (omega arith) all)
  where
    some_group : (w : List ℕ) → W w → length w ≡ suc (suc n) → (g : Group) × Has t.0 g
    some_group [] h l = absurd (cc)
    some_group (b ∷ w) h l = (let g = t.1.each b (w, h) in (g.0, g.1))

simple_arms : (ranges : List (ℕ × ℕ)) (ns : List ℕ) (arms : List Tree) → AreOfBytes (IsText ranges) → ((n : ℕ) → Has ns n → n ≤ 3) → AreArms ranges ns arms → (f : Tree) → Has arms f → IsSimple 7 f
simple_arms ranges _ _ small most no_length f h = absurd h
simple_arms ranges _ arms small most (no_text {n} {ns} none rest) f h = simple_arms ranges ns arms small (λ k i. most k (inr i)) rest f h
simple_arms ranges _ _ small most (some_text {n} {ns} {f = g} {arms} w is tree rest) f (inl e) =
    let s = simple_tree n (IsLongText ranges n) g (w, is) (λ v k. k.1) (λ v k. small v k.0) tree in
    let le : n ≤ 3 = most n (inl refl) in
    subst (IsSimple 7) e (record { built = s.built; nested = omega (arith, s.nested); free = s.free })
simple_arms ranges _ _ small most (some_text {n} {ns} {f = g} {arms} w is tree rest) f (inr h) = simple_arms ranges ns arms small (λ k i. most k (inr i)) rest f h

-- where there is a text of one of the lengths, there is an arm
some_arm : (ranges : List (ℕ × ℕ)) (ns : List ℕ) (arms : List Tree) (n : ℕ) (w : List ℕ) → Has ns n → IsLongText ranges n w → AreArms ranges ns arms → (f : Tree) × Has arms f
some_arm ranges _ _ n w h is no_length = absurd h
some_arm ranges _ arms n w (inl e) is (no_text {n = m} {ns} none rest) = absurd (none w (rw e is))
some_arm ranges _ arms n w (inr h) is (no_text {n = m} {ns} none rest) = some_arm ranges ns arms n w h is rest
some_arm ranges _ _ n w h is (some_text {n = m} {ns} {f = g} {arms} v isv tree rest) = (g, inl refl)

pub small_digits : (base tails v : ℕ) → base + v / 64 ^ tails < 256 → AllByRecursion (λ b. b < 256) (digits base tails v)
small_digits base zero v l = (omega (arith, l), tt)
small_digits base (suc tails) v l = (l, small_digits 128 tails (v % 64 ^ suc tails) (small_rest tails v))
  where
    small_rest : (tails v : ℕ) → 128 + v % 64 ^ suc tails / 64 ^ tails < 256
    small_rest tails v = (let l = last_digit tails v in omega arith)

texts_of_bytes : (ranges : List (ℕ × ℕ)) → AreCharacters ranges → AreOfBytes (IsText ranges)
texts_of_bytes ranges are w h =
    let c = h.0 in
    let d = has_digits c in
    let below = scalar_below c (are c h.1) in
    subst (AllByRecursion (λ b. b < 256)) h.2 (elim (cases_lt c 128) [
      | inl a ↦ subst (AllByRecursion (λ b. b < 256)) (sym (d.one a)) (small_digits 0 0 c (omega arith))
      | inr a ↦ elim (cases_lt c 2048) [
        | inl b ↦ subst (AllByRecursion (λ b. b < 256)) (sym (d.two a b)) (small_digits 192 1 c (omega arith))
        | inr b ↦ elim (cases_lt c 65536) [
          | inl e ↦ subst (AllByRecursion (λ b. b < 256)) (sym (d.three b e)) (small_digits 224 2 c (omega arith))
          | inr e ↦ subst (AllByRecursion (λ b. b < 256)) (sym (d.four e)) (small_digits 240 3 c (omega arith))
        ]
      ]
    ])

-- ranges that are not empty have a number
pub some_number : (ranges : List (ℕ × ℕ)) → AreApart ranges → ¬ (ranges ≡ []) → (c : ℕ) × Covers ranges c
some_number [] apart some = absurd (some refl)
some_number (p ∷ ps) apart some = (p.0, inl (omega arith, apart.0))

pub class_tree_is_plain : (ranges : List (ℕ × ℕ)) (f : Tree) → AreApart ranges → AreCharacters ranges → ¬ (ranges ≡ []) → IsClassTree ranges f → IsPlain f
class_tree_is_plain ranges f apart are some t =
    let c = some_number ranges apart some in
    let l = has_length c.0 in
    let arm = some_arm ranges the_lengths t.0 l.0 (encode_utf8 c.0) l.1 ((c.0, c.1, refl), l.2) t.1 in
    let s = simple_alternation 7 t.0 arm (simple_arms ranges the_lengths t.0 (texts_of_bytes ranges are) few t.1) in
    subst IsPlain (sym t.2) (s.built, s.nested, s.free)
  where
    few : (n : ℕ) → Has the_lengths n → n ≤ 3
    few n (inl e) = omega arith
    few n (inr (inl e)) = omega arith
    few n (inr (inr (inl e))) = omega arith
    few n (inr (inr (inr (inl e)))) = omega arith
    few n (inr (inr (inr (inr none)))) = absurd none
