-- Trees that are put together: from groups of first bytes, and from the texts of each length.
use Rattle.std.proofs.Common.{◌≡◌, ℕ, zero, suc, ◌+◌, ◌-◌, ◌*◌, ◌/◌, ◌%◌, ◌^◌, ◌<◌, ◌≤◌, ◌⊎◌, ◌↔◌, List, [], ◌∷◌, ◌++◌, length, map, take, get_or, refl, sym, ap, subst, inl, inr, arith, ◌∙◌}
use Rattle.std.specs.List.{AllByRecursion}
use Rattle.std.specs.Ordering.{nat_cmp}
use Rattle.std.specs.FinSet.{FinSet}
use Rattle.span_core.specs.Intervals.{Covers}
use Rattle.span_core.specs.Lists.{Has, IsInOrder}
use Rattle.span_core.proofs.ListLaws.{all_has}
use Rattle.std.proofs.lemmas.List.{take_more, take_all, map-append}
use Rattle.spanner_model.specs.Tree.{Tree, one, cat, cat_end}
use Rattle.unicode_classes.specs.Joined.{digits, IsBlockText}
use Rattle.unicode_classes.specs.ClassTree.{Strings, TailsOf, HaveSameTails, Begins, Group, BeginsBelow, group_tree, alternation, IsTreeOf, IsByteIn, IsLeastIn}
use Rattle.unicode_classes.specs.Grouped.{StartsBelow, HaveOtherTails, AreGrouped}
use Rattle.unicode_classes.specs.declared.blocks.TailGroup.{TailGroup}
use Rattle.unicode_classes.proofs.RangeLaws.{Ranges}
use Rattle.unicode_classes.proofs.OneRanges.{one_ranges}
use Rattle.unicode_classes.proofs.UnitLaws.{unit_positive, at_place, place_whole, rest_at, rest_below, digit_below, unit_more}

-- the tree of strings that are told otherwise
pub tree_same : (n : ℕ) (W V : Strings) (f : Tree) → ((w : List ℕ) → W w ↔ V w) → IsTreeOf n W f → IsTreeOf n V f
tree_same zero W V f same t = (t.0, λ b. (λ h. (same (b ∷ [])).0 ((t.1 b).0 h), λ h. (t.1 b).1 ((same (b ∷ [])).1 h)), t.2)
tree_same (suc n) W V f same t =
    let are = t.1 in
    let there : (b c : ℕ) → HaveSameTails W b c → HaveSameTails V b c = λ b c h w. (λ x. (same (c ∷ w)).0 ((h w).0 ((same (b ∷ w)).1 x)), λ x. (same (b ∷ w)).0 ((h w).1 ((same (c ∷ w)).1 x))) in
    let back : (b c : ℕ) → HaveSameTails V b c → HaveSameTails W b c = λ b c h w. (λ x. (same (c ∷ w)).1 ((h w).0 ((same (b ∷ w)).0 x)), λ x. (same (b ∷ w)).1 ((h w).1 ((same (c ∷ w)).0 x))) in (
      t.0,
      record {
        each = λ b h. are.each b (h.0, (same (b ∷ h.0)).1 h.1);
        least = are.least;
        first = λ g b k is. (let h = are.first g b k is in (h.0, (same (b ∷ h.0)).0 h.1));
        same = λ g b c k is. (λ h. there b c ((are.same g b c k is).0 h), λ h. (are.same g b c k is).1 (back b c h));
        tails = λ g b k is. tree_same n (TailsOf W b) (TailsOf V b) g.tails (λ w. same (b ∷ w)) (are.tails g b k is);
        ascending = are.ascending;
      },
      t.2,
    )

-- digits determine the number
pub one_number : (base tails u v : ℕ) → digits base tails u ≡ digits base tails v → u ≡ v
one_number base zero u v e = (let h : base + u ≡ base + v = cc in omega arith)
one_number base (suc tails) u v e =
    let unit = 64 ^ suc tails in
    let h : base + u / unit ≡ base + v / unit = cc in
    let d : u / unit ≡ v / unit = omega arith in
    let r : u % unit ≡ v % unit = one_number 128 tails (u % unit) (v % unit) (cc) in
    sym (place_whole unit u) ∙ (λ i. d i * unit + r i) ∙ place_whole unit v

-- ---- trees of groups

-- the trees of the groups' tails, group by group
abbrev pub AreTrees : ℕ → List TailGroup → List Group → Type 0
AreTrees tails [] hs = hs ≡ []
AreTrees tails (g ∷ gs) [] = ⊥
AreTrees tails (g ∷ gs) (h ∷ hs) = (h.bytes ≡ g.bytes) × IsTreeOf tails (IsBlockText 128 tails g.tails) h.tails × AreTrees tails gs hs

pub trees_push : (tails : ℕ) (gs : List TailGroup) (hs : List Group) (g : TailGroup) (h : Group) → AreTrees tails gs hs → h.bytes ≡ g.bytes → IsTreeOf tails (IsBlockText 128 tails g.tails) h.tails
    → AreTrees tails (gs ++ g ∷ []) (hs ++ h ∷ [])
trees_push tails [] hs g h are e t = rw are (e, t, refl)
trees_push tails (x ∷ gs) [] g h are e t = absurd are
trees_push tails (x ∷ gs) (y ∷ hs) g h are e t = (are.0, are.1, trees_push tails gs hs g h are.2 e t)

-- the tree of a group, and the group of a tree
tree_for : (tails : ℕ) (gs : List TailGroup) (hs : List Group) → AreTrees tails gs hs → (g : TailGroup) → Has gs g →
    (h : Group) × Has hs h × (h.bytes ≡ g.bytes) × IsTreeOf tails (IsBlockText 128 tails g.tails) h.tails
tree_for tails [] hs are g k = absurd k
tree_for tails (x ∷ gs) [] are g k = absurd are
tree_for tails (x ∷ gs) (y ∷ hs) are g (inl e) =
    rw (← e) (y, inl refl, are.0, are.1)
tree_for tails (x ∷ gs) (y ∷ hs) are g (inr k) = (let r = tree_for tails gs hs are.2 g k in (r.0, inr r.1, r.2, r.3))

group_for : (tails : ℕ) (gs : List TailGroup) (hs : List Group) → AreTrees tails gs hs → (h : Group) → Has hs h →
    (g : TailGroup) × Has gs g × (h.bytes ≡ g.bytes) × IsTreeOf tails (IsBlockText 128 tails g.tails) h.tails
group_for tails [] hs are h k = absurd (rw are at k)
group_for tails (x ∷ gs) [] are h k = absurd are
group_for tails (x ∷ gs) (y ∷ hs) are h (inl e) =
    rw (← e) (x, inl refl, are.0, are.1)
group_for tails (x ∷ gs) (y ∷ hs) are h (inr k) = (let r = group_for tails gs hs are.2 h k in (r.0, inr r.1, r.2, r.3))

trees_after : (tails : ℕ) (g : TailGroup) (h : Group) (gs : List TailGroup) (hs : List Group) → h.bytes ≡ g.bytes → AreTrees tails gs hs →
    AllByRecursion (StartsBelow g) gs → AllByRecursion (BeginsBelow h) hs
trees_after tails g h [] hs e are all = subst (AllByRecursion (BeginsBelow h)) (sym are) tt
trees_after tails g h (x ∷ gs) [] e are all = absurd are
trees_after tails g h (x ∷ gs) (y ∷ hs) e are all = (
  λ b c p q. all.0 b c (rw (← e) p) (rw (← are.0) q),
  trees_after tails g h gs hs e are.2 all.1,
)

trees_ascend : (tails : ℕ) (gs : List TailGroup) (hs : List Group) → AreTrees tails gs hs → IsInOrder StartsBelow gs → IsInOrder BeginsBelow hs
trees_ascend tails [] hs are order = subst (IsInOrder BeginsBelow) (sym are) tt
trees_ascend tails (g ∷ gs) [] are order = absurd are
trees_ascend tails (g ∷ gs) (h ∷ hs) are order = (trees_after tails g h gs hs are.0 are.2 order.0, trees_ascend tails gs hs are.2 order.1)

-- of two that are in an order, one stands before the other or they are equal
in_order : {X : Type 0} (Before : X → X → Type 0) (xs : List X) → IsInOrder Before xs → (x y : X) → Has xs x → Has xs y → (x ≡ y) ⊎ (Before x y ⊎ Before y x)
in_order Before [] order x y h k = absurd h
in_order Before (z ∷ zs) order x y (inl e) (inl f) = inl (sym e ∙ f)
in_order {X} Before (z ∷ zs) order x y (inl e) (inr k) = inr (inl (rw (← e) (all_has (Before z) zs y order.0 k)))
in_order {X} Before (z ∷ zs) order x y (inr h) (inl f) = inr (inr (rw (← f) (all_has (Before z) zs x order.0 h)))
in_order Before (z ∷ zs) order x y (inr h) (inr k) = in_order Before zs order.1 x y h k

module _ (base tails : ℕ) (ranges : Ranges) (gs : List TailGroup) (few : (v : ℕ) → Covers ranges v → v < 64 * 64 ^ suc tails) (are : AreGrouped base (64 ^ suc tails) ranges 64 gs) where
  -- the tails of a byte of a group
  tails_of : (g : TailGroup) (b : ℕ) → Has gs g → IsByteIn g.bytes b → (w : List ℕ) → IsBlockText 128 tails g.tails w ↔ IsBlockText base (suc tails) ranges (b ∷ w)
  tails_of g b k is w =
      let h = are.holds g b k is in
      let unit = 64 ^ suc tails in
      let n = h.0 in (
        λ t. (let p = (h.3 t.0).0 t.1 in
            let d : (n * unit + t.0) / unit ≡ n = at_place unit n (n * unit + t.0) p.1 p.2 in
            let r : (n * unit + t.0) % unit ≡ t.0 = rest_at unit n t.0 (omega (arith, p.2)) in
            let head : base + (n * unit + t.0) / unit ≡ b = omega (arith, d, h.1) in
            let rest : digits 128 tails ((n * unit + t.0) % unit) ≡ w = ap (digits 128 tails) r ∙ t.2 in
            (n * unit + t.0, p.0, λ i. head i ∷ rest i)),
        λ t. (let head : base + t.0 / unit ≡ b = heads t.2 in
            let rest : digits 128 tails (t.0 % unit) ≡ w = tails_are t.2 in
            let d : t.0 / unit ≡ n = omega (arith, head, h.1) in
            let whole : n * unit + t.0 % unit ≡ t.0 = ap (λ (x : ℕ). x * unit + t.0 % unit) (sym d) ∙ place_whole unit t.0 in
            let below : t.0 % unit < unit = rest_below unit t.0 (unit_positive (suc tails)) in
            (t.0 % unit, (h.3 (t.0 % unit)).1 (subst (Covers ranges) (sym whole) t.1, omega arith, omega (arith, below)), rest)),
      )
    where
      heads : {x y : ℕ} {u v : List ℕ} → x ∷ u ≡ y ∷ v → x ≡ y
      heads e = cc

      tails_are : {x y : ℕ} {u v : List ℕ} → x ∷ u ≡ y ∷ v → u ≡ v
      tails_are e = cc

  begins_in : (b : ℕ) → Begins (IsBlockText base (suc tails) ranges) b → (g : TailGroup) × Has gs g × IsByteIn g.bytes b
  begins_in b h =
      let t = h.1 in
      let head : base + t.0 / 64 ^ suc tails ≡ b = first_is t.2 in
      let g = are.each t.0 t.1 (few t.0 t.1) in
      (g.0, g.1, subst (IsByteIn g.0.bytes) head g.2)
    where
      first_is : {x y : ℕ} {u v : List ℕ} → x ∷ u ≡ y ∷ v → x ≡ y
      first_is e = cc

  begins_from : (g : TailGroup) (b : ℕ) → Has gs g → IsByteIn g.bytes b → Begins (IsBlockText base (suc tails) ranges) b
  begins_from g b k is = (let q = are.some g k in (digits 128 tails q.0, (tails_of g b k is (digits 128 tails q.0)).0 (q.0, q.1, refl)))

  -- two groups with a tail in common that have equal tails are one
  same_tails : (g h : TailGroup) → Has gs g → Has gs h → ((w : List ℕ) → IsBlockText 128 tails g.tails w ↔ IsBlockText 128 tails h.tails w) → g ≡ h
  same_tails g h k l same =
      let into : (x y : Ranges) → ((w : List ℕ) → IsBlockText 128 tails x w → IsBlockText 128 tails y w) → (q : ℕ) → Covers x q → Covers y q =
      λ x y all q c. (let t = all (digits 128 tails q) (q, c, refl) in subst (Covers y) (one_number 128 tails t.0 q t.2) t.1) in
      let equal : g.tails ≡ h.tails = one_ranges g.tails h.tails (are.apart g k) (are.apart h l) (λ q. (into g.tails h.tails (λ w. (same w).0) q, into h.tails g.tails (λ w. (same w).1) q)) in
      elim (in_order HaveOtherTails gs are.distinct g h k l) [
        | inl e ↦ e
        | inr r ↦ absurd (elim r [ inl d ↦ d equal | inr d ↦ d (sym equal) ])
      ]

  group_same : (g : TailGroup) (b c : ℕ) → Has gs g → IsByteIn g.bytes b → IsByteIn g.bytes c ↔ HaveSameTails (IsBlockText base (suc tails) ranges) b c
  group_same g b c k is = (
    λ there w. (λ x. (tails_of g c k there w).0 ((tails_of g b k is w).1 x), λ x. (tails_of g b k is w).0 ((tails_of g c k there w).1 x)),
    λ same.
        let first = begins_from g b k is in
        let h = begins_in c (first.0, (same first.0).0 first.1) in
        let e : h.0 ≡ g = same_tails h.0 g h.1 k (λ w. (
          λ x. (tails_of g b k is w).1 ((same w).1 ((tails_of h.0 c h.1 h.2 w).0 x)),
          λ x. (tails_of h.0 c h.1 h.2 w).1 ((same w).0 ((tails_of g b k is w).0 x)),
        )) in
        rw (← e) h.2,
  )

  pub groups_tree : (hs : List Group) → AreTrees tails gs hs → IsTreeOf (suc tails) (IsBlockText base (suc tails) ranges) (alternation (map group_tree hs))
  groups_tree hs trees = (
    hs,
    record {
      each = λ b h. (let g = begins_in b h in let t = tree_for tails gs hs trees g.0 g.1 in (t.0, t.1, rw (← t.2) at g.2));
      least = λ h k. (let g = group_for tails gs hs trees h k in let b = are.least g.0 g.1 in (b.0, rw (← g.2) at b.1));
      first = λ h b k is. (let g = group_for tails gs hs trees h k in begins_from g.0 b g.1 (rw g.2 at is));
      same = λ h b c k is.
          let g = group_for tails gs hs trees h k in
          let s = group_same g.0 b c g.1 (rw g.2 at is) in
          (λ there. s.0 (rw g.2 at there), λ x. rw (← g.2) at (s.1 x));
      tails = λ h b k is.
          let g = group_for tails gs hs trees h k in
          tree_same tails (IsBlockText 128 tails g.0.tails) (TailsOf (IsBlockText base (suc tails) ranges) b) h.tails (tails_of g.0 b g.1 (rw g.2 at is)) g.3;
      ascending = trees_ascend tails gs hs trees are.ascending;
    },
    refl,
  )

-- ---- arms that are pushed, a group after another

-- the arms are the trees of the groups that were gone through
abbrev pub AreArmsOf : ℕ → List TailGroup → ℕ → List Tree → Type 0
AreArmsOf tails gs k arms = (hs : List Group) × AreTrees tails (take k gs) hs × (arms ≡ map group_tree hs)

pub arms_more : (tails : ℕ) (gs : List TailGroup) (k : ℕ) (g : TailGroup) (arms new : List Tree) (rest both : Tree) → k < length gs →
    g ≡ get_or gs k g → IsTreeOf tails (IsBlockText 128 tails g.tails) rest
    → both ≡ cat (one g.bytes) (cat rest cat_end) → new ≡ arms ++ both ∷ [] → AreArmsOf tails gs k arms → AreArmsOf tails gs (k + 1) new
arms_more tails gs k g arms new rest both l is tree b e old =
    let h : Group = record { bytes = g.bytes; tails = rest } in
    let more : take (k + 1) gs ≡ take k gs ++ g ∷ [] = take_more gs k g l ∙ ap (λ (x : TailGroup). take k gs ++ x ∷ []) (sym is) in
    let pushed : AreTrees tails (take k gs ++ g ∷ []) (old.0 ++ h ∷ []) = trees_push tails (take k gs) old.0 g h old.1 refl tree in
    let trees : map group_tree (old.0 ++ h ∷ []) ≡ map group_tree old.0 ++ group_tree h ∷ [] = map-append group_tree old.0 (h ∷ []) in (
      old.0 ++ h ∷ [],
      rw more pushed,
      e ∙
          ap (λ (x : Tree). arms ++ x ∷ []) b ∙ ap (λ (xs : List Tree). xs ++ group_tree h ∷ []) old.2 ∙ sym trees,
    )

-- with all groups gone through, their alternation is the tree of the block
pub arms_end : (base tails unit : ℕ) (ranges : Ranges) (gs : List TailGroup) (k : ℕ) (arms : List Tree) (f : Tree) → ¬ (tails ≡ 0) →
    unit ≡ 64 ^ tails → ((v : ℕ) → Covers ranges v → v < 64 * 64 ^ tails) → AreGrouped base unit ranges 64 gs
    → length gs ≤ k → f ≡ alternation arms → AreArmsOf (tails - 1) gs k arms → IsTreeOf tails (IsBlockText base tails ranges) f
arms_end base zero unit ranges gs k arms f some u few are l e old = absurd (some refl)
arms_end base (suc tails) unit ranges gs k arms f some u few are l e old =
    let one : suc tails - 1 ≡ tails = omega arith in
    let whole : take k gs ≡ gs = take_all k gs l in
    let trees : AreTrees tails gs old.0 = rw (← one) (rw (← whole) old.1) in
    let t = groups_tree base tails ranges gs few (rw (← u) are) old.0 trees in
    subst (IsTreeOf (suc tails) (IsBlockText base (suc tails) ranges)) (sym (e ∙ ap alternation old.2)) t

-- the tails of a group are numbers of one digit less
pub tails_few : (base tails unit : ℕ) (ranges : Ranges) (gs : List TailGroup) (g : TailGroup) → ¬ (tails ≡ 0) → unit ≡ 64 ^ tails → AreGrouped base unit ranges 64 gs → Has gs g
    → ((v : ℕ) → Covers g.tails v → v < 64 * 64 ^ (tails - 1)) × ((v : ℕ) → Covers g.tails v → 128 + v / 64 ^ (tails - 1) < 256)
tails_few base zero unit ranges gs g some u are k = absurd (some refl)
tails_few base (suc tails) unit ranges gs g some u are k =
    let b = are.least g k in
    let h = are.holds g b.0 k b.1.0 in
    let one : suc tails - 1 ≡ tails = omega arith in
    let below : (v : ℕ) → Covers g.tails v → v < 64 * 64 ^ tails = λ v c. (let p = (h.3 v).0 c in omega (arith, p.2, u, unit_more tails)) in
    rw one
    (below, λ v c. omega (arith, digit_below (64 ^ tails) v (unit_positive tails) (below v c)))

-- the tree of strings of one byte
pub block_zero : (base tails : ℕ) (ranges : Ranges) (bytes : FinSet nat_cmp) (f : Tree) → tails ≡ 0 → ((b : ℕ) → IsByteIn bytes b ↔ ((v : ℕ) × Covers ranges v × (base + v ≡ b))) → f ≡ one bytes
    → IsTreeOf tails (IsBlockText base tails ranges) f
block_zero base zero ranges bytes f z members e = (
  bytes,
  λ b. (
    λ h. (let r = (members b).0 h in (r.0, r.1, λ i. r.2 i ∷ [])),
    λ r. (members b).1 (r.0, r.1, first_is r.2),
  ),
  e,
)
  where
    first_is : {x y : ℕ} {u v : List ℕ} → x ∷ u ≡ y ∷ v → x ≡ y
    first_is e = cc
block_zero base (suc tails) ranges bytes f z members e = absurd (omega arith)

pub unit_few : (tails : ℕ) → tails ≤ 3 → 64 ^ tails ≤ 262144
unit_few zero l = omega arith
unit_few (suc zero) l = omega arith
unit_few (suc (suc zero)) l = omega arith
unit_few (suc (suc (suc zero))) l = omega arith
unit_few (suc (suc (suc (suc n)))) l = absurd (omega arith)
