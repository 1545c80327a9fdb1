-- Each set that is not empty has a tree: its groups are made one byte after another.
use Rattle.std.proofs.Common.{◌≡◌, ℕ, zero, suc, ◌+◌, ◌-◌, ◌*◌, ◌^◌, ◌<◌, ◌≤◌, min, max, ◌⊎◌, ◌↔◌, List, [], ◌∷◌, ◌++◌, map, refl, ap, subst, inl, inr, arith}
use Rattle.std.specs.Ordering.{nat_cmp}
use Rattle.std.specs.FinSet.{FinSet, empty, insert, union}
use Rattle.std.proofs.lemmas.Bool.{cases_lt, cases_eq}
use Rattle.span_core.specs.ByteSets.{bytes_between}
use Rattle.span_core.specs.Lists.{Has}
use Rattle.span_core.specs.Intervals.{Covers, AreApart}
use Rattle.spanner_model.specs.Tree.{Tree, one}
use Rattle.unicode_classes.specs.Texts.{AreCharacters, IsPartOf}
use Rattle.unicode_classes.specs.Joined.{IsBlockText}
use Rattle.unicode_classes.specs.ClassTree.{Group, group_tree, alternation, IsTreeOf, AreArms, no_length, IsClassTree, IsByteIn}
use Rattle.unicode_classes.specs.Grouped.{IsPut, opens, joins, later, AreGrouped}
use Rattle.unicode_classes.specs.Arms.{IsWithBlock}
use Rattle.unicode_classes.specs.declared.blocks.TailGroup.{TailGroup}
use Rattle.unicode_classes.proofs.RangeLaws.{Ranges, past_first, starts_past}
use Rattle.unicode_classes.proofs.ByteLaws.{in_none, in_either, in_between}
use Rattle.unicode_classes.proofs.UnitLaws.{unit_positive, unit_more}
use Rattle.unicode_classes.proofs.PlainLaws.{some_number}
use Rattle.unicode_classes.proofs.GroupLaws.{grouped_first, grouped_same, grouped_more, none_covers}
use Rattle.unicode_classes.proofs.TreeLaws.{AreTrees, groups_tree, block_zero}
use Rattle.unicode_classes.proofs.ClassLaws.{IsBlock, next_arm, block_one, block_two, block_three, block_four, part_few}

-- ---- a part of ranges

-- the numbers of a part are the ranges cut to it, and counted from its origin
abbrev IsCut : Ranges → ℕ → ℕ → ℕ → Ranges → Type 0
IsCut ranges from end origin part = (q : ℕ) → Covers part q ↔ IsPartOf ranges from end (origin + q)

part_with : (p : ℕ × ℕ) (ps part : Ranges) (from end origin : ℕ) → from < end → origin ≤ from → AreApart (p ∷ ps) → AreApart part → IsCut ps from end origin part
    → (new : Ranges) × AreApart new × IsCut (p ∷ ps) from end origin new
part_with p ps part from end origin some low apart are is = elim (cases_lt (min p.1 (end - 1)) (max p.0 from)) [
  | inl out ↦ (
    part,
    are,
    λ q. (
      λ c. (let r = (is q).0 c in (inr r.0, r.1, r.2)),
      λ r. elim r.0 [
        | inl w ↦ absurd (omega (arith, w.0, w.1, r.1, r.2, out))
        | inr c ↦ (is q).1 (c, r.1, r.2)
      ],
    ),
  )
  | inr over ↦ (
    (max p.0 from - origin, min p.1 (end - 1) - origin) ∷ part,
    (omega arith, starts_past part (min p.1 (end - 1) - origin + 1) are (λ q c. (let r = (is q).0 c in let l = past_first p ps (origin + q) apart r.0 in omega (arith, l, over))), are),
    λ q. (
      λ c. elim c [
        | inl w ↦ (inl (omega (arith, w.0), omega (arith, w.1)), omega (arith, w.0), omega (arith, w.1))
        | inr c ↦ (let r = (is q).0 c in (inr r.0, r.1, r.2))
      ],
      λ r. elim r.0 [
        | inl w ↦ inl (omega (arith, w.0, r.1), omega (arith, w.1, r.2))
        | inr c ↦ inr ((is q).1 (c, r.1, r.2))
      ],
    ),
  )
]

pub some_part : (ranges : Ranges) (from end origin : ℕ) → from < end → origin ≤ from → AreApart ranges → (part : Ranges) × AreApart part × IsCut ranges from end origin part
some_part [] from end origin some low apart = ([], tt, λ q. (λ c. absurd c, λ r. r.0))
some_part (p ∷ ps) from end origin some low apart =
    let r = some_part ps from end origin some low apart.2 in
    part_with p ps r.0 from end origin some low apart r.1 r.2

-- ---- groups

same_or_not : (r s : Ranges) → (r ≡ s) ⊎ ¬ (r ≡ s)
same_or_not [] [] = inl refl
same_or_not [] (q ∷ qs) = inr (λ e. absurd (cc))
same_or_not (p ∷ ps) [] = inr (λ e. absurd (cc))
same_or_not (p ∷ ps) (q ∷ qs) = elim (cases_eq p.0 q.0) [
  | inr n ↦ inr (λ e. n (ap (λ (x : ℕ × ℕ). x.0) (heads e)))
  | inl a ↦ elim (cases_eq p.1 q.1) [
    | inr n ↦ inr (λ e. n (ap (λ (x : ℕ × ℕ). x.1) (heads e)))
    | inl b ↦ elim (same_or_not ps qs) [
      | inl f ↦ inl (λ i. (a i, b i) ∷ f i)
      | inr n ↦ inr (λ e. n (rests e))
    ]
  ]
]
  where
    heads : {x y : ℕ × ℕ} {xs ys : Ranges} → x ∷ xs ≡ y ∷ ys → x ≡ y
    heads e = cc

    rests : {x y : ℕ × ℕ} {xs ys : Ranges} → x ∷ xs ≡ y ∷ ys → xs ≡ ys
    rests e = cc

some_put : (byte : ℕ) (tails : Ranges) (gs : List TailGroup) → (new : List TailGroup) × IsPut byte tails gs new
some_put byte tails [] = (record { bytes = insert empty byte; tails = tails } ∷ [], opens)
some_put byte tails (g ∷ gs) = elim (same_or_not g.tails tails) [
  | inl e ↦ (record g { bytes = insert g.bytes byte } ∷ gs, joins g gs e)
  | inr n ↦ (let r = some_put byte tails gs in (g ∷ r.0, later g n r.1))
]

some_groups : (base unit : ℕ) (ranges : Ranges) → 0 < unit → AreApart ranges → (n : ℕ) → (gs : List TailGroup) × AreGrouped base unit ranges n gs
some_groups base unit ranges positive apart zero = ([], grouped_first base unit ranges)
some_groups base unit ranges positive apart (suc n) =
    let old = some_groups base unit ranges positive apart n in
    let part = some_part ranges (n * unit) (n * unit + unit) (n * unit) (omega arith) (omega arith) apart in
    elim (same_or_not part.0 []) [
      | inl e ↦ (old.0, subst (λ (k : ℕ). AreGrouped base unit ranges k old.0) (omega arith) (grouped_same base unit ranges n old.0 (none_covers base unit ranges n part.0 part.2 e) old.1))
      | inr some ↦ (let put = some_put (base + n) part.0 old.0 in (
        put.0,
        subst (λ (k : ℕ). AreGrouped base unit ranges k put.0) (omega arith)
            (grouped_more base unit ranges n old.0 put.0 part.0 positive part.2 part.1 (some_number part.0 part.1 some) put.1 old.1),
      ))
    ]

-- ---- trees

some_bytes : (base : ℕ) (ranges : Ranges) → AreApart ranges → (bytes : FinSet nat_cmp) × ((b : ℕ) → IsByteIn bytes b ↔ ((v : ℕ) × Covers ranges v × (base + v ≡ b)))
some_bytes base [] apart = (empty, λ b. (λ h. absurd (in_none b h), λ r. absurd r.1))
some_bytes base (p ∷ ps) apart =
    let rest = some_bytes base ps apart.2 in (
      union rest.0 (bytes_between (base + p.0) (base + p.1)),
      λ b. (
        λ h. elim ((in_either rest.0 (bytes_between (base + p.0) (base + p.1)) b).0 h) [
          | inl x ↦ (let r = (rest.1 b).0 x in (r.0, inr r.1, r.2))
          | inr y ↦ (let w = (in_between (base + p.0) (base + p.1) b).0 y in (b - base, inl (omega (arith, w.0), omega (arith, w.1)), omega (arith, w.0)))
        ],
        λ r. (in_either rest.0 (bytes_between (base + p.0) (base + p.1)) b).1 (elim r.1 [
          | inl w ↦ inr ((in_between (base + p.0) (base + p.1) b).1 (omega (arith, r.2, w.0), omega (arith, r.2, w.1)))
          | inr c ↦ inl ((rest.1 b).1 (r.0, c, r.2))
        ]),
      ),
    )

some_trees : (tails : ℕ) → ((ranges : Ranges) → AreApart ranges → ((v : ℕ) → Covers ranges v → v < 64 * 64 ^ tails) → (f : Tree) × IsTreeOf tails (IsBlockText 128 tails ranges) f)
    → (gs : List TailGroup) → ((g : TailGroup) → Has gs g → AreApart g.tails × ((v : ℕ) → Covers g.tails v → v < 64 * 64 ^ tails)) → (hs : List Group) × AreTrees tails gs hs
some_trees tails make [] each = ([], refl)
some_trees tails make (g ∷ gs) each =
    let t = make g.tails (each g (inl refl)).0 (each g (inl refl)).1 in
    let rest = some_trees tails make gs (λ h k. each h (inr k)) in
    (record { bytes = g.bytes; tails = t.0 } ∷ rest.0, (refl, t.1, rest.1))

pub some_tree : (tails base : ℕ) (ranges : Ranges) → AreApart ranges → (0 < tails → (v : ℕ) → Covers ranges v → v < 64 * 64 ^ tails) → (f : Tree) × IsTreeOf tails (IsBlockText base tails ranges) f
some_tree zero base ranges apart few =
    let bytes = some_bytes base ranges apart in (one bytes.0, block_zero base 0 ranges bytes.0 (one bytes.0) refl bytes.1 refl)
some_tree (suc tails) base ranges apart few =
    let unit = 64 ^ suc tails in
    let groups = some_groups base unit ranges (unit_positive (suc tails)) apart 64 in
    let trees = some_trees tails (λ rs h f. some_tree tails 128 rs h (λ l. f)) groups.0
    (λ g k. (groups.1.apart g k, λ v c. (let b = groups.1.least g k in let h = groups.1.holds g b.0 k b.1.0 in let p = (h.3 v).0 c in omega (arith, p.2, unit_more tails)))) in
    (alternation (map group_tree trees.0), groups_tree base tails ranges groups.0 (few (omega arith)) groups.1 trees.0 trees.1)

some_block : (base tails from end : ℕ) (ranges : Ranges) (ns : List ℕ) (arms : List Tree) → AreApart ranges → AreCharacters ranges → from < end →
    (0 < tails → end ≤ 64 * 64 ^ tails) → IsBlock base tails from end → AreArms ranges ns arms
    → (new : List Tree) × AreArms ranges (ns ++ tails ∷ []) new
some_block base tails from end ranges ns arms apart are some few block old =
    let part = some_part ranges from end 0 some (omega arith) apart in
    let with_tree : (new : List Tree) × IsWithBlock base tails part.0 arms new = elim (same_or_not part.0 []) [
      | inl e ↦ (arms, inl (e, refl))
      | inr n ↦ (let t = some_tree tails base part.0 part.1 (λ l. part_few tails from end ranges part.0 part.2 (few l)) in (arms ++ t.0 ∷ [], inr (n, t.0, t.1, refl)))
    ] in
    (with_tree.0, next_arm base tails from end ranges part.0 ns arms with_tree.0 are part.1 block part.2 with_tree.1 old)

pub some_class_tree : (ranges : Ranges) → AreApart ranges → AreCharacters ranges → (f : Tree) × IsClassTree ranges f
some_class_tree ranges apart are =
    let a = some_block 0 0 0 128 ranges [] [] apart are (omega arith) (λ l. absurd (omega arith)) block_one no_length in
    let b = some_block 192 1 128 2048 ranges (0 ∷ []) a.0 apart are (omega arith) (λ l. omega arith) block_two a.1 in
    let c = some_block 224 2 2048 65536 ranges (0 ∷ (1 ∷ [])) b.0 apart are (omega arith) (λ l. omega arith) block_three b.1 in
    let d = some_block 240 3 65536 1114112 ranges (0 ∷ (1 ∷ (2 ∷ []))) c.0 apart are (omega arith) (λ l. omega arith) block_four c.1 in
    (alternation d.0, (d.0, d.1, refl))
