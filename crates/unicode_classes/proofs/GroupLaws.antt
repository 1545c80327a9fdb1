-- First bytes that are put into groups, one after another.
use Rattle.std.proofs.Common.{◌≡◌, ℕ, ◌+◌, ◌-◌, ◌*◌, ◌/◌, ◌<◌, ◌≤◌, ◌⊎◌, ◌↔◌, List, [], ◌∷◌, refl, sym, ap, subst, inl, inr, arith, ◌∙◌}
use Rattle.std.specs.List.{AllByRecursion}
use Rattle.std.specs.FinSet.{empty, insert}
use Rattle.std.proofs.lemmas.Bool.{cases_lt}
use Rattle.span_core.specs.Intervals.{Covers, AreApart}
use Rattle.span_core.specs.Lists.{Has, IsInOrder}
use Rattle.unicode_classes.specs.Texts.{IsPartOf}
use Rattle.unicode_classes.specs.ClassTree.{IsByteIn, IsLeastIn}
use Rattle.unicode_classes.specs.Grouped.{StartsBelow, HaveOtherTails, IsPut, opens, joins, later, AreGrouped}
use Rattle.unicode_classes.specs.declared.blocks.TailGroup.{TailGroup}
use Rattle.unicode_classes.proofs.RangeLaws.{Ranges}
use Rattle.unicode_classes.proofs.ByteLaws.{in_none, in_more}
use Rattle.unicode_classes.proofs.UnitLaws.{at_place, next_unit}

module _ (byte : ℕ) (tails : Ranges) where
  -- where a byte of the new groups is from: the one that was put, with its tails, or a group that was there with these tails
  pub put_from : (gs new : List TailGroup) → IsPut byte tails gs new → (h : TailGroup) (b : ℕ) → Has new h → IsByteIn h.bytes b
      → ((b ≡ byte) × (h.tails ≡ tails)) ⊎ ((g : TailGroup) × Has gs g × IsByteIn g.bytes b × (g.tails ≡ h.tails))
  put_from _ _ opens h b (inl e) is = elim ((in_more empty byte b).0 (rw (← e) at is)) [
    | inl x ↦ inl (x, sym (ap (λ (x : TailGroup). x.tails) e))
    | inr y ↦ absurd (in_none b y)
  ]
  put_from _ _ opens h b (inr k) is = absurd k
  put_from _ _ (joins g gs same) h b (inl e) is = elim ((in_more g.bytes byte b).0 (rw (← e) at is)) [
    | inl x ↦ inl (x, sym (ap (λ (x : TailGroup). x.tails) e) ∙ same)
    | inr y ↦ inr (g, inl refl, y, ap (λ (x : TailGroup). x.tails) e)
  ]
  put_from _ _ (joins g gs same) h b (inr k) is = inr (h, inr k, is, refl)
  put_from _ _ (later g {gs} {new} other p) h b (inl e) is = inr (g, inl refl, rw e is, ap (λ (x : TailGroup). x.tails) e)
  put_from _ _ (later g {gs} {new} other p) h b (inr k) is = elim (put_from gs new p h b k is) [
    | inl x ↦ inl x
    | inr r ↦ inr (r.0, inr r.1, r.2, r.3)
  ]

  -- the tails of the new groups are those that were put, or those of a group that was there
  pub put_tails : (gs new : List TailGroup) → IsPut byte tails gs new → (h : TailGroup) → Has new h → (h.tails ≡ tails) ⊎ ((g : TailGroup) × Has gs g × (g.tails ≡ h.tails))
  put_tails _ _ opens h (inl e) = inl (sym (ap (λ (x : TailGroup). x.tails) e))
  put_tails _ _ opens h (inr k) = absurd k
  put_tails _ _ (joins g gs same) h (inl e) = inl (sym (ap (λ (x : TailGroup). x.tails) e) ∙ same)
  put_tails _ _ (joins g gs same) h (inr k) = inr (h, inr k, refl)
  put_tails _ _ (later g {gs} {new} other p) h (inl e) = inr (g, inl refl, ap (λ (x : TailGroup). x.tails) e)
  put_tails _ _ (later g {gs} {new} other p) h (inr k) = elim (put_tails gs new p h k) [
    | inl x ↦ inl x
    | inr r ↦ inr (r.0, inr r.1, r.2)
  ]

  -- a byte that was in a group is in one
  pub put_keeps : (gs new : List TailGroup) → IsPut byte tails gs new → (g : TailGroup) (b : ℕ) → Has gs g → IsByteIn g.bytes b → (h : TailGroup) × Has new h × IsByteIn h.bytes b
  put_keeps _ _ opens g b k is = absurd k
  put_keeps _ _ (joins x gs same) g b (inl e) is = (record x { bytes = insert x.bytes byte }, inl refl, (in_more x.bytes byte b).1 (inr (rw e is)))
  put_keeps _ _ (joins x gs same) g b (inr k) is = (g, inr k, is)
  put_keeps _ _ (later x {gs} {new} other p) g b (inl e) is = (g, inl e, is)
  put_keeps _ _ (later x {gs} {new} other p) g b (inr k) is = (let r = put_keeps gs new p g b k is in (r.0, inr r.1, r.2))

  -- the byte that was put is in a group
  pub put_has : (gs new : List TailGroup) → IsPut byte tails gs new → (h : TailGroup) × Has new h × IsByteIn h.bytes byte
  put_has _ _ opens = (record { bytes = insert empty byte; tails = tails }, inl refl, (in_more empty byte byte).1 (inl refl))
  put_has _ _ (joins x gs same) = (record x { bytes = insert x.bytes byte }, inl refl, (in_more x.bytes byte byte).1 (inl refl))
  put_has _ _ (later x {gs} {new} other p) = (let r = put_has gs new p in (r.0, inr r.1, r.2))

  -- each group that was there starts with a byte below the one that is put
  pub record AreBelow (gs : List TailGroup) : Type 0 where
    pub below : (g : TailGroup) (b : ℕ) → Has gs g → IsByteIn g.bytes b → b < byte
    pub least : (g : TailGroup) → Has gs g → (b : ℕ) × IsLeastIn g.bytes b

  fewer : (g : TailGroup) (gs : List TailGroup) → AreBelow (g ∷ gs) → AreBelow gs
  fewer g gs are = record { below = λ h b k. are.below h b (inr k); least = λ h k. are.least h (inr k) }

  least_alone : IsLeastIn (insert empty byte) byte
  least_alone = ((in_more empty byte byte).1 (inl refl), λ c h. elim ((in_more empty byte c).0 h) [ inl e ↦ omega arith | inr none ↦ absurd (in_none c none) ])

  least_same : (g : TailGroup) (b : ℕ) → b < byte → IsLeastIn g.bytes b → IsLeastIn (insert g.bytes byte) b
  least_same g b l is = ((in_more g.bytes byte b).1 (inr is.0), λ c h. elim ((in_more g.bytes byte c).0 h) [ inl e ↦ omega arith | inr k ↦ is.1 c k ])

  pub put_least : (gs new : List TailGroup) → IsPut byte tails gs new → AreBelow gs → (h : TailGroup) → Has new h → (b : ℕ) × IsLeastIn h.bytes b
  put_least _ _ opens are h (inl e) = (byte, rw (← e) least_alone)
  put_least _ _ opens are h (inr k) = absurd k
  put_least _ _ (joins g gs same) are h (inl e) =
      let b = are.least g (inl refl) in
      (b.0, rw (← e) (least_same g b.0 (are.below g b.0 (inl refl) b.1.0) b.1))
  put_least _ _ (joins g gs same) are h (inr k) = are.least h (inr k)
  put_least _ _ (later g {gs} {new} other p) are h (inl e) = are.least h (inl e)
  put_least _ _ (later g {gs} {new} other p) are h (inr k) = put_least gs new p (fewer g gs are) h k

  -- the least byte of a set is one
  pub one_least : (s : TailGroup) (b c : ℕ) → IsLeastIn s.bytes b → IsLeastIn s.bytes c → b ≡ c
  one_least s b c p q = (let l = p.1 c q.0 in let m = q.1 b p.0 in omega arith)

  -- what starts after a group starts after it where the byte is put behind
  put_after : (g : TailGroup) (gs new : List TailGroup) → IsPut byte tails gs new → AreBelow (g ∷ gs) → AllByRecursion (StartsBelow g) gs → AllByRecursion (StartsBelow g) new
  put_after g _ _ opens are all = (λ b c p q. (let e = one_least (record { bytes = insert empty byte; tails = tails }) c byte q least_alone in omega (arith, are.below g b (inl refl) p.0)), tt)
  put_after g _ _ (joins h gs same) are all = (
    λ b c p q.
        let d = are.least h (inr (inl refl)) in
        let e = one_least (record h { bytes = insert h.bytes byte }) c d.0 q (least_same h d.0 (are.below h d.0 (inr (inl refl)) d.1.0) d.1) in
        let l = all.0 b d.0 p d.1 in omega arith,
    all.1,
  )
  put_after g _ _ (later h {gs} {new} other p) are all =
      (all.0, put_after g gs new p (record { below = below_rest; least = least_rest }) all.1)
    where
      below_rest : (x : TailGroup) (b : ℕ) → Has (g ∷ gs) x → IsByteIn x.bytes b → b < byte
      below_rest x b (inl e) = are.below x b (inl e)
      below_rest x b (inr k) = are.below x b (inr (inr k))

      least_rest : (x : TailGroup) → Has (g ∷ gs) x → (b : ℕ) × IsLeastIn x.bytes b
      least_rest x (inl e) = are.least x (inl e)
      least_rest x (inr k) = are.least x (inr (inr k))

  joined_below : (g : TailGroup) (gs : List TailGroup) (b : ℕ) → IsLeastIn g.bytes b → b < byte → AllByRecursion (StartsBelow g) gs →
      AllByRecursion (StartsBelow (record g { bytes = insert g.bytes byte })) gs
  joined_below g [] b is l all = tt
  joined_below g (h ∷ gs) b is l all = (
    λ c d p q. (let e = one_least (record g { bytes = insert g.bytes byte }) c b p (least_same g b l is) in let m = all.0 b d is q in omega arith),
    joined_below g gs b is l all.1,
  )

  pub put_ascends : (gs new : List TailGroup) → IsPut byte tails gs new → AreBelow gs → IsInOrder StartsBelow gs → IsInOrder StartsBelow new
  put_ascends _ _ opens are order = (tt, tt)
  put_ascends _ _ (joins g gs same) are order =
      let b = are.least g (inl refl) in (joined_below g gs b.0 b.1 (are.below g b.0 (inl refl) b.1.0) order.0, order.1)
  put_ascends _ _ (later g {gs} {new} other p) are order = (put_after g gs new p are order.0, put_ascends gs new p (fewer g gs are) order.1)

  put_others : (g : TailGroup) (gs new : List TailGroup) → IsPut byte tails gs new → ¬ (g.tails ≡ tails) → AllByRecursion (HaveOtherTails g) gs → AllByRecursion (HaveOtherTails g) new
  put_others g _ _ opens other all = (other, tt)
  put_others g _ _ (joins h gs same) other all = all
  put_others g _ _ (later h {gs} {new} differs p) other all = (all.0, put_others g gs new p other all.1)

  pub put_distinct : (gs new : List TailGroup) → IsPut byte tails gs new → IsInOrder HaveOtherTails gs → IsInOrder HaveOtherTails new
  put_distinct _ _ opens order = (tt, tt)
  put_distinct _ _ (joins g gs same) order = order
  put_distinct _ _ (later g {gs} {new} other p) order = (put_others g gs new p other order.0, put_distinct gs new p order.1)

-- ---- the numbers whose digit is below a bound

module _ (base unit : ℕ) (ranges : Ranges) where
  pub grouped_first : AreGrouped base unit ranges 0 []
  grouped_first = record {
    each = λ v c l. absurd (let e : 0 * unit ≡ 0 = omega arith in omega arith);
    holds = λ g b k. absurd k;
    some = λ g k. absurd k;
    apart = λ g k. absurd k;
    least = λ g k. absurd k;
    ascending = tt;
    distinct = tt;
  }

  -- where no number has the digit, the groups stay
  pub grouped_same : (n : ℕ) (gs : List TailGroup) → ((q : ℕ) → IsPartOf ranges (n * unit) (n * unit + unit) (n * unit + q) → ⊥) →
      AreGrouped base unit ranges n gs → AreGrouped base unit ranges (n + 1) gs
  grouped_same n gs none old = record {
    each = λ v c l. elim (cases_lt v (n * unit)) [
      | inl low ↦ old.each v c low
      | inr high ↦ absurd (let e : n * unit + (v - n * unit) ≡ v = omega arith in none (v - n * unit) (subst (Covers ranges) (sym e) c, omega arith, below v high l))
    ];
    holds = λ g b k is. (let h = old.holds g b k is in (h.0, h.1, omega (arith, h.2), h.3));
    some = old.some;
    apart = old.apart;
    least = old.least;
    ascending = old.ascending;
    distinct = old.distinct;
  }
    where
      below : (v : ℕ) → n * unit ≤ v → v < (n + 1) * unit → n * unit + (v - n * unit) < n * unit + unit
      below v high l = omega (arith, l, next_unit n unit)

  pub grouped_more : (n : ℕ) (gs new : List TailGroup) (tails : Ranges) → 0 < unit →
      ((q : ℕ) → Covers tails q ↔ IsPartOf ranges (n * unit) (n * unit + unit) (n * unit + q)) → AreApart tails → (q : ℕ) × Covers tails q
      → IsPut (base + n) tails gs new → AreGrouped base unit ranges n gs → AreGrouped base unit ranges (n + 1) new
  grouped_more n gs new tails positive part apart some put old =
      let are : AreBelow (base + n) tails gs = record { below = λ g b k is. (let h = old.holds g b k is in omega (arith, h.1, h.2)); least = old.least } in record {
        each = λ v c l. elim (cases_lt v (n * unit)) [
          | inl low ↦ (let g = old.each v c low in put_keeps (base + n) tails gs new put g.0 (base + v / unit) g.1 g.2)
          | inr high ↦ (let e : v / unit ≡ n = at_place unit n v high (above v l) in
              let h = put_has (base + n) tails gs new put in
              (h.0, h.1, subst (λ (x : ℕ). IsByteIn h.0.bytes (base + x)) (sym e) h.2))
        ];
        holds = λ h b k is. elim (put_from (base + n) tails gs new put h b k is) [
          | inl x ↦ (n, x.0, omega arith, rw (← x.1) at part)
          | inr r ↦ (let o = old.holds r.0 b r.1 r.2 in
              (o.0, o.1, omega (arith, o.2), subst (λ (rs : Ranges). (q : ℕ) → Covers rs q ↔ IsPartOf ranges (o.0 * unit) (o.0 * unit + unit) (o.0 * unit + q)) r.3 o.3))
        ];
        some = λ h k. elim (put_tails (base + n) tails gs new put h k) [
          | inl e ↦ (some.0, rw (← e) at some.1)
          | inr r ↦ (let o = old.some r.0 r.1 in (o.0, subst (λ (rs : Ranges). Covers rs o.0) r.2 o.1))
        ];
        apart = λ h k. elim (put_tails (base + n) tails gs new put h k) [
          | inl e ↦ subst AreApart (sym e) apart
          | inr r ↦ subst AreApart r.2 (old.apart r.0 r.1)
        ];
        least = put_least (base + n) tails gs new put are;
        ascending = put_ascends (base + n) tails gs new put are old.ascending;
        distinct = put_distinct (base + n) tails gs new put old.distinct;
      }
    where
      above : (v : ℕ) → v < (n + 1) * unit → v < n * unit + unit
      above v l = omega (arith, l, next_unit n unit)

  -- the part of a digit that is told otherwise
  pub part_is : (n m : ℕ) (tails : Ranges) → n ≡ m → ((q : ℕ) → Covers tails q ↔ IsPartOf ranges (n * unit) (n * unit + unit) (n * unit + q)) →
      (q : ℕ) → Covers tails q ↔ IsPartOf ranges (m * unit) (m * unit + unit) (m * unit + q)
  part_is n m tails e h = rw (← e) h

  -- a digit with a tail makes a byte
  pub digit_fits : (n : ℕ) (tails : Ranges) → ((v : ℕ) → Covers ranges v → base + v / unit < 256) →
      ((q : ℕ) → Covers tails q ↔ IsPartOf ranges (n * unit) (n * unit + unit) (n * unit + q)) → (q : ℕ) × Covers tails q → base + n < 256
  digit_fits n tails fits part some =
      let p = (part some.0).0 some.1 in
      let e : (n * unit + some.0) / unit ≡ n = at_place unit n (n * unit + some.0) p.1 p.2 in
      omega (arith, fits (n * unit + some.0) p.0, e)

  -- a digit without tails
  pub none_covers : (n : ℕ) (tails : Ranges) → ((q : ℕ) → Covers tails q ↔ IsPartOf ranges (n * unit) (n * unit + unit) (n * unit + q)) → tails ≡ [] →
      (q : ℕ) → IsPartOf ranges (n * unit) (n * unit + unit) (n * unit + q) → ⊥
  none_covers n tails part e q h = rw e at ((part q).1 h)
