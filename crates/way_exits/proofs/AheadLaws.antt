-- What is worked out of the ways, way by way and set by set.
use Rattle.std.proofs.Common.{◌≡◌, ℕ, zero, suc, ◌+◌, ◌<◌, ◌≤◌, ◌⊎◌, Bool, true, false, not, List, [], ◌∷◌, ◌++◌, length, get_or, take, inl, inr, refl, sym, ap, subst, arith, ◌∙◌, append_assoc}
use Rattle.std.specs.Prelude.{IsTrue, ◌&&◌, nat_le}
use Rattle.std.specs.Ordering.{nat_cmp}
use Rattle.std.specs.Cmp.{nat_cmp_total}
use Rattle.std.specs.FinSet as bytes
use Rattle.std.specs.FinSet.{contains-difference, contains-empty, contains-union}
use Rattle.std.proofs.lemmas.Bool.{le-leb}
use Rattle.std.proofs.lemmas.List.{append-nil, take_all}
use Rattle.span_core.specs.ByteSets.{bytes_between}
use Rattle.span_core.specs.ByteWordLaws.{contains-bytes_between}
use Rattle.span_core.specs.Lists.{Has}
use Rattle.span_core.proofs.HasLaws.{Has-append_left, Has-append_right, Has-take_more_cases}
use Rattle.marked_automaton.specs.declared.way.Way.{Way}
use Rattle.marked_automaton.specs.Automaton.{ByteClass, HasByte}
use Rattle.marked_automaton.proofs.Passing.{or_left, or_right}
use Rattle.way_exits.specs.Exits.{HasAdded}
use Rattle.way_exits.specs.Waiting.{Forces, IsLevel, IsLoop, IsClassWithin}
use Rattle.way_exits.specs.declared.chains.Level.{Level}

-- ---- members

-- a member stands somewhere
pub some_place : (xs : List ℕ) (q : ℕ) → Has xs q → (k : ℕ) × (k < length xs) × (get_or xs k 0 ≡ q)
some_place [] q h = absurd h
some_place (x ∷ xs) q (inl e) = (zero, omega (arith), e)
some_place (x ∷ xs) q (inr h) = let r = some_place xs q h in (suc r.0, omega (arith, r.1), r.2)

pub put_kept : {X : Type 0} (xs ys : List X) (x y : X) → ys ≡ xs ++ x ∷ [] → Has xs y → Has ys y
put_kept xs ys x y is h = subst (λ zs. Has zs y) (sym is) (Has-append_left xs (x ∷ []) y h)

pub put_there : {X : Type 0} (xs ys : List X) (x : X) → ys ≡ xs ++ x ∷ [] → Has ys x
put_there xs ys x is = subst (λ zs. Has zs x) (sym is) (Has-append_right xs (x ∷ []) x (inl refl))

pub some_member : (xs : List ℕ) → (length xs ≡ 0 → ⊥) → (p : ℕ) × Has xs p
some_member [] not = absurd (not refl)
some_member (x ∷ xs) not = (x, inl refl)

-- ---- sets of bytes

-- where nothing is outside of a set it has each byte
pub has_all : (set rest : ByteClass) → rest ≡ bytes.difference (bytes_between 0 255) set → rest ≡ bytes.empty → (b : ℕ) → b < 256 → HasByte set b
has_all set rest is none b less = by (bytes.contains set b) refl
  where
    out : (true && not (bytes.contains set b)) ≡ false
    out =
        ap (λ x. x && not (bytes.contains set b)) (sym (contains-bytes_between 0 255 b ∙ ap (λ x. x && nat_le b 255) (le-leb 0 b (omega arith)) ∙ le-leb b 255 (omega (arith, less))))
        ∙ (sym (contains-difference nat_cmp_total (bytes_between 0 255) set b)
        ∙ (ap (λ s. bytes.contains s b) (sym is ∙ none) ∙ contains-empty nat_cmp b))

    differ : true ≡ false → ⊥
    differ e = cc

    by : (v : Bool) → bytes.contains set b ≡ v → HasByte set b
    by true e = e
    by false e = absurd (differ (sym (ap (λ v. true && not v) e) ∙ out))

pub within_left : (s t u : ByteClass) → u ≡ bytes.union s t → IsClassWithin s u
within_left s t u is b h = ap (λ x. bytes.contains x b) is ∙ (contains-union nat_cmp_total s t b ∙ or_left (bytes.contains s b) (bytes.contains t b) h)

pub within_right : (s t u : ByteClass) → u ≡ bytes.union s t → IsClassWithin t u
within_right s t u is b h = ap (λ x. bytes.contains x b) is ∙ (contains-union nat_cmp_total s t b ∙ or_right (bytes.contains s b) (bytes.contains t b) h)

-- ---- levels

pub level_more : (leaving : Bool) (from : List ℕ) (ways : List Way) (i : ℕ) (y : Way) (old new : Level) → i < length ways → y ≡ get_or ways i y →
    IsLevel leaving (take i ways) from old.bytes old.next.items → HasAdded leaving from y old new → IsLevel leaving (take (i + 1) ways) from new.bytes new.next.items
level_more leaving from ways i y old new less at before added z h f =
    elim (Has-take_more_cases ways i y z less h) as (λ _. (IsTrue leaving × IsLoop z) ⊎ (IsClassWithin z.bytes new.bytes × Has new.next.items z.to)) [
      | inl there ↦ elim (before z there f) as (λ _. (IsTrue leaving × IsLoop z) ⊎ (IsClassWithin z.bytes new.bytes × Has new.next.items z.to)) [
        | inl loop ↦ inl loop
        | inr on ↦ inr (λ b k. added.bytes b (on.0 b k), added.next z.to on.1)
      ]
      | inr e ↦
          let is : y ≡ z = at ∙ e in
          subst (λ (x : Way). (IsTrue leaving × IsLoop x) ⊎ (IsClassWithin x.bytes new.bytes × Has new.next.items x.to)) is (added.here (subst (λ (x : Way). Has from x.from) (sym is) f))
    ]

pub level_all : (leaving : Bool) (from : List ℕ) (ways : List Way) (i : ℕ) (level : Level) → length ways ≤ i →
    IsLevel leaving (take i ways) from level.bytes level.next.items → IsLevel leaving ways from level.bytes level.next.items
level_all leaving from ways i level all before = subst (λ ys. IsLevel leaving ys from level.bytes level.next.items) (take_all i ways all) before

-- ---- chains

-- what is forced from here on is forced, behind what was found, from the beginning
abbrev pub IsForcedSo : List Way → List ℕ → Bool → List ℕ → List ByteClass → Type 0
IsForcedSo ways states leaving from sets = (chain : List ByteClass) → Forces ways leaving from chain → Forces ways true states (sets ++ chain)

pub forced_more : (ways : List Way) (states : List ℕ) (leaving : Bool) (from next : List ℕ) (sets more : List ByteClass) (c : ByteClass) →
    IsForcedSo ways states leaving from sets → IsLevel leaving ways from c next → more ≡ sets ++ c ∷ [] → IsForcedSo ways states false next more
forced_more ways states leaving from next sets more c so level is chain forced =
    subst (Forces ways true states) (sym (append_assoc sets (c ∷ []) chain) ∙ ap (λ xs. xs ++ chain) (sym is)) (so (c ∷ chain) (next, level, forced))

pub forced_all : (ways : List Way) (states : List ℕ) (leaving : Bool) (from : List ℕ) (sets : List ByteClass) → IsForcedSo ways states leaving from sets → Forces ways true states sets
forced_all ways states leaving from sets so = subst (Forces ways true states) (append-nil sets) (so [] tt)
