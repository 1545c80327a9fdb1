-- The tree of some strings fits these strings, and nothing else.
use Rattle.std.proofs.Common.{◌≡◌, ℕ, zero, suc, ◌%◌, ◌^◌, ◌↔◌, List, [], ◌∷◌, ◌++◌, length, map, refl, sym, ap, subst, inl, inr, arith, ◌∙◌}
use Rattle.std.specs.Ordering.{nat_cmp}
use Rattle.std.specs.FinSet.{FinSet}
use Rattle.std.specs.Char.{encode_utf8}
use Rattle.std.proofs.lemmas.Bool.{cases_lt}
use Rattle.span_core.specs.Lists.{Has}
use Rattle.spanner_model.specs.Tree.{Tree, one, alt, alt_end, alt_all}
use Rattle.unicode_classes.specs.Texts.{FitsTexts, IsText}
use Rattle.unicode_classes.specs.Joined.{IsByteOf, AreJoined, IsEither, digits}
use Rattle.unicode_classes.specs.ClassTree.{Strings, TailsOf, Group, group_tree, alternation, AreGroups, IsTreeOf, IsLongText, AreArms, no_length, no_text, some_text, IsClassTree, IsByteIn}
use Rattle.unicode_classes.proofs.FitLaws.{fits_same, fits_one, fits_pair, fits_none, fits_either}
use Rattle.unicode_classes.proofs.DigitLaws.{has_digits}

-- one arm stands for its alternation
pub fits_alternation : (fs : List Tree) (A : Strings) → FitsTexts (alt_all fs) A → FitsTexts (alternation fs) A
fits_alternation [] A h = h
fits_alternation (f ∷ []) A h = λ d i j m. (
  λ fit. (h d i j m).0 (inl fit),
  λ r. elim ((h d i j m).1 r) [ inl fit ↦ fit | inr none ↦ absurd none ],
)
fits_alternation (f ∷ (g ∷ fs)) A h = h

module _ {X : Type 0} (tree : X → Tree) (A : X → Strings) where
  pub fits_each : (gs : List X) → ((g : X) → Has gs g → FitsTexts (tree g) (A g)) → FitsTexts (alt_all (map tree gs)) (λ w. (g : X) × Has gs g × A g w)
  fits_each [] each = fits_same alt_end (λ _. ⊥) (λ w. (g : X) × Has [] g × A g w) (λ w. (λ h. absurd h, λ h. h.1)) fits_none
  fits_each (g ∷ gs) each =
      fits_same (alt (tree g) (alt_all (map tree gs))) (IsEither (A g) (λ w. (h : X) × Has gs h × A h w)) (λ w. (h : X) × Has (g ∷ gs) h × A h w)
      (λ w. (
        λ s. elim s [ inl a ↦ (g, inl refl, a) | inr r ↦ (r.0, inr r.1, r.2) ],
        λ r. elim r.1 [ inl e ↦ inl (rw e r.2) | inr h ↦ inr (r.0, h, r.2) ],
      ))
      (fits_either (tree g) (alt_all (map tree gs)) (A g) (λ w. (h : X) × Has gs h × A h w) (each g (inl refl)) (fits_each gs (λ h k. each h (inr k))))

-- a byte of the group, and then a tail of it
abbrev IsGroupText : Strings → Group → Strings
IsGroupText W g w = (b : ℕ) × (v : List ℕ) × IsByteIn g.bytes b × W (b ∷ v) × (b ∷ v ≡ w)

group_fits : (W : Strings) (g : Group) (b : ℕ) → FitsTexts g.tails (TailsOf W b) → ((c : ℕ) → IsByteIn g.bytes c → (v : List ℕ) → W (b ∷ v) ↔ W (c ∷ v)) → FitsTexts (group_tree g) (IsGroupText W g)
group_fits W g b fits same =
    fits_same (group_tree g) (AreJoined (IsByteOf g.bytes) (TailsOf W b)) (IsGroupText W g)
    (λ w. (
      λ r. (let e : r.2.0 ∷ r.1 ≡ w = ap (λ (u : List ℕ). u ++ r.1) r.2.2 ∙ r.4 in (r.2.0, r.1, r.2.1, (same r.2.0 r.2.1 r.1).0 r.3, e)),
      λ r. (r.0 ∷ [], r.1, (r.0, r.2, refl), (same r.0 r.2 r.1).1 r.3, r.4),
    ))
    (fits_pair (one g.bytes) g.tails (IsByteOf g.bytes) (TailsOf W b) (fits_one g.bytes) fits)

one_byte : (W : Strings) (bytes : FinSet nat_cmp) → ((w : List ℕ) → W w → length w ≡ 1) → ((b : ℕ) → IsByteIn bytes b ↔ W (b ∷ [])) → (w : List ℕ) → IsByteOf bytes w ↔ W w
one_byte W bytes long members [] = (λ r. absurd (let e : r.0 ∷ [] ≡ [] = r.2 in cc), λ h. absurd (let e = long [] h in cc))
one_byte W bytes long members (b ∷ []) = (λ r. (let e : r.0 ∷ [] ≡ b ∷ [] = r.2 in subst W e ((members r.0).0 r.1)), λ h. (b, (members b).1 h, refl))
one_byte W bytes long members (b ∷ (c ∷ w)) = (λ r. absurd (let e : r.0 ∷ [] ≡ b ∷ (c ∷ w) = r.2 in cc), λ h. absurd (let e = long (b ∷ (c ∷ w)) h in omega (arith, e)))

in_a_group : (n : ℕ) (W : Strings) (groups : List Group) → ((w : List ℕ) → W w → length w ≡ suc (suc n)) → AreGroups (IsTreeOf n) W groups →
    (w : List ℕ) → ((g : Group) × Has groups g × IsGroupText W g w) ↔ W w
in_a_group n W groups long are [] = (λ r. absurd (let e : r.2.0 ∷ r.2.1 ≡ [] = r.2.4 in cc), λ h. absurd (let e = long [] h in omega (arith, e)))
in_a_group n W groups long are (b ∷ w) = (
  λ r. (let e : r.2.0 ∷ r.2.1 ≡ b ∷ w = r.2.4 in subst W e r.2.3),
  λ h. (let g = are.each b (w, h) in (g.0, g.1, (b, w, g.2, h, refl))),
)

pub tree_fits : (n : ℕ) (W : Strings) (f : Tree) → ((w : List ℕ) → W w → length w ≡ suc n) → IsTreeOf n W f → FitsTexts f W
tree_fits zero W f long t = rw t.2 (fits_same (one t.0) (IsByteOf t.0) W (one_byte W t.0 long t.1) (fits_one t.0))
tree_fits (suc n) W f long t =
    let groups = t.0 in
    let are = t.1 in
    rw t.2 (fits_alternation (map group_tree groups) W
    (fits_same (alt_all (map group_tree groups)) (λ w. (g : Group) × Has groups g × IsGroupText W g w) W (in_a_group n W groups long are)
    (fits_each group_tree (IsGroupText W) groups (λ g h.
    let b = are.least g h in
    group_fits W g b.0 (tree_fits n (TailsOf W b.0) g.tails (λ w k. omega (arith, long (b.0 ∷ w) k)) (are.tails g b.0 h b.1.0))
    (λ c k v. (are.same g b.0 c h b.1.0).0 k v)))))

arms_fit : (ranges : List (ℕ × ℕ)) (ns : List ℕ) (arms : List Tree) → AreArms ranges ns arms → FitsTexts (alt_all arms) (λ w. (n : ℕ) × Has ns n × IsLongText ranges n w)
arms_fit ranges _ _ no_length = fits_same alt_end (λ _. ⊥) (λ w. (n : ℕ) × Has [] n × IsLongText ranges n w) (λ w. (λ h. absurd h, λ h. h.1)) fits_none
arms_fit ranges _ arms (no_text {n} {ns} none rest) =
    fits_same (alt_all arms) (λ w. (k : ℕ) × Has ns k × IsLongText ranges k w) (λ w. (k : ℕ) × Has (n ∷ ns) k × IsLongText ranges k w)
    (λ w. (
      λ r. (r.0, inr r.1, r.2),
      λ r. elim r.1 [ inl e ↦ absurd (none w (rw e r.2)) | inr h ↦ (r.0, h, r.2) ],
    ))
    (arms_fit ranges ns arms rest)
arms_fit ranges _ _ (some_text {n} {ns} {f} {arms} u is tree rest) =
    fits_same (alt f (alt_all arms)) (IsEither (IsLongText ranges n) (λ w. (k : ℕ) × Has ns k × IsLongText ranges k w)) (λ w. (k : ℕ) × Has (n ∷ ns) k × IsLongText ranges k w)
    (λ w. (
      λ s. elim s [ inl a ↦ (n, inl refl, a) | inr r ↦ (r.0, inr r.1, r.2) ],
      λ r. elim r.1 [ inl e ↦ inl (rw e r.2) | inr h ↦ inr (r.0, h, r.2) ],
    ))
    (fits_either f (alt_all arms) (IsLongText ranges n) (λ w. (k : ℕ) × Has ns k × IsLongText ranges k w) (tree_fits n (IsLongText ranges n) f (λ w h. h.1) tree) (arms_fit ranges ns arms rest))

pub length-digits : (base tails v : ℕ) → length (digits base tails v) ≡ suc tails
length-digits base zero v = refl
length-digits base (suc tails) v = ap suc (length-digits 128 tails (v % 64 ^ suc tails))

abbrev pub the_lengths : List ℕ
the_lengths = 0 ∷ (1 ∷ (2 ∷ (3 ∷ [])))

pub has_length : (c : ℕ) → (n : ℕ) × Has the_lengths n × (length (encode_utf8 c) ≡ suc n)
has_length c =
    let d = has_digits c in
    elim (cases_lt c 128) [
      | inl a ↦ (0, inl refl, ap length (d.one a) ∙ length-digits 0 0 c)
      | inr a ↦ elim (cases_lt c 2048) [
        | inl b ↦ (1, inr (inl refl), ap length (d.two a b) ∙ length-digits 192 1 c)
        | inr b ↦ elim (cases_lt c 65536) [
          | inl e ↦ (2, inr (inr (inl refl)), ap length (d.three b e) ∙ length-digits 224 2 c)
          | inr e ↦ (3, inr (inr (inr (inl refl))), ap length (d.four e) ∙ length-digits 240 3 c)
        ]
      ]
    ]

pub class_tree_fits : (ranges : List (ℕ × ℕ)) (f : Tree) → IsClassTree ranges f → FitsTexts f (IsText ranges)
class_tree_fits ranges f t =
    rw t.2 (fits_alternation t.0 (IsText ranges)
    (fits_same (alt_all t.0) (λ w. (n : ℕ) × Has the_lengths n × IsLongText ranges n w) (IsText ranges)
    (λ w. (
      λ r. r.2.0,
      λ h. (let l = has_length h.0 in (l.0, l.1, (h, ap length (sym h.2) ∙ l.2))),
    ))
    (arms_fit ranges the_lengths t.0 t.1)))
