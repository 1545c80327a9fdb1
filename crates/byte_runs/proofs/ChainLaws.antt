-- Places from which bytes keep to a chain of sets, and texts in it.
use Rattle.std.proofs.Common.{◌≡◌, ℕ, zero, suc, ◌+◌, ◌-◌, ◌<◌, ◌≤◌, ◌⊎◌, Bool, true, false, not, List, length, drop, get_or, [], ◌∷◌, ◌++◌, inl, inr, refl, sym, ap, subst, arith, ◌∙◌, Some, None}
use Rattle.std.specs.Prelude.{◌&&◌, ◌||◌, ◌==◌, IsTrue}
use Rattle.std.specs.Ordering.{nat_cmp, eq_by_cmp}
use Rattle.std.specs.FinSet as bytes
use Rattle.std.specs.FinSet.{contains-difference, contains-empty, contains-insert}
use Rattle.std.proofs.lemmas.Cmp.{nat_cmp_total}
use Rattle.std.proofs.lemmas.Bool.{cases_lt, eqb-true}
use Rattle.std.proofs.lemmas.Bool.Decides.{nat_tests}
use Rattle.std.proofs.lemmas.List.{get_or-drop, length-drop, length-append, get_or_append_left}
use Rattle.std.proofs.Math.Seq.{get_or-append_seam}
use Rattle.memchr.specs.Find.{FindsNeedle, OccursAt}
use Rattle.regex_literal.specs.Ladders.{Admits}
use Rattle.regex_literal.specs.Levels.{FitsLevels}
use Rattle.regex_literal.specs.declared.ladder.Ladder.{Ladder}
use Rattle.byte_runs.specs.Chains.{AreLeftBy, AreLevelsOf, IsInSet, IsLevelOf, IsTextOf, KeepTo}
use Rattle.byte_runs.specs.Searches.{IsLadderOf}

abbrev pub Sets : Type 0
Sets = List (bytes.FinSet nat_cmp)

differ : false ≡ true → ⊥
differ e = cc

-- ---- sets of one byte

in_single : (b x : ℕ) → bytes.contains {R = nat_cmp} (bytes.insert bytes.empty b) x ≡ (x == b)
in_single b x = contains-insert nat_cmp_total bytes.empty b x ∙ ap (λ v. eq_by_cmp nat_cmp x b || v) (contains-empty nat_cmp x) ∙ grind (arith, nat_tests)

-- a set that has no byte beside one has that one alone
pub lone_byte : (set single others : bytes.FinSet nat_cmp) (b : ℕ) → single ≡ bytes.insert bytes.empty b → others ≡ bytes.difference set single → others ≡ bytes.empty →
    (x : ℕ) → IsTrue (bytes.contains set x) → x ≡ b
lone_byte set single others b is rest none x h = go (x == b) refl
  where
    out : (bytes.contains set x && not (x == b)) ≡ false
    out =
        ap (λ v. bytes.contains set x && not v) (sym (ap (λ s. bytes.contains s x) is ∙ in_single b x))
        ∙ (sym (contains-difference nat_cmp_total set single x)
        ∙ (ap (λ s. bytes.contains s x) (sym rest ∙ none) ∙ contains-empty nat_cmp x))

    go : (v : Bool) → (x == b) ≡ v → x ≡ b
    go true e = eqb-true x b e
    go false e = absurd (differ (sym out ∙ (ap (λ v. bytes.contains set x && not v) e ∙ ap (λ v. v && true) h)))

-- ---- texts

-- the sets from one on have one byte alone, those of the text
pub record IsTextSo (sets : Sets) (offset : ℕ) (text : List ℕ) (k : ℕ) : Type 0 where
  pub count : offset + length text ≡ k
  pub within : 0 < length text → k ≤ length sets
  pub only : (m b : ℕ) → m < length text → IsInSet sets (offset + m) b → b ≡ get_or text m 0

pub text_none : (sets : Sets) (offset : ℕ) (text : List ℕ) → length text ≡ 0 → IsTextSo sets offset text offset
text_none sets offset text none = record {
  count = omega (arith, none);
  within = λ some. absurd (omega (arith, none, some));
  only = λ m b less h. absurd (omega (arith, none, less));
}

same_at : (sets : Sets) (k : ℕ) (s t : bytes.FinSet nat_cmp) → k < length sets → get_or sets k s ≡ get_or sets k t
same_at [] k s t less = absurd (omega (arith, less))
same_at (x ∷ sets) zero s t less = refl
same_at (x ∷ sets) (suc k) s t less = same_at sets k s t (omega (arith, less))

pub text_more : (sets : Sets) (offset : ℕ) (text more : List ℕ) (k byte : ℕ) (set : bytes.FinSet nat_cmp) → IsTextSo sets offset text k → k < length sets →
    set ≡ get_or sets k set → ((x : ℕ) → IsTrue (bytes.contains set x) → x ≡ byte) → more ≡ text ++ byte ∷ [] → IsTextSo sets offset more (k + 1)
text_more sets offset text more k byte set so within at one is =
    let long : length more ≡ length text + 1 = ap length is ∙ length-append text (byte ∷ []) in
    record {
      count = omega (arith, long, so.count);
      within = λ some. omega (arith, within);
      only = λ m b less h. by m b less h (cases_lt m (length text)) long;
    }
  where
    by : (m b : ℕ) → m < length more → IsInSet sets (offset + m) b → (m < length text) ⊎ (length text ≤ m) → length more ≡ length text + 1 → b ≡ get_or more m 0
    by m b less h (inl before) long = so.only m b before h ∙ (sym (get_or_append_left text (byte ∷ []) 0 m before) ∙ ap (λ xs. get_or xs m 0) (sym is))
    by m b less h (inr last) long =
        let here : m ≡ length text = omega (arith, less, last, long) in
        let place : offset + m ≡ k = omega (arith, here, so.count) in
        let there : get_or sets (offset + m) bytes.empty ≡ set = ap (λ n. get_or sets n bytes.empty) place ∙ (same_at sets k bytes.empty set within ∙ sym at) in
        one b (subst (λ s. IsTrue (bytes.contains s b)) there h)
        ∙ (sym (get_or-append_seam text byte [] 0) ∙ (ap (λ n. get_or (text ++ byte ∷ []) n 0) (sym here) ∙ ap (λ xs. get_or xs m 0) (sym is)))

pub text_is : (sets : Sets) (offset : ℕ) (text : List ℕ) (k : ℕ) → IsTextSo sets offset text k → 0 < length text → IsTextOf sets offset text
text_is sets offset text k so some = record {
  some = some;
  within = let w = so.within some in omega (arith, w, so.count);
  only = λ m b less small h. so.only m b less h;
}

-- ---- places

-- what keeps to all of the sets keeps to them up to any later place
pub keep_on : (sets : Sets) (d : List ℕ) (j q : ℕ) → KeepTo sets d j (j + length sets) → KeepTo sets d j q
keep_on sets d j q keep k less here = keep k less (omega (arith, less))

pub keep_all : (sets : Sets) (d : List ℕ) (j q : ℕ) → j + length sets ≤ q → KeepTo sets d j q → KeepTo sets d j (j + length sets)
keep_all sets d j q le keep k less here = keep k less (omega (arith, less, le))

-- where nothing is under way at a place up to which no bytes kept to all of the sets, all are left
pub all_left : (sets : Sets) (d : List ℕ) (q place : ℕ) → q ≤ place → place ≤ length d →
    ((j : ℕ) → j < place → j + length sets ≤ length d → KeepTo sets d j (j + length sets) → ⊥) →
    ((j : ℕ) → j < q → q ≤ j + length sets → KeepTo sets d j q → ⊥) → AreLeftBy sets d q
all_left sets d q place le within none near j less keep =
    elim (cases_lt (j + length sets) q) as (λ _. ⊥) [
      | inl before ↦ none j (omega (arith, less, le)) (omega (arith, before, le, within)) (keep_all sets d j q (omega (arith, before)) keep)
      | inr behind ↦ near j less behind keep
    ]

-- a text stands wherever bytes keep to the sets
pub text_stands : (sets : Sets) (offset : ℕ) (text d : List ℕ) (place j : ℕ) → IsTextOf sets offset text → ((i : ℕ) → get_or d i 0 < 256) → place ≤ j → j + length sets ≤ length d →
    KeepTo sets d j (j + length sets) → OccursAt (drop (place + offset) d) text (j - place)
text_stands sets offset text d place j is small le fits keep = record {
  fits = subst (λ n. (j - place) + length text ≤ n) (sym (length-drop (place + offset) d)) (omega (arith, le, fits, is.within));
  reads = λ m less.
      let at : place + offset + ((j - place) + m) ≡ j + (offset + m) = omega (arith, le) in
      get_or-drop (place + offset) d ((j - place) + m) 0
      ∙ (ap (λ n. get_or d n 0) at
      ∙ is.only m (get_or d (j + (offset + m)) 0) less (small (j + (offset + m))) (keep (offset + m) (omega (arith, less, is.within)) (omega (arith, less, is.within))));
}

-- ---- the search for a text

module _ (sets : Sets) (offset : ℕ) (text d : List ℕ) (place : ℕ) (is : IsTextOf sets offset text) (small : (i : ℕ) → get_or d i 0 < 256) where
  -- what is left of the bytes is too short for it
  pub text_too_long : length d - place < offset → (j : ℕ) → place ≤ j → j + length sets ≤ length d → KeepTo sets d j (j + length sets) → ⊥
  text_too_long short j late fits keep = omega (arith, short, late, fits, is.within)

  -- it does not stand in what is left of them
  pub text_nowhere : offset ≤ length d - place → place ≤ length d → FindsNeedle (drop (place + offset) d) text 0 None →
      (j : ℕ) → place ≤ j → j + length sets ≤ length d → KeepTo sets d j (j + length sets) → ⊥
  text_nowhere room within nowhere j late fits keep =
      nowhere (j - place) (omega arith) (subst (λ n. j - place < n + 1) (sym (length-drop (place + offset) d)) (omega (arith, late, fits, is.within, is.some)))
      (text_stands sets offset text d place j is small late fits keep)

  -- it stands behind so many of them first
  pub text_found : (found : ℕ) → FindsNeedle (drop (place + offset) d) text 0 (Some found) →
      (j : ℕ) → place ≤ j → j < place + found → j + length sets ≤ length d → KeepTo sets d j (j + length sets) → ⊥
  text_found found first j late less fits keep =
      first.0.before (j - place) (omega arith) (omega (arith, less, late)) (text_stands sets offset text d place j is small late fits keep)

  pub text_within : (found : ℕ) → offset ≤ length d - place → place ≤ length d → FindsNeedle (drop (place + offset) d) text 0 (Some found) → place + found ≤ length d
  text_within found room within first =
      let fits : found + length text ≤ length d - (place + offset) = subst (λ n. found + length text ≤ n) (length-drop (place + offset) d) first.1.fits in
      omega (arith, fits, is.some, room, within)

-- ---- the search by sets

pub fits_levels : (sets : Sets) (levels : List (List Bool)) (d : List ℕ) (j : ℕ) → AreLevelsOf sets levels → ((i : ℕ) → get_or d i 0 < 256) → j + length sets ≤ length d →
    KeepTo sets d j (j + length sets) → FitsLevels d levels j
fits_levels sets levels d j are small fits keep = record {
  fits = let same = are.count in omega (arith, same, fits);
  each = λ t less.
      let within : t < length sets = omega (arith, less, are.count) in
      are.each t within (get_or d (j + t) 0) (small (j + t)) ∙ keep t within (omega (arith, within));
}

pub ladder_fits : (sets : Sets) (levels : List (List Bool)) (ladder : Ladder) → AreLevelsOf sets levels →
    ((hay : List ℕ) (k : ℕ) → FitsLevels hay levels k → Admits ladder hay k) → IsLadderOf sets ladder
ladder_fits sets levels ladder are admits d j small fits keep = admits d j (fits_levels sets levels d j are small fits keep)

-- levels, one by one
pub record AreLevelsSo (sets : Sets) (levels : List (List Bool)) (k : ℕ) : Type 0 where
  pub count : length levels ≡ k
  pub each : (i : ℕ) → i < k → IsLevelOf (get_or sets i bytes.empty) (get_or levels i [])

-- ---- from stop to stop

pub kept_more : (sets : Sets) (d : List ℕ) (place stop : ℕ) →
    ((j : ℕ) → j < place → j + length sets ≤ length d → KeepTo sets d j (j + length sets) → ⊥) →
    ((j : ℕ) → place ≤ j → j < stop → j + length sets ≤ length d → KeepTo sets d j (j + length sets) → ⊥) →
    (j : ℕ) → j < stop → j + length sets ≤ length d → KeepTo sets d j (j + length sets) → ⊥
kept_more sets d place stop before none j less fits keep =
    elim (cases_lt j place) as (λ _. ⊥) [ inl early ↦ before j early fits keep | inr late ↦ none j late less fits keep ]

pub kept_past : (sets : Sets) (d : List ℕ) (stop : ℕ) → ((j : ℕ) → j < stop → j + length sets ≤ length d → KeepTo sets d j (j + length sets) → ⊥) → (KeepTo sets d stop (length d) → ⊥) →
    (j : ℕ) → j < stop + 1 → j + length sets ≤ length d → KeepTo sets d j (j + length sets) → ⊥
kept_past sets d stop before not j less fits keep =
    elim (cases_lt j stop) as (λ _. ⊥) [
      | inl early ↦ before j early fits keep
      | inr late ↦
          let here : j ≡ stop = omega (arith, less, late) in
          not (subst (λ n. KeepTo sets d n (length d)) here (keep_on sets d j (length d) keep))
    ]

pub all_left_by : (sets first last : Sets) (d : List ℕ) (q place : ℕ) → first ≡ sets → last ≡ sets → q ≤ place → place ≤ length d →
    ((j : ℕ) → j < place → j + length first ≤ length d → KeepTo first d j (j + length first) → ⊥) →
    ((j : ℕ) → j < q → q ≤ j + length last → KeepTo last d j q → ⊥) → AreLeftBy sets d q
all_left_by sets first last d q place one two le within none near =
    all_left sets d q place le within
    (subst (λ (s : Sets). (j : ℕ) → j < place → j + length s ≤ length d → KeepTo s d j (j + length s) → ⊥) one none)
    (subst (λ (s : Sets). (j : ℕ) → j < q → q ≤ j + length s → KeepTo s d j q → ⊥) two near)
