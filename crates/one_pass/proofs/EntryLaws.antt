-- Entries by classes of bytes: where there is none, more room, and one entry more.
use Rattle.std.proofs.Common.{◌≡◌, ◌⊎◌, ℕ, zero, suc, ◌+◌, ◌-◌, ◌*◌, ◌<◌, ◌≤◌, Bool, true, false, List, ◌++◌, length, get_or, set as put, take, replicate, inl, inr, refl, sym, ap, subst, arith, ◌∙◌, if◌then◌else◌}
use Rattle.std.specs.Prelude.{nat_eq, slice_index, IsTrue, ◌||◌, ◌↔◌}
use Rattle.std.specs.Ordering.{nat_cmp}
use Rattle.std.specs.Cmp.{nat_cmp_total, unsigned_tied}
use Rattle.std.specs.FinSet.{contains-empty, contains-insert, contains-union}
use Rattle.std.specs.FinSet as bytes
use Rattle.std.proofs.lemmas.Bool.{cases_eq, cases_lt, eq-eqb, eqb-true}
use Rattle.std.proofs.lemmas.List.{get_or-set_same, get_or-set_other, get_or_append_left, get_or_past, get_or_read, take_all}
use Rattle.std.proofs.lemmas.Nat.{mul-add-lt}
use Rattle.std.proofs.Math.Seq.{get_or-append_right}
use Rattle.marked_automaton.proofs.Listed.{same_or_not}
use Rattle.marked_automaton.proofs.Passing.{or_left, or_right}
use Rattle.one_pass.specs.Entered.{has_entry, is_entered, entry_place}
use Rattle.one_pass.specs.declared.entries.Entry.{Entry}
use Rattle.one_pass.specs.declared.entries.Entry.TheVariants.{Unknown}

abbrev Sets : Type 0
Sets = List (bytes.FinSet nat_cmp)

abbrev IsEntered : Entry → Type 0
IsEntered e = IsTrue (is_entered e)

abbrev entry_in : List Entry → ℕ → Entry
entry_in xs k = get_or xs k Unknown

differ : false ≡ true → ⊥
differ e = cc

-- a byte more in a set
with_one : (s : bytes.FinSet nat_cmp) (k q : ℕ) → bytes.contains (bytes.union s (bytes.insert bytes.empty k)) q ≡ (bytes.contains s q || nat_eq q k)
with_one s k q =
    contains-union nat_cmp_total s (bytes.insert bytes.empty k) q
    ∙ ap (λ v. bytes.contains s q || v) (contains-insert nat_cmp_total bytes.empty k q ∙ ((λ i. unsigned_tied q k i || contains-empty nat_cmp q i) ∙ or_false (nat_eq q k)))
  where
    or_false : (v : Bool) → (v || false) ≡ v
    or_false true = refl
    or_false false = refl

-- what is noted of it
is_noted : (old new : List (bytes.FinSet nat_cmp)) (set byte : ℕ) (s : bytes.FinSet nat_cmp) → set < length old → s ≡ get_or old set s →
    new ≡ put old set (bytes.union s (bytes.insert bytes.empty byte)) →
    (k b : ℕ) → IsTrue (bytes.contains (get_or new k bytes.empty) b) ↔ (IsTrue (bytes.contains (get_or old k bytes.empty) b) ⊎ ((k ≡ set) × (byte ≡ b)))
is_noted old new set byte s within read is k b = go (same_or_not k set)
  where
    go : (k ≡ set) ⊎ (k ≡ set → ⊥) → IsTrue (bytes.contains (get_or new k bytes.empty) b) ↔ (IsTrue (bytes.contains (get_or old k bytes.empty) b) ⊎ ((k ≡ set) × (byte ≡ b)))
    go (inl e) =
        let here : get_or new k bytes.empty ≡ bytes.union s (bytes.insert bytes.empty byte) = ap (λ v. get_or new v bytes.empty) e ∙
        (ap (λ v. get_or v set bytes.empty) is ∙ get_or-set_same old set (bytes.union s (bytes.insert bytes.empty byte)) bytes.empty within) in
        let before : s ≡ get_or old k bytes.empty = get_or_read old set s within read bytes.empty ∙ ap (λ v. get_or old v bytes.empty) (sym e) in
        let told : bytes.contains (get_or new k bytes.empty) b ≡ (bytes.contains (get_or old k bytes.empty) b || nat_eq b byte) =
        ap (λ v. bytes.contains v b) here ∙ (with_one s byte b ∙ ap (λ v. bytes.contains v b || nat_eq b byte) before) in (
          (λ t. split (bytes.contains (get_or old k bytes.empty) b) refl (sym told ∙ t)),
          (λ h. told ∙ elim h as (λ _. (bytes.contains (get_or old k bytes.empty) b || nat_eq b byte) ≡ true) [
            | inl f ↦ or_left (bytes.contains (get_or old k bytes.empty) b) (nat_eq b byte) f
            | inr f ↦ or_right (bytes.contains (get_or old k bytes.empty) b) (nat_eq b byte) (eq-eqb b byte (sym f.1))
          ]),
        )
      where
        split : (v : Bool) → bytes.contains (get_or old k bytes.empty) b ≡ v → (v || nat_eq b byte) ≡ true → IsTrue (bytes.contains (get_or old k bytes.empty) b) ⊎ ((k ≡ set) × (byte ≡ b))
        split true f t = inl f
        split false f t = inr (e, sym (eqb-true b byte t))
    go (inr other) =
        let same : get_or new k bytes.empty ≡ get_or old k bytes.empty = ap (λ v. get_or v k bytes.empty) is ∙
        get_or-set_other old set k (bytes.union s (bytes.insert bytes.empty byte)) bytes.empty other in (
          (λ t. inl (sym (ap (λ v. bytes.contains v b) same) ∙ t)),
          (λ h. elim h as (λ _. bytes.contains (get_or new k bytes.empty) b ≡ true) [ inl f ↦ ap (λ v. bytes.contains v b) same ∙ f | inr f ↦ absurd (other f.0) ]),
        )

-- past the layers there is none
pub none_past : (asked : Sets) (k b : ℕ) → length asked ≤ k → has_entry asked k b ≡ false
none_past asked k b past = ap (λ s. bytes.contains s b) (get_or_past asked k bytes.empty past) ∙ contains-empty nat_cmp b

-- a layer with an entry is within
pub within_asked : (asked : Sets) (k b : ℕ) → has_entry asked k b ≡ true → k < length asked
within_asked asked k b has = elim (cases_lt k (length asked)) as (λ _. k < length asked) [ inl less ↦ less | inr past ↦ absurd (differ (sym (none_past asked k b past) ∙ has)) ]

-- the place of an entry is within
pub place_within : (count class k layers total : ℕ) → class < count → k < layers → count * layers ≤ total → count * k + class < total
place_within count class k layers total small less room =
    let turned : count * k ≡ k * count = omega arith in
    let all : count * layers ≡ layers * count = omega arith in
    omega (arith, mul-add-lt k count class layers less small, room, turned, all)

-- ---- more sets, which are empty

more_empty : (n j : ℕ) (s : bytes.FinSet nat_cmp) → s ≡ bytes.empty → get_or (replicate n s) j bytes.empty ≡ bytes.empty
more_empty zero j s is = refl
more_empty (suc n) zero s is = is
more_empty (suc n) (suc j) s is = more_empty n j s is

pub same_sets : (asked new : Sets) (wanted n : ℕ) (ok : Bool) (s : bytes.FinSet nat_cmp) →
    new ≡ (if ok then take wanted asked ++ replicate (wanted - n) s else asked) → s ≡ bytes.empty → length asked ≤ wanted →
    (k : ℕ) → get_or new k bytes.empty ≡ get_or asked k bytes.empty
same_sets asked new wanted n false s is none more k = ap (λ (xs : Sets). get_or xs k bytes.empty) is
same_sets asked new wanted n true s is none more k =
    let all : new ≡ asked ++ replicate (wanted - n) s = is ∙ ap (λ (xs : Sets). xs ++ replicate (wanted - n) s) (take_all wanted asked more) in
    ap (λ (xs : Sets). get_or xs k bytes.empty) all ∙ elim (cases_lt k (length asked)) as (λ _. get_or (asked ++ replicate (wanted - n) s) k bytes.empty ≡ get_or asked k bytes.empty) [
      | inl less ↦ get_or_append_left asked (replicate (wanted - n) s) bytes.empty k less
      | inr past ↦ get_or-append_right asked (replicate (wanted - n) s) k bytes.empty past ∙ (more_empty (wanted - n) (k - length asked) s none ∙ sym (get_or_past asked k bytes.empty past))
    ]

-- there are as many as before, or as wanted
pub rows_room : (count rows total wide wanted n later : ℕ) (ok : Bool) → later ≡ (if ok then wanted else n) → n ≡ rows → count * rows ≤ total →
    total ≤ wide → count * wanted ≤ wide → count * later ≤ wide
rows_room count rows total wide wanted n later false is same room more enough = let e = ap (λ k. count * k) (is ∙ same) in omega (arith, e, room, more)
rows_room count rows total wide wanted n later true is same room more enough = let e = ap (λ k. count * k) is in omega (arith, e, enough)

-- ---- room for more layers

module _ (asked new : Sets) (numbers wide : List Entry) (count : ℕ) (classes : List ℕ) (small : (b : ℕ) → b < 256 → slice_index classes b < count) (room : count * length asked ≤ length numbers)
    (same : (k : ℕ) → get_or new k bytes.empty ≡ get_or asked k bytes.empty) (kept : (j : ℕ) → j < length numbers → entry_in wide j ≡ entry_in numbers j) where
  same_asked : (k b : ℕ) → has_entry new k b ≡ has_entry asked k b
  same_asked k b = ap (λ s. bytes.contains s b) (same k)

  same_place : (k b : ℕ) → b < 256 → has_entry asked k b ≡ true → entry_in wide (entry_place count classes k b) ≡ entry_in numbers (entry_place count classes k b)
  same_place k b less has = kept (entry_place count classes k b) (place_within count (slice_index classes b) k (length asked) (length numbers) (small b less) (within_asked asked k b has) room)

  pub room_entry : (k b : ℕ) → b < 256 → (if has_entry new k b then entry_in wide (entry_place count classes k b) else Unknown) ≡
      (if has_entry asked k b then entry_in numbers (entry_place count classes k b) else Unknown)
  room_entry k b less = ap (λ v. if v then entry_in wide (entry_place count classes k b) else Unknown) (same_asked k b) ∙ by (has_entry asked k b) refl
    where
      by : (v : Bool) → has_entry asked k b ≡ v → (if v then entry_in wide (entry_place count classes k b) else Unknown) ≡ (if v then entry_in numbers (entry_place count classes k b) else Unknown)
      by false is = refl
      by true is = same_place k b less is

  pub room_some : ((k b : ℕ) → b < 256 → IsTrue (has_entry asked k b) → IsEntered (entry_in numbers (entry_place count classes k b))) → (k b : ℕ) →
      b < 256 → IsTrue (has_entry new k b) → IsEntered (entry_in wide (entry_place count classes k b))
  room_some old k b less has =
      let was = sym (same_asked k b) ∙ has in
      subst IsEntered (sym (same_place k b less was)) (old k b less was)

-- ---- one entry more

module _ (asked new : Sets) (numbers : List Entry) (place : ℕ → ℕ → ℕ) (layer byte : ℕ) (e : Entry) (noted : (k b : ℕ) →
    IsTrue (has_entry new k b) ↔ (IsTrue (has_entry asked k b) ⊎ ((k ≡ layer) × (byte ≡ b)))) (within : place layer byte < length numbers)
    (some : IsEntered e) (had : (entry_in numbers (place layer byte) ≡ Unknown) ⊎ (entry_in numbers (place layer byte) ≡ e)) (old : (k b : ℕ) →
    b < 256 → IsTrue (has_entry asked k b) → IsEntered (entry_in numbers (place k b))) where
  abbrev After : List Entry
  After = put numbers (place layer byte) e

  here : (k b : ℕ) → k ≡ layer → byte ≡ b → entry_in After (place k b) ≡ e
  here k b row same =
      let at : place k b ≡ place layer byte = ap (λ n. place n b) row ∙ ap (place layer) (sym same) in
      ap (entry_in After) at ∙ get_or-set_same numbers (place layer byte) e Unknown within

  -- what was entered is still there
  there : (k b : ℕ) → b < 256 → IsTrue (has_entry asked k b) → entry_in After (place k b) ≡ entry_in numbers (place k b)
  there k b less has = elim (cases_eq (place layer byte) (place k b)) as (λ _. entry_in After (place k b) ≡ entry_in numbers (place k b)) [
    | inl same ↦
        let more : IsEntered (entry_in numbers (place layer byte)) = subst (λ n. IsEntered (entry_in numbers n)) (sym same) (old k b less has) in
        let is : entry_in numbers (place layer byte) ≡ e = elim had as (λ _. entry_in numbers (place layer byte) ≡ e) [ inl none ↦ absurd (differ (subst IsEntered none more)) | inr one ↦ one ] in
        ap (entry_in After) (sym same) ∙ (get_or-set_same numbers (place layer byte) e Unknown within ∙ (sym is ∙ ap (entry_in numbers) same))
    | inr other ↦ get_or-set_other numbers (place layer byte) (place k b) e Unknown (λ back. other (sym back))
  ]

  pub more_some : (k b : ℕ) → b < 256 → IsTrue (has_entry new k b) → IsEntered (entry_in After (place k b))
  more_some k b less has = elim ((noted k b).0 has) as (λ _. IsEntered (entry_in After (place k b))) [
    | inl was ↦ subst IsEntered (sym (there k b less was)) (old k b less was)
    | inr (row, same) ↦ subst IsEntered (sym (here k b row same)) some
  ]

  abbrev Before_at : ℕ → ℕ → Entry
  Before_at k b = if has_entry asked k b then entry_in numbers (place k b) else Unknown

  abbrev After_at : ℕ → ℕ → Entry
  After_at k b = if has_entry new k b then entry_in After (place k b) else Unknown

  pub more_entered : (k b : ℕ) → b < 256 → (After_at k b ≡ Before_at k b) ⊎ ((k ≡ layer) × (b ≡ byte) × (After_at k b ≡ e))
  more_entered k b less = by (has_entry new k b) refl
    where
      was : (v : Bool) → has_entry asked k b ≡ v → has_entry new k b ≡ false → Before_at k b ≡ Unknown
      was false is none = ap (λ v. if v then entry_in numbers (place k b) else Unknown) is
      was true is none = absurd (differ (sym none ∙ (noted k b).1 (inl is)))

      by : (v : Bool) → has_entry new k b ≡ v → (After_at k b ≡ Before_at k b) ⊎ ((k ≡ layer) × (b ≡ byte) × (After_at k b ≡ e))
      by false is = inl (ap (λ v. if v then entry_in After (place k b) else Unknown) is ∙ sym (was (has_entry asked k b) refl is))
      by true is =
          let now : After_at k b ≡ entry_in After (place k b) = ap (λ v. if v then entry_in After (place k b) else Unknown) is in
          elim ((noted k b).0 is) as (λ _. (After_at k b ≡ Before_at k b) ⊎ ((k ≡ layer) × (b ≡ byte) × (After_at k b ≡ e))) [
            | inl had ↦ inl (now ∙ (there k b less had ∙ sym (ap (λ v. if v then entry_in numbers (place k b) else Unknown) had)))
            | inr (row, same) ↦ inr (row, sym same, now ∙ here k b row same)
          ]

-- as the code enters it
module _ (asked : Sets) (numbers : List Entry) (count : ℕ) (classes : List ℕ) (layer byte : ℕ) (e : Entry) (place : ℕ) (had : Entry)
    (was one with_one : bytes.FinSet nat_cmp) (in_asked : layer < length asked) (at : place ≡ entry_place count classes layer byte)
    (in_numbers : place < length numbers) (read : had ≡ get_or numbers place had) (free : (had ≡ Unknown) ⊎ (had ≡ e)) (some : IsEntered e)
    (read_set : was ≡ get_or asked layer was) (single : one ≡ bytes.insert bytes.empty byte)
    (joined : with_one ≡ bytes.union was one) (old : (k b : ℕ) → b < 256 → IsTrue (has_entry asked k b) → IsEntered (entry_in numbers (entry_place count classes k b))) where
  noted : (k b : ℕ) → IsTrue (has_entry (put asked layer with_one) k b) ↔ (IsTrue (has_entry asked k b) ⊎ ((k ≡ layer) × (byte ≡ b)))
  noted = is_noted asked (put asked layer with_one) layer byte was in_asked read_set (ap (put asked layer) (joined ∙ ap (bytes.union was) single))

  free_there : (entry_in numbers (entry_place count classes layer byte) ≡ Unknown) ⊎ (entry_in numbers (entry_place count classes layer byte) ≡ e)
  free_there =
      let is : entry_in numbers (entry_place count classes layer byte) ≡ had = ap (entry_in numbers) (sym at) ∙ sym (get_or_read numbers place had in_numbers read Unknown) in
      elim free as (λ _. (entry_in numbers (entry_place count classes layer byte) ≡ Unknown) ⊎
      (entry_in numbers (entry_place count classes layer byte) ≡ e)) [ inl none ↦ inl (is ∙ none) | inr same ↦ inr (is ∙ same) ]

  within : entry_place count classes layer byte < length numbers
  within = subst (λ n. n < length numbers) at in_numbers

  pub entered_some : (k b : ℕ) → b < 256 → IsTrue (has_entry (put asked layer with_one) k b) → IsEntered (entry_in (put numbers place e) (entry_place count classes k b))
  entered_some k b less has =
      subst (λ n. IsEntered (entry_in (put numbers n e) (entry_place count classes k b))) (sym at)
      (more_some asked (put asked layer with_one) numbers (entry_place count classes) layer byte e noted within some free_there old k b less has)

  pub entered : (k b : ℕ) → b < 256 →
      ((if has_entry (put asked layer with_one) k b then entry_in (put numbers place e) (entry_place count classes k b) else Unknown) ≡
      (if has_entry asked k b then entry_in numbers (entry_place count classes k b) else Unknown)) ⊎ ((k ≡ layer) × (b ≡ byte) ×
      ((if has_entry (put asked layer with_one) k b then entry_in (put numbers place e) (entry_place count classes k b) else Unknown) ≡ e))
  entered k b less =
      subst (λ n. ((if has_entry (put asked layer with_one) k b then entry_in (put numbers n e) (entry_place count classes k b) else Unknown) ≡
      (if has_entry asked k b then entry_in numbers (entry_place count classes k b) else Unknown)) ⊎ ((k ≡ layer) × (b ≡ byte) ×
      ((if has_entry (put asked layer with_one) k b then entry_in (put numbers n e) (entry_place count classes k b) else Unknown) ≡ e))) (sym at)
      (more_entered asked (put asked layer with_one) numbers (entry_place count classes) layer byte e noted within some free_there old k b less)
