-- Joins of tables.
use Rattle.std.proofs.Common.{◌≡◌, cond, ℕ, ◌+◌, ◌<◌, ◌≤◌, ◌⊎◌, ◌↔◌, Bool, true, false, List, [], ◌∷◌, ◌++◌, length, take, Option, Some, None, inl, inr, refl, sym, ap, ◌∙◌, subst, arith, Contains}
use Rattle.std.specs.Prelude.{slice_get, if◌then◌else◌, IsTrue}
use Rattle.std.specs.Bool.{OnTrue, OnFalse}
use Rattle.std.specs.Option.{IfSome, IfNone, IsSomeAnd, is_some, unwrap_or}
use Rattle.std.specs.Ordering.{is_eq}
use Rattle.std.proofs.lemmas.Cmp.{tied_itself}
use Rattle.span_core.specs.Comparison.{row_cmp}
use Rattle.span_core.specs.ComparisonLaws.{row_cmp_total}
use Rattle.std.proofs.lemmas.Bool.{cases_lt, false≢true}
use Rattle.span_core.specs.declared.TheConstants.{MOST_VARIABLES}
use Rattle.span_core.specs.NameSets.{Ascending, with_name, has_name}
use Rattle.span_core.specs.Lists.{Has}
use Rattle.spanner_model.specs.Captures.{VarName, Mapping, row_of, mapping_of}
use Rattle.spanner_model.specs.Answers.{SpanRow}
use Rattle.spanner_model.specs.Answer.{IsRestriction}
use Rattle.spanner_model.specs.Gathered.{Adds, HaveRoom}
use Rattle.span_core.proofs.HasLaws.{Has-append_cases, Has-append_left, Has-append_right, place_of-Has, Has-slice_get, Has-take, Contains-Has}
use Rattle.spanner_model.proofs.TreeLaws.{take_at_more}
use Rattle.spanner_model.proofs.GatheredLaws.{gathered_name, gathered_all}
use Rattle.spanner_model.proofs.CapturesLaws.{row_same_on}
use Rattle.spanner_model.proofs.NameLaws.{list_any-Has, Has-list_any}
use Rattle.plain_spanner.specs.Listed.{Tells, FromSome}
use Rattle.plain_spanner.specs.Tables.{IsRowOf, row_over, Meet, merged, IsJoined, JoinsWith, JoinsRow, HasKeyAt}
use Rattle.plain_spanner.proofs.RowLaws.{row_eq_exact, mapping_of-row_of}

-- ---- names in turn

-- a name more, where it is in the other set too
pub shared_more : (left right shared grown : List VarName) (k : ℕ) (y : VarName) → slice_get left k ≡ Some y → Has right y →
    ((x : VarName) → Has shared x ↔ (Has (take k left) x × Has right x)) → ((x : VarName) → Has grown x ↔ (Has shared x ⊎ (y ≡ x))) → (x : VarName) →
    Has grown x ↔ (Has (take (k + 1) left) x × Has right x)
shared_more left right shared grown k y at here so_far added x = (
  λ h. elim ((added x).0 h) as (λ _. Has (take (k + 1) left) x × Has right x) [
    | inl a ↦ (let b = (so_far x).0 a in (rw (take_at_more left k y at) (Has-append_left (take k left) (y ∷ []) x b.0), b.1))
    | inr e ↦ (rw (take_at_more left k y at) (Has-append_right (take k left) (y ∷ []) x (inl e)), subst (Has right) e here)
  ],
  λ h. (added x).1 (elim (Has-append_cases (take k left) (y ∷ []) x (rw (← take_at_more left k y at) h.0)) as (λ _. Has shared x ⊎ (y ≡ x)) [
    | inl a ↦ inl ((so_far x).1 (a, h.1))
    | inr b ↦ elim b as (λ _. Has shared x ⊎ (y ≡ x)) [ inl e ↦ inr e | inr n ↦ absurd n ]
  ]),
)

pub shared_same : (left right shared : List VarName) (k : ℕ) (y : VarName) → slice_get left k ≡ Some y → (Has right y → ⊥) →
    ((x : VarName) → Has shared x ↔ (Has (take k left) x × Has right x)) → (x : VarName) → Has shared x ↔ (Has (take (k + 1) left) x × Has right x)
shared_same left right shared k y at out so_far x = (
  λ h. let b = (so_far x).0 h in (rw (take_at_more left k y at) (Has-append_left (take k left) (y ∷ []) x b.0), b.1),
  λ h. elim (Has-append_cases (take k left) (y ∷ []) x (rw (← take_at_more left k y at) h.0)) as (λ _. Has shared x) [
    | inl a ↦ (so_far x).1 (a, h.1)
    | inr b ↦ elim b as (λ _. Has shared x) [ inl e ↦ absurd (out (subst (Has right) (sym e) h.1)) | inr n ↦ absurd n ]
  ],
)

-- a name is added to a set that has room for it
pub name_added : (y : VarName) (old new : List VarName) (said : Bool) → Ascending old → length old ≤ MOST_VARIABLES → (IsTrue said ↔ (Contains old y ⊎ (length old < MOST_VARIABLES))) →
    OnTrue said (new ≡ with_name y old) → OnFalse said (new ≡ old) → HaveRoom old (λ x. y ≡ x) → Adds old (λ x. y ≡ x) new
name_added y old new said up few room added kept has_room =
    (gathered_all old new (λ x. y ≡ x) said has_room (gathered_name y old new said up few room added kept)).1

-- ---- rows of joins

-- what joins make of two mappings: V and W are the names of the parts
abbrev pub JoinOf : List VarName → (Mapping → Type 0) → List VarName → (Mapping → Type 0) → Mapping → Type 0
JoinOf V A W B m =
    (n1 : Mapping) × (n2 : Mapping) × IsRestriction (Has V) m n1 × A n1 × IsRestriction (Has W) m n2 × B n2 × ((x : VarName) → (Has V x ⊎ Has W x → ⊥) → m x ≡ None)

pub merged_left : (V W : List VarName) (a b : SpanRow) (x : VarName) → Has V x → merged V W a b x ≡ mapping_of V a x
merged_left V W a b x h = ap (λ (t : Bool). if t then mapping_of V a x else mapping_of W b x) (list_any-Has V x h)

merged_right : (V W : List VarName) (a b : SpanRow) (x : VarName) → Meet V W a b → Has W x → merged V W a b x ≡ mapping_of W b x
merged_right V W a b x meet h = by (has_name V x) refl
  where
    by : (t : Bool) → has_name V x ≡ t → (if t then mapping_of V a x else mapping_of W b x) ≡ mapping_of W b x
    by true e = meet x (Has-list_any V x e) h
    by false e = refl

-- the mapping of two that agree
abbrev both_of : List VarName → Mapping → Mapping → Mapping
both_of V n1 n2 x = if has_name V x then n1 x else n2 x

both_left : (V : List VarName) (n1 n2 : Mapping) (x : VarName) → Has V x → both_of V n1 n2 x ≡ n1 x
both_left V n1 n2 x h = ap (λ (t : Bool). if t then n1 x else n2 x) (list_any-Has V x h)

both_right : (V : List VarName) (n1 n2 : Mapping) (x : VarName) → (Has V x → n1 x ≡ n2 x) → both_of V n1 n2 x ≡ n2 x
both_right V n1 n2 x agree = by (has_name V x) refl
  where
    by : (t : Bool) → has_name V x ≡ t → (if t then n1 x else n2 x) ≡ n2 x
    by true e = agree (Has-list_any V x e)
    by false e = refl

module _ (V W names : List VarName) (A B : Mapping → Type 0) (a_out : (m : Mapping) → A m → (x : VarName) → (Has V x → ⊥) → m x ≡ None)
    (b_out : (m : Mapping) → B m → (x : VarName) → (Has W x → ⊥) → m x ≡ None)
    (named : Adds V (Has W) names) where
  pub join_listed : (lefts rights : List SpanRow) (H : SpanRow → Type 0) → Tells (Has lefts) (IsRowOf A V) → Tells (Has rights) (IsRowOf B W) →
      Tells H (IsJoined names V W lefts rights) → Tells H (IsRowOf (JoinOf V A W B) names)
  join_listed lefts rights H left right all = record {
    each_so = λ r h.
        let j = all.each_so r h in
        let s = left.each_so j.0 j.2 in
        let t = right.each_so j.1 j.3 in
        let n1 = s.0 in
        let n2 = t.0 in
        let la : (x : VarName) → Has V x → mapping_of V j.0 x ≡ n1 x = λ x v. ap (λ (r : SpanRow). mapping_of V r x) s.2 ∙ mapping_of-row_of V n1 x v in
        let rb : (x : VarName) → Has W x → mapping_of W j.1 x ≡ n2 x = λ x w. ap (λ (r : SpanRow). mapping_of W r x) t.2 ∙ mapping_of-row_of W n2 x w in
        let agree : (x : VarName) → Has V x → Has W x → n1 x ≡ n2 x = λ x v w. sym (la x v) ∙ j.4 x v w ∙ rb x w in
        let in_left : IsRestriction (Has V) (both_of V n1 n2) n1 = λ x. (λ v. sym (both_left V n1 n2 x v), λ out. a_out n1 s.1 x out) in
        let in_right : IsRestriction (Has W) (both_of V n1 n2) n2 = λ x. (λ w. sym (both_right V n1 n2 x (λ v. agree x v w)), λ out. b_out n2 t.1 x out) in
        let outside : (x : VarName) → (Has V x ⊎ Has W x → ⊥) → both_of V n1 n2 x ≡ None = λ x out.
        both_right V n1 n2 x (λ v. absurd (out (inl v))) ∙ b_out n2 t.1 x (λ w. out (inr w)) in
        let same : (x : VarName) → Has names x → merged V W j.0 j.1 x ≡ both_of V n1 n2 x = λ x h.
        elim ((named x).0 h) as (λ _. merged V W j.0 j.1 x ≡ both_of V n1 n2 x) [
          | inl v ↦ merged_left V W j.0 j.1 x v ∙ la x v ∙ sym (both_left V n1 n2 x v)
          | inr w ↦ merged_right V W j.0 j.1 x j.4 w ∙ rb x w ∙ sym (both_right V n1 n2 x (λ v. agree x v w))
        ] in
        (both_of V n1 n2, (n1, n2, in_left, s.1, in_right, t.1, outside), j.5 ∙ row_same_on names (merged V W j.0 j.1) (both_of V n1 n2) same);
    all_there = λ r h.
        let m = h.0 in
        let j = h.1 in
        let a = row_of V j.0 in
        let b = row_of W j.1 in
        let la : (x : VarName) → Has V x → mapping_of V a x ≡ m x = λ x v. mapping_of-row_of V j.0 x v ∙ (j.2 x).0 v in
        let rb : (x : VarName) → Has W x → mapping_of W b x ≡ m x = λ x w. mapping_of-row_of W j.1 x w ∙ (j.4 x).0 w in
        let meet : Meet V W a b = λ x v w. la x v ∙ sym (rb x w) in
        let same : (x : VarName) → Has names x → m x ≡ merged V W a b x = λ x h.
        elim ((named x).0 h) as (λ _. m x ≡ merged V W a b x) [
          | inl v ↦ sym (merged_left V W a b x v ∙ la x v)
          | inr w ↦ sym (merged_right V W a b x meet w ∙ rb x w)
        ] in
        all.all_there r (a, b, left.all_there a (j.0, j.3, refl), right.all_there b (j.1, j.5, refl), meet, h.2 ∙ row_same_on names m (merged V W a b) same);
  }

-- ---- keys

-- rows have one key where they meet
pub meet_of_key : (V W shared : List VarName) (a b : SpanRow) → ((x : VarName) → Has shared x ↔ (Has V x × Has W x)) → row_over V shared a ≡ row_over W shared b → Meet V W a b
meet_of_key V W shared a b are same x v w =
    let h = (are x).1 (v, w) in
    sym (mapping_of-row_of shared (mapping_of V a) x h) ∙ ap (λ (r : SpanRow). mapping_of shared r x) same ∙ mapping_of-row_of shared (mapping_of W b) x h

pub key_of_meet : (V W shared : List VarName) (a b : SpanRow) → ((x : VarName) → Has shared x ↔ (Has V x × Has W x)) → Meet V W a b → row_over V shared a ≡ row_over W shared b
key_of_meet V W shared a b are meet = row_same_on shared (mapping_of V a) (mapping_of W b) (λ x h. let p = (are x).0 h in meet x p.0 p.1)

-- ---- a row and those that it meets

pub rows_joined : (names V W : List VarName) (lefts rights : List SpanRow) (H : SpanRow → Type 0) → Tells H (FromSome (JoinsRow names V W rights) lefts) → Tells H (IsJoined names V W lefts rights)
rows_joined names V W lefts rights H all = record {
  each_so = λ r h. let s = all.each_so r h in let j = s.2 in (s.0, j.0, s.1, j.1, j.2, j.3);
  all_there = λ r h. all.all_there r (h.0, h.2, (h.1, h.3, h.4, h.5));
}

-- the places that were found for a row's key are those of the rows that it meets
pub joins_found : (names V W shared : List VarName) (rights : List SpanRow) (a : SpanRow) (places : List ℕ) → ((x : VarName) → Has shared x ↔ (Has V x × Has W x)) →
    ((p : ℕ) → Has places p ↔ HasKeyAt W shared rights (row_over V shared a) p) → Tells (FromSome (JoinsWith names V W a rights) places) (JoinsRow names V W rights a)
joins_found names V W shared rights a places are found = record {
  each_so = λ r h.
      let j = h.2 in
      let p = (found h.0).0 h.1 in
      let same : j.0 ≡ p.0 = row_is j.0 p.0 (sym j.1 ∙ p.1) in
      let key = sym (ap (λ (b : SpanRow). row_over W shared b) same ∙ p.2) in
      (j.0, Has-slice_get rights h.0 j.0 j.1, meet_of_key V W shared a j.0 are key, j.2);
  all_there = λ r h.
      let p = place_of-Has rights h.0 h.1 in
      (p.0, (found p.0).1 (h.0, p.2, sym (key_of_meet V W shared a h.0 are h.2)), (h.0, p.2, h.3));
}
  where
    row_is : (x y : SpanRow) → Some x ≡ Some y → x ≡ y
    row_is x y e = cc

pub joins_nothing : (names V W shared : List VarName) (rights : List SpanRow) (a : SpanRow) → ((x : VarName) → Has shared x ↔ (Has V x × Has W x)) →
    ((p : ℕ) → HasKeyAt W shared rights (row_over V shared a) p → ⊥) → (r : SpanRow) → JoinsRow names V W rights a r → ⊥
joins_nothing names V W shared rights a are none r h =
    let p = place_of-Has rights h.0 h.1 in none p.0 (h.0, p.2, sym (key_of_meet V W shared a h.0 are h.2))

pub found_has : (names : List VarName) (y : VarName) (r : Option ℕ) → IfSome r (λ k. slice_get names k ≡ Some y) → IfNone r (Contains names y → ⊥) → IsTrue (is_some r) ↔ Has names y
found_has names y (Some k) here none = (λ t. Has-slice_get names k y here, λ h. refl)
found_has names y None here none = (λ t. absurd (false≢true t), λ h. absurd (none (Contains-Has names y h)))

-- room for a name of a list that is not too long
pub room_in : (left shared : List VarName) (y : VarName) → length left ≤ MOST_VARIABLES → Has left y → ((x : VarName) → Has shared x → Has left x) → HaveRoom shared (λ x. y ≡ x)
room_in left shared y few here in_left = (left, few, λ x h. elim h as (λ _. Has left x) [ inl a ↦ in_left x a | inr e ↦ subst (Has left) e here ])

-- room for one name more, of those that there is room for
pub room_more : (old mid names : List VarName) (k : ℕ) (y : VarName) → slice_get names k ≡ Some y → HaveRoom old (Has names) → Adds old (Has (take k names)) mid → HaveRoom mid (λ x. y ≡ x)
room_more old mid names k y at room so_far = (
  room.0,
  room.1,
  λ x h. elim h as (λ _. Has room.0 x) [
    | inl a ↦ room.2 x (elim ((so_far x).0 a) as (λ _. Has old x ⊎ Has names x) [ inl o ↦ inl o | inr t ↦ inr (Has-take names k x t) ])
    | inr e ↦ room.2 x (inr (subst (Has names) e (Has-slice_get names k y at)))
  ],
)

pub merged_outside : (V W : List VarName) (a b : SpanRow) (x : VarName) → (Has V x → ⊥) → merged V W a b x ≡ mapping_of W b x
merged_outside V W a b x out = by (has_name V x) refl
  where
    by : (t : Bool) → has_name V x ≡ t → (if t then mapping_of V a x else mapping_of W b x) ≡ mapping_of W b x
    by true h = absurd (out (Has-list_any V x h))
    by false h = refl

pub joined_once : (names V W : List VarName) (a : SpanRow) (rights : List SpanRow) (p : ℕ) (b r : SpanRow) → slice_get rights p ≡ Some b →
    JoinsWith names V W a rights p r → row_of names (merged V W a b) ≡ r
joined_once names V W a rights p b r at h =
    let same : b ≡ h.0 = some_row b h.0 (sym at ∙ h.1) in
    ap (λ (x : SpanRow). row_of names (merged V W a x)) same ∙ sym h.2
  where
    some_row : (x y : SpanRow) → Some x ≡ Some y → x ≡ y
    some_row x y e = cc

-- ---- places of keys

key_is : (a b : SpanRow) → is_eq (row_cmp a b) ≡ true → a ≡ b
key_is a b e = row_eq_exact a b e

key_tied : (a b : SpanRow) → a ≡ b → is_eq (row_cmp a b) ≡ true
key_tied a b e = ap (λ (x : SpanRow). is_eq (row_cmp a x)) (sym e) ∙ ap is_eq (tied_itself row_cmp_total a)

module _ {X : Type 0} (items : X → List ℕ) where
  before_items : (o : Option X) (start : X) (p : ℕ) → items start ≡ [] → Has (items (unwrap_or o start)) p ↔ IsSomeAnd o (λ v. Has (items v) p)
  before_items None start p none = (λ h. rw none at h, λ h. absurd h)
  before_items (Some v) start p none = (λ h. h, λ h. h)

  place_by : (t : Bool) (key q : SpanRow) (place p : ℕ) (old_key old_q mid_q new_q : Option X) (after start : X) → (t ≡ true → key ≡ q) → (key ≡ q → t ≡ true) → (key ≡ q → old_key ≡ old_q) →
      mid_q ≡ cond t None old_q → new_q ≡ cond t (Some after) mid_q → items start ≡ [] → items after ≡ items (unwrap_or old_key start) ++ place ∷ [] →
      IsSomeAnd new_q (λ v. Has (items v) p) ↔ (IsSomeAnd old_q (λ v. Has (items v) p) ⊎ ((key ≡ q) × (place ≡ p)))
  place_by true key q place p old_key old_q mid_q new_q after start is tied same mid new none grown =
      let k = is refl in
      let b = before_items old_key start p none in (
        λ h.
            let a = rw grown at (rw new at h) in
            elim (Has-append_cases (items (unwrap_or old_key start)) (place ∷ []) p a) as (λ _. IsSomeAnd old_q (λ v. Has (items v) p) ⊎ ((key ≡ q) × (place ≡ p))) [
              | inl c ↦ inl (rw (same k) at (b.0 c))
              | inr c ↦ elim c as (λ _. IsSomeAnd old_q (λ v. Has (items v) p) ⊎ ((key ≡ q) × (place ≡ p))) [ inl e ↦ inr (k, e) | inr n ↦ absurd n ]
            ],
        λ h.
            let a : Has (items (unwrap_or old_key start) ++ place ∷ []) p = elim h as (λ _. Has (items (unwrap_or old_key start) ++ place ∷ []) p) [
              | inl c ↦ Has-append_left (items (unwrap_or old_key start)) (place ∷ []) p (b.1 (rw (← (same k)) at c))
              | inr e ↦ Has-append_right (items (unwrap_or old_key start)) (place ∷ []) p (inl e.1)
            ] in
            subst (λ (o : Option X). IsSomeAnd o (λ v. Has (items v) p)) (sym new) (subst (λ (xs : List ℕ). Has xs p) (sym grown) a),
      )
  place_by false key q place p old_key old_q mid_q new_q after start is tied same mid new none grown =
      let e : new_q ≡ old_q = new ∙ mid in (
        λ h. inl (rw e at h),
        λ h. elim h as (λ _. IsSomeAnd new_q (λ v. Has (items v) p)) [
          | inl c ↦ rw (← e) at c
          | inr k ↦ absurd (false≢true (tied k.0))
        ],
      )

  pub place_added : (key q : SpanRow) (place p : ℕ) (old_key old_q mid_q new_q : Option X) (after start : X) → (key ≡ q → old_key ≡ old_q) →
      mid_q ≡ cond (is_eq (row_cmp key q)) None old_q → new_q ≡ cond (is_eq (row_cmp key q)) (Some after) mid_q → items start ≡ [] → items after ≡ items (unwrap_or old_key start) ++ place ∷ [] →
      IsSomeAnd new_q (λ v. Has (items v) p) ↔ (IsSomeAnd old_q (λ v. Has (items v) p) ⊎ ((key ≡ q) × (place ≡ p)))
  place_added key q place p old_key old_q mid_q new_q after start same mid new none grown =
      place_by (is_eq (row_cmp key q)) key q place p old_key old_q mid_q new_q after start (key_is key q) (key_tied key q) same mid new none grown

-- one row more whose place is kept under its key
pub places_of_more : (names key_names : List VarName) (rows : List SpanRow) (k : ℕ) (row key : SpanRow) (Old New : SpanRow → ℕ → Type 0) →
    slice_get rows k ≡ Some row → key ≡ row_over names key_names row →
    ((q : SpanRow) (p : ℕ) → Old q p ↔ ((p < k) × HasKeyAt names key_names rows q p)) → ((q : SpanRow) (p : ℕ) → New q p ↔ (Old q p ⊎ ((key ≡ q) × (k ≡ p)))) →
    (q : SpanRow) (p : ℕ) → New q p ↔ ((p < k + 1) × HasKeyAt names key_names rows q p)
places_of_more names key_names rows k row key Old New at is old new q p = (
  λ h. elim ((new q p).0 h) as (λ _. (p < k + 1) × HasKeyAt names key_names rows q p) [
    | inl o ↦ (let a = (old q p).0 o in let l = a.0 in (omega arith, a.1))
    | inr e ↦ (omega (arith, e.1), (row, rw (← e.1) at, sym is ∙ e.0))
  ],
  λ h. (new q p).1 (elim (cases_lt p k) as (λ _. Old q p ⊎ ((key ≡ q) × (k ≡ p))) [
    | inl l ↦ inl ((old q p).1 (l, h.1))
    | inr g ↦
        let l = h.0 in
        let e : k ≡ p = omega arith in
        let same = some_row row h.1.0 (sym at ∙ ap (slice_get rows) e ∙ h.1.1) in
        inr (is ∙ ap (λ (r : SpanRow). row_over names key_names r) same ∙ h.1.2, e)
  ]),
)
  where
    some_row : (x y : SpanRow) → Some x ≡ Some y → x ≡ y
    some_row x y e = cc
