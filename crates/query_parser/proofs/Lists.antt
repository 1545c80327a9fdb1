-- Names in lists: their numbers, and ascending lists with one name more.
use Rattle.std.proofs.Common.{◌≡◌, ℕ, zero, suc, ◌≤◌, ◌<◌, ◌||◌, Bool, true, false, nat_lt, List, [], ◌∷◌, ◌++◌, length, IsTrue, Contains, ◌↔◌, Option, Some, None, slice_get, get_or, ap, refl, sym, subst, ◌∙◌, arith, ◌⊎◌, inl, inr, if◌then◌else◌}
use Rattle.std.specs.Bool.{OnTrue, OnFalse}
use Rattle.std.specs.Str.{bytes_eq}
use Rattle.std.specs.declared.cmp.Ordering.{Ordering}
use Rattle.std.specs.declared.cmp.Ordering.TheVariants.{Less, Equal, Greater}
use Rattle.std.proofs.lemmas.Slice.Eq.{bytes_eq-Decides}
use Rattle.std.proofs.lemmas.Map.Lookups.{exact_bytes}
use Rattle.std.proofs.lemmas.Bool.Decides.{nat_tests}
use Rattle.std.proofs.Math.Bool.{or-true}
use Rattle.span_core.specs.declared.TheConstants.{MOST_VARIABLES}
use Rattle.span_core.specs.NameSets.{name_cmp, by_order, with_name, Ascending}
use Rattle.span_core.proofs.NameSetLaws.{there_is, with_ascends, names_differ}
use Rattle.span_core.specs.Lists.{Has, AreDistinct}
use Rattle.span_core.proofs.HasLaws.{Has-Contains, Contains-Has}
use Rattle.spanner_model.specs.Captures.{VarName}
use Rattle.query_parser.specs.Reads.{is_among, finds_room}
use Rattle.query_parser.specs.Spells.{with_names}
use Rattle.query_parser.specs.Nest.{find, number_from}

pub eq_true : (x y : VarName) → x ≡ y → bytes_eq x y ≡ true
eq_true x y e = (bytes_eq-Decides x y).1 e

pub eq_is : (x y : VarName) → bytes_eq x y ≡ true → x ≡ y
eq_is x y e = (bytes_eq-Decides x y).0 e

-- among the names
pub among_has : (names : List VarName) (x : VarName) → is_among names x ≡ true → Has names x
among_has [] x e = absurd (cc)
among_has (y ∷ ys) x e = by (bytes_eq y x) refl (among_has ys x)
  where
    by : (b : Bool) → bytes_eq y x ≡ b → (is_among ys x ≡ true → Has ys x) → Has (y ∷ ys) x
    by true d others = inl (eq_is y x d)
    by false d others = inr (others (sym (ap (λ b. b || is_among ys x) d) ∙ e))

pub has_among : (names : List VarName) (x : VarName) → Has names x → is_among names x ≡ true
has_among [] x h = absurd h
has_among (y ∷ ys) x (inl e) = ap (λ b. b || is_among ys x) (eq_true y x e)
has_among (y ∷ ys) x (inr h) = ap (λ b. bytes_eq y x || b) (has_among ys x h) ∙ or-true (bytes_eq y x)

pub not_among : (names : List VarName) (x : VarName) → (Has names x → ⊥) → is_among names x ≡ false
not_among names x none = by (is_among names x) refl
  where
    by : (b : Bool) → is_among names x ≡ b → is_among names x ≡ false
    by false e = e
    by true e = absurd (none (among_has names x e))

pub among_not : (names : List VarName) (x : VarName) → is_among names x ≡ false → Has names x → ⊥
among_not names x e h = let d = has_among names x h in absurd (cc)

pub find_none : (names : List VarName) (x : VarName) → (Has names x → ⊥) → find names x ≡ None
find_none [] x none = refl
find_none (y ∷ ys) x none =
    ap (λ b. number_from b (find ys x)) (names_differ y x (λ e. none (inl e))) ∙ ap (number_from false) (find_none ys x (λ h. none (inr h)))

-- the name with a number is that of its place
pub find_gives : (names : List VarName) (x : VarName) (k : ℕ) → find names x ≡ Some k → slice_get names k ≡ Some x
find_gives [] x k e = absurd (cc)
find_gives (y ∷ ys) x k e = by (find ys x) refl (bytes_eq y x) refl (find_gives ys x)
  where
    by : (found : Option ℕ) → find ys x ≡ found → (b : Bool) → bytes_eq y x ≡ b → ((j : ℕ) → find ys x ≡ Some j → slice_get ys j ≡ Some x) →
        slice_get (y ∷ ys) k ≡ Some x
    by (Some j) f b d others =
        let g : number_from (bytes_eq y x) (find ys x) ≡ Some (suc j) = ap (number_from (bytes_eq y x)) f in
        let same : suc j ≡ k = cc in
        rw (← same) (others j f)
    by None f true d others =
        let g : number_from (bytes_eq y x) (find ys x) ≡ Some 0 = ap (λ b. number_from b (find ys x)) d ∙ ap (number_from true) f in
        let same : 0 ≡ k = cc in
        rw (← same) (ap (λ z. Some z) (eq_is y x d))
    by None f false d others =
        let g : number_from (bytes_eq y x) (find ys x) ≡ None = ap (λ b. number_from b (find ys x)) d ∙ ap (number_from false) f in absurd (cc)

pub get_has : (names : List VarName) (x : VarName) (k : ℕ) → slice_get names k ≡ Some x → Has names x
get_has [] x k e = absurd (cc)
get_has (y ∷ ys) x zero e = let same : y ≡ x = cc in inl same
get_has (y ∷ ys) x (suc k) e = inr (get_has ys x k e)

-- of distinct names each has the number of its place
pub get_finds : (names : List VarName) (x : VarName) (k : ℕ) → AreDistinct names → slice_get names k ≡ Some x → find names x ≡ Some k
get_finds [] x k distinct e = absurd (cc)
get_finds (y ∷ ys) x zero distinct e =
    let same : y ≡ x = cc in
    ap (λ b. number_from b (find ys x)) (eq_true y x same) ∙ ap (number_from true) (find_none ys x (λ h. distinct.0 (subst (Has ys) (sym same) h)))
get_finds (y ∷ ys) x (suc k) distinct e = ap (number_from (bytes_eq y x)) (get_finds ys x k distinct.1 e)

pub has_last : (zs : List VarName) (x y : VarName) → Has (zs ++ x ∷ []) y → Has zs y ⊎ (x ≡ y)
has_last [] x y (inl e) = inr e
has_last [] x y (inr h) = absurd h
has_last (z ∷ zs) x y (inl e) = inl (inl e)
has_last (z ∷ zs) x y (inr h) = elim (has_last zs x y h) [ inl g ↦ inl (inr g) | inr e ↦ inr e ]

pub distinct_more : (names : List VarName) (x : VarName) → AreDistinct names → (Has names x → ⊥) → AreDistinct (names ++ x ∷ [])
distinct_more [] x distinct none = ((λ h. h), tt)
distinct_more (y ∷ ys) x distinct none =
    ((λ h. elim (has_last ys x y h) [ inl g ↦ distinct.0 g | inr e ↦ none (inl (sym e)) ]), distinct_more ys x distinct.1 (λ h. none (inr h)))

-- ascending lists with one name more
pub with_names_more : (names xs : List VarName) (x : VarName) → with_names names (xs ++ x ∷ []) ≡ with_name x (with_names names xs)
with_names_more names [] x = refl
with_names_more names (y ∷ ys) x = with_names_more (with_name y names) ys x

pub with_name_longer : (x : VarName) (names : List VarName) → length names ≤ length (with_name x names)
with_name_longer x [] = omega arith
with_name_longer x (y ∷ ys) = by (with_name_longer x ys) (name_cmp x y)
  where
    by : length ys ≤ length (with_name x ys) → (o : Ordering) → length (y ∷ ys) ≤ length (by_order o (x ∷ (y ∷ ys)) (y ∷ ys) (y ∷ with_name x ys))
    by more Less = omega arith
    by more Equal = omega arith
    by more Greater = omega (arith, more)

pub with_name_new : (x : VarName) (names : List VarName) → is_among names x ≡ false → length (with_name x names) ≡ suc (length names)
with_name_new x [] new = refl
with_name_new x (y ∷ ys) new = by (with_name_new x ys) (name_cmp x y) refl
  where
    others : is_among ys x ≡ false
    others = not_among ys x (λ h. among_not (y ∷ ys) x new (inr h))

    by : (is_among ys x ≡ false → length (with_name x ys) ≡ suc (length ys)) → (o : Ordering) → name_cmp x y ≡ o →
        length (by_order o (x ∷ (y ∷ ys)) (y ∷ ys) (y ∷ with_name x ys)) ≡ suc (length (y ∷ ys))
    by more Less e = refl
    by more Equal e = absurd (among_not (y ∷ ys) x new (inl (sym (exact_bytes x y e))))
    by more Greater e = ap suc (more others)

-- a name finds room where the list with it is not too long
pub room_for : (names : List VarName) (x : VarName) → length (with_name x names) ≤ MOST_VARIABLES → finds_room names x ≡ true
room_for names x few = by (is_among names x) refl
  where
    by : (b : Bool) → is_among names x ≡ b → (b || nat_lt (length names) MOST_VARIABLES) ≡ true
    by true e = refl
    by false e = let longer = with_name_new x names e in grind (arith, nat_tests)

has_at : (names : List VarName) (x : VarName) → Has names x → (i : ℕ) × (i < length names) × (get_or names i x ≡ x)
has_at [] x h = absurd h
has_at (y ∷ ys) x (inl e) = (0, omega arith, e)
has_at (y ∷ ys) x (inr h) = let g = has_at ys x h in (suc g.0, omega (arith, g.1), g.2)

pub with_names_ascend : (names xs : List VarName) → Ascending names → Ascending (with_names names xs)
with_names_ascend names [] h = h
with_names_ascend names (x ∷ xs) h = with_names_ascend (with_name x names) xs (with_ascends x names h)

-- with a name that finds room the list is not too long
pub room_keeps : (keep : List VarName) (x : VarName) → Ascending keep → length keep ≤ MOST_VARIABLES → finds_room keep x ≡ true →
    length (with_name x keep) ≤ MOST_VARIABLES
room_keeps keep x up few room = by (is_among keep x) refl room
  where
    by : (b : Bool) → is_among keep x ≡ b → (b || nat_lt (length keep) MOST_VARIABLES) ≡ true → length (with_name x keep) ≤ MOST_VARIABLES
    by true e h =
        let g = has_at keep x (among_has keep x e) in
        rw (there_is keep g.0 x up g.1 g.2) few
    by false e h = let longer = with_name_new x keep e in grind (arith, nat_tests)

-- what adding a name answers
pub adds_room : (r : Bool) (names : List VarName) (x : VarName) → (IsTrue r ↔ (Contains names x ⊎ (length names < MOST_VARIABLES))) → r ≡ finds_room names x
adds_room true names x h = by (h.0 refl)
  where
    by : Contains names x ⊎ (length names < MOST_VARIABLES) → true ≡ finds_room names x
    by (inl c) = sym (ap (λ b. b || nat_lt (length names) MOST_VARIABLES) (has_among names x (Has-Contains names x c)))
    by (inr few) = let room : nat_lt (length names) MOST_VARIABLES ≡ true = grind (arith, nat_tests) in sym (ap (λ b. is_among names x || b) room ∙ or-true (is_among names x))
adds_room false names x h = by (is_among names x) refl (nat_lt (length names) MOST_VARIABLES) refl
  where
    by : (a : Bool) → is_among names x ≡ a → (b : Bool) → nat_lt (length names) MOST_VARIABLES ≡ b → false ≡ finds_room names x
    by true e b f = let d = h.1 (inl (Contains-Has names x (among_has names x e))) in absurd (cc)
    by false e true f = let few : length names < MOST_VARIABLES = grind (arith, nat_tests) in let d = h.1 (inr few) in absurd (cc)
    by false e false f = sym (ap (λ b. b || nat_lt (length names) MOST_VARIABLES) e ∙ f)

pub adds_kept : (r : Bool) (names new : List VarName) (x : VarName) → r ≡ finds_room names x → OnTrue r (new ≡ with_name x names) → OnFalse r (new ≡ names) →
    new ≡ (if finds_room names x then with_name x names else names)
adds_kept true names new x is added same = added ∙ ap (λ b. if b then with_name x names else names) is
adds_kept false names new x is added same = same ∙ ap (λ b. if b then with_name x names else names) is

-- a name is in a list or not
pub is_in : (names : List VarName) (x : VarName) → Has names x ⊎ (Has names x → ⊥)
is_in names x = by (is_among names x) refl
  where
    by : (b : Bool) → is_among names x ≡ b → Has names x ⊎ (Has names x → ⊥)
    by true e = inl (among_has names x e)
    by false e = inr (among_not names x e)
