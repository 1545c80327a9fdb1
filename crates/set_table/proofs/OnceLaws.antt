-- What a table holds once something is asked of it.
use Rattle.std.proofs.Common.{◌≡◌, ℕ, ◌<◌, ◌≤◌, ◌⊎◌, Bool, true, false, List, [], ◌∷◌, ◌++◌, length, length-append, inl, inr, refl, sym, ap, subst, arith, ◌∙◌}
use Rattle.std.specs.Prelude.{if◌then◌else◌, ◌||◌, MatchResult, Result, Ok, Err}
use Rattle.std.specs.Borrow.{Bor}
use Rattle.std.specs.List.{list_any}
use Rattle.span_core.specs.Lists.{AreDistinct, Has}
use Rattle.span_core.proofs.HasLaws.{Has-append_cases, Has-append_left, Has-append_right}
use Rattle.automaton_reading.specs.Reading.{LookUp, look_up_same}
use Rattle.automaton_reading.proofs.MeasureLaws.{look_up_itself, same_look_up}
use Rattle.set_table.specs.declared.fault.TableFault.{TableFault}
use Rattle.set_table.specs.Lending.{Gives}
use Rattle.numbered_lists.specs.Numbered.{IsLongerBy, set_at}
use Rattle.set_table.specs.Tabled.{IsRefusal, Tabled, asked_first, once_asked, reached, was_asked}
use Rattle.numbered_lists.proofs.SetsLaws.{apart_more, has_with_sets, longer_itself, set_stays, with_sets_apart, with_sets_longer}

-- ---- whether it was asked

has_asked : (r : LookUp) (rs : List LookUp) → Has rs r → list_any (look_up_same r) rs ≡ true
has_asked r [] h = absurd h
has_asked r (s ∷ rs) (inl e) = ap (λ b. b || list_any (look_up_same r) rs) (ap (look_up_same r) e ∙ look_up_itself r)
has_asked r (s ∷ rs) (inr h) = ap (λ b. look_up_same r s || b) (has_asked r rs h) ∙ or_true (look_up_same r s)
  where
    or_true : (b : Bool) → (b || true) ≡ true
    or_true true = refl
    or_true false = refl

asked_has : (r : LookUp) (rs : List LookUp) → list_any (look_up_same r) rs ≡ true → Has rs r
asked_has r [] e = absurd (cc)
asked_has r (s ∷ rs) e = by (look_up_same r s) refl (asked_has r rs) e
  where
    by : (b : Bool) → look_up_same r s ≡ b → (list_any (look_up_same r) rs ≡ true → Has rs r) → (b || list_any (look_up_same r) rs) ≡ true → Has (s ∷ rs) r
    by true at rest e = inl (sym (same_look_up r s at))
    by false at rest e = inr (rest e)

-- it was asked, and nothing changes; or it was not
pub once_cases : (t : Tabled) (r : LookUp) →
    ((was_asked t r ≡ true) × Has t.look_ups r × (once_asked t r ≡ t)) ⊎ ((was_asked t r ≡ false) × (¬ Has t.look_ups r) × (once_asked t r ≡ asked_first t r))
once_cases t r = by (was_asked t r) refl
  where
    no : true ≡ false → ⊥
    no e = cc

    by : (b : Bool) → was_asked t r ≡ b →
        ((was_asked t r ≡ true) × Has t.look_ups r × (once_asked t r ≡ t)) ⊎ ((was_asked t r ≡ false) × (¬ Has t.look_ups r) × (once_asked t r ≡ asked_first t r))
    by true at = inl (at, asked_has r t.look_ups at, ap (λ (b : Bool). if b then t else asked_first t r) at)
    by false at = inr (at, (λ h. no (sym (has_asked r t.look_ups h) ∙ at)), ap (λ (b : Bool). if b then t else asked_first t r) at)

pub once_is_first : (t : Tabled) (r : LookUp) → ¬ Has t.look_ups r → once_asked t r ≡ asked_first t r
once_is_first t r none = elim (once_cases t r) as (λ _. once_asked t r ≡ asked_first t r) [ inl c ↦ absurd (none c.1) | inr c ↦ c.2 ]

pub once_is_same : (t : Tabled) (r : LookUp) → Has t.look_ups r → t ≡ once_asked t r
once_is_same t r h = elim (once_cases t r) as (λ _. t ≡ once_asked t r) [ inl c ↦ sym c.2 | inr c ↦ absurd (c.1 h) ]

-- ---- what is held then

-- the sets with those that the answer leads to, and the look-ups with this one
pub record HoldsOnce (t u : Tabled) (r : LookUp) : Type 0 where
  pub graph : u.graph ≡ t.graph
  pub limit : u.limit ≡ t.limit
  pub longer : IsLongerBy t.sets u.sets
  pub sets : (s : List ℕ) → Has u.sets s → Has t.sets s ⊎ Has (reached t.graph r.set r.ask) s
  pub apart : AreDistinct t.sets → AreDistinct u.sets
  pub holds : Has u.look_ups r
  pub look_ups : (u.look_ups ≡ t.look_ups) ⊎ ((¬ Has t.look_ups r) × (u.look_ups ≡ t.look_ups ++ r ∷ []))

first_holds : (t : Tabled) (r : LookUp) → ¬ Has t.look_ups r → HoldsOnce t (asked_first t r) r
first_holds t r none = record {
  graph = refl;
  limit = refl;
  longer = with_sets_longer t.sets (reached t.graph r.set r.ask);
  sets = has_with_sets t.sets (reached t.graph r.set r.ask);
  apart = with_sets_apart t.sets (reached t.graph r.set r.ask);
  holds = Has-append_right t.look_ups (r ∷ []) r (inl refl);
  look_ups = inr (none, refl);
}

pub holds_once : (t u : Tabled) (r : LookUp) → u ≡ once_asked t r → HoldsOnce t u r
holds_once t u r is = subst (λ v. HoldsOnce t v r) (sym is) (elim (once_cases t r) as (λ _. HoldsOnce t (once_asked t r) r) [
  | inl c ↦ subst (λ v. HoldsOnce t v r) (sym c.2) (record {
    graph = refl;
    limit = refl;
    longer = longer_itself t.sets;
    sets = λ s h. inl h;
    apart = λ d. d;
    holds = c.1;
    look_ups = inl refl;
  })
  | inr c ↦ subst (λ v. HoldsOnce t v r) (sym c.2) (first_holds t r c.1)
])

module _ (t u : Tabled) (r : LookUp) (h : HoldsOnce t u r) where
  pub once_sets_stay : (s : List ℕ) → Has t.sets s → Has u.sets s
  once_sets_stay s k = subst (λ ss. Has ss s) (sym h.longer.1) (Has-append_left t.sets h.longer.0 s k)

  -- a set keeps its number
  pub once_set : (k : ℕ) → k < length t.sets → set_at u.sets k ≡ set_at t.sets k
  once_set k l = ap (λ ss. set_at ss k) h.longer.1 ∙ set_stays t.sets h.longer.0 k l

  pub once_sets_count : length t.sets ≤ length u.sets
  once_sets_count = omega (arith, ap length h.longer.1, length-append t.sets h.longer.0)

  pub once_stay : (q : LookUp) → Has t.look_ups q → Has u.look_ups q
  once_stay q k = elim h.look_ups as (λ _. Has u.look_ups q) [
    | inl same ↦ subst (λ rs. Has rs q) (sym same) k
    | inr more ↦ subst (λ rs. Has rs q) (sym more.1) (Has-append_left t.look_ups (r ∷ []) q k)
  ]

  pub once_was : (q : LookUp) → Has u.look_ups q → Has t.look_ups q ⊎ (r ≡ q)
  once_was q k = elim h.look_ups as (λ _. Has t.look_ups q ⊎ (r ≡ q)) [
    | inl same ↦ inl (subst (λ rs. Has rs q) same k)
    | inr more ↦ elim (Has-append_cases t.look_ups (r ∷ []) q (subst (λ rs. Has rs q) more.1 k)) as (λ _. Has t.look_ups q ⊎ (r ≡ q)) [
      | inl old ↦ inl old
      | inr new ↦ elim new as (λ _. Has t.look_ups q ⊎ (r ≡ q)) [ inl e ↦ inr e | inr n ↦ absurd n ]
    ]
  ]

  pub once_asked_apart : AreDistinct t.look_ups → AreDistinct u.look_ups
  once_asked_apart d = elim h.look_ups as (λ _. AreDistinct u.look_ups) [
    | inl same ↦ subst AreDistinct (sym same) d
    | inr more ↦ subst AreDistinct (sym more.1) (apart_more t.look_ups r d more.0)
  ]

-- ---- the two ways out of a call

module _ {X : Type 0} (Answers : Tabled → LookUp → List X → Type 0) (old : Tabled) (r : LookUp) (o : Result (Bor (List X)) TableFault) (t : Tabled) (h : Gives Answers old r o t) where
  pub gives_ok : (xs : Bor (List X)) → o ≡ Ok xs → (t ≡ once_asked old r) × Answers t r xs.now
  gives_ok xs e = subst (λ (o : Result (Bor (List X)) TableFault). MatchResult o (λ xs. (t ≡ once_asked old r) × Answers t r xs.now) (λ e. (t ≡ old) × IsRefusal (once_asked old r) e)) e h.1

  pub gives_err : (f : TableFault) → o ≡ Err f → (t ≡ old) × IsRefusal (once_asked old r) f
  gives_err f e = subst (λ (o : Result (Bor (List X)) TableFault). MatchResult o (λ xs. (t ≡ once_asked old r) × Answers t r xs.now) (λ e. (t ≡ old) × IsRefusal (once_asked old r) e)) e h.1
