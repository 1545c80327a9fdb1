-- One position after the other, in both readings.
use Rattle.std.proofs.Common.{◌≡◌, ℕ, ◌+◌, ◌-◌, ◌<◌, ◌≤◌, ◌⊎◌, ◌↔◌, List, [], ◌∷◌, ◌++◌, Bool, Option, Some, None, length, length-append, get_or, inl, inr, refl, sym, ap, subst, arith, ◌∙◌}
use Rattle.std.specs.Prelude.{slice_get, reverse, IsTrue}
use Rattle.std.proofs.lemmas.Bool.{cases_lt}
use Rattle.std.proofs.lemmas.List.{length-reverse}
use Rattle.std.proofs.lemmas.Option.{slice_get-get_or}
use Rattle.span_core.specs.Lists.{Has, IsInOrder}
use Rattle.marked_automaton.specs.Automaton.{Automaton}
use Rattle.marked_automaton.proofs.Listed.{compared}
use Rattle.automaton_reading.specs.Reading.{byte_read}
use Rattle.segment_filter.specs.Idling.{IsLed}
use Rattle.segment_filter.specs.declared.comparing.Compared.{Compared}
use Rattle.segment_filter.specs.Remembered.{AreRemembered, IsRemembered}
use Rattle.segment_filter.specs.Sets.{Extends, Grows, HaveShared, IsAt, MeetAt, ReadsAll, TakesNone}
use Rattle.segment_filter.specs.Next.{IsNext}
use Rattle.set_table.specs.Tabled.{IsTabled, Tabled, look_up, once_asked}
use Rattle.numbered_lists.specs.Numbered.{set_at}
use Rattle.segment_filter.proofs.SetLaws.{AreLed, at_next, at_none, at_start, byte_back, grows_asked, grows_twice, led_grows, led_more, meet_is}

-- ---- from the end

-- one set is kept
pub first_kept : (t : Tabled) (d items old : List ℕ) (j : ℕ) → IsTabled t → j ≡ 0 → old ≡ [] → items ≡ old ++ j ∷ [] → (length items ≡ 1) × AreLed t d items × IsAt t d 0 j
first_kept t d items old j tabled zero_set none is =
    let start : IsAt t d 0 j = subst (IsAt t d 0) (sym zero_set) (at_start t d tabled) in
    let one : items ≡ j ∷ [] = is ∙ ap (λ xs. xs ++ j ∷ []) none in
    (ap length one, subst (AreLed t d) (sym one) (led_more t d [] j (λ k i e. absurd (cc)) start), start)

-- the table is asked for the next set
module _ (new old first : Tabled) (d : List ℕ) (k j b : ℕ) (none : TakesNone first.graph) (grows : Grows old first) (tabled : IsTabled new)
    (is : new ≡ once_asked old (look_up old j (byte_read b))) (at : slice_get d k ≡ Some b) (here : IsAt old d k j) where
  abbrev grew : Grows new old
  grew = grows_asked new old (look_up old j (byte_read b)) is

  none_here : TakesNone old.graph
  none_here = subst TakesNone (sym grows.graph) none

  pub next_grows : Grows new first
  next_grows = grows_twice new old first grew grows

  pub next_some : (next : Option ℕ) (to : ℕ) → IsNext old j b new.sets next → next ≡ Some to → IsAt new d (k + 1) to
  next_some next to go e = at_next new old d k j b none_here grew at here to tabled (subst (IsNext old j b new.sets) e go)

  pub next_none : (next : Option ℕ) → IsNext old j b new.sets next → next ≡ None → (n p : ℕ) → k < n → IsLed new.graph d n p → ⊥
  next_none next go e = at_none new old d k j b none_here grew at here (subst (IsNext old j b new.sets) e go)

  pub next_led : (items : List ℕ) → AreLed old d items → AreLed new d items
  next_led items led = led_grows new old d items grew led

-- one set more is kept
pub more_kept : (t : Tabled) (d items old : List ℕ) (k j : ℕ) → length old ≡ k + 1 → AreLed t d old → IsAt t d (k + 1) j → items ≡ old ++ j ∷ [] →
    (length items ≡ k + 1 + 1) × AreLed t d items
more_kept t d items old k j count led here is = (
  ap length is ∙ (length-append old (j ∷ []) ∙ (let e : length old + 1 ≡ k + 1 + 1 = omega arith in e)),
  subst (AreLed t d) (sym is) (led_more t d old j led (rw count here)),
)

-- no further set is led to
pub all_kept : (t : Tabled) (d items : List ℕ) (k : ℕ) → k < length d → length items ≡ k + 1 → AreLed t (reverse d) items →
    ((n p : ℕ) → k < n → IsLed t.graph (reverse d) n p → ⊥) → ReadsAll t (reverse d) items
all_kept t d items k l count led none = record {
  few = let len : length (reverse d) ≡ length d = length-reverse d in omega (arith, len);
  led = led;
  rest = λ n p m o h. none n p (omega (arith, m, count)) h;
}

pub byte_at_end : (d : List ℕ) (k : ℕ) → k < length d → slice_get (reverse d) k ≡ Some (get_or d (length d - 1 - k) 0)
byte_at_end d k l = byte_back d k (get_or d (length d - 1 - k) 0) l refl

-- ---- meetings

pub kept_at : (t : Tabled) (d kept : List ℕ) → ReadsAll t d kept → (k : ℕ) → k < length kept →
    (get_or kept k 0 < length t.sets) × IsInOrder ◌<◌ (set_at t.sets (get_or kept k 0))
kept_at t d kept all k l = let j = all.led k (get_or kept k 0) (slice_get-get_or kept k 0 l) in (j.0, j.1)

-- the set at a position shares a state with the one behind exactly where the readings meet
pub meets_is : (old first back : Tabled) (d kept : List ℕ) (j at behind most : ℕ) (meets : Bool) → ReadsAll back (reverse d) kept → Grows old first → IsAt old d at j →
    at + behind ≡ length d →
    (IsTrue meets ↔ ((behind < length kept) × HaveShared most (set_at old.sets j) (set_at back.sets (get_or kept behind 0)))) →
    IsTrue meets ↔ MeetAt first.graph back.graph most d at
meets_is old first back d kept j at behind most meets all grows here sum are =
    let led : (q : ℕ) → Has (set_at old.sets j) q ↔ IsLed first.graph d at q =
    λ q. (
      λ m. rw (← grows.graph) ((here.2 q).0 m),
      λ m. (here.2 q).1 (rw grows.graph m),
    ) in
    let is = meet_is first.graph back d kept (set_at old.sets j) at behind most all led sum in
    (λ t. is.0 (are.0 t), λ m. are.1 (is.1 m))

-- one position more
pub covers_more : (C D M : ℕ → Type 0) (meets : Bool) (at : ℕ) → ((i : ℕ) → C i ↔ ((i < at) × M i)) → (IsTrue meets ↔ M at) →
    ((q : ℕ) → D q ↔ (C q ⊎ (IsTrue meets × (q ≡ at)))) → (i : ℕ) → D i ↔ ((i < at + 1) × M i)
covers_more C D M meets at covers is more i = (
  λ h. elim ((more i).0 h) as (λ _. (i < at + 1) × M i) [
    | inl c ↦ let r = (covers i).0 c in (omega (arith, r.0), r.1)
    | inr e ↦ (omega (arith, e.1), subst M (sym e.1) (is.0 e.0))
  ],
  λ h. (more i).1 (elim (compared i at) as (λ _. C i ⊎ (IsTrue meets × (i ≡ at))) [
    | inl l ↦ inl ((covers i).1 (l, h.1))
    | inr c ↦ elim c as (λ _. C i ⊎ (IsTrue meets × (i ≡ at))) [
      | inl e ↦ inr (is.1 (subst M e h.1), e)
      | inr g ↦ absurd (omega (arith, h.0, g))
    ]
  ]),
)

-- no later position is led to
pub covers_none : (C M : ℕ → Type 0) (at n : ℕ) → at < n → ((i : ℕ) → C i ↔ ((i < at + 1) × M i)) → ((i : ℕ) → at < i → M i → ⊥) → (i : ℕ) → C i ↔ ((i ≤ n) × M i)
covers_none C M at n l covers none i = (
  λ h. let r = (covers i).0 h in (omega (arith, r.0, l), r.1),
  λ h. (covers i).1 (elim (cases_lt at i) as (λ _. i < at + 1) [ inl g ↦ absurd (none i g h.1) | inr le ↦ omega (arith, le) ], h.1),
)

pub covers_all : (C M : ℕ → Type 0) (at n : ℕ) → at ≡ n → ((i : ℕ) → C i ↔ ((i < at + 1) × M i)) → (i : ℕ) → C i ↔ ((i ≤ n) × M i)
covers_all C M at n e covers i = (
  λ h. let r = (covers i).0 h in (omega (arith, r.0, e), r.1),
  λ h. (covers i).1 (omega (arith, h.0, e), h.1),
)

remembered_more : (most : ℕ) (new old others : List (List ℕ)) (last : Option Compared) → Extends new old → IsRemembered most old others last → IsRemembered most new others last
remembered_more most new old others None e h = tt
remembered_more most new old others (Some c) e h =
    let same = e.1 c.set h.0 in (
      omega (arith, h.0, e.0),
      (
        λ t. rw same (h.1.0 t),
        λ k. h.1.1 (rw (← same) k),
      ),
    )

pub all_remembered_more : (most : ℕ) (new old others : List (List ℕ)) (pairs : List (Option Compared)) → Extends new old →
    AreRemembered most old others pairs → AreRemembered most new others pairs
all_remembered_more most new old others pairs e h k x l = remembered_more most new old others (get_or pairs k x) e (h k x l)
