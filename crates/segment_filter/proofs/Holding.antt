-- What a table has that a document is read by is no less than what the reading comes to.
use Rattle.std.proofs.Common.{◌≡◌, ℕ, zero, suc, ◌+◌, ◌<◌, ◌≤◌, ◌⊎◌, List, [], ◌∷◌, ◌++◌, Option, Some, None, drop, map, length, inl, inr, refl, sym, ap, subst, arith, ◌∙◌}
use Rattle.std.specs.Prelude.{slice_get}
use Rattle.std.specs.List.{sum_by}
use Rattle.std.specs.Str.{bytes_eq}
use Rattle.std.proofs.Math.Seq.{drop-cons}
use Rattle.std.proofs.lemmas.Option.{get_or_from_slice_get, slice_get_within}
use Rattle.span_core.specs.Lists.{Has}
use Rattle.span_core.proofs.HasLaws.{Has-append_cases, Has-get_or}
use Rattle.marked_automaton.specs.Automaton.{Automaton}
use Rattle.marked_automaton.proofs.Listed.{some_same}
use Rattle.automaton_reading.specs.Reading.{Question, Reach, LookUp, byte_read, edges, next_sets, once, reach_with, look_up_edges, look_up_same, look_ups_asked, set_of, ways_taken}
use Rattle.automaton_reading.proofs.Matching.{has_once, match_sum, once_distinct}
use Rattle.automaton_reading.proofs.MeasureLaws.{bytes_itself, look_up_itself, same_bytes, same_look_up}
use Rattle.set_table.specs.Tabled.{Tabled, look_up, look_ups_weight, once_asked, weight}
use Rattle.numbered_lists.specs.Numbered.{set_at}
use Rattle.set_table.proofs.OnceLaws.{HoldsOnce, holds_once, once_sets_stay, once_stay}
use Rattle.segment_filter.specs.Next.{IsNext, IsTarget}
use Rattle.segment_filter.specs.Sets.{TakesNone}
use Rattle.segment_filter.specs.Weights.{bytes_read, reading_weight, sets_asked, sets_read}
use Rattle.segment_filter.proofs.SetLaws.{edge_is}

-- ---- where no set is reached, nothing is asked

no_sets : (A : Automaton) (asks : List Question) (s : List ℕ) → Has (sets_asked A [] asks) s → ⊥
no_sets A [] s h = h
no_sets A (a ∷ later) s h = no_sets A later s h

no_look_ups : (A : Automaton) (asks : List Question) (r : LookUp) → Has (look_ups_asked A [] asks) r → ⊥
no_look_ups A [] r h = h
no_look_ups A (a ∷ later) r h = no_look_ups A later r h

-- ---- what a reading asks for

-- what a reading asks for is there, or is asked for later, from this set on, which is reached after k bytes
pub record IsHolding (A : Automaton) (d : List ℕ) (t : Tabled) (k : ℕ) (set : List ℕ) : Type 0 where
  pub sets : (s : List ℕ) → Has (sets_read A d) s → Has t.sets s ⊎ Has (sets_asked A (set ∷ []) (map byte_read (drop k d))) s
  pub look_ups : (r : LookUp) → Has (bytes_read A d) r → Has t.look_ups r ⊎ Has (look_ups_asked A (set ∷ []) (map byte_read (drop k d))) r

-- what a reading asks for is there
pub record HoldsAll (A : Automaton) (d : List ℕ) (t : Tabled) : Type 0 where
  pub sets : (s : List ℕ) → Has (sets_read A d) s → Has t.sets s
  pub look_ups : (r : LookUp) → Has (bytes_read A d) r → Has t.look_ups r

module _ (A : Automaton) (d : List ℕ) where
  pub holding_starts : (t : Tabled) (set : List ℕ) → set ≡ set_of A.starts → IsHolding A d t 0 set
  holding_starts t set e = record {
    sets = λ s h. inr (rw e h);
    look_ups = λ r h. inr (rw e h);
  }

  -- all bytes were read
  pub holding_all : (t : Tabled) (k j : ℕ) → IsHolding A d t k (set_at t.sets j) → j < length t.sets → k ≡ length d → HoldsAll A d t
  holding_all t k j h below end = record {
    sets = λ s m. elim (h.sets s m) as (λ _. Has t.sets s) [
      | inl there ↦ there
      | inr later ↦ elim (rw none at later) as (λ _. Has t.sets s) [
        | inl e ↦ subst (Has t.sets) e (Has-get_or t.sets j [] below)
        | inr n ↦ absurd n
      ]
    ];
    look_ups = λ r m. elim (h.look_ups r m) as (λ _. Has t.look_ups r) [
      | inl there ↦ there
      | inr later ↦ absurd (rw none at later)
    ];
  }
    where
      dropped : (xs : List ℕ) (n : ℕ) → n ≡ length xs → drop n xs ≡ []
      dropped [] zero e = refl
      dropped [] (suc n) e = refl
      dropped (x ∷ xs) zero e = absurd (omega (arith, e))
      dropped (x ∷ xs) (suc n) e = dropped xs n (omega (arith, e))

      none : map byte_read (drop k d) ≡ []
      none = ap (map byte_read) (dropped d k end)

  -- one byte more is read, from the set of a number
  module _ (t new : Tabled) (k j b : ℕ) (h : IsHolding A d t k (set_at t.sets j)) (graph : t.graph ≡ A) (takes_none : TakesNone A) (below : j < length t.sets)
      (at : slice_get d k ≡ Some b) (is : new ≡ once_asked t (look_up t j (byte_read b))) where
    abbrev here : List ℕ
    here = set_at t.sets j

    abbrev next : List (List ℕ)
    next = next_sets A (here ∷ []) (byte_read b)

    abbrev look_up_here : LookUp
    look_up_here = record { set = here; ask = byte_read b }

    kept : HoldsOnce t new look_up_here
    kept = holds_once t new look_up_here is

    there : Has new.sets here
    there = once_sets_stay t new look_up_here kept here (Has-get_or t.sets j [] below)

    asks_here : map byte_read (drop k d) ≡ byte_read b ∷ map byte_read (drop (suc k) d)
    asks_here =
        ap (map byte_read) (drop-cons d k 0 (slice_get_within d k b at))
        ∙ ap (λ x. byte_read x ∷ map byte_read (drop (suc k) d)) (get_or_from_slice_get d k b 0 at)

    pub sets_then : (s : List ℕ) → Has (sets_read A d) s → Has new.sets s ⊎ Has (sets_asked A next (map byte_read (drop (suc k) d))) s
    sets_then s m = elim (h.sets s m) as (λ _. Has new.sets s ⊎ Has (sets_asked A next (map byte_read (drop (suc k) d))) s) [
      | inl old ↦ inl (once_sets_stay t new look_up_here kept s old)
      | inr later ↦ elim (
          Has-append_cases (here ∷ []) (sets_asked A next (map byte_read (drop (suc k) d))) s (rw asks_here at later)
          ) as (λ _. Has new.sets s ⊎ Has (sets_asked A next (map byte_read (drop (suc k) d))) s) [
            | inl one ↦ elim one as (λ _. Has new.sets s ⊎ Has (sets_asked A next (map byte_read (drop (suc k) d))) s) [
              | inl e ↦ inl (subst (Has new.sets) e there)
              | inr n ↦ absurd n
            ]
            | inr more ↦ inr more
          ]
    ]

    pub look_ups_then : (r : LookUp) → Has (bytes_read A d) r → Has new.look_ups r ⊎ Has (look_ups_asked A next (map byte_read (drop (suc k) d))) r
    look_ups_then r m = elim (h.look_ups r m) as (λ _. Has new.look_ups r ⊎ Has (look_ups_asked A next (map byte_read (drop (suc k) d))) r) [
      | inl old ↦ inl (once_stay t new look_up_here kept r old)
      | inr later ↦ elim (
          Has-append_cases (look_up_here ∷ []) (look_ups_asked A next (map byte_read (drop (suc k) d))) r (rw asks_here at later)
          ) as (λ _. Has new.look_ups r ⊎ Has (look_ups_asked A next (map byte_read (drop (suc k) d))) r) [
            | inl one ↦ elim one as (λ _. Has new.look_ups r ⊎ Has (look_ups_asked A next (map byte_read (drop (suc k) d))) r) [
              | inl e ↦ inl (subst (Has new.look_ups) e kept.holds)
              | inr n ↦ absurd n
            ]
            | inr more ↦ inr more
          ]
    ]

    -- the one edge, if there is one
    abbrev reach_here : Reach
    reach_here = reach_with (ways_taken A here b) 0

    next_of : (es : List Reach) → edges A here (byte_read b) ≡ es → next ≡ once bytes_eq (map (λ (e : Reach). e.to) es ++ [])
    next_of es e = ap (λ (xs : List Reach). once bytes_eq (map (λ (r : Reach). r.to) xs ++ [])) e

    module _ (to : Option ℕ) (led : IsNext t j b new.sets to) where
      target_of : (es : List Reach) → edges A here (byte_read b) ≡ es → IsTarget new.sets es to
      target_of es e = rw (← (ap (λ (g : Automaton). edges g here (byte_read b)) graph ∙ e)) led

      next_some : (n : ℕ) → to ≡ Some n → next ≡ set_at new.sets n ∷ []
      next_some n e = elim (edge_is A takes_none here b) as (λ _. next ≡ set_at new.sets n ∷ []) [
        | inl none ↦ (let f : Some n ≡ None = sym e ∙ target_of [] none in absurd (cc))
        | inr one ↦ (
            let target = target_of (reach_here ∷ []) one.0 in
            let same : target.0 ≡ n = some_same target.0 n (sym target.1 ∙ e) in
            next_of (reach_here ∷ []) one.0 ∙ ap (λ (s : List ℕ). s ∷ []) (sym (ap (set_at new.sets) (sym same) ∙ target.3)))
      ]

      next_none : to ≡ None → next ≡ []
      next_none e = elim (edge_is A takes_none here b) as (λ _. next ≡ []) [
        | inl none ↦ next_of [] none
        | inr one ↦ (let f : None ≡ Some (target_of (reach_here ∷ []) one.0).0 = sym e ∙ (target_of (reach_here ∷ []) one.0).1 in absurd (cc))
      ]

      -- it leads to another set
      pub holding_next : (n : ℕ) → to ≡ Some n → IsHolding A d new (k + 1) (set_at new.sets n)
      holding_next n e =
          subst (λ i. IsHolding A d new i (set_at new.sets n)) one (record {
            sets = λ s m. rw (next_some n e) at (sets_then s m);
            look_ups = λ r m. rw (next_some n e) at (look_ups_then r m);
          })
        where
          one : suc k ≡ k + 1
          one = omega arith

      -- it leads to none, so that nothing is asked for later
      pub holding_ends : to ≡ None → HoldsAll A d new
      holding_ends e = record {
        sets = λ s m. elim (rw (next_none e) at (sets_then s m)) as (λ _. Has new.sets s) [
          | inl held ↦ held
          | inr more ↦ absurd (no_sets A (map byte_read (drop (suc k) d)) s more)
        ];
        look_ups = λ r m. elim (rw (next_none e) at (look_ups_then r m)) as (λ _. Has new.look_ups r) [
          | inl held ↦ held
          | inr more ↦ absurd (no_look_ups A (map byte_read (drop (suc k) d)) r more)
        ];
      }

  -- ---- what it weighs

  pub weight_no_less : (t : Tabled) → t.graph ≡ A → HoldsAll A d t → reading_weight A d ≤ weight t
  weight_no_less t graph h = omega (arith, sets_less, look_ups_less)
    where
      sets_less : sum_by (λ set. 1 + length set) (once bytes_eq (sets_read A d)) ≤ sum_by (λ set. 1 + length set) t.sets
      sets_less =
          match_sum (λ (x y : List ℕ). x ≡ y) (λ set. 1 + length set) (λ set. 1 + length set) (once bytes_eq (sets_read A d)) t.sets
          (once_distinct bytes_eq same_bytes bytes_itself (sets_read A d))
          (λ x m. (x, h.sets x (has_once bytes_eq same_bytes bytes_itself (sets_read A d) x m), refl, omega arith)) (λ x z y a b. a ∙ sym b)

      look_ups_less : sum_by (λ r. 1 + look_up_edges A r) (once look_up_same (bytes_read A d)) ≤ look_ups_weight t.graph t.look_ups
      look_ups_less = rw graph
          (match_sum (λ (x y : LookUp). x ≡ y) (λ r. 1 + look_up_edges A r) (λ r. 1 + look_up_edges A r) (once look_up_same (bytes_read A d)) t.look_ups
          (once_distinct look_up_same same_look_up look_up_itself (bytes_read A d))
          (λ r m. (r, h.look_ups r (has_once look_up_same same_look_up look_up_itself (bytes_read A d) r m), refl, omega arith)) (λ x z y a b. a ∙ sym b))
