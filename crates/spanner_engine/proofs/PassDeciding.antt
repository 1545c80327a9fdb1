-- Whether the bytes of a document lead from a state to a state can be told.
use Rattle.std.proofs.Common.{◌≡◌, ℕ, zero, suc, ◌+◌, ◌-◌, List, length, Option, Some, None, inl, inr, refl, sym, arith, ap, ◌∙◌}
use Rattle.std.specs.Prelude.{slice_get, unwrap_or, IsTrue}
use Rattle.std.specs.FinSet as bytes
use Rattle.std.proofs.lemmas.Bool.{cases_eq, cases_lt}
use Rattle.span_core.specs.Lists.{Has}
use Rattle.span_core.proofs.Deciding.{Decided, decide_both}
use Rattle.marked_automaton.specs.declared.way.Way.{Way}
use Rattle.marked_automaton.specs.declared.way.Stop.{Stop}
use Rattle.marked_automaton.specs.Automaton.{Automaton, ByteClass, ReadsByte}
use Rattle.segment_filter.specs.Idling.{IsLed, LeadsOut, Passes}
use Rattle.spanner_engine.proofs.Deciding.{decide_same, decide_some, decide_true}

decide_byte : (d : List ℕ) (i : ℕ) (set : ByteClass) → Decided (ReadsByte d i set)
decide_byte d i set = go (slice_get d i) refl
  where
    here : (b : ℕ) → slice_get d i ≡ Some b → Decided (IsTrue (bytes.contains set b)) → Decided (ReadsByte d i set)
    here b e (inl is) = inl (b, e, is)
    here b e (inr never) = inr (λ h. never (
        let same : h.0 ≡ b = ap (λ (o : Option ℕ). unwrap_or o b) (sym h.1 ∙ e) in
        rw (← same) h.2))

    go : (o : Option ℕ) → slice_get d i ≡ o → Decided (ReadsByte d i set)
    go None e = inr (λ h. absurd (cc (e, h.1)))
    go (Some b) e = here b e (decide_true (bytes.contains set b))

module _ (ways : List Way) (d : List ℕ) where
  pub decide_passes : (n i p q : ℕ) → Decided (Passes ways d i n p q)
  decide_passes zero i p q = elim (cases_eq p q) [ inl e ↦ inl e | inr ne ↦ inr ne ]
  decide_passes (suc n) i p q =
      decide_same
      ((y : Way) × Has ways y × ((y.from ≡ p) × (ReadsByte d i y.bytes × Passes ways d (suc i) n y.to q)))
      (Passes ways d i (suc n) p q)
      (λ h. (h.0, h.1, h.2.0, h.2.1.0, h.2.1.1), λ h. (h.0, h.1, (h.2, (h.3, h.4))))
      (decide_some
      (λ (y : Way). (y.from ≡ p) × (ReadsByte d i y.bytes × Passes ways d (suc i) n y.to q))
      ways
      (λ y has. decide_both
      (y.from ≡ p)
      (ReadsByte d i y.bytes × Passes ways d (suc i) n y.to q)
      (elim (cases_eq y.from p) [ inl e ↦ inl e | inr ne ↦ inr ne ])
      (decide_both (ReadsByte d i y.bytes) (Passes ways d (suc i) n y.to q) (decide_byte d i y.bytes) (decide_passes n (suc i) y.to q))))

module _ (A : Automaton) (d : List ℕ) where
  pub decide_led : (i p : ℕ) → Decided (IsLed A d i p)
  decide_led i p = decide_some (λ (s : ℕ). Passes A.ways d 0 i s p) A.starts (λ s has. decide_passes A.ways d i 0 s p)

  pub decide_out : (i p : ℕ) → Decided (LeadsOut A d i p)
  decide_out i p = elim (cases_lt (length d) i) [
    | inl past ↦ inr (λ h. omega (arith, past, h.2))
    | inr within ↦ decide_same
        ((x : Stop) × Has A.stops x × Passes A.ways d i (length d - i) p x.state)
        (LeadsOut A d i p) (
          λ h. (length d - i, h.0, (let e : i + (length d - i) ≡ length d = omega (arith, within) in e), h.1, h.2),
          λ h. (h.1, h.3, (let e : h.0 ≡ length d - i = omega (arith, h.2) in rw (← e) h.4)),
        )
        (decide_some (λ (x : Stop). Passes A.ways d i (length d - i) p x.state) A.stops (λ x has. decide_passes A.ways d (length d - i) i p x.state))
  ]
