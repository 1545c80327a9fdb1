-- Bytes on which ways without marks lead to flagged states, and what is left of the flags by them.
use Rattle.std.proofs.Common.{◌≡◌, ℕ, zero, suc, ◌+◌, ◌<◌, ◌↔◌, Bool, true, false, not, ◌&&◌, ◌||◌, IsTrue, List, [], ◌∷◌, length, get_or, take, replicate, inl, inr, refl, sym, ap, subst, arith, ◌∙◌}
use Rattle.std.proofs.Math.ListN.{set as put}
use Rattle.std.specs.Cmp.{nat_cmp_total}
use Rattle.std.specs.FinSet as bytes
use Rattle.std.specs.FinSet.{contains, contains-difference, contains-empty, contains-union}
use Rattle.std.proofs.lemmas.Bool.{cases_eq, cases_lt, false≢true, or_cases}
use Rattle.std.proofs.lemmas.List.{get_or_default, get_or-set_other, get_or-set_same}
use Rattle.span_core.specs.ByteSets.{bytes_between}
use Rattle.span_core.specs.Lists.{Has}
use Rattle.span_core.proofs.ByteSetLaws.{all_contain, all_past, same_bytes}
use Rattle.span_core.proofs.HasLaws.{Has-take_more_before, Has-take_more_cases, Has-take_more_here}
use Rattle.marked_automaton.specs.Accepting.{Gathers}
use Rattle.marked_automaton.specs.Automaton.{Automaton, ByteClass, HasByte}
use Rattle.marked_automaton.specs.Reach.{IsFlagged}
use Rattle.marked_automaton.specs.Trimmed.{count_set}
use Rattle.marked_automaton.specs.declared.way.Stop.{Stop}
use Rattle.marked_automaton.specs.declared.way.Way.{Way}
use Rattle.marked_automaton.proofs.Passing.{or_left, or_right}
use Rattle.settled_states.specs.Covering.{AreBytesInto, HasEachByte, IsUncovered, LeadsInto, LeadsPlainly}
use Rattle.settled_states.specs.States.{AreLasting, Told}

-- ---- sets of bytes

-- a set outside of which there is no byte has each
pub has_each : (s rest : ByteClass) → rest ≡ bytes.difference (bytes_between 0 255) s → rest ≡ bytes.empty → HasEachByte s
has_each s rest is none b less = go (contains s b) outside
  where
    outside : not (contains s b) ≡ false
    outside =
        ap (λ x. x && not (contains s b)) (sym (all_contain b (omega (arith, less))))
        ∙ (sym (contains-difference nat_cmp_total (bytes_between 0 255) s b) ∙ (ap (λ t. contains t b) (sym is ∙ none) ∙ contains-empty _ b))

    go : (x : Bool) → not x ≡ false → x ≡ true
    go true e = refl
    go false e = absurd (false≢true (sym e))

-- and one that has each has none outside
pub none_outside : (s rest : ByteClass) → rest ≡ bytes.difference (bytes_between 0 255) s → HasEachByte s → rest ≡ bytes.empty
none_outside s rest is each =
    is ∙ same_bytes (bytes.difference (bytes_between 0 255) s) bytes.empty (λ q. contains-difference nat_cmp_total (bytes_between 0 255) s q ∙ (by q ∙ sym (contains-empty _ q)))
  where
    by : (q : ℕ) → (contains (bytes_between 0 255) q && not (contains s q)) ≡ false
    by q = elim (cases_lt q 256) [
      | inl less ↦ ap (λ x. contains (bytes_between 0 255) q && not x) (each q less) ∙ ap (λ x. x && false) (all_contain q (omega (arith, less)))
      | inr more ↦ ap (λ x. x && not (contains s q)) (all_past q (omega (arith, more)))
    ]

-- ---- one way more

abbrev pub no_bytes : ByteClass
no_bytes = bytes.empty

module _ (good : List Bool) where
  pub into_none : (count : ℕ) (ways : List Way) (sets : List ByteClass) → sets ≡ replicate count bytes.empty → AreBytesInto (take 0 ways) good sets
  into_none count ways sets is q b = ((λ h. absurd (false≢true (sym (contains-empty _ b) ∙ subst (λ s. HasByte s b) (ap (λ xs. get_or xs q bytes.empty) is ∙ empties count q) h))), (λ h. absurd h.1))
    where
      empties : (n q : ℕ) → get_or (replicate n no_bytes) q no_bytes ≡ no_bytes
      empties zero q = refl
      empties (suc n) zero = refl
      empties (suc n) (suc q) = empties n q

  module _ (ways : List Way) (i : ℕ) (y : Way) (within : i < length ways) (at : y ≡ get_or ways i y) (sets : List ByteClass) (so_far : AreBytesInto (take i ways) good sets) where
    pub into_kept : (LeadsPlainly good y → ⊥) → AreBytesInto (take (i + 1) ways) good sets
    into_kept not q b = (
      (λ h. let r = (so_far q b).0 h in (r.0, Has-take_more_before ways i r.0 within r.1, r.2, r.3, r.4)),
      (λ h. elim (Has-take_more_cases ways i y h.0 within h.1) [
        | inl a ↦ (so_far q b).1 (h.0, a, h.2, h.3, h.4)
        | inr e ↦ absurd (not (subst (LeadsPlainly good) (sym (at ∙ e)) h.3))
      ]),
    )

    pub into_more : (old new : ByteClass) → y.from < length sets → LeadsPlainly good y → old ≡ get_or sets y.from old → new ≡ bytes.union old y.bytes →
        AreBytesInto (take (i + 1) ways) good (put sets y.from new)
    into_more old new inside plain was is q b =
        elim (cases_eq q y.from) [
          | inl e ↦
              let read : get_or (put sets y.from new) q bytes.empty ≡ new = ap (λ k. get_or (put sets y.from new) k bytes.empty) e ∙ get_or-set_same sets y.from new bytes.empty inside in
              let before : get_or sets q bytes.empty ≡ old = ap (λ k. get_or sets k bytes.empty) e ∙ (get_or_default sets y.from bytes.empty old inside ∙ sym was) in
              let joined : contains new b ≡ (contains old b || contains y.bytes b) = ap (λ s. contains s b) is ∙ contains-union nat_cmp_total old y.bytes b in (
                (λ h. elim (or_cases (contains old b) (contains y.bytes b) (sym joined ∙ subst (λ s. HasByte s b) read h)) [
                  | inl a ↦ let r = (so_far q b).0 (subst (λ s. HasByte s b) (sym before) a) in (r.0, Has-take_more_before ways i r.0 within r.1, r.2, r.3, r.4)
                  | inr byte ↦ (y, Has-take_more_here ways i y y within (sym at), sym e, plain, byte)
                ]),
                (λ h. subst (λ s. HasByte s b) (sym read) (joined ∙ elim (Has-take_more_cases ways i y h.0 within h.1) [
                  | inl a ↦ or_left (contains old b) (contains y.bytes b) (subst (λ s. HasByte s b) before ((so_far q b).1 (h.0, a, h.2, h.3, h.4)))
                  | inr f ↦ or_right (contains old b) (contains y.bytes b) (subst (λ (z : Way). HasByte z.bytes b) (sym (at ∙ f)) h.4)
                ])),
              )
          | inr ne ↦
              let same : get_or (put sets y.from new) q bytes.empty ≡ get_or sets q bytes.empty = get_or-set_other sets y.from q new bytes.empty ne in (
                (λ h. let r = (so_far q b).0 (subst (λ s. HasByte s b) same h) in (r.0, Has-take_more_before ways i r.0 within r.1, r.2, r.3, r.4)),
                (λ h. subst (λ s. HasByte s b) (sym same) (elim (Has-take_more_cases ways i y h.0 within h.1) [
                  | inl a ↦ (so_far q b).1 (h.0, a, h.2, h.3, h.4)
                  | inr f ↦ absurd (ne (sym h.2 ∙ sym (ap (λ (z : Way). z.from) (at ∙ f))))
                ])),
              )
        ]

-- ---- some states left out

module _ (sets : List ByteClass) (k : ℕ) (old new : List Bool) (flag : Bool) (at : IsFlagged new k ↔ IsTrue flag)
    (so_far : (q : ℕ) → IsFlagged new q ↔ (IsFlagged old q × (q < k → HasEachByte (get_or sets q no_bytes)))) where
  -- one state is left out
  pub left_out : IsUncovered flag (get_or sets k no_bytes) → (q : ℕ) → IsFlagged (put new k false) q ↔ (IsFlagged old q × (q < k + 1 → HasEachByte (get_or sets q no_bytes)))
  left_out un q = elim (cases_eq q k) [
    | inl e ↦ (
      (λ h. absurd (false≢true (sym (unset_here new k) ∙ subst (IsFlagged (put new k false)) e h))),
      (λ h. absurd (un.lacks (subst (λ i. HasEachByte (get_or sets i no_bytes)) e (h.1 (omega (arith, e)))))),
    )
    | inr ne ↦
        let same : get_or (put new k false) q false ≡ get_or new q false = get_or-set_other new k q false false ne in (
          (λ h. let r = (so_far q).0 (sym same ∙ h) in (r.0, λ l. r.1 (omega (arith, l, ne)))),
          (λ h. same ∙ (so_far q).1 (h.0, λ l. h.1 (omega (arith, l)))),
        )
  ]
    where
      unset_here : (flags : List Bool) (i : ℕ) → get_or (put flags i false) i false ≡ false
      unset_here [] i = refl
      unset_here (b ∷ flags) zero = refl
      unset_here (b ∷ flags) (suc i) = unset_here flags i

  -- a state stays as it was
  pub left_as_it_was : (IsTrue flag → HasEachByte (get_or sets k no_bytes)) → (q : ℕ) → IsFlagged new q ↔ (IsFlagged old q × (q < k + 1 → HasEachByte (get_or sets q no_bytes)))
  left_as_it_was each q = (
    (λ h.
        let r = (so_far q).0 h in (
          r.0,
          (λ l. elim (cases_eq q k) [
            | inl e ↦ subst (λ i. HasEachByte (get_or sets i no_bytes)) (sym e) (each (at.0 (subst (IsFlagged new) e h)))
            | inr ne ↦ r.1 (omega (arith, l, ne))
          ]),
        )),
    (λ h. (so_far q).1 (h.0, λ l. h.1 (omega (arith, l)))),
  )

pub fewer_set : (flags : List Bool) (k : ℕ) → IsFlagged flags k → count_set (put flags k false) < count_set flags
fewer_set [] k h = absurd (false≢true h)
fewer_set (true ∷ flags) zero h = omega arith
fewer_set (false ∷ flags) zero h = absurd (false≢true h)
fewer_set (b ∷ flags) (suc k) h = let rest = fewer_set flags k h in omega (arith, rest)

-- one flag fewer, than when some or none were left out
pub fewer_then : (old flags new : List Bool) (some : Bool) → (some ≡ false → flags ≡ old) → (some ≡ true → count_set flags < count_set old) → count_set new < count_set flags →
    count_set new < count_set old
fewer_then old flags new true same fewer less = let before = fewer refl in omega (arith, before, less)
fewer_then old flags new false same fewer less = subst (λ xs. count_set new < count_set xs) (same refl) less

-- a set that has each byte is that of a state from which, on each byte, a way leads
pub covers : (ways : List Way) (good : List Bool) (sets : List ByteClass) → AreBytesInto ways good sets → (q : ℕ) → HasEachByte (get_or sets q no_bytes) ↔ LeadsInto ways (IsFlagged good) q
covers ways good sets into q = (
  (λ h b less. let y = (into q b).0 (h b less) in (y.0, y.1, y.2, y.4, y.3.marks, y.3.good)),
  (λ h b less. let y = h b less in (into q b).1 (y.0, y.1, y.2, record { marks = y.4; good = y.5 }, y.3)),
)

-- ---- rounds

-- a lasting set is among these, and they have ends without marks
pub record BoundsLasting (A : Automaton) (flags : List Bool) : Type 0 where
  pub ends : (q : ℕ) → IsFlagged flags q → (x : Stop) × Has A.stops x × (x.state ≡ q) × (x.marks ≡ 0)
  pub largest : (y : ℕ → Bool) → AreLasting A (Told y) → (q : ℕ) → Told y q → IsFlagged flags q

module _ (A : Automaton) where
  pub bounds_first : (flags : List Bool) → Gathers (λ (x : Stop). x.marks ≡ 0) (λ (x : Stop). x.state) A.stops flags → BoundsLasting A flags
  bounds_first flags gathers = record { ends = λ q h. (gathers q).0 h; largest = λ y lasting q h. (gathers q).1 (lasting.ends q h) }

  module _ (old new : List Bool) (bounds : BoundsLasting A old) (kept : (q : ℕ) → IsFlagged new q ↔ (IsFlagged old q × LeadsInto A.ways (IsFlagged old) q)) where
    pub bounds_next : BoundsLasting A new
    bounds_next = record {
      ends = λ q h. bounds.ends q ((kept q).0 h).0;
      largest = λ y lasting q h. (kept q).1 (
        bounds.largest y lasting q h,
        λ b less. let z = lasting.ways q b h less in (z.0, z.1, z.2, z.3, z.4, bounds.largest y lasting z.0.to z.5),
      );
    }

    pub lasting_same : new ≡ old → AreLasting A (IsFlagged new)
    lasting_same same = record {
      ways = λ q b h less. let z = ((kept q).0 h).1 b less in (z.0, z.1, z.2, z.3, z.4, subst (λ flags. IsFlagged flags z.0.to) (sym same) z.5);
      ends = λ q h. bounds.ends q ((kept q).0 h).0;
    }
