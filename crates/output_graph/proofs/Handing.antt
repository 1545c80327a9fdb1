-- What a head has after the newest cell is taken.
use Rattle.std.proofs.Common.{◌≡◌, ℕ, ◌<◌, Bool, true, false, List, ◌∷◌, ◌++◌, map, Option, Some, None, inl, inr, refl, sym, ap, ◌∙◌, subst, arith, if◌then◌else◌, nat_eq, eq-eqb, eqb-true}
use Rattle.std.proofs.lemmas.Bool.{eqb-false, true≢false}
use Rattle.span_core.specs.Lists.{Has}
use Rattle.node_arena.specs.Words.{Word}
use Rattle.node_arena.specs.Cells.{NamedLink}
use Rattle.output_graph.specs.Order.{LeadsBefore, AreInOrder}
use Rattle.output_graph.specs.Grown.{Closes}
use Rattle.output_graph.specs.Turn.{names, handed}
use Rattle.span_core.proofs.HasLaws.{Has-append_left, Has-append_right, Has-append_cases, Has-map, Has-map_cases}
use Rattle.output_graph.proofs.OrderLemmas.{before_by_lead, in_order_map, in_order_append}

pub names_true : (o : Option ℕ) (c : ℕ) → names o c ≡ true → o ≡ Some c
names_true None c e = absurd (true≢false (sym e))
names_true (Some d) c e = ap Some (eqb-true d c e)

pub names_false : (o : Option ℕ) (c : ℕ) → names o c ≡ false → o ≡ Some c → ⊥
names_false o c e is =
    let t : names o c ≡ true = subst (λ o'. names o' c ≡ true) (sym is) (eq-eqb c c refl) in
    true≢false (sym t ∙ e)

pub data Source (l : NamedLink) (rows : List Word) (c : ℕ) (old : List Word) (s : Word) : Type 0 where
  by_also : l.also ≡ Some c → Has rows s → Source l rows c old s
  by_from : l.from ≡ Some c → l.marks ≡ 0 → Has rows s → Source l rows c old s
  by_marks : l.from ≡ Some c → 0 < l.marks → (t : Word) → Has rows t → (l.at, l.marks) ∷ t ≡ s → Source l rows c old s
  kept : Has old s → Source l rows c old s

module _ (l : NamedLink) (rows : List Word) (c : ℕ) (old : List Word) where
  picked : Bool → Bool → Bool → List Word
  picked a f z = if a then rows else if f then (if z then rows else map (λ w. (l.at, l.marks) ∷ w) rows ++ old) else old

  marked : nat_eq l.marks 0 ≡ false → 0 < l.marks
  marked e = let ne : l.marks ≡ 0 → ⊥ = eqb-false l.marks 0 e in grind arith

  source_by : (a f z : Bool) (s : Word) → names l.also c ≡ a → names l.from c ≡ f → nat_eq l.marks 0 ≡ z →
      Has (picked a f z) s → Source l rows c old s
  unfolding picked
  source_by true f z s ea ef ez h = by_also (names_true l.also c ea) h
  source_by false true true s ea ef ez h = by_from (names_true l.from c ef) (eqb-true l.marks 0 ez) h
  source_by false true false s ea ef ez h =
      elim (Has-append_cases (map (λ (w : Word). (l.at, l.marks) ∷ w) rows) old s h) as (λ _. Source l rows c old s) [
        | inl b ↦
            let r = Has-map_cases (λ (w : Word). (l.at, l.marks) ∷ w) rows s b in
            by_marks (names_true l.from c ef) (marked ez) r.0 r.1 r.2
        | inr b ↦ kept b
      ]
  source_by false false z s ea ef ez h = kept h

  pub source_of : (s : Word) → Has (handed l rows c old) s → Source l rows c old s
  unfolding picked
  source_of s h = source_by (names l.also c) (names l.from c) (nat_eq l.marks 0) s refl refl refl h

  keeps_by : (a f z : Bool) (s : Word) → names l.also c ≡ a → names l.from c ≡ f → nat_eq l.marks 0 ≡ z →
      (Closes l c → ⊥) → Has old s → Has (picked a f z) s
  unfolding picked
  keeps_by true f z s ea ef ez no_close h = absurd (no_close (inr (names_true l.also c ea)))
  keeps_by false true true s ea ef ez no_close h = absurd (no_close (inl (eqb-true l.marks 0 ez, names_true l.from c ef)))
  keeps_by false true false s ea ef ez no_close h = Has-append_right (map (λ (w : Word). (l.at, l.marks) ∷ w) rows) old s h
  keeps_by false false z s ea ef ez no_close h = h

  pub keeps : (s : Word) → (Closes l c → ⊥) → Has old s → Has (handed l rows c old) s
  unfolding picked
  keeps s no_close h = keeps_by (names l.also c) (names l.from c) (nat_eq l.marks 0) s refl refl refl no_close h

  also_by : (a f z : Bool) (s : Word) → names l.also c ≡ a → l.also ≡ Some c → Has rows s → Has (picked a f z) s
  unfolding picked
  also_by true f z s ea is h = h
  also_by false f z s ea is h = absurd (names_false l.also c ea is)

  pub hands_also : (s : Word) → l.also ≡ Some c → Has rows s → Has (handed l rows c old) s
  unfolding picked
  hands_also s is h = also_by (names l.also c) (names l.from c) (nat_eq l.marks 0) s refl is h

  from_by : (a f z : Bool) (s : Word) → names l.also c ≡ a → names l.from c ≡ f → nat_eq l.marks 0 ≡ z →
      l.from ≡ Some c → (l.also ≡ Some c → ⊥) → l.marks ≡ 0 → Has rows s → Has (picked a f z) s
  unfolding picked
  from_by true f z s ea ef ez is apart none h = absurd (apart (names_true l.also c ea))
  from_by false true true s ea ef ez is apart none h = h
  from_by false true false s ea ef ez is apart none h = absurd (eqb-false l.marks 0 ez none)
  from_by false false z s ea ef ez is apart none h = absurd (names_false l.from c ef is)

  pub hands_from : (s : Word) → l.from ≡ Some c → (l.also ≡ Some c → ⊥) → l.marks ≡ 0 → Has rows s → Has (handed l rows c old) s
  unfolding picked
  hands_from s is apart none h = from_by (names l.also c) (names l.from c) (nat_eq l.marks 0) s refl refl refl is apart none h

  marks_by : (a f z : Bool) (t : Word) → names l.also c ≡ a → names l.from c ≡ f → nat_eq l.marks 0 ≡ z →
      l.from ≡ Some c → (l.also ≡ Some c → ⊥) → 0 < l.marks → Has rows t → Has (picked a f z) ((l.at, l.marks) ∷ t)
  unfolding picked
  marks_by true f z t ea ef ez is apart some h = absurd (apart (names_true l.also c ea))
  marks_by false true true t ea ef ez is apart some h = let none = eqb-true l.marks 0 ez in absurd (omega arith)
  marks_by false true false t ea ef ez is apart some h =
      Has-append_left (map (λ (w : Word). (l.at, l.marks) ∷ w) rows) old ((l.at, l.marks) ∷ t) (Has-map (λ (w : Word). (l.at, l.marks) ∷ w) rows t h)
  marks_by false false z t ea ef ez is apart some h = absurd (names_false l.from c ef is)

  pub hands_marks : (t : Word) → l.from ≡ Some c → (l.also ≡ Some c → ⊥) → 0 < l.marks → Has rows t → Has (handed l rows c old) ((l.at, l.marks) ∷ t)
  unfolding picked
  hands_marks t is apart some h = marks_by (names l.also c) (names l.from c) (nat_eq l.marks 0) t refl refl refl is apart some h

  order_by : (a f z : Bool) → names l.from c ≡ f → nat_eq l.marks 0 ≡ z → AreInOrder rows → AreInOrder old →
      (l.from ≡ Some c → 0 < l.marks → (s : Word) → Has old s → LeadsBefore (l.at, l.marks) s) → AreInOrder (picked a f z)
  unfolding picked
  order_by true f z ef ez hr ho lead = hr
  order_by false true true ef ez hr ho lead = hr
  order_by false true false ef ez hr ho lead =
      in_order_append (map (λ (w : Word). (l.at, l.marks) ∷ w) rows) old (in_order_map (l.at, l.marks) rows hr) ho
      (λ x y hx hy.
      let r = Has-map_cases (λ (w : Word). (l.at, l.marks) ∷ w) rows x hx in
      subst (λ x'. Rattle.output_graph.specs.Order.Before x' y) r.2 (before_by_lead (l.at, l.marks) r.0 y (lead (names_true l.from c ef) (marked ez) y hy)))
  order_by false false z ef ez hr ho lead = ho

  pub handed_in_order : AreInOrder rows → AreInOrder old →
      (l.from ≡ Some c → 0 < l.marks → (s : Word) → Has old s → LeadsBefore (l.at, l.marks) s) → AreInOrder (handed l rows c old)
  unfolding picked
  handed_in_order hr ho lead = order_by (names l.also c) (names l.from c) (nat_eq l.marks 0) refl refl hr ho lead

  same_by : (a f z : Bool) → names l.also c ≡ a → names l.from c ≡ f → (l.from ≡ Some c → ⊥) → (l.also ≡ Some c → ⊥) → picked a f z ≡ old
  unfolding picked
  same_by true f z ea ef nf na = absurd (na (names_true l.also c ea))
  same_by false true z ea ef nf na = absurd (nf (names_true l.from c ef))
  same_by false false z ea ef nf na = refl

  pub handed_same : (l.from ≡ Some c → ⊥) → (l.also ≡ Some c → ⊥) → handed l rows c old ≡ old
  unfolding picked
  handed_same nf na = same_by (names l.also c) (names l.from c) (nat_eq l.marks 0) refl refl nf na
