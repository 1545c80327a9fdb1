-- Walks: joined, taken by other lists of ways, and cut at the first way that crosses.
use Rattle.std.proofs.Common.{◌≡◌, ℕ, zero, suc, ◌+◌, ◌⊎◌, List, inl, inr, sym, ap, subst, arith, ◌∙◌}
use Rattle.span_core.specs.Lists.{Has}
use Rattle.marked_automaton.specs.declared.way.Way.{Way}
use Rattle.marked_automaton.specs.declared.way.Stop.{Stop}
use Rattle.marked_automaton.specs.Automaton.{ReadsByte, Walk}
use Rattle.place_automaton.specs.declared.fragment.Entry.{Entry}
use Rattle.place_automaton.specs.Places.{way_into}

-- the first way that crosses from an end to an entry: n1 ways before it, n2 after it
abbrev pub Crosses : List Way → List Way → List Stop → List Entry → List ℕ → (ℕ → ℕ) → ℕ → ℕ → ℕ → ℕ → Type 0
Crosses before after last first d w i n p q =
    (n1 : ℕ) × (n2 : ℕ) × (s : Stop) × (e : Entry) × (n ≡ n1 + suc n2) × Has last s × Has first e
    × (s.marks + e.marks ≡ w (i + n1)) × ReadsByte d (i + n1) e.bytes
    × Walk before d w i n1 p s.state × Walk after d w (suc (i + n1)) n2 e.to q

-- a way of the whole is a way of the part, or crosses
abbrev pub IsSplit : List Way → List Way → List Stop → List Entry → (ℕ → Type 0) → Type 0
IsSplit part whole last first I =
    (y : Way) → Has whole y → I y.from →
    (Has part y × I y.to) ⊎ ((s : Stop) × (e : Entry) × Has last s × Has first e × (way_into s e ≡ y))

pub first_cross : (part whole : List Way) (last : List Stop) (first : List Entry) (I : ℕ → Type 0) (d : List ℕ) (w : ℕ → ℕ) →
    IsSplit part whole last first I → (n i p q : ℕ) → I p → Walk whole d w i n p q →
    (Walk part d w i n p q × I q) ⊎ Crosses part whole last first d w i n p q
first_cross part whole last first I d w split zero i p q at h = inl (h, subst I h at)
first_cross part whole last first I d w split (suc n) i p q at h =
    elim (split h.0 h.1 (subst I (sym h.2) at)) [
      | inl a ↦ go (first_cross part whole last first I d w split n (suc i) h.0.to q a.1 h.5) a.0
      | inr c ↦ inr (crossing c)
    ]
  where
    go : (Walk part d w (suc i) n h.0.to q × I q) ⊎ Crosses part whole last first d w (suc i) n h.0.to q →
        Has part h.0 → (Walk part d w i (suc n) p q × I q) ⊎ Crosses part whole last first d w i (suc n) p q
    go (inl r) a = inl ((h.0, a, h.2, h.3, h.4, r.0), r.1)
    go (inr r) a =
        let f : suc i + r.0 ≡ i + suc r.0 = omega arith in
        inr (
          suc r.0,
          r.1,
          r.2,
          r.3,
          omega (arith, r.4),
          r.5,
          r.6,
          r.7 ∙ ap w f,
          rw (← f) r.8,
          (h.0, a, h.2, h.3, h.4, r.9),
          rw (← f) r.10,
        )

    crossing : (s : Stop) × (e : Entry) × Has last s × Has first e × (way_into s e ≡ h.0) → Crosses part whole last first d w i (suc n) p q
    crossing c =
        let f : i ≡ i + 0 = omega arith in (
          0,
          n,
          c.0,
          c.1,
          omega arith,
          c.2,
          c.3,
          (ap (λ (y : Way). y.marks) c.4 ∙ h.3) ∙ ap w f,
          rw f at (rw (← c.4) at h.4),
          sym (ap (λ (y : Way). y.from) c.4 ∙ h.2),
          rw f at (rw (← c.4) at h.5),
        )
