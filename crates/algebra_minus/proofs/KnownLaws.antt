-- Ways that lead where others do, and bytes that are noted to lead to a state.
use Rattle.std.proofs.Common.{◌≡◌, ℕ, zero, suc, ◌<◌, ◌⊎◌, List, [], ◌∷◌, ◌++◌, length, get_or, Some, inl, inr, refl, sym, ap, ◌∙◌, arith}
use Rattle.std.specs.Prelude.{slice_get, slice_set}
use Rattle.std.specs.FinSet as set
use Rattle.span_core.proofs.HasLaws.{Has-append_cases, Has-append_left, Has-append_right}
use Rattle.span_core.proofs.ListLaws.{either_part}
use Rattle.marked_automaton.specs.declared.way.Way.{Way}
use Rattle.marked_automaton.specs.Automaton.{ByteClass, HasByte}
use Rattle.marked_automaton.proofs.Listed.{some_same}
use Rattle.algebra.proofs.Bytes.{meet_right}
use Rattle.algebra_minus.specs.Pieces.{AreKnown, ArePieces, IsKnown, LeadAlike, SomeWayLeads}
use Rattle.algebra_minus.specs.declared.pieces.Piece.{Piece}
use Rattle.algebra_minus.proofs.PartitionLaws.{in_union_cases}
use Rattle.algebra_minus.proofs.PieceLaws.{in_or_out, no_byte}

-- ---- ways that lead alike

leads_more : (xs ys : List Way) (z : Way) (c t : ℕ) → (SomeWayLeads xs c t → SomeWayLeads ys c t) → SomeWayLeads (xs ++ z ∷ []) c t → SomeWayLeads (ys ++ z ∷ []) c t
leads_more xs ys z c t f w = elim (Has-append_cases xs (z ∷ []) w.0 w.1) as (λ _. SomeWayLeads (ys ++ z ∷ []) c t) [
  | inl i ↦ let v = f (w.0, i, w.2, w.3) in (v.0, Has-append_left ys (z ∷ []) v.0 v.1, v.2, v.3)
  | inr j ↦ (w.0, Has-append_right ys (z ∷ []) w.0 j, w.2, w.3)
]

pub alike_more : (xs ys : List Way) (z : Way) → LeadAlike xs ys → LeadAlike (xs ++ z ∷ []) (ys ++ z ∷ [])
alike_more xs ys z a c t = (leads_more xs ys z c t (a c t).0, leads_more ys xs z c t (a c t).1)

pub alike_same : (xs : List Way) → LeadAlike xs xs
alike_same xs c t = (λ w. w, λ w. w)

pub alike_then : (xs ys zs : List Way) → LeadAlike xs ys → LeadAlike ys zs → LeadAlike xs zs
alike_then xs ys zs a b c t = (λ w. (b c t).0 ((a c t).0 w), λ w. (a c t).1 ((b c t).1 w))

leads_both : (xs ys zs : List Way) (c t : ℕ) → (SomeWayLeads xs c t → SomeWayLeads ys c t) → SomeWayLeads (xs ++ zs) c t → SomeWayLeads (ys ++ zs) c t
leads_both xs ys zs c t f w = elim (Has-append_cases xs zs w.0 w.1) as (λ _. SomeWayLeads (ys ++ zs) c t) [
  | inl i ↦ let v = f (w.0, i, w.2, w.3) in (v.0, Has-append_left ys zs v.0 v.1, v.2, v.3)
  | inr j ↦ (w.0, Has-append_right ys zs w.0 j, w.2, w.3)
]

-- and others behind them
pub alike_both : (xs ys zs : List Way) → LeadAlike xs ys → LeadAlike (xs ++ zs) (ys ++ zs)
alike_both xs ys zs a c t = (leads_both xs ys zs c t (a c t).0, leads_both ys xs zs c t (a c t).1)

-- a way that leads where is known
pub alike_known : (known : List ByteClass) (xs : List Way) (z : Way) → AreKnown known xs → ((c : ℕ) → HasByte z.bytes c → IsKnown known z.to c) → LeadAlike xs (xs ++ z ∷ [])
alike_known known xs z are f c t = (
  λ w. (w.0, Has-append_left xs (z ∷ []) w.0 w.1, w.2, w.3),
  λ w. elim (Has-append_cases xs (z ∷ []) w.0 w.1) as (λ _. SomeWayLeads xs c t) [
    | inl i ↦ (w.0, i, w.2, w.3)
    | inr j ↦ elim j as (λ _. SomeWayLeads xs c t) [
      | inl e ↦ rw (← (ap (λ (y : Way). y.to) e ∙ w.3)) (are z.to c (f c (rw e w.2)))
      | inr n ↦ absurd n
    ]
  ],
)

-- pieces by ways that lead alike
pub pieces_alike : (bytes : ByteClass) (xs ys : List Way) (pieces : List Piece) → LeadAlike xs ys → ArePieces bytes xs pieces → ArePieces bytes ys pieces
pieces_alike bytes xs ys pieces a p = record {
  cover = p.cover;
  lead = λ q c t h b. (λ k. (a c t).0 ((p.lead q c t h b).0 k), λ w. (p.lead q c t h b).1 ((a c t).1 w));
}

-- ---- what is noted

put_cases : {X : Type 0} (xs : List X) (i t : ℕ) (v s : X) → slice_get (slice_set xs i v) t ≡ Some s → ((t ≡ i) × (s ≡ v)) ⊎ (slice_get xs t ≡ Some s)
put_cases [] i t v s e = inr e
put_cases (x ∷ xs) zero zero v s e = inl (refl, sym (some_same v s e))
put_cases (x ∷ xs) zero (suc t) v s e = inr e
put_cases (x ∷ xs) (suc i) zero v s e = inr e
put_cases {X = X} (x ∷ xs) (suc i) (suc t) v s e = elim (put_cases xs i t v s e) as (λ _. ((suc t ≡ suc i) × (s ≡ v)) ⊎ (slice_get xs t ≡ Some s)) [
  | inl p ↦ inl (ap suc p.0, p.1)
  | inr q ↦ inr q
]

pub known_put : (known : List ByteClass) (to : ℕ) (b new bytes : ByteClass) (t c : ℕ) → slice_get known to ≡ Some b → new ≡ set.union b bytes →
    IsKnown (slice_set known to new) t c → IsKnown known t c ⊎ (HasByte bytes c × (to ≡ t))
known_put known to b new bytes t c at is h = elim (put_cases known to t new h.0 h.1) as (λ _. IsKnown known t c ⊎ (HasByte bytes c × (to ≡ t))) [
  | inl p ↦ elim (in_union_cases b bytes c (rw (← p.1 ∙ is) h.2)) as (λ _. IsKnown known t c ⊎ (HasByte bytes c × (to ≡ t))) [
    | inl i ↦ inl (b, ap (slice_get known) p.0 ∙ at, i)
    | inr j ↦ inr (j, sym p.0)
  ]
  | inr q ↦ inl (h.0, q, h.2)
]

pub all_known : (known : List ByteClass) (to : ℕ) (b bytes : ByteClass) → slice_get known to ≡ Some b → set.difference bytes b ≡ set.empty → (c : ℕ) → HasByte bytes c → IsKnown known to c
all_known known to b bytes at none c h = (
  b,
  at,
  elim (in_or_out bytes b c h) as (λ _. HasByte b c) [
    | inl m ↦ meet_right bytes b c m
    | inr d ↦ absurd (no_byte c (rw (← none) d))
  ],
)

only_at : (e : ByteClass) (j : ℕ) (s : ByteClass) → slice_get (e ∷ []) j ≡ Some s → s ≡ e
only_at e zero s h = sym (some_same e s h)
only_at e (suc j) s h = absurd (cc)

-- nothing is noted by an empty set
pub known_pushed : (xs : List ByteClass) (e : ByteClass) (t c : ℕ) → e ≡ set.empty → IsKnown (xs ++ e ∷ []) t c → IsKnown xs t c
known_pushed xs e t c none h = elim (either_part xs (e ∷ []) t h.0 h.1) as (λ _. IsKnown xs t c) [
  | inl a ↦ (h.0, a, h.2)
  | inr b ↦ absurd (no_byte c (rw (← only_at e b.0 h.0 b.1 ∙ none) h.2))
]

pub get_at : {X : Type 0} (xs : List X) (i : ℕ) (d : X) → i < length xs → slice_get xs i ≡ Some (get_or xs i d)
get_at [] i d h = absurd (omega (arith, h))
get_at (x ∷ xs) zero d h = refl
get_at (x ∷ xs) (suc i) d h = get_at xs i d (omega (arith, h))
