-- The markers of a capture, and the places inside it.
use Rattle.std.proofs.Common.{◌≡◌, ℕ, zero, suc, ◌+◌, ◌*◌, ◌^◌, Bool, true, false, List, [], ◌∷◌, length, Some, inl, inr, refl, sym, ap, ◌∙◌, subst, arith}
use Rattle.std.specs.Prelude.{slice_get, if◌then◌else◌}
use Rattle.std.specs.Str.{bytes_eq}
use Rattle.span_core.specs.Block.{opening_bit, closing_bit}
use Rattle.spanner_model.specs.Captures.{VarName}
use Rattle.span_core.specs.Lists.{Has, AreDistinct}
use Rattle.spanner_model.specs.Tree.{Tree, cap}
use Rattle.span_core.proofs.HasLaws.{Has-slice_get}
use Rattle.place_automaton.specs.Drafts.{places_of, AreNamed}
use Rattle.place_automaton.specs.Sides.{CanCapture, Sides, sides_of, MarkOf}
use Rattle.spanner_model.specs.Sequential.{IsSequential}
use Rattle.marked_automaton.proofs.Erasing.{same_name, name_itself}
use Rattle.place_automaton.specs.Repeats.{HasOrderedRepeats}
use Rattle.place_automaton.specs.Words.{opening_of, closing_of}
use Rattle.place_automaton.proofs.FineLaws.{IsFine, Within, HasClasses, VarBits, mark_apart, fine_places}
use Rattle.place_automaton.proofs.MarkBits.{HasBit, apart_sum, sum_bit, own_apart, behind, opening_is, closing_is}

-- where a name stands tells how many stand behind it
behind_at : (names : List VarName) (k : ℕ) (x : VarName) → AreDistinct names → slice_get names k ≡ Some x → behind names x + suc k ≡ length names
behind_at [] k x dis at = absurd (cc)
behind_at (y ∷ ys) zero x dis at =
    let same : y ≡ x = cc in
    let e : behind (y ∷ ys) x ≡ length ys = ap (λ (b : Bool). if b then length ys else behind ys x) (name_itself y x same) in
    omega (arith, e)
behind_at (y ∷ ys) (suc k) x dis at = go (behind_at ys k x dis.1 at) (bytes_eq y x) refl
  where
    go : behind ys x + suc k ≡ length ys → (b : Bool) → bytes_eq y x ≡ b → behind (y ∷ ys) x + suc (suc k) ≡ suc (length ys)
    go rest true e = absurd (dis.0 (subst (Has ys) (sym (same_name y x e)) (Has-slice_get ys k x at)))
    go rest false e =
        let f : behind (y ∷ ys) x ≡ behind ys x = ap (λ (b : Bool). if b then length ys else behind ys x) e in
        omega (arith, f, rest)

pub opening_at : (names : List VarName) (k : ℕ) (x : VarName) → AreDistinct names → slice_get names k ≡ Some x → 2 ^ opening_bit (length names) k ≡ opening_of names x
opening_at names k x dis at =
    let b = behind_at names k x dis at in
    ap (λ n. 2 ^ n) (let e : opening_bit (length names) k ≡ 2 * behind names x + 1 = omega (arith, b) in e) ∙ sym (opening_is names x (Has-slice_get names k x at))

pub closing_at : (names : List VarName) (k : ℕ) (x : VarName) → AreDistinct names → slice_get names k ≡ Some x → 2 ^ closing_bit (length names) k ≡ closing_of names x
closing_at names k x dis at =
    let b = behind_at names k x dis at in
    ap (λ n. 2 ^ n) (let e : closing_bit (length names) k ≡ 2 * behind names x = omega (arith, b) in e) ∙ sym (closing_is names x (Has-slice_get names k x at))

module _ (names : List VarName) (x : VarName) (f : Tree) (ok : IsSequential (cap x f)) (ord : HasOrderedRepeats f) (cl : HasClasses f)
    (vars : AreNamed names (cap x f)) (k : ℕ) (E : Sides) (is : E ≡ sides_of (places_of names f k)) where
  abbrev o : ℕ
  o = opening_of names x

  abbrev c : ℕ
  c = closing_of names x

  has : Has names x
  has = vars x (inl refl)

  inside : AreNamed names f
  inside y h = vars y (inr h)

  fine : IsFine (VarBits names f) (places_of names f k)
  fine = fine_places names f ok.0 ord cl inside k

  marks : (m : ℕ) → MarkOf E m → Within (VarBits names f) m
  marks m h = go (rw is at h)
    where
      go : MarkOf (sides_of (places_of names f k)) m → Within (VarBits names f) m
      go (inl h) = fine.nulls m h
      go (inr (inl h)) = subst (Within (VarBits names f)) h.2 (fine.firsts h.0 h.1)
      go (inr (inr h)) = subst (Within (VarBits names f)) h.2 (fine.lasts h.0 h.1)

  open_apart : (i : ℕ) → HasBit o i → VarBits names f i → ⊥
  open_apart = mark_apart names x f o has inside ok.1 (λ i b. inl b)

  close_apart : (i : ℕ) → HasBit c i → VarBits names f i → ⊥
  close_apart = mark_apart names x f c has inside ok.1 (λ i b. inr b)

  pub can_capture : CanCapture o c E
  can_capture = record {
    apart = apart_sum o c (own_apart names x has);
    null = λ m h. apart_sum (o + c) m (λ i a b. elim (sum_bit o c i (own_apart names x has) a) [
      | inl p ↦ open_apart i p (marks m (inl h) i b)
      | inr q ↦ close_apart i q (marks m (inl h) i b)
    ]);
    first = λ m h. apart_sum o m (λ i a b. open_apart i a (marks m h i b));
    last = λ m h. apart_sum m c (λ i a b. close_apart i b (marks m h i a));
  }
