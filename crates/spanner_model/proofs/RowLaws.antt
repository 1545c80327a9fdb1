-- Rows, and the mappings that they stand for.
use Rattle.std.proofs.Common.{◌≡◌, ℕ, zero, suc, Bool, true, false, List, [], ◌∷◌, length, Option, Some, None, inl, inr, refl, ap, subst, sym, ◌∙◌}
use Rattle.std.specs.Prelude.{slice_get, if◌then◌else◌}
use Rattle.std.specs.Str.{bytes_eq}
use Rattle.std.proofs.lemmas.Slice.Eq.{bytes_eq-Decides}
use Rattle.span_core.specs.declared.span.Span.{Span}
use Rattle.span_core.specs.Lists.{Has, AreDistinct}
use Rattle.span_core.proofs.HasLaws.{Has-slice_get}
use Rattle.spanner_model.specs.Captures.{VarName, Mapping, row_of, mapping_of}
use Rattle.spanner_model.specs.Answers.{SpanRow}

pub row_length : (names : List VarName) (m : Mapping) → length (row_of names m) ≡ length names
row_length [] m = refl
row_length (x ∷ names) m = ap suc (row_length names m)

pub mapping_of-outside : (names : List VarName) (row : SpanRow) (x : VarName) → (Has names x → ⊥) → mapping_of names row x ≡ None
mapping_of-outside [] row x out = refl
mapping_of-outside (y ∷ names) [] x out = refl
mapping_of-outside (y ∷ names) (s ∷ row) x out = by (bytes_eq y x) refl (mapping_of-outside names row x (λ h. out (inr h)))
  where
    by : (a : Bool) → bytes_eq y x ≡ a → mapping_of names row x ≡ None → (if a then s else mapping_of names row x) ≡ None
    by true e later = absurd (out (inl ((bytes_eq-Decides y x).0 e)))
    by false e later = later

-- the span at the place of a name
pub mapping_of-at : (names : List VarName) (row : SpanRow) (k : ℕ) (x : VarName) (s : Option Span) → AreDistinct names → slice_get names k ≡ Some x →
    slice_get row k ≡ Some s → mapping_of names row x ≡ s
mapping_of-at [] row k x s d a b = absurd (cc)
mapping_of-at (y ∷ names) [] k x s d a b = absurd (cc)
mapping_of-at (y ∷ names) (t ∷ row) zero x s d a b =
    let e : y ≡ x = cc in
    let f : t ≡ s = cc in
    ap (λ (c : Bool). if c then t else mapping_of names row x) ((bytes_eq-Decides y x).1 e) ∙ f
mapping_of-at (y ∷ names) (t ∷ row) (suc k) x s d a b = by (bytes_eq y x) refl (mapping_of-at names row k x s d.1 a b)
  where
    by : (c : Bool) → bytes_eq y x ≡ c → mapping_of names row x ≡ s → (if c then t else mapping_of names row x) ≡ s
    by true e later = absurd (d.0 (subst (Has names) (sym ((bytes_eq-Decides y x).0 e)) (Has-slice_get names k x a)))
    by false e later = later
