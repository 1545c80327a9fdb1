-- The numbers of classes.
use Rattle.std.proofs.Common.{◌≡◌, ℕ, ◌<◌, List, length, replicate, set as put, inl, inr, sym, ap, subst, arith, ◌∙◌}
use Rattle.std.specs.Prelude.{slice_index}
use Rattle.std.proofs.lemmas.Bool.{cases_eq}
use Rattle.std.proofs.lemmas.List.{get_or-replicate, get_or-set_same, get_or-set_other, length-set}

-- 256 numbers, each below this one
pub record AreBelow (count : ℕ) (numbers : List ℕ) : Type 0 where
  pub all : length numbers ≡ 256
  pub below : (b : ℕ) → b < 256 → slice_index numbers b < count

pub zeros_below : (count : ℕ) → 0 < count → (numbers : List ℕ) → numbers ≡ replicate 256 0 → AreBelow count numbers
zeros_below count some numbers is = record {
  all = ap length is;
  below = λ b less. subst (λ n. n < count) (sym (ap (λ (xs : List ℕ). slice_index xs b) is ∙ get_or-replicate 256 b 0 0 less)) some;
}

pub one_below : (count : ℕ) (numbers : List ℕ) (k x : ℕ) → k < 256 → x < count → AreBelow count numbers → AreBelow count (put numbers k x)
one_below count numbers k x less small h = record {
  all = length-set numbers k x ∙ h.all;
  below = λ b in_all. elim (cases_eq k b) as (λ _. slice_index (put numbers k x) b < count) [
    | inl same ↦ subst (λ n. n < count) (sym (ap (slice_index (put numbers k x)) (sym same) ∙ get_or-set_same numbers k x 0 (omega (arith, less, h.all)))) small
    | inr other ↦ subst (λ n. n < count) (sym (get_or-set_other numbers k b x 0 (λ back. other (sym back)))) (h.below b in_all)
  ];
}
