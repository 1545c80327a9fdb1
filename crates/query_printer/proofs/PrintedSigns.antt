-- The sign of a repeat says its numbers.
use Rattle.std.proofs.Common.{◌≡◌, ℕ, ◌≤◌, true, ◌&&◌, ◌==◌, List, [], ◌∷◌, Option, Some, None, ap, sym, refl, ◌∙◌, arith, if◌then◌else◌}
use Rattle.std.specs.Fmt.{decimal}
use Rattle.std.specs.List.{list_all}
use Rattle.std.proofs.lemmas.Bool.{and_parts}
use Rattle.std.proofs.lemmas.Bool.Decides.{nat_tests}
use Rattle.std.proofs.lemmas.Str.Parse.{IsDigitsTest, FoldsDigits, IsNumeralModel, numerals_by_fold}
use Rattle.std.proofs.lemmas.Fmt.{digits_decimal, digits_value-decimal, decimal_nonempty, length-decimal-le}
use Rattle.spanner_model.specs.WellBuilt.{AreRepeatNumbers}
use Rattle.formula_parser.specs.Repeats.{is_digit, value_after, IsNumber, IsRepeat, star, plus, maybe, exactly, at_least, between}
use Rattle.query_printer.specs.PrintedFormula.{exactly_text, at_least_text, between_text, sign}
use Rattle.query_printer.proofs.PrintedRuns.{by_bool}

abbrev AreDigits : List ℕ → Type 0
AreDigits ds = list_all is_digit ds ≡ true

tells : IsDigitsTest AreDigits
tells = record {
  empty = refl;
  parts = λ c cs e. let k = and_parts (is_digit c) (list_all is_digit cs) e in let d = k.0 in ((grind (arith, nat_tests), grind (arith, nat_tests)), k.1);
  more = λ c cs k e. let low = k.0 in let high = k.1 in let d : is_digit c ≡ true = grind (arith, nat_tests) in ap (λ v. v && list_all is_digit cs) d ∙ e;
}

folds : FoldsDigits value_after
folds = record { empty = λ n. refl; more = λ n c cs k. ap (λ v. value_after v cs) (omega arith) }

own : IsNumeralModel AreDigits (value_after 0)
own = numerals_by_fold AreDigits tells value_after folds

number_is : (n : ℕ) → n ≤ 1000 → IsNumber (decimal n) n
number_is n small = record {
  digits = digits_decimal own n (omega (arith, small));
  from_one = decimal_nonempty n (omega (arith, small));
  to_four = length-decimal-le 4 n (omega arith) (omega (arith, small)) (omega (arith, small));
  value = sym (digits_value-decimal own n (omega (arith, small)));
  small = small;
}

pub equal : (m n : ℕ) → (m == n) ≡ true → n ≡ m
equal m n h = grind (arith, nat_tests)

pub sign_is : (least : ℕ) (most : Option ℕ) → AreRepeatNumbers least most → IsRepeat (sign least most) least most
sign_is m None (small, bounds) =
    by_bool (λ v. IsRepeat (if v then 42 ∷ [] else if m == 1 then 43 ∷ [] else at_least_text m) m None) (m == 0)
    (λ h. rw (← equal m 0 h) star)
    (λ h. by_bool (λ v. IsRepeat (if v then 43 ∷ [] else at_least_text m) m None) (m == 1)
    (λ k. rw (← equal m 1 k) plus)
    (λ k. at_least (number_is m small)))
sign_is m (Some k) (small, bounds) =
    let (le, few) = bounds k refl in
    by_bool (λ v. IsRepeat (if v then 63 ∷ [] else if m == k then exactly_text m else between_text m k) m (Some k)) (m == 0 && k == 1)
    (λ h.
    let both = and_parts (m == 0) (k == 1) h in
    rw (← equal m 0 both.0) (rw (← equal k 1 both.1) maybe))
    (λ h. by_bool (λ v. IsRepeat (if v then exactly_text m else between_text m k) m (Some k)) (m == k)
    (λ same. rw (equal m k same) (exactly (number_is m small)))
    (λ other. between (number_is m small) (number_is k few) le))
