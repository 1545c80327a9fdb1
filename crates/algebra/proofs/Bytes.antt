-- Bytes that are in two sets.
use Rattle.std.proofs.Common.{◌≡◌, ℕ, true, List, [], ◌∷◌, refl, sym, ap, ◌∙◌}
use Rattle.std.specs.Prelude.{◌&&◌}
use Rattle.std.specs.List.{list_any}
use Rattle.std.specs.Ordering.{nat_cmp, eq_by_cmp}
use Rattle.std.specs.FinSet as set
use Rattle.std.proofs.lemmas.Cmp.{nat_cmp_total, eq_by_cmp_equiv}
use Rattle.std.proofs.lemmas.Bool.{or_left}
use Rattle.marked_automaton.specs.Automaton.{ByteClass, HasByte}
use Rattle.algebra.specs.Operations.{is_some_list, has_some, meet}
use Rattle.marked_automaton.proofs.Passing.{both_true, left_true, right_true}

equal_itself : (x : ℕ) → eq_by_cmp nat_cmp x x ≡ true
equal_itself x = (eq_by_cmp_equiv nat_cmp_total).refl x

pub met : (a b : ByteClass) (c : ℕ) → set.contains (meet a b) c ≡ (set.contains a c && set.contains b c)
met a b c = set.contains-intersection nat_cmp_total a b c

pub meet_left : (a b : ByteClass) (c : ℕ) → HasByte (meet a b) c → HasByte a c
meet_left a b c h = left_true (set.contains a c) (set.contains b c) (sym (met a b c) ∙ h)

pub meet_right : (a b : ByteClass) (c : ℕ) → HasByte (meet a b) c → HasByte b c
meet_right a b c h = right_true (set.contains a c) (set.contains b c) (sym (met a b c) ∙ h)

pub in_meet : (a b : ByteClass) (c : ℕ) → HasByte a c → HasByte b c → HasByte (meet a b) c
in_meet a b c h k = met a b c ∙ both_true (set.contains a c) (set.contains b c) h k

-- a set with a byte has some
pub some_byte : (s : ByteClass) (c : ℕ) → HasByte s c → has_some s ≡ true
some_byte s c h = go (set.items s) (sym (set.contains-items s c) ∙ h)
  where
    go : (xs : List ℕ) → list_any (eq_by_cmp nat_cmp c) xs ≡ true → is_some_list xs ≡ true
    go [] e = absurd (cc)
    go (x ∷ xs) e = refl

pub some_has : (s : ByteClass) → has_some s ≡ true → (c : ℕ) × HasByte s c
some_has s h = go (set.items s) refl h
  where
    go : (xs : List ℕ) → set.items s ≡ xs → is_some_list xs ≡ true → (c : ℕ) × HasByte s c
    go [] at e = absurd (cc)
    go (x ∷ xs) at e = (x, set.contains-items s x ∙ (ap (list_any (eq_by_cmp nat_cmp x)) at ∙ or_left (eq_by_cmp nat_cmp x x) (list_any (eq_by_cmp nat_cmp x) xs) (equal_itself x)))
