-- Sets that are joined from the last to the first.
use Rattle.std.proofs.Common.{◌≡◌, ℕ, Bool, true, false, List, [], ◌∷◌, ◌++◌, refl, sym, ap, ◌∙◌}
use Rattle.std.proofs.lemmas.Bool.{false≢true}
use Rattle.std.specs.Prelude.{nat_eq, reverse, if◌then◌else◌, ◌||◌, cond}
use Rattle.std.specs.List.{list_any}
use Rattle.std.proofs.lemmas.Cmp.{nat_eq_equiv}
use Rattle.std.proofs.lemmas.List.{reverse-append}
use Rattle.std.proofs.lemmas.List.Folds.{list_any-append}
use Rattle.place_automaton.specs.Places.{either_once}

-- a set that is not there comes in front
pub once_new : (m : ℕ) (done ns : List ℕ) → list_any (nat_eq m) (either_once done ns) ≡ false → either_once (m ∷ done) ns ≡ m ∷ either_once done ns
once_new m done ns e = ap (λ b. if b then either_once done ns else m ∷ either_once done ns) e

pub once_pushed : (m : ℕ) (new done ns : List ℕ) → reverse new ++ ns ≡ either_once done ns → list_any (nat_eq m) (either_once done ns) ≡ false →
    reverse (new ++ m ∷ []) ++ ns ≡ either_once (m ∷ done) ns
once_pushed m new done ns h e = ap (λ xs. xs ++ ns) (reverse-append new (m ∷ [])) ∙ (ap (λ xs. m ∷ xs) h ∙ sym (once_new m done ns e))

known_or : (a b c : Bool) → a ≡ b → (cond a true c) ≡ (b || c)
known_or true true c e = refl
known_or false false c e = refl
known_or true false c e = absurd (false≢true (sym e))
known_or false true c e = absurd (false≢true e)

or_known : (a b c : Bool) → a ≡ b → (cond a true c) ≡ (c || (b || false))
or_known true true true e = refl
or_known true true false e = refl
or_known false false true e = refl
or_known false false false e = refl
or_known true false c e = absurd (false≢true (sym e))
or_known false true c e = absurd (false≢true e)

-- what is known once m is: in front of a list, and behind it
pub known_front : (now old : Bool) (m q : ℕ) (xs : List ℕ) → now ≡ cond (nat_eq m q) true old → old ≡ list_any (nat_eq q) xs → now ≡ list_any (nat_eq q) (m ∷ xs)
known_front now old m q xs e h = e ∙ (ap (cond (nat_eq m q) true) h ∙ known_or (nat_eq m q) (nat_eq q m) (list_any (nat_eq q) xs) (nat_eq_equiv.symm m q))

pub known_behind : (now old : Bool) (m q : ℕ) (xs : List ℕ) → now ≡ cond (nat_eq m q) true old → old ≡ list_any (nat_eq q) xs → now ≡ list_any (nat_eq q) (xs ++ m ∷ [])
known_behind now old m q xs e h =
    e
    ∙ (ap (cond (nat_eq m q) true) h
    ∙ (or_known (nat_eq m q) (nat_eq q m) (list_any (nat_eq q) xs) (nat_eq_equiv.symm m q) ∙ sym (list_any-append (nat_eq q) xs (m ∷ []))))
