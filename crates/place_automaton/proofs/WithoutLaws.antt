-- Sets of the one side that are not on the other, in front of those of the other.
use Rattle.std.proofs.Common.{◌≡◌, ℕ, Bool, true, false, List, [], ◌∷◌, ◌++◌, inl, inr, refl, sym, ap, ◌∙◌}
use Rattle.std.specs.Prelude.{nat_eq, ◌||◌, if◌then◌else◌}
use Rattle.std.specs.List.{list_any}
use Rattle.std.proofs.lemmas.Bool.{eqb-true}
use Rattle.std.proofs.lemmas.List.Folds.{list_any-append}
use Rattle.span_core.specs.Lists.{Has, AreDistinct}
use Rattle.place_automaton.specs.Places.{add_once, either_once, without}

-- what is not there is not found
none_any : (n : ℕ) (ms : List ℕ) → (Has ms n → ⊥) → list_any (nat_eq n) ms ≡ false
none_any n [] absent = refl
none_any n (m ∷ ms) absent = by (none_any n ms (λ h. absent (inr h))) (nat_eq n m) refl
  where
    by : list_any (nat_eq n) ms ≡ false → (b : Bool) → nat_eq n m ≡ b → (b || list_any (nat_eq n) ms) ≡ false
    by rest true e = absurd (absent (inl (sym (eqb-true n m e))))
    by rest false e = rest

-- what is left was there
without_has : (others ms : List ℕ) (m : ℕ) → Has (without others ms) m → Has ms m
without_has others [] m h = h
without_has others (n ∷ ms) m h = by (without_has others ms m) (list_any (nat_eq n) others) h
  where
    by : (Has (without others ms) m → Has ms m) → (b : Bool) → Has (if b then without others ms else n ∷ without others ms) m → Has (n ∷ ms) m
    by up true h = inr (up h)
    by up false (inl e) = inl e
    by up false (inr k) = inr (up k)

-- one more
pub without_more : (others ms : List ℕ) (m : ℕ) → without others (ms ++ m ∷ []) ≡ without others ms ++ without others (m ∷ [])
without_more others [] m = refl
without_more others (n ∷ ms) m = by (without_more others ms m) (list_any (nat_eq n) others)
  where
    by : without others (ms ++ m ∷ []) ≡ without others ms ++ without others (m ∷ []) → (b : Bool) → (if b then without others (ms ++ m ∷ []) else n ∷ without others (ms ++ m ∷ []))
        ≡ (if b then without others ms else n ∷ without others ms) ++ without others (m ∷ [])
    by e true = e
    by e false = ap (λ xs. n ∷ xs) e

-- distinct sets: those that the others lack come in front of them
pub either_without : (ms ns : List ℕ) → AreDistinct ms → either_once ms ns ≡ without ns ms ++ ns
either_without [] ns d = refl
either_without (m ∷ ms) ns d = ap (add_once m) (either_without ms ns d.1) ∙ by (list_any (nat_eq m) ns) found
  where
    found : list_any (nat_eq m) (without ns ms ++ ns) ≡ list_any (nat_eq m) ns
    found =
        list_any-append (nat_eq m) (without ns ms) ns
        ∙ ap (λ b. b || list_any (nat_eq m) ns) (none_any m (without ns ms) (λ h. d.0 (without_has ns ms m h)))

    by : (b : Bool) → list_any (nat_eq m) (without ns ms ++ ns) ≡ b → add_once m (without ns ms ++ ns) ≡ (if b then without ns ms else m ∷ without ns ms) ++ ns
    by true e = ap (λ b. if b then without ns ms ++ ns else m ∷ (without ns ms ++ ns)) e
    by false e = ap (λ b. if b then without ns ms ++ ns else m ∷ (without ns ms ++ ns)) e
