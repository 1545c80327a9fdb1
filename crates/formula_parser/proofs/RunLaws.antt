-- The longest run at the front of a text, and what follows it.
use Rattle.std.proofs.Common.{◌≡◌, ℕ, zero, suc, Bool, true, false, cond, ◌&&◌, List, [], ◌∷◌, ◌++◌, length, drop, take, ap, refl, sym, ◌∙◌, subst}
use Rattle.std.specs.List.{take_while, list_all, prefix_len}
use Rattle.std.proofs.lemmas.List.Sums.{take_while-cons}
use Rattle.std.proofs.lemmas.Bool.{and_parts}
use Rattle.formula_parser.specs.Runs.{begins}

-- what follows a token
pub after_token : (u rest : List ℕ) → drop (length u) (u ++ rest) ≡ rest
after_token [] rest = refl
after_token (c ∷ u) rest = after_token u rest

pub the_token : (u rest : List ℕ) → take (length u) (u ++ rest) ≡ u
the_token [] rest = refl
the_token (c ∷ u) rest = ap (λ x. c ∷ x) (the_token u rest)

-- x is the longest run at the front of t
pub record Run (p : ℕ → Bool) (t x : List ℕ) : Type 0 where
  pub rest : List ℕ
  pub splits : t ≡ x ++ rest
  pub all : list_all p x ≡ true
  pub stops : begins p rest ≡ false

pub run_of : (p : ℕ → Bool) (t : List ℕ) → Run p t (take_while p t)
run_of p [] = record { rest = []; splits = refl; all = refl; stops = refl }
run_of p (c ∷ t) = by (p c) refl (run_of p t)
  where
    by : (b : Bool) → p c ≡ b → Run p t (take_while p t) → Run p (c ∷ t) (take_while p (c ∷ t))
    by true e r = subst (Run p (c ∷ t)) (sym (take_while-cons p c t ∙ ap (λ b. cond b (c ∷ take_while p t) []) e)) (record {
      rest = r.rest;
      splits = ap (λ x. c ∷ x) r.splits;
      all = ap (λ b. b && list_all p (take_while p t)) e ∙ r.all;
      stops = r.stops;
    })
    by false e r = subst (Run p (c ∷ t)) (sym (take_while-cons p c t ∙ ap (λ b. cond b (c ∷ take_while p t) []) e)) (record { rest = c ∷ t; splits = refl; all = refl; stops = e })

-- a run that what follows does not lengthen is the longest
pub run_is : (p : ℕ → Bool) (u after : List ℕ) → list_all p u ≡ true → begins p after ≡ false → take_while p (u ++ after) ≡ u
run_is p [] [] all stops = refl
run_is p [] (c ∷ t) all stops = take_while-cons p c t ∙ ap (λ b. cond b (c ∷ take_while p t) []) stops
run_is p (c ∷ u) after all stops =
    let parts = and_parts (p c) (list_all p u) all in
    take_while-cons p c (u ++ after) ∙ ap (λ b. cond b (c ∷ take_while p (u ++ after)) []) parts.0 ∙ ap (λ x. c ∷ x) (run_is p u after parts.1 stops)

-- what follows the longest run
pub run_rest : (p : ℕ → Bool) (t x : List ℕ) (r : Run p t x) → drop (length x) t ≡ r.rest
run_rest p t x r = ap (drop (length x)) r.splits ∙ after_token x r.rest

take_again : (k : ℕ) (t : List ℕ) → take (length (take k t)) t ≡ take k t
take_again zero t = refl
take_again (suc k) [] = refl
take_again (suc k) (c ∷ t) = ap (λ x. c ∷ x) (take_again k t)

-- the longest run, by its length
pub take_run : (p : ℕ → Bool) (t : List ℕ) → take (length (take_while p t)) t ≡ take_while p t
take_run p t = take_again (prefix_len p t) t
