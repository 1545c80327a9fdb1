-- Lists as loops go through them, and markers that are put before and behind.
use Rattle.std.proofs.Common.{◌≡◌, ℕ, zero, suc, ◌+◌, ◌-◌, ◌<◌, ◌≤◌, List, [], ◌∷◌, ◌++◌, length, get_or, take, drop, map, refl, sym, ap, ◌∙◌, arith}
use Rattle.std.specs.Prelude.{slice_set}
use Rattle.std.proofs.lemmas.List.{take_more, map-append, append_assoc, get_or-drop, get_or-take, get_or_append_left, length-drop, length-take}
use Rattle.marked_automaton.specs.declared.way.Stop.{Stop}
use Rattle.place_automaton.specs.declared.fragment.Entry.{Entry}
use Rattle.place_automaton.specs.Places.{entry_with, stop_with}

module _ {X : Type 0} (f : X → X) where
  -- what is still to come is as it was
  pub rest_same : (xs ys : List X) (i : ℕ) (d : X) → i < length xs → ys ≡ map f (take i xs) ++ drop i xs → get_or ys i d ≡ get_or xs i d
  rest_same [] ys i d l e = absurd (omega (arith, l))
  rest_same (x ∷ xs) ys zero d l e = ap (λ zs. get_or zs 0 d) e
  rest_same (x ∷ xs) ys (suc i) d l e = ap (λ zs. get_or zs (suc i) d) e ∙ rest_same xs (map f (take i xs) ++ drop i xs) i d (omega (arith, l)) refl

  pub map_next : (xs ys : List X) (i j : ℕ) (v d : X) → i < length xs → j ≡ suc i → ys ≡ map f (take i xs) ++ drop i xs → v ≡ f (get_or xs i d) →
      slice_set ys i v ≡ map f (take j xs) ++ drop j xs
  map_next [] ys i j v d l n e at = absurd (omega (arith, l))
  map_next (x ∷ xs) ys zero j v d l n e at =
      ap (λ zs. slice_set zs 0 v) e ∙ (ap (λ w. w ∷ xs) at ∙ ap (λ k. map f (take k (x ∷ xs)) ++ drop k (x ∷ xs)) (sym n))
  map_next (x ∷ xs) ys (suc i) j v d l n e at =
      ap (λ zs. slice_set zs (suc i) v) e
      ∙ (ap (λ zs. f x ∷ zs) (map_next xs (map f (take i xs) ++ drop i xs) i (suc i) v d (omega (arith, l)) refl refl at)
      ∙ ap (λ k. map f (take k (x ∷ xs)) ++ drop k (x ∷ xs)) (sym n))

-- one more is pushed
pub pushed_next : {X Y : Type 0} (f : X → Y) (xs : List X) (i : ℕ) (x : X) (old now : List Y) → i < length xs → x ≡ get_or xs i x →
    now ≡ old ++ map f (take i xs) → now ++ f x ∷ [] ≡ old ++ map f (take (i + 1) xs)
pushed_next f xs i x old now l at e =
    ap (λ ys. ys ++ f x ∷ []) e
    ∙ (append_assoc old (map f (take i xs)) (f x ∷ [])
    ∙ ap (λ ys. old ++ ys) (sym (map-append f (take i xs) (x ∷ [])) ∙ ap (map f) (ap (λ y. take i xs ++ y ∷ []) at ∙ sym (take_more xs i x l))))

-- no markers change nothing
pub entries_same : (m : ℕ) (es : List Entry) → m ≡ 0 → es ≡ map (entry_with m) es
entries_same m [] z = refl
entries_same m (e ∷ es) z =
    let same : e.marks ≡ m + e.marks = omega (arith, z) in
    let f : ℕ → Entry = λ n. record { marks = n; bytes = e.bytes; to = e.to } in
    ap (λ x. x ∷ es) (ap f same) ∙ ap (λ xs. entry_with m e ∷ xs) (entries_same m es z)

pub stops_same : (m : ℕ) (ss : List Stop) → m ≡ 0 → ss ≡ map (stop_with m) ss
stops_same m [] z = refl
stops_same m (s ∷ ss) z =
    let same : s.marks ≡ s.marks + m = omega (arith, z) in
    let f : ℕ → Stop = λ n. record { state = s.state; marks = n } in
    ap (λ x. x ∷ ss) (ap f same) ∙ ap (λ xs. stop_with m s ∷ xs) (stops_same m ss z)

-- an item between two places of a list, to which others have come
pub cut_item : {X : Type 0} (xs now more : List X) (from end k : ℕ) (x : X) → from ≤ k → k < end → end ≤ length xs → now ≡ xs ++ more → x ≡ get_or now k x →
    (k - from < length (take (end - from) (drop from xs))) × (x ≡ get_or (take (end - from) (drop from xs)) (k - from) x)
cut_item xs now more from end k x low high within e at = (
  omega (arith, low, high, within, length-take (end - from) (drop from xs), length-drop from xs),
  at
      ∙ (ap (λ zs. get_or zs k x) e
      ∙ (get_or_append_left xs more x k (omega (arith, high, within))
      ∙ (ap (λ n. get_or xs n x) (let f : k ≡ from + (k - from) = omega (arith, low) in f)
      ∙ (sym (get_or-drop from xs (k - from) x)
      ∙ sym (get_or-take (end - from) (drop from xs) (k - from) x (omega (arith, low, high))))))),
)
