-- Parts are counted from left to right as they are counted from right to left.
use Rattle.std.proofs.Common.{◌≡◌, ℕ, ◌+◌, ◌*◌, List, [], ◌∷◌, ◌++◌, length, map, refl, sym, ap, ◌∙◌, arith, append-nil}
use Rattle.std.proofs.Math.Nat.{mul-add, mul_assoc}
use Rattle.std.proofs.lemmas.List.{map-append}
use Rattle.std.proofs.lemmas.List.Concat.{flat_map-append}
use Rattle.spanner_model.specs.Captures.{VarName}
use Rattle.spanner_model.specs.Tree.{Tree, cat_all}
use Rattle.place_automaton.specs.Counts.{PlaceCounts, counts, counts_cat, counts_nothing}
use Rattle.place_automaton.specs.Places.{sums}
use Rattle.place_automaton.proofs.CountLaws.{length_product}
use Rattle.place_automaton.proofs.OncePlaces.{counts_nothing_behind}

map_twice : (m n : ℕ) (ks : List ℕ) → map (◌+◌ m) (map (◌+◌ n) ks) ≡ map (◌+◌ (m + n)) ks
map_twice m n [] = refl
map_twice m n (k ∷ ks) = ap (λ x. x ∷ map (◌+◌ m) (map (◌+◌ n) ks)) (let e : m + (n + k) ≡ m + n + k = omega arith in e) ∙ ap (λ xs. (m + n + k) ∷ xs) (map_twice m n ks)

map_sums : (m : ℕ) (ns ks : List ℕ) → map (◌+◌ m) (sums ns ks) ≡ sums (map (◌+◌ m) ns) ks
map_sums m [] ks = refl
map_sums m (n ∷ ns) ks =
    map-append (◌+◌ m) (map (◌+◌ n) ks) (sums ns ks)
    ∙ (ap (λ xs. xs ++ map (◌+◌ m) (sums ns ks)) (map_twice m n ks) ∙ ap (λ ys. map (◌+◌ (m + n)) ks ++ ys) (map_sums m ns ks))

sums_assoc : (ms ns ks : List ℕ) → sums ms (sums ns ks) ≡ sums (sums ms ns) ks
sums_assoc [] ns ks = refl
sums_assoc (m ∷ ms) ns ks =
    ap (λ xs. xs ++ sums ms (sums ns ks)) (map_sums m ns ks)
    ∙ (ap (λ ys. sums (map (◌+◌ m) ns) ks ++ ys) (sums_assoc ms ns ks) ∙ sym (flat_map-append (λ x. map (◌+◌ x) ks) (map (◌+◌ m) ns) (sums ms ns)))

-- a sum of a part and of two joined ones
first_assoc : (a m b n c k : ℕ) → k ≡ m * n → a + m * (b + n * c) ≡ a + m * b + k * c
first_assoc a m b n c k e = omega (arith, mul-add m b (n * c), mul_assoc m n c, ap (λ x. x * c) e)

last_assoc : (c k b n a m : ℕ) → m ≡ n * k → c + k * b + m * a ≡ c + k * (b + n * a)
last_assoc c k b n a m e = omega (arith, mul-add k b (n * a), mul_assoc k n a, ap (λ x. x * a) (e ∙ (let f : n * k ≡ k * n = omega arith in f)))

follow_assoc : (a b c l p f n q : ℕ) → a + (b + c + p * q) + l * (f + n * q) ≡ a + b + l * f + c + (p + n * l) * q
follow_assoc a b c l p f n q =
    let x : l * (n * q) ≡ (n * l) * q = sym (mul_assoc l n q) ∙ ap (λ y. y * q) (let f : l * n ≡ n * l = omega arith in f) in
    let y : (p + n * l) * q ≡ p * q + (n * l) * q = omega arith in
    omega (arith, mul-add l f (n * q), x, y)

cat_assoc : (a b c : PlaceCounts) → counts_cat a (counts_cat b c) ≡ counts_cat (counts_cat a b) c
cat_assoc a b c = λ i. record {
  places = places i;
  null = sums_assoc a.null b.null c.null i;
  first = first_assoc a.first (length a.null) b.first (length b.null) c.first (length (sums a.null b.null)) (length_product ◌+◌ a.null b.null) i;
  last = last_assoc c.last (length c.null) b.last (length b.null) a.last (length (sums b.null c.null)) (length_product ◌+◌ b.null c.null) i;
  follow = follow_assoc a.follow b.follow c.follow a.last b.last b.first (length b.null) c.first i;
}
  where
    places : a.places + (b.places + c.places) ≡ a.places + b.places + c.places
    places = omega arith

map_zero : (ms : List ℕ) → map (◌+◌ 0) ms ≡ ms
map_zero [] = refl
map_zero (m ∷ ms) = ap (λ n. n ∷ map (◌+◌ 0) ms) (let e : 0 + m ≡ m = omega arith in e) ∙ ap (λ ns. m ∷ ns) (map_zero ms)

nothing_before : (a : PlaceCounts) → counts_cat counts_nothing a ≡ a
nothing_before a = λ i. record {
  places = places i;
  null = (append-nil (map (◌+◌ 0) a.null) ∙ map_zero a.null) i;
  first = first i;
  last = last (length a.null) i;
  follow = follow i;
}
  where
    places : 0 + a.places ≡ a.places
    places = omega arith

    first : 0 + 1 * a.first ≡ a.first
    first = omega arith

    last : (n : ℕ) → a.last + n * 0 ≡ a.last
    last n = omega arith

    follow : 0 + a.follow + 0 * a.first ≡ a.follow
    follow = omega arith

module _ (opening closing : VarName → ℕ) where
  -- parts, and one more behind them
  pub counts_more : (ts : List Tree) (t : Tree) → counts opening closing (cat_all (ts ++ t ∷ [])) ≡ counts_cat (counts opening closing (cat_all ts)) (counts opening closing t)
  counts_more [] t = counts_nothing_behind (counts opening closing t) ∙ sym (nothing_before (counts opening closing t))
  counts_more (u ∷ ts) t =
      ap (counts_cat (counts opening closing u)) (counts_more ts t) ∙ cat_assoc (counts opening closing u) (counts opening closing (cat_all ts)) (counts opening closing t)
