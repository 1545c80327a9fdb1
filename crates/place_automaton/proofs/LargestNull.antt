-- The largest null of parts, of their fronts and of arms.
use Rattle.std.proofs.Common.{◌≡◌, ℕ, zero, suc, ◌+◌, ◌*◌, ◌≤◌, List, [], ◌∷◌, ◌++◌, length, drop, take, Some, inl, inr, sym, ap, ◌∙◌, arith}
use Rattle.std.specs.Prelude.{slice_get}
use Rattle.std.proofs.Math.Nat.{mul_assoc}
use Rattle.std.proofs.lemmas.List.{take-append-drop}
use Rattle.span_core.specs.Lists.{Has}
use Rattle.spanner_model.specs.Captures.{VarName}
use Rattle.spanner_model.specs.Tree.{Tree, cat, cat_all, alt_all}
use Rattle.spanner_model.proofs.TreeLaws.{take_at_more}
use Rattle.place_automaton.specs.Counts.{PlaceCounts, counts, null_size, largest_null}
use Rattle.place_automaton.proofs.CountLaws.{length_product}
use Rattle.place_automaton.proofs.JoinedCounts.{counts_more}

module _ (opening closing : VarName → ℕ) where
  abbrev N : Tree → ℕ
  N = null_size opening closing

  abbrev L : ℕ → Tree → ℕ
  L = largest_null opening closing

  size_join : (f rest : Tree) → N (cat f rest) ≡ N f * N rest
  size_join f rest = length_product ◌+◌ (counts opening closing f).null (counts opening closing rest).null

  pub size_more : (ts : List Tree) (t : Tree) → N (cat_all (ts ++ t ∷ [])) ≡ N (cat_all ts) * N t
  size_more ts t =
      ap (λ (c : PlaceCounts). length c.null) (counts_more opening closing ts t)
      ∙ length_product ◌+◌ (counts opening closing (cat_all ts)).null (counts opening closing t).null

  -- a part
  pub part_largest : (ts : List Tree) (t : Tree) (before : ℕ) → Has ts t → L 1 t ≤ L before (cat_all ts)
  part_largest [] t before h = absurd h
  part_largest (u ∷ ts) t before (inl e) = omega (arith, ap (λ f. L 1 f) e)
  part_largest (u ∷ ts) t before (inr h) = omega (arith, part_largest ts t (before * N u) h)

  from_before : (ts : List Tree) (before : ℕ) → before ≤ L before (cat_all ts)
  from_before [] before = omega arith
  from_before (u ∷ ts) before = omega arith

  -- the first parts
  pub front_largest : (ts us : List Tree) (before : ℕ) → before * N (cat_all ts) ≤ L before (cat_all (ts ++ us))
  front_largest [] us before = omega (arith, from_before us before)
  front_largest (t ∷ ts) us before =
      omega (arith, front_largest ts us (before * N t), ap (λ n. before * n) (size_join t (cat_all ts)), mul_assoc before (N t) (N (cat_all ts)))

  -- some first parts, and the one behind them
  pub front_at : (ts : List Tree) (k : ℕ) (t : Tree) → slice_get ts k ≡ Some t → N (cat_all (take k ts)) * N t ≤ L 1 (cat_all ts)
  front_at ts k t at =
      let front = take k ts ++ t ∷ [] in
      let e : front ++ drop (k + 1) ts ≡ ts = ap (λ us. us ++ drop (k + 1) ts) (sym (take_at_more ts k t at)) ∙ take-append-drop (k + 1) ts in
      omega (arith, size_more (take k ts) t, front_largest front (drop (k + 1) ts) 1, ap (λ us. L 1 (cat_all us)) e)

  -- parts, and one more behind them
  pub largest_more : (ts : List Tree) (t : Tree) (before most : ℕ) → L before (cat_all ts) ≤ most → L 1 t ≤ most → before * N (cat_all (ts ++ t ∷ [])) ≤ most →
      L before (cat_all (ts ++ t ∷ [])) ≤ most
  largest_more [] t before most a b c =
      let e : N (cat_all (t ∷ [])) ≡ N t = size_join t (cat_all []) ∙ (let f : N t * 1 ≡ N t = omega arith in f) in
      omega (arith, a, b, c, ap (λ n. before * n) e)
  largest_more (u ∷ ts) t before most a b c =
      let d = largest_more ts t (before * N u) most (omega (arith, a)) b
      (omega (arith, c, ap (λ n. before * n) (size_join u (cat_all (ts ++ t ∷ []))), mul_assoc before (N u) (N (cat_all (ts ++ t ∷ []))))) in
      omega (arith, a, d)

  -- an arm, the last arms, and all that they fit the empty string with
  pub arm_largest : (ts : List Tree) (t : Tree) → Has ts t → L 1 t ≤ L 1 (alt_all ts)
  arm_largest [] t h = absurd h
  arm_largest (u ∷ ts) t (inl e) = omega (arith, ap (λ f. L 1 f) e)
  arm_largest (u ∷ ts) t (inr h) = omega (arith, arm_largest ts t h)

  pub arms_largest : (ts : List Tree) (k : ℕ) → L 1 (alt_all (drop k ts)) ≤ L 1 (alt_all ts)
  arms_largest [] zero = omega arith
  arms_largest [] (suc k) = omega arith
  arms_largest (t ∷ ts) zero = omega arith
  arms_largest (t ∷ ts) (suc k) = omega (arith, arms_largest ts k)
