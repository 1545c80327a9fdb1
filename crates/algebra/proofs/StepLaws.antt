-- How many steps a join takes.
use Rattle.std.proofs.Common.{◌≡◌, ℕ, zero, suc, false, nat_eq, ◌+◌, ◌*◌, ◌<◌, ◌≤◌, List, [], ◌∷◌, ◌++◌, length, map, take, get_or, refl, ap, arith, ◌∙◌, length-append}
use Rattle.std.specs.List.{filter, flat_map}
use Rattle.std.proofs.lemmas.List.{append-nil, length-map}
use Rattle.std.proofs.lemmas.List.Sorted.{length_permutation}
use Rattle.std.proofs.lemmas.Bool.{true≢false}
use Rattle.std.proofs.lemmas.Nat.{mul-le}
use Rattle.span_core.specs.Lists.{AreDistinct}
use Rattle.span_core.proofs.ListLaws.{filter_no_more}
use Rattle.marked_automaton.specs.Automaton.{Marked}
use Rattle.marked_automaton.specs.declared.fault.SizeFault.{SizeFault}
use Rattle.marked_automaton.proofs.Sizes.{reduct_is_no_larger}
use Rattle.algebra.specs.declared.fault.JoinFault.{JoinFault}
use Rattle.algebra.specs.declared.fault.JoinFault.TheVariants.{Size, Ends, Spent}
use Rattle.algebra.specs.declared.halves.HalfStop.{HalfStop}
use Rattle.algebra.specs.declared.pairs.Pair.{Pair}
use Rattle.algebra.specs.Joining.{IsGroupedOf, IsSpentOn, most_steps}
use Rattle.algebra.specs.Pairs.{HaveSameRows, always, half_at, pair_of, pairs, those_at, tried_at}
use Rattle.algebra.specs.Sides.{IsTold, stops_tried}
use Rattle.algebra.proofs.Gathered.{gathered, one_of}
use Rattle.algebra.proofs.Searched.{rows_more}

-- all pass
all_pass : {X Y : Type 0} (x : X) (ys : List Y) → filter (always x) ys ≡ ys
all_pass x [] = refl
all_pass x (y ∷ ys) = ap (λ zs. y ∷ zs) (all_pass x ys)

-- all pairs are as many as the product
all_pairs : {X Y R : Type 0} (make : X → Y → R) (ys : List Y) (xs : List X) → length (pairs always make ys xs) ≡ length xs * length ys
all_pairs make ys [] = omega arith
all_pairs make ys (x ∷ xs) =
    let here = map (make x) (filter (always x) ys) in
    omega (arith, all_pairs make ys xs, length-append here (pairs always make ys xs), length-map (filter (always x) ys) (make x), ap length (all_pass x ys))

module _ {X Y : Type 0} (at1 : X → ℕ) (at2 : Y → ℕ) where
  pub tried_len : (xs : List X) (ys : List Y) (k : Pair) → length (tried_at at1 at2 xs ys k) ≡ length (those_at at1 k.left xs) * length (those_at at2 k.right ys)
  tried_len xs ys k = all_pairs (λ (x : X) (y : Y). pair_of (at1 x) (at2 y)) (those_at at2 k.right ys) (those_at at1 k.left xs)

  -- at pairs that differ no more are tried than there are
  pub tried_few : (keys : List Pair) (xs : List X) (ys : List Y) → AreDistinct keys → length (flat_map (tried_at at1 at2 xs ys) keys) ≤ length xs * length ys
  tried_few keys xs ys apart =
      let make : X → Y → Pair = λ x y. pair_of (at1 x) (at2 y) in
      let all = pairs always make ys xs in
      let some = filter (λ (r : Pair). one_of keys r) all in
      let made = flat_map (tried_at at1 at2 xs ys) keys in
      let perm = gathered at1 at2 always make (λ (r : Pair). r) (λ x y. refl) keys ys xs apart in
      omega (arith, length_permutation some made perm, filter_no_more (λ (r : Pair). one_of keys r) all, all_pairs make ys xs)

  -- those of one pair more
  pub tried_more : (xs : List X) (ys : List Y) (keys found : List Pair) (done : ℕ) (k : Pair) → done < length keys → k ≡ get_or keys done k →
      length (flat_map (tried_at at1 at2 xs ys) (take (done + 1) (keys ++ found))) ≡ length (flat_map (tried_at at1 at2 xs ys) (take done keys)) + length (tried_at at1 at2 xs ys k)
  tried_more xs ys keys found done k l is =
      ap length (rows_more (tried_at at1 at2 xs ys) keys found done k l is)
      ∙ length-append (flat_map (tried_at at1 at2 xs ys) (take done keys)) (tried_at at1 at2 xs ys k)

  -- by rows that are the same
  pub tried_same : (xs us : List X) (ys vs : List Y) (keys : List Pair) → HaveSameRows at1 xs us → HaveSameRows at2 ys vs →
      flat_map (tried_at at1 at2 xs ys) keys ≡ flat_map (tried_at at1 at2 us vs) keys
  tried_same xs us ys vs keys left right =
      (λ i. flat_map (λ (k : Pair). pairs always (λ (x : X) (y : Y). pair_of (at1 x) (at2 y)) (right k.right i) (left k.left i)) keys)

-- the steps of a pair, where both rows have some
pub row_steps : (l r left right n : ℕ) → l ≡ left → r ≡ right → n ≡ left * right → 1 ≤ left → 1 ≤ right → l * r + l + r ≤ 3 * n
row_steps l r left right n a b is some1 some2 =
    let here : left * right + left + right ≤ 3 * n = omega (arith, is, mul-le left 1 left right (omega arith) some2, mul-le 1 right left right some1 (omega arith)) in
    rw b (rw a here)

pub some_there : (n : ℕ) → nat_eq n 0 ≡ false → 1 ≤ n
some_there zero e = absurd (true≢false e)
some_there (suc n) e = omega arith

-- the ends of one pair more
pub stops_step : (xs ys : List HalfStop) (found : List Pair) (i : ℕ) (k : Pair) → i < length found → k ≡ get_or found i k → (lefts rights : List HalfStop) →
    lefts ≡ those_at half_at k.left xs → rights ≡ those_at half_at k.right ys →
    length (stops_tried xs ys (take i found)) + length lefts * length rights ≡ length (stops_tried xs ys (take (i + 1) found))
stops_step xs ys found i k l is lefts rights left right =
    let rows : length lefts * length rights ≡ length (those_at half_at k.left xs) * length (those_at half_at k.right ys) = (λ j. length (left j) * length (right j)) in
    omega (
      arith,
      rows,
      tried_len half_at half_at xs ys k,
      tried_more half_at half_at xs ys found [] i k l is,
      ap (λ zs. length (stops_tried xs ys (take (i + 1) zs))) (append-nil found),
    )

-- steps that were wanting later were wanting before
pub spent_by : (before after n m : ℕ) (e : JoinFault) → (after ≤ n → before ≤ m) → IsSpentOn after n e → IsSpentOn before m e
spent_by before after n m (Size fault) le h = tt
spent_by before after n m (Ends count) le h = tt
spent_by before after n m Spent le h = le h

pub spent_more : (effort n m : ℕ) (e : JoinFault) → n ≤ m → IsSpentOn effort n e → IsSpentOn effort m e
spent_more effort n m (Size fault) le h = tt
spent_more effort n m (Ends count) le h = tt
spent_more effort n m Spent le h = omega (arith, h, le)

-- a join with an automaton that is grouped first takes no more
module _ (A B G : Marked) where
  grouped_ways : IsGroupedOf A G → (length G.graph.ways ≤ length A.graph.ways) × (length G.graph.stops ≤ length A.graph.stops)
  grouped_ways g =
      let less = reduct_is_no_larger G.graph A.graph g.new.whole g.new.some_byte g.reduct in
      (less.1, less.2)

  pub first_steps : IsGroupedOf A G → most_steps G B ≤ most_steps A B
  first_steps g =
      let few = grouped_ways g in
      omega (
        arith,
        mul-le (length G.graph.ways) (length B.graph.ways) (length A.graph.ways) (length B.graph.ways) few.0 (omega arith),
        mul-le (length G.graph.stops) (length B.graph.stops) (length A.graph.stops) (length B.graph.stops) few.1 (omega arith),
      )

  pub second_steps : IsGroupedOf A G → most_steps B G ≤ most_steps B A
  second_steps g =
      let few = grouped_ways g in
      omega (
        arith,
        mul-le (length B.graph.ways) (length G.graph.ways) (length B.graph.ways) (length A.graph.ways) (omega arith) few.0,
        mul-le (length B.graph.stops) (length G.graph.stops) (length B.graph.stops) (length A.graph.stops) (omega arith) few.1,
      )

pub told_more : (P Q : SizeFault → Type 0) → ((e : SizeFault) → P e → Q e) → (f : JoinFault) → IsTold P f → IsTold Q f
told_more P Q h (Size fault) p = h fault p
told_more P Q h (Ends count) p = p
told_more P Q h Spent p = tt
