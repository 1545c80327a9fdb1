-- How many steps a difference takes.
use Rattle.std.proofs.Common.{◌≡◌, ℕ, ◌+◌, ◌*◌, ◌≤◌, ◌⊎◌, List, [], length, inl, inr, sym, subst, arith}
use Rattle.std.proofs.lemmas.Nat.{mul-le}
use Rattle.span_core.specs.Lists.{AreDistinct}
use Rattle.marked_automaton.specs.declared.way.Way.{Way}
use Rattle.marked_automaton.specs.declared.fault.SizeFault.{SizeFault}
use Rattle.marked_automaton.specs.Automaton.{Automaton, Marked}
use Rattle.marked_automaton.proofs.Sizes.{reduct_is_no_larger}
use Rattle.algebra.specs.Joining.{IsGroupedOf}
use Rattle.algebra_minus.specs.declared.fault.MinusFault.{MinusFault}
use Rattle.algebra_minus.specs.declared.fault.MinusFault.TheVariants.{Size, Spent}
use Rattle.algebra_minus.specs.declared.search.Pair.{Pair}
use Rattle.algebra_minus.specs.Counts.{IsMinusFault}
use Rattle.algebra_minus.specs.Difference.{IsDifference}
use Rattle.algebra_minus.specs.DifferenceOf.{difference_of}
use Rattle.algebra_minus.specs.Found.{AreAllFollowed}
use Rattle.algebra_minus.specs.Steps.{HasAtMostPairs, HasAtMostWays, IsMinusRefusal, IsPaid, IsPaidOnce, IsRefusedWithin, covering_steps, end_steps, most_steps, partition_room, partition_steps, steps_with}
use Rattle.algebra_minus.proofs.Alike.{ways_have_bytes}
use Rattle.algebra_minus.proofs.Counts.{counts_are_no_more}
use Rattle.algebra_minus.proofs.DifferenceMade.{difference_made}
use Rattle.algebra_minus.proofs.Reducts.{reduct_of_difference}
use Rattle.algebra_minus.proofs.Refused.{refused_of_reducts, refused_within}
use Rattle.algebra_minus.proofs.Searching.{has_pairs, has_ways}

-- a set and a block, and the states that cover the next
parts_of : (B : Automaton) → partition_steps B ≡ partition_room B + covering_steps B
parts_of B = omega arith

-- one set and one block for each way and once more, in which are the states that cover the next
with_covering : (A B : Automaton) (before after states ways : ℕ) → before ≤ after + ((1 + ways) * partition_room B + covering_steps B + states * end_steps A B) →
    before ≤ after + steps_with A B states ways
with_covering A B before after states ways le =
    subst (λ p. before ≤ after + ((1 + ways) * p + states * end_steps A B)) (sym (parts_of B)) (sum (partition_room B) (covering_steps B) (states * end_steps A B) le)
  where
    sum : (r c e : ℕ) → before ≤ after + ((1 + ways) * r + c + e) → before ≤ after + ((1 + ways) * (r + c) + e)
    sum r c e l = omega (arith, l)

-- where nothing is searched
pub none_searched : (A B : Automaton) (before after : ℕ) → before ≤ after + covering_steps B → (states ways : ℕ) → before ≤ after + steps_with A B states ways
none_searched A B before after le states ways = with_covering A B before after states ways (omega (arith, le))

-- where the search is refused
pub search_refused : (A B : Automaton) (before start after : ℕ) → before ≤ start + covering_steps B → IsPaidOnce A B start [] after → (states ways : ℕ) → HasAtMostWays A B ways →
    before ≤ after + steps_with A B states ways
search_refused A B before start after first once states ways few =
    with_covering A B before after states ways (sum (partition_room B) ((1 + ways) * partition_room B) (covering_steps B) (states * end_steps A B) first (once ways few))
  where
    sum : (r w c e : ℕ) → before ≤ start + c → start + 0 * r ≤ after + w → before ≤ after + (w + c + e)
    sum r w c e one two = omega (arith, one, two)

-- where all is found, and the ends are tried
pub search_done : (A B : Automaton) (sets : List (List ℕ)) (keys : List Pair) (made : List Way) (before start middle after : ℕ) → before ≤ start + covering_steps B →
    IsPaid B start [] middle made → AreDistinct keys → AreAllFollowed A B sets keys made → (x : Way) → middle ≤ after + length keys * end_steps A B →
    (states ways : ℕ) → HasAtMostPairs A B states → HasAtMostWays A B ways → before ≤ after + steps_with A B states ways
search_done A B sets keys made before start middle after first paid apart end x spent states ways few_pairs few_ways =
    with_covering A B before after states ways
    (sum (partition_room B) (covering_steps B) (end_steps A B) (length made) (length keys) first paid spent
    (few_ways (length made) (has_ways A B sets keys made (end.made.0) (length keys) 0 apart end.found end.made.1 x))
    (few_pairs (length keys) (has_pairs A B sets end.found.sets_are keys apart end.found.reached)))
  where
    sum : (r c e w p : ℕ) → before ≤ start + c → start + 0 * r ≤ middle + w * r → middle ≤ after + p * e → w ≤ ways → p ≤ states →
        before ≤ after + ((1 + ways) * r + c + states * e)
    sum r c e w p one two three l m = omega (arith, one, two, three, mul-le w r (1 + ways) r (omega (arith, l)) (omega arith), mul-le p e states e m (omega arith))

-- the same of automata of which these are reducts
module _ (A B : Marked) (A1 B1 : Marked) (a : IsGroupedOf A A1) (b : IsGroupedOf B B1) where
  abbrev D : Automaton
  D = difference_of A.graph B.graph

  D1 : IsDifference A1.graph B1.graph (difference_of A1.graph B1.graph)
  D1 = difference_made A1.graph B1.graph a.new.whole b.new.whole

  fewer : ((difference_of A1.graph B1.graph).states ≤ D.states) × (length (difference_of A1.graph B1.graph).ways ≤ length D.ways)
  fewer =
      let n = difference_made A.graph B.graph a.old.whole b.old.whole in
      let less = reduct_is_no_larger (difference_of A1.graph B1.graph) D D1.4.whole (ways_have_bytes A1.graph B1.graph (difference_of A1.graph B1.graph) D1)
      (reduct_of_difference A1.graph A.graph B1.graph B.graph (difference_of A1.graph B1.graph) D a.reduct b.reduct D1 n) in
      (less.0, less.1)

  few_pairs : HasAtMostPairs A1.graph B1.graph D.states
  few_pairs n h = omega (arith, (counts_are_no_more A1.graph B1.graph (difference_of A1.graph B1.graph) D1).0 n h, fewer.0)

  few_ways : HasAtMostWays A1.graph B1.graph (length D.ways)
  few_ways n h = omega (arith, (counts_are_no_more A1.graph B1.graph (difference_of A1.graph B1.graph) D1).1 n h, fewer.1)

  no_more : steps_with A1.graph B1.graph D.states (length D.ways) ≤ most_steps A.graph B.graph
  no_more =
      let lefts = reduct_is_no_larger A1.graph A.graph a.new.whole a.new.some_byte a.reduct in
      let rights = reduct_is_no_larger B1.graph B.graph b.new.whole b.new.some_byte b.reduct in
      sum (partition_steps B1.graph) (partition_steps B.graph) (end_steps A1.graph B1.graph) (end_steps A.graph B.graph) (omega (arith, rights.0, rights.1))
      (mul-le (length A1.graph.stops) (1 + length B1.graph.stops) (length A.graph.stops) (1 + length B.graph.stops) lefts.2 (omega (arith, rights.2)))
    where
      sum : (c d e f : ℕ) → c ≤ d → e ≤ f → (1 + length D.ways) * c + D.states * e ≤ (1 + length D.ways) * d + D.states * f
      sum c d e f l m = omega (arith, mul-le (1 + length D.ways) c (1 + length D.ways) d (omega arith) l, mul-le D.states e D.states f (omega arith) m)

  -- what is taken of these
  pub steps_of_reducts : (before after : ℕ) →
      ((states ways : ℕ) → HasAtMostPairs A1.graph B1.graph states → HasAtMostWays A1.graph B1.graph ways → before ≤ after + steps_with A1.graph B1.graph states ways) →
      before ≤ after + most_steps A.graph B.graph
  steps_of_reducts before after takes = sum (steps_with A1.graph B1.graph D.states (length D.ways)) (most_steps A.graph B.graph) (takes D.states (length D.ways) few_pairs few_ways) no_more
    where
      sum : (m n : ℕ) → before ≤ after + m → m ≤ n → before ≤ after + n
      sum m n one two = omega (arith, one, two)

  -- what is told of a refusal
  pub told_refusal : (before after : ℕ) (fault : SizeFault) (e : MinusFault) → IsMinusFault A1.graph B1.graph fault → before ≤ after + most_steps A.graph B.graph →
      (e ≡ Size fault) ⊎ ((e ≡ Spent) × (after ≡ 0)) → IsMinusRefusal A.graph B.graph before e
  told_refusal before after fault e h takes (inl is) =
      subst (IsMinusRefusal A.graph B.graph before) (sym is)
      (refused_of_reducts A1.graph B1.graph A.graph B.graph a.new.whole b.new.whole a.old.whole b.old.whole a.reduct b.reduct fault h)
  told_refusal before after fault e h takes (inr is) = subst (IsMinusRefusal A.graph B.graph before) (sym is.0) (sum (most_steps A.graph B.graph) takes)
    where
      sum : (m : ℕ) → before ≤ after + m → before ≤ m
      sum m le = omega (arith, le, is.1)

  pub told_within : (after : ℕ) (fault : SizeFault) (e : MinusFault) → IsMinusFault A1.graph B1.graph fault → (e ≡ Size fault) ⊎ ((e ≡ Spent) × (after ≡ 0)) →
      IsRefusedWithin D.states (length D.ways) e
  told_within after fault e h (inl is) =
      subst (IsRefusedWithin D.states (length D.ways)) (sym is)
      (refused_within A.graph B.graph a.old.whole b.old.whole fault
      (refused_of_reducts A1.graph B1.graph A.graph B.graph a.new.whole b.new.whole a.old.whole b.old.whole a.reduct b.reduct fault h))
  told_within after fault e h (inr is) = subst (IsRefusedWithin D.states (length D.ways)) (sym is.0) tt
