-- What the search takes from the effort.
use Rattle.std.proofs.Common.{◌≡◌, ℕ, ◌+◌, ◌*◌, ◌≤◌, ◌<◌, List, [], ◌∷◌, length, refl, sym, ap, arith, ◌∙◌}
use Rattle.std.specs.Prelude.{OnErr}
use Rattle.std.specs.declared.result.Result.{Result}
use Rattle.std.specs.declared.result.Result.TheVariants.{Ok, Err}
use Rattle.std.specs.FinSet as set
use Rattle.std.specs.FinSet.{items, contains-items, contains-empty}
use Rattle.std.specs.List.{list_any}
use Rattle.std.specs.Ordering.{nat_cmp, eq_by_cmp}
use Rattle.std.proofs.lemmas.Nat.{mul-le}
use Rattle.span_core.specs.Lists.{AreDistinct}
use Rattle.span_core.proofs.ByteSetLaws.{same_bytes}
use Rattle.marked_automaton.specs.declared.way.Way.{Way}
use Rattle.marked_automaton.specs.Automaton.{Automaton, ByteClass, HasByte}
use Rattle.algebra.specs.Operations.{is_some_list}
use Rattle.algebra.proofs.Bytes.{some_has}
use Rattle.algebra_minus.specs.declared.search.Pair.{Pair}
use Rattle.algebra_minus.specs.Found.{AreMade, IsFound}
use Rattle.algebra_minus.specs.Steps.{IsPaid, IsPaidOnce, partition_room}
use Rattle.algebra_minus.proofs.Searching.{has_ways}

-- a set that is not empty has some byte
pub full_has : (bytes : ByteClass) → ¬ (bytes ≡ set.empty) → (c : ℕ) × HasByte bytes c
full_has bytes full = go (items bytes) refl
  where
    go : (ks : List ℕ) → items bytes ≡ ks → (c : ℕ) × HasByte bytes c
    go [] e = absurd (full (same_bytes bytes set.empty (λ q. contains-items bytes q ∙ (ap (list_any (eq_by_cmp nat_cmp q)) e ∙ sym (contains-empty nat_cmp q)))))
    go (k ∷ ks) e = some_has bytes (ap is_some_list e)

-- one partition for one way more
pub paid_one : (before after c l n : ℕ) → before ≤ after + c → l < n → before + l * c ≤ after + n * c
paid_one before after c l n cost more = omega (arith, cost, mul-le (l + 1) c n c (omega (arith, more)) (omega arith))

pub paid : (B : Automaton) (before after : ℕ) (old new : List Way) → before ≤ after + partition_room B → length old < length new → IsPaid B before old after new
paid B before after old new cost more = paid_one before after (partition_room B) (length old) (length new) cost more

-- where a way is refused
pub paid_once : (A B : Automaton) (sets : List (List ℕ)) (keys : List Pair) (ways : List Way) (origin : ℕ → ℕ) (done place : ℕ) → AreDistinct keys → IsFound A B sets keys →
    AreMade A B sets keys ways origin done place → (x : Way) (before after : ℕ) → before ≤ after + partition_room B → IsPaidOnce A B before ways after
paid_once A B sets keys ways origin done place apart found made x before after cost most within =
    sum (partition_room B) (length ways) cost (within (length ways) (has_ways A B sets keys ways origin done place apart found made x))
  where
    sum : (c l : ℕ) → before ≤ after + c → l ≤ most → before + l * c ≤ after + (1 + most) * c
    sum c l le few = omega (arith, le, mul-le (l + 1) c (1 + most) c (omega (arith, few)) (omega arith))

-- and after ways that are paid
pub paid_then : (A B : Automaton) (before middle after : ℕ) (old ways : List Way) → IsPaid B before old middle ways → IsPaidOnce A B middle ways after → IsPaidOnce A B before old after
paid_then A B before middle after old ways first second most within =
    sum (length old * partition_room B) (length ways * partition_room B) ((1 + most) * partition_room B) first (second most within)
  where
    sum : (o w m : ℕ) → before + o ≤ middle + w → middle + w ≤ after + m → before + o ≤ after + m
    sum o w m one two = omega (arith, one, two)

pub paid_same : (B : Automaton) (before : ℕ) (ways : List Way) → IsPaid B before ways before ways
paid_same B before ways = omega arith

-- ---- ends

-- those of one more
pub ends_one : (before middle after k n x : ℕ) → before ≤ middle + k * x → middle ≤ after + x → k < n → before ≤ after + n * x
ends_one before middle after k n x first second l = omega (arith, first, second, mul-le (k + 1) x n x (omega (arith, l)) (omega arith))

pub ends_of : (before after k n x : ℕ) → before ≤ after + k * x → k ≤ n → before ≤ after + n * x
ends_of before after k n x first l = omega (arith, first, mul-le k x n x l (omega arith))

-- at one pair
pub ends_here : (before after s r : ℕ) → before ≤ after + (s + s * r) → before ≤ after + s * (1 + r)
ends_here before after s r le = omega (arith, le)

-- what holds anyhow holds where there is an error
pub on_err : {T E : Type 0} (P : Type 0) (r : Result T E) → P → OnErr r P
on_err P (Ok x) p = tt
on_err P (Err e) p = p
