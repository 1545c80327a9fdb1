-- What is answered where null is too large, and where it is not.
use Rattle.std.proofs.Common.{◌≡◌, ℕ, ◌*◌, ◌<◌, ◌≤◌, Bool, true, false, List, [], Option, Result, Ok, Err, IfOk, length, inl, inr, sym, ap, ◌∙◌, subst, arith}
use Rattle.std.specs.Prelude.{IfErr, IsErrAnd, OnErr, OnOk}
use Rattle.std.proofs.lemmas.Bool.{le-ltb, lt-ltb}
use Rattle.spanner_model.specs.Captures.{VarName}
use Rattle.spanner_model.specs.Tree.{Tree, rep}
use Rattle.marked_automaton.proofs.Listed.{compared}
use Rattle.place_automaton.specs.declared.TheConstants.{MOST_SETS}
use Rattle.place_automaton.specs.declared.counting.CountFault.{CountFault}
use Rattle.place_automaton.specs.declared.counting.CountFault.TheVariants.{LargeNull}
use Rattle.place_automaton.specs.declared.numbers.Numbers.{Numbers}
use Rattle.place_automaton.specs.Capped.{AreCapped}
use Rattle.place_automaton.specs.Counts.{PlaceCounts, counts_over, has_large_null, largest_null_over}
use Rattle.place_automaton.specs.Variables.{with_vars}
use Rattle.place_automaton.proofs.CountLaws.{mul_same}

-- null is said to be too large only where it is
abbrev pub IsLargeFault : ℕ → CountFault → Type 0
IsLargeFault n e = e ≡ LargeNull → MOST_SETS < n

-- the answer of a formula that is counted
pub record IsCounted (names : List VarName) (r : Result Numbers CountFault) (f : Tree) : Type 0 where
  pub ok : IfOk r (λ n. AreCapped (counts_over names f) n)
  pub small : OnOk r (largest_null_over names f ≤ MOST_SETS)
  pub err : IfErr r (IsLargeFault (largest_null_over names f))

-- a repetition, which is counted unless its null is too large
pub counted_repeat : (names : List VarName) (f : Tree) (least : ℕ) (most : Option ℕ) (n : Numbers) (r : Result Numbers CountFault) →
    AreCapped (counts_over names (rep f least most)) n → largest_null_over names f ≤ MOST_SETS →
    IfOk r (λ m. m ≡ n) → OnOk r (length n.null.items ≤ MOST_SETS) → OnErr r (MOST_SETS < length n.null.items) → IsCounted names r (rep f least most)
counted_repeat names f least most n (Ok m) all part ok small err =
    let size = ap (λ (ms : List ℕ). length ms) all.null in
    record { ok = subst (AreCapped (counts_over names (rep f least most))) (sym ok) all; small = omega (arith, size, part, small); err = tt }
counted_repeat names f least most n (Err e) all part ok small err =
    let size = ap (λ (ms : List ℕ). length ms) all.null in
    record { ok = tt; small = tt; err = λ is. omega (arith, size, err) }

-- how many sets there are, of two parts that are joined
pub sizes_product : (a b : PlaceCounts) (m n : Numbers) → AreCapped a m → AreCapped b n → length m.null.items * length n.null.items ≡ length a.null * length b.null
sizes_product a b m n p q =
    mul_same (length m.null.items) (length a.null) (length n.null.items) (length b.null) (ap (λ (ms : List ℕ). length ms) p.null) (ap (λ (ms : List ℕ). length ms) q.null)

pub not_large : (large : Bool) (most n : ℕ) → large ≡ false → (most < n → large ≡ true) → n ≤ most
not_large large most n small is = elim (compared n most) [ inl l ↦ omega (arith, l) | inr l ↦ elim l [ inl e ↦ omega (arith, e) | inr g ↦ differ (sym small ∙ is (omega (arith, g))) ] ]
  where
    differ : false ≡ true → n ≤ most
    differ e = absurd (cc)

-- an error that is handed on
pub handed_on : (P : CountFault → Type 0) (r : Result Numbers CountFault) (e : CountFault) → IsErrAnd r (λ g. g ≡ e) → P e → IfErr r P
handed_on P (Ok n) e h p = absurd h
handed_on P (Err g) e h p = subst P (sym h) p

-- over the formula's own variables
pub null_within : (f : Tree) (names : List VarName) (r : Result Numbers CountFault) → names ≡ with_vars [] f →
    OnOk r (largest_null_over names f ≤ MOST_SETS) → OnOk r (has_large_null f ≡ false)
null_within f names (Ok n) is small = le-ltb MOST_SETS (largest_null_over (with_vars [] f) f) (rw (← is) small)
null_within f names (Err e) is small = tt

pub null_past : (f : Tree) (names : List VarName) (r : Result Numbers CountFault) → names ≡ with_vars [] f →
    IfErr r (IsLargeFault (largest_null_over names f)) → IfErr r (λ e. e ≡ LargeNull → has_large_null f ≡ true)
null_past f names (Ok n) is large = tt
null_past f names (Err e) is large = λ same. lt-ltb MOST_SETS (largest_null_over (with_vars [] f) f) (rw (← is) (large same))
