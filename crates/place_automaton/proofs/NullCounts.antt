-- The blocks that are counted for the empty string have bits of the formula's variables alone.
use Rattle.std.proofs.Common.{◌≡◌, ℕ, ◌+◌, List, inl, inr, refl, sym, ap, ◌∙◌, subst, arith}
use Rattle.std.specs.Prelude.{bit_or}
use Rattle.std.specs.Int.Bits.{or_zero_l}
use Rattle.spanner_model.specs.Captures.{VarName}
use Rattle.span_core.specs.Lists.{AreDistinct, Has}
use Rattle.spanner_model.specs.Tree.{Tree, cat, cap}
use Rattle.place_automaton.specs.Counts.{counts_over}
use Rattle.place_automaton.specs.Drafts.{AreNamed}
use Rattle.place_automaton.specs.Sides.{JoinAsSum}
use Rattle.place_automaton.specs.Places.{add_once, sums}
use Rattle.spanner_model.specs.Sequential.{HasNoVar, IsSequential}
use Rattle.place_automaton.specs.Repeats.{HasOrderedRepeats}
use Rattle.place_automaton.specs.Words.{opening_of, closing_of}
use Rattle.place_automaton.proofs.CountLaws.{lengths}
use Rattle.place_automaton.proofs.FineLaws.{VarBits, Within, mark_apart, vars_apart}
use Rattle.place_automaton.proofs.MarkBits.{apart_sum, no_bits, own_apart, sum_bit}
use Rattle.place_automaton.proofs.NullSets.{null_set}
use Rattle.place_automaton.proofs.Shows.{once_cases, sums_cases}

-- what is asked of a formula that is counted
abbrev pub IsCountable : List VarName → Tree → Type 0
IsCountable names f = IsSequential f × HasOrderedRepeats f × AreNamed names f

null_within : (names : List VarName) (f : Tree) → IsCountable names f → (m : ℕ) → Has (counts_over names f).null m → Within (VarBits names f) m
null_within names f ok m h =
    (null_set names f ok.0 ok.1 ok.2 1).within m (rw (lengths (opening_of names) (closing_of names) f 1).null h)

-- none is there twice
pub null_distinct : (names : List VarName) (f : Tree) → IsCountable names f → AreDistinct (counts_over names f).null
null_distinct names f ok = subst AreDistinct (lengths (opening_of names) (closing_of names) f 1).null (null_set names f ok.0 ok.1 ok.2 1).distinct

-- of two parts they join as sums
pub null_joins : (names : List VarName) (f g : Tree) → IsCountable names (cat f g) → (m n : ℕ) →
    Has (counts_over names f).null m → Has (counts_over names g).null n → JoinAsSum m n
null_joins names f g ok m n hm hn =
    let nf : AreNamed names f = λ x h. ok.2 x (inl h) in
    let ng : AreNamed names g = λ x h. ok.2 x (inr h) in
    apart_sum m n (λ i a b.
    vars_apart names f g nf ng ok.0.2 i (null_within names f (ok.0.0, ok.1.0, nf) m hm i a) (null_within names g (ok.0.1, ok.1.1, ng) n hn i b))

-- where there is no variable they are empty
pub null_bare : (names : List VarName) (f : Tree) → IsCountable names f → HasNoVar f → (m : ℕ) → Has (counts_over names f).null m → m ≡ 0
null_bare names f ok none m h = no_bits m (λ i b. let v = null_within names f ok m h i b in none v.0 v.1)

-- in a capture
pub null_captured : (names : List VarName) (x : VarName) (f : Tree) → IsCountable names (cap x f) → (m : ℕ) →
    Has (counts_over names f).null m → JoinAsSum (opening_of names x + closing_of names x) m
null_captured names x f ok m h =
    let o = opening_of names x in
    let c = closing_of names x in
    let has : Has names x = ok.2 x (inl refl) in
    let nf : AreNamed names f = λ y v. ok.2 y (inr v) in
    let within = null_within names f (ok.0.0, ok.1, nf) m h in
    apart_sum (o + c) m (λ i a b. elim (sum_bit o c i (own_apart names x has) a) [
      | inl p ↦ mark_apart names x f o has nf ok.0.1 (λ i b. inl b) i p (within i b)
      | inr q ↦ mark_apart names x f c has nf ok.0.1 (λ i b. inr b) i q (within i b)
    ])

abbrev pub AreZero : List ℕ → Type 0
AreZero ms = (m : ℕ) → Has ms m → m ≡ 0

pub zero_sums : (ms ns : List ℕ) → AreZero ms → AreZero ns → AreZero (sums ms ns)
zero_sums ms ns a b m h =
    let r = sums_cases ms ns m h in omega (arith, a r.0 r.2, b r.1 r.3, r.4)

pub zero_joins : (ms ns : List ℕ) → AreZero ms → AreZero ns → (m n : ℕ) → Has ms m → Has ns n → JoinAsSum m n
zero_joins ms ns a b m n hm hn =
    let e : m ≡ 0 = a m hm in
    ap (λ (x : ℕ). bit_or x n) e ∙ (or_zero_l n ∙ (let g : n ≡ m + n = omega (arith, e) in g))

pub zero_once : (ms : List ℕ) → AreZero ms → AreZero (add_once 0 ms)
zero_once ms a m h = elim (once_cases 0 ms m h) [ inl e ↦ sym e | inr k ↦ a m k ]
