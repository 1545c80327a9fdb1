-- Automata that differ in the order of their ways.
use Rattle.std.proofs.Common.{◌≡◌, ℕ, ◌<◌, List, Some, None, inl, inr, refl, sym, ap, subst, arith, ◌∙◌}
use Rattle.std.specs.Prelude.{slice_get, if◌then◌else◌}
use Rattle.std.specs.List.Sorted.{IsPermutation}
use Rattle.std.proofs.lemmas.Bool.{lt-ltb, le-ltb, cases_lt}
use Rattle.std.proofs.lemmas.List.Sorted.{IsPermutation-refl}
use Rattle.span_core.specs.Lists.{Has}
use Rattle.marked_automaton.specs.declared.way.Way.{Way}
use Rattle.marked_automaton.specs.Automaton.{Automaton, IsWhole}
use Rattle.marked_automaton.specs.Reduct.{HasEnd, IsReduct, Reduces, Rearranges, same_below}
use Rattle.span_core.proofs.HasLaws.{Has-slice_get}
use Rattle.marked_automaton.proofs.Permuted.{IsPlaced, permutation_placed}
use Rattle.marked_automaton.proofs.Listed.{some_same}

pub below_some : (n b : ℕ) → b < n → same_below n b ≡ Some b
below_some n b l = ap (λ t. if t then Some b else None) (lt-ltb b n l)

pub some_below : (n b a : ℕ) → same_below n b ≡ Some a → (b < n) × (b ≡ a)
some_below n b a e =
    elim (cases_lt b n) [
      | inl l ↦ (l, some_same b a (sym (below_some n b l) ∙ e))
      | inr g ↦ let f : same_below n b ≡ None = ap (λ t. if t then Some b else None) (le-ltb b n g) in absurd (cc)
    ]

-- the automaton with these ways
abbrev pub with_these : List Way → Automaton → Automaton
with_these ways B = record { states = B.states; starts = B.starts; ways = ways; stops = B.stops; idle = B.idle }

pub placed_rearranges : (B : Automaton) (ways : List Way) (g : ℕ → ℕ) → IsWhole B → IsPlaced B.ways ways g →
    IsReduct (with_these ways B) B (same_below B.states) (λ k. Some (g k)) (λ b k. k)
placed_rearranges B ways g whole p = record {
  from_states = λ b k. (some_below B.states b k.0 k.1).0;
  to_states = λ b a e. let r = some_below B.states b a e in omega (arith, r.0, r.1);
  onto = λ a l. (a, below_some B.states a l);
  starts_there = λ b a h e. subst (Has B.starts) (some_below B.states b a e).1 h;
  starts_back = λ a h. (a, h, below_some B.states a (whole.starts a h));
  knows_ends = λ b m reached h. (b, below_some B.states b (whole.stops (record { state = b; marks = m }) h));
  knows_before = λ y h reached to. (y.from, below_some B.states y.from (whole.froms y h));
  ways_known = λ k y at.
      let h = has_at k y at in
      ((λ known. ((y.from, below_some B.states y.from (whole.froms y h)), (y.to, below_some B.states y.to (whole.tos y h)))), (λ known. (g k, refl)));
  ways_there = λ k y h at e.
      let has = has_at k y at in
      let same : g k ≡ h = some_same (g k) h e in
      let there : slice_get ways h ≡ Some y = subst (λ m. slice_get ways m ≡ Some y) same (p.there k y at) in
      (y, there, refl, below_some B.states y.from (whole.froms y has), below_some B.states y.to (whole.tos y has), λ c byte. byte);
  ways_back = λ b h c x at e byte.
      let r = p.back h x at in
      (r.0, x, r.1, sym (some_below B.states b x.from e).1, byte, ap Some r.2);
  ends_back = λ b a m e h. subst (λ q. HasEnd B q m) (some_below B.states b a e).1 h;
  ends_there = λ b a k x e get end. (x, get, end ∙ sym (some_below B.states b a e).1, refl);
  ends_apart = λ b a k l x y e getx endx gety endy same. same;
  idles = λ b a e.
      let f = (some_below B.states b a e).1 in
      ((λ h. subst (Has B.idle) (sym f) h), (λ h. subst (Has B.idle) f h));
}
  where
    has_at : (k : ℕ) (y : Way) → slice_get B.ways k ≡ Some y → Has B.ways y
    has_at k y at = Has-slice_get B.ways k y at

pub permutation_rearranges : (B : Automaton) (ways : List Way) → IsWhole B → IsPermutation B.ways ways → Rearranges (with_these ways B) B
permutation_rearranges B ways whole p =
    let r = permutation_placed B.ways ways p in
    ((λ k. Some (r.0 k)), placed_rearranges B ways r.0 whole r.1)

pub rearranges_itself : (A : Automaton) → IsWhole A → Rearranges A A
rearranges_itself A whole = permutation_rearranges A A.ways whole (IsPermutation-refl A.ways)

pub rearranged_reduces : (A B : Automaton) → Rearranges A B → Reduces A B
rearranged_reduces A B r = (same_below B.states, r.0, (λ b k. k), r.1)

pub reduct_of_itself : (A : Automaton) → IsWhole A → Reduces A A
reduct_of_itself A whole = rearranged_reduces A A (rearranges_itself A whole)
