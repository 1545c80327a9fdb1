-- Edges that are made one by one.
use Rattle.std.proofs.Common.{◌≡◌, ℕ, zero, suc, ◌+◌, ◌-◌, ◌*◌, ◌<◌, ◌≤◌, ◌⊎◌, List, [], ◌∷◌, ◌++◌, length, map, take, drop, inl, inr, refl, sym, ap, subst, arith, ◌∙◌, append_assoc, length-append, length-drop}
use Rattle.std.proofs.Math.Seq.{drop-nil}
use Rattle.std.proofs.lemmas.List.{map-append}
use Rattle.std.proofs.lemmas.List.Sums.{sum_by-append}
use Rattle.span_core.specs.declared.edge.Edge.{Edge}
use Rattle.span_core.specs.Lists.{Has}
use Rattle.span_core.proofs.HasLaws.{Has-append_cases}
use Rattle.automaton_reading.specs.Reading.{Reach}
use Rattle.set_table.specs.Cut.{cut}
use Rattle.set_table.specs.Named.{PutsRun, run}
use Rattle.numbered_lists.specs.Numbered.{IsLongerBy, with_set, with_sets}
use Rattle.set_table.specs.Tabled.{edge_named, sets_weight}
use Rattle.numbered_lists.proofs.SetsLaws.{at_place, longer_then, set_stays, with_set_cases, with_set_longer}

-- what a set weighs where it is put in
pub weight_with : (sets new : List (List ℕ)) (s : List ℕ) (n w : ℕ) → new ≡ with_set sets s → length s ≡ n →
    ((length new ≡ length sets) × (w ≡ 1)) ⊎ ((length new ≡ length sets → ⊥) × (w ≡ 2 + n)) → sets_weight new + 1 ≡ sets_weight sets + w
weight_with sets new s n w is len case = go (with_set_cases sets s) case
  where
    go : (with_set sets s ≡ sets) ⊎ (with_set sets s ≡ sets ++ s ∷ []) →
        ((length new ≡ length sets) × (w ≡ 1)) ⊎ ((length new ≡ length sets → ⊥) × (w ≡ 2 + n)) → sets_weight new + 1 ≡ sets_weight sets + w
    go (inl e) (inl k) = let h = ap sets_weight (is ∙ e) in omega (arith, h, k.1)
    go (inl e) (inr k) = absurd (k.0 (ap length (is ∙ e)))
    go (inr e) (inl k) = let h : length new ≡ length (sets ++ s ∷ []) = ap length (is ∙ e) in absurd (omega (arith, h, k.0, length-append sets (s ∷ [])))
    go (inr e) (inr k) =
        let h : sets_weight new ≡ sets_weight (sets ++ s ∷ []) = ap sets_weight (is ∙ e) in
        let a : sets_weight (sets ++ s ∷ []) ≡ sets_weight sets + sets_weight (s ∷ []) = sum_by-append (λ set. 1 + length set) sets (s ∷ []) in
        let b : sets_weight (s ∷ []) ≡ 1 + length s = one s in
        omega (arith, h, a, b, k.1, len)
      where
        one : (x : List ℕ) → sets_weight (x ∷ []) ≡ 1 + length x
        one x = omega arith

-- the edges so far, and the numbers that are left
pub record IsNaming (codes : List ℕ) (sets0 sets : List (List ℕ)) (edges0 edges : List Edge) (at w : ℕ) : Type 0 where
  pub within : at ≤ length codes
  pub known : with_sets sets (map (λ (e : Reach). e.to) (cut (drop at codes))) ≡ with_sets sets0 (map (λ (e : Reach). e.to) (cut codes))
  pub made : List Edge
  pub pushed : edges ≡ edges0 ++ made
  pub named : map (edge_named sets) made ++ cut (drop at codes) ≡ cut codes
  pub numbers : (e : Edge) → Has made e → e.to < length sets
  pub weighs : sets_weight sets + length made ≡ sets_weight sets0 + w
  pub small : w ≤ 3 * at
  pub few : length sets ≤ length sets0 + at
  pub longer : IsLongerBy sets0 sets

pub named_stay : (sets more : List (List ℕ)) (made : List Edge) → ((e : Edge) → Has made e → e.to < length sets) → map (edge_named (sets ++ more)) made ≡ map (edge_named sets) made
named_stay sets more [] l = refl
named_stay sets more (e ∷ made) l =
    let rest = named_stay sets more made (λ x h. l x (inr h)) in
    let here = set_stays sets more e.to (l e (inl refl)) in
    (λ i. let r : Reach = record { marks = e.marks; to = here i } in r ∷ rest i)

drop_drop : {X : Type 0} (n k : ℕ) (xs : List X) → drop k (drop n xs) ≡ drop (n + k) xs
drop_drop zero k xs = let e : k ≡ 0 + k = omega arith in ap (λ i. drop i xs) e
drop_drop (suc n) k [] = drop-nil k ∙ (let e : suc (n + k) ≡ suc n + k = omega arith in ap (λ i. drop i []) e)
drop_drop (suc n) k (x ∷ xs) = drop_drop n k xs ∙ (let e : suc (n + k) ≡ suc n + k = omega arith in ap (λ i. drop i (x ∷ xs)) e)

-- what a slice to the end is
pub rest_is : {X : Type 0} (at : ℕ) (xs : List X) → take (length xs - at) (drop at xs) ≡ drop at xs
rest_is at xs = ap (λ n. take n (drop at xs)) (sym (length-drop at xs)) ∙ whole (drop at xs)
  where
    whole : {Y : Type 0} (ys : List Y) → take (length ys) ys ≡ ys
    whole [] = refl
    whole (y ∷ ys) = ap (λ zs. y ∷ zs) (whole ys)

pub naming_more : (codes : List ℕ) (sets0 sets new : List (List ℕ)) (edges0 edges more : List Edge) (at w count added : ℕ) →
    IsNaming codes sets0 sets edges0 edges at w → PutsRun (drop at codes) sets new edges more count added → IsNaming codes sets0 new edges0 more (at + count) (w + added)
naming_more codes sets0 sets new edges0 edges more at w count added n p =
    let grown = with_set_longer sets (run (drop at codes) count).to in
    let longer : IsLongerBy sets new = (grown.0, p.known ∙ grown.1) in
    let rest : drop count (drop at codes) ≡ drop (at + count) codes = drop_drop at count codes in
    let cuts : cut (drop at codes) ≡ run (drop at codes) count ∷ cut (drop (at + count) codes) = p.cuts ∙ ap (λ xs. run (drop at codes) count ∷ cut xs) rest in
    let there = at_place new p.edge.to (run (drop at codes) count).to p.number in
    let stay : map (edge_named new) n.made ≡ map (edge_named sets) n.made = ap (λ (x : List (List ℕ)). map (edge_named x) n.made) longer.1 ∙ named_stay sets longer.0 n.made n.numbers in
    let last : edge_named new p.edge ≡ run (drop at codes) count = (λ i. let r : Reach = record { marks = p.marks i; to = there.0 i } in r) in
    let left : length (drop at codes) ≡ length codes - at = length-drop at codes in
    record {
      within = omega (arith, p.within, left, n.within);
      known =
          ap (λ (x : List (List ℕ)). with_sets x (map (λ (e : Reach). e.to) (cut (drop (at + count) codes)))) p.known
          ∙ (ap (λ (x : List Reach). with_sets sets (map (λ (e : Reach). e.to) x)) (sym cuts) ∙ n.known);
      made = n.made ++ p.edge ∷ [];
      pushed = p.pushed ∙ (ap (λ (x : List Edge). x ++ p.edge ∷ []) n.pushed ∙ append_assoc edges0 n.made (p.edge ∷ []));
      named =
          ap (λ (x : List Reach). x ++ cut (drop (at + count) codes)) (map-append (edge_named new) n.made (p.edge ∷ []))
          ∙ (append_assoc (map (edge_named new) n.made) (edge_named new p.edge ∷ []) (cut (drop (at + count) codes))
          ∙ ((λ i. stay i ++ last i ∷ cut (drop (at + count) codes)) ∙ (ap (λ (x : List Reach). map (edge_named sets) n.made ++ x) (sym cuts) ∙ n.named)));
      numbers = λ e h. elim (Has-append_cases n.made (p.edge ∷ []) e h) [
        | inl k ↦ let a = n.numbers e k in omega (arith, a, ap length longer.1, length-append sets longer.0)
        | inr k ↦ elim k as (λ _. e.to < length new) [ inl f ↦ subst (λ (x : Edge). x.to < length new) f there.1 | inr f ↦ absurd f ]
      ];
      weighs = omega (arith, n.weighs, p.weighs, length-append n.made (p.edge ∷ []));
      small = omega (arith, n.small, p.small);
      few = omega (arith, n.few, p.few, p.some);
      longer = longer_then sets0 sets new n.longer longer;
    }
