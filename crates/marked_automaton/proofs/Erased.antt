-- The automaton with the markers of the kept variables alone.
use Rattle.std.proofs.Common.{◌≡◌, ℕ, ◌*◌, ◌^◌, ◌/◌, ◌%◌, ◌<◌, Bool, true, false, List, [], ◌∷◌, Option, length, map, refl, sym, ap, subst, arith, ◌∙◌}
use Rattle.std.specs.FinSet as set
use Rattle.std.specs.Prelude.{if◌then◌else◌}
use Rattle.std.specs.Str.{bytes_eq}
use Rattle.std.proofs.Math.Nat.{zero-div, zero-mod}
use Rattle.std.proofs.lemmas.List.{length-map}
use Rattle.span_core.specs.NameSets.{Ascending}
use Rattle.spanner_model.specs.Captures.{VarName}
use Rattle.span_core.specs.Lists.{Has}
use Rattle.span_core.proofs.HasLaws.{Has-map, Has-map_cases}
use Rattle.spanner_model.proofs.NameLaws.{ascending-distinct}
use Rattle.marked_automaton.specs.declared.way.Way.{Way}
use Rattle.marked_automaton.specs.declared.way.Stop.{Stop}
use Rattle.marked_automaton.specs.Automaton.{Automaton, IsBlockOf, IsMarked, ByteClass, idle_way}
use Rattle.marked_automaton.specs.Erased.{ArePlaces, picked}
use Rattle.marked_automaton.specs.Inside.{flagged, graph_of}
use Rattle.marked_automaton.specs.Marks.{bits_of, left_of, remarked, remarked_stop, remarked_way}
use Rattle.marked_automaton.proofs.EraserLaws.{map_same, picked_is_left, picked_small}

-- of no block nothing is left
pub bits_zero : (names : List VarName) (x : VarName) → bits_of names 0 x ≡ 0
bits_zero [] x = refl
bits_zero (y ∷ ys) x = go (bytes_eq y x) (bits_zero ys x)
  where
    go : (b : Bool) → bits_of ys 0 x ≡ 0 → (if b then 0 / 2 ^ (2 * length ys) else bits_of ys (0 % 2 ^ (2 * length ys)) x) ≡ 0
    go true rest = zero-div (2 ^ (2 * length ys))
    go false rest = ap (λ m. bits_of ys m x) (zero-mod (2 ^ (2 * length ys))) ∙ rest

pub left_zero : (names keep : List VarName) → left_of names keep 0 ≡ 0
left_zero names [] = refl
left_zero names (x ∷ keep) =
    let here : bits_of names 0 x * 2 ^ (2 * length keep) ≡ 0 * 2 ^ (2 * length keep) = ap (λ b. b * 2 ^ (2 * length keep)) (bits_zero names x) in
    omega (arith, here, left_zero names keep)

module _ (names keep : List VarName) (places : List (Option ℕ)) (ascending : Ascending names) (are : ArePlaces names keep places) where
  abbrev left : ℕ → ℕ
  left m = left_of names keep m

  left_is : (m : ℕ) → m < 2 ^ (2 * length names) → picked (length names) places m ≡ left m
  left_is m small = picked_is_left names keep places m (ascending-distinct names ascending) are small

  left_small : (m : ℕ) → IsBlockOf (length names) m → IsBlockOf (length keep) (left m)
  left_small m small = subst (λ n. left m < 2 ^ (2 * n)) are.0 (subst (λ k. k < 2 ^ (2 * length places)) (left_is m small) (picked_small (length names) m places))

  module _ (B : Automaton) (marked : IsMarked (record { names = names; graph = B })) where
    -- the parts that were made are those of the remarked automaton
    pub erased_graph : (all : ℕ) (ways ways2 : List Way) (stops stops2 : List Stop) (starts : List ℕ) (idle old_idle : List Bool) → all ≡ length names → ways ≡ B.ways → stops ≡ B.stops →
        starts ≡ B.starts → idle ≡ old_idle → B.idle ≡ flagged 0 old_idle → ways2 ≡ map (remarked_way (picked all places)) ways → stops2 ≡ map (remarked_stop (picked all places)) stops →
        graph_of B.states starts ways2 stops2 idle ≡ remarked (left_of names keep) B
    erased_graph all ways ways2 stops stops2 starts idle old_idle n a b s i f w t =
        let q2 : ways2 ≡ map (remarked_way (picked (length names) places)) B.ways =
        w ∙ (ap (λ v. map (remarked_way (picked v places)) ways) n ∙ ap (map (remarked_way (picked (length names) places))) a) in
        let t2 : stops2 ≡ map (remarked_stop (picked (length names) places)) B.stops =
        t ∙ (ap (λ v. map (remarked_stop (picked v places)) stops) n ∙ ap (map (remarked_stop (picked (length names) places))) b) in
        let q3 : map (remarked_way (picked (length names) places)) B.ways ≡ map (remarked_way left) B.ways =
        map_same (remarked_way (picked (length names) places)) (remarked_way left) B.ways
        (λ y h. let to : ℕ → Way = λ m. record { from = y.from; marks = m; bytes = y.bytes; to = y.to } in ap to (left_is y.marks (marked.way_marks y h))) in
        let t3 : map (remarked_stop (picked (length names) places)) B.stops ≡ map (remarked_stop left) B.stops =
        map_same (remarked_stop (picked (length names) places)) (remarked_stop left) B.stops
        (λ x h. let to : ℕ → Stop = λ m. record { state = x.state; marks = m } in ap to (left_is x.marks (marked.stop_marks x h))) in
        let q4 : ways2 ≡ map (remarked_way left) B.ways = q2 ∙ q3 in
        let t4 : stops2 ≡ map (remarked_stop left) B.stops = t2 ∙ t3 in
        let i2 : flagged 0 idle ≡ B.idle = ap (flagged 0) i ∙ sym f in
        λ k. record { states = B.states; starts = s k; ways = q4 k; stops = t4 k; idle = i2 k }

    pub erased_marked : IsMarked (record { names = keep; graph = remarked (left_of names keep) B })
    erased_marked = record {
      few_states = marked.few_states;
      few_ways = let e : length (map (remarked_way left) B.ways) ≡ length B.ways = length-map B.ways (remarked_way left) in omega (arith, e, marked.few_ways);
      whole = record {
        starts = marked.whole.starts;
        froms = λ y h. let x = Has-map_cases (remarked_way left) B.ways y h in omega (arith, marked.whole.froms x.0 x.1, ap (λ (z : Way). z.from) x.2);
        tos = λ y h. let x = Has-map_cases (remarked_way left) B.ways y h in omega (arith, marked.whole.tos x.0 x.1, ap (λ (z : Way). z.to) x.2);
        stops = λ x h. let r = Has-map_cases (remarked_stop left) B.stops x h in omega (arith, marked.whole.stops r.0 r.1, ap (λ (z : Stop). z.state) r.2);
        idles = marked.whole.idles;
      };
      way_marks = λ y h.
          let x = Has-map_cases (remarked_way left) B.ways y h in
          subst (IsBlockOf (length keep)) (ap (λ (z : Way). z.marks) x.2) (left_small x.0.marks (marked.way_marks x.0 x.1));
      stop_marks = λ x h.
          let r = Has-map_cases (remarked_stop left) B.stops x h in
          subst (IsBlockOf (length keep)) (ap (λ (z : Stop). z.marks) r.2) (left_small r.0.marks (marked.stop_marks r.0 r.1));
      some_byte = λ y h.
          let x = Has-map_cases (remarked_way left) B.ways y h in
          subst (λ (s : ByteClass). ¬ (s ≡ set.empty)) (ap (λ (z : Way). z.bytes) x.2) (marked.some_byte x.0 x.1);
      idle_ways = λ p h.
          let there = Has-map (remarked_way left) B.ways (idle_way p) (marked.idle_ways p h) in
          let to : ℕ → Way = λ m. record { from = p; marks = m; bytes = (idle_way p).bytes; to = p } in
          subst (Has (map (remarked_way left) B.ways)) (ap to (left_zero names keep)) there;
    }
