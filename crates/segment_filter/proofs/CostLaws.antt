-- The readings that are made cost as much as those of the definition.
use Rattle.std.proofs.Common.{◌≡◌, ℕ, ◌+◌, ◌*◌, ◌≤◌, ◌↔◌, List, [], Bool, sym, ap, subst, arith, ◌∙◌}
use Rattle.std.specs.List.{filter}
use Rattle.std.proofs.Math.Nat.{mul-le-mul_right}
use Rattle.std.proofs.lemmas.List.{length-map}
use Rattle.span_core.specs.NameSets.{Ascending}
use Rattle.spanner_model.specs.Captures.{VarName}
use Rattle.spanner_model.specs.Sequential.{HasVar}
use Rattle.span_core.specs.Lists.{Has}
use Rattle.spanner_model.specs.Tree.{Tree}
use Rattle.spanner_model.specs.Expression.{AtomTree}
use Rattle.span_core.proofs.HasLaws.{Has-map, Has-map_cases}
use Rattle.span_core.proofs.ListLaws.{filter_no_more}
use Rattle.spanner_model.proofs.NameLaws.{same_names}
use Rattle.marked_automaton.specs.declared.way.Way.{Way}
use Rattle.marked_automaton.specs.declared.way.Stop.{Stop}
use Rattle.marked_automaton.specs.Automaton.{Automaton, HasByte, IsMarked, Marked, reversed, size, turned_way}
use Rattle.marked_automaton.specs.Marks.{left_of, remarked, remarked_stop, remarked_way}
use Rattle.marked_automaton.specs.Reduct.{Rearranges, same_below}
use Rattle.marked_automaton.proofs.Sizes.{reduct_is_no_larger}
use Rattle.place_automaton.specs.Places.{placed}
use Rattle.place_automaton.specs.Words.{atom_automaton, closing_of, opening_of}
use Rattle.place_automaton.proofs.Ranges.{places_lie}
use Rattle.place_automaton.specs.Variables.{with_vars}
use Rattle.place_automaton.proofs.NameLists.{list_ascends, vars_are}
use Rattle.segment_filter.specs.Sharing.{from_the_start}
use Rattle.segment_filter.specs.Costs.{CostAs, backward_of, forward_of}
use Rattle.segment_filter.specs.Readings.{CanEnd, HasStepsOf, StepsTo, moves_on, turned}
use Rattle.segment_filter.specs.Sets.{TakesNone}
use Rattle.segment_filter.proofs.Alike.{alike_law}
use Rattle.segment_filter.proofs.ReadingLaws.{Plain, plain_none, plain_steps, turned_none, turned_starts, turned_steps}

-- the names of a formula's variables are one list
pub names_one : (f : Tree) (names : List VarName) → Ascending names → ((x : VarName) → Has names x ↔ HasVar f x) → names ≡ with_vars [] f
names_one f names up are =
    same_names names (with_vars [] f) up (list_ascends f) (λ z h. (vars_are f z).1 ((are z).0 h)) (λ z h. (are z).1 ((vars_are f z).0 h))

steps_remarked : (e : ℕ → ℕ) (A : Automaton) (p c q : ℕ) → StepsTo (remarked e A) p c q ↔ StepsTo A p c q
steps_remarked e A p c q = (
  λ h.
      let x = Has-map_cases (remarked_way e) A.ways h.0 h.1 in
      (x.0, x.1, ap (λ (y : Way). y.from) x.2 ∙ h.2, rw (← x.2) at h.3, ap (λ (y : Way). y.to) x.2 ∙ h.4),
  λ h. (remarked_way e h.0, Has-map (remarked_way e) A.ways h.0 h.1, h.2, h.3, h.4),
)

steps_reversed : (A : Automaton) (p c q : ℕ) → StepsTo (reversed A) p c q ↔ StepsTo A q c p
steps_reversed A p c q = (
  λ h.
      let x = Has-map_cases turned_way A.ways h.0 h.1 in
      (x.0, x.1, ap (λ (y : Way). y.to) x.2 ∙ h.4, rw (← x.2) at h.3, ap (λ (y : Way). y.from) x.2 ∙ h.2),
  λ h. (turned_way h.0, Has-map turned_way A.ways h.0 h.1, h.4, h.3, h.2),
)

ends_remarked : (e : ℕ → ℕ) (A : Automaton) (p : ℕ) → CanEnd (remarked e A) p ↔ CanEnd A p
ends_remarked e A p = (
  λ h. let x = Has-map_cases (remarked_stop e) A.stops h.0 h.1 in (x.0, x.1, ap (λ (y : Stop). y.state) x.2 ∙ h.2),
  λ h. (remarked_stop e h.0, Has-map (remarked_stop e) A.stops h.0 h.1, h.2),
)

starts_reversed : (A : Automaton) (p : ℕ) → Has (reversed A).starts p ↔ CanEnd A p
starts_reversed A p = (
  λ h. let x = Has-map_cases (λ (y : Stop). y.state) A.stops p h in (x.0, x.1, x.2),
  λ h. subst (Has (reversed A).starts) h.2 (Has-map (λ (y : Stop). y.state) A.stops h.0 h.1),
)

none_remarked : (A : Automaton) → TakesNone (remarked (λ m. 0) A)
none_remarked A y h = let x = Has-map_cases (remarked_way (λ m. 0)) A.ways y h in sym (ap (λ (g : Way). g.marks) x.2)

none_reversed : (A : Automaton) → TakesNone A → TakesNone (reversed A)
none_reversed A none y h = let x = Has-map_cases turned_way A.ways y h in sym (ap (λ (g : Way). g.marks) x.2) ∙ none x.0 x.1

module _ (names : List VarName) (a : AtomTree) (A : Marked) (marked : IsMarked A) (r : Rearranges A.graph (atom_automaton names a)) where
  abbrev s : Bool
  s = a.from_start

  abbrev t : Bool
  t = a.to_end

  abbrev f : Tree
  f = a.formula

  abbrev F : Automaton
  F = Plain names a A.graph marked.whole r

  abbrev B : Automaton
  B = atom_automaton names a

  abbrev T : Automaton
  T = atom_automaton names (from_the_start a)

  same : HasStepsOf F B
  same = plain_steps names a A.graph marked.whole r

  none : TakesNone F
  none = plain_none names a A.graph marked.whole r

  size_ahead : size F ≤ size B
  size_ahead =
      let le = reduct_is_no_larger A.graph B marked.whole marked.some_byte (same_below B.states, r.0, (λ b k. k), r.1) in
      omega (arith, le.0, le.1, le.2, length-map A.graph.ways (remarked_way (left_of names [])), length-map A.graph.stops (remarked_stop (left_of names [])))

  size_behind : size (turned F) ≤ size B
  size_behind =
      let l = filter_no_more moves_on F.ways in
      omega (arith, size_ahead, l, length-map (filter moves_on F.ways) turned_way)

  pub plain_costs : CostAs names a F (turned F)
  plain_costs =
      let lies = places_lie (opening_of names) (closing_of names) f 1 in
      let P = placed (opening_of names) (closing_of names) f 1 in record {
        ahead = alike_law F (forward_of names a) none (none_remarked B) same.starts
            (λ p c q. (λ h. (steps_remarked (λ m. 0) B p c q).1 ((same.steps p c q).0 h), λ h. (same.steps p c q).1 ((steps_remarked (λ m. 0) B p c q).0 h)));
        behind = alike_law (turned F) (backward_of names a) (turned_none F none) (none_reversed (remarked (λ m. 0) T) (none_remarked T))
            (λ p. (
              λ h. (starts_reversed (remarked (λ m. 0) T) p).1 ((ends_remarked (λ m. 0) T p).1 ((turned_starts s t P lies F same p).0 h)),
              λ h. (turned_starts s t P lies F same p).1 ((ends_remarked (λ m. 0) T p).0 ((starts_reversed (remarked (λ m. 0) T) p).0 h)),
            ))
            (λ p c q. (
              λ h. (steps_reversed (remarked (λ m. 0) T) p c q).1 ((steps_remarked (λ m. 0) T q c p).1 ((turned_steps s t P lies F same p c q).0 h)),
              λ h. (turned_steps s t P lies F same p c q).1 ((steps_remarked (λ m. 0) T q c p).0 ((steps_reversed (remarked (λ m. 0) T) p c q).0 h)),
            ));
        ahead_size = size_ahead;
        behind_size = size_behind;
      }

  pub costs_made : (keep : List VarName) (X R : Automaton) → keep ≡ [] → X ≡ remarked (left_of names keep) A.graph → R ≡ turned X →
      Ascending names → ((x : VarName) → Has names x ↔ HasVar f x) → CostAs (with_vars [] f) a X R
  costs_made keep X R empty is back up are =
      let plain : F ≡ X = sym (is ∙ ap (λ k. remarked (left_of names k) A.graph) empty) in
      let turned_plain : turned F ≡ R = ap turned plain ∙ sym back in
      rw (← names_one f names up are)
      (rw (← plain) (rw (← turned_plain) plain_costs))

-- the steps of both readings, by the numbers of the definition
pub steps_within : (s0 s1 n z y z' a b a' b' p : ℕ) → s1 ≤ s0 + (2 * (n + 1) + z * b + y * a) → z ≤ z' → y ≤ z' → b ≡ b' → a ≡ a' →
    s1 ≤ s0 + (4 * (n + 1) + (1 + z') * (a' + b' + p))
steps_within s0 s1 n z y z' a b a' b' p h l m e f =
    let first : z * b ≤ z' * b = mul-le-mul_right b l in
    let second : y * a ≤ z' * a = mul-le-mul_right a m in
    let one : z' * b ≡ z' * b' = ap (λ k. z' * k) e in
    let two : z' * a ≡ z' * a' = ap (λ k. z' * k) f in
    omega (arith, h, first, second, one, two)
