-- What is gathered of the ways of members.
use Rattle.std.proofs.Common.{◌≡◌, ℕ, true, List, nat_eq, map, refl, sym, subst}
use Rattle.std.specs.Prelude.{◌&&◌}
use Rattle.std.specs.List.{filter, flat_map}
use Rattle.std.specs.FinSet as bytes
use Rattle.std.proofs.lemmas.Bool.{eq-eqb, eqb-true}
use Rattle.span_core.specs.Lists.{Has}
use Rattle.span_core.proofs.HasLaws.{Has-map, Has-map_cases}
use Rattle.marked_automaton.specs.declared.way.Way.{Way}
use Rattle.marked_automaton.specs.Automaton.{Automaton, ways_from}
use Rattle.marked_automaton.proofs.Passing.{filter_cases, has_filter, has_flat_map, flat_map_cases, both_true, left_true, right_true}
use Rattle.automaton_reading.specs.Reading.{is_among, set_of, ways_taken}
use Rattle.automaton_reading.proofs.Determined.{set_has, has_set, has_among, among_has}
use Rattle.set_table.specs.Cut.{code_of, codes_at}
use Rattle.automaton_reading.proofs.Ascending.{set_in_order, ascending_same}

-- ---- members

pub set_same : (xs ys : List ℕ) → ((x : ℕ) → Has xs x → Has ys x) → ((x : ℕ) → Has ys x → Has xs x) → set_of xs ≡ set_of ys
set_same xs ys there back =
    ascending_same (set_of xs) (set_of ys) (set_in_order xs) (set_in_order ys) (λ x h. set_has ys x (there x (has_set xs x h))) (λ x h. set_has xs x (back x (has_set ys x h)))

-- member by member the same ways are gathered
pub by_members : (A : Automaton) (members : List ℕ) (b : ℕ) → set_of (flat_map (codes_at A.ways b) members) ≡ set_of (map code_of (ways_taken A members b))
by_members A members b =
    set_same (flat_map (codes_at A.ways b) members) (map code_of (ways_taken A members b))
    (λ n h.
    let p = flat_map_cases (codes_at A.ways b) members n h in
    let y = Has-map_cases code_of (filter (λ y. bytes.contains y.bytes b) (ways_from A.ways p.0)) n p.2 in
    let f = filter_cases (λ y. bytes.contains y.bytes b) (ways_from A.ways p.0) y.0 y.1 in
    let g = filter_cases (λ (z : Way). nat_eq z.from p.0) A.ways y.0 f.0 in
    let from : is_among members y.0.from ≡ true = has_among members y.0.from (subst (Has members) (sym (eqb-true y.0.from p.0 g.1)) p.1) in
    subst (Has (map code_of (ways_taken A members b))) y.2
    (Has-map code_of (ways_taken A members b) y.0
    (has_filter (λ z. is_among members z.from && bytes.contains z.bytes b) A.ways y.0 g.0 (both_true (is_among members y.0.from) (bytes.contains y.0.bytes b) from f.1))))
    (λ n h.
    let y = Has-map_cases code_of (ways_taken A members b) n h in
    let f = filter_cases (λ z. is_among members z.from && bytes.contains z.bytes b) A.ways y.0 y.1 in
    let from = among_has members y.0.from (left_true (is_among members y.0.from) (bytes.contains y.0.bytes b) f.1) in
    has_flat_map (codes_at A.ways b) members y.0.from n from
    (subst (Has (codes_at A.ways b y.0.from)) y.2
    (Has-map code_of (filter (λ z. bytes.contains z.bytes b) (ways_from A.ways y.0.from)) y.0
    (has_filter (λ z. bytes.contains z.bytes b) (ways_from A.ways y.0.from) y.0
    (has_filter (λ (z : Way). nat_eq z.from y.0.from) A.ways y.0 f.0 (eq-eqb y.0.from y.0.from refl))
    (right_true (is_among members y.0.from) (bytes.contains y.0.bytes b) f.1)))))
