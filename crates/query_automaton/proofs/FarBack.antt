-- The worked weight, by computing on ways whose byte sets are named.
use Rattle.std.proofs.Common.{◌≡◌, ℕ, ◌+◌, Bool, true, false, List, [], ◌∷◌, ◌++◌, length, map, refl, ap, arith, ◌∙◌}
use Rattle.std.specs.Prelude.{nat_eq, if◌then◌else◌, ◌&&◌, ◌||◌, cond}
use Rattle.std.specs.FinSet as bytes
use Rattle.std.specs.List.{filter, flat_map, sum_by}
use Rattle.std.specs.Ordering.{nat_cmp, eq_by_cmp}
use Rattle.std.specs.Str.{bytes_eq}
use Rattle.std.proofs.lemmas.Bool.{eqb-true}
use Rattle.std.proofs.lemmas.Cmp.{nat_cmp_total}
use Rattle.span_core.specs.ByteWordLaws.{contains-bytes_between}
use Rattle.marked_automaton.specs.declared.way.Way.{Way}
use Rattle.marked_automaton.specs.Automaton.{ByteClass, all_bytes}
use Rattle.automaton_reading.specs.Reading.{Question, byte_read, rest_taken, ended, Reach, LookUp, is_among, set_of, blocks_down, reach_with, edges, questions, once, look_up_same, look_ups_asked, look_ups_read, look_up_edges}
use Rattle.automaton_reading.proofs.Matching.{cons_sum}
use Rattle.query_automaton.specs.Weights.{far_back_automaton, far_back_document, WeightOfTheExample}

-- the byte sets of the example: each of one byte, or of all
data Class : Type 0 where
  of_a : Class
  of_b : Class
  of_c : Class
  of_all : Class

-- a way, with the name of its byte set
record Step : Type 0 where
  from : ℕ
  marks : ℕ
  class : Class
  to : ℕ

abbrev step : ℕ → ℕ → Class → ℕ → Step
step from marks class to = record { from = from; marks = marks; class = class; to = to }

abbrev class_of : Class → ByteClass
class_of of_a = bytes.insert bytes.empty 97
class_of of_b = bytes.insert bytes.empty 98
class_of of_c = bytes.insert bytes.empty 99
class_of of_all = all_bytes

-- which of them have a, and which have c
abbrev has_a : Class → Bool
has_a of_a = true
has_a of_b = false
has_a of_c = false
has_a of_all = true

abbrev has_c : Class → Bool
has_c of_a = false
has_c of_b = false
has_c of_c = true
has_c of_all = true

single_holds : (b q : ℕ) (is : Bool) → eq_by_cmp nat_cmp q b ≡ is → bytes.contains (bytes.insert (bytes.empty {R = nat_cmp}) b) q ≡ is
single_holds b q is e = bytes.contains-insert nat_cmp_total bytes.empty b q ∙
    (ap (λ t. t || bytes.contains (bytes.empty {R = nat_cmp}) q) e ∙ (ap (λ t. is || t) (bytes.contains-empty nat_cmp q) ∙ or_false is))
  where
    or_false : (b : Bool) → (b || false) ≡ b
    or_false true = refl
    or_false false = refl

a_holds : (k : Class) → bytes.contains (class_of k) 97 ≡ has_a k
a_holds of_a = single_holds 97 97 true refl
a_holds of_b = single_holds 98 97 false refl
a_holds of_c = single_holds 99 97 false refl
a_holds of_all = contains-bytes_between 0 255 97

c_holds : (k : Class) → bytes.contains (class_of k) 99 ≡ has_c k
c_holds of_a = single_holds 97 99 false refl
c_holds of_b = single_holds 98 99 false refl
c_holds of_c = single_holds 99 99 true refl
c_holds of_all = contains-bytes_between 0 255 99

abbrev way_of : Step → Way
way_of t = record { from = t.from; marks = t.marks; bytes = class_of t.class; to = t.to }

-- the ways of the example
abbrev coded : List Step
coded =
    step 1 0 of_a 1 ∷ step 1 0 of_b 2 ∷ step 2 0 of_a 1 ∷ step 2 0 of_b 2 ∷
    step 24 0 of_a 26 ∷ step 24 0 of_b 27 ∷ step 25 0 of_a 26 ∷ step 25 0 of_b 27 ∷
    step 22 0 of_a 24 ∷ step 22 0 of_b 25 ∷ step 23 0 of_a 24 ∷ step 23 0 of_b 25 ∷
    step 20 0 of_a 22 ∷ step 20 0 of_b 23 ∷ step 21 0 of_a 22 ∷ step 21 0 of_b 23 ∷
    step 18 0 of_a 20 ∷ step 18 0 of_b 21 ∷ step 19 0 of_a 20 ∷ step 19 0 of_b 21 ∷
    step 16 0 of_a 18 ∷ step 16 0 of_b 19 ∷ step 17 0 of_a 18 ∷ step 17 0 of_b 19 ∷
    step 14 0 of_a 16 ∷ step 14 0 of_b 17 ∷ step 15 0 of_a 16 ∷ step 15 0 of_b 17 ∷
    step 12 0 of_a 14 ∷ step 12 0 of_b 15 ∷ step 13 0 of_a 14 ∷ step 13 0 of_b 15 ∷
    step 10 0 of_a 12 ∷ step 10 0 of_b 13 ∷ step 11 0 of_a 12 ∷ step 11 0 of_b 13 ∷
    step 8 0 of_a 10 ∷ step 8 0 of_b 11 ∷ step 9 0 of_a 10 ∷ step 9 0 of_b 11 ∷
    step 6 0 of_a 8 ∷ step 6 0 of_b 9 ∷ step 7 0 of_a 8 ∷ step 7 0 of_b 9 ∷
    step 4 0 of_a 6 ∷ step 4 0 of_b 7 ∷ step 5 0 of_a 6 ∷ step 5 0 of_b 7 ∷
    step 26 2 of_c 28 ∷ step 27 2 of_c 28 ∷ step 3 0 of_a 4 ∷ step 3 0 of_b 5 ∷
    step 1 0 of_a 3 ∷ step 2 0 of_a 3 ∷ step 0 0 of_a 1 ∷ step 0 0 of_b 2 ∷
    step 0 0 of_a 3 ∷ step 0 0 of_all 0 ∷ step 29 0 of_all 29 ∷ step 28 1 of_all 29 ∷ []

-- those that members take, where `holds` tells which byte sets have the byte
abbrev taken : (Class → Bool) → List ℕ → List Step → List Step
taken holds S steps = filter (λ (t : Step). is_among S t.from && holds t.class) steps

taken_is : (holds : Class → Bool) (b : ℕ) → ((k : Class) → bytes.contains (class_of k) b ≡ holds k) → (S : List ℕ) (steps : List Step) →
    filter (λ (y : Way). is_among S y.from && bytes.contains y.bytes b) (map way_of steps) ≡ map way_of (taken holds S steps)
taken_is holds b h S [] = refl
taken_is holds b h S (t ∷ steps) =
    ap (λ c. cond (is_among S t.from && c) (way_of t ∷ filter (λ (y : Way). is_among S y.from && bytes.contains y.bytes b) (map way_of steps))
    (filter (λ (y : Way). is_among S y.from && bytes.contains y.bytes b) (map way_of steps))) (h t.class)
    ∙ (ap (λ ys. cond (is_among S t.from && holds t.class) (way_of t ∷ ys) ys) (taken_is holds b h S steps)
    ∙ by (is_among S t.from && holds t.class))
  where
    by : (c : Bool) → cond c (way_of t ∷ map way_of (taken holds S steps)) (map way_of (taken holds S steps)) ≡ map way_of (cond c (t ∷ taken holds S steps) (taken holds S steps))
    by true = refl
    by false = refl

abbrev edges_by : List Way → List Reach
edges_by ways = map (reach_with ways) (blocks_down (map (λ (y : Way). y.marks) ways))

abbrev coded_edges : List ℕ → Question → List Reach
coded_edges S (byte_read b) =
    if nat_eq b 97 then edges_by (map way_of (taken has_a S coded))
    else (if nat_eq b 99 then edges_by (map way_of (taken has_c S coded)) else edges far_back_automaton S (byte_read b))
coded_edges S rest_taken = edges far_back_automaton S rest_taken
coded_edges S ended = edges far_back_automaton S ended

same_edges : (S : List ℕ) (a : Question) → edges far_back_automaton S a ≡ coded_edges S a
same_edges S (byte_read b) = by (nat_eq b 97) (nat_eq b 99) refl refl
  where
    on : (holds : Class → Bool) (c : ℕ) → b ≡ c → ((k : Class) → bytes.contains (class_of k) c ≡ holds k) → edges far_back_automaton S (byte_read b) ≡ edges_by (map way_of (taken holds S coded))
    on holds c e h = ap (λ q. edges far_back_automaton S (byte_read q)) e ∙ ap edges_by (taken_is holds c h S coded)

    by : (p q : Bool) → nat_eq b 97 ≡ p → nat_eq b 99 ≡ q → edges far_back_automaton S (byte_read b)
        ≡ (if p then edges_by (map way_of (taken has_a S coded)) else (if q then edges_by (map way_of (taken has_c S coded)) else edges far_back_automaton S (byte_read b)))
    by true q e g = on has_a 97 (eqb-true b 97 e) a_holds
    by false true e g = on has_c 99 (eqb-true b 99 g) c_holds
    by false false e g = refl
same_edges S rest_taken = refl
same_edges S ended = refl

-- ---- reading by these edges

abbrev coded_targets : List (List ℕ) → Question → List (List ℕ)
coded_targets sets a = flat_map (λ set. map (λ (e : Reach). e.to) (coded_edges set a)) sets

abbrev coded_look_ups : List (List ℕ) → List Question → List LookUp
coded_look_ups sets [] = []
coded_look_ups sets (a ∷ later) = map (λ set. record { set = set; ask = a }) sets ++ coded_look_ups (once bytes_eq (coded_targets sets a)) later

same_targets : (sets : List (List ℕ)) (a : Question) → flat_map (λ set. map (λ (e : Reach). e.to) (edges far_back_automaton set a)) sets ≡ coded_targets sets a
same_targets [] a = refl
same_targets (S ∷ sets) a =
    ap (λ es. map (λ (e : Reach). e.to) es ++ flat_map (λ set. map (λ (e : Reach). e.to) (edges far_back_automaton set a)) sets) (same_edges S a)
    ∙ ap (λ ts. map (λ (e : Reach). e.to) (coded_edges S a) ++ ts) (same_targets sets a)

same_look_ups : (sets : List (List ℕ)) (asks : List Question) → look_ups_asked far_back_automaton sets asks ≡ coded_look_ups sets asks
same_look_ups sets [] = refl
same_look_ups sets (a ∷ later) =
    ap (λ next. map (λ set. let r : LookUp = record { set = set; ask = a } in r) sets ++ look_ups_asked far_back_automaton next later) (ap (once bytes_eq) (same_targets sets a))
    ∙ ap (λ look_ups. map (λ set. let r : LookUp = record { set = set; ask = a } in r) sets ++ look_ups) (same_look_ups (once bytes_eq (coded_targets sets a)) later)

sum_same : (f g : LookUp → ℕ) (look_ups : List LookUp) → ((r : LookUp) → f r ≡ g r) → sum_by f look_ups ≡ sum_by g look_ups
sum_same f g [] h = refl
sum_same f g (r ∷ look_ups) h = let e = sum_same f g look_ups h in omega (arith, e, h r, cons_sum f r look_ups, cons_sum g r look_ups)

abbrev all_look_ups : List LookUp
all_look_ups = coded_look_ups (set_of far_back_automaton.starts ∷ []) (questions (λ i. true) far_back_document 0 false)

abbrev coded_look_up_weight : LookUp → ℕ
coded_look_up_weight r = 1 + length (coded_edges r.set r.ask)

look_ups_are : look_ups_read far_back_automaton far_back_document (λ i. true) ≡ all_look_ups
look_ups_are = same_look_ups (set_of far_back_automaton.starts ∷ []) (questions (λ i. true) far_back_document 0 false)

abbrev weight_of : (LookUp → ℕ) → List LookUp → ℕ
weight_of w look_ups = sum_by (λ set. 1 + length set) (once bytes_eq (map (λ (r : LookUp). r.set) look_ups)) + sum_by w (once look_up_same look_ups)

pub weight_of_the_example : WeightOfTheExample
weight_of_the_example = (
  refl,
  ap (λ look_ups. length (once look_up_same look_ups)) look_ups_are ∙ refl,
  ap (weight_of (λ r. 1 + look_up_edges far_back_automaton r)) look_ups_are
      ∙ (ap (λ n. sum_by (λ set. 1 + length set) (once bytes_eq (map (λ (r : LookUp). r.set) all_look_ups)) + n)
      (sum_same (λ r. 1 + look_up_edges far_back_automaton r) coded_look_up_weight (once look_up_same all_look_ups) (λ r. ap (λ es. 1 + length es) (same_edges r.set r.ask)))
      ∙ refl),
)
