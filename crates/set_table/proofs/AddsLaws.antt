-- What is added for a question.
use Rattle.std.proofs.Common.{◌≡◌, ℕ, suc, ◌+◌, ◌-◌, ◌*◌, ◌^◌, ◌<◌, ◌≤◌, ◌⊎◌, Bool, true, false, List, [], ◌∷◌, ◌++◌, length, map, take, drop, Some, inl, inr, refl, sym, ap, subst, arith, ◌∙◌, length-append}
use Rattle.std.specs.Prelude.{if◌then◌else◌, nat_eq, nat_lt, ◌&&◌, slice_get}
use Rattle.std.specs.List.{filter}
use Rattle.std.specs.FinSet as bytes
use Rattle.std.proofs.Math.Pow.{pow_mono}
use Rattle.std.proofs.Math.Seq.{drop-append_seam}
use Rattle.std.proofs.lemmas.List.{length-map, take_all}
use Rattle.span_core.specs.declared.edge.Edge.{Edge}
use Rattle.span_core.specs.declared.TheConstants.{MOST_VARIABLES}
use Rattle.span_core.specs.Lists.{Has, IsInOrder}
use Rattle.span_core.proofs.HasLaws.{Has-get_or, Has-map, Has-map_cases, Has-append_cases}
use Rattle.span_core.proofs.ListLaws.{filter_no_more, all_has}
use Rattle.marked_automaton.specs.declared.way.Stop.{Stop}
use Rattle.marked_automaton.specs.Automaton.{Automaton, Marked, IsMarked}
use Rattle.marked_automaton.proofs.Passing.{filter_cases}
use Rattle.automaton_reading.specs.Reading.{byte_read, ended, put_up, set_of, blocks_down, is_among, Reach, ways_taken, rest_edge, edges}
use Rattle.automaton_reading.proofs.Determined.{set_has, has_set}
use Rattle.set_table.specs.declared.answer.Answer.{Answer}
use Rattle.set_table.specs.declared.answer.TableQuestion.TheVariants.{Ends}
use Rattle.set_table.specs.declared.lists.Lists.{Lists}
use Rattle.set_table.specs.Cut.{code_of, cut, mark_of, marks_among, marks_code}
use Rattle.set_table.specs.Named.{PutsEdges}
use Rattle.numbered_lists.specs.Numbered.{IsLongerBy, set_at, with_set, with_sets}
use Rattle.set_table.specs.Tabled.{IsStateSet, edge_named, reached, sets_weight}
use Rattle.set_table.specs.Answered.{Adds, IsReady, answer_in, question_of, end_reach, part, room}
use Rattle.automaton_reading.proofs.Ascending.{Above, has_all, blocks_are, set_in_order}
use Rattle.set_table.proofs.CutLaws.{AreNarrow, cut_is}
use Rattle.set_table.proofs.NamingLaws.{weight_with}
use Rattle.numbered_lists.proofs.SetsLaws.{at_place, longer_itself}

-- ---- lists

length_put_up : (p : ℕ) (qs : List ℕ) → length (put_up p qs) ≤ suc (length qs)
length_put_up p [] = omega arith
length_put_up p (q ∷ qs) = go (nat_lt p q) (nat_eq p q) (length_put_up p qs)
  where
    go : (a b : Bool) → length (put_up p qs) ≤ suc (length qs) → length (if a then p ∷ q ∷ qs else (if b then q ∷ qs else q ∷ put_up p qs)) ≤ suc (suc (length qs))
    go true b l = omega arith
    go false true l = omega arith
    go false false l = omega (arith, l)

pub length_set : (xs : List ℕ) → length (set_of xs) ≤ length xs
length_set [] = omega arith
length_set (x ∷ xs) = omega (arith, length_put_up x (set_of xs), length_set xs)

-- a set has no more members than there are numbers below a bound
room_above : (xs : List ℕ) (low n : ℕ) → IsInOrder ◌<◌ xs → ((p : ℕ) → Has xs p → low ≤ p) → ((p : ℕ) → Has xs p → p < n) → low ≤ n → length xs + low ≤ n
room_above [] low n up a b l = omega (arith, l)
room_above (x ∷ xs) low n up a b l =
    let rest = room_above xs (suc x) n up.1 (λ p h. all_has (λ y. x < y) xs p up.0 h) (λ p h. b p (inr h)) (b x (inl refl)) in
    omega (arith, rest, a x (inl refl))

pub below_few : (n : ℕ) (xs : List ℕ) → IsInOrder ◌<◌ xs → ((p : ℕ) → Has xs p → p < n) → length xs ≤ n
below_few n xs up l = let r = room_above xs 0 n up (λ p h. omega arith) l (omega arith) in omega (arith, r)

-- ---- what is ready

pub ready_set : (M : Marked) (lists : Lists) (k : ℕ) → IsReady M lists k → IsStateSet M.graph (set_at lists.sets k)
ready_set M lists k r = r.states (set_at lists.sets k) (Has-get_or lists.sets k [] r.set)

small_marks : (v m : ℕ) → v ≤ MOST_VARIABLES → m < 2 ^ (2 * v) → m < 2 ^ 64
small_marks v m l h = let p : 2 ^ (2 * v) ≤ 2 ^ 64 = pow_mono {i = 2 * v} {j = 64} (omega (arith, l)) in omega (arith, p, h)

pub narrow_ways : (M : Marked) (S : List ℕ) (b : ℕ) → IsMarked M → length M.names ≤ MOST_VARIABLES → AreNarrow (ways_taken M.graph S b)
narrow_ways M S b marked few y h =
    let f = filter_cases (λ z. is_among S z.from && bytes.contains z.bytes b) M.graph.ways y h in
    (small_marks (length M.names) y.marks few (marked.way_marks y f.0), omega (arith, marked.whole.tos y f.0, marked.few_states))

pub codes_few : (M : Marked) (S : List ℕ) (b : ℕ) → IsMarked M → length (set_of (map code_of (ways_taken M.graph S b))) ≤ 2000000
codes_few M S b marked =
    omega (
      arith,
      length_set (map code_of (ways_taken M.graph S b)),
      length-map (ways_taken M.graph S b) code_of,
      filter_no_more (λ z. is_among S z.from && bytes.contains z.bytes b) M.graph.ways,
      marked.few_ways,
    )

pub edges_cut : (M : Marked) (S : List ℕ) (b : ℕ) → IsMarked M → length M.names ≤ MOST_VARIABLES → cut (set_of (map code_of (ways_taken M.graph S b))) ≡ edges M.graph S (byte_read b)
edges_cut M S b marked few = cut_is (ways_taken M.graph S b) (narrow_ways M S b marked few)

-- ---- edges that are added

part_all : {X : Type 0} (xs0 xs made : List X) (first count : ℕ) → xs ≡ xs0 ++ made → first ≡ length xs0 → count ≡ length xs - first → part first count xs ≡ made
part_all xs0 xs made first count is at n =
    let len : count ≡ length made = omega (arith, n, at, ap length is, length-append xs0 made) in
    (λ i. take count (drop (at i) (is i))) ∙ (ap (take count) (drop-append_seam xs0 made) ∙ take_all count made (omega (arith, len)))

pub adds_edges : (A : Automaton) (old new : Lists) (x : Answer) (reaches : List Reach) (w : ℕ) →
    PutsEdges reaches old.sets new.sets old.edges.items new.edges.items w → old.ends.items ≡ new.ends.items → reaches ≡ edges A (set_at old.sets x.set) (question_of x.question) →
    reached A (set_at old.sets x.set) (question_of x.question) ≡ map (λ (e : Reach). e.to) (edges A (set_at old.sets x.set) (question_of x.question)) →
    room new.edges.items new.ends.items x.question ≡ length new.edges.items →
    answer_in new.sets new.edges.items new.ends.items x.question x.first x.count ≡ map (edge_named new.sets) (part x.first x.count new.edges.items) →
    x.first ≡ length old.edges.items → x.count ≡ length new.edges.items - x.first → Adds A old new x (w + 1)
adds_edges A old new x reaches w p ends same to size answered at n =
    let es0 = old.edges.items in
    let es = new.edges.items in
    let whole = part_all es0 es p.made x.first x.count p.pushed at n in
    let len : length es ≡ length es0 + length p.made = ap length p.pushed ∙ length-append es0 p.made in
    let made : length p.made ≡ length (edges A (set_at old.sets x.set) (question_of x.question)) = sym (length-map p.made (edge_named new.sets)) ∙ ap length (p.named ∙ same) in
    record {
      known = p.known ∙ ap (with_sets old.sets) (ap (map (λ (e : Reach). e.to)) same ∙ sym to);
      edges_longer = (p.made, p.pushed);
      ends_longer = subst (λ (zs : List ℕ). IsLongerBy old.ends.items zs) ends (longer_itself old.ends.items);
      within = omega (arith, n, at, len, size);
      is = answered ∙ (ap (map (edge_named new.sets)) whole ∙ (p.named ∙ same));
      targets = λ e h.
          elim (Has-append_cases es0 p.made e (subst (λ (xs : List Edge). Has xs e) p.pushed h)) as (λ _. Has es0 e ⊎ (e.to < length new.sets)) [ inl k ↦ inl k | inr k ↦ inr (p.numbers e k) ];
      weighs = let l = ap length same in omega (arith, p.weighs, l);
      few = omega (arith, len, made, ap length ends);
      small = omega (arith, p.small);
    }

-- ---- the rest

pub rest_put : (sets0 sets : List (List ℕ)) (es0 es : List Edge) (idle : List ℕ) (e : Edge) (w : ℕ) → (length idle ≡ 0 → ⊥) → length idle ≤ 20000 →
    sets ≡ with_set sets0 idle → slice_get sets e.to ≡ Some idle → e.marks ≡ 0 → es ≡ es0 ++ e ∷ [] →
    ((length sets ≡ length sets0) × (w ≡ 1)) ⊎ ((length sets ≡ length sets0 → ⊥) × (w ≡ 2 + length idle)) → PutsEdges (rest_edge idle) sets0 sets es0 es w
rest_put sets0 sets es0 es [] e w some few is at marks pushed case = absurd (some refl)
rest_put sets0 sets es0 es (p ∷ ps) e w some few is at marks pushed case =
    let there = at_place sets e.to (p ∷ ps) at in
    record {
      known = is;
      made = e ∷ [];
      pushed = pushed;
      named = (λ i. let r : Reach = record { marks = marks i; to = there.0 i } in r ∷ []);
      numbers = λ f h. elim h as (λ _. f.to < length sets) [ inl k ↦ subst (λ (y : Edge). y.to < length sets) k there.1 | inr k ↦ absurd k ];
      weighs = weight_with sets0 sets (p ∷ ps) (length (p ∷ ps)) w is refl case;
      small = elim case as (λ _. w ≤ 6000000) [ inl k ↦ omega (arith, k.1) | inr k ↦ omega (arith, k.1, few) ];
    }

-- ---- ends

turned_down : (ns : List ℕ) → IsInOrder ◌<◌ ns → ((n : ℕ) → Has ns n → n < 2 ^ 64) → IsInOrder Above (map mark_of ns)
turned_down [] up small = tt
turned_down (n ∷ ns) up small = (
  has_all (λ m. m < mark_of n) (map mark_of ns) (λ m h.
      let k = Has-map_cases mark_of ns m h in
      omega (arith, k.2, all_has (λ y. n < y) ns k.0 up.0 k.1, small k.0 (inr k.1))),
  turned_down ns up.1 (λ k h. small k (inr h)),
)

module _ (stops : List Stop) (small : (x : Stop) → Has stops x → x.marks < 2 ^ 64) where
  abbrev Turned : List ℕ
  Turned = set_of (map marks_code stops)

  turned_small : (n : ℕ) → Has Turned n → n < 2 ^ 64
  turned_small n h = let x = Has-map_cases marks_code stops n (has_set (map marks_code stops) n h) in omega (arith, x.2)

  pub turned_are : map mark_of Turned ≡ blocks_down (map (λ (x : Stop). x.marks) stops)
  turned_are =
      blocks_are (map (λ (x : Stop). x.marks) stops) (map mark_of Turned) (turned_down Turned (set_in_order (map marks_code stops)) turned_small)
      (λ m h.
      let n = Has-map_cases mark_of Turned m h in
      let x = Has-map_cases marks_code stops n.0 (has_set (map marks_code stops) n.0 n.1) in
      subst (Has (map (λ (y : Stop). y.marks) stops)) (let e : x.0.marks ≡ m = omega (arith, x.2, n.2, small x.0 x.1) in e) (Has-map (λ (y : Stop). y.marks) stops x.0 x.1))
      (λ m h.
      let x = Has-map_cases (λ (y : Stop). y.marks) stops m h in
      subst (Has (map mark_of Turned)) (let e : mark_of (marks_code x.0) ≡ m = omega (arith, x.2, small x.0 x.1) in e)
      (Has-map mark_of Turned (marks_code x.0) (set_has (map marks_code stops) (marks_code x.0) (Has-map marks_code stops x.0 x.1))))

small_stops : (M : Marked) (S : List ℕ) → IsMarked M → length M.names ≤ MOST_VARIABLES → (x : Stop) → Has (filter (λ (y : Stop). is_among S y.state) M.graph.stops) x → x.marks < 2 ^ 64
small_stops M S marked few x h =
    let f = filter_cases (λ (y : Stop). is_among S y.state) M.graph.stops x h in
    small_marks (length M.names) x.marks few (marked.stop_marks x f.0)

pub adds_ends : (M : Marked) (old new : Lists) (k first count : ℕ) (codes : List ℕ) → IsMarked M → length M.names ≤ MOST_VARIABLES →
    old.sets ≡ new.sets → old.edges.items ≡ new.edges.items → codes ≡ set_of (marks_among (set_at old.sets k) M.graph.stops) →
    new.ends.items ≡ old.ends.items ++ map mark_of codes → first ≡ length old.ends.items → count ≡ length new.ends.items - first → count < 2 ^ 63 →
    Adds M.graph old new (record { set = k; question = Ends; first = first; count = count }) (count + 1)
adds_ends M old new k first count codes marked few same_sets same_edges is put at n small =
    let ends0 = old.ends.items in
    let ends = new.ends.items in
    let stops = filter (λ (y : Stop). is_among (set_at old.sets k) y.state) M.graph.stops in
    let turned : map mark_of codes ≡ blocks_down (map (λ (y : Stop). y.marks) stops) = ap (map mark_of) is ∙ turned_are stops (small_stops M (set_at old.sets k) marked few) in
    let whole = part_all ends0 ends (map mark_of codes) first count put at n in
    let len : length ends ≡ length ends0 + length (map mark_of codes) = ap length put ∙ length-append ends0 (map mark_of codes) in
    let marks : length (map mark_of codes) ≡ length (edges M.graph (set_at old.sets k) ended) = ap length turned ∙ sym (length-map (blocks_down (map (λ (y : Stop). y.marks) stops)) end_reach) in
    record {
      known = sym same_sets;
      edges_longer = subst (λ (zs : List Edge). IsLongerBy old.edges.items zs) same_edges (longer_itself old.edges.items);
      ends_longer = (map mark_of codes, put);
      within = omega (arith, n, at, len);
      is = ap (map end_reach) (whole ∙ turned);
      targets = λ e h. inl (subst (λ (zs : List Edge). Has zs e) (sym same_edges) h);
      weighs = omega (arith, n, at, len, marks, ap sets_weight same_sets);
      few = omega (arith, len, marks, ap length same_edges);
      small = omega (arith, small);
    }
