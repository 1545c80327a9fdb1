-- What a table holds, and what it holds once an answer is kept.
use Rattle.std.proofs.Common.{◌≡◌, ℕ, zero, suc, ◌+◌, ◌-◌, ◌*◌, ◌<◌, ◌≤◌, ◌⊎◌, Bool, true, false, cond, List, [], ◌∷◌, ◌++◌, length, map, take, drop, get_or, set, Some, inl, inr, refl, sym, ap, subst, arith, ◌∙◌, length-append}
use Rattle.std.specs.Prelude.{nat_eq, ◌&&◌, slice_get, replicate}
use Rattle.std.specs.List.{filter, sum_by}
use Rattle.std.specs.FinSet as bytes
use Rattle.std.proofs.Math.Seq.{get_or-append_right}
use Rattle.std.proofs.lemmas.Bool.{cases_lt}
use Rattle.std.proofs.lemmas.List.{length-set, length-replicate, get_or-replicate, get_or-set_same, get_or-set_other, get_or_append_left, get_or_past, get_or_read, length-map, map-append}
use Rattle.std.proofs.lemmas.List.Sums.{sum_by-append}
use Rattle.std.proofs.lemmas.Option.{slice_get-get_or}
use Rattle.span_core.specs.declared.edge.Edge.{Edge}
use Rattle.span_core.specs.Lists.{AreDistinct, Has, IsInOrder}
use Rattle.span_core.proofs.HasLaws.{Has-get_or, Has-map, Has-map_cases, Has-append_cases, Has-slice_get, Has-take, place_of-Has}
use Rattle.span_core.proofs.ListLaws.{all_has}
use Rattle.marked_automaton.specs.declared.way.Way.{Way}
use Rattle.marked_automaton.specs.declared.way.Stop.{Stop}
use Rattle.marked_automaton.specs.Automaton.{Automaton, IsWhole, Marked}
use Rattle.marked_automaton.proofs.Listed.{get_map, get_map_cases, same_or_not, some_same}
use Rattle.marked_automaton.proofs.Passing.{filter_cases}
use Rattle.automaton_reading.specs.Reading.{Question, LookUp, byte_read, rest_taken, ended, set_of, blocks_down, is_among, Reach, reach_with, rest_edge, look_up_edges, ways_taken, edges}
use Rattle.automaton_reading.proofs.Determined.{has_set}
use Rattle.set_table.specs.declared.answer.TableQuestion.{TableQuestion}
use Rattle.set_table.specs.declared.answer.TableQuestion.TheVariants.{Byte, Rest, Ends}
use Rattle.set_table.specs.declared.answer.Answer.{Answer}
use Rattle.set_table.specs.declared.lists.Lists.{Lists}
use Rattle.set_table.specs.declared.store.Store.{Store}
use Rattle.numbered_lists.specs.Numbered.{IsLongerBy, set_at}
use Rattle.set_table.specs.Tabled.{HasEdges, HasEnds, idle_of, IsStateSet, IsTabled, Tabled, asked_first, look_up, look_ups_weight, weight, edge_named, reached, sets_weight}
use Rattle.set_table.specs.Answered.{Adds, IsAnswer, IsHeld, IsQuestion, IsSound, tabled, answer_in, question_of, end_reach, look_up_of, look_ups_of, part, place_in, place_of, room, with_places}
use Rattle.automaton_reading.proofs.Ascending.{Above, has_all, blocks_in_order, set_in_order}
use Rattle.set_table.proofs.NamingLaws.{named_stay}
use Rattle.numbered_lists.proofs.SetsLaws.{has_with_sets, number_told, set_stays, with_sets_apart, with_sets_longer, at_number}

-- ---- questions and their places

pub same_question : (p q : TableQuestion) → question_of p ≡ question_of q → p ≡ q
same_question (Byte b) (Byte c) e = let h : b ≡ c = cc in ap Byte h
same_question (Byte b) Rest e = absurd (cc)
same_question (Byte b) Ends e = absurd (cc)
same_question Rest (Byte c) e = absurd (cc)
same_question Rest Rest e = refl
same_question Rest Ends e = absurd (cc)
same_question Ends (Byte c) e = absurd (cc)
same_question Ends Rest e = absurd (cc)
same_question Ends Ends e = refl

pub place_below : (q : TableQuestion) → IsQuestion q → place_of q < 272
place_below (Byte b) h = omega (arith, h)
place_below Rest h = omega arith
place_below Ends h = omega arith

same_place : (p q : TableQuestion) → IsQuestion p → IsQuestion q → place_of p ≡ place_of q → p ≡ q
same_place (Byte b) (Byte c) h k e = ap Byte e
same_place (Byte b) Rest h k e = absurd (omega (arith, h, e))
same_place (Byte b) Ends h k e = absurd (omega (arith, h, e))
same_place Rest (Byte c) h k e = absurd (omega (arith, k, e))
same_place Rest Rest h k e = refl
same_place Rest Ends h k e = absurd (omega (arith, e))
same_place Ends (Byte c) h k e = absurd (omega (arith, k, e))
same_place Ends Rest h k e = absurd (omega (arith, e))
same_place Ends Ends h k e = refl

pub place_apart : (k l : ℕ) (p q : TableQuestion) → IsQuestion p → IsQuestion q → place_in k p ≡ place_in l q → (k ≡ l) × (p ≡ q)
place_apart k l p q h g e =
    let a = place_below p h in
    let b = place_below q g in
    let same : k ≡ l = omega (arith, a, b, e) in
    (same, same_place p q h g (omega (arith, same, e)))

-- ---- lists

get_left : {X : Type 0} (xs ys : List X) (i : ℕ) (x : X) → slice_get xs i ≡ Some x → slice_get (xs ++ ys) i ≡ Some x
get_left [] ys i x e = absurd (cc)
get_left (y ∷ xs) ys zero x e = e
get_left (y ∷ xs) ys (suc i) x e = get_left xs ys i x e

get_last : {X : Type 0} (xs : List X) (x : X) → slice_get (xs ++ x ∷ []) (length xs) ≡ Some x
get_last [] x = refl
get_last (y ∷ xs) x = get_last xs x

get_cases : {X : Type 0} (xs : List X) (y : X) (i : ℕ) (x : X) → slice_get (xs ++ y ∷ []) i ≡ Some x → (slice_get xs i ≡ Some x) ⊎ ((i ≡ length xs) × (y ≡ x))
get_cases [] y zero x e = inr (refl, some_same y x e)
get_cases [] y (suc i) x e = absurd (cc)
get_cases (z ∷ xs) y zero x e = inl e
get_cases (z ∷ xs) y (suc i) x e = elim (get_cases xs y i x e) as (λ _. (slice_get xs i ≡ Some x) ⊎ ((suc i ≡ suc (length xs)) × (y ≡ x))) [ inl h ↦ inl h | inr h ↦ inr (ap suc h.0, h.1) ]

take_stays : {X : Type 0} (n : ℕ) (xs ys : List X) → n ≤ length xs → take n (xs ++ ys) ≡ take n xs
take_stays zero xs ys l = refl
take_stays (suc n) [] ys l = absurd (omega arith)
take_stays (suc n) (x ∷ xs) ys l = ap (λ zs. x ∷ zs) (take_stays n xs ys (omega (arith, l)))

part_stays : {X : Type 0} (first count : ℕ) (xs ys : List X) → first + count ≤ length xs → part first count (xs ++ ys) ≡ part first count xs
part_stays zero count xs ys l = take_stays count xs ys (omega (arith, l))
part_stays (suc first) zero [] ys l = absurd (omega arith)
part_stays (suc first) (suc count) [] ys l = absurd (omega arith)
part_stays (suc first) count (x ∷ xs) ys l = part_stays first count xs ys (omega (arith, l))

has_drop : {X : Type 0} (n : ℕ) (xs : List X) (x : X) → Has (drop n xs) x → Has xs x
has_drop zero xs x h = h
has_drop (suc n) [] x h = h
has_drop (suc n) (y ∷ xs) x h = inr (has_drop n xs x h)

pub has_part : {X : Type 0} (first count : ℕ) (xs : List X) (x : X) → Has (part first count xs) x → Has xs x
has_part first count xs x h = has_drop first xs x (Has-take (drop first xs) count x h)

sum_cons : {X : Type 0} (f : X → ℕ) (x : X) (xs : List X) → sum_by f (x ∷ xs) ≡ f x + sum_by f xs
sum_cons f x xs = let e = sum_by-append f (x ∷ []) xs in omega (arith, e)

pub length_weight : (sets : List (List ℕ)) → length sets ≤ sets_weight sets
length_weight [] = omega arith
length_weight (s ∷ sets) = omega (arith, length_weight sets, sum_cons (λ (x : List ℕ). 1 + length x) s sets)

-- ---- sets that are reached

filter_in_order : (t : ℕ → Bool) (xs : List ℕ) → IsInOrder ◌<◌ xs → IsInOrder ◌<◌ (filter t xs)
filter_in_order t [] up = tt
filter_in_order t (x ∷ xs) up = go (t x) (filter_in_order t xs up.1)
  where
    go : (b : Bool) → IsInOrder ◌<◌ (filter t xs) → IsInOrder ◌<◌ (cond b (x ∷ filter t xs) (filter t xs))
    go true rest = (has_all (λ y. x < y) (filter t xs) (λ y h. let f = filter_cases t xs y h in all_has (λ z. x < z) xs y up.0 f.0), rest)
    go false rest = rest

rest_reaches : (xs s : List ℕ) → Has (map (λ (e : Reach). e.to) (rest_edge xs)) s → xs ≡ s
rest_reaches [] s h = absurd h
rest_reaches (p ∷ ps) s (inl e) = e
rest_reaches (p ∷ ps) s (inr h) = absurd h

pub reached_states : (A : Automaton) → IsWhole A → (S : List ℕ) → IsStateSet A S → (a : Question) (s : List ℕ) → Has (reached A S a) s → IsStateSet A s
reached_states A whole S states (byte_read b) s h =
    let e = Has-map_cases (λ (e : Reach). e.to) (edges A S (byte_read b)) s h in
    let m = Has-map_cases (reach_with (ways_taken A S b)) (blocks_down (map (λ (y : Way). y.marks) (ways_taken A S b))) e.0 e.1 in
    let is : (reach_with (ways_taken A S b) m.0).to ≡ s = ap (λ (r : Reach). r.to) m.2 ∙ e.2 in
    let ys = filter (λ (y : Way). nat_eq y.marks m.0) (ways_taken A S b) in
    subst (IsStateSet A) is (record {
      order = set_in_order (map (λ (y : Way). y.to) ys);
      states = λ p k.
          let y = Has-map_cases (λ (y : Way). y.to) ys p (has_set (map (λ (y : Way). y.to) ys) p k) in
          let f = filter_cases (λ (y : Way). nat_eq y.marks m.0) (ways_taken A S b) y.0 y.1 in
          let g = filter_cases (λ z. is_among S z.from && bytes.contains z.bytes b) A.ways y.0 f.0 in
          omega (arith, whole.tos y.0 g.0, y.2);
    })
reached_states A whole S states rest_taken s h =
    let is = rest_reaches (filter (is_among A.idle) S) s h in
    subst (IsStateSet A) is (record {
      order = filter_in_order (is_among A.idle) S states.order;
      states = λ p k. let f = filter_cases (is_among A.idle) S p k in states.states p f.0;
    })
reached_states A whole S states ended s h = absurd h

-- ---- answers stay

module _ (A : Automaton) (sets0 sets : List (List ℕ)) (es0 es : List Edge) (ends0 ends : List ℕ)
    (more : IsLongerBy sets0 sets) (more_es : IsLongerBy es0 es) (more_ends : IsLongerBy ends0 ends) (targets : (e : Edge) → Has es0 e → e.to < length sets0) where
  longer_sets : length sets0 ≤ length sets
  longer_sets = omega (arith, ap length more.1, length-append sets0 more.0)

  set_kept : (k : ℕ) → k < length sets0 → set_at sets k ≡ set_at sets0 k
  set_kept k l = ap (λ zs. set_at zs k) more.1 ∙ set_stays sets0 more.0 k l

  edges_kept : (first count : ℕ) → first + count ≤ length es0 → map (edge_named sets) (part first count es) ≡ map (edge_named sets0) (part first count es0)
  edges_kept first count l =
      ap (λ zs. map (edge_named sets) (part first count zs)) more_es.1
      ∙ (ap (map (edge_named sets)) (part_stays first count es0 more_es.0 l)
      ∙ (ap (λ zs. map (edge_named zs) (part first count es0)) more.1
      ∙ named_stay sets0 more.0 (part first count es0) (λ e h. targets e (has_part first count es0 e h))))

  answer_kept : (q : TableQuestion) (first count : ℕ) → first + count ≤ room es0 ends0 q → answer_in sets es ends q first count ≡ answer_in sets0 es0 ends0 q first count
  answer_kept (Byte b) first count l = edges_kept first count l
  answer_kept Rest first count l = edges_kept first count l
  answer_kept Ends first count l = ap (λ zs. map end_reach (part first count zs)) more_ends.1 ∙ ap (map end_reach) (part_stays first count ends0 more_ends.0 l)

  room_grows : (q : TableQuestion) → room es0 ends0 q ≤ room es ends q
  room_grows (Byte b) = omega (arith, ap length more_es.1, length-append es0 more_es.0)
  room_grows Rest = omega (arith, ap length more_es.1, length-append es0 more_es.0)
  room_grows Ends = omega (arith, ap length more_ends.1, length-append ends0 more_ends.0)

  pub answer_stays : (x : Answer) → IsAnswer A sets0 es0 ends0 x → IsAnswer A sets es ends x
  answer_stays x h = record {
    set = omega (arith, h.set, longer_sets);
    question = h.question;
    within = omega (arith, h.within, room_grows x.question);
    is = answer_kept x.question x.first x.count h.within ∙ (h.is ∙ ap (λ zs. edges A zs (question_of x.question)) (sym (set_kept x.set h.set)));
  }

  pub look_up_stays : (x : Answer) → x.set < length sets0 → look_up_of sets x ≡ look_up_of sets0 x
  look_up_stays x l = (λ i. let r : LookUp = record { set = set_kept x.set l i; ask = question_of x.question } in r)

  pub look_ups_stay : (answers : List Answer) → ((x : Answer) → Has answers x → x.set < length sets0) → look_ups_of sets answers ≡ look_ups_of sets0 answers
  look_ups_stay [] l = refl
  look_ups_stay (x ∷ answers) l =
      let here = look_up_stays x (l x (inl refl)) in
      let rest = look_ups_stay answers (λ y h. l y (inr h)) in
      (λ i. here i ∷ rest i)

-- ---- the same lists

pub held_same : (A : Automaton) (sets sets' : List (List ℕ)) (answers answers' : List Answer) (es es' : List Edge) (ends ends' numbers numbers' : List ℕ) (w : ℕ) →
    sets ≡ sets' → answers ≡ answers' → es ≡ es' → ends ≡ ends' → numbers ≡ numbers' → IsHeld A sets answers es ends numbers w → IsHeld A sets' answers' es' ends' numbers' w
held_same A sets sets' answers answers' es es' ends ends' numbers numbers' w a b c d e h =
    subst (λ (v : List ℕ). IsHeld A sets' answers' es' ends' v w) e
    (subst (λ (v : List ℕ). IsHeld A sets' answers' es' v numbers w) d
    (subst (λ (v : List Edge). IsHeld A sets' answers' v ends numbers w) c
    (subst (λ (v : List Answer). IsHeld A sets' v es ends numbers w) b
    (subst (λ (v : List (List ℕ)). IsHeld A v answers es ends numbers w) a h))))

-- ---- an answer more

places_length : (n : ℕ) (numbers : List ℕ) → length numbers ≤ n → length (with_places n numbers) ≡ n
places_length n numbers l = omega (arith, length-append numbers (replicate (n - length numbers) 0), length-replicate {A = ℕ} (n - length numbers) 0, l)

places_old : (n : ℕ) (numbers : List ℕ) (p : ℕ) → p < length numbers → get_or (with_places n numbers) p 0 ≡ get_or numbers p 0
places_old n numbers p l = get_or_append_left numbers (replicate (n - length numbers) 0) 0 p l

pub zeros : (m i : ℕ) → get_or {A = ℕ} (replicate m 0) i 0 ≡ 0
zeros m i = let Z : List ℕ = replicate m 0 in elim (cases_lt i m) as (λ _. get_or Z i 0 ≡ 0) [
  | inl l ↦ get_or-replicate {A = ℕ} m i 0 0 l
  | inr l ↦
      get_or_past Z i 0 (omega (arith, l, length-replicate {A = ℕ} m 0))
]

places_new : (n : ℕ) (numbers : List ℕ) (p : ℕ) → length numbers ≤ p → get_or (with_places n numbers) p 0 ≡ 0
places_new n numbers p l = get_or-append_right numbers (replicate (n - length numbers) 0) p 0 l ∙ zeros (n - length numbers) (p - length numbers)

-- a place of a set that is there
pub place_within : (k n : ℕ) (q : TableQuestion) → IsQuestion q → k < n → place_in k q < 272 * n
place_within k n q h l = let b = place_below q h in omega (arith, b, l)

module _ (A : Automaton) (before after : Lists) (answers0 : List Answer) (numbers0 : List ℕ) (w0 w : ℕ) (x : Answer)
    (whole : IsWhole A) (held : IsHeld A before.sets answers0 before.edges.items before.ends.items numbers0 w0) (adds : Adds A before after x w)
    (within : x.set < length before.sets) (question : IsQuestion x.question) (absent : ¬ Has (look_ups_of before.sets answers0) (look_up_of before.sets x)) where
  abbrev sets0 : List (List ℕ)
  sets0 = before.sets

  abbrev sets : List (List ℕ)
  sets = after.sets

  abbrev es0 : List Edge
  es0 = before.edges.items

  abbrev es : List Edge
  es = after.edges.items

  abbrev ends0 : List ℕ
  ends0 = before.ends.items

  abbrev ends : List ℕ
  ends = after.ends.items

  longer : IsLongerBy sets0 sets
  longer = let g = with_sets_longer sets0 (reached A (set_at sets0 x.set) (question_of x.question)) in (g.0, adds.known ∙ g.1)

  sets_more : length sets0 ≤ length sets
  sets_more = omega (arith, ap length longer.1, length-append sets0 longer.0)

  abbrev Here : ℕ
  Here = place_in x.set x.question

  abbrev Places : List ℕ
  Places = with_places (272 * length sets) numbers0

  abbrev Numbers : List ℕ
  Numbers = set Places Here (1 + length answers0)

  length_places : length Places ≡ 272 * length sets
  length_places = places_length (272 * length sets) numbers0 (omega (arith, held.places, sets_more))

  here : get_or Numbers Here 0 ≡ 1 + length answers0
  here = get_or-set_same Places Here (1 + length answers0) 0 (let b = place_within x.set (length sets0) x.question question within in omega (arith, b, length_places, sets_more))

  elsewhere : (p : ℕ) → (p ≡ Here → ⊥) → get_or Numbers p 0 ≡ get_or Places p 0
  elsewhere p other = get_or-set_other Places Here p (1 + length answers0) 0 other

  states_more : (s : List ℕ) → Has sets s → IsStateSet A s
  states_more s h = elim (has_with_sets sets0 (reached A (set_at sets0 x.set) (question_of x.question)) s (subst (λ zs. Has zs s) adds.known h)) as (λ _. IsStateSet A s) [
    | inl k ↦ held.states s k
    | inr k ↦ reached_states A whole (set_at sets0 x.set) (held.states (set_at sets0 x.set) (has_at sets0 x.set within)) (question_of x.question) s k
  ]
    where
      has_at : (ss : List (List ℕ)) (k : ℕ) → k < length ss → Has ss (set_at ss k)
      has_at [] k l = absurd (omega arith)
      has_at (s ∷ ss) zero l = inl refl
      has_at (s ∷ ss) (suc k) l = inr (has_at ss k (omega (arith, l)))

  new_answer : IsAnswer A sets es ends x
  new_answer = record {
    set = omega (arith, within, sets_more);
    question = question;
    within = omega (arith, adds.within);
    is = adds.is ∙ ap (λ zs. edges A zs (question_of x.question)) (sym (set_kept A sets0 sets es0 es ends0 ends longer adds.edges_longer adds.ends_longer held.targets x.set within));
  }

  answered_more : (y : Answer) → Has (answers0 ++ x ∷ []) y → IsAnswer A sets es ends y
  answered_more y h = elim (Has-append_cases answers0 (x ∷ []) y h) as (λ _. IsAnswer A sets es ends y) [
    | inl k ↦ answer_stays A sets0 sets es0 es ends0 ends longer adds.edges_longer adds.ends_longer held.targets y (held.answered y k)
    | inr k ↦ elim k as (λ _. IsAnswer A sets es ends y) [ inl e ↦ subst (IsAnswer A sets es ends) e new_answer | inr e ↦ absurd e ]
  ]

  targets_more : (e : Edge) → Has es e → e.to < length sets
  targets_more e h = elim (adds.targets e h) as (λ _. e.to < length sets) [ inl k ↦ omega (arith, held.targets e k, sets_more) | inr k ↦ k ]

  found_more : (k : ℕ) (q : TableQuestion) (i : ℕ) → k < length sets → IsQuestion q → get_or Numbers (place_in k q) 0 ≡ suc i →
      (y : Answer) × (slice_get (answers0 ++ x ∷ []) i ≡ Some y) × (y.set ≡ k) × (y.question ≡ q)
  found_more k q i l h e = go (same_or_not (place_in k q) Here)
    where
      old : (place_in k q ≡ Here → ⊥) → (y : Answer) × (slice_get (answers0 ++ x ∷ []) i ≡ Some y) × (y.set ≡ k) × (y.question ≡ q)
      old other = by (cases_lt k (length sets0))
        where
          by : (k < length sets0) ⊎ (length sets0 ≤ k) → (y : Answer) × (slice_get (answers0 ++ x ∷ []) i ≡ Some y) × (y.set ≡ k) × (y.question ≡ q)
          by (inl m) =
              let b = place_within k (length sets0) q h m in
              let f = held.found k q i m h (sym (places_old (272 * length sets) numbers0 (place_in k q) (omega (arith, b, held.places))) ∙ (sym (elsewhere (place_in k q) other) ∙ e)) in
              (f.0, get_left answers0 (x ∷ []) i f.0 f.1, f.2, f.3)
          by (inr m) =
              let z : 0 ≡ suc i = sym (places_new (272 * length sets) numbers0 (place_in k q) (omega (arith, m, held.places))) ∙ (sym (elsewhere (place_in k q) other) ∙ e) in
              absurd (omega (arith, z))

      go : (place_in k q ≡ Here) ⊎ (place_in k q ≡ Here → ⊥) → (y : Answer) × (slice_get (answers0 ++ x ∷ []) i ≡ Some y) × (y.set ≡ k) × (y.question ≡ q)
      go (inl same) =
          let a = place_apart k x.set q x.question h question same in
          let n : 1 + length answers0 ≡ suc i = sym here ∙ (ap (λ p. get_or Numbers p 0) (sym same) ∙ e) in
          let at : length answers0 ≡ i = omega (arith, n) in
          (x, subst (λ j. slice_get (answers0 ++ x ∷ []) j ≡ Some x) at (get_last answers0 x), sym a.0, sym a.1)
      go (inr other) = old other

  there_more : (i : ℕ) (y : Answer) → slice_get (answers0 ++ x ∷ []) i ≡ Some y → get_or Numbers (place_in y.set y.question) 0 ≡ suc i
  there_more i y e = elim (get_cases answers0 x i y e) as (λ _. get_or Numbers (place_in y.set y.question) 0 ≡ suc i) [
    | inl k ↦
        let has = Has-slice_get answers0 i y k in
        let a = held.answered y has in
        let other : place_in y.set y.question ≡ Here → ⊥ = λ same. let p = place_apart y.set x.set y.question x.question a.question question same in
        absent (subst (Has (look_ups_of sets0 answers0)) (λ j. let r : LookUp = record { set = set_at sets0 (p.0 j); ask = question_of (p.1 j) } in r) (Has-map (look_up_of sets0) answers0 y has)) in
        let b = place_within y.set (length sets0) y.question a.question a.set in
        elsewhere (place_in y.set y.question) other ∙ (places_old (272 * length sets) numbers0 (place_in y.set y.question) (omega (arith, b, held.places)) ∙ held.there i y k)
    | inr k ↦ ap (λ (z : Answer). get_or Numbers (place_in z.set z.question) 0) (sym k.1) ∙ (here ∙ (let n : 1 + length answers0 ≡ suc i = omega (arith, k.0) in n))
  ]

  look_ups_more : look_ups_of sets (answers0 ++ x ∷ []) ≡ look_ups_of sets0 answers0 ++ look_up_of sets0 x ∷ []
  look_ups_more =
      let old = look_ups_stay A sets0 sets es0 es ends0 ends longer adds.edges_longer adds.ends_longer held.targets answers0 (λ y h. (held.answered y h).set) in
      let new = look_up_stays A sets0 sets es0 es ends0 ends longer adds.edges_longer adds.ends_longer held.targets x within in
      map-append (look_up_of sets) answers0 (x ∷ []) ∙ (λ i. old i ++ new i ∷ [])

  weighs_more : w0 + w ≡ sets_weight sets + look_ups_weight A (look_ups_of sets (answers0 ++ x ∷ []))
  weighs_more =
      let f : LookUp → ℕ = λ r. 1 + look_up_edges A r in
      let a : look_ups_weight A (look_ups_of sets (answers0 ++ x ∷ [])) ≡ sum_by f (look_ups_of sets0 answers0 ++ look_up_of sets0 x ∷ []) = ap (look_ups_weight A) look_ups_more in
      let b = sum_by-append f (look_ups_of sets0 answers0) (look_up_of sets0 x ∷ []) in
      let c : sum_by f (look_up_of sets0 x ∷ []) ≡ 1 + length (edges A (set_at sets0 x.set) (question_of x.question)) = one (f (look_up_of sets0 x)) in
      omega (arith, a, b, c, held.weighs, adds.weighs)
    where
      one : (n : ℕ) → sum_by (λ (r : LookUp). n) (look_up_of sets0 x ∷ []) ≡ n
      one n = omega arith

  -- the table with one answer more
  pub first_is : (limit : ℕ) →
      (let t : Tabled = record { graph = A; limit = limit; sets = sets; look_ups = look_ups_of sets (answers0 ++ x ∷ []) } in t)
      ≡ asked_first (record { graph = A; limit = limit; sets = sets0; look_ups = look_ups_of sets0 answers0 }) (look_up_of sets0 x)
  first_is limit = (λ i. let t : Tabled = record { graph = A; limit = limit; sets = adds.known i; look_ups = look_ups_more i } in t)

  pub first_weighs : (limit : ℕ) → w0 + w ≡ weight (asked_first (record { graph = A; limit = limit; sets = sets0; look_ups = look_ups_of sets0 answers0 }) (look_up_of sets0 x))
  first_weighs limit = weighs_more ∙ ap weight (first_is limit)

  pub few_more : length sets + length (answers0 ++ x ∷ []) + length es + length ends ≤ w0 + w
  few_more = let e = ap sets_weight longer.1 in
      omega (
        arith,
        held.few,
        adds.few,
        adds.weighs,
        ap length longer.1,
        length-append sets0 longer.0,
        e,
        sum_by-append (λ s. 1 + length s) sets0 longer.0,
        length_weight longer.0,
        length-append answers0 (x ∷ []),
      )

  pub held_more : IsHeld A sets (answers0 ++ x ∷ []) es ends Numbers (w0 + w)
  held_more = record {
    start = ap (λ zs. slice_get zs 0) longer.1 ∙ get_left sets0 longer.0 0 (set_of A.starts) held.start;
    states = states_more;
    apart = subst AreDistinct (sym adds.known) (with_sets_apart sets0 (reached A (set_at sets0 x.set) (question_of x.question)) held.apart);
    answered = answered_more;
    targets = targets_more;
    places = length-set Places Here (1 + length answers0) ∙ length_places;
    found = found_more;
    there = there_more;
    weighs = weighs_more;
    few = few_more;
  }

-- ---- a table of the start states alone

pub held_fresh : (A : Automaton) (sets : List (List ℕ)) (answers : List Answer) (es : List Edge) (ends numbers : List ℕ) (start : List ℕ) (w : ℕ) → IsWhole A → start ≡ set_of A.starts →
    sets ≡ start ∷ [] → answers ≡ [] → es ≡ [] → ends ≡ [] → numbers ≡ with_places 272 [] → w ≡ 1 + length start → IsHeld A sets answers es ends numbers w
held_fresh A sets answers es ends numbers start w whole is one no_answers no_edges no_ends zero_numbers weight =
    let none : (p : ℕ) → get_or numbers p 0 ≡ 0 = λ p. ap (λ zs. get_or zs p 0) zero_numbers ∙ places_new 272 [] p (omega arith) in
    let states : IsStateSet A start = subst (IsStateSet A) (sym is) (record { order = set_in_order A.starts; states = λ p h. whole.starts p (has_set A.starts p h) }) in
    record {
      start = ap (λ zs. slice_get zs 0) one ∙ ap Some is;
      states = λ s h. elim (subst (λ zs. Has zs s) one h) as (λ _. IsStateSet A s) [ inl e ↦ subst (IsStateSet A) e states | inr k ↦ absurd k ];
      apart = subst AreDistinct (sym one) ((λ h. h), tt);
      answered = λ x h. absurd (subst (λ (zs : List Answer). Has zs x) no_answers h);
      targets = λ e h. absurd (subst (λ (zs : List Edge). Has zs e) no_edges h);
      places = ap length zero_numbers ∙ (places_length 272 [] (omega arith) ∙ (let e : 272 ≡ 272 * length sets = omega (arith, ap length one) in e));
      found = λ k q i l h e. let z : 0 ≡ suc i = sym (none (place_in k q)) ∙ e in absurd (omega (arith, z));
      there = λ i x e. absurd (let h = Has-slice_get answers i x e in subst (λ (zs : List Answer). Has zs x) no_answers h);
      weighs = let a = ap sets_weight one in let b = sum_cons (λ (s : List ℕ). 1 + length s) start [] in
          let c : look_ups_weight A (look_ups_of sets answers) ≡ 0 = ap (λ (zs : List Answer). look_ups_weight A (look_ups_of sets zs)) no_answers in omega (arith, a, b, c, weight);
      few = omega (arith, ap length one, ap length no_answers, ap length no_edges, ap length no_ends, weight);
    }

-- ---- the number of a question

number_found : {A : Automaton} {sets : List (List ℕ)} {answers : List Answer} {es : List Edge} {ends numbers : List ℕ} {w k n : ℕ} (q : TableQuestion) →
    IsHeld A sets answers es ends numbers w → k < length sets → IsQuestion q → get_or numbers (place_in k q) 0 ≡ n → (n ≡ 0 → ⊥) →
    slice_get (look_ups_of sets answers) (n - 1) ≡ Some (record { set = set_at sets k; ask = question_of q })
number_found {sets = sets} {answers = answers} {numbers = numbers} {k = k} {n = n} q held l h e some =
    let less : 0 < n = positive n some in
    let at : get_or numbers (place_in k q) 0 ≡ suc (n - 1) = e ∙ (let g : n ≡ suc (n - 1) = omega (arith, less) in g) in
    let f = held.found k q (n - 1) l h at in
    get_map (look_up_of sets) answers (n - 1) f.0 f.1 ∙ ap Some (λ i. let r : LookUp = record { set = set_at sets (f.2 i); ask = question_of (f.3 i) } in r)
  where
    positive : (m : ℕ) → (m ≡ 0 → ⊥) → 0 < m
    positive zero o = absurd (o refl)
    positive (suc m) o = omega arith

number_absent : {A : Automaton} {sets : List (List ℕ)} {answers : List Answer} {es : List Edge} {ends numbers : List ℕ} {w k : ℕ} (q : TableQuestion) →
    IsHeld A sets answers es ends numbers w → k < length sets → get_or numbers (place_in k q) 0 ≡ 0 → ¬ Has (look_ups_of sets answers) (record { set = set_at sets k; ask = question_of q })
number_absent {sets = sets} {answers = answers} {numbers = numbers} {k = k} q held within e h =
    let r : LookUp = record { set = set_at sets k; ask = question_of q } in
    let y = Has-map_cases (look_up_of sets) answers r h in
    let p = place_of-Has answers y.0 y.1 in
    let set : y.0.set ≡ k = number_told sets y.0.set k held.apart (held.answered y.0 y.1).set within (ap (λ (r : LookUp). r.set) y.2) in
    let question : y.0.question ≡ q = same_question y.0.question q (ap (λ (r : LookUp). r.ask) y.2) in
    let there : get_or numbers (place_in k q) 0 ≡ suc p.0 = (λ i. get_or numbers (place_in (sym set i) (sym question i)) 0) ∙ held.there p.0 y.0 p.2 in
    let z : 0 ≡ suc p.0 = sym e ∙ there in
    omega (arith, z)

-- a number that is not 0 is that of the look-up at its place
pub look_up_found : {M : Marked} {limit w : ℕ} {s : Store} {t : Tabled} {k p n : ℕ} (q : TableQuestion) → IsSound M limit w s → tabled M.graph limit s ≡ t → k < length t.sets →
    IsQuestion q → p ≡ place_in k q → n ≡ get_or s.numbers p 0 → (n ≡ 0 → ⊥) → slice_get t.look_ups (n - 1) ≡ Some (look_up t k (question_of q))
look_up_found {s = s} q sound is within h place at some =
    rw (← is) (number_found q sound.held (rw (← is) at within) h (sym (at ∙ ap (λ p. get_or s.numbers p 0) place)) some)

-- and where it is 0, there is none
pub look_up_absent : {M : Marked} {limit w : ℕ} {s : Store} {t : Tabled} {k p n : ℕ} (q : TableQuestion) → IsSound M limit w s → tabled M.graph limit s ≡ t → k < length t.sets →
    p ≡ place_in k q → n ≡ get_or s.numbers p 0 → n ≡ 0 → ¬ Has t.look_ups (look_up t k (question_of q))
look_up_absent {s = s} q sound is within place at none =
    rw (← is) (number_absent q sound.held (rw (← is) at within) (sym (at ∙ ap (λ p. get_or s.numbers p 0) place) ∙ none))

-- ---- what is true of each table

apart_by_places : {X : Type 0} (xs : List X) → ((i j : ℕ) (x : X) → slice_get xs i ≡ Some x → slice_get xs j ≡ Some x → i ≡ j) → AreDistinct xs
apart_by_places [] h = tt
apart_by_places (x ∷ xs) h = (
  (λ m. let p = place_of-Has xs x m in let e : 0 ≡ suc p.0 = h 0 (suc p.0) x refl p.2 in omega (arith, e)),
  apart_by_places xs (λ i j y e f. let g : suc i ≡ suc j = h (suc i) (suc j) y e f in omega (arith, g)),
)

pub is_tabled : (M : Marked) (limit w : ℕ) (s : Store) → IsSound M limit w s → IsTabled (tabled M.graph limit s)
is_tabled M limit w s sound = record {
  start = sound.held.start;
  sets = sound.held.states;
  sets_apart = sound.held.apart;
  asked = λ r h.
      let y = Has-map_cases (look_up_of s.lists.sets) s.answers.items r h in
      subst (Has s.lists.sets) (ap (λ (z : LookUp). z.set) y.2) (Has-get_or s.lists.sets y.0.set [] (sound.held.answered y.0 y.1).set);
  asked_apart = apart_by_places (look_ups_of s.lists.sets s.answers.items) (λ i j r e f.
      let x = get_map_cases (look_up_of s.lists.sets) s.answers.items i r e in
      let y = get_map_cases (look_up_of s.lists.sets) s.answers.items j r f in
      places i j x.0 y.0 x.1 y.1 (x.2 ∙ sym y.2));
  within = omega (arith, sound.held.weighs, sound.light);
}
  where
    given : (i : ℕ) (x : Answer) → slice_get s.answers.items i ≡ Some x → x.set < length s.lists.sets
    given i x e = (sound.held.answered x (Has-slice_get s.answers.items i x e)).set

    places : (i j : ℕ) (x y : Answer) → slice_get s.answers.items i ≡ Some x → slice_get s.answers.items j ≡ Some y → look_up_of s.lists.sets x ≡ look_up_of s.lists.sets y → i ≡ j
    places i j x y e f same =
        let set : x.set ≡ y.set = number_told s.lists.sets x.set y.set sound.held.apart (given i x e) (given j y f) (ap (λ (r : LookUp). r.set) same) in
        let question : x.question ≡ y.question = same_question x.question y.question (ap (λ (r : LookUp). r.ask) same) in
        let n : suc i ≡ suc j = sym (sound.held.there i x e) ∙ ((λ k. get_or s.numbers (place_in (set k) (question k)) 0) ∙ sound.held.there j y f) in
        omega (arith, n)

-- a number as it is read
pub number_read : (numbers : List ℕ) (p at n : ℕ) → p ≡ at → at < length numbers → n ≡ get_or numbers p n → get_or numbers at 0 ≡ n
number_read numbers p at n e l h = sym (get_or_read numbers at n l (h ∙ ap (λ i. get_or numbers i n) e) 0)

-- ---- answers, as they are read

marks_of_all : (f : ℕ → Reach) → ((m : ℕ) → (f m).marks ≡ m) → (ms : List ℕ) → map (λ (e : Reach). e.marks) (map f ms) ≡ ms
marks_of_all f h [] = refl
marks_of_all f h (m ∷ ms) = let rest = marks_of_all f h ms in (λ i. h m i ∷ rest i)

edges_down : (A : Automaton) (S : List ℕ) (a : Question) → IsInOrder Above (map (λ (e : Reach). e.marks) (edges A S a))
edges_down A S (byte_read b) =
    let ms = blocks_down (map (λ (y : Way). y.marks) (ways_taken A S b)) in
    subst (IsInOrder Above) (sym (marks_of_all (reach_with (ways_taken A S b)) (λ m. refl) ms)) (blocks_in_order (map (λ (y : Way). y.marks) (ways_taken A S b)))
edges_down A S rest_taken = one (filter (is_among A.idle) S)
  where
    one : (xs : List ℕ) → IsInOrder Above (map (λ (e : Reach). e.marks) (rest_edge xs))
    one [] = tt
    one (x ∷ xs) = (tt, tt)
edges_down A S ended =
    let ms = blocks_down (map (λ (x : Stop). x.marks) (filter (λ (x : Stop). is_among S x.state) A.stops)) in
    subst (IsInOrder Above) (sym (marks_of_all end_reach (λ m. refl) ms)) (blocks_in_order (map (λ (x : Stop). x.marks) (filter (λ (x : Stop). is_among S x.state) A.stops)))

named_down : (sets : List (List ℕ)) (es : List Edge) → IsInOrder Above (map (λ (e : Reach). e.marks) (map (edge_named sets) es)) → IsInOrder (λ (e f : Edge). f.marks < e.marks) es
named_down sets [] h = tt
named_down sets (e ∷ es) h = (
  has_all (λ (f : Edge). f.marks < e.marks) es (λ f m. all_has (λ n. n < e.marks) (map (λ (r : Reach). r.marks) (map (edge_named sets) es)) f.marks h.0
      (Has-map (λ (r : Reach). r.marks) (map (edge_named sets) es) (edge_named sets f) (Has-map (edge_named sets) es f m))),
  named_down sets es h.1,
)

edged : (sets : List (List ℕ)) (es : List Edge) (ends : List ℕ) (q : TableQuestion) (f c : ℕ) → (q ≡ Ends → ⊥) →
    (answer_in sets es ends q f c ≡ map (edge_named sets) (part f c es)) × (room es ends q ≡ length es)
edged sets es ends (Byte b) f c h = (refl, refl)
edged sets es ends Rest f c h = (refl, refl)
edged sets es ends Ends f c h = absurd (h refl)

-- the edges of an answer
edges_within : {A : Automaton} {sets : List (List ℕ)} {answers : List Answer} {es : List Edge} {ends numbers : List ℕ} {w : ℕ} (x : Answer) →
    IsHeld A sets answers es ends numbers w → Has answers x → (x.question ≡ Ends → ⊥) → x.first + x.count ≤ length es
edges_within {sets = sets} {es = es} {ends = ends} x held h o = let a = held.answered x h in let e = edged sets es ends x.question x.first x.count o in omega (arith, a.within, e.1)

pub edges_are : {A : Automaton} (limit : ℕ) {sets : List (List ℕ)} {answers : List Answer} {es : List Edge} {ends numbers : List ℕ} {w : ℕ} (x : Answer) {cs : List Edge} →
    IsHeld A sets answers es ends numbers w → Has answers x → (x.question ≡ Ends → ⊥) → cs ≡ part x.first x.count es →
    HasEdges (record { graph = A; limit = limit; sets = sets; look_ups = look_ups_of sets answers }) (look_up_of sets x) cs
edges_are {A = A} limit {sets = sets} {es = es} {ends = ends} x {cs = cs} held h o is =
    let a = held.answered x h in
    let e = edged sets es ends x.question x.first x.count o in
    let named : map (edge_named sets) cs ≡ edges A (set_at sets x.set) (question_of x.question) = ap (map (edge_named sets)) is ∙ (sym e.0 ∙ a.is) in
    record {
      named = named;
      targets = λ f k. held.targets f (has_part x.first x.count es f (subst (λ (zs : List Edge). Has zs f) is k));
      order = named_down sets cs (subst (λ (zs : List Reach). IsInOrder Above (map (λ (r : Reach). r.marks) zs)) (sym named) (edges_down A (set_at sets x.set) (question_of x.question)));
    }

marks_down : (ms : List ℕ) → IsInOrder Above (map (λ (e : Reach). e.marks) (map end_reach ms)) → IsInOrder (λ (m n : ℕ). n < m) ms
marks_down ms h = subst (IsInOrder Above) (marks_of_all end_reach (λ m. refl) ms) h

ended_in : (sets : List (List ℕ)) (es : List Edge) (ends : List ℕ) (q : TableQuestion) (f c : ℕ) → q ≡ Ends →
    (answer_in sets es ends q f c ≡ map end_reach (part f c ends)) × (room es ends q ≡ length ends)
ended_in sets es ends (Byte b) f c h = absurd (cc)
ended_in sets es ends Rest f c h = absurd (cc)
ended_in sets es ends Ends f c h = (refl, refl)

ends_within : {A : Automaton} {sets : List (List ℕ)} {answers : List Answer} {es : List Edge} {ends numbers : List ℕ} {w : ℕ} (x : Answer) →
    IsHeld A sets answers es ends numbers w → Has answers x → x.question ≡ Ends → x.first + x.count ≤ length ends
ends_within {sets = sets} {es = es} {ends = ends} x held h o = let a = held.answered x h in let e = ended_in sets es ends x.question x.first x.count o in omega (arith, a.within, e.1)

ends_are : {A : Automaton} (limit : ℕ) {sets : List (List ℕ)} {answers : List Answer} {es : List Edge} {ends numbers : List ℕ} {w : ℕ} (x : Answer) {ms : List ℕ} →
    IsHeld A sets answers es ends numbers w → Has answers x → x.question ≡ Ends → ms ≡ part x.first x.count ends →
    HasEnds (record { graph = A; limit = limit; sets = sets; look_ups = look_ups_of sets answers }) (look_up_of sets x) ms
ends_are {A = A} limit {sets = sets} {es = es} {ends = ends} x {ms = ms} held h o is =
    let a = held.answered x h in
    let e = ended_in sets es ends x.question x.first x.count o in
    let named : map end_reach ms ≡ edges A (set_at sets x.set) (question_of x.question) = ap (map end_reach) is ∙ (sym e.0 ∙ a.is) in
    record {
      named = named;
      order = marks_down ms (subst (λ (zs : List Reach). IsInOrder Above (map (λ (r : Reach). r.marks) zs)) (sym named) (edges_down A (set_at sets x.set) (question_of x.question)));
    }

-- the answer that is read at the number of a look-up
module _ {M : Marked} {limit w : ℕ} {s : Store} {t : Tabled} {n : ℕ} {x : Answer} (sound : IsSound M limit w s) (is : tabled M.graph limit s ≡ t) (within : n < length t.look_ups)
    (read : x ≡ get_or s.answers.items n x) where
  answer_read : slice_get s.answers.items n ≡ Some x
  answer_read =
      let l : n < length (look_ups_of s.lists.sets s.answers.items) = rw (← is) at within in
      slice_get-get_or s.answers.items n x (omega (arith, l, length-map s.answers.items (look_up_of s.lists.sets))) ∙ ap Some (sym read)

  answer_has : Has s.answers.items x
  answer_has = Has-slice_get s.answers.items n x answer_read

  answer_asked : slice_get t.look_ups n ≡ Some (look_up_of s.lists.sets x)
  answer_asked = rw (← is) (get_map (look_up_of s.lists.sets) s.answers.items n x answer_read)

  answer_same : (r : LookUp) → slice_get t.look_ups n ≡ Some r → look_up_of s.lists.sets x ≡ r
  answer_same r h = some_same (look_up_of s.lists.sets x) r (sym answer_asked ∙ h)

  module _ (edges : (r : LookUp) → slice_get t.look_ups n ≡ Some r → r.ask ≡ ended → ⊥) where
    no_ends : x.question ≡ Ends → ⊥
    no_ends e = edges (look_up_of s.lists.sets x) answer_asked (ap question_of e)

    -- its edges are there
    pub edges_there : x.first + x.count ≤ length s.lists.edges.items
    edges_there = edges_within x sound.held answer_has no_ends

    -- and are those of the look-up
    pub edges_told : {cs : List Edge} → cs ≡ part x.first x.count s.lists.edges.items → (r : LookUp) → slice_get t.look_ups n ≡ Some r → HasEdges t r cs
    edges_told at r h = rw (← is, ← answer_same r h) (edges_are limit x sound.held answer_has no_ends at)

  module _ (ends : (r : LookUp) → slice_get t.look_ups n ≡ Some r → r.ask ≡ ended) where
    are_ends : x.question ≡ Ends
    are_ends = same_question x.question Ends (ends (look_up_of s.lists.sets x) answer_asked)

    -- its ends are there
    pub ends_there : x.first + x.count ≤ length s.lists.ends.items
    ends_there = ends_within x sound.held answer_has are_ends

    -- and are those of the look-up
    pub ends_told : {ms : List ℕ} → ms ≡ part x.first x.count s.lists.ends.items → (r : LookUp) → slice_get t.look_ups n ≡ Some r → HasEnds t r ms
    ends_told at r h = rw (← is, ← answer_same r h) (ends_are limit x sound.held answer_has are_ends at)

-- ---- the rest

rest_is_none : (idle : List ℕ) → [] ≡ rest_edge idle → idle ≡ []
rest_is_none [] e = refl
rest_is_none (p ∷ ps) e = absurd (cc)

pub no_rest : (t : Tabled) (k : ℕ) (es : List Edge) → HasEdges t (look_up t k rest_taken) es → length es ≡ 0 → idle_of t k ≡ []
no_rest t k [] h l = rest_is_none (idle_of t k) h.named
no_rest t k (e ∷ es) h l = absurd (omega (arith, l))

rest_is_one : (idle : List ℕ) (r : Reach) (rs : List Reach) → r ∷ rs ≡ rest_edge idle → (r.to ≡ idle) × (idle ≡ [] → ⊥)
rest_is_one [] r rs e = absurd (cc)
rest_is_one (p ∷ ps) r rs e = ((let f : r ≡ record { marks = 0; to = p ∷ ps } = cc in ap (λ (x : Reach). x.to) f), λ f. differ f)
  where
    differ : p ∷ ps ≡ [] → ⊥
    differ f = cc

pub some_rest : (t : Tabled) (k : ℕ) (es : List Edge) (f : Edge) → HasEdges t (look_up t k rest_taken) es → (length es ≡ 0 → ⊥) → f ≡ get_or es 0 f →
    (slice_get t.sets f.to ≡ Some (idle_of t k)) × (idle_of t k ≡ [] → ⊥)
some_rest t k [] f h o at = absurd (o refl)
some_rest t k (e ∷ es) f h o at =
    let r = rest_is_one (idle_of t k) (edge_named t.sets e) (map (edge_named t.sets) es) h.named in
    (ap (λ (x : Edge). slice_get t.sets x.to) at ∙ (at_number t.sets e.to (h.targets e (inl refl)) ∙ ap Some r.0), r.1)
