-- Sets that are reached, the look-ups that are asked for and the edges that are read, from sets in any order.
use Rattle.std.proofs.Common.{◌≡◌, ℕ, ◌+◌, ◌≤◌, Bool, true, List, [], ◌∷◌, ◌++◌, length, map, inl, inr, refl, sym, ap, subst, arith, ◌∙◌, append_assoc}
use Rattle.std.specs.List.{flat_map, sum_by}
use Rattle.std.specs.Str.{bytes_eq}
use Rattle.std.proofs.lemmas.List.Sums.{sum_by-append}
use Rattle.span_core.specs.Lists.{Has, AreDistinct}
use Rattle.span_core.proofs.HasLaws.{Has-append_left, Has-append_right, Has-append_cases, Has-map, Has-map_cases}
use Rattle.marked_automaton.specs.Automaton.{Automaton}
use Rattle.marked_automaton.proofs.Passing.{has_flat_map, flat_map_cases}
use Rattle.automaton_reading.specs.Reading.{Question, Reach, LookUp, edges, next_sets, once, look_up_edges, look_up_same, look_ups_asked}
use Rattle.automaton_reading.proofs.Matching.{cons_sum, match_sum, once_has, has_once, once_distinct, map_distinct}
use Rattle.automaton_reading.proofs.MeasureLaws.{same_bytes, bytes_itself, same_look_up, look_up_itself}
use Rattle.one_pass.specs.Passes.{weight_of}
use Rattle.one_pass.specs.Places.{sets_after, sets_met, edges_read}

-- each of ys is one of xs
abbrev pub Covers : {X : Type 0} → List X → List X → Type 0
Covers {X} xs ys = (x : X) → Has ys x → Has xs x

-- no more over distinct elements
pub sum_covers : {X : Type 0} (w : X → ℕ) (xs ys : List X) → AreDistinct ys → Covers xs ys → sum_by w ys ≤ sum_by w xs
sum_covers {X} w xs ys distinct cover =
    match_sum (λ (x y : X). x ≡ y) w w ys xs distinct
    (λ x h. (x, cover x h, refl, omega arith)) (λ x z y a b. a ∙ sym b)

pub sum_map : {X Y : Type 0} (f : Y → ℕ) (g : X → Y) (xs : List X) → sum_by f (map g xs) ≡ sum_by (λ x. f (g x)) xs
sum_map f g [] = refl
sum_map {X} f g (x ∷ xs) =
    let h : X → ℕ = λ x. f (g x) in
    cons_sum f (g x) (map g xs) ∙ (ap (λ n. f (g x) + n) (sum_map f g xs) ∙ sym (cons_sum h x xs))

module _ (A : Automaton) where
  abbrev led : Question → List ℕ → List (List ℕ)
  led a set = map (λ (e : Reach). e.to) (edges A set a)

  pub next_cases : (sets : List (List ℕ)) (a : Question) (set : List ℕ) → Has (next_sets A sets a) set →
      (from : List ℕ) × Has sets from × (e : Reach) × Has (edges A from a) e × (e.to ≡ set)
  next_cases sets a set h =
      let k = has_once bytes_eq same_bytes bytes_itself (flat_map (led a) sets) set h in
      let x = flat_map_cases (led a) sets set k in
      let e = Has-map_cases (λ (e : Reach). e.to) (edges A x.0 a) set x.2 in
      (x.0, x.1, e.0, e.1, e.2)

  pub has_next : (sets : List (List ℕ)) (a : Question) (from : List ℕ) (e : Reach) → Has sets from → Has (edges A from a) e → Has (next_sets A sets a) e.to
  has_next sets a from e h k =
      once_has bytes_eq same_bytes bytes_itself (flat_map (led a) sets) e.to
      (has_flat_map (led a) sets from e.to h (Has-map (λ (e : Reach). e.to) (edges A from a) e k))

  pub next_distinct : (sets : List (List ℕ)) (a : Question) → AreDistinct (next_sets A sets a)
  next_distinct sets a = once_distinct bytes_eq same_bytes bytes_itself (flat_map (led a) sets)

  pub next_covers : (xs ys : List (List ℕ)) (a : Question) → Covers xs ys → Covers (next_sets A xs a) (next_sets A ys a)
  next_covers xs ys a cover set h =
      let n = next_cases ys a set h in
      subst (Has (next_sets A xs a)) n.4 (has_next xs a n.0 n.2 (cover n.0 n.1) n.3)

  pub after_covers : (xs ys : List (List ℕ)) (questions : List Question) → Covers xs ys → Covers (sets_after A xs questions) (sets_after A ys questions)
  after_covers xs ys [] cover = cover
  after_covers xs ys (a ∷ questions) cover = after_covers (next_sets A xs a) (next_sets A ys a) questions (next_covers xs ys a cover)

  pub met_covers : (xs ys : List (List ℕ)) (questions : List Question) → Covers xs ys → Covers (sets_met A xs questions) (sets_met A ys questions)
  met_covers xs ys [] cover set h = cover set h
  met_covers xs ys (a ∷ questions) cover set h =
      elim (Has-append_cases ys (sets_met A (next_sets A ys a) questions) set h) [
        | inl i ↦ Has-append_left xs (sets_met A (next_sets A xs a) questions) set (cover set i)
        | inr j ↦ Has-append_right xs (sets_met A (next_sets A xs a) questions) set (met_covers (next_sets A xs a) (next_sets A ys a) questions (next_covers xs ys a cover) set j)
      ]

  abbrev pub look_up_asked : Question → List ℕ → LookUp
  look_up_asked a set = record { set = set; ask = a }

  pub look_ups_covers : (xs ys : List (List ℕ)) (questions : List Question) → Covers xs ys → Covers (look_ups_asked A xs questions) (look_ups_asked A ys questions)
  look_ups_covers xs ys [] cover look_up h = absurd h
  look_ups_covers xs ys (a ∷ questions) cover look_up h =
      elim (Has-append_cases (map (look_up_asked a) ys) (look_ups_asked A (next_sets A ys a) questions) look_up h) [
        | inl i ↦
            let s = Has-map_cases (look_up_asked a) ys look_up i in
            Has-append_left (map (look_up_asked a) xs) (look_ups_asked A (next_sets A xs a) questions) look_up
            (subst (Has (map (look_up_asked a) xs)) s.2 (Has-map (look_up_asked a) xs s.0 (cover s.0 s.1)))
        | inr j ↦
            Has-append_right (map (look_up_asked a) xs) (look_ups_asked A (next_sets A xs a) questions) look_up
            (look_ups_covers (next_sets A xs a) (next_sets A ys a) questions (next_covers xs ys a cover) look_up j)
      ]

  pub edges_covers : (xs ys : List (List ℕ)) (questions : List Question) → AreDistinct ys → Covers xs ys → edges_read A ys questions ≤ edges_read A xs questions
  edges_covers xs ys [] distinct cover = omega arith
  edges_covers xs ys (a ∷ questions) distinct cover =
      let here = sum_covers (look_up_edges A) (map (look_up_asked a) xs) (map (look_up_asked a) ys)
      (map_distinct (look_up_asked a) ys (λ x z i. ap (λ (w : LookUp). w.set) i) distinct)
      (λ look_up h.
      let s = Has-map_cases (look_up_asked a) ys look_up h in
      subst (Has (map (look_up_asked a) xs)) s.2 (Has-map (look_up_asked a) xs s.0 (cover s.0 s.1))) in
      let rest = edges_covers (next_sets A xs a) (next_sets A ys a) questions (next_distinct ys a) (next_covers xs ys a cover) in
      omega (
        arith,
        here,
        rest,
        sum_by-append (look_up_edges A) (map (look_up_asked a) xs) (look_ups_asked A (next_sets A xs a) questions),
        sum_by-append (look_up_edges A) (map (look_up_asked a) ys) (look_ups_asked A (next_sets A ys a) questions),
      )

  -- ---- what is asked later

  pub after_append : (sets : List (List ℕ)) (questions bs : List Question) → sets_after A sets (questions ++ bs) ≡ sets_after A (sets_after A sets questions) bs
  after_append sets [] bs = refl
  after_append sets (a ∷ questions) bs = after_append (next_sets A sets a) questions bs

  pub look_ups_append : (sets : List (List ℕ)) (questions bs : List Question) →
      look_ups_asked A sets (questions ++ bs) ≡ look_ups_asked A sets questions ++ look_ups_asked A (sets_after A sets questions) bs
  look_ups_append sets [] bs = refl
  look_ups_append sets (a ∷ questions) bs =
      ap (λ look_ups. map (look_up_asked a) sets ++ look_ups) (look_ups_append (next_sets A sets a) questions bs)
      ∙ sym (append_assoc (map (look_up_asked a) sets) (look_ups_asked A (next_sets A sets a) questions) (look_ups_asked A (sets_after A (next_sets A sets a) questions) bs))

  pub edges_append : (sets : List (List ℕ)) (questions bs : List Question) →
      edges_read A sets (questions ++ bs) ≡ edges_read A sets questions + edges_read A (sets_after A sets questions) bs
  edges_append sets questions bs =
      ap (sum_by (look_up_edges A)) (look_ups_append sets questions bs)
      ∙ sum_by-append (look_up_edges A) (look_ups_asked A sets questions) (look_ups_asked A (sets_after A sets questions) bs)

  pub met_left : (sets : List (List ℕ)) (questions bs : List Question) → Covers (sets_met A sets (questions ++ bs)) (sets_met A sets questions)
  met_left sets [] [] set h = h
  met_left sets [] (b ∷ bs) set h = Has-append_left sets (sets_met A (next_sets A sets b) bs) set h
  met_left sets (a ∷ questions) bs set h =
      elim (Has-append_cases sets (sets_met A (next_sets A sets a) questions) set h) [
        | inl i ↦ Has-append_left sets (sets_met A (next_sets A sets a) (questions ++ bs)) set i
        | inr j ↦ Has-append_right sets (sets_met A (next_sets A sets a) (questions ++ bs)) set (met_left (next_sets A sets a) questions bs set j)
      ]

  pub met_right : (sets : List (List ℕ)) (questions bs : List Question) → Covers (sets_met A sets (questions ++ bs)) (sets_met A (sets_after A sets questions) bs)
  met_right sets [] bs set h = h
  met_right sets (a ∷ questions) bs set h =
      Has-append_right sets (sets_met A (next_sets A sets a) (questions ++ bs)) set (met_right (next_sets A sets a) questions bs set h)

  pub look_ups_left : (sets : List (List ℕ)) (questions bs : List Question) → Covers (look_ups_asked A sets (questions ++ bs)) (look_ups_asked A sets questions)
  look_ups_left sets questions bs look_up h =
      subst (λ look_ups. Has look_ups look_up) (sym (look_ups_append sets questions bs))
      (Has-append_left (look_ups_asked A sets questions) (look_ups_asked A (sets_after A sets questions) bs) look_up h)

  pub look_ups_right : (sets : List (List ℕ)) (questions bs : List Question) → Covers (look_ups_asked A sets (questions ++ bs)) (look_ups_asked A (sets_after A sets questions) bs)
  look_ups_right sets questions bs look_up h =
      subst (λ look_ups. Has look_ups look_up) (sym (look_ups_append sets questions bs))
      (Has-append_right (look_ups_asked A sets questions) (look_ups_asked A (sets_after A sets questions) bs) look_up h)

  -- ---- weights

  once_covers : {X : Type 0} (same : X → X → Bool) (same_is : (x y : X) → same x y ≡ true → x ≡ y) (is_same : (x : X) → same x x ≡ true)
      (w : X → ℕ) (xs ys : List X) → Covers xs ys → sum_by w (once same ys) ≤ sum_by w (once same xs)
  once_covers same same_is is_same w xs ys cover =
      sum_covers w (once same xs) (once same ys) (once_distinct same same_is is_same ys)
      (λ x h. once_has same same_is is_same xs x (cover x (has_once same same_is is_same ys x h)))

  pub weight_covers : (xs ys : List (List ℕ)) (rs qs : List LookUp) → Covers xs ys → Covers rs qs → weight_of A ys qs ≤ weight_of A xs rs
  weight_covers xs ys rs qs sets look_ups =
      let s = once_covers bytes_eq same_bytes bytes_itself (λ set. 1 + length set) xs ys sets in
      let r = once_covers look_up_same same_look_up look_up_itself (λ r. 1 + look_up_edges A r) rs qs look_ups in
      omega (arith, s, r)
