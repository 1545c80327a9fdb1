-- What is held is of the lengths at which rows were asked for, and a reduct holds no more than what it reduces.
use Rattle.std.proofs.Common.{◌≡◌, ℕ, ◌+◌, ◌≤◌, List, [], ◌∷◌, ◌++◌, Option, length, map, take, inl, inr, refl, sym, ap, subst, arith}
use Rattle.std.specs.List.{sum_by}
use Rattle.std.specs.Str.{bytes_eq}
use Rattle.std.proofs.Common.{length-append}
use Rattle.std.proofs.lemmas.List.{take-append-le}
use Rattle.std.proofs.Math.Seq.{take-length}
use Rattle.span_core.specs.Lists.{Has}
use Rattle.span_core.proofs.HasLaws.{Has-append_cases, Has-append_left, Has-append_right, Has-map, Has-map_cases}
use Rattle.marked_automaton.specs.Automaton.{Automaton, Marked}
use Rattle.marked_automaton.specs.Reduct.{IsReduct}
use Rattle.marked_automaton.proofs.Passing.{flat_map_cases, has_flat_map}
use Rattle.automaton_reading.specs.Reading.{Question, ended, LookUp, next_sets, once, look_up_edges}
use Rattle.automaton_reading.proofs.MeasureLaws.{Covers, IsLookUpShadow, IsShadow, next_covers, once_look_ups, once_sets, look_up_no_more, look_ups_cover, start_covers}
use Rattle.one_pass.specs.Places.{sets_after, sets_met}
use Rattle.one_pass.proofs.Sets.{weight_covers}
use Rattle.growing_document.specs.Lengths.{LengthsLaw, ReductWeighs, ends_at, weight_at}
use Rattle.growing_document.specs.Numbers.{questions_in, end_look_ups, end_look_ups_at, first_sets, look_ups_in, sets_at_end, sets_in, weight_with}

-- ---- reducts

abbrev ending : List ℕ → LookUp
ending set = record { set = set; ask = ended }

sets_again : (sets : List (List ℕ)) → map (λ (x : LookUp). x.set) (map ending sets) ≡ sets
sets_again [] = refl
sets_again (set ∷ sets) = ap (λ (xs : List (List ℕ)). set ∷ xs) (sets_again sets)

module _ (A B : Automaton) (f g : ℕ → Option ℕ) (e : ℕ → ℕ → ℕ) (r : IsReduct A B f g e) where
  -- each set that is met is the image of one that is met
  met_cover : (BS AS : List (List ℕ)) (questions : List Question) → Covers A B f g e r BS AS → Covers A B f g e r (sets_met B BS questions) (sets_met A AS questions)
  met_cover BS AS [] cover SA h = cover SA h
  met_cover BS AS (a ∷ later) cover SA h =
      elim (Has-append_cases AS (sets_met A (next_sets A AS a) later) SA h) as (λ _. (SB : List ℕ) × Has (BS ++ sets_met B (next_sets B BS a) later) SB × IsShadow A B f g e r SB SA) [
        | inl i ↦ let t = cover SA i in (t.0, Has-append_left BS (sets_met B (next_sets B BS a) later) t.0 t.1, t.2)
        | inr j ↦
            let t = met_cover (next_sets B BS a) (next_sets A AS a) later (next_covers A B f g e r BS AS a cover) SA j in
            (t.0, Has-append_right BS (sets_met B (next_sets B BS a) later) t.0 t.1, t.2)
      ]

  after_cover : (BS AS : List (List ℕ)) (questions : List Question) → Covers A B f g e r BS AS → Covers A B f g e r (sets_after B BS questions) (sets_after A AS questions)
  after_cover BS AS [] cover = cover
  after_cover BS AS (a ∷ later) cover = after_cover (next_sets B BS a) (next_sets A AS a) later (next_covers A B f g e r BS AS a cover)

  ends_cover : (d lengths : List ℕ) (x : LookUp) → Has (ends_at A d lengths) x → (y : LookUp) × Has (ends_at B d lengths) y × IsLookUpShadow A B f g e r x y
  ends_cover d lengths x h =
      let n = flat_map_cases (λ n. end_look_ups_at A (take n d)) lengths x h in
      let cover = after_cover (first_sets B) (first_sets A) (questions_in (take n.0 d)) (start_covers A B f g e r) in
      let t = look_ups_cover A B f g e r (sets_at_end B (take n.0 d)) (sets_at_end A (take n.0 d)) (ended ∷ []) cover x n.2 in
      (t.0, has_flat_map (λ n. end_look_ups_at B (take n d)) lengths n.0 t.0 n.1 t.1, t.2)

  held_cover : (d lengths : List ℕ) (x : LookUp) → Has (look_ups_in A d ++ ends_at A d lengths) x → (y : LookUp) × Has (look_ups_in B d ++ ends_at B d lengths) y × IsLookUpShadow A B f g e r x y
  held_cover d lengths x h =
      elim (Has-append_cases (look_ups_in A d) (ends_at A d lengths) x h) as (λ _. (y : LookUp) × Has (look_ups_in B d ++ ends_at B d lengths) y × IsLookUpShadow A B f g e r x y) [
        | inl i ↦
            let t = look_ups_cover A B f g e r (first_sets B) (first_sets A) (questions_in d) (start_covers A B f g e r) x i in
            (t.0, Has-append_left (look_ups_in B d) (ends_at B d lengths) t.0 t.1, t.2)
        | inr j ↦ let t = ends_cover d lengths x j in (t.0, Has-append_right (look_ups_in B d) (ends_at B d lengths) t.0 t.1, t.2)
      ]

  met_look_ups : (d : List ℕ) (x : LookUp) → Has (map ending (sets_in A d)) x → (y : LookUp) × Has (map ending (sets_in B d)) y × IsLookUpShadow A B f g e r x y
  met_look_ups d x h =
      let s = Has-map_cases ending (sets_in A d) x h in
      let t = met_cover (first_sets B) (first_sets A) (questions_in d) (start_covers A B f g e r) s.0 s.1 in (
        ending t.0,
        Has-map ending (sets_in B d) t.0 t.1,
        record { sets = subst (λ (w : LookUp). IsShadow A B f g e r t.0 w.set) s.2 t.2; asks = sym (ap (λ (w : LookUp). w.ask) s.2) },
      )

  pub weighs : (d lengths : List ℕ) → weight_at A d lengths ≤ weight_at B d lengths
  weighs d lengths =
      let total : List (List ℕ) → ℕ = λ sets. sum_by (λ (set : List ℕ). 1 + length set) (once bytes_eq sets) in
      let sets = once_sets A B f g e r (map ending (sets_in A d)) (map ending (sets_in B d)) (met_look_ups d) in
      let look_ups = once_look_ups A B f g e r (λ x. 1 + look_up_edges A x) (λ y. 1 + look_up_edges B y) (look_ups_in A d ++ ends_at A d lengths)
      (look_ups_in B d ++ ends_at B d lengths) (held_cover d lengths)
      (λ x y s. let le = look_up_no_more A B f g e r x y s in omega (arith, le)) in
      omega (arith, sets, look_ups, ap total (sets_again (sets_in A d)), ap total (sets_again (sets_in B d)))

pub reduct_weighs : ReductWeighs
reduct_weighs A B h d lengths = weighs A B h.0 h.1 h.2 h.3 d lengths

-- ---- lengths

-- the end look-ups at a length are the same behind any piece
ends_later : (A : Automaton) (d piece lengths : List ℕ) → ((n : ℕ) → Has lengths n → n ≤ length d) → (look_up : LookUp) →
    Has (ends_at A d lengths) look_up → Has (ends_at A (d ++ piece) lengths) look_up
ends_later A d piece lengths within look_up h =
    let n = flat_map_cases (λ n. end_look_ups_at A (take n d)) lengths look_up h in
    let same : take n.0 (d ++ piece) ≡ take n.0 d = take-append-le n.0 d piece (within n.0 n.1) in
    has_flat_map (λ n. end_look_ups_at A (take n (d ++ piece))) lengths n.0 look_up n.1 (rw same n.2)

ends_now : (A : Automaton) (d lengths : List ℕ) (look_up : LookUp) → Has (end_look_ups_at A d) look_up → Has (ends_at A d (length d ∷ lengths)) look_up
ends_now A d lengths look_up h =
    has_flat_map (λ n. end_look_ups_at A (take n d)) (length d ∷ lengths) (length d) look_up (inl refl) (rw (take-length d) h)

ends_before : (A : Automaton) (d lengths : List ℕ) (n : ℕ) (look_up : LookUp) → Has (ends_at A d lengths) look_up → Has (ends_at A d (n ∷ lengths)) look_up
ends_before A d lengths n look_up h =
    let m = flat_map_cases (λ n. end_look_ups_at A (take n d)) lengths look_up h in
    has_flat_map (λ n. end_look_ups_at A (take n d)) (n ∷ lengths) m.0 look_up (inr m.1) m.2

-- a document with more end look-ups weighs no less
more_ends : (A : Automaton) (d : List ℕ) (some all : List LookUp) → ((look_up : LookUp) → Has some look_up → Has all look_up) → weight_with A d some ≤ weight_with A d all
more_ends A d some all within =
    weight_covers A (sets_in A d) (sets_in A d) (look_ups_in A d ++ all) (look_ups_in A d ++ some) (λ set h. h)
    (λ look_up h. elim (Has-append_cases (look_ups_in A d) some look_up h) as (λ _. Has (look_ups_in A d ++ all) look_up) [
      | inl k ↦ Has-append_left (look_ups_in A d) all look_up k
      | inr k ↦ Has-append_right (look_ups_in A d) all look_up (within look_up k)
    ])

pub lengths_law : LengthsLaw
lengths_law = record {
  start = λ A limit. record { within = λ n h. absurd h; ends = λ look_up h. absurd h };
  appended = λ old new piece lengths held more. record {
    within = λ n h. let le = held.within n h in let long = ap length more.document in let sum = length-append old.document piece in omega arith;
    ends = λ look_up h.
        let there = ends_later old.automaton.graph old.document piece lengths held.within look_up (held.ends look_up ((more.ends look_up).0 h)) in
        rw (← more.automaton) at (rw (← more.document) at there);
  };
  asked = λ old new lengths held asked. record {
    within = λ n h. elim h as (λ _. n ≤ length new.document) [
      | inl e ↦ let same = ap length asked.document in omega arith
      | inr k ↦ let le = held.within n k in let same = ap length asked.document in omega arith
    ];
    ends = λ look_up h.
        let there : Has (ends_at old.automaton.graph old.document (length old.document ∷ lengths)) look_up =
        elim (asked.ends look_up h) as (λ _. Has (ends_at old.automaton.graph old.document (length old.document ∷ lengths)) look_up) [
          | inl k ↦ ends_before old.automaton.graph old.document lengths (length old.document) look_up (held.ends look_up k)
          | inr k ↦ ends_now old.automaton.graph old.document lengths look_up k
        ] in
        subst (λ (A : Marked). Has (ends_at A.graph new.document (length old.document ∷ lengths)) look_up) (sym asked.automaton)
        (subst (λ (d : List ℕ). Has (ends_at old.automaton.graph d (length old.document ∷ lengths)) look_up) (sym asked.document) there);
  };
  append_full = λ g piece lengths weight held cause.
      let less = more_ends g.automaton.graph (g.document ++ piece) (end_look_ups g.look_ups) (ends_at g.automaton.graph (g.document ++ piece) lengths)
      (λ look_up h. ends_later g.automaton.graph g.document piece lengths held.within look_up (held.ends look_up h)) in
      let most = cause.1 in
      (cause.0, omega arith);
  rows_full = λ g lengths weight held cause.
      let now = end_look_ups_at g.automaton.graph g.document in
      let less = more_ends g.automaton.graph g.document (end_look_ups g.look_ups ++ now) (ends_at g.automaton.graph g.document (length g.document ∷ lengths))
      (λ look_up h. elim (Has-append_cases (end_look_ups g.look_ups) now look_up h) as (λ _. Has (ends_at g.automaton.graph g.document (length g.document ∷ lengths)) look_up) [
        | inl k ↦ ends_before g.automaton.graph g.document lengths (length g.document) look_up (held.ends look_up k)
        | inr k ↦ ends_now g.automaton.graph g.document lengths look_up k
      ]) in
      let most = cause.1 in
      (cause.0, omega arith);
}
