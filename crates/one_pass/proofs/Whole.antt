-- A whole document, from the start states' set to the accepted words.
use Rattle.std.proofs.Common.{◌≡◌, ℕ, suc, ◌+◌, ◌*◌, ◌≤◌, ◌<◌, ◌⊎◌, Bool, true, false, List, [], ◌∷◌, ◌++◌, length, length-append, get_or, map, inl, inr, refl, sym, ap, subst, arith, ◌∙◌, mul-le-mul_right}
use Rattle.std.specs.Prelude.{◌↔◌, ◌||◌, if◌then◌else◌}
use Rattle.std.proofs.lemmas.Option.{get_or_from_slice_get}
use Rattle.span_core.specs.Lists.{Has, AreDistinct}
use Rattle.span_core.proofs.HasLaws.{Has-append_left, Has-append_right, Has-append_cases, Has-map, Has-map_cases, distinct-le}
use Rattle.marked_automaton.specs.Automaton.{Automaton, size}
use Rattle.automaton_reading.specs.Reading.{Question, byte_read, rest_taken, ended, LookUp, questions, edges_K, next_sets, once, look_up_same, look_ups_asked, look_ups_K, look_ups_read, set_of, weight_K}
use Rattle.automaton_reading.proofs.Matching.{once_has}
use Rattle.automaton_reading.proofs.MeasureLaws.{same_look_up, look_up_itself}
use Rattle.set_table.specs.Tabled.{IsTabled, Tabled}
use Rattle.numbered_lists.specs.Numbered.{set_at}
use Rattle.node_arena.specs.Words.{Word}
use Rattle.output_graph.specs.Graph.{Source, sources, targets}
use Rattle.one_pass.specs.Builds.{IsNew, IsStarted, build}
use Rattle.one_pass.specs.Layers.{first_source}
use Rattle.one_pass.specs.Seen.{accepted_words}
use Rattle.one_pass.specs.Places.{ReadingPlace, AreReadWords, Leads, asks, byte_at, edges_read, end_at, places, rest_at, sets_after, sets_met}
use Rattle.one_pass.specs.Passes.{Progress, sets_of, Reaches, HasEnded, HasRead, HasStopped, Stop, IsExcess, weight_of}
use Rattle.one_pass.specs.Weights.{IsDue, Tells}
use Rattle.one_pass.proofs.ReadWords.{leads_then, read_words, then_leads}
use Rattle.one_pass.proofs.Sets.{Covers, edges_append, edges_covers, look_ups_covers, look_ups_left, look_ups_right, weight_covers}
use Rattle.one_pass.proofs.Composing.{asks_append}
use Rattle.one_pass.proofs.Due.{due_asked, due_cases}
use Rattle.one_pass.proofs.GraphLaws.{words_have}
use Rattle.one_pass.proofs.Telling.{held_tells, tells_grown}

-- the places ask what reading asks
pub asks_places : (K : ℕ → Bool) (d : List ℕ) (i : ℕ) (gap : Bool) → asks (places K d i gap) ≡ questions K d i gap
asks_places K [] i gap = go (K i || gap)
  where
    go : (c : Bool) → asks (if c then end_at i ∷ [] else rest_at i ∷ end_at i ∷ []) ≡ (if c then ended ∷ [] else rest_taken ∷ ended ∷ [])
    go true = refl
    go false = refl
asks_places K (b ∷ d) i gap = go (asks_places K d (suc i)) (K i) gap
  where
    go : ((g : Bool) → asks (places K d (suc i) g) ≡ questions K d (suc i) g) → (k g : Bool) →
        asks (if k then byte_at i b ∷ places K d (suc i) false else (if g then places K d (suc i) true else rest_at i ∷ places K d (suc i) true))
        ≡ (if k then byte_read b ∷ questions K d (suc i) false else (if g then questions K d (suc i) true else rest_taken ∷ questions K d (suc i) true))
    go rest true g = ap (λ later. byte_read b ∷ later) (rest false)
    go rest false true = rest true
    go rest false false = ap (λ later. rest_taken ∷ later) (rest true)

-- something is asked
some_asked : (K : ℕ → Bool) (d : List ℕ) (i : ℕ) → (a : Question) × (later : List Question) × (questions K d i false ≡ a ∷ later)
some_asked K [] i = go (K i || false)
  where
    go : (c : Bool) → (a : Question) × (later : List Question) × ((if c then ended ∷ [] else rest_taken ∷ ended ∷ []) ≡ a ∷ later)
    go true = (ended, [], refl)
    go false = (rest_taken, ended ∷ [], refl)
some_asked K (b ∷ d) i = go (K i)
  where
    go : (k : Bool) → (a : Question) × (later : List Question) ×
        ((if k then byte_read b ∷ questions K d (suc i) false else rest_taken ∷ questions K d (suc i) true) ≡ a ∷ later)
    go true = (byte_read b, questions K d (suc i) false, refl)
    go false = (rest_taken, questions K d (suc i) true, refl)

-- the sets on the way are asked for something, where one more thing is asked
met_asked : (A : Automaton) (sets : List (List ℕ)) (front : List Question) (a : Question) (later : List Question) →
    Covers (map (λ (r : LookUp). r.set) (look_ups_asked A sets (front ++ a ∷ later))) (sets_met A sets front)
met_asked A sets [] a later set h = here sets a later set h
  where
    here : (sets : List (List ℕ)) (a : Question) (later : List Question) (set : List ℕ) → Has sets set → Has (map (λ (r : LookUp). r.set) (look_ups_asked A sets (a ∷ later))) set
    here sets a later set h =
        let look_up : List ℕ → LookUp = λ s. record { set = s; ask = a } in
        Has-map (λ (r : LookUp). r.set) (look_ups_asked A sets (a ∷ later)) (look_up set)
        (Has-append_left (map look_up sets) (look_ups_asked A (next_sets A sets a) later) (look_up set) (Has-map look_up sets set h))
met_asked A sets (b ∷ front) a later set h =
    let look_up : List ℕ → LookUp = λ s. record { set = s; ask = b } in
    let all : List LookUp = look_ups_asked A sets (b ∷ (front ++ a ∷ later)) in
    elim (Has-append_cases sets (sets_met A (next_sets A sets b) front) set h) as (λ _. Has (map (λ (r : LookUp). r.set) all) set) [
      | inl i ↦
          Has-map (λ (r : LookUp). r.set) all (look_up set)
          (Has-append_left (map look_up sets) (look_ups_asked A (next_sets A sets b) (front ++ a ∷ later)) (look_up set) (Has-map look_up sets set i))
      | inr j ↦
          let k = met_asked A (next_sets A sets b) front a later set j in
          let r = Has-map_cases (λ (r : LookUp). r.set) (look_ups_asked A (next_sets A sets b) (front ++ a ∷ later)) set k in
          subst (Has (map (λ (r : LookUp). r.set) all)) r.2
          (Has-map (λ (r : LookUp). r.set) all r.0 (Has-append_right (map look_up sets) (look_ups_asked A (next_sets A sets b) (front ++ a ∷ later)) r.0 r.1))
    ]

-- the first set of a table is that of the start states
pub new_start : (A : Automaton) (t : Tabled) → IsNew A t → set_at t.sets 0 ≡ set_of A.starts
new_start A t new = ap (λ (xs : List (List ℕ)). get_or xs 0 []) new.sets

pub tabled_start : (t : Tabled) → IsTabled t → set_at t.sets 0 ≡ set_of t.graph.starts
tabled_start t tabled = get_or_from_slice_get t.sets 0 (set_of t.graph.starts) [] tabled.start

module _ (A : Automaton) (K : ℕ → Bool) (d : List ℕ) (P : Progress) (graph : P.table.graph ≡ A) (start_named : set_at P.table.sets 0 ≡ set_of A.starts)
    (before : ℕ) (started : IsStarted before P) where
  abbrev starts : List (List ℕ)
  starts = set_of A.starts ∷ []

  pub starts_are : sets_of P ≡ starts
  starts_are = ap (λ (xs : List Source). map (λ (x : Source). set_at P.table.sets x.set) xs) started.layer ∙ ap (λ s. s ∷ []) start_named

  one_source : length (sources P.graph) ≡ 1
  one_source = ap length started.layer

  first_word : (set : List ℕ) (w : Word) → Reaches P set w ↔ ((set_of A.starts ≡ set) × ([] ≡ w))
  first_word set w = (there, back)
    where
      there : Reaches P set w → (set_of A.starts ≡ set) × ([] ≡ w)
      there h = by (subst (λ (xs : List Source). Has xs h.0) started.layer h.1)
        where
          word : ([] ≡ w) ⊎ ⊥ → [] ≡ w
          word (inl e) = e
          word (inr n) = absurd n

          by : (first_source 0 ≡ h.0) ⊎ ⊥ → (set_of A.starts ≡ set) × ([] ≡ w)
          by (inl e) = (
            sym start_named ∙ (ap (λ (y : Source). set_at P.table.sets y.set) e ∙ h.2),
            word (subst (λ (y : Source). Has y.words w) (sym e) h.3),
          )
          by (inr n) = absurd n

      back : (set_of A.starts ≡ set) × ([] ≡ w) → Reaches P set w
      back h = (first_source 0, subst (λ (xs : List Source). Has xs (first_source 0)) (sym started.layer) (inl refl), start_named ∙ h.0, inl h.1)

  -- the layer after some places has the words of the choices there, and the sets that are reached
  pub layer_words : (ps : List ReadingPlace) (Q : Progress) → HasRead A ps P Q → (set : List ℕ) (w : Word) → Reaches Q set w ↔ Leads A ps (set_of A.starts) w set
  layer_words ps Q read set w = (
    λ h.
        let r = (read.words set w).0 h in
        let f = (first_word r.0 r.1).0 r.3 in
        let same : r.2 ≡ w = ap (λ u. u ++ r.2) f.1 ∙ r.5 in
        subst (λ v. Leads A ps (set_of A.starts) v set) same (subst (λ s. Leads A ps s r.2 set) (sym f.0) r.4),
    λ h. (read.words set w).1 (set_of A.starts, [], w, (first_word (set_of A.starts) []).1 (refl, refl), h, refl),
  )

  pub layer_sets : (ps : List ReadingPlace) (Q : Progress) → HasRead A ps P Q → (set : List ℕ) → Has (sets_of Q) set ↔ Has (sets_after A starts (asks ps)) set
  layer_sets ps Q read set = subst (λ sets. Has (sets_of Q) set ↔ Has (sets_after A sets (asks ps)) set) starts_are (read.sets set)

  -- ---- the end

  module _ (ps : List ReadingPlace) (all : ps ++ end_at (length d) ∷ [] ≡ places K d 0 false) (Q R : Progress) (read : HasRead A ps P Q) (done : HasEnded A (length d) Q R) where
    pub whole_words : AreReadWords A K d (accepted_words R.graph)
    whole_words u = (
      λ h. (read_words A K d u).0 (to_choice h),
      λ h. from_choice ((read_words A K d u).1 h),
    )
      where
        to_choice : Has (accepted_words R.graph) u → Leads A (places K d 0 false) (set_of A.starts) u []
        to_choice h =
            let e = (done.words u).0 ((words_have 0 (targets R.graph) u).0 h) in
            let l = (layer_words ps Q read e.0 e.1).0 e.3 in
            subst (λ qs. Leads A qs (set_of A.starts) u []) all
            (subst (λ v. Leads A (ps ++ end_at (length d) ∷ []) (set_of A.starts) v []) e.5
            (leads_then A ps (end_at (length d) ∷ []) (set_of A.starts) [] e.0 e.1 e.2 l e.4))

        from_choice : Leads A (places K d 0 false) (set_of A.starts) u [] → Has (accepted_words R.graph) u
        from_choice h =
            let s = then_leads A ps (end_at (length d) ∷ []) (set_of A.starts) [] u (subst (λ qs. Leads A qs (set_of A.starts) u []) (sym all) h) in
            (words_have 0 (targets R.graph) u).1 ((done.words u).1 (s.0, s.1, s.2, (layer_words ps Q read s.0 s.1).1 s.3, s.4, s.5))

  -- ---- the numbers

  abbrev all_asked : List Question
  all_asked = questions K d 0 false

  front_asks : (ps rest : List ReadingPlace) → ps ++ rest ≡ places K d 0 false → asks ps ++ asks rest ≡ all_asked
  front_asks ps rest all = sym (asks_append ps rest) ∙ (ap asks all ∙ asks_places K d 0 false)

  front_look_ups : (ps rest : List ReadingPlace) → ps ++ rest ≡ places K d 0 false → Covers (look_ups_read A d K) (look_ups_asked A (sets_of P) (asks ps))
  front_look_ups ps rest all look_up h =
      subst (λ these. Has (look_ups_asked A starts these) look_up) (front_asks ps rest all)
      (look_ups_left A starts (asks ps) (asks rest) look_up (subst (λ sets. Has (look_ups_asked A sets (asks ps)) look_up) starts_are h))

  front_edges : (ps rest : List ReadingPlace) → ps ++ rest ≡ places K d 0 false → edges_read A (sets_of P) (asks ps) ≤ edges_K A d K
  front_edges ps rest all =
      let a = ap (λ sets. edges_read A sets (asks ps)) starts_are in
      let b = edges_append A starts (asks ps) (asks rest) in
      let c = ap (edges_read A starts) (front_asks ps rest all) in
      omega (arith, a, b, c)

  some_look_up : (look_up : LookUp) × Has (look_ups_read A d K) look_up
  some_look_up =
      let s = some_asked K d 0 in
      let look_up : LookUp = record { set = set_of A.starts; ask = s.0 } in
      (look_up, subst (λ these. Has (look_ups_asked A starts these) look_up) (sym s.2) (inl refl))

  has_length : {X : Type 0} (xs : List X) (x : X) → Has xs x → 1 ≤ length xs
  has_length [] x h = absurd h
  has_length (y ∷ xs) x h = omega arith

  one_look_up : 1 ≤ look_ups_K A d K
  one_look_up = has_length (once look_up_same (look_ups_read A d K)) some_look_up.0 (once_has look_up_same same_look_up look_up_itself (look_ups_read A d K) some_look_up.0 some_look_up.1)

  -- those of a list that the table holds or the reading asks for are no more than both
  few_look_ups : (look_ups : List LookUp) → AreDistinct look_ups → ((look_up : LookUp) → Has look_ups look_up → Has P.table.look_ups look_up ⊎ Has (look_ups_read A d K) look_up) →
      length look_ups ≤ length P.table.look_ups + look_ups_K A d K
  few_look_ups look_ups distinct cover =
      let all : List LookUp = once look_up_same (look_ups_read A d K) in
      let less = distinct-le look_ups (P.table.look_ups ++ all) distinct
      (λ look_up h. elim (cover look_up h) as (λ _. Has (P.table.look_ups ++ all) look_up) [
        | inl old ↦ Has-append_left P.table.look_ups all look_up old
        | inr n ↦ Has-append_right P.table.look_ups all look_up (once_has look_up_same same_look_up look_up_itself (look_ups_read A d K) look_up n)
      ]) in
      omega (arith, less, length-append P.table.look_ups all)

  times_more : (a b c : ℕ) → a ≤ b → a * c ≤ b * c
  times_more a b c h = mul-le-mul_right c h

  -- what was given up took no more steps
  pub stopped_steps : (ps rest : List ReadingPlace) → ps ++ rest ≡ places K d 0 false → (after : Stop) → HasStopped A ps P after → after.steps + 1 ≤ before + build A d K
  stopped_steps ps rest all after s =
      let few = few_look_ups s.made s.distinct (λ look_up h. made_look_up look_up (s.look_ups look_up h)) in
      let product = times_more (length s.made) (length P.table.look_ups + look_ups_K A d K) (size A) few in
      omega (arith, s.steps, few, product, front_edges ps rest all, one_look_up, one_source)
    where
      made_look_up : (look_up : LookUp) → Has P.table.look_ups look_up ⊎ Has (look_ups_asked A (sets_of P) (asks ps)) look_up → Has P.table.look_ups look_up ⊎ Has (look_ups_read A d K) look_up
      made_look_up look_up (inl old) = inl old
      made_look_up look_up (inr n) = inr (front_look_ups ps rest all look_up n)

  -- what was more than the limit is no more than the weight of the whole reading, where the table was new
  pub excess_weight : IsNew A P.table → (sets : List (List ℕ)) (look_ups : List LookUp) (weight : ℕ) → IsExcess P.table sets look_ups weight →
      Covers (map (λ (r : LookUp). r.set) (look_ups_read A d K)) sets → Covers (look_ups_read A d K) look_ups → (P.table.limit < weight) × (weight ≤ weight_K A d K)
  excess_weight new sets look_ups weight x some_set some_look_up =
      let less = weight_covers A (map (λ (r : LookUp). r.set) (look_ups_read A d K)) (P.table.sets ++ sets) (look_ups_read A d K) (P.table.look_ups ++ look_ups) all_sets all_look_ups in
      let most : weight ≤ weight_of A (P.table.sets ++ sets) (P.table.look_ups ++ look_ups) = subst (λ B. weight ≤ weight_of B (P.table.sets ++ sets) (P.table.look_ups ++ look_ups)) graph x.most in
      (x.more, omega (arith, less, most))
    where
      all_sets : Covers (map (λ (r : LookUp). r.set) (look_ups_read A d K)) (P.table.sets ++ sets)
      all_sets set h =
          elim (Has-append_cases P.table.sets sets set h) [
            | inl old ↦ met_first set (subst (λ ss. Has ss set) new.sets old)
            | inr n ↦ some_set set n
          ]
        where
          met_first : (set : List ℕ) → Has starts set → Has (map (λ (r : LookUp). r.set) (look_ups_read A d K)) set
          met_first set h =
              let s = some_asked K d 0 in
              subst (λ these. Has (map (λ (r : LookUp). r.set) (look_ups_asked A starts these)) set) (sym s.2) (met_asked A starts [] s.0 s.1 set h)

      all_look_ups : Covers (look_ups_read A d K) (P.table.look_ups ++ look_ups)
      all_look_ups look_up h =
          elim (Has-append_cases P.table.look_ups look_ups look_up h) [
            | inl old ↦ absurd (subst (λ rs. Has rs look_up) new.look_ups old)
            | inr n ↦ some_look_up look_up n
          ]

  -- the sets on the way to a place are asked for something there
  pub front_sets : (ps : List ReadingPlace) (q : ReadingPlace) (rest : List ReadingPlace) → ps ++ q ∷ rest ≡ places K d 0 false →
      Covers (map (λ (r : LookUp). r.set) (look_ups_read A d K)) (sets_met A (sets_of P) (asks ps))
  front_sets ps q rest all set h =
      subst (λ these. Has (map (λ (r : LookUp). r.set) (look_ups_asked A starts these)) set) (front_asks ps (q ∷ rest) all)
      (met_asked A starts (asks ps) q.ask (asks rest) set (subst (λ sets. Has (sets_met A sets (asks ps)) set) starts_are h))

  pub look_ups_of_front : (ps rest : List ReadingPlace) → ps ++ rest ≡ places K d 0 false → Covers (look_ups_read A d K) (look_ups_asked A (sets_of P) (asks ps))
  look_ups_of_front = front_look_ups

  -- reading and turning take no more than is built
  pub whole_steps : (ps : List ReadingPlace) → ps ++ end_at (length d) ∷ [] ≡ places K d 0 false → (Q R : Progress) → HasRead A ps P Q → HasEnded A (length d) Q R →
      AreDistinct (sets_of Q) → R.steps + (2 * length R.graph.cells + 2) + 1 ≤ before + build A d K
  whole_steps ps all Q R read done distinct =
      let few = few_look_ups R.table.look_ups done.sound.asked_apart look_ups_all in
      let product = times_more (length R.table.look_ups) (length P.table.look_ups + look_ups_K A d K) (size A) few in
      omega (arith, read.steps, read.cells, done.steps, done.cells, few, product, edges_all, one_look_up, one_source)
    where
      last_look_ups : Covers (look_ups_read A d K) (look_ups_asked A (sets_of Q) (ended ∷ []))
      last_look_ups look_up h =
          subst (λ these. Has (look_ups_asked A starts these) look_up) (front_asks ps (end_at (length d) ∷ []) all)
          (look_ups_right A starts (asks ps) (ended ∷ []) look_up
          (look_ups_covers A (sets_after A starts (asks ps)) (sets_of Q) (ended ∷ []) (λ set k. (layer_sets ps Q read set).0 k) look_up h))

      look_ups_all : (look_up : LookUp) → Has R.table.look_ups look_up → Has P.table.look_ups look_up ⊎ Has (look_ups_read A d K) look_up
      look_ups_all look_up h =
          elim (done.table.look_ups look_up h) as (λ _. Has P.table.look_ups look_up ⊎ Has (look_ups_read A d K) look_up) [
            | inl old ↦ elim (read.table.look_ups look_up old) as (λ _. Has P.table.look_ups look_up ⊎ Has (look_ups_read A d K) look_up) [
              | inl o ↦ inl o
              | inr n ↦ inr (front_look_ups ps (end_at (length d) ∷ []) all look_up n)
            ]
            | inr n ↦ inr (last_look_ups look_up n)
          ]

      edges_all : edges_read A (sets_of P) (asks ps) + edges_read A (sets_of Q) (ended ∷ []) ≤ edges_K A d K
      edges_all =
          let a = ap (λ sets. edges_read A sets (asks ps)) starts_are in
          let b = edges_append A starts (asks ps) (ended ∷ []) in
          let c = ap (edges_read A starts) (front_asks ps (end_at (length d) ∷ []) all) in
          let e = edges_covers A (sets_after A starts (asks ps)) (sets_of Q) (ended ∷ []) distinct (λ set k. (layer_sets ps Q read set).0 k) in
          omega (arith, a, b, c, e)

  -- the table tells each look-up that has to be told
  pub whole_tells : (ps : List ReadingPlace) → ps ++ end_at (length d) ∷ [] ≡ places K d 0 false → (Q R : Progress) → HasRead A ps P Q → HasEnded A (length d) Q R →
      (look_up : LookUp) → IsDue A starts (places K d 0 false) look_up → Tells R.table look_up
  whole_tells ps all Q R read done look_up due =
      elim (due_cases A starts (sets_of Q) ps (end_at (length d) ∷ []) (λ set k. (layer_sets ps Q read set).1 k)
      (λ set k. (layer_sets ps Q read set).0 k) look_up (subst (λ qs. IsDue A starts qs look_up) (sym all) due)) as (λ _. Tells R.table look_up) [
        | inl first ↦
            tells_grown Q.table R.table [] (look_ups_asked A (sets_of Q) (ended ∷ [])) done.table look_up
            (read.tells look_up (subst (λ sets. IsDue A sets ps look_up) (sym starts_are) first))
        | inr last ↦ held_tells R.table done.sound look_up (done.holds look_up (due_asked A (sets_of Q) (end_at (length d) ∷ []) look_up last))
      ]

  -- no more cells are live than edges were read, and one
  pub whole_cells : (ps : List ReadingPlace) → ps ++ end_at (length d) ∷ [] ≡ places K d 0 false → (Q R : Progress) → HasRead A ps P Q → HasEnded A (length d) Q R →
      AreDistinct (sets_of Q) → length R.graph.cells ≤ edges_K A d K + 1
  whole_cells ps all Q R read done distinct =
      let a = ap (λ sets. edges_read A sets (asks ps)) starts_are in
      let b = edges_append A starts (asks ps) (ended ∷ []) in
      let c = ap (edges_read A starts) (front_asks ps (end_at (length d) ∷ []) all) in
      let e = edges_covers A (sets_after A starts (asks ps)) (sets_of Q) (ended ∷ []) distinct (λ set k. (layer_sets ps Q read set).0 k) in
      omega (arith, read.cells, done.cells, a, b, c, e)
