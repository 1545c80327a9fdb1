-- Where choices of edges lead at the places of a document, and what is read there.
use Rattle.std.proofs.Common.{◌≡◌, ℕ, zero, suc, ◌≤◌, Bool, true, false, List, [], ◌∷◌, ◌++◌, length, inl, inr, refl, sym, ap, subst, arith, ◌∙◌, append_assoc}
use Rattle.std.specs.Prelude.{map, nat_eq, if◌then◌else◌, ◌||◌, ◌↔◌}
use Rattle.std.specs.Bool.{MatchBool}
use Rattle.std.specs.List.{filter}
use Rattle.std.proofs.lemmas.List.{append-nil}
use Rattle.std.proofs.lemmas.Bool.{eqb-true, eq-eqb}
use Rattle.span_core.specs.Lists.{Has}
use Rattle.span_core.proofs.HasLaws.{Has-map_cases}
use Rattle.marked_automaton.specs.declared.way.Stop.{Stop}
use Rattle.marked_automaton.specs.Automaton.{Automaton}
use Rattle.automaton_reading.specs.Reading.{Reach, byte_read, rest_taken, ended, edges, rest_edge, is_among, blocks_down, set_of}
use Rattle.automaton_reading.specs.Chosen.{EndsWith, IsReadFrom, IsReadWith}
use Rattle.node_arena.specs.Words.{Word}
use Rattle.output_graph.specs.Forward.{mark_block}
use Rattle.one_pass.specs.Places.{ReadingPlace, places, byte_at, rest_at, end_at, Leads, word_from, word_through}

-- an end leads to no state
pub end_to : (A : Automaton) (set : List ℕ) (e : Reach) → Has (edges A set ended) e → e.to ≡ []
end_to A set e h =
    let m = Has-map_cases (λ m. let r : Reach = record { marks = m; to = [] } in r) (blocks_down (map (λ (x : Stop). x.marks) (filter (λ (x : Stop). is_among set x.state) A.stops))) e h in
    ap (λ (r : Reach). r.to) (sym m.2)

-- the idle members go on without marks
pub rest_marks : (A : Automaton) (set : List ℕ) (e : Reach) → Has (edges A set rest_taken) e → e.marks ≡ 0
rest_marks A set e h = go (filter (is_among A.idle) set) h
  where
    go : (ps : List ℕ) → Has (rest_edge ps) e → e.marks ≡ 0
    go [] h = absurd h
    go (p ∷ ps) (inl i) = ap (λ (r : Reach). r.marks) (sym i)
    go (p ∷ ps) (inr h) = absurd h

no_block : (i m : ℕ) (u : Word) → m ≡ 0 → mark_block i m ++ u ≡ u
no_block i m u e = ap (λ k. mark_block i k ++ u) e

module _ (A : Automaton) (K : ℕ → Bool) where
  -- what is read with blocks is led to by their word
  pub read_leads : (w : ℕ → ℕ) (d : List ℕ) (i : ℕ) (gap : Bool) (set : List ℕ) →
      IsReadFrom A K w d i gap set → Leads A (places K d i gap) set (word_from w i (length d)) []
  read_leads w [] i gap set h = go (K i || gap) h
    where
      at_end : (from : List ℕ) → EndsWith A w i from → Leads A (end_at i ∷ []) from (mark_block i (w i)) []
      at_end from h = (
        h.0,
        h.1,
        [],
        append-nil (mark_block i h.0.marks) ∙ ap (mark_block i) h.2,
        (refl, end_to A from h.0 h.1),
      )

      go : (c : Bool) → MatchBool c (EndsWith A w i set) ((e : Reach) × Has (edges A set rest_taken) e × EndsWith A w i e.to) →
          Leads A (if c then end_at i ∷ [] else rest_at i ∷ end_at i ∷ []) set (mark_block i (w i)) []
      go true h = at_end set h
      go false h = (
        h.0,
        h.1,
        mark_block i (w i),
        no_block i h.0.marks (mark_block i (w i)) (rest_marks A set h.0 h.1),
        at_end h.0.to h.2,
      )
  read_leads w (b ∷ d) i gap set h = go (read_leads w d (suc i)) (K i) gap h
    where
      go : ((g : Bool) (s : List ℕ) → IsReadFrom A K w d (suc i) g s → Leads A (places K d (suc i) g) s (word_from w (suc i) (length d)) []) →
          (k g : Bool) →
          MatchBool k ((e : Reach) × Has (edges A set (byte_read b)) e × (e.marks ≡ w i) × IsReadFrom A K w d (suc i) false e.to)
          ((w i ≡ 0) × MatchBool g (IsReadFrom A K w d (suc i) true set) ((e : Reach) × Has (edges A set rest_taken) e × IsReadFrom A K w d (suc i) true e.to)) →
          Leads A (if k then byte_at i b ∷ places K d (suc i) false else (if g then places K d (suc i) true else rest_at i ∷ places K d (suc i) true))
          set (mark_block i (w i) ++ word_from w (suc i) (length d)) []
      go rest true g h = (
        h.0,
        h.1,
        word_from w (suc i) (length d),
        ap (λ m. mark_block i m ++ word_from w (suc i) (length d)) h.2,
        rest false h.0.to h.3,
      )
      go rest false true h =
          subst (λ u. Leads A (places K d (suc i) true) set u []) (sym (no_block i (w i) (word_from w (suc i) (length d)) h.0)) (rest true set h.1)
      go rest false false h = (
        h.1.0,
        h.1.1,
        word_from w (suc i) (length d),
        no_block i h.1.0.marks (word_from w (suc i) (length d)) (rest_marks A set h.1.0 h.1.1) ∙ sym (no_block i (w i) (word_from w (suc i) (length d)) h.0),
        rest true h.1.0.to h.1.2,
      )

  -- blocks that agree from the position i on are read alike
  abbrev SameFrom : ℕ → (ℕ → ℕ) → (ℕ → ℕ) → Type 0
  SameFrom i w v = (j : ℕ) → i ≤ j → w j ≡ v j

  ends_alike : (w v : ℕ → ℕ) (i : ℕ) (set : List ℕ) → SameFrom i w v → EndsWith A w i set → EndsWith A v i set
  ends_alike w v i set same h = (h.0, h.1, h.2 ∙ same i (omega arith))

  read_alike : (w v : ℕ → ℕ) (d : List ℕ) (i : ℕ) (gap : Bool) (set : List ℕ) → SameFrom i w v →
      IsReadFrom A K w d i gap set → IsReadFrom A K v d i gap set
  read_alike w v [] i gap set same h = go (K i || gap) h
    where
      go : (c : Bool) → MatchBool c (EndsWith A w i set) ((e : Reach) × Has (edges A set rest_taken) e × EndsWith A w i e.to) →
          MatchBool c (EndsWith A v i set) ((e : Reach) × Has (edges A set rest_taken) e × EndsWith A v i e.to)
      go true h = ends_alike w v i set same h
      go false h = (h.0, h.1, ends_alike w v i h.0.to same h.2)
  read_alike w v (b ∷ d) i gap set same h =
      go (λ g s. read_alike w v d (suc i) g s (λ j le. same j (omega arith))) (K i) gap h
    where
      go : ((g : Bool) (s : List ℕ) → IsReadFrom A K w d (suc i) g s → IsReadFrom A K v d (suc i) g s) →
          (k g : Bool) →
          MatchBool k ((e : Reach) × Has (edges A set (byte_read b)) e × (e.marks ≡ w i) × IsReadFrom A K w d (suc i) false e.to)
          ((w i ≡ 0) × MatchBool g (IsReadFrom A K w d (suc i) true set) ((e : Reach) × Has (edges A set rest_taken) e × IsReadFrom A K w d (suc i) true e.to)) →
          MatchBool k ((e : Reach) × Has (edges A set (byte_read b)) e × (e.marks ≡ v i) × IsReadFrom A K v d (suc i) false e.to)
          ((v i ≡ 0) × MatchBool g (IsReadFrom A K v d (suc i) true set) ((e : Reach) × Has (edges A set rest_taken) e × IsReadFrom A K v d (suc i) true e.to))
      go rest true g h = (h.0, h.1, h.2 ∙ same i (omega arith), rest false h.0.to h.3)
      go rest false true h = (sym (same i (omega arith)) ∙ h.0, rest true set h.1)
      go rest false false h = (sym (same i (omega arith)) ∙ h.0, (h.1.0, h.1.1, rest true h.1.0.to h.1.2))

  word_alike : (w v : ℕ → ℕ) (i n : ℕ) → SameFrom i w v → word_from w i n ≡ word_from v i n
  word_alike w v i zero same = ap (mark_block i) (same i (omega arith))
  word_alike w v i (suc n) same =
      ap (λ m. mark_block i m ++ word_from w (suc i) n) (same i (omega arith))
      ∙ ap (λ u. mark_block i (v i) ++ u) (word_alike w v (suc i) n (λ j le. same j (omega arith)))

  -- w, with the block m at i
  abbrev put : ℕ → ℕ → (ℕ → ℕ) → ℕ → ℕ
  put i m w j = if nat_eq j i then m else w j

  put_here : (i m : ℕ) (w : ℕ → ℕ) → put i m w i ≡ m
  put_here i m w = ap (λ (c : Bool). if c then m else w i) (eq-eqb i i refl)

  put_later : (i m : ℕ) (w : ℕ → ℕ) → SameFrom (suc i) w (put i m w)
  put_later i m w j le = go (nat_eq j i) refl
    where
      go : (c : Bool) → nat_eq j i ≡ c → w j ≡ (if c then m else w j)
      go true e = let same = eqb-true j i e in absurd (omega arith)
      go false e = refl

  with_front : (w v : ℕ → ℕ) (i m n : ℕ) → w i ≡ m → SameFrom (suc i) v w → mark_block i (w i) ++ word_from w (suc i) n ≡ mark_block i m ++ word_from v (suc i) n
  with_front w v i m n here later =
      ap (λ k. mark_block i k ++ word_from w (suc i) n) here ∙ ap (λ u. mark_block i m ++ u) (sym (word_alike v w (suc i) n later))

  -- what is led to at the places of a document is read, with the blocks of the choice
  pub leads_read : (d : List ℕ) (i : ℕ) (gap : Bool) (set : List ℕ) (u : Word) → Leads A (places K d i gap) set u [] →
      (w : ℕ → ℕ) × IsReadFrom A K w d i gap set × (word_from w i (length d) ≡ u)
  leads_read [] i gap set u h = go (K i || gap) h
    where
      at_end : (from : List ℕ) (v : Word) → Leads A (end_at i ∷ []) from v [] → (m : ℕ) × EndsWith A (λ j. m) i from × (mark_block i m ≡ v)
      at_end from v h = (
        h.0.marks,
        (h.0, h.1, refl),
        sym (append-nil (mark_block i h.0.marks)) ∙ (ap (λ x. mark_block i h.0.marks ++ x) (sym h.4.0) ∙ h.3),
      )

      go : (c : Bool) → Leads A (if c then end_at i ∷ [] else rest_at i ∷ end_at i ∷ []) set u [] →
          (w : ℕ → ℕ) × MatchBool c (EndsWith A w i set) ((e : Reach) × Has (edges A set rest_taken) e × EndsWith A w i e.to) × (mark_block i (w i) ≡ u)
      go true h = let r = at_end set u h in (λ j. r.0, r.1, r.2)
      go false h =
          let r = at_end h.0.to h.2 h.4 in
          (λ j. r.0, (h.0, h.1, r.1), r.2 ∙ (sym (no_block i h.0.marks h.2 (rest_marks A set h.0 h.1)) ∙ h.3))
  leads_read (b ∷ d) i gap set u h = go (leads_read d (suc i)) (K i) gap h
    where
      go : ((g : Bool) (s : List ℕ) (v : Word) → Leads A (places K d (suc i) g) s v [] → (w : ℕ → ℕ) × IsReadFrom A K w d (suc i) g s × (word_from w (suc i) (length d) ≡ v)) →
          (k g : Bool) →
          Leads A (if k then byte_at i b ∷ places K d (suc i) false else (if g then places K d (suc i) true else rest_at i ∷ places K d (suc i) true)) set u [] →
          (w : ℕ → ℕ) ×
          MatchBool k ((e : Reach) × Has (edges A set (byte_read b)) e × (e.marks ≡ w i) × IsReadFrom A K w d (suc i) false e.to)
          ((w i ≡ 0) × MatchBool g (IsReadFrom A K w d (suc i) true set) ((e : Reach) × Has (edges A set rest_taken) e × IsReadFrom A K w d (suc i) true e.to))
          × (mark_block i (w i) ++ word_from w (suc i) (length d) ≡ u)
      go rest true g h =
          let r = rest false h.0.to h.2 h.4 in
          let w : ℕ → ℕ = put i h.0.marks r.0 in (
            w,
            (h.0, h.1, sym (put_here i h.0.marks r.0), read_alike r.0 w d (suc i) false h.0.to (put_later i h.0.marks r.0) r.1),
            with_front w r.0 i h.0.marks (length d) (put_here i h.0.marks r.0) (put_later i h.0.marks r.0) ∙ (ap (λ v. mark_block i h.0.marks ++ v) r.2 ∙ h.3),
          )
      go rest false true h =
          let r = rest true set u h in
          let w : ℕ → ℕ = put i 0 r.0 in (
            w,
            (put_here i 0 r.0, read_alike r.0 w d (suc i) true set (put_later i 0 r.0) r.1),
            with_front w r.0 i 0 (length d) (put_here i 0 r.0) (put_later i 0 r.0) ∙ r.2,
          )
      go rest false false h =
          let r = rest true h.0.to h.2 h.4 in
          let w : ℕ → ℕ = put i 0 r.0 in (
            w,
            (put_here i 0 r.0, (h.0, h.1, read_alike r.0 w d (suc i) true h.0.to (put_later i 0 r.0) r.1)),
            with_front w r.0 i 0 (length d) (put_here i 0 r.0) (put_later i 0 r.0) ∙ (r.2 ∙ (sym (no_block i h.0.marks h.2 (rest_marks A set h.0 h.1)) ∙ h.3)),
          )

-- accepted words, of a reading from its starts
pub read_words : (A : Automaton) (K : ℕ → Bool) (d : List ℕ) (u : Word) →
    Leads A (places K d 0 false) (set_of A.starts) u [] ↔ ((w : ℕ → ℕ) × IsReadWith A K d w × (word_through w (length d) ≡ u))
read_words A K d u = (
  leads_read A K d 0 false (set_of A.starts) u,
  λ h. subst (λ v. Leads A (places K d 0 false) (set_of A.starts) v []) h.2 (read_leads A K h.0 d 0 false (set_of A.starts) h.1),
)

-- a choice at some places and then at others
pub leads_then : (A : Automaton) (ps qs : List ReadingPlace) (from to on : List ℕ) (u v : Word) →
    Leads A ps from u on → Leads A qs on v to → Leads A (ps ++ qs) from (u ++ v) to
leads_then A [] qs from to on u v h k =
    subst (λ x. Leads A qs x (u ++ v) to) (sym h.1) (subst (λ x. Leads A qs on (x ++ v) to) (sym h.0) k)
leads_then A (p ∷ ps) qs from to on u v h k = (
  h.0,
  h.1,
  h.2 ++ v,
  sym (append_assoc (mark_block p.at h.0.marks) h.2 v) ∙ ap (λ x. x ++ v) h.3,
  leads_then A ps qs h.0.to to on h.2 v h.4 k,
)

pub then_leads : (A : Automaton) (ps qs : List ReadingPlace) (from to : List ℕ) (w : Word) → Leads A (ps ++ qs) from w to →
    (on : List ℕ) × (u v : Word) × Leads A ps from u on × Leads A qs on v to × (u ++ v ≡ w)
then_leads A [] qs from to w h = (from, [], w, (refl, refl), h, refl)
then_leads A (p ∷ ps) qs from to w h =
    let r = then_leads A ps qs h.0.to to h.2 h.4 in (
      r.0,
      mark_block p.at h.0.marks ++ r.1,
      r.2,
      (h.0, h.1, r.1, refl, r.3),
      r.4,
      append_assoc (mark_block p.at h.0.marks) r.1 r.2 ∙ (ap (λ x. mark_block p.at h.0.marks ++ x) r.5 ∙ h.3),
    )
