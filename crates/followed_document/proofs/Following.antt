-- The words that are given piece by piece are those that are settled, each once.
use Rattle.std.proofs.Common.{◌≡◌, ℕ, ◌+◌, ◌<◌, ◌≤◌, true, false, List, [], ◌∷◌, ◌++◌, length, inl, inr, refl, sym, ap, subst, arith, ◌∙◌, length-append, append_assoc}
use Rattle.std.proofs.lemmas.List.{append-nil}
use Rattle.span_core.proofs.HasLaws.{Has-append_cases, Has-append_left, Has-append_right, Has-slice_get}
use Rattle.marked_automaton.specs.Automaton.{Automaton, Marked}
use Rattle.automaton_reading.specs.Reading.{set_of}
use Rattle.automaton_reading.proofs.Determined.{reading_law}
use Rattle.node_arena.specs.Words.{Word}
use Rattle.one_pass.specs.Places.{Leads, ReadingPlace, bytes_at, end_at, places}
use Rattle.one_pass.proofs.ReadWords.{leads_then, read_words, then_leads}
use Rattle.growing_document.proofs.WordsRead.{document_places}
use Rattle.one_pass.specs.Settling.{Rule}
use Rattle.followed_document.specs.Settling.{AllBytes, IsFull, IsGivenIn, LeadsPast, Settles, joined, no_more, whole}
use Rattle.followed_document.specs.Laws.{AcceptsFullRows, FollowLaw, FollowedLaw, IsAcceptedAt, IsFullWord, IsGivenLast, IsGivenNext, IsSettledBehind, WasGiven}
use Rattle.followed_document.proofs.Choices.{AllBelow, AllFrom, below_there, bytes_then, from_there, same_cut, same_to, whole_from}
use Rattle.followed_document.proofs.FullWords.{full_words_end}

none_from : (i : ℕ) → AllFrom i []
none_from i b h = absurd h

both_from : (i : ℕ) (u v : Word) → AllFrom i u → AllFrom i v → AllFrom i (u ++ v)
both_from i u v a c b h = elim (Has-append_cases u v b h) as (λ _. i ≤ b.0) [ inl k ↦ a b k | inr k ↦ c b k ]

later : (i j : ℕ) (u : Word) → i ≤ j → AllFrom j u → AllFrom i u
later i j u le a b h = let l = a b h in omega (arith, l, le)

joined_long : (p : List ℕ) (ps : List (List ℕ)) → length (joined (p ∷ ps)) ≡ length p + length (joined ps)
joined_long p ps = length-append p (joined ps)

-- ---- bytes

pub bytes_left : (d e : List ℕ) → AllBytes (d ++ e) → AllBytes d
bytes_left d e a b h = a b (Has-append_left d e b h)

pub bytes_right : (d e : List ℕ) → AllBytes (d ++ e) → AllBytes e
bytes_right d e a b h = a b (Has-append_right d e b h)

pub bytes_both : (d e : List ℕ) → AllBytes d → AllBytes e → AllBytes (d ++ e)
bytes_both d e a c b h = elim (Has-append_cases d e b h) as (λ _. b < 256) [ inl k ↦ a b k | inr k ↦ c b k ]

module _ (A : Automaton) (G : Rule) (ends : (set : List ℕ) → G set → Settles A set) where
  -- ---- a choice past the pieces is one over them

  pub past_from : (i : ℕ) (ps : List (List ℕ)) (from : List ℕ) (w : Word) (to : List ℕ) → LeadsPast A G i ps from w to → AllFrom i w
  past_from i [] from w to h = subst (AllFrom i) (sym h.0) (none_from i)
  past_from i (p ∷ ps) from w to h =
      subst (AllFrom i) h.6 (both_from i h.1 h.2 (from_there A i p from h.1 h.0 h.3)
      (later i (i + length p) h.2 (omega arith) (past_from (i + length p) ps h.0 h.2 to h.5)))

  given_from : (i : ℕ) (ps : List (List ℕ)) (from : List ℕ) (w : Word) → IsGivenIn A G i ps from w → AllFrom i w
  given_from i [] from w h = absurd h
  given_from i (p ∷ ps) from w (inl h) = from_there A i p from w h.0 h.1
  given_from i (p ∷ ps) from w (inr h) =
      subst (AllFrom i) h.5 (both_from i h.1 h.2 (from_there A i p from h.1 h.0 h.3)
      (later i (i + length p) h.2 (omega arith) (given_from (i + length p) ps h.0 h.2 h.4)))

  pub past_leads : (i : ℕ) (ps : List (List ℕ)) (from : List ℕ) (w : Word) (to : List ℕ) → LeadsPast A G i ps from w to → Leads A (bytes_at i (joined ps)) from w to
  past_leads i [] from w to h = h
  past_leads i (p ∷ ps) from w to h =
      subst (λ (qs : List ReadingPlace). Leads A qs from w to) (sym (bytes_then i p (joined ps)))
      (subst (λ (u : Word). Leads A (bytes_at i p ++ bytes_at (i + length p) (joined ps)) from u to) h.6
      (leads_then A (bytes_at i p) (bytes_at (i + length p) (joined ps)) from to h.0 h.1 h.2 h.3 (past_leads (i + length p) ps h.0 h.2 to h.5)))

  -- ---- it was given behind none of them

  pub past_new : (i : ℕ) (ps : List (List ℕ)) (from : List ℕ) (u v : Word) (mid : List ℕ) → LeadsPast A G i ps from u mid → AllFrom (i + length (joined ps)) v → IsGivenIn A G i ps from (u ++ v) → ⊥
  past_new i [] from u v mid h behind g = g
  past_new i (p ∷ ps) from u v mid h behind g = by (past_new (i + length p) ps h.0 h.2 v mid h.5 v_behind) g
    where
      n : ℕ
      n = i + length p

      front : AllBelow n h.1
      front = below_there A i p from h.1 h.0 h.3

      v_behind : AllFrom (n + length (joined ps)) v
      v_behind = let e = joined_long p ps in later (n + length (joined ps)) (i + length (joined (p ∷ ps))) v (omega (arith, e)) behind

      back : AllFrom n (h.2 ++ v)
      back = both_from n h.2 v (past_from n ps h.0 h.2 mid h.5) (later n (n + length (joined ps)) v (omega arith) v_behind)

      whole_is : h.1 ++ (h.2 ++ v) ≡ u ++ v
      whole_is = sym (append_assoc h.1 h.2 v) ∙ ap (λ (x : Word). x ++ v) h.6

      by : (IsGivenIn A G n ps h.0 (h.2 ++ v) → ⊥) → IsGivenIn A G i (p ∷ ps) from (u ++ v) → ⊥
      by rest (inl k) =
          let cut = same_cut n h.1 (h.2 ++ v) (u ++ v) [] front back (below_there A i p from (u ++ v) k.0 k.1) (none_from n) (whole_is ∙ sym (append-nil (u ++ v))) in
          let lead : Leads A (bytes_at i p) from (u ++ v) h.0 = subst (λ (x : Word). Leads A (bytes_at i p) from x h.0) cut.0 h.3 in
          h.4 (subst G (same_to A i p from (u ++ v) k.0 h.0 k.1 lead) k.2)
      by rest (inr k) =
          let cut = same_cut n h.1 (h.2 ++ v) k.1 k.2 front back (below_there A i p from k.1 k.0 k.3) (given_from n ps k.0 k.2 k.4) (whole_is ∙ sym k.5) in
          let lead : Leads A (bytes_at i p) from k.1 h.0 = subst (λ (x : Word). Leads A (bytes_at i p) from x h.0) cut.0 h.3 in
          let same : k.0 ≡ h.0 = same_to A i p from k.1 k.0 h.0 k.3 lead in
          rest
          (subst (λ (s : List ℕ). IsGivenIn A G n ps s (h.2 ++ v)) same (subst (λ (x : Word). IsGivenIn A G n ps k.0 x) (sym cut.1) k.4))

  -- ---- what is settled or accepted, and was given behind none of them, is led to past them

  full_on : (i : ℕ) (p from : List ℕ) (u : Word) (on : List ℕ) → AllBytes p → IsFull A G i from → Leads A (bytes_at i p) from u on → IsFull A G (i + length p) on
  full_on i p from u on bytes full lead d more x y to bd bm l s tail =
      let e : i + length (p ++ d) ≡ i + length p + length d = let k = length-append p d in omega (arith, k) in
      full (p ++ d) more (u ++ x) y to (bytes_both p d bytes bd) bm
      (subst (λ (qs : List ReadingPlace). Leads A qs from (u ++ x) to) (sym (bytes_then i p d))
      (leads_then A (bytes_at i p) (bytes_at (i + length p) d) from to on u x lead l))
      s (subst (λ j. Leads A (whole j more) to y []) (sym e) tail)

  module _ (ts : List ReadingPlace) (to more : List ℕ) (n : ℕ) (bm : AllBytes more) (done : (on : List ℕ) (v : Word) → Leads A ts on v to → Leads A (whole n more) on v []) where
    find_past : (i : ℕ) (ps : List (List ℕ)) (from : List ℕ) (w : Word) → i + length (joined ps) ≡ n → AllBytes (joined ps) → IsFull A G i from →
        Leads A (bytes_at i (joined ps) ++ ts) from w to → (IsGivenIn A G i ps from w → ⊥) →
        (mid : List ℕ) × (u v : Word) × LeadsPast A G i ps from u mid × Leads A ts mid v to × (u ++ v ≡ w)
    find_past i [] from w is bytes full h new = (from, [], w, (refl, refl), h, refl)
    find_past i (p ∷ ps) from w is bytes full h new =
        let at : i + length p + length (joined ps) ≡ n = let e = joined_long p ps in omega (arith, e, is) in
        let bp = bytes_left p (joined ps) bytes in
        let bq = bytes_right p (joined ps) bytes in
        let there : bytes_at i (joined (p ∷ ps)) ++ ts ≡ bytes_at i p ++ (bytes_at (i + length p) (joined ps) ++ ts) =
        ap (λ (qs : List ReadingPlace). qs ++ ts) (bytes_then i p (joined ps)) ∙ append_assoc (bytes_at i p) (bytes_at (i + length p) (joined ps)) ts in
        let x = then_leads A (bytes_at i p) (bytes_at (i + length p) (joined ps) ++ ts) from to w (subst (λ (qs : List ReadingPlace). Leads A qs from w to) there h) in
        let no : G x.0 → ⊥ = λ s.
        let y = then_leads A (bytes_at (i + length p) (joined ps)) ts x.0 to x.2 x.4 in
        let tail : Leads A (bytes_at (i + length p) (joined ps) ++ whole n more) x.0 (y.1 ++ y.2) [] =
        leads_then A (bytes_at (i + length p) (joined ps)) (whole n more) x.0 [] y.0 y.1 y.2 y.3 (done y.0 y.2 y.4) in
        let over : bytes_at (i + length p) (joined ps) ++ whole n more ≡ whole (i + length p) (joined ps ++ more) =
        whole_then (i + length p) (joined ps) more at in
        let none = full p (joined ps ++ more) x.1 x.2 x.0 bp (bytes_both (joined ps) more bq bm) x.3 s
        (subst (λ (v : Word). Leads A (whole (i + length p) (joined ps ++ more)) x.0 v []) y.5
        (subst (λ (qs : List ReadingPlace). Leads A qs x.0 (y.1 ++ y.2) []) over tail)) in
        let same : x.1 ≡ w = sym (append-nil x.1) ∙ (ap (λ (v : Word). x.1 ++ v) (sym none) ∙ x.5) in
        new (inl (x.0, subst (λ (u : Word). Leads A (bytes_at i p) from u x.0) same x.3, s)) in
        let r = find_past (i + length p) ps x.0 x.2 at bq (full_on i p from x.1 x.0 bp full x.3) x.4 (λ g. new (inr (x.0, x.1, x.2, x.3, g, x.5))) in
        (r.0, x.1 ++ r.1, r.2, (x.0, x.1, r.1, x.3, no, r.3, refl), r.4, append_assoc x.1 r.1 r.2 ∙ (ap (λ (v : Word). x.1 ++ v) r.5 ∙ x.5))
      where
        whole_then : (j : ℕ) (d e : List ℕ) → j + length d ≡ n → bytes_at j d ++ whole n e ≡ whole j (d ++ e)
        whole_then j d e is =
            let last : n + length e ≡ j + length (d ++ e) = let k = length-append d e in omega (arith, k, is) in
            sym (append_assoc (bytes_at j d) (bytes_at n e) (end_at (n + length e) ∷ []))
            ∙ (ap (λ k. (bytes_at j d ++ bytes_at k e) ++ end_at (n + length e) ∷ []) (sym is)
            ∙ (ap (λ (qs : List ReadingPlace). qs ++ end_at (n + length e) ∷ []) (sym (bytes_then j d e))
            ∙ ap (λ k. bytes_at j (d ++ e) ++ end_at k ∷ []) last))

  -- ---- one piece more: what the layer has behind it, once it was settled

  abbrev OneMore : ℕ → List (List ℕ) → List ℕ → List ℕ → Word → List ℕ → Type 0
  OneMore i ps p from w to =
      (mid : List ℕ) × (u v : Word) × LeadsPast A G i ps from u mid × Leads A (bytes_at (i + length (joined ps)) p) mid v to × (G to → ⊥) × (u ++ v ≡ w)

  pub past_more : (i : ℕ) (ps : List (List ℕ)) (p from : List ℕ) (w : Word) (to : List ℕ) → LeadsPast A G i (ps ++ p ∷ []) from w to → OneMore i ps p from w to
  past_more i [] p from w to h =
      let e : i ≡ i + 0 = omega arith in
      let none : h.1 ≡ w = sym (append-nil h.1) ∙ (ap (λ (v : Word). h.1 ++ v) (sym h.5.0) ∙ h.6) in (
        from,
        [],
        h.1,
        (refl, refl),
        subst (λ j. Leads A (bytes_at j p) from h.1 to) e (subst (λ (s : List ℕ). Leads A (bytes_at i p) from h.1 s) h.5.1 h.3),
        λ g. h.4 (subst G (sym h.5.1) g),
        none,
      )
  past_more i (q ∷ ps) p from w to h =
      let r = past_more (i + length q) ps p h.0 h.2 to h.5 in
      let e : i + length q + length (joined ps) ≡ i + length (joined (q ∷ ps)) = let k = joined_long q ps in omega (arith, k) in (
        r.0,
        h.1 ++ r.1,
        r.2,
        (h.0, h.1, r.1, h.3, h.4, r.3, refl),
        subst (λ j. Leads A (bytes_at j p) r.0 r.2 to) e r.4,
        r.5,
        append_assoc h.1 r.1 r.2 ∙ (ap (λ (v : Word). h.1 ++ v) r.6 ∙ h.6),
      )

  pub more_past : (i : ℕ) (ps : List (List ℕ)) (p from : List ℕ) (w : Word) (to : List ℕ) → OneMore i ps p from w to → LeadsPast A G i (ps ++ p ∷ []) from w to
  more_past i [] p from w to h =
      let e : i + 0 ≡ i = omega arith in
      let lead = subst (λ j. Leads A (bytes_at j p) h.0 h.2 to) e h.4 in
      let all : h.2 ≡ w = ap (λ (u : Word). u ++ h.2) (sym h.3.0) ∙ h.6 in (
        to,
        w,
        [],
        subst (λ (u : Word). Leads A (bytes_at i p) from u to) all (subst (λ (s : List ℕ). Leads A (bytes_at i p) s h.2 to) (sym h.3.1) lead),
        h.5,
        (refl, refl),
        append-nil w,
      )
  more_past i (q ∷ ps) p from w to h =
      let e : i + length (joined (q ∷ ps)) ≡ i + length q + length (joined ps) = let k = joined_long q ps in omega (arith, k) in
      let x = h.3 in
      let rest = more_past (i + length q) ps p x.0 (x.2 ++ h.2) to (h.0, x.2, h.2, x.5, subst (λ j. Leads A (bytes_at j p) h.0 h.2 to) e h.4, h.5, refl) in
      (x.0, x.1, x.2 ++ h.2, x.3, x.4, rest, sym (append_assoc x.1 x.2 h.2) ∙ (ap (λ (u : Word). u ++ h.2) x.6 ∙ h.6))

  -- ---- the law

  no_zero : (n : ℕ) → 0 + n ≡ n
  no_zero n = omega arith

  module _ (full : IsFull A G 0 (set_of A.starts)) (ps : List (List ℕ)) (p : List ℕ) (w : Word) (bs : AllBytes (joined ps)) (bp : AllBytes p) where
    abbrev n : ℕ
    n = length (joined ps)

    both_places : bytes_at 0 (joined ps ++ p) ≡ bytes_at 0 (joined ps) ++ bytes_at n p
    both_places = bytes_then 0 (joined ps) p ∙ ap (λ j. bytes_at 0 (joined ps) ++ bytes_at j p) (no_zero n)

    whole_places : whole 0 (joined ps ++ p) ≡ bytes_at 0 (joined ps) ++ whole n p
    whole_places =
        let last : 0 + length (joined ps ++ p) ≡ n + length p = let k = length-append (joined ps) p in omega (arith, k) in
        ap (λ (qs : List ReadingPlace). qs ++ end_at (0 + length (joined ps ++ p)) ∷ []) both_places
        ∙ (append_assoc (bytes_at 0 (joined ps)) (bytes_at n p) (end_at (0 + length (joined ps ++ p)) ∷ [])
        ∙ ap (λ k. bytes_at 0 (joined ps) ++ (bytes_at n p ++ end_at k ∷ [])) last)

    abbrev start : List ℕ
    start = set_of A.starts

    new_of : (u v : Word) (mid : List ℕ) → LeadsPast A G 0 ps start u mid → AllFrom n v → u ++ v ≡ w → IsGivenIn A G 0 ps start w → ⊥
    new_of u v mid past behind e g =
        past_new 0 ps start u v mid past (later (0 + n) n v (omega arith) behind) (subst (λ (x : Word). IsGivenIn A G 0 ps start x) (sym e) g)

    next_there : IsGivenNext A G ps p w → IsSettledBehind A G (joined ps ++ p) w × ¬ WasGiven A G ps w
    next_there h = (
      (
        h.1,
        subst (λ (qs : List ReadingPlace). Leads A qs start w h.1) (sym both_places)
            (subst (λ (x : Word). Leads A (bytes_at 0 (joined ps) ++ bytes_at n p) start x h.1) h.7
            (leads_then A (bytes_at 0 (joined ps)) (bytes_at n p) start h.1 h.0 h.2 h.3 (past_leads 0 ps start h.2 h.0 h.4) h.5)),
        h.6,
      ),
      new_of h.2 h.3 h.0 h.4 (from_there A n p h.0 h.3 h.1 h.5) h.7,
    )

    next_back : IsSettledBehind A G (joined ps ++ p) w × ¬ WasGiven A G ps w → IsGivenNext A G ps p w
    next_back h =
        let s = h.0 in
        let done : (on : List ℕ) (v : Word) → Leads A (bytes_at n p) on v s.0 → Leads A (whole n p) on v [] = λ on v l.
        subst (λ (x : Word). Leads A (whole n p) on x []) (append-nil v)
        (leads_then A (bytes_at n p) (end_at (n + length p) ∷ []) on [] s.0 v [] l (no_more, ends s.0 s.2, [], refl, (refl, refl))) in
        let r = find_past (bytes_at n p) s.0 p n bp done 0 ps start w (no_zero n) bs full (subst (λ (qs : List ReadingPlace). Leads A qs start w s.0) both_places s.1) h.1 in
        (r.0, s.0, r.1, r.2, r.3, r.4, s.2, r.5)

    last_there : IsGivenLast A G ps p w → IsAcceptedAt A (joined ps ++ p) w × ¬ WasGiven A G ps w
    last_there h = (
      subst (λ (qs : List ReadingPlace). Leads A qs start w []) (sym whole_places)
          (subst (λ (x : Word). Leads A (bytes_at 0 (joined ps) ++ whole n p) start x []) h.5
          (leads_then A (bytes_at 0 (joined ps)) (whole n p) start [] h.0 h.1 h.2 (past_leads 0 ps start h.1 h.0 h.3) h.4)),
      new_of h.1 h.2 h.0 h.3 (whole_from A (n + length p) n p h.0 h.2 [] (omega arith) h.4) h.5,
    )

    last_back : IsAcceptedAt A (joined ps ++ p) w × ¬ WasGiven A G ps w → IsGivenLast A G ps p w
    last_back h =
        let r = find_past (whole n p) [] p n bp (λ on v l. l) 0 ps start w (no_zero n) bs full (subst (λ (qs : List ReadingPlace). Leads A qs start w []) whole_places h.0) h.1 in
        (r.0, r.1, r.2, r.3, r.4, r.5)

  pub follow_law : IsFull A G 0 (set_of A.starts) → FollowLaw A G
  follow_law full = record {
    next = λ ps p w bs bp. (next_there full ps p w bs bp, next_back full ps p w bs bp);
    last = λ ps p w bs bp. (last_there full ps p w bs bp, last_back full ps p w bs bp);
  }

-- ---- where every variable of every row has a span

module _ (A : Marked) (accepts : AcceptsFullRows A) where
  full_word : (d : List ℕ) (u : Word) → AllBytes d → Leads A.graph (whole 0 d) (set_of A.graph.starts) u [] → IsFullWord (length A.names) u
  full_word d u bytes h =
      let e : whole 0 d ≡ places (λ j. true) d 0 false =
      (let z : 0 + length d ≡ length d = omega arith in ap (λ k. bytes_at 0 d ++ end_at k ∷ []) z) ∙ sym (document_places d false) in
      let x = (read_words A.graph (λ j. true) d u).0 (subst (λ (qs : List ReadingPlace). Leads A.graph qs (set_of A.graph.starts) u []) e h) in
      subst (IsFullWord (length A.names)) x.2
      (accepts d (λ i b at. bytes b (Has-slice_get d i b at)) x.0 ((reading_law A.graph d x.0).0 x.1))

  pub is_full : IsFull A.graph (Settles A.graph) 0 (set_of A.graph.starts)
  is_full d more u v on bd bm lead s tail =
      let z : 0 + length d ≡ length d = omega arith in
      let one : Leads A.graph (whole 0 d) (set_of A.graph.starts) u [] =
      subst (λ (x : Word). Leads A.graph (whole 0 d) (set_of A.graph.starts) x []) (append-nil u)
      (leads_then A.graph (bytes_at 0 d) (end_at (0 + length d) ∷ []) (set_of A.graph.starts) [] on u [] lead (no_more, s, [], refl, (refl, refl))) in
      let last : 0 + length d + length more ≡ 0 + length (d ++ more) = let k = length-append d more in omega (arith, k) in
      let over : bytes_at 0 d ++ whole (0 + length d) more ≡ whole 0 (d ++ more) =
      sym (append_assoc (bytes_at 0 d) (bytes_at (0 + length d) more) (end_at (0 + length d + length more) ∷ []))
      ∙ (ap (λ (qs : List ReadingPlace). qs ++ end_at (0 + length d + length more) ∷ []) (sym (bytes_then 0 d more))
      ∙ ap (λ k. bytes_at 0 (d ++ more) ++ end_at k ∷ []) last) in
      let two : Leads A.graph (whole 0 (d ++ more)) (set_of A.graph.starts) (u ++ v) [] =
      subst (λ (qs : List ReadingPlace). Leads A.graph qs (set_of A.graph.starts) (u ++ v) []) over
      (leads_then A.graph (bytes_at 0 d) (whole (0 + length d) more) (set_of A.graph.starts) [] on u v lead tail) in
      full_words_end (length A.names) u v (full_word d u bd one) (full_word (d ++ more) (u ++ v) (bytes_both d more bd bm) two)

pub followed_law : FollowedLaw
followed_law A accepts = follow_law A.graph (Settles A.graph) (λ set s. s) (is_full A accepts)
