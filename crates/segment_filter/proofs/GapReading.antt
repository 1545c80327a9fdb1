-- Where an automaton only waits outside of some positions, reading at these alone finds its words.
use Rattle.std.proofs.Common.{◌≡◌, ℕ, suc, ◌+◌, Bool, true, false, List, [], ◌∷◌, length, inl, inr, refl, sym, ap, subst, arith, ◌∙◌}
use Rattle.std.specs.Prelude.{slice_get, MatchBool, ◌||◌}
use Rattle.std.specs.List.{filter}
use Rattle.span_core.specs.Lists.{Has}
use Rattle.marked_automaton.specs.declared.way.Way.{Way}
use Rattle.marked_automaton.specs.declared.way.Stop.{Stop}
use Rattle.marked_automaton.specs.Automaton.{Automaton, Accepts, HasByte, ReadsByte, Walk, idle_way}
use Rattle.marked_automaton.proofs.Listed.{some_same}
use Rattle.marked_automaton.proofs.Passing.{filter_cases, has_filter}
use Rattle.automaton_reading.specs.Chosen.{EndsWith, IsReadFrom, IsReadWith}
use Rattle.automaton_reading.specs.Reading.{Reach, byte_read, edges, is_among, rest_edge, rest_taken, set_of}
use Rattle.automaton_reading.proofs.Determined.{IsBehind, among_has, behind_head, behind_tail, edge_way, ends_stop, has_among, has_set, reading_law, set_has, stop_ends, way_edge}
use Rattle.place_automaton.specs.Atom.{AreBytes}
use Rattle.place_automaton.proofs.AtomRuns.{any_of_all}
use Rattle.segment_filter.specs.Idling.{HasIdleWays, IsLed, LeadsOut, WaitsOutside}
use Rattle.segment_filter.specs.Laws.{WaitingLaw}
use Rattle.segment_filter.proofs.PassLaws.{led_on, leads_on, walk_passes}

-- the edge without markers, to the idle members
rest_has : (xs : List ℕ) (p : ℕ) → Has xs p → (e : Reach) × Has (rest_edge xs) e × Has e.to p
rest_has [] p h = absurd h
rest_has (x ∷ xs) p h = (record { marks = 0; to = x ∷ xs }, inl refl, h)

has_rest : (xs : List ℕ) (e : Reach) (p : ℕ) → Has (rest_edge xs) e → Has e.to p → Has xs p
has_rest [] e p h k = absurd h
has_rest (x ∷ xs) e p (inl s) k = rw (← s) at k
has_rest (x ∷ xs) e p (inr h) k = absurd h

module _ (A : Automaton) (d : List ℕ) (K : ℕ → Bool) (w : ℕ → ℕ) where
  idle_edge : (set : List ℕ) (p : ℕ) → Has set p → Has A.idle p → (e : Reach) × Has (edges A set rest_taken) e × Has e.to p
  idle_edge set p h k = rest_has (filter (is_among A.idle) set) p (has_filter (is_among A.idle) set p h (has_among A.idle p k))

  edge_idle : (set : List ℕ) (e : Reach) (p : ℕ) → Has (edges A set rest_taken) e → Has e.to p → Has set p × Has A.idle p
  edge_idle set e p h k =
      let r = filter_cases (is_among A.idle) set p (has_rest (filter (is_among A.idle) set) e p h k) in
      (r.0, among_has A.idle p r.1)

  -- a member goes on to the end
  abbrev GoesOn : List ℕ → ℕ → List ℕ → Type 0
  GoesOn rest i set =
      (p : ℕ) × (x : Stop) × Has set p × Has A.stops x × Walk A.ways d w i (length rest) p x.state × (x.marks ≡ w (i + length rest))

  -- in a gap all members are idle
  abbrev AllWait : Bool → List ℕ → Type 0
  AllWait in_gap set = in_gap ≡ true → (p : ℕ) → Has set p → Has A.idle p

  abbrev Behind : List ℕ → ℕ → Type 0
  Behind rest i = IsBehind A d w rest i

  module _ (idles : HasIdleWays A) (bytes : AreBytes d) where
    -- from an idle member
    wait : (b : ℕ) (rest : List ℕ) (i : ℕ) (set : List ℕ) → Behind (b ∷ rest) i → w i ≡ 0 → (r : GoesOn rest (suc i) set) → Has A.idle r.0 →
        GoesOn (b ∷ rest) i set
    wait b rest i set at z r k =
        let here = behind_head A d w b rest i at in
        let e : suc i + length rest ≡ i + suc (length rest) = omega arith in (
          r.0,
          r.1,
          r.2,
          r.3,
          (idle_way r.0, idles r.0 k, refl, sym z, (b, here, any_of_all b (bytes i b here)), r.4),
          r.5 ∙ ap w e,
        )

    -- one byte more
    one_more : (b : ℕ) (rest : List ℕ) (i : ℕ) (in_gap : Bool) (set : List ℕ) → Behind (b ∷ rest) i → AllWait in_gap set →
        ((g : Bool) (s : List ℕ) → AllWait g s → IsReadFrom A K w rest (suc i) g s → GoesOn rest (suc i) s) →
        IsReadFrom A K w (b ∷ rest) i in_gap set → GoesOn (b ∷ rest) i set
    one_more b rest i in_gap set at waits later h = go (K i) h
      where
        gap : (g : Bool) → AllWait g set →
            MatchBool g (IsReadFrom A K w rest (suc i) true set) ((e : Reach) × Has (edges A set rest_taken) e × IsReadFrom A K w rest (suc i) true e.to) → w i ≡ 0 →
            GoesOn (b ∷ rest) i set
        gap true all h z =
            let r = later true set all h in
            wait b rest i set at z r (all refl r.0 r.2)
        gap false all h z =
            let r = later true h.0.to (λ e p k. (edge_idle set h.0 p h.1 k).1) h.2 in
            let k = edge_idle set h.0 r.0 h.1 r.2 in
            wait b rest i set at z (r.0, r.1, k.0, r.3, r.4, r.5) k.1

        go : (k : Bool) →
            MatchBool k ((e : Reach) × Has (edges A set (byte_read b)) e × (e.marks ≡ w i) × IsReadFrom A K w rest (suc i) false e.to) ((w i ≡ 0) × MatchBool in_gap
            (IsReadFrom A K w rest (suc i) true set)
            ((e : Reach) × Has (edges A set rest_taken) e × IsReadFrom A K w rest (suc i) true e.to)) → GoesOn (b ∷ rest) i set
        go true h =
            let r = later false h.0.to (λ e. absurd (cc)) h.3 in
            let y = edge_way A set b h.0 r.0 h.1 r.2 in
            let e : suc i + length rest ≡ i + suc (length rest) = omega arith in (
              y.0.from,
              r.1,
              y.2,
              r.3,
              (y.0, y.1, refl, y.4 ∙ h.2, (b, behind_head A d w b rest i at, y.3), rw y.5 r.4),
              r.5 ∙ ap w e,
            )
        go false h = gap in_gap waits h.1 h.0

    read_goes : (rest : List ℕ) (i : ℕ) (in_gap : Bool) (set : List ℕ) → Behind rest i → AllWait in_gap set → IsReadFrom A K w rest i in_gap set → GoesOn rest i set
    read_goes [] i in_gap set at wait h = go (K i || in_gap) h
      where
        ends : (s : List ℕ) → ((p : ℕ) → Has s p → Has set p) → EndsWith A w i s → GoesOn [] i set
        ends s sub e =
            let x = ends_stop A w i s e in
            let f : i ≡ i + 0 = omega arith in
            (x.0.state, x.0, sub x.0.state x.2, x.1, refl, x.3 ∙ ap w f)

        go : (b : Bool) → MatchBool b (EndsWith A w i set) ((e : Reach) × Has (edges A set rest_taken) e × EndsWith A w i e.to) → GoesOn [] i set
        go true h = ends set (λ p k. k) h
        go false h = ends h.0.to (λ p k. (edge_idle set h.0 p h.1 k).0) h.2
    read_goes (b ∷ rest) i in_gap set at waits h =
        one_more b rest i in_gap set at waits (λ g s all r. read_goes rest (suc i) g s (behind_tail A d w b rest i at) all r) h

  module _ (waits : WaitsOutside A d K) where
    -- one byte more: the way y from a member p
    go_by : (b : ℕ) (rest : List ℕ) (i : ℕ) (in_gap : Bool) (set : List ℕ) (p : ℕ) → Behind (b ∷ rest) i → IsLed A d i p → Has set p →
        (y : Way) → Has A.ways y → y.from ≡ p → y.marks ≡ w i → ReadsByte d i y.bytes → LeadsOut A d (suc i) y.to →
        ((g : Bool) (s : List ℕ) → Has s y.to → IsReadFrom A K w rest (suc i) g s) → IsReadFrom A K w (b ∷ rest) i in_gap set
    go_by b rest i in_gap set p at led h y is from marks byte out_after later = go (K i) refl
      where
        from_led : IsLed A d i y.from
        from_led = subst (IsLed A d i) (sym from) led

        out : LeadsOut A d i p
        out = subst (LeadsOut A d i) from (leads_on A d i y is byte out_after)

        stays : K i ≡ false → p ≡ y.to
        stays e = sym ((waits.ways i y e is from_led byte out_after).1 ∙ from)

        gap : (g : Bool) → K i ≡ false → MatchBool g (IsReadFrom A K w rest (suc i) true set) ((e : Reach) × Has (edges A set rest_taken) e × IsReadFrom A K w rest (suc i) true e.to)
        gap true e = later true set (subst (Has set) (stays e) h)
        gap false e =
            let r = idle_edge set p h (waits.states i p e led out) in
            (r.0, r.1, later true r.0.to (subst (Has r.0.to) (stays e) r.2))

        go : (k : Bool) → K i ≡ k →
            MatchBool k ((e : Reach) × Has (edges A set (byte_read b)) e × (e.marks ≡ w i) × IsReadFrom A K w rest (suc i) false e.to) ((w i ≡ 0) × MatchBool in_gap
            (IsReadFrom A K w rest (suc i) true set)
            ((e : Reach) × Has (edges A set rest_taken) e × IsReadFrom A K w rest (suc i) true e.to))
        go true e =
            let same : byte.0 ≡ b = some_same byte.0 b (sym byte.1 ∙ behind_head A d w b rest i at) in
            let r = way_edge A set b y is (subst (Has set) (sym from) h) (subst (HasByte y.bytes) same byte.2) in
            (r.0, r.1, r.2 ∙ marks, later false r.0.to r.3)
        go false e = (sym marks ∙ (waits.ways i y e is from_led byte out_after).0, gap in_gap e)

    -- the members have the state of an accepting walk
    goes_read : (rest : List ℕ) (i : ℕ) (in_gap : Bool) (set : List ℕ) (p : ℕ) (x : Stop) → Behind rest i → i + length rest ≡ length d → IsLed A d i p →
        Has set p → Has A.stops x → Walk A.ways d w i (length rest) p x.state → x.marks ≡ w (i + length rest) → IsReadFrom A K w rest i in_gap set
    goes_read [] i in_gap set p x at len led h stop walk marks = go (K i) in_gap refl
      where
        out : LeadsOut A d i p
        out = (0, x, len, stop, walk)

        here : (s : List ℕ) → Has s p → EndsWith A w i s
        here s k = let e : i + 0 ≡ i = omega arith in stop_ends A w i s x stop (subst (Has s) walk k) (marks ∙ ap w e)

        go : (k g : Bool) → K i ≡ k → MatchBool (k || g) (EndsWith A w i set) ((e : Reach) × Has (edges A set rest_taken) e × EndsWith A w i e.to)
        go true g e = here set h
        go false true e = here set h
        go false false e =
            let r = idle_edge set p h (waits.states i p e led out) in
            (r.0, r.1, here r.0.to r.2)
    goes_read (b ∷ rest) i in_gap set p x at len led h stop walk marks =
        let len_after : suc i + length rest ≡ length d = omega (arith, len) in
        let e : i + suc (length rest) ≡ suc i + length rest = omega arith in
        let from_led : IsLed A d i walk.0.from = subst (IsLed A d i) (sym walk.2) led in
        go_by b rest i in_gap set p at led h walk.0 walk.1 walk.2 walk.3 walk.4
        (length rest, x, len_after, stop, walk_passes A.ways d w (length rest) (suc i) walk.0.to x.state walk.5)
        (λ g s k. goes_read rest (suc i) g s walk.0.to x (behind_tail A d w b rest i at) len_after (led_on A d i walk.0 from_led walk.1 walk.4) k stop walk.5 (marks ∙ ap w e))

pub read_accepts : (A : Automaton) → HasIdleWays A → (d : List ℕ) → AreBytes d → (K : ℕ → Bool) (w : ℕ → ℕ) → IsReadWith A K d w → Accepts A d w
read_accepts A idles d bytes K w h =
    let whole : (k : ℕ) → slice_get d k ≡ slice_get d (0 + k) = λ k. let e : k ≡ 0 + k = omega arith in ap (slice_get d) e in
    let e : 0 + length d ≡ length d = omega arith in
    let r = read_goes A d K w idles bytes d 0 false (set_of A.starts) whole (λ e. absurd (cc)) h in
    (r.0, r.1, has_set A.starts r.0 r.2, r.3, r.4, r.5 ∙ ap w e)

pub accepts_read : (A : Automaton) (d : List ℕ) (K : ℕ → Bool) (w : ℕ → ℕ) → WaitsOutside A d K → Accepts A d w → IsReadWith A K d w
accepts_read A d K w waits h =
    let whole : (k : ℕ) → slice_get d k ≡ slice_get d (0 + k) = λ k. let e : k ≡ 0 + k = omega arith in ap (slice_get d) e in
    let e : 0 + length d ≡ length d = omega arith in
    goes_read A d K w waits d 0 false (set_of A.starts) h.0 h.1 whole e (h.0, h.2, refl) (set_has A.starts h.0 h.2) h.3 h.4 (h.5 ∙ ap w (sym e))

pub waiting_law : WaitingLaw
waiting_law A idles d bytes K waits w =
    let all = reading_law A d w in
    (λ h. all.1 (read_accepts A idles d bytes K w h), λ h. accepts_read A d K w waits (all.0 h))
