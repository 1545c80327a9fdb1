-- Sets that are settled for good: no word goes on from them, and their words stay accepted.
use Rattle.std.proofs.Common.{◌≡◌, ℕ, suc, ◌+◌, List, [], ◌∷◌, ◌++◌, length, inl, inr, refl, sym, ap, subst, arith, ◌∙◌, length-append, append_assoc}
use Rattle.std.specs.Prelude.{map, ◌&&◌}
use Rattle.std.specs.List.{filter}
use Rattle.std.proofs.lemmas.List.{append-nil}
use Rattle.span_core.specs.Lists.{Has}
use Rattle.span_core.proofs.HasLaws.{Has-map, Has-map_cases}
use Rattle.marked_automaton.specs.declared.way.Stop.{Stop}
use Rattle.marked_automaton.specs.declared.way.Way.{Way}
use Rattle.marked_automaton.specs.Automaton.{Automaton}
use Rattle.marked_automaton.proofs.Passing.{filter_cases, has_filter, left_true}
use Rattle.std.specs.FinSet as bytes
use Rattle.automaton_reading.specs.Reading.{Reach, blocks_down, byte_read, edges, ended, is_among, set_of, ways_taken, reach_with}
use Rattle.automaton_reading.proofs.Determined.{among_has, blocks_has, edge_way, has_among, has_block, way_edge}
use Rattle.node_arena.specs.Words.{Word}
use Rattle.output_graph.specs.Forward.{mark_block}
use Rattle.one_pass.specs.Places.{Leads, ReadingPlace, bytes_at, end_at}
use Rattle.one_pass.proofs.ReadWords.{leads_then, then_leads}
use Rattle.one_pass.specs.Settling.{IsSettledSet}
use Rattle.followed_document.specs.Settling.{AllBytes, IsGivenIn, Settles, joined, no_more, whole}
use Rattle.settled_states.specs.States.{AreLasting, AreSpent, Told}
use Rattle.followed_document.specs.Laws.{FollowLaw, SettledLaw, StaysGiven}
use Rattle.followed_document.proofs.Choices.{bytes_then}
use Rattle.followed_document.proofs.Following.{bytes_both, bytes_right, follow_law}

module _ (A : Automaton) (X : ℕ → Type 0) (spent : AreSpent A X) where
  abbrev AllSpent : List ℕ → Type 0
  AllSpent set = (q : ℕ) → Has set q → X q

  edge_marks : (set : List ℕ) (b : ℕ) (e : Reach) → AllSpent set → Has (edges A set (byte_read b)) e → e.marks ≡ 0
  edge_marks set b e all h =
      let taken = ways_taken A set b in
      let m = Has-map_cases (reach_with taken) (blocks_down (map (λ (y : Way). y.marks) taken)) e h in
      let y = Has-map_cases (λ (y : Way). y.marks) taken m.0 (has_block (map (λ (y : Way). y.marks) taken) m.0 m.1) in
      let f = filter_cases (λ (z : Way). is_among set z.from && bytes.contains z.bytes b) A.ways y.0 y.1 in
      let from = among_has set y.0.from (left_true (is_among set y.0.from) (bytes.contains y.0.bytes b) f.1) in
      ap (λ (r : Reach). r.marks) (sym m.2) ∙ (sym y.2 ∙ (spent.ways y.0 f.0 (all y.0.from from)).0)

  edge_spent : (set : List ℕ) (b : ℕ) (e : Reach) → AllSpent set → Has (edges A set (byte_read b)) e → AllSpent e.to
  edge_spent set b e all h q k =
      let y = edge_way A set b e q h k in
      subst X y.5 (spent.ways y.0 y.1 (all y.0.from y.2)).1

  end_marks : (set : List ℕ) (e : Reach) → AllSpent set → Has (edges A set ended) e → e.marks ≡ 0
  end_marks set e all h =
      let stops = filter (λ (x : Stop). is_among set x.state) A.stops in
      let m = Has-map_cases (λ m. let r : Reach = record { marks = m; to = [] } in r) (blocks_down (map (λ (x : Stop). x.marks) stops)) e h in
      let x = Has-map_cases (λ (x : Stop). x.marks) stops m.0 (has_block (map (λ (x : Stop). x.marks) stops) m.0 m.1) in
      let f = filter_cases (λ (x : Stop). is_among set x.state) A.stops x.0 x.1 in
      ap (λ (r : Reach). r.marks) (sym m.2) ∙ (sym x.2 ∙ spent.ends x.0 f.0 (all x.0.state (among_has set x.0.state f.1)))

  no_block : (i m : ℕ) (u v : Word) → m ≡ 0 → u ≡ [] → mark_block i m ++ u ≡ v → v ≡ []
  no_block i m u v e f g = sym g ∙ (ap (λ (r : Word). mark_block i m ++ r) f ∙ (append-nil (mark_block i m) ∙ ap (mark_block i) e))

  spent_leads : (i : ℕ) (d set : List ℕ) (v : Word) (to : List ℕ) → AllSpent set → Leads A (bytes_at i d) set v to → (v ≡ []) × AllSpent to
  spent_leads i [] set v to all h = (h.0, subst AllSpent h.1 all)
  spent_leads i (b ∷ d) set v to all h =
      let r = spent_leads (suc i) d h.0.to h.2 to (edge_spent set b h.0 all h.1) h.4 in
      (no_block i h.0.marks h.2 v (edge_marks set b h.0 all h.1) r.0 h.3, r.1)

  spent_whole : (i : ℕ) (d set : List ℕ) (v : Word) → AllSpent set → Leads A (whole i d) set v [] → v ≡ []
  spent_whole i d set v all h =
      let x = then_leads A (bytes_at i d) (end_at (i + length d) ∷ []) set [] v h in
      let r = spent_leads i d set x.1 x.0 all x.3 in
      let last : x.2 ≡ [] = no_block (i + length d) x.4.0.marks x.4.2 x.2 (end_marks x.0 x.4.0 r.1 x.4.1) x.4.4.0 x.4.3 in
      sym x.5 ∙ (ap (λ (u : Word). u ++ x.2) r.0 ∙ last)

module _ (A : Automaton) (Y : ℕ → Type 0) (lasting : AreLasting A Y) where
  abbrev SomeLasts : List ℕ → Type 0
  SomeLasts set = (q : ℕ) × Has set q × Y q

  pub lasting_ends : (set : List ℕ) → SomeLasts set → Settles A set
  lasting_ends set h =
      let x = lasting.ends h.0 h.2 in
      let stops = filter (λ (x : Stop). is_among set x.state) A.stops in
      let there = has_filter (λ (x : Stop). is_among set x.state) A.stops x.0 x.1 (has_among set x.0.state (subst (Has set) (sym x.2) h.1)) in
      subst (λ m. Has (edges A set ended) (let r : Reach = record { marks = m; to = [] } in r)) x.3
      (Has-map (λ m. let r : Reach = record { marks = m; to = [] } in r) (blocks_down (map (λ (x : Stop). x.marks) stops)) x.0.marks
      (blocks_has (map (λ (x : Stop). x.marks) stops) x.0.marks (Has-map (λ (x : Stop). x.marks) stops x.0 there)))

  lasting_leads : (i : ℕ) (d set : List ℕ) → AllBytes d → SomeLasts set → (to : List ℕ) × Leads A (bytes_at i d) set [] to × SomeLasts to
  lasting_leads i [] set bytes h = (set, (refl, refl), h)
  lasting_leads i (b ∷ d) set bytes h =
      let y = lasting.ways h.0 b h.2 (bytes b (inl refl)) in
      let e = way_edge A set b y.0 y.1 (subst (Has set) (sym y.2) h.1) y.3 in
      let r = lasting_leads (suc i) d e.0.to (λ c k. bytes c (inr k)) (y.0.to, e.3, y.5) in
      (r.0, (e.0, e.1, [], append-nil (mark_block i e.0.marks) ∙ ap (mark_block i) (e.2 ∙ y.4), r.1), r.2)

  lasting_whole : (i : ℕ) (d set : List ℕ) → AllBytes d → SomeLasts set → Leads A (whole i d) set [] []
  lasting_whole i d set bytes h =
      let r = lasting_leads i d set bytes h in
      leads_then A (bytes_at i d) (end_at (i + length d) ∷ []) set [] r.0 [] [] r.1 (no_more, lasting_ends r.0 r.2, [], refl, (refl, refl))

  module _ (G : List ℕ → Type 0) (lasts : (set : List ℕ) → G set → SomeLasts set) where
    whole_then : (j : ℕ) (d e : List ℕ) → bytes_at j d ++ whole (j + length d) e ≡ whole j (d ++ e)
    whole_then j d e =
        let last : j + length d + length e ≡ j + length (d ++ e) = let k = length-append d e in omega (arith, k) in
        sym (append_assoc (bytes_at j d) (bytes_at (j + length d) e) (end_at (j + length d + length e) ∷ []))
        ∙ (ap (λ (qs : List ReadingPlace). qs ++ end_at (j + length d + length e) ∷ []) (sym (bytes_then j d e))
        ∙ ap (λ k. bytes_at j (d ++ e) ++ end_at k ∷ []) last)

    given_whole : (i : ℕ) (ps : List (List ℕ)) (from : List ℕ) (w : Word) (more : List ℕ) → AllBytes (joined ps) → AllBytes more → IsGivenIn A G i ps from w →
        Leads A (whole i (joined ps ++ more)) from w []
    given_whole i [] from w more bs bm h = absurd h
    given_whole i (p ∷ ps) from w more bs bm (inl h) =
        let bytes = bytes_both (joined ps) more (bytes_right p (joined ps) bs) bm in
        let over : bytes_at i p ++ whole (i + length p) (joined ps ++ more) ≡ whole i (joined (p ∷ ps) ++ more) =
        whole_then i p (joined ps ++ more) ∙ ap (whole i) (sym (append_assoc p (joined ps) more)) in
        subst (λ (qs : List ReadingPlace). Leads A qs from w []) over
        (subst (λ (u : Word). Leads A (bytes_at i p ++ whole (i + length p) (joined ps ++ more)) from u []) (append-nil w)
        (leads_then A (bytes_at i p) (whole (i + length p) (joined ps ++ more)) from [] h.0 w [] h.1
        (lasting_whole (i + length p) (joined ps ++ more) h.0 bytes (lasts h.0 h.2))))
    given_whole i (p ∷ ps) from w more bs bm (inr h) =
        let over : bytes_at i p ++ whole (i + length p) (joined ps ++ more) ≡ whole i (joined (p ∷ ps) ++ more) =
        whole_then i p (joined ps ++ more) ∙ ap (whole i) (sym (append_assoc p (joined ps) more)) in
        subst (λ (qs : List ReadingPlace). Leads A qs from w []) over
        (subst (λ (u : Word). Leads A (bytes_at i p ++ whole (i + length p) (joined ps ++ more)) from u []) h.5
        (leads_then A (bytes_at i p) (whole (i + length p) (joined ps ++ more)) from [] h.0 h.1 h.2 h.3
        (given_whole (i + length p) ps h.0 h.2 more (bytes_right p (joined ps) bs) bm h.4)))

-- the law, by any predicates
module _ (A : Automaton) (X Y : ℕ → Type 0) (spent : AreSpent A X) (lasting : AreLasting A Y) where
  pub settled_follow : FollowLaw A (IsSettledSet X Y)
  settled_follow =
      follow_law A (IsSettledSet X Y) (λ set g. lasting_ends A Y lasting set g.1)
      (λ d more u v on bd bm lead g tail. spent_whole A X spent (0 + length d) more on v g.0 tail)

  pub settled_stays : StaysGiven A (IsSettledSet X Y)
  settled_stays ps p w bs bp g = given_whole A Y lasting (IsSettledSet X Y) (λ set h. h.1) 0 ps (set_of A.starts) w p bs bp g

pub settled_law : SettledLaw
settled_law A x y spent lasting = (settled_follow A (Told x) (Told y) spent lasting, settled_stays A (Told x) (Told y) spent lasting)
