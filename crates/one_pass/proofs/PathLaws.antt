-- A set over whose members paths of ways lead back leads back to itself.
use Rattle.std.proofs.Common.{◌≡◌, ℕ, zero, suc, ◌<◌, ◌≤◌, Bool, true, false, List, [], ◌∷◌, ◌++◌, take, map, refl, sym, ap, subst, arith, ◌∙◌}
use Rattle.std.specs.Prelude.{nat_eq, if◌then◌else◌}
use Rattle.std.specs.List.{filter}
use Rattle.std.proofs.lemmas.Bool.{eq-eqb, eqb-true}
use Rattle.span_core.specs.Lists.{Has, IsInOrder}
use Rattle.span_core.proofs.HasLaws.{Has-get_or, Has-map, Has-map_cases}
use Rattle.marked_automaton.specs.declared.way.Way.{Way}
use Rattle.marked_automaton.specs.Automaton.{Automaton}
use Rattle.marked_automaton.proofs.Passing.{has_filter}
use Rattle.automaton_reading.specs.Reading.{Reach, blocks_down, byte_read, edges, reach_with, ways_taken}
use Rattle.automaton_reading.proofs.Ascending.{ascending_same, set_in_order}
use Rattle.automaton_reading.proofs.Determined.{edge_way, has_block, set_has, way_edge}
use Rattle.set_table.specs.Tabled.{IsTabled, Tabled}
use Rattle.numbered_lists.specs.Numbered.{set_at}
use Rattle.node_arena.specs.Words.{Word}
use Rattle.output_graph.specs.Forward.{mark_block}
use Rattle.output_graph.specs.Graph.{Graph, Source, sources}
use Rattle.way_exits.specs.Exits.{Knows}
use Rattle.way_exits.specs.Paths.{AreNone, ComeBack, IsPath}
use Rattle.way_exits.specs.declared.waiting.Waiting.{Waiting}
use Rattle.way_exits.proofs.ExitLaws.{known_some}
use Rattle.one_pass.specs.Passes.{AllLeadBack, AreGiven}
use Rattle.one_pass.specs.Places.{Leads, bytes_at}
use Rattle.one_pass.specs.Waiting.{LeadsBack}

-- ---- edges

module _ (A : Automaton) (set : List ℕ) (b : ℕ) (e : Reach) (h : Has (edges A set (byte_read b)) e) where
  abbrev taken : List Way
  taken = ways_taken A set b

  abbrev block : (m : ℕ) × Has (blocks_down (map (λ (y : Way). y.marks) taken)) m × (reach_with taken m ≡ e)
  block = Has-map_cases (reach_with taken) (blocks_down (map (λ (y : Way). y.marks) taken)) e h

  -- an edge is told by its marks
  edge_is : reach_with taken e.marks ≡ e
  edge_is = ap (reach_with taken) (sym (ap (λ (r : Reach). r.marks) block.2)) ∙ block.2

  -- it leads somewhere
  edge_some : (x : ℕ) × Has e.to x
  edge_some =
      let y = Has-map_cases (λ (y : Way). y.marks) taken block.0 (has_block (map (λ (y : Way). y.marks) taken) block.0 block.1) in
      let f = has_filter (λ (z : Way). nat_eq z.marks block.0) taken y.0 y.1 (eq-eqb y.0.marks block.0 y.2) in (
        y.0.to,
        subst (λ (r : Reach). Has r.to y.0.to) block.2
            (set_has (map (λ (z : Way). z.to) (filter (λ (z : Way). nat_eq z.marks block.0) taken)) y.0.to
            (Has-map (λ (z : Way). z.to) (filter (λ (z : Way). nat_eq z.marks block.0) taken) y.0 f)),
      )

  -- to a list in order
  edge_order : IsInOrder ◌<◌ e.to
  edge_order = subst (λ (r : Reach). IsInOrder ◌<◌ r.to) block.2 (set_in_order (map (λ (z : Way). z.to) (filter (λ (z : Way). nat_eq z.marks block.0) taken)))

same_edge : (A : Automaton) (set : List ℕ) (b : ℕ) (e f : Reach) → Has (edges A set (byte_read b)) e → Has (edges A set (byte_read b)) f → e.marks ≡ f.marks → e ≡ f
same_edge A set b e f h k same = sym (edge_is A set b e h) ∙ (ap (reach_with (ways_taken A set b)) same ∙ edge_is A set b f k)

-- ---- words

-- the blocks of these marks, from the position i on
abbrev blocks : ℕ → List ℕ → Word
blocks i [] = []
blocks i (m ∷ marks) = mark_block i m ++ blocks (suc i) marks

none_blocks : (i : ℕ) (marks : List ℕ) → AreNone marks → blocks i marks ≡ []
none_blocks i [] none = refl
none_blocks i (m ∷ marks) none = ap (λ k. mark_block i k ++ blocks (suc i) marks) none.0 ∙ none_blocks (suc i) marks none.1

-- a block of marks, or none
abbrev block_if : ℕ → ℕ → Bool → Word
block_if i m none = if none then [] else (i, m) ∷ []

-- where a block and what follows it are empty there are no marks
no_block : (i m : ℕ) (rest : Word) → mark_block i m ++ rest ≡ [] → (m ≡ 0) × (rest ≡ [])
no_block i m rest is = go (nat_eq m 0) refl
  where
    some : (i, m) ∷ rest ≡ [] → ⊥
    some e = cc

    go : (v : Bool) → nat_eq m 0 ≡ v → (m ≡ 0) × (rest ≡ [])
    go true e = (eqb-true m 0 e, subst (λ v. block_if i m v ++ rest ≡ []) e is)
    go false e = absurd (some (subst (λ v. block_if i m v ++ rest ≡ []) e is))

-- ---- choices of edges, and paths of ways

module _ (A : Automaton) where
  -- a choice of edges leads to no state but by a path of the same marks
  edges_path : (d : List ℕ) (i : ℕ) (from : List ℕ) (w : Word) (to : List ℕ) → Leads A (bytes_at i d) from w to → (x : ℕ) → Has to x →
      (p : ℕ) × Has from p × (marks : List ℕ) × IsPath A.ways p d marks x × (blocks i marks ≡ w)
  edges_path [] i from w to l x h = (x, subst (λ s. Has s x) (sym l.1) h, [], (refl, refl), sym l.0)
  edges_path (b ∷ d) i from w to l x h =
      let later = edges_path d (suc i) l.0.to l.2 to l.4 x h in
      let y = edge_way A from b l.0 later.0 l.1 later.1 in (
        y.0.from,
        y.2,
        y.0.marks ∷ later.2,
        (y.0, y.1, refl, y.3, later.2, refl, subst (λ q. IsPath A.ways q d later.2 x) (sym y.5) later.3),
        ap (λ m. mark_block i m ++ blocks (suc i) later.2) y.4 ∙ (ap (λ v. mark_block i l.0.marks ++ v) later.4 ∙ l.3),
      )

  -- where a path leads, a choice of edges of the same marks leads
  path_edges : (d : List ℕ) (i : ℕ) (from : List ℕ) (p : ℕ) → Has from p → (marks : List ℕ) (q : ℕ) → IsPath A.ways p d marks q →
      (to : List ℕ) × Has to q × Leads A (bytes_at i d) from (blocks i marks) to
  path_edges [] i from p h marks q path = (from, subst (Has from) path.1 h, (ap (blocks i) path.0, refl))
  path_edges (b ∷ d) i from p h marks q path =
      let y = path.0 in
      let e = way_edge A from b y path.1 (subst (Has from) (sym path.2) h) path.3 in
      let later = path_edges d (suc i) e.0.to y.to e.3 path.4 q path.6 in (
        later.0,
        later.1,
        (e.0, e.1, blocks (suc i) path.4, ap (λ m. mark_block i m ++ blocks (suc i) path.4) e.2 ∙ ap (blocks i) path.5, later.2),
      )

  leads_some : (d : List ℕ) (i : ℕ) (from : List ℕ) → (x : ℕ) × Has from x → (w : Word) (to : List ℕ) → Leads A (bytes_at i d) from w to → (x : ℕ) × Has to x
  leads_some [] i from some w to l = (some.0, subst (λ s. Has s some.0) l.1 some.1)
  leads_some (b ∷ d) i from some w to l = leads_some d (suc i) l.0.to (edge_some A from b l.0 l.1) l.2 to l.4

  leads_order : (d : List ℕ) (i : ℕ) (from : List ℕ) → IsInOrder ◌<◌ from → (w : Word) (to : List ℕ) → Leads A (bytes_at i d) from w to → IsInOrder ◌<◌ to
  leads_order [] i from order w to l = subst (IsInOrder ◌<◌) l.1 order
  leads_order (b ∷ d) i from order w to l = leads_order d (suc i) l.0.to (edge_order A from b l.0 l.1) l.2 to l.4

  -- without marks there is one choice at most
  one_unmarked : (d : List ℕ) (i : ℕ) (from to other : List ℕ) → Leads A (bytes_at i d) from [] to → Leads A (bytes_at i d) from [] other → to ≡ other
  one_unmarked [] i from to other l k = sym l.1 ∙ k.1
  one_unmarked (b ∷ d) i from to other l k =
      let one = no_block i l.0.marks l.2 l.3 in
      let two = no_block i k.0.marks k.2 k.3 in
      let same : k.0 ≡ l.0 = same_edge A from b k.0 l.0 k.1 l.1 (two.0 ∙ sym one.0) in
      one_unmarked d (suc i) l.0.to to other (subst (λ w. Leads A (bytes_at (suc i) d) l.0.to w to) one.1 l.4)
      (subst (λ (e : Reach). Leads A (bytes_at (suc i) d) e.to [] other) same (subst (λ w. Leads A (bytes_at (suc i) d) k.0.to w other) two.1 k.4))

  module _ (S : List ℕ) (order : IsInOrder ◌<◌ S) (some : (p : ℕ) × Has S p) (d : List ℕ) (back : ComeBack A.ways S d) where
    -- to each state an unmarked choice leads
    unmarked : (i q : ℕ) → Has S q → (to : List ℕ) × Has to q × Leads A (bytes_at i d) S [] to
    unmarked i q h =
        let p = back.each q h in
        let e = path_edges d i S p.0 p.1 p.2 q p.3 in
        (e.0, e.1, subst (λ w. Leads A (bytes_at i d) S w e.0) (none_blocks i p.2 (back.only p.0 p.1 p.2 q p.3).0) e.2)

    leads_there : (i : ℕ) (w : Word) (to : List ℕ) → Leads A (bytes_at i d) S w to → (w ≡ []) × (to ≡ S)
    leads_there i w to l =
        let x = leads_some d i S some w to l in
        let p = edges_path d i S w to l x.0 x.1 in
        let none : w ≡ [] = sym p.4 ∙ none_blocks i p.2 (back.only p.0 p.1 p.2 x.0 p.3).0 in (
          none,
          ascending_same to S (leads_order d i S order w to l) order (λ q h. let f = edges_path d i S w to l q h in (back.only f.0 f.1 f.2 q f.3).1)
              (λ q h.
              let u = unmarked i q h in
              subst (λ t. Has t q) (one_unmarked d i S u.0 to u.2 (subst (λ v. Leads A (bytes_at i d) S v to) none l)) u.1),
        )

    pub leads_back : LeadsBack A S d
    leads_back i w to = (
      leads_there i w to,
      λ is.
          let u = unmarked i some.0 some.1 in
          let same = (leads_there i [] u.0 u.2).1 in
          subst (λ v. Leads A (bytes_at i d) S v to) (sym is.0) (subst (λ t. Leads A (bytes_at i d) S [] t) (same ∙ sym is.1) u.2),
    )

-- ---- what a search tells

pub known_back : (t : Tabled) → IsTabled t → (g : Graph) → AreGiven t g → (waiting : Waiting) (d : List ℕ) →
    ((x : Source) → Has (sources g) x → Knows waiting (set_at t.sets x.set)) → ((set : List ℕ) → Knows waiting set → ComeBack t.graph.ways set d) → AllLeadBack t g d
known_back t tabled g given waiting d known back x h =
    let set = set_at t.sets x.set in
    leads_back t.graph set (tabled.sets set (Has-get_or t.sets x.set [] (given x h))).order (known_some waiting set (known x h)) d (back set (known x h))

-- the front of the front of a list
pub front_of : (n w : ℕ) (xs : List ℕ) → n ≤ w → take n (take w xs) ≡ take n xs
front_of zero w xs le = refl
front_of (suc n) zero xs le = absurd (omega (arith, le))
front_of (suc n) (suc w) [] le = refl
front_of (suc n) (suc w) (x ∷ xs) le = ap (λ ys. x ∷ ys) (front_of n w xs (omega (arith, le)))
