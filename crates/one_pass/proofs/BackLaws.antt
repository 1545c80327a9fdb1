-- Bytes over which each set of the layer leads back to itself alone have been read before they are.
use Rattle.std.proofs.Common.{◌≡◌, ℕ, suc, ◌<◌, ◌≤◌, List, [], ◌∷◌, ◌++◌, length, get_or, take, inl, inr, refl, sym, ap, subst, arith, ◌∙◌}
use Rattle.std.proofs.lemmas.List.{append-nil, get_or-take, length-take-le}
use Rattle.span_core.specs.Lists.{Has}
use Rattle.span_core.proofs.HasLaws.{Has-map, Has-map_cases}
use Rattle.marked_automaton.specs.Automaton.{Automaton}
use Rattle.automaton_reading.specs.Reading.{Reach, byte_read, edges, look_ups_asked, next_sets}
use Rattle.set_table.specs.Tabled.{StaysOn, Tabled}
use Rattle.numbered_lists.specs.Numbered.{set_at}
use Rattle.output_graph.specs.Graph.{Graph, Source, sources}
use Rattle.one_pass.specs.Passes.{AllLeadBack, AllStayOn, HasRead, Progress, Reaches, sets_of}
use Rattle.one_pass.specs.Places.{Leads, ReadingPlace, asks, bytes_at, sets_after, sets_met}
use Rattle.one_pass.specs.Waiting.{LeadsBack, LeadsHome}
use Rattle.node_arena.specs.Words.{Word}
use Rattle.output_graph.specs.Forward.{mark_block}
use Rattle.one_pass.proofs.Composing.{grown_none}
use Rattle.one_pass.proofs.Due.{none_due}
use Rattle.one_pass.proofs.Sets.{has_next, next_cases}

-- ---- the sets that are reached are those to which some choice of edges leads

pub after_cases : (A : Automaton) (ps : List ReadingPlace) (sets : List (List ℕ)) (set : List ℕ) → Has (sets_after A sets (asks ps)) set →
    (from : List ℕ) × Has sets from × (w : Word) × Leads A ps from w set
after_cases A [] sets set h = (set, h, [], (refl, refl))
after_cases A (p ∷ ps) sets set h =
    let later = after_cases A ps (next_sets A sets p.ask) set h in
    let e = next_cases A sets p.ask later.0 later.1 in
    (e.0, e.1, mark_block p.at e.2.marks ++ later.2, (e.2, e.3, later.2, refl, subst (λ s. Leads A ps s later.2 set) (sym e.4) later.3))

pub has_after : (A : Automaton) (ps : List ReadingPlace) (sets : List (List ℕ)) (from : List ℕ) → Has sets from → (w : Word) (set : List ℕ) →
    Leads A ps from w set → Has (sets_after A sets (asks ps)) set
has_after A [] sets from h w set l = subst (Has sets) l.1 h
has_after A (p ∷ ps) sets from h w set l = has_after A ps (next_sets A sets p.ask) l.0.to (has_next A sets p.ask from l.0 h l.1) l.2 set l.4

-- ---- bytes over which each set leads back

module _ (P : Progress) (i : ℕ) (d : List ℕ) (back : AllLeadBack P.table P.graph d) where
  abbrev A : Automaton
  A = P.table.graph

  abbrev ps : List ReadingPlace
  ps = bytes_at i d

  pub back_read : HasRead A ps P P
  back_read = record {
    words = λ set w. (there set w, here set w);
    sets = λ set. (set_there set, set_here set);
    table = grown_none P.table (sets_met A (sets_of P) (asks ps)) (look_ups_asked A (sets_of P) (asks ps));
    tells = λ r due. absurd (none_due A (sets_of P) ps home r due);
    steps = omega arith;
    cells = omega arith;
    rise = omega arith;
  }
    where
      leads : (x : Source) → Has (sources P.graph) x → Leads A ps (set_at P.table.sets x.set) [] (set_at P.table.sets x.set)
      leads x h = (back x h i [] (set_at P.table.sets x.set)).1 (refl, refl)

      only : (x : Source) → Has (sources P.graph) x → (from : List ℕ) → set_at P.table.sets x.set ≡ from → (w : Word) (to : List ℕ) → Leads A ps from w to → (w ≡ []) × (to ≡ set_at P.table.sets x.set)
      only x h from is w to l = (back x h i w to).0 (subst (λ s. Leads A ps s w to) (sym is) l)

      home : (s : List ℕ) → Has (sets_of P) s → LeadsHome A ps s
      home s h =
          let x = Has-map_cases (λ (x : Source). set_at P.table.sets x.set) (sources P.graph) s h in
          subst (LeadsHome A ps) x.2 (back x.0 x.1 i)

      there : (set : List ℕ) (w : Word) → Reaches P set w → (from : List ℕ) × (u v : Word) × Reaches P from u × Leads A ps from v set × (u ++ v ≡ w)
      there set w h = (set, w, [], h, subst (λ s. Leads A ps s [] s) h.2 (leads h.0 h.1), append-nil w)

      here : (set : List ℕ) (w : Word) → (from : List ℕ) × (u v : Word) × Reaches P from u × Leads A ps from v set × (u ++ v ≡ w) → Reaches P set w
      here set w h =
          let x = h.3 in
          let o = only x.0 x.1 h.0 x.2 h.2 set h.4 in
          let same : h.1 ≡ w = sym (append-nil h.1) ∙ (ap (λ v. h.1 ++ v) (sym o.0) ∙ h.5) in
          (x.0, x.1, sym o.1, subst (Has x.0.words) same x.3)

      set_there : (set : List ℕ) → Has (sets_of P) set → Has (sets_after A (sets_of P) (asks ps)) set
      set_there set h =
          let x = Has-map_cases (λ (x : Source). set_at P.table.sets x.set) (sources P.graph) set h in
          has_after A ps (sets_of P) set h [] set (subst (λ s. Leads A ps s [] s) x.2 (leads x.0 x.1))

      set_here : (set : List ℕ) → Has (sets_after A (sets_of P) (asks ps)) set → Has (sets_of P) set
      set_here set h =
          let f = after_cases A ps (sets_of P) set h in
          let x = Has-map_cases (λ (x : Source). set_at P.table.sets x.set) (sources P.graph) f.0 f.1 in
          let o = only x.0 x.1 f.0 x.2 f.2 set f.3 in
          subst (Has (sets_of P)) (sym o.1) (Has-map (λ (x : Source). set_at P.table.sets x.set) (sources P.graph) x.0 x.1)

-- ---- where each set stays on each byte

pub stays_back : (A : Automaton) (set : List ℕ) (d : List ℕ) → ((k : ℕ) → k < length d → StaysOn A set (get_or d k 0)) → LeadsBack A set d
stays_back A set [] stays i w to = (λ l. (l.0, sym l.1), λ is. (is.0, sym is.1))
stays_back A set (b ∷ d) stays i w to =
    let later = stays_back A set d (λ k less. stays (suc k) (omega (arith, less))) in (
      λ l.
          let e = one l.0 l.1 in
          let rest = (later (suc i) l.2 to).0 (subst (λ s. Leads A (bytes_at (suc i) d) s l.2 to) (ap (λ (r : Reach). r.to) e) l.4) in
          (sym l.3 ∙ (ap (λ (r : Reach). mark_block i r.marks ++ l.2) e ∙ rest.0), rest.1),
      λ is. (
        back_edge,
        subst (λ es. Has es back_edge) (sym (stays 0 (omega arith))) (inl refl),
        [],
        sym is.0,
        (later (suc i) [] to).1 (refl, is.1),
      ),
    )
  where
    back_edge : Reach
    back_edge = record { marks = 0; to = set }

    one : (e : Reach) → Has (edges A set (byte_read b)) e → e ≡ back_edge
    one e h = elim (subst (λ es. Has es e) (stays 0 (omega arith)) h) as (λ _. e ≡ back_edge) [ inl same ↦ sym same | inr n ↦ absurd n ]

pub all_stay_back : (t : Tabled) (g : Graph) (d : List ℕ) → ((k : ℕ) → k < length d → AllStayOn t g (get_or d k 0)) → AllLeadBack t g d
all_stay_back t g d still x h = stays_back t.graph (set_at t.sets x.set) d (λ k less. still k less x h)

-- over no bytes
pub none_back : (t : Tabled) (g : Graph) → AllLeadBack t g []
none_back t g = all_stay_back t g [] (λ k less. absurd (omega (arith, less)))

-- over the front of bytes, on each of which each set stays
pub front_back : (t : Tabled) (g : Graph) (d : List ℕ) (n : ℕ) → n ≤ length d → ((k : ℕ) → k < n → AllStayOn t g (get_or d k 0)) → AllLeadBack t g (take n d)
front_back t g d n le still =
    let long : length (take n d) ≡ n = length-take-le n d le in
    all_stay_back t g (take n d) (λ k less.
    let within : k < n = omega (arith, less, long) in
    subst (AllStayOn t g) (sym (get_or-take n d k 0 within)) (still k within))
