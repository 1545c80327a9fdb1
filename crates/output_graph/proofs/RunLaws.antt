-- The actions of a source do what its moves do.
use Rattle.std.proofs.Common.{◌≡◌, ℕ, suc, ◌+◌, ◌-◌, ◌<◌, ◌≤◌, Bool, true, false, ◌&&◌, ◌||◌, List, [], ◌∷◌, ◌++◌, length, Option, Some, None, IfSome, inl, inr, refl, sym, ap, ◌∙◌, subst, arith, nat_eq, eq-eqb, ne_eqb, slice_get, append_assoc, length-append}
use Rattle.std.proofs.lemmas.Bool.{cases_eq, and_parts}
use Rattle.span_core.specs.Lists.{Has}
use Rattle.node_arena.specs.Cells.{HasCell, Holds, NamedLink, hold, less_hold, new_link, with_hold}
use Rattle.output_graph.specs.declared.program.Action.{Action}
use Rattle.output_graph.specs.declared.program.Action.TheVariants.{Release}
use Rattle.output_graph.specs.declared.program.Move.{Move}
use Rattle.output_graph.specs.declared.program.Register.TheVariants.{Kept, Made}
use Rattle.output_graph.specs.Forward.{Layer, cell_of, set_cell}
use Rattle.output_graph.specs.Source.{Edges}
use Rattle.output_graph.specs.Graph.{sets_of}
use Rattle.output_graph.specs.Sound.{CanEnd, HasEnded, HasMade, IsSpent}
use Rattle.output_graph.specs.Plans.{Places, actions_after, actions_of, acts, hands_on, keeps, moved, places_after, release_of}
use Rattle.output_graph.specs.Programs.{ArePlaced, edges_in, targets_from}
use Rattle.output_graph.specs.Running.{AreHeld, Leads, Point, also_in, point}
use Rattle.output_graph.specs.Sets.{cells_in}
use Rattle.output_graph.proofs.EdgeLaws.{joined_ends, length_released, link_apart, link_there, moved_ends, none_ends, still_held}
use Rattle.output_graph.proofs.HeldLaws.{also_is, also_there, held_length, held_more, held_put, made_there, place_free, place_taken}
use Rattle.output_graph.proofs.MakeLaws.{can_last, can_now, last_edge, made_ends, made_more}
use Rattle.output_graph.proofs.ProgramLaws.{sets_with}

pub made_none : (at c : ℕ) (cells : List NamedLink) (next : Layer) (holds : Holds) → HasMade at c [] cells next holds cells next holds
made_none at c cells next holds = record {
  makes = λ sources after W done rest a. a;
  marked = λ e h. absurd h;
  more = omega arith;
  reached = λ s. ((λ h. inl h), (λ h. elim h as (λ _. Has (sets_of next) s) [ inl a ↦ a | inr b ↦ absurd b.1 ]));
  few = omega arith;
}

not_both : (b : Bool) → (true && b) ≡ false → b ≡ false
not_both b e = e

is_eq : (m n : ℕ) → nat_eq m n ≡ true → m ≡ n
is_eq m n e = elim (cases_eq m n) as (λ _. m ≡ n) [ inl is ↦ is | inr ne ↦ (let off_it = ne_eqb m n ne in cc) ]

is_ne : (m n : ℕ) → nat_eq m n ≡ false → m ≡ n → ⊥
is_ne m n e is = let on_it = eq-eqb m n is in cc

-- a source with the cell c and the number k, and what is to be done behind it
module _ (sources : Layer) (at k c : ℕ) (Then : Point → Type 0) (later : List Action) (there : slice_get (cells_in sources) k ≡ Some c)
    (cells : List NamedLink) (next : Layer) (holds : Holds) (before : ℕ) (whole : Edges) (sets : List ℕ) (fin : Places)
    (onward : (cells_after : List NamedLink) (next_after : Layer) (holds_after : Holds) (made_after : List ℕ) (after : ℕ) →
    HasEnded at c whole cells next holds cells_after next_after holds_after → IsSpent (length whole) (length cells) (length cells_after) before after → before ≤ after →
    sets_of next_after ≡ sets → AreHeld sources made_after fin.held next_after → fin.made ≡ length made_after → Leads sources at Then later (point made_after cells_after holds_after after)) where
  -- these edges have been made, and these moves are left
  pub record IsMid (es : Edges) (rest : List Move) (s : Places) (made : List ℕ) (cells_mid : List NamedLink) (next_mid : Layer) (holds_mid : Holds) (now : ℕ) : Type 0 where
    pub split : whole ≡ es ++ edges_in rest
    pub so_far : HasMade at c es cells next holds cells_mid next_mid holds_mid
    pub can : CanEnd at c (edges_in rest) cells_mid next_mid holds_mid
    pub placed : ArePlaced (sets_of next_mid) rest
    pub targets : targets_from (sets_of next_mid) rest ≡ sets
    pub held : AreHeld sources made s.held next_mid
    pub count : s.made ≡ length made
    pub places : places_after k s rest ≡ fin
    pub counted : now ≡ before + length es

  none_mid : (es : Edges) (s : Places) (made : List ℕ) (cells_mid : List NamedLink) (next_mid : Layer) (holds_mid : Holds) (now : ℕ) →
      IsMid es [] s made cells_mid next_mid holds_mid now → Leads sources at Then (Release k ∷ later) (point made cells_mid holds_mid now)
  none_mid es s made cells_mid next_mid holds_mid now m = (
    c,
    there,
    (let one = m.can.4.held.at_left c (inl refl) in omega arith),
    λ cells_after after run lt le.
        let ended : HasEnded at c whole cells next holds cells_after next_mid (with_hold holds_mid c (hold holds_mid c - 1)) =
        subst (λ (w : Edges). HasEnded at c w cells next holds cells_after next_mid (with_hold holds_mid c (hold holds_mid c - 1))) (sym m.split)
        (made_ends m.so_far
        (none_ends at c cells_mid cells_after next_mid holds_mid (with_hold holds_mid c (hold holds_mid c - 1)) refl run)) in
        let many = ap length m.split ∙ length-append es [] in
        let more = m.so_far.more in
        let counted = m.counted in
        let less = length_released _ run in
        onward cells_after next_mid (with_hold holds_mid c (hold holds_mid c - 1)) made after ended
        (record { made = length es; few = omega arith; more = omega arith; bound = omega arith }) (omega arith)
        m.targets (subst (λ (p : Places). AreHeld sources made p.held next_mid) m.places m.held) (ap (λ (p : Places). p.made) (sym m.places) ∙ m.count),
  )

  -- the cell is handed on
  handed_mid : (es : Edges) (m : Move) (rest : List Move) (s : Places) (made : List ℕ) (cells_mid : List NamedLink) (next_mid : Layer) (holds_mid : Holds) (now : ℕ) →
      IsMid es (m ∷ rest) s made cells_mid next_mid holds_mid now → hands_on s.held m ≡ true →
      Leads sources at Then (((acts true k s m ++ actions_after k (moved true k s m) rest) ++ release_of (true || keeps k (moved true k s m) rest) k) ++ later) (point made cells_mid holds_mid now)
  handed_mid es m (x ∷ rest) s made cells_mid next_mid holds_mid now mid on_it =
      let marks : m.marks ≡ 0 = is_eq m.marks 0 (and_parts (nat_eq m.marks 0) (nat_eq m.place (length s.held)) on_it).0 in
      let none = ap length (last_edge marks mid.can) in
      absurd (omega arith)
  handed_mid es m [] s made cells_mid next_mid holds_mid now mid on_it =
      let tests = and_parts (nat_eq m.marks 0) (nat_eq m.place (length s.held)) on_it in
      let marks : m.marks ≡ 0 = is_eq m.marks 0 tests.0 in
      let place : m.place ≡ length s.held = is_eq m.place (length s.held) tests.1 in
      let free : cell_of next_mid m.to ≡ None = place_free next_mid m.to (sym mid.placed.0 ∙ (place ∙ held_length sources made s.held next_mid mid.held)) in
      let split : whole ≡ es ++ (0, m.to) ∷ [] = mid.split ∙ ap (λ (n : ℕ). es ++ (n, m.to) ∷ []) marks in
      let ended : HasEnded at c whole cells next holds cells_mid (set_cell next_mid m.to c) holds_mid =
      subst (λ (w : Edges). HasEnded at c w cells next holds cells_mid (set_cell next_mid m.to c) holds_mid) (sym split)
      (made_ends mid.so_far (moved_ends at c m.to cells_mid next_mid holds_mid free)) in
      let many = ap length split ∙ length-append es ((0, m.to) ∷ []) in
      let more = mid.so_far.more in
      let counted = mid.counted in
      let is : moved true k s m ≡ fin = ap (λ (b : Bool). moved b k s m) (sym on_it) ∙ mid.places in
      onward cells_mid (set_cell next_mid m.to c) holds_mid made now ended
      (record { made = length es; few = omega arith; more = omega arith; bound = omega arith }) (omega arith)
      (sets_with next_mid m.to c ∙ mid.targets)
      (subst (λ (p : Places). AreHeld sources made p.held (set_cell next_mid m.to c)) is (held_put sources made s.held next_mid m.place m.to c (Kept k) mid.held mid.placed.0 there))
      (ap (λ (p : Places). p.made) (sym is) ∙ mid.count)

  -- a cell is made
  makes_mid : (es : Edges) (m : Move) (rest : List Move) (s : Places) (made : List ℕ) (cells_mid : List NamedLink) (next_mid : Layer) (holds_mid : Holds) (now : ℕ) →
      IsMid es (m ∷ rest) s made cells_mid next_mid holds_mid now → (behind : List Action) →
      ((name : ℕ) → (HasCell cells_mid name → ⊥) →
      Leads sources at Then behind (point (made ++ name ∷ []) (new_link name at m.marks c (cell_of next_mid m.to) ∷ cells_mid)
      (with_hold (less_hold holds_mid (cell_of next_mid m.to)) name 1) (now + 1))) →
      Leads sources at Then (acts false k s m ++ behind) (point made cells_mid holds_mid now)
  makes_mid es m rest s made cells_mid next_mid holds_mid now mid behind go =
      let also : also_in sources made (slice_get s.held m.place) ≡ cell_of next_mid m.to = also_is sources made s.held next_mid m.place m.to mid.held mid.placed.0 in (
        c,
        there,
        link_there mid.can.4,
        also_there sources made s.held next_mid m.place mid.held,
        subst (λ (o : Option ℕ). IfSome o (λ a. (hold holds_mid a ≡ 1) × (a ≡ c → ⊥))) (sym also) (link_apart mid.can.4 m.to),
        λ name fresh.
            subst (λ (o : Option ℕ). Leads sources at Then behind
            (point (made ++ name ∷ []) (new_link name at m.marks c o ∷ cells_mid) (with_hold (less_hold holds_mid o) name 1) (now + 1))) (sym also)
            (go name fresh),
      )

  -- the last edge, without marks, joins what its target has
  joined_mid : (es : Edges) (m : Move) (rest : List Move) (s : Places) (made : List ℕ) (cells_mid : List NamedLink) (next_mid : Layer) (holds_mid : Holds) (now : ℕ) →
      IsMid es (m ∷ rest) s made cells_mid next_mid holds_mid now → hands_on s.held m ≡ false → m.marks ≡ 0 →
      Leads sources at Then (((acts false k s m ++ actions_after k (moved false k s m) rest) ++ release_of (false || keeps k (moved false k s m) rest) k) ++ later) (point made cells_mid holds_mid now)
  joined_mid es m (x ∷ rest) s made cells_mid next_mid holds_mid now mid off_it marks =
      let none = ap length (last_edge marks mid.can) in
      absurd (omega arith)
  joined_mid es m [] s made cells_mid next_mid holds_mid now mid off_it marks =
      let other : m.place ≡ length s.held → ⊥ =
      is_ne m.place (length s.held) (not_both (nat_eq m.place (length s.held)) (subst (λ (b : Bool). (b && nat_eq m.place (length s.held)) ≡ false) (eq-eqb m.marks 0 marks) off_it)) in
      let taken : Has (sets_of next_mid) m.to =
      place_taken next_mid m.to (λ e. other (mid.placed.0 ∙ (e ∙ sym (held_length sources made s.held next_mid mid.held)))) in
      let can : CanEnd at c ((0, m.to) ∷ []) cells_mid next_mid holds_mid = can_last marks mid.can in
      let split : whole ≡ es ++ (0, m.to) ∷ [] = mid.split ∙ ap (λ (n : ℕ). es ++ (n, m.to) ∷ []) marks in
      let is : moved false k s m ≡ fin = ap (λ (b : Bool). moved b k s m) (sym off_it) ∙ mid.places in
      makes_mid es m [] s made cells_mid next_mid holds_mid now mid (Release k ∷ later) (λ name fresh.
      let link : List NamedLink = new_link name at m.marks c (cell_of next_mid m.to) ∷ cells_mid in
      let held : Holds = with_hold (less_hold holds_mid (cell_of next_mid m.to)) name 1 in (
        c,
        there,
        still_held at c m.to name ((0, m.to) ∷ []) cells_mid next_mid holds_mid held can fresh refl,
        λ cells_after after run lt le.
            let ended : HasEnded at c whole cells next holds cells_after (set_cell next_mid m.to name) (with_hold held c (hold held c - 1)) =
            subst (λ (w : Edges). HasEnded at c w cells next holds cells_after (set_cell next_mid m.to name) (with_hold held c (hold held c - 1))) (sym split)
            (made_ends mid.so_far
            (joined_ends at c m.marks m.to name cells_mid link cells_after next_mid (set_cell next_mid m.to name) holds_mid held
            (with_hold held c (hold held c - 1)) marks fresh refl refl refl refl run taken)) in
            let many = ap length split ∙ length-append es ((0, m.to) ∷ []) in
            let more = mid.so_far.more in
            let counted = mid.counted in
            let less = length_released _ run in
            let one : length link ≡ suc (length cells_mid) = refl in
            onward cells_after (set_cell next_mid m.to name) (with_hold held c (hold held c - 1)) (made ++ name ∷ []) after ended
            (record { made = suc (length es); few = omega arith; more = omega arith; bound = omega arith }) (omega arith)
            (sets_with next_mid m.to name ∙ mid.targets)
            (subst (λ (p : Places). AreHeld sources (made ++ name ∷ []) p.held (set_cell next_mid m.to name)) is
            (held_put sources (made ++ name ∷ []) s.held next_mid m.place m.to name (Made s.made)
            (held_more sources made name s.held next_mid mid.held) mid.placed.0 (made_there made name s.made mid.count)))
            (let a = ap (λ (p : Places). p.made) is in let b = mid.count in let l = length-append made (name ∷ []) in omega arith),
      ))

  -- an edge with marks, and what the others lead to
  marked_mid : (es : Edges) (m : Move) (rest : List Move) (s : Places) (made : List ℕ) (cells_mid : List NamedLink) (next_mid : Layer) (holds_mid : Holds) (now : ℕ) →
      IsMid es (m ∷ rest) s made cells_mid next_mid holds_mid now → hands_on s.held m ≡ false → 0 < m.marks →
      ((es_now : Edges) (t : Places) (made_now : List ℕ) (cells_now : List NamedLink) (next_now : Layer) (holds_now : Holds) (count : ℕ) →
      IsMid es_now rest t made_now cells_now next_now holds_now count → Leads sources at Then (actions_of k t rest ++ later) (point made_now cells_now holds_now count)) →
      Leads sources at Then (((acts false k s m ++ actions_after k (moved false k s m) rest) ++ release_of (false || keeps k (moved false k s m) rest) k) ++ later) (point made cells_mid holds_mid now)
  marked_mid es m rest s made cells_mid next_mid holds_mid now mid off_it some go =
      makes_mid es m rest s made cells_mid next_mid holds_mid now mid (actions_of k (moved false k s m) rest ++ later) (λ name fresh.
      let link : List NamedLink = new_link name at m.marks c (cell_of next_mid m.to) ∷ cells_mid in
      let held : Holds = with_hold (less_hold holds_mid (cell_of next_mid m.to)) name 1 in
      let more : HasMade at c (es ++ (m.marks, m.to) ∷ []) cells next holds link (set_cell next_mid m.to name) held =
      made_more mid.so_far m.marks m.to name some fresh refl refl refl in
      let one : HasMade at c ((m.marks, m.to) ∷ []) cells_mid next_mid holds_mid link (set_cell next_mid m.to name) held =
      made_more (made_none at c cells_mid next_mid holds_mid) m.marks m.to name some fresh refl refl refl in
      go (es ++ (m.marks, m.to) ∷ []) (moved false k s m) (made ++ name ∷ []) link (set_cell next_mid m.to name) held (now + 1) (record {
        split = mid.split ∙ sym (append_assoc es ((m.marks, m.to) ∷ []) (edges_in rest));
        so_far = more;
        can = can_now one (edges_in rest) refl mid.can;
        placed = subst (λ (ss : List ℕ). ArePlaced ss rest) (sym (sets_with next_mid m.to name)) mid.placed.1;
        targets = ap (λ (ss : List ℕ). targets_from ss rest) (sets_with next_mid m.to name) ∙ mid.targets;
        held = held_put sources (made ++ name ∷ []) s.held next_mid m.place m.to name (Made s.made)
            (held_more sources made name s.held next_mid mid.held) mid.placed.0 (made_there made name s.made mid.count);
        count = (let b = mid.count in let l = length-append made (name ∷ []) in omega arith);
        places = ap (λ (b : Bool). places_after k (moved b k s m) rest) (sym off_it) ∙ mid.places;
        counted = (let b = mid.counted in let l = length-append es ((m.marks, m.to) ∷ []) in omega arith);
      }))

  move_leads : (es : Edges) (m : Move) (rest : List Move) (s : Places) (made : List ℕ) (cells_mid : List NamedLink) (next_mid : Layer) (holds_mid : Holds) (now : ℕ) →
      IsMid es (m ∷ rest) s made cells_mid next_mid holds_mid now →
      ((es_now : Edges) (t : Places) (made_now : List ℕ) (cells_now : List NamedLink) (next_now : Layer) (holds_now : Holds) (count : ℕ) →
      IsMid es_now rest t made_now cells_now next_now holds_now count → Leads sources at Then (actions_of k t rest ++ later) (point made_now cells_now holds_now count)) →
      (b : Bool) → hands_on s.held m ≡ b → Leads sources at Then (actions_of k s (m ∷ rest) ++ later) (point made cells_mid holds_mid now)
  move_leads es m rest s made cells_mid next_mid holds_mid now mid go true on_it =
      subst (λ (b : Bool). Leads sources at Then
      (((acts b k s m ++ actions_after k (moved b k s m) rest) ++ release_of (b || keeps k (moved b k s m) rest) k) ++ later) (point made cells_mid holds_mid now)) (sym on_it)
      (handed_mid es m rest s made cells_mid next_mid holds_mid now mid on_it)
  move_leads es m rest s made cells_mid next_mid holds_mid now mid go false off_it =
      subst (λ (b : Bool). Leads sources at Then
      (((acts b k s m ++ actions_after k (moved b k s m) rest) ++ release_of (b || keeps k (moved b k s m) rest) k) ++ later) (point made cells_mid holds_mid now)) (sym off_it)
      (elim (cases_eq m.marks 0) as (λ _. Leads sources at Then
      (((acts false k s m ++ actions_after k (moved false k s m) rest) ++ release_of (false || keeps k (moved false k s m) rest) k) ++ later) (point made cells_mid holds_mid now)) [
        | inl none ↦ joined_mid es m rest s made cells_mid next_mid holds_mid now mid off_it none
        | inr ne ↦ marked_mid es m rest s made cells_mid next_mid holds_mid now mid off_it (grind arith) go
      ])

  pub source_leads : (es : Edges) (rest : List Move) (s : Places) (made : List ℕ) (cells_mid : List NamedLink) (next_mid : Layer) (holds_mid : Holds) (now : ℕ) →
      IsMid es rest s made cells_mid next_mid holds_mid now → Leads sources at Then (actions_of k s rest ++ later) (point made cells_mid holds_mid now)
  source_leads es [] s made cells_mid next_mid holds_mid now mid = none_mid es s made cells_mid next_mid holds_mid now mid
  source_leads es (m ∷ rest) s made cells_mid next_mid holds_mid now mid =
      move_leads es m rest s made cells_mid next_mid holds_mid now mid
      (λ es_now t made_now cells_now next_now holds_now count is. source_leads es_now rest t made_now cells_now next_now holds_now count is) (hands_on s.held m) refl
