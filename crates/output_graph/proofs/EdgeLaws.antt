-- The edges of a source, with what is held.
use Rattle.std.proofs.Common.{◌≡◌, ◌⊎◌, ◌↔◌, ℕ, ◌+◌, ◌-◌, ◌<◌, ◌≤◌, List, [], ◌∷◌, length, Option, Some, None, IfSome, inl, inr, refl, sym, ap, ◌∙◌, subst, arith, nat_eq, eq-eqb, ne_eqb}
use Rattle.std.proofs.lemmas.Bool.{cases_eq, cond-true, cond-false}
use Rattle.std.proofs.lemmas.Option.{same_Some}
use Rattle.span_core.specs.Lists.{Has, AreDistinct}
use Rattle.node_arena.specs.Cells.{NamedLink, HasCell, Holds, hold, with_hold, less_hold, without, new_link}
use Rattle.node_arena.specs.Release.{Released, no_more, one_more}
use Rattle.node_arena.specs.Words.{Word}
use Rattle.output_graph.specs.Forward.{Layer, cell_of, set_cell, Choice, AreSources}
use Rattle.output_graph.specs.Source.{Edges, Between}
use Rattle.output_graph.specs.Graph.{LeadsTo, sets_of}
use Rattle.output_graph.specs.Sound.{AreHeldOnce, TellTargets, Among, Amid, CanEnd, HasEnded}
use Rattle.output_graph.proofs.ForwardLaws.{cell_of_set, cell_of_other}
use Rattle.output_graph.proofs.SourceLaws.{source_ends, marked_edge, markless_edge, handed_edge, between_without}
use Rattle.output_graph.proofs.HoldLaws.{held_by_edge, held_by_move, held_by_rest}

pub some_then : (o : Option ℕ) (P : ℕ → Type 0) → ((b : ℕ) → o ≡ Some b → P b) → IfSome o P
some_then None P f = tt
some_then (Some b) P f = f b refl

-- the sets of a layer stay distinct
pub has_set : (next : Layer) (s c r : ℕ) → Has (sets_of (set_cell next s c)) r → Has (sets_of next) r ⊎ (s ≡ r)
has_set [] s c r (inl e) = inr e
has_set [] s c r (inr h) = absurd h
has_set (p ∷ next) s c r h = elim (cases_eq p.0 s) as (λ _. Has (sets_of (p ∷ next)) r ⊎ (s ≡ r)) [
  | inl e ↦
      let is = cond-true (nat_eq p.0 s) ((s, c) ∷ next) (p ∷ set_cell next s c) (eq-eqb p.0 s e) in
      elim (subst (λ (l : Layer). Has (sets_of l) r) is h) as (λ _. Has (sets_of (p ∷ next)) r ⊎ (s ≡ r)) [ inl a ↦ inr a | inr b ↦ inl (inr b) ]
  | inr ne ↦
      let is = cond-false (nat_eq p.0 s) ((s, c) ∷ next) (p ∷ set_cell next s c) (ne_eqb p.0 s ne) in
      elim (subst (λ (l : Layer). Has (sets_of l) r) is h) as (λ _. Has (sets_of (p ∷ next)) r ⊎ (s ≡ r)) [
        | inl a ↦ inl (inl a)
        | inr b ↦ elim (has_set next s c r b) as (λ _. Has (sets_of (p ∷ next)) r ⊎ (s ≡ r)) [ inl x ↦ inl (inr x) | inr y ↦ inr y ]
      ]
]

pub set_has : (next : Layer) (s c r : ℕ) → Has (sets_of next) r ⊎ (s ≡ r) → Has (sets_of (set_cell next s c)) r
set_has [] s c r (inl h) = absurd h
set_has [] s c r (inr e) = inl e
set_has (p ∷ next) s c r h = elim (cases_eq p.0 s) as (λ _. Has (sets_of (set_cell (p ∷ next) s c)) r) [
  | inl e ↦
      let is = cond-true (nat_eq p.0 s) ((s, c) ∷ next) (p ∷ set_cell next s c) (eq-eqb p.0 s e) in
      subst (λ (l : Layer). Has (sets_of l) r) (sym is) (elim h as (λ _. (s ≡ r) ⊎ Has (sets_of next) r) [
        | inl (inl a) ↦ inl (sym e ∙ a)
        | inl (inr b) ↦ inr b
        | inr a ↦ inl a
      ])
  | inr ne ↦
      let is = cond-false (nat_eq p.0 s) ((s, c) ∷ next) (p ∷ set_cell next s c) (ne_eqb p.0 s ne) in
      subst (λ (l : Layer). Has (sets_of l) r) (sym is) (elim h as (λ _. (p.0 ≡ r) ⊎ Has (sets_of (set_cell next s c)) r) [
        | inl (inl a) ↦ inl a
        | inl (inr b) ↦ inr (set_has next s c r (inl b))
        | inr a ↦ inr (set_has next s c r (inr a))
      ])
]

-- one edge reaches its target
pub reached_one : (next : Layer) (m t c : ℕ) (s : ℕ) → Has (sets_of (set_cell next t c)) s ↔ (Has (sets_of next) s ⊎ LeadsTo ((m, t) ∷ []) s)
reached_one next m t c s = (
  (λ h. elim (has_set next t c s h) as (λ _. Has (sets_of next) s ⊎ LeadsTo ((m, t) ∷ []) s) [ inl a ↦ inl a | inr b ↦ inr ((m, t), inl refl, b) ]),
  (λ h. set_has next t c s (elim h as (λ _. Has (sets_of next) s ⊎ (t ≡ s)) [
    | inl a ↦ inl a
    | inr (e, inl is, to) ↦ inr (ap (λ (x : ℕ × ℕ). x.1) is ∙ to)
    | inr (e, inr none, to) ↦ absurd none
  ])),
)

pub distinct_set : (next : Layer) (s c : ℕ) → AreDistinct (sets_of next) → AreDistinct (sets_of (set_cell next s c))
distinct_set [] s c d = ((λ h. h), tt)
distinct_set (p ∷ next) s c d = elim (cases_eq p.0 s) as (λ _. AreDistinct (sets_of (set_cell (p ∷ next) s c))) [
  | inl e ↦
      let is = cond-true (nat_eq p.0 s) ((s, c) ∷ next) (p ∷ set_cell next s c) (eq-eqb p.0 s e) in
      subst (λ (l : Layer). AreDistinct (sets_of l)) (sym is) ((λ h. d.0 (subst (λ n. Has (sets_of next) n) (sym e) h)), d.1)
  | inr ne ↦
      let is = cond-false (nat_eq p.0 s) ((s, c) ∷ next) (p ∷ set_cell next s c) (ne_eqb p.0 s ne) in
      subst (λ (l : Layer). AreDistinct (sets_of l)) (sym is) (
        (λ h. elim (has_set next s c p.0 h) as (λ _. ⊥) [ inl a ↦ d.0 a | inr b ↦ ne (sym b) ]),
        distinct_set next s c d.1,
      )
]

pub length_set : (next : Layer) (s c : ℕ) → length (set_cell next s c) ≤ length next + 1
length_set [] s c = omega arith
length_set (p ∷ next) s c = elim (cases_eq p.0 s) as (λ _. length (set_cell (p ∷ next) s c) ≤ length (p ∷ next) + 1) [
  | inl e ↦
      let is = ap length (cond-true (nat_eq p.0 s) ((s, c) ∷ next) (p ∷ set_cell next s c) (eq-eqb p.0 s e)) in omega arith
  | inr ne ↦
      let is = ap length (cond-false (nat_eq p.0 s) ((s, c) ∷ next) (p ∷ set_cell next s c) (ne_eqb p.0 s ne)) in
      let r = length_set next s c in omega arith
]

-- what a release leaves
module _ (holds : Holds) where
  pub between_released : (sources left : List ℕ) (W : ℕ → List Word) (at : ℕ) (done : List Choice) (next : Layer) →
      ((c : ℕ) → Has left c → 0 < hold holds c) → ((s c : ℕ) → cell_of next s ≡ Some c → 0 < hold holds c) → {cells rest : List NamedLink} → Released holds cells rest →
      Between sources left W at done cells next → Between sources left W at done rest next
  between_released sources left W at done next hl hn (no_more each) b = b
  between_released sources left W at done next hl hn {cells = cells} (one_more k there free un run) b =
      between_released sources left W at done next hl hn run
      (between_without sources left W at done cells next k b un (λ s is. let p = hn s k is in omega arith) (λ h. let p = hl k h in omega arith))

pub length_without : (k : ℕ) (cells : List NamedLink) → length (without k cells) ≤ length cells
length_without k [] = omega arith
length_without k (l ∷ older) = elim (cases_eq l.name k) as (λ _. length (without k (l ∷ older)) ≤ length (l ∷ older)) [
  | inl e ↦ let is = ap length (cond-true (nat_eq l.name k) older (l ∷ without k older) (eq-eqb l.name k e)) in omega arith
  | inr ne ↦
      let is = ap length (cond-false (nat_eq l.name k) older (l ∷ without k older) (ne_eqb l.name k ne)) in
      let r = length_without k older in omega arith
]

pub length_released : (holds : Holds) {cells rest : List NamedLink} → Released holds cells rest → length rest ≤ length cells
length_released holds (no_more each) = omega arith
length_released holds {cells = cells} (one_more k there free un run) =
    let a = length_released holds run in let b = length_without k cells in omega arith

-- a new choice
told_more : (c marks to : ℕ) (done : List Choice) → TellTargets done → ((d : Choice) → Has done d → d.cell ≡ c → marks < d.marks) →
    TellTargets (record { cell = c; marks = marks; to = to } ∷ done)
told_more c marks to done told above d e (inl a) (inl b) cell same = ap (λ (x : Choice). x.to) (sym a ∙ b)
told_more c marks to done told above d e (inl a) (inr b) cell same =
    let on_c : e.cell ≡ c = sym cell ∙ ap (λ (x : Choice). x.cell) (sym a) in
    let lt = above e b on_c in
    let m : marks ≡ d.marks = ap (λ (x : Choice). x.marks) a in
    absurd (omega arith)
told_more c marks to done told above d e (inr a) (inl b) cell same =
    let on_c : d.cell ≡ c = cell ∙ ap (λ (x : Choice). x.cell) (sym b) in
    let lt = above d a on_c in
    let m : marks ≡ e.marks = ap (λ (x : Choice). x.marks) b in
    absurd (omega arith)
told_more c marks to done told above d e (inr a) (inr b) cell same = told d e a b cell same

-- what an edge's cell asks
pub link_there : {sources after : List ℕ} {W : ℕ → List Word} {at c : ℕ} {edges : Edges} {done : List Choice} {cells : List NamedLink} {next : Layer} {holds : Holds} →
    Amid sources after W at c edges done cells next holds → HasCell cells c
link_there {c = c} a = a.inside.growing.left_there c (inl refl)

pub link_apart : {sources after : List ℕ} {W : ℕ → List Word} {at c : ℕ} {edges : Edges} {done : List Choice} {cells : List NamedLink} {next : Layer} {holds : Holds} →
    Amid sources after W at c edges done cells next holds → (to : ℕ) → IfSome (cell_of next to) (λ b. (hold holds b ≡ 1) × (b ≡ c → ⊥))
link_apart {c = c} {cells = cells} {next = next} {holds = holds} a to = some_then (cell_of next to) (λ b. (hold holds b ≡ 1) × (b ≡ c → ⊥))
    (λ b is. (a.held.at_next to b is, (λ e. a.inside.growing.next_apart to b is (inl (sym e)))))

-- an edge with marks
pub marked_amid : (sources after : List ℕ) (W : ℕ → List Word) (at c marks to : ℕ) (edges : Edges) (done : List Choice) (cells : List NamedLink) (next : Layer) (holds holds_after : Holds) (name : ℕ) →
    0 < marks → (HasCell cells name → ⊥) → holds_after ≡ with_hold (less_hold holds (cell_of next to)) name 1 →
    Amid sources after W at c ((marks, to) ∷ edges) done cells next holds →
    Amid sources after W at c edges (record { cell = c; marks = marks; to = to } ∷ done) (new_link name at marks c (cell_of next to) ∷ cells) (set_cell next to name) holds_after
marked_amid sources after W at c marks to edges done cells next holds holds_after name some fresh is a = record {
  apart = a.apart;
  inside = marked_edge sources after W at c a.apart marks to edges done cells next a.inside name fresh some;
  held = subst (λ (h : Holds). AreHeldOnce h (c ∷ after) (set_cell next to name)) (sym is) (held_by_edge (c ∷ after) at cells next a.inside.growing holds a.held to name fresh);
  told = told_more c marks to done a.told (λ d h on_c. a.inside.above d (marks, to) h on_c (inl refl));
  sets = distinct_set next to name a.sets;
}

-- the source's hold is given up
rest_ends : (sources after : List ℕ) (W : ℕ → List Word) (at c : ℕ) (done : List Choice) (cells cells_after : List NamedLink) (next : Layer) (holds holds_after : Holds) →
    AreSources sources W at → Between sources after W at done cells next → TellTargets done → AreDistinct (sets_of next) → AreHeldOnce holds (c ∷ after) next →
    (Has after c → ⊥) → ((s : ℕ) → cell_of next s ≡ Some c → ⊥) →
    holds_after ≡ with_hold holds c (hold holds c - 1) → Released holds_after cells cells_after →
    Among sources after W at done cells_after next holds_after
rest_ends sources after W at c done cells cells_after next holds holds_after apart b told sets held not_after not_next is run =
    let rest : AreHeldOnce holds_after after next = subst (λ (h : Holds). AreHeldOnce h after next) (sym is) (held_by_rest after c next holds held not_after not_next) in
    record {
      apart = apart;
      between = between_released holds_after sources after W at done next
          (λ x h. let e = rest.at_left x h in omega arith) (λ s x h. let e = rest.at_next s x h in omega arith) run b;
      held = rest;
      told = told;
      sets = sets;
    }

-- no edge is left
pub none_ends : (at c : ℕ) (cells cells_after : List NamedLink) (next : Layer) (holds holds_after : Holds) →
    holds_after ≡ with_hold holds c (hold holds c - 1) → Released holds_after cells cells_after →
    HasEnded at c [] cells next holds cells_after next holds_after
none_ends at c cells cells_after next holds holds_after is run = record {
  ends = λ sources after W done a.
      rest_ends sources after W at c done cells cells_after next holds holds_after a.apart (source_ends sources after W at c a.apart done cells next a.inside)
      a.told a.sets a.held a.inside.not_after (λ s at_s. a.inside.growing.next_apart s c at_s (inl refl)) is run;
  reached = λ s. ((λ h. inl h), (λ h. elim h as (λ _. Has (sets_of next) s) [ inl a ↦ a | inr b ↦ absurd b.1 ]));
  few = omega arith;
  hands_on = λ to e none. absurd (no_edge (0, to) e);
}
  where
    no_edge : (f : ℕ × ℕ) → [] ≡ f ∷ [] → ⊥
    no_edge f e = cc

-- the last edge hands the cell on
pub moved_ends : (at c to : ℕ) (cells : List NamedLink) (next : Layer) (holds : Holds) → cell_of next to ≡ None →
    HasEnded at c ((0, to) ∷ []) cells next holds cells (set_cell next to c) holds
moved_ends at c to cells next holds none = record {
  ends = λ sources after W done a. record {
    apart = a.apart;
    between = handed_edge sources after W at c a.apart 0 to [] done cells next a.inside refl none;
    held = held_by_move after c to next holds a.held none;
    told = told_more c 0 to done a.told (λ d h on_c. a.inside.above d (0, to) h on_c (inl refl));
    sets = distinct_set next to c a.sets;
  };
  reached = reached_one next 0 to c;
  few = length_set next to c;
  hands_on = λ r e new. omega arith;
}

-- the last edge joins the target's cell
pub joined_ends : (at c marks to name : ℕ) (cells mid cells_after : List NamedLink) (next next_after : Layer) (holds holds_mid holds_after : Holds) → marks ≡ 0 →
    (HasCell cells name → ⊥) → mid ≡ new_link name at marks c (cell_of next to) ∷ cells → holds_mid ≡ with_hold (less_hold holds (cell_of next to)) name 1 →
    next_after ≡ set_cell next to name →
    holds_after ≡ with_hold holds_mid c (hold holds_mid c - 1) → Released holds_after mid cells_after → Has (sets_of next) to →
    HasEnded at c ((0, to) ∷ []) cells next holds cells_after next_after holds_after
joined_ends at c marks to name cells mid cells_after next next_after holds holds_mid holds_after none fresh mid_is held_is next_is is run there =
    let same : mid ≡ new_link name at 0 c (cell_of next to) ∷ cells = mid_is ∙ ap (λ m. new_link name at m c (cell_of next to) ∷ cells) none in
    let run' : Released holds_after (new_link name at 0 c (cell_of next to) ∷ cells) cells_after =
    subst (λ (xs : List NamedLink). Released holds_after xs cells_after) same run in
    subst (λ (n : Layer). HasEnded at c ((0, to) ∷ []) cells next holds cells_after n holds_after) (sym next_is) (record {
      ends = λ sources after W done a.
          rest_ends sources after W at c (record { cell = c; marks = 0; to = to } ∷ done) (new_link name at 0 c (cell_of next to) ∷ cells) cells_after (set_cell next to name) holds_mid holds_after
          a.apart (markless_edge sources after W at c a.apart 0 to [] done cells next a.inside name fresh refl)
          (told_more c 0 to done a.told (λ d h on_c. a.inside.above d (0, to) h on_c (inl refl)))
          (distinct_set next to name a.sets)
          (subst (λ (h : Holds). AreHeldOnce h (c ∷ after) (set_cell next to name)) (sym held_is) (held_by_edge (c ∷ after) at cells next a.inside.growing holds a.held to name fresh))
          a.inside.not_after
          (λ s at_s. elim (cases_eq to s) as (λ _. ⊥) [
            | inl e ↦
                let named : name ≡ c = same_Some name c (sym (cell_of_set next to name) ∙ (ap (λ n. cell_of (set_cell next to name) n) e ∙ at_s)) in
                fresh (subst (λ n. HasCell cells n) (sym named) (a.inside.growing.left_there c (inl refl)))
            | inr ne ↦ a.inside.growing.next_apart s c (sym (cell_of_other next to s name ne) ∙ at_s) (inl refl)
          ])
          is run';
      reached = reached_one next 0 to name;
      few = length_set next to name;
      hands_on = λ r e new. absurd (new (subst (λ n. Has (sets_of next) n) (one_target (0, to) (0, r) e) there));
    })
  where
    one_target : (p q : ℕ × ℕ) → p ∷ [] ≡ q ∷ [] → p.1 ≡ q.1
    one_target p q e = cc

-- until then it is held
pub still_held : (at c to name : ℕ) (edges : Edges) (cells : List NamedLink) (next : Layer) (holds holds_mid : Holds) → CanEnd at c edges cells next holds →
    (HasCell cells name → ⊥) → holds_mid ≡ with_hold (less_hold holds (cell_of next to)) name 1 → 0 < hold holds_mid c
still_held at c to name edges cells next holds holds_mid can fresh is =
    let a = can.4 in
    let held : AreHeldOnce holds_mid (c ∷ can.1) (set_cell next to name) = subst (λ (h : Holds). AreHeldOnce h (c ∷ can.1) (set_cell next to name)) (sym is)
    (held_by_edge (c ∷ can.1) at cells next a.inside.growing holds a.held to name fresh) in
    let one = held.at_left c (inl refl) in
    omega arith
