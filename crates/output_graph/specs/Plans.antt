-- What a program does to cells: the actions in their order, and the register that has the cell of each place.
use Rattle.std.specs.Prelude.{◌≡◌, ◌≤◌, ℕ, zero, suc, Bool, true, false, ◌&&◌, ◌||◌, List, [], ◌∷◌, ◌++◌, take, drop, length, nat_eq, slice_get}
use Rattle.output_graph.specs.declared.program.Action.{Action}
use Rattle.output_graph.specs.declared.program.Action.TheVariants.{Make, Release}
use Rattle.output_graph.specs.declared.program.Link.{Link}
use Rattle.output_graph.specs.declared.program.Move.{Move}
use Rattle.output_graph.specs.declared.program.Plan.{Plan}
use Rattle.output_graph.specs.declared.program.Register.{Register}
use Rattle.output_graph.specs.declared.program.Register.TheVariants.{Kept, Made}
use Rattle.span_core.specs.declared.edge.Edge.{Edge}
use Rattle.output_graph.specs.Sound.{edges_of}
use Rattle.output_graph.specs.Programs.{AllDescend, ArePlaced, AreCounted, cut, edges_in, place_in, targets_from, with_target}

-- the register of each place that has a cell, and how many cells have been made
pub record Places : Type 0 where
  pub held : List Register
  pub made : ℕ

abbrev pub places_of : List Register → ℕ → Places
places_of held made = record { held = held; made = made }

-- the move hands the source's own cell on: it has no marks, and its target no cell
abbrev pub hands_on : List Register → Move → Bool
hands_on held m = nat_eq m.marks 0 && nat_eq m.place (length held)

-- the register of a place, which may be the next one
abbrev pub put : List Register → ℕ → Register → List Register
put [] k r = r ∷ []
put (x ∷ held) zero r = r ∷ held
put (x ∷ held) (suc k) r = x ∷ put held k r

-- a move of the source k, which hands its cell on or does not
abbrev pub moved : Bool → ℕ → Places → Move → Places
moved true k s m = places_of (put s.held m.place (Kept k)) s.made
moved false k s m = places_of (put s.held m.place (Made s.made)) (suc s.made)

abbrev pub link_of : ℕ → Places → Move → Link
link_of k s m = record { marks = m.marks; from = k; also = slice_get s.held m.place }

abbrev pub acts : Bool → ℕ → Places → Move → List Action
acts true k s m = []
acts false k s m = Make (link_of k s m) ∷ []

-- the places once the source k has made these moves, and what is done to cells
abbrev pub places_after : ℕ → Places → List Move → Places
places_after k s [] = s
places_after k s (m ∷ moves) = places_after k (moved (hands_on s.held m) k s m) moves

abbrev pub actions_after : ℕ → Places → List Move → List Action
actions_after k s [] = []
actions_after k s (m ∷ moves) = acts (hands_on s.held m) k s m ++ actions_after k (moved (hands_on s.held m) k s m) moves

abbrev pub keeps : ℕ → Places → List Move → Bool
keeps k s [] = false
keeps k s (m ∷ moves) = hands_on s.held m || keeps k (moved (hands_on s.held m) k s m) moves

-- the hold of a source is given up, unless its cell was handed on
abbrev pub release_of : Bool → ℕ → List Action
release_of true k = []
release_of false k = Release k ∷ []

abbrev pub actions_of : ℕ → Places → List Move → List Action
actions_of k s moves = actions_after k s moves ++ release_of (keeps k s moves) k

-- all sources, from the source k on, with so many moves each
abbrev pub all_actions : ℕ → Places → List ℕ → List Move → List Action
all_actions k s [] moves = []
all_actions k s (n ∷ counts) moves = actions_of k s (take n moves) ++ all_actions (suc k) (places_after k s (take n moves)) counts (drop n moves)

abbrev pub all_places : ℕ → Places → List ℕ → List Move → Places
all_places k s [] moves = s
all_places k s (n ∷ counts) moves = all_places (suc k) (places_after k s (take n moves)) counts (drop n moves)

abbrev pub nowhere : Places
nowhere = places_of [] 0

-- what a plan keeps true
pub record IsPlan (p : Plan) : Type 0 where
  pub counted : AreCounted p.counts.items (edges_in p.moves.items)
  pub descend : AllDescend (cut p.counts.items (edges_in p.moves.items))
  pub placed : ArePlaced [] p.moves.items
  pub targets : targets_from [] p.moves.items ≡ p.targets.items
  pub places : all_places 0 nowhere p.counts.items p.moves.items ≡ places_of p.held.items p.made
  pub actions : all_actions 0 nowhere p.counts.items p.moves.items ≡ p.actions.items
  pub few : p.made ≤ length p.actions.items

-- a plan with one edge of the source k more
abbrev pub move_of : List ℕ → Edge → Move
move_of targets e = record { marks = e.marks; to = e.to; place = place_in targets e.to }

pub record HasEdge (k : ℕ) (old : Plan) (e : Edge) (new : Plan) (on : Bool) : Type 0 where
  pub counts : new.counts ≡ old.counts
  pub moves : new.moves.items ≡ old.moves.items ++ move_of old.targets.items e ∷ []
  pub targets : new.targets.items ≡ with_target old.targets.items e.to
  pub kept : on ≡ hands_on old.held.items (move_of old.targets.items e)
  pub places : places_of new.held.items new.made ≡ moved (hands_on old.held.items (move_of old.targets.items e)) k (places_of old.held.items old.made) (move_of old.targets.items e)
  pub actions : new.actions.items ≡ old.actions.items ++ acts (hands_on old.held.items (move_of old.targets.items e)) k (places_of old.held.items old.made) (move_of old.targets.items e)
  pub few : new.made ≤ length new.actions.items

-- a plan with these edges of the source k more, and what they do
pub record HasEdges (k : ℕ) (old : Plan) (given : List Edge) (new : Plan) (on : Bool) : Type 0 where
  pub more : List Move
  pub edges : edges_in more ≡ edges_of given
  pub counts : new.counts ≡ old.counts
  pub moves : new.moves.items ≡ old.moves.items ++ more
  pub placed : ArePlaced old.targets.items more
  pub targets : new.targets.items ≡ targets_from old.targets.items more
  pub kept : on ≡ keeps k (places_of old.held.items old.made) more
  pub places : places_of new.held.items new.made ≡ places_after k (places_of old.held.items old.made) more
  pub actions : new.actions.items ≡ old.actions.items ++ actions_after k (places_of old.held.items old.made) more
  pub few : new.made ≤ length new.actions.items
