-- A pass over a document: what it holds between two places, and what reading makes of that.
use Rattle.std.specs.Prelude.{◌≡◌, ℕ, ◌+◌, ◌*◌, ◌<◌, ◌≤◌, ◌↔◌, ◌⊎◌, List, [], ◌∷◌, ◌++◌, map, length}
use Rattle.std.specs.Str.{bytes_eq}
use Rattle.span_core.specs.Lists.{Has, AreDistinct}
use Rattle.marked_automaton.specs.Automaton.{Automaton, size}
use Rattle.automaton_reading.specs.Reading.{LookUp, ended, once, look_up_same, look_ups_asked}
use Rattle.set_table.specs.Tabled.{IsTabled, Stays, Tabled, look_ups_weight, sets_weight}
use Rattle.numbered_lists.specs.Numbered.{set_at}
use Rattle.node_arena.specs.Words.{Word}
use Rattle.output_graph.specs.Graph.{Graph, HasWord, IsPast, Source, sets_of as numbers_in, sources, targets}
use Rattle.one_pass.specs.Making.{making_read}
use Rattle.one_pass.specs.Places.{ReadingPlace, Leads, asks, edges_read, end_at, sets_after, sets_met, sets_on}
use Rattle.one_pass.specs.Waiting.{LeadsBack}
use Rattle.one_pass.specs.Weights.{IsDue, Tells}

-- how far a pass has come: the table, the graph, and the steps that were taken
pub record Progress : Type 0 where
  pub table : Tabled
  pub graph : Graph
  pub steps : ℕ

abbrev pub pass : Tabled → Graph → ℕ → Progress
pass t g n = record { table = t; graph = g; steps = n }

-- the sets of the layer
abbrev pub sets_of : Progress → List (List ℕ)
sets_of P = map (λ (x : Source). set_at P.table.sets x.set) (sources P.graph)

-- the word reaches the set
abbrev pub Reaches : Progress → List ℕ → Word → Type 0
Reaches P set w = (x : Source) × Has (sources P.graph) x × (set_at P.table.sets x.set ≡ set) × Has x.words w

-- the sets of the layer are sets of the table
abbrev pub AreGiven : Tabled → Graph → Type 0
AreGiven t g = (x : Source) → Has (sources g) x → x.set < length t.sets

-- each of them has one edge on the byte, without marks and to itself
abbrev pub AllStayOn : Tabled → Graph → ℕ → Type 0
AllStayOn t g b = (x : Source) → Has (sources g) x → Stays t x.set b

-- each of them leads over these bytes to itself alone, without marks
abbrev pub AllLeadBack : Tabled → Graph → List ℕ → Type 0
AllLeadBack t g bytes = (x : Source) → Has (sources g) x → LeadsBack t.graph (set_at t.sets x.set) bytes

-- between two places: no source of the layer has been stepped, and all that it has stands before `at`
pub record IsReadyAt (t : Tabled) (g : Graph) (at : ℕ) : Type 0 where
  pub sound : IsTabled t
  pub given : AreGiven t g
  pub apart : AreDistinct (numbers_in g.layer)
  pub fresh : (g.stepped ≡ 0) × (g.next ≡ [])
  pub past : IsPast (sources g) at

-- what a caller knows between two places: no source of the layer has been stepped, its sets are sets of the table, and
-- all that it has stands before `at`
pub record IsOpen (t : Tabled) (g : Graph) (at : ℕ) : Type 0 where
  pub fresh : (g.stepped ≡ 0) × (g.next ≡ [])
  pub given : AreGiven t g
  pub past : IsPast (sources g) at

-- the table has these sets and look-ups more, or some of them
pub record HasGrown (old new : Tabled) (more_sets : List (List ℕ)) (more_look_ups : List LookUp) : Type 0 where
  pub graph : new.graph ≡ old.graph
  pub limit : new.limit ≡ old.limit
  pub kept : (more : List (List ℕ)) × (old.sets ++ more ≡ new.sets)
  pub sets : (set : List ℕ) → Has new.sets set → Has old.sets set ⊎ Has more_sets set
  pub look_ups : (look_up : LookUp) → Has new.look_ups look_up → Has old.look_ups look_up ⊎ Has more_look_ups look_up
  pub stay : (look_up : LookUp) → Has old.look_ups look_up → Has new.look_ups look_up

-- the table keeps what it holds
pub record HasKept (old new : Tabled) : Type 0 where
  pub graph : new.graph ≡ old.graph
  pub limit : new.limit ≡ old.limit
  pub sets : (more : List (List ℕ)) × (old.sets ++ more ≡ new.sets)
  pub sound : IsTabled new

-- the words that reach a set are those that reached one before, with those of a choice of edges behind them
abbrev pub Extends : Automaton → List ReadingPlace → Progress → Progress → Type 0
Extends A ps P Q =
    (set : List ℕ) (w : Word) →
    Reaches Q set w ↔ ((from : List ℕ) × (u v : Word) × Reaches P from u × Leads A ps from v set × (u ++ v ≡ w))

-- the places have been read: what they ask for is told, but where it may be passed over
pub record HasRead (A : Automaton) (ps : List ReadingPlace) (P Q : Progress) : Type 0 where
  pub words : Extends A ps P Q
  pub sets : (set : List ℕ) → Has (sets_of Q) set ↔ Has (sets_after A (sets_of P) (asks ps)) set
  pub table : HasGrown P.table Q.table (sets_met A (sets_of P) (asks ps)) (look_ups_asked A (sets_of P) (asks ps))
  pub tells : (look_up : LookUp) → IsDue A (sets_of P) ps look_up → Tells Q.table look_up
  -- the sizes of the layers and of the graph pay for the steps, with 6 for each edge and the automaton's size
  -- for each look-up that was made
  pub steps :
      Q.steps + length Q.graph.cells + 3 * length (sources Q.graph) + length P.table.look_ups * size A
      ≤ P.steps + length P.graph.cells + 3 * length (sources P.graph) + 6 * edges_read A (sets_of P) (asks ps) + length Q.table.look_ups * size A
  pub cells : length Q.graph.cells ≤ length P.graph.cells + edges_read A (sets_of P) (asks ps)
  -- only making edges let the number of live cells rise
  pub rise : length Q.graph.cells ≤ length P.graph.cells + making_read A (sets_of P) (asks ps)

-- what is left where reading was given up
pub record Stop : Type 0 where
  pub table : Tabled
  pub steps : ℕ

abbrev pub stop : Tabled → ℕ → Stop
stop t n = record { table = t; steps = n }

-- reading was given up: the table keeps what it holds, and the look-ups that were made then paid for the steps, with so much
-- for the edges
pub record StopsWithin (A : Automaton) (ps : List ReadingPlace) (P : Progress) (more : List (List ℕ)) (for_edges : ℕ) (S : Stop) : Type 0 where
  pub table : HasGrown P.table S.table more (look_ups_asked A (sets_of P) (asks ps))
  pub sound : IsTabled S.table
  pub made : List LookUp
  pub distinct : AreDistinct made
  pub few : length made ≤ length S.table.look_ups
  pub look_ups : (look_up : LookUp) → Has made look_up → Has P.table.look_ups look_up ⊎ Has (look_ups_asked A (sets_of P) (asks ps)) look_up
  pub steps :
      S.steps + length P.table.look_ups * size A
      ≤ P.steps + length P.graph.cells + 3 * length (sources P.graph) + for_edges + length made * size A

-- with 6 for each edge where places are read
abbrev pub HasStopped : Automaton → List ReadingPlace → Progress → Stop → Type 0
HasStopped A ps P S = StopsWithin A ps P (sets_met A (sets_of P) (asks ps)) (6 * edges_read A (sets_of P) (asks ps)) S

-- and 3 where it was one place, whose sets alone are made
abbrev pub HasStoppedAt : Automaton → ReadingPlace → Progress → Stop → Type 0
HasStoppedAt A p P S = StopsWithin A (p ∷ []) P (sets_on A (sets_of P) p.ask) (3 * edges_read A (sets_of P) (p.ask ∷ [])) S

-- what sets and look-ups weigh, each of them once
abbrev pub weight_of : Automaton → List (List ℕ) → List LookUp → ℕ
weight_of A sets look_ups = sets_weight (once bytes_eq sets) + look_ups_weight A (once look_up_same look_ups)

-- more than the limit, and no more than the table held with these sets and look-ups
pub record IsExcess (t : Tabled) (sets : List (List ℕ)) (look_ups : List LookUp) (weight : ℕ) : Type 0 where
  pub more : t.limit < weight
  pub most : weight ≤ weight_of t.graph (t.sets ++ sets) (t.look_ups ++ look_ups)

-- the sources of the layer have been ended at n, by edges to the set 0
pub record HasEnded (A : Automaton) (n : ℕ) (P Q : Progress) : Type 0 where
  pub words :
      (w : Word) →
      HasWord (targets Q.graph) 0 w ↔ ((from : List ℕ) × (u v : Word) × Reaches P from u × Leads A (end_at n ∷ []) from v [] × (u ++ v ≡ w))
  pub every : Q.graph.stepped ≡ length (sources P.graph)
  pub table : HasGrown P.table Q.table [] (look_ups_asked A (sets_of P) (ended ∷ []))
  pub holds : (look_up : LookUp) → Has (look_ups_asked A (sets_of P) (ended ∷ [])) look_up → Has Q.table.look_ups look_up
  pub sound : IsTabled Q.table
  pub steps :
      Q.steps + length Q.graph.cells + length P.table.look_ups * size A
      ≤ P.steps + length P.graph.cells + 3 * length (sources P.graph) + 3 * edges_read A (sets_of P) (ended ∷ []) + length Q.table.look_ups * size A
  pub cells : length Q.graph.cells ≤ length P.graph.cells + edges_read A (sets_of P) (ended ∷ [])
