-- Answers, and where they stand.
use Rattle.std.specs.Prelude.{◌≡◌, ℕ, suc, ◌+◌, ◌-◌, ◌*◌, ◌^◌, ◌<◌, ◌≤◌, ◌⊎◌, List, [], ◌∷◌, ◌++◌, replicate, map, length, take, drop, slice_get, slice_index, slice_index_or, Some, IsTrue, ◌↔◌}
use Rattle.std.specs.Ordering.{nat_cmp}
use Rattle.std.specs.FinSet as bytes
use Rattle.span_core.specs.declared.TheConstants.{MOST_VARIABLES}
use Rattle.span_core.specs.declared.edge.Edge.{Edge}
use Rattle.span_core.specs.Lists.{AreDistinct, Has}
use Rattle.marked_automaton.specs.Automaton.{Automaton, Marked, IsMarked}
use Rattle.automaton_reading.specs.Reading.{Question, LookUp, byte_read, rest_taken, ended, Reach, edges, set_of}
use Rattle.set_table.specs.declared.answer.TableQuestion.{TableQuestion}
use Rattle.set_table.specs.declared.answer.TableQuestion.TheVariants.{Byte, Rest, Ends}
use Rattle.set_table.specs.declared.answer.Answer.{Answer}
use Rattle.set_table.specs.declared.lists.Added.{Added}
use Rattle.set_table.specs.declared.lists.Lists.{Lists}
use Rattle.set_table.specs.declared.store.Store.{Store}
use Rattle.numbered_lists.specs.Numbered.{IsLongerBy, set_at, with_sets}
use Rattle.set_table.specs.Runs.{AreIndexed}
use Rattle.set_table.specs.Tabled.{HasStayed, Tabled, IsStateSet, Stays, StaysOn, edge_named, look_up, look_ups_weight, one_edge, reached, sets_weight}

abbrev pub question_of : TableQuestion → Question
question_of (Byte b) = byte_read b
question_of Rest = rest_taken
question_of Ends = ended

abbrev pub IsQuestion : TableQuestion → Type 0
IsQuestion (Byte b) = b < 256
IsQuestion Rest = Unit {0}
IsQuestion Ends = Unit {0}

-- what was asked, by the set itself: a set's number stays inside
abbrev pub look_up_of : List (List ℕ) → Answer → LookUp
look_up_of sets x = record { set = set_at sets x.set; ask = question_of x.question }

abbrev pub look_ups_of : List (List ℕ) → List Answer → List LookUp
look_ups_of sets xs = map (look_up_of sets) xs

-- the place of a question among those of a set
abbrev pub place_of : TableQuestion → ℕ
place_of (Byte b) = b
place_of Rest = 256
place_of Ends = 257

abbrev pub place_in : ℕ → TableQuestion → ℕ
place_in k q = 272 * k + place_of q

-- numbers with more that are 0, so many in all
abbrev pub with_places : ℕ → List ℕ → List ℕ
with_places n numbers = numbers ++ replicate (n - length numbers) 0

abbrev pub end_reach : ℕ → Reach
end_reach m = record { marks = m; to = [] }

abbrev pub part : {X : Type 0} → ℕ → ℕ → List X → List X
part first count xs = take count (drop first xs)

-- an answer, in the words of reading
abbrev pub answer_in : List (List ℕ) → List Edge → List ℕ → TableQuestion → ℕ → ℕ → List Reach
answer_in sets edges ends (Byte b) first count = map (edge_named sets) (part first count edges)
answer_in sets edges ends Rest first count = map (edge_named sets) (part first count edges)
answer_in sets edges ends Ends first count = map end_reach (part first count ends)

-- how many there are of what a question is answered by
abbrev pub room : List Edge → List ℕ → TableQuestion → ℕ
room edges ends (Byte b) = length edges
room edges ends Rest = length edges
room edges ends Ends = length ends

pub record IsAnswer (A : Automaton) (sets : List (List ℕ)) (es : List Edge) (ends : List ℕ) (x : Answer) : Type 0 where
  pub set : x.set < length sets
  pub question : IsQuestion x.question
  pub within : x.first + x.count ≤ room es ends x.question
  pub is : answer_in sets es ends x.question x.first x.count ≡ edges A (set_at sets x.set) (question_of x.question)

-- what a table holds
pub record IsHeld (A : Automaton) (sets : List (List ℕ)) (answers : List Answer) (es : List Edge) (ends numbers : List ℕ) (w : ℕ) : Type 0 where
  pub start : slice_get sets 0 ≡ Some (set_of A.starts)
  pub states : (s : List ℕ) → Has sets s → IsStateSet A s
  pub apart : AreDistinct sets
  pub answered : (x : Answer) → Has answers x → IsAnswer A sets es ends x
  pub targets : (e : Edge) → Has es e → e.to < length sets
  pub places : length numbers ≡ 272 * length sets
  pub found : (k : ℕ) (q : TableQuestion) (i : ℕ) → k < length sets → IsQuestion q → slice_index numbers (place_in k q) ≡ suc i →
      (x : Answer) × (slice_get answers i ≡ Some x) × (x.set ≡ k) × (x.question ≡ q)
  pub there : (i : ℕ) (x : Answer) → slice_get answers i ≡ Some x → slice_index numbers (place_in x.set x.question) ≡ suc i
  pub weighs : w ≡ sets_weight sets + look_ups_weight A (look_ups_of sets answers)
  pub few : length sets + length answers + length es + length ends ≤ w

abbrev pub tabled : Automaton → ℕ → Store → Tabled
tabled A limit s = record { graph = A; limit = limit; sets = s.lists.sets; look_ups = look_ups_of s.lists.sets s.answers.items }

-- this was not asked of the set of this number
abbrev pub IsNotAsked : Tabled → ℕ → TableQuestion → Type 0
IsNotAsked t k question = ¬ Has t.look_ups (look_up t k (question_of question))

abbrev pub Holds : Automaton → Store → ℕ → Type 0
Holds A s w = IsHeld A s.lists.sets s.answers.items s.lists.edges.items s.lists.ends.items s.numbers w

-- the answer is the one edge without marks to its own set
abbrev pub LeadsBack : List Edge → Answer → Type 0
LeadsBack es x = part x.first x.count es ≡ one_edge x.set ∷ []

-- for each set that has stayed on a byte, all bytes on which it stays
pub record AreStays (t : Tabled) (stays : List (bytes.FinSet nat_cmp)) : Type 0 where
  pub count : length stays ≡ length t.sets
  pub are : (k b : ℕ) → k < length t.sets → IsTrue (bytes.contains (slice_index_or stays k bytes.empty) b) ↔ (HasStayed t k × Stays t k b)

-- what is noted of an answer's set: all bytes on which it stays, where this is one that was not noted before, and else the same
abbrev pub IsNoted : Automaton → List (List ℕ) → List Edge → Answer → bytes.FinSet nat_cmp → bytes.FinSet nat_cmp → Type 0
IsNoted A sets es x old new =
    ((c : ℕ) × (x.question ≡ Byte c) × LeadsBack es x × ((b : ℕ) → IsTrue (bytes.contains new b) ↔ StaysOn A (set_at sets x.set) b))
    ⊎ ((new ≡ old) × ((b : ℕ) → x.question ≡ Byte b → LeadsBack es x → IsTrue (bytes.contains old b)))

-- and that of what is held
abbrev pub IsNotedIn : Automaton → Store → Answer → bytes.FinSet nat_cmp → Type 0
IsNotedIn A s x new = IsNoted A s.lists.sets s.lists.edges.items x (slice_index_or s.stays.items x.set bytes.empty) new

-- what is true inside of a table
pub record IsSound (M : Marked) (limit w : ℕ) (s : Store) : Type 0 where
  pub marked : IsMarked M
  pub names : length M.names ≤ MOST_VARIABLES
  pub small : limit ≤ 100000000
  pub light : w ≤ limit
  pub held : Holds M.graph s w
  pub stays : AreStays (tabled M.graph limit s) s.stays.items
  pub indexed : AreIndexed M.graph.ways s.lists.runs

-- what is there once an answer is made, before it is kept
pub record Adds (A : Automaton) (old new : Lists) (x : Answer) (w : ℕ) : Type 0 where
  pub known : new.sets ≡ with_sets old.sets (reached A (set_at old.sets x.set) (question_of x.question))
  pub edges_longer : IsLongerBy old.edges.items new.edges.items
  pub ends_longer : IsLongerBy old.ends.items new.ends.items
  pub within : x.first + x.count ≡ room new.edges.items new.ends.items x.question
  pub is : answer_in new.sets new.edges.items new.ends.items x.question x.first x.count ≡ edges A (set_at old.sets x.set) (question_of x.question)
  pub targets : (e : Edge) → Has new.edges.items e → Has old.edges.items e ⊎ (e.to < length new.sets)
  pub weighs : sets_weight new.sets + (1 + length (edges A (set_at old.sets x.set) (question_of x.question))) ≡ sets_weight old.sets + w
  pub few :
      length new.edges.items + length new.ends.items + 1
      ≤ length old.edges.items + length old.ends.items + (1 + length (edges A (set_at old.sets x.set) (question_of x.question)))
  pub small : w ≤ 2 ^ 63

-- the answer to this question of this set was added
abbrev pub HasAdded : Automaton → Lists → Lists → ℕ → TableQuestion → Added → Type 0
HasAdded A old new k q added = Adds A old new (record { set = k; question = q; first = added.first; count = added.count }) added.weight

-- the lists, and then more
pub record AreLonger (old new : Lists) : Type 0 where
  pub sets : IsLongerBy old.sets new.sets
  pub edges : IsLongerBy old.edges.items new.edges.items
  pub ends : IsLongerBy old.ends.items new.ends.items

-- what a set is asked with: an automaton of few variables, and few sets and edges
pub record IsReady (M : Marked) (lists : Lists) (k : ℕ) : Type 0 where
  pub marked : IsMarked M
  pub names : length M.names ≤ MOST_VARIABLES
  pub set : k < length lists.sets
  pub states : (s : List ℕ) → Has lists.sets s → IsStateSet M.graph s
  pub few_sets : length lists.sets ≤ 100000000
  pub few_edges : length lists.edges.items ≤ 100000000
  pub few_ends : length lists.ends.items ≤ 100000000
  pub indexed : AreIndexed M.graph.ways lists.runs
