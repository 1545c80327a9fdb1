-- What a table weighs at the least that a document was read by.
use Rattle.std.specs.Prelude.{◌≡◌, ◌⊎◌, ℕ, ◌+◌, ◌≤◌, Bool, false, not, List, [], ◌∷◌, ◌++◌, map, nat_eq, ◌&&◌, IsTrue}
use Rattle.std.specs.List.{filter}
use Rattle.std.specs.Str.{bytes_eq}
use Rattle.span_core.specs.Lists.{Has}
use Rattle.marked_automaton.specs.Automaton.{Automaton}
use Rattle.automaton_reading.specs.Reading.{LookUp, Question, Reach, byte_read, edges, ended, look_up_same, once, rest_taken, set_of}
use Rattle.set_table.specs.Tabled.{Tabled, look_ups_weight, sets_weight}
use Rattle.one_pass.specs.Places.{ReadingPlace, asks, places, sets_after}
use Rattle.one_pass.specs.Waiting.{LeadsHome}

-- these are one edge, without marks and to the set
abbrev pub is_one_back : List ℕ → List Reach → Bool
is_one_back set [] = false
is_one_back set (e ∷ []) = nat_eq e.marks 0 && bytes_eq e.to set
is_one_back set (e ∷ f ∷ es) = false

-- so are the edges of the set on what is asked, which is a byte
abbrev pub is_asked_back : Automaton → List ℕ → Question → Bool
is_asked_back A set (byte_read b) = is_one_back set (edges A set (byte_read b))
is_asked_back A set rest_taken = false
is_asked_back A set ended = false

-- the look-up is of a byte on which its set stays
abbrev pub leads_back : Automaton → LookUp → Bool
leads_back A r = is_asked_back A r.set r.ask

-- the table tells what is asked: it holds the look-up, or the set, to which the look-up leads back
pub record Tells (t : Tabled) (r : LookUp) : Type 0 where
  pub set : Has t.sets r.set
  pub answer : Has t.look_ups r ⊎ IsTrue (leads_back t.graph r)

-- what a table weighs at the least that tells these: 1 + members of each set, and 1 + edges of each look-up but those of
-- bytes on which a set stays
abbrev pub least_weight : Automaton → List LookUp → ℕ
least_weight A look_ups =
    sets_weight (once bytes_eq (map (λ (r : LookUp). r.set) look_ups))
    + look_ups_weight A (once look_up_same (filter (λ r. not (leads_back A r)) look_ups))

-- the place, with these before and behind it, lies in an interval over which each set that is reached leads back to itself
-- alone, without marks; such a place may be passed over
pub record IsBetween (A : Automaton) (sets : List (List ℕ)) (before : List ReadingPlace) (place : ReadingPlace) (after : List ReadingPlace) : Type 0 where
  pub early : List ReadingPlace
  pub first : List ReadingPlace
  pub last : List ReadingPlace
  pub late : List ReadingPlace
  pub front : early ++ first ≡ before
  pub rest : last ++ late ≡ after
  pub back : (s : List ℕ) → Has (sets_after A sets (asks early)) s → LeadsHome A (first ++ place ∷ last) s

-- the look-up is asked at a place that lies in none: it has to be told
pub record IsDue (A : Automaton) (sets : List (List ℕ)) (ps : List ReadingPlace) (r : LookUp) : Type 0 where
  pub before : List ReadingPlace
  pub place : ReadingPlace
  pub after : List ReadingPlace
  pub split : before ++ place ∷ after ≡ ps
  pub set : Has (sets_after A sets (asks before)) r.set
  pub ask : place.ask ≡ r.ask
  pub apart : ¬ IsBetween A sets before place after

-- what has to be told of reading the document with K weighs no more than this
abbrev pub WeighsWithin : Automaton → List ℕ → (ℕ → Bool) → ℕ → Type 0
WeighsWithin A d K limit =
    (look_ups : List LookUp) → ((r : LookUp) → Has look_ups r → IsDue A (set_of A.starts ∷ []) (places K d 0 false) r) → least_weight A look_ups ≤ limit
