-- How far a document that comes has been read.
use Rattle.std.specs.Prelude.{◌≡◌, ℕ, ◌≤◌, ◌<◌, ◌^◌, List, length}
use Rattle.marked_automaton.specs.Automaton.{Automaton}
use Rattle.place_automaton.specs.Atom.{AreBytes}
use Rattle.spanner_engine.specs.Coming.{HasReadAll, IsRefusedFor}
use Rattle.spanner_engine.specs.declared.coming.Stage.{Stage}
use Rattle.spanner_engine.specs.declared.coming.Stage.TheVariants.{Going, Refused, Past}

-- a reading that goes on stands where the bytes end
abbrev pub IsThere : Stage → ℕ → Type 0
IsThere (Going g) seen = (g.reading.at ≡ seen) × (seen ≤ 2 ^ 28)
IsThere (Refused e) seen = Unit {0}
IsThere Past seen = Unit {0}

-- these bytes came, when the counter stands at n
abbrev pub IsTakenBy : Automaton → ℕ → ℕ → List ℕ → Stage → ℕ → ℕ → Type 0
IsTakenBy A limit before d (Going g) seen n = AreBytes d × (length d ≡ seen) × HasReadAll A limit before d g.reading n
IsTakenBy A limit before d (Refused e) seen n = AreBytes d × (length d ≡ seen) × IsRefusedFor A limit before d n e
IsTakenBy A limit before d Past seen n = 2 ^ 28 < length d
