-- What is given, piece by piece.
use Rattle.std.specs.Prelude.{◌≡◌, ℕ, ◌+◌, ◌↔◌, List, [], ◌++◌, length}
use Rattle.marked_automaton.specs.Automaton.{Automaton, Marked}
use Rattle.automaton_reading.specs.Reading.{set_of}
use Rattle.node_arena.specs.Words.{Word}
use Rattle.enumerator.specs.Enumeration.{SpanRow}
use Rattle.span_core.specs.Blocks.{IsBlockList, IsRowOfBlocks}
use Rattle.marked_automaton.specs.Automaton.{Accepts}
use Rattle.settled_states.specs.States.{AreLasting, AreSpent, Told}
use Rattle.span_core.specs.Lists.{Has}
use Rattle.one_pass.specs.Places.{Leads, bytes_at, word_through}
use Rattle.one_pass.specs.Settling.{IsSettledSet, Rule}
use Rattle.std.specs.Prelude.{Bool, Option, None}
use Rattle.std.specs.List.{All}
use Rattle.span_core.specs.declared.span.Span.{Span}
use Rattle.growing_document.specs.Grown.{AreBytes}
use Rattle.followed_document.specs.Settling.{AllBytes, IsGivenIn, LeadsPast, Settles, joined, shift, whole}

-- what is left in the layer behind the pieces leads on to a set that is given: the words that are given with one piece more
abbrev pub IsGivenNext : Automaton → Rule → List (List ℕ) → List ℕ → Word → Type 0
IsGivenNext A G ps p w =
    (mid to : List ℕ) × (u v : Word) × LeadsPast A G 0 ps (set_of A.starts) u mid × Leads A (bytes_at (length (joined ps)) p) mid v to × G to × (u ++ v ≡ w)

-- or at the end of the document
abbrev pub IsGivenLast : Automaton → Rule → List (List ℕ) → List ℕ → Word → Type 0
IsGivenLast A G ps p w =
    (mid : List ℕ) × (u v : Word) × LeadsPast A G 0 ps (set_of A.starts) u mid × Leads A (whole (length (joined ps)) p) mid v [] × (u ++ v ≡ w)

-- the word leads over the document to a set that is given
abbrev pub IsSettledBehind : Automaton → Rule → List ℕ → Word → Type 0
IsSettledBehind A G d w = (to : List ℕ) × Leads A (bytes_at 0 d) (set_of A.starts) w to × G to

-- it is accepted there
abbrev pub IsAcceptedAt : Automaton → List ℕ → Word → Type 0
IsAcceptedAt A d w = Leads A (whole 0 d) (set_of A.starts) w []

-- was given with an earlier piece
abbrev pub WasGiven : Automaton → Rule → List (List ℕ) → Word → Type 0
WasGiven A G ps w = IsGivenIn A G 0 ps (set_of A.starts) w

-- the words of a piece are those that are settled then and were not given before; at the end, those that are accepted
pub record FollowLaw (A : Automaton) (G : Rule) : Type 0 where
  pub next : (ps : List (List ℕ)) (p : List ℕ) (w : Word) → AllBytes (joined ps) → AllBytes p →
      IsGivenNext A G ps p w ↔ (IsSettledBehind A G (joined ps ++ p) w × ¬ WasGiven A G ps w)
  pub last : (ps : List (List ℕ)) (p : List ℕ) (w : Word) → AllBytes (joined ps) → AllBytes p →
      IsGivenLast A G ps p w ↔ (IsAcceptedAt A (joined ps ++ p) w × ¬ WasGiven A G ps w)

-- what was given is accepted of every longer document
abbrev pub StaysGiven : Automaton → Rule → Type 0
StaysGiven A G = (ps : List (List ℕ)) (p : List ℕ) (w : Word) → AllBytes (joined ps) → AllBytes p → WasGiven A G ps w → IsAcceptedAt A (joined ps ++ p) w

-- the word of a row that has a span for each variable
abbrev pub IsFullWord : ℕ → Word → Type 0
IsFullWord v w = IsBlockList w × ((row : SpanRow) × IsRowOfBlocks v w row × All (λ (s : Option Span). s ≡ None → ⊥) row)

-- no word of such a row goes on as that of another
abbrev pub FullWordsEnd : Type 0
FullWordsEnd = (v : ℕ) (w x : Word) → IsFullWord v w → IsFullWord v (w ++ x) → x ≡ []

-- every word that the automaton accepts is that of a row over its variables, all of which have a span
abbrev pub AcceptsFullRows : Marked → Type 0
AcceptsFullRows A = (d : List ℕ) → AreBytes d → (w : ℕ → ℕ) → Accepts A.graph d w → IsFullWord (length A.names) (word_through w (length d))

-- so it is where every variable of every row has a span
abbrev pub FollowedLaw : Type 0
FollowedLaw = (A : Marked) → AcceptsFullRows A → FollowLaw A.graph (Settles A.graph)

-- where a piece stands so many positions later, its choices make the same words, so many positions later
abbrev pub ShiftLaw : Type 0
ShiftLaw =
    (A : Automaton) (k i : ℕ) (d from : List ℕ) (w : Word) (to : List ℕ) →
    Leads A (bytes_at (i + k) d) from w to ↔ ((u : Word) × Leads A (bytes_at i d) from u to × (shift k u ≡ w))

-- the words of a settled set are rows for good, and go on to no other: every word that is accepted of the whole is given once, and no other
abbrev pub SettledLaw : Type 0
SettledLaw =
    (A : Automaton) (x y : ℕ → Bool) → AreSpent A (Told x) → AreLasting A (Told y) →
    FollowLaw A (IsSettledSet (Told x) (Told y)) × StaysGiven A (IsSettledSet (Told x) (Told y))
