-- A piece more of a document that is followed from a base: what it has behind it, and the words that are given.
use Rattle.std.specs.Prelude.{◌≡◌, ℕ, ◌↔◌, List, [], ◌∷◌, ◌++◌, length, Some}
use Rattle.span_core.specs.Lists.{Has}
use Rattle.node_arena.specs.Words.{Word}
use Rattle.output_graph.specs.Listed.{Lists}
use Rattle.output_graph.specs.Rows.{rows}
use Rattle.enumerator.specs.Enumeration.{IsWordOfRow}
use Rattle.one_pass.specs.SoFar.{SoFar}
use Rattle.growing_document.specs.Grown.{AcceptsRows}
use Rattle.followed_document.specs.Followed.{AreFlags, Followed, IsBehind, IsNextWord, rule_of, with_piece}
use Rattle.followed_document.specs.ReadPiece.{HasReadPiece}
use Rattle.followed_document.specs.Settling.{AllBytes}

-- it is behind one piece more, and the rows listed are those of exactly the words that are given with it, counted from the base
pub record TakesPiece (g : Followed) (ps : List (List ℕ)) (piece : List ℕ) (s : SoFar) (lists : Lists) : Type 0 where
  pub behind : IsBehind (ps ++ piece ∷ []) (with_piece g piece s)
  pub given : (u : Word) → Has (rows lists.store lists.first) u ↔ IsNextWord g ps piece g.base u
  pub of_rows : (u : Word) → Has (rows lists.store lists.first) u → IsWordOfRow (length g.automaton.names) u

-- so it is where the reading stands at the end of the window, reads the piece, and settles
abbrev pub PieceLaw : Type 0
PieceLaw =
    (g : Followed) (ps : List (List ℕ)) (r s : SoFar) (piece : List ℕ) (n m : ℕ) (lists : Lists) →
    AcceptsRows g.automaton → AreFlags g.automaton.graph g.unspent g.lasting → IsBehind ps g → g.reading ≡ Some r → r.table.graph ≡ g.automaton.graph →
    r.at ≡ length g.window → AllBytes piece → HasReadPiece (rule_of g) r n piece s lists m → TakesPiece g ps piece s lists
