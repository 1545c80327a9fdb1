-- The words that are given are accepted, and so they are those of rows.
use Rattle.std.proofs.Common.{◌≡◌, ℕ, ◌+◌, true, false, List, [], ◌∷◌, ◌++◌, length, sym, ap, subst, arith, ◌∙◌}
use Rattle.std.proofs.lemmas.List.{append-nil}
use Rattle.span_core.proofs.HasLaws.{Has-slice_get}
use Rattle.marked_automaton.specs.Automaton.{Automaton, Marked}
use Rattle.automaton_reading.specs.Reading.{set_of}
use Rattle.automaton_reading.proofs.Determined.{reading_law}
use Rattle.node_arena.specs.Words.{Word}
use Rattle.enumerator.specs.Enumeration.{IsWordOfRow}
use Rattle.one_pass.specs.Places.{Leads, ReadingPlace, bytes_at, end_at, places}
use Rattle.one_pass.proofs.ReadWords.{leads_then, read_words}
use Rattle.growing_document.specs.Grown.{AcceptsRows}
use Rattle.growing_document.proofs.WordsRead.{document_places}
use Rattle.followed_document.specs.Followed.{AreFlags, Followed, IsLastWord, IsNextWord, rule_of}
use Rattle.followed_document.specs.Laws.{FollowLaw, IsAcceptedAt, IsSettledBehind, StaysGiven}
use Rattle.followed_document.specs.Settling.{AllBytes, Settles, joined, no_more, shift, whole}
use Rattle.one_pass.specs.Settling.{Rule}
use Rattle.followed_document.proofs.Following.{bytes_both}
use Rattle.followed_document.proofs.Lasting.{lasting_ends, settled_follow, settled_stays}
use Rattle.followed_document.proofs.ShiftedRows.{word_before}
use Rattle.marked_automaton.specs.Reach.{IsFlagged}

-- what leads to a set that ends is accepted
pub settled_accepted : (A : Automaton) (G : Rule) → ((set : List ℕ) → G set → Settles A set) → (d : List ℕ) (w : Word) → IsSettledBehind A G d w → IsAcceptedAt A d w
settled_accepted A G ends d w h =
    subst (λ (x : Word). IsAcceptedAt A d x) (append-nil w)
    (leads_then A (bytes_at 0 d) (end_at (0 + length d) ∷ []) (set_of A.starts) [] h.0 w [] h.1
    (no_more, ends h.0 h.2, [], append-nil [], (append-nil [], append-nil [])))

-- the word of what is accepted is that of a row
pub accepted_row : (A : Marked) → AcceptsRows A → (d : List ℕ) (w : Word) → AllBytes d → IsAcceptedAt A.graph d w → IsWordOfRow (length A.names) w
accepted_row A accepts d w bytes h =
    let e : whole 0 d ≡ places (λ j. true) d 0 false =
    (let z : 0 + length d ≡ length d = omega arith in ap (λ k. bytes_at 0 d ++ end_at k ∷ []) z) ∙ sym (document_places d false) in
    let x = (read_words A.graph (λ j. true) d w).0 (subst (λ (qs : List ReadingPlace). Leads A.graph qs (set_of A.graph.starts) w []) e h) in
    subst (IsWordOfRow (length A.names)) x.2
    (accepts d (λ i b at. bytes b (Has-slice_get d i b at)) x.0 ((reading_law A.graph d x.0).0 x.1))

module _ (g : Followed) (flags : AreFlags g.automaton.graph g.unspent g.lasting) where
  abbrev A : Automaton
  A = g.automaton.graph

  pub rule_ends : (set : List ℕ) → rule_of g set → Settles A set
  rule_ends set h = lasting_ends A (IsFlagged g.lasting) flags.are_lasting set h.1

  pub rule_follows : FollowLaw A (rule_of g)
  rule_follows = settled_follow A (λ q. IsFlagged g.unspent q → ⊥) (IsFlagged g.lasting) flags.are_spent flags.are_lasting

  pub rule_stays : StaysGiven A (rule_of g)
  rule_stays = settled_stays A (λ q. IsFlagged g.unspent q → ⊥) (IsFlagged g.lasting) flags.are_spent flags.are_lasting

  module _ (ps : List (List ℕ)) (bs : AllBytes (joined ps)) where
    pub next_accepted : (piece : List ℕ) (base : ℕ) (u : Word) → AllBytes piece → IsNextWord g ps piece base u → IsAcceptedAt A (joined ps ++ piece) (shift base u)
    next_accepted piece base u bp h =
        settled_accepted A (rule_of g) rule_ends (joined ps ++ piece) (shift base u)
        ((rule_follows.next ps piece (shift base u) bs bp).0 h).0

    pub last_accepted : (u : Word) → IsLastWord g ps u → IsAcceptedAt A (joined ps) (shift g.base u)
    last_accepted u h =
        subst (λ (d : List ℕ). IsAcceptedAt A d (shift g.base u)) (append-nil (joined ps))
        ((rule_follows.last ps [] (shift g.base u) bs (λ b n. absurd n)).0 h).0

    module _ (accepts : AcceptsRows g.automaton) where
      pub next_row : (piece : List ℕ) (base : ℕ) (u : Word) → AllBytes piece → IsNextWord g ps piece base u → IsWordOfRow (length g.automaton.names) u
      next_row piece base u bp h =
          word_before base (length g.automaton.names) u
          (accepted_row g.automaton accepts (joined ps ++ piece) (shift base u) (bytes_both (joined ps) piece bs bp) (next_accepted piece base u bp h))

      pub last_row : (u : Word) → IsLastWord g ps u → IsWordOfRow (length g.automaton.names) u
      last_row u h =
          word_before g.base (length g.automaton.names) u
          (accepted_row g.automaton accepts (joined ps) (shift g.base u) bs (last_accepted u h))
