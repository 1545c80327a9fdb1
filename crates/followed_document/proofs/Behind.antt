-- What a document that is followed has behind a piece more.
use Rattle.std.proofs.Common.{◌≡◌, ℕ, ◌+◌, List, [], ◌∷◌, ◌++◌, length, Some, refl, sym, ap, subst, arith, ◌∙◌, length-append, append_assoc}
use Rattle.std.specs.Prelude.{◌↔◌}
use Rattle.std.proofs.lemmas.List.{append-nil}
use Rattle.span_core.specs.Lists.{Has}
use Rattle.marked_automaton.specs.Automaton.{Automaton}
use Rattle.node_arena.specs.Words.{Word}
use Rattle.output_graph.specs.Listed.{Lists}
use Rattle.output_graph.specs.Rows.{rows}
use Rattle.one_pass.specs.Passes.{Reaches}
use Rattle.one_pass.specs.Places.{Leads, ReadingPlace, bytes_at}
use Rattle.one_pass.specs.Readings.{come_to}
use Rattle.one_pass.specs.SoFar.{SoFar}
use Rattle.followed_document.specs.Followed.{AreFlags, Followed, IsBehind, IsLayerFrom, IsNextWord, rule_of, with_piece}
use Rattle.followed_document.specs.ReadPiece.{HasReadPiece}
use Rattle.followed_document.specs.Settling.{AllBytes, joined, shift}
use Rattle.followed_document.proofs.Accepting.{rule_ends}
use Rattle.followed_document.proofs.Counted.{ReachesFrom, given_on, layer_on, read_from, shift_same}
use Rattle.followed_document.proofs.Following.{bytes_both}

pub joined_more : (ps : List (List ℕ)) (p : List ℕ) → joined (ps ++ p ∷ []) ≡ joined ps ++ p
joined_more [] p = append-nil p
joined_more (q ∷ ps) p = ap (λ d. q ++ d) (joined_more ps p) ∙ sym (append_assoc q (joined ps) p)

-- the window ends where the pieces do
pub window_ends : (ps : List (List ℕ)) (g : Followed) → IsBehind ps g → length g.window + g.base ≡ length (joined ps)
window_ends ps g b = omega (arith, b.many, ap length b.window, length-append b.forgotten g.window)

module _ (g : Followed) (flags : AreFlags g.automaton.graph g.unspent g.lasting) (r : SoFar) (is : g.reading ≡ Some r) (same : r.table.graph ≡ g.automaton.graph)
    (stands : r.at ≡ length g.window) (piece : List ℕ) (n : ℕ) (s : SoFar) (lists : Lists) (m : ℕ) (x : HasReadPiece (rule_of g) r n piece s lists m)
    (ps : List (List ℕ)) (b : IsBehind ps g) where
  abbrev A : Automaton
  A = g.automaton.graph

  abbrev mid : SoFar
  mid = x.middle

  layer : IsLayerFrom A (rule_of g) ps g.base (come_to r 0)
  layer = rw is at b.layer

  place : bytes_at (r.at + g.base) piece ≡ bytes_at (length (joined ps)) piece
  place = let e : r.at + g.base ≡ length (joined ps) = omega (arith, stands, window_ends ps g b) in ap (λ i. bytes_at i piece) e

  abbrev Comes : List ℕ → Word → Type 0
  Comes set w =
      (from : List ℕ) × (u v : Word) × ReachesFrom g.base (come_to r 0) from u × Leads A (bytes_at (length (joined ps)) piece) from v set × (u ++ v ≡ w)

  read_on : (set : List ℕ) (w : Word) → ReachesFrom g.base (come_to mid 0) set w ↔ Comes set w
  read_on set w =
      subst
      (λ (qs : List ReadingPlace). ReachesFrom g.base (come_to mid 0) set w
      ↔ ((from : List ℕ) × (u v : Word) × ReachesFrom g.base (come_to r 0) from u × Leads A qs from v set × (u ++ v ≡ w)))
      place
      (read_from A g.base r.at piece (come_to r 0) (come_to mid 0)
      (subst (λ (B : Automaton). (set : List ℕ) (w : Word) → Reaches (come_to mid 0) set w
      ↔ ((from : List ℕ) × (u v : Word) × Reaches (come_to r 0) from u × Leads B (bytes_at r.at piece) from v set × (u ++ v ≡ w)))
      same x.read.read.words) set w)

  left : (set : List ℕ) (w : Word) → ReachesFrom g.base (come_to s 0) set w ↔ (ReachesFrom g.base (come_to mid 0) set w × (rule_of g set → ⊥))
  left set w = (
    λ h. (let k = (x.settled.kept set h.0).0 h.1 in ((h.0, k.0, h.2), k.1)),
    λ h. (h.0.0, (x.settled.kept set h.0.0).1 (h.0.1, h.1), h.0.2),
  )

  pub behind_piece : AllBytes piece → IsBehind (ps ++ piece ∷ []) (with_piece g piece s)
  behind_piece bytes = record {
    bytes = rw (joined_more ps piece) (bytes_both (joined ps) piece b.bytes bytes);
    forgotten = b.forgotten;
    many = b.many;
    window = sym (append_assoc b.forgotten g.window piece) ∙ (ap (λ d. d ++ piece) b.window ∙ sym (joined_more ps piece));
    layer = layer_on A (rule_of g) (rule_ends g flags) ps piece (ReachesFrom g.base (come_to r 0)) (ReachesFrom g.base (come_to mid 0)) (ReachesFrom g.base (come_to s 0))
        layer read_on left;
  }

  pub given_there : (u : Word) → Has (rows lists.store lists.first) u ↔ IsNextWord g ps piece g.base u
  given_there u =
      let all = given_on A (rule_of g) (rule_ends g flags) ps piece (ReachesFrom g.base (come_to r 0)) (ReachesFrom g.base (come_to mid 0)) (ReachesFrom g.base (come_to s 0))
      layer read_on left (shift g.base u) in (
        λ h. (let k = (x.settled.given u).0 h in all.0 (k.0, (u, k.1, refl), k.2)),
        λ h. (let k = all.1 h in
            (x.settled.given u).1 (k.0, subst (λ (v : Word). Reaches (come_to mid 0) k.0 v) (shift_same g.base k.1.0 u k.1.2) k.1.1, k.2)),
      )
