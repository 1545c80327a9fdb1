-- A piece more is read, and the layer is settled.
use Rattle.std.proofs.Common.{◌≡◌, ℕ, ◌+◌, List, [], ◌∷◌, ◌++◌, length, sym, ap, subst, arith}
use Rattle.std.specs.Prelude.{◌↔◌}
use Rattle.marked_automaton.specs.Automaton.{Automaton}
use Rattle.marked_automaton.specs.Reach.{IsFlagged}
use Rattle.automaton_reading.specs.Reading.{set_of}
use Rattle.node_arena.specs.Words.{Word}
use Rattle.one_pass.specs.Passes.{HasRead, Progress, Reaches}
use Rattle.one_pass.specs.Places.{Leads, ReadingPlace, bytes_at}
use Rattle.one_pass.specs.Readings.{come_to}
use Rattle.one_pass.specs.Settling.{IsSettledBy, Rule}
use Rattle.followed_document.specs.Laws.{IsGivenNext}
use Rattle.followed_document.specs.Settling.{LeadsPast, Settles, joined}
use Rattle.followed_document.specs.Steps.{IsLayerPast, StepLaw}
use Rattle.followed_document.proofs.Following.{more_past, past_more}
use Rattle.followed_document.proofs.Lasting.{lasting_ends}

module _ (A : Automaton) (G : Rule) (ends : (set : List ℕ) → G set → Settles A set) (ps : List (List ℕ)) (p : List ℕ) (P Q R : Progress) (layer : IsLayerPast A G ps P)
    (read : HasRead A (bytes_at (length (joined ps)) p) P Q)
    (left : (set : List ℕ) (w : Word) → Reaches R set w ↔ (Reaches Q set w × ¬ G set)) where
  abbrev start : List ℕ
  start = set_of A.starts

  at_piece : bytes_at (length (joined ps)) p ≡ bytes_at (0 + length (joined ps)) p
  at_piece = let e : length (joined ps) ≡ 0 + length (joined ps) = omega arith in ap (λ j. bytes_at j p) e

  pub layer_more : IsLayerPast A G (ps ++ p ∷ []) R
  layer_more set w = (there, back)
    where
      there : Reaches R set w → LeadsPast A G 0 (ps ++ p ∷ []) start w set
      there r =
          let q = (left set w).0 r in
          let x = (read.words set w).0 q.0 in
          more_past A G ends 0 ps p start w set
          (x.0, x.1, x.2, (layer x.0 x.1).0 x.3, subst (λ (qs : List ReadingPlace). Leads A qs x.0 x.2 set) at_piece x.4, q.1, x.5)

      back : LeadsPast A G 0 (ps ++ p ∷ []) start w set → Reaches R set w
      back h =
          let x = past_more A G ends 0 ps p start w set h in
          (left set w).1 (
            (read.words set w).1
                (x.0, x.1, x.2, (layer x.0 x.1).1 x.3, subst (λ (qs : List ReadingPlace). Leads A qs x.0 x.2 set) (sym at_piece) x.4, x.6),
            x.5,
          )

  pub given_more : (w : Word) → ((set : List ℕ) × Reaches Q set w × G set) ↔ IsGivenNext A G ps p w
  given_more w = (
    λ h. (let x = (read.words h.0 w).0 h.1 in (x.0, h.0, x.1, x.2, (layer x.0 x.1).0 x.3, x.4, h.2, x.5)),
    λ h. (h.1, (read.words h.1 w).1 (h.0, h.2, h.3, (layer h.0 h.2).1 h.4, h.5, h.7), h.6),
  )

pub step_law : StepLaw
step_law A unspent lasting ps p P r s n m lists lasts layer read settled =
    let G : Rule = IsSettledBy unspent lasting in
    let ends : (set : List ℕ) → G set → Settles A set = λ set given. lasting_ends A (IsFlagged lasting) lasts set given.1 in
    let given = given_more A G ends ps p P (come_to r n) (come_to s m) layer read settled.kept in
    record {
      layer = layer_more A G ends ps p P (come_to r n) (come_to s m) layer read settled.kept;
      given = λ w. (λ h. (given w).0 ((settled.given w).0 h), λ h. (settled.given w).1 ((given w).1 h));
    }
