-- What the layer has behind the pieces where its words are counted from a base, and what is given with a piece more.
use Rattle.std.proofs.Common.{◌≡◌, ℕ, ◌+◌, List, [], ◌∷◌, ◌++◌, length, refl, sym, ap, ap₂, subst, arith, ◌∙◌}
use Rattle.std.specs.Prelude.{◌↔◌}
use Rattle.marked_automaton.specs.Automaton.{Automaton}
use Rattle.automaton_reading.specs.Reading.{set_of}
use Rattle.node_arena.specs.Words.{Word}
use Rattle.output_graph.specs.Forward.{mark_block}
use Rattle.one_pass.specs.Passes.{Extends, Progress, Reaches}
use Rattle.one_pass.specs.Places.{Leads, ReadingPlace, bytes_at, end_at}
use Rattle.followed_document.specs.Followed.{IsLayerFrom}
use Rattle.followed_document.specs.Laws.{IsGivenLast, IsGivenNext}
use Rattle.followed_document.specs.Settling.{LeadsPast, Settles, joined, shift, whole}
use Rattle.one_pass.specs.Settling.{Rule}
use Rattle.followed_document.proofs.Following.{more_past, past_more}
use Rattle.followed_document.proofs.Shifting.{earlier, later, shift_append, shift_block}

-- ---- shifted words are told apart

-- a block so many positions later
abbrev moved : ℕ → ℕ × ℕ → ℕ × ℕ
moved k b = (b.0 + k, b.1)

moved_same : (k : ℕ) (a b : ℕ × ℕ) → moved k a ≡ moved k b → a ≡ b
moved_same k a b e =
    let place : a.0 + k ≡ b.0 + k = ap (λ (q : ℕ × ℕ). q.0) e in
    let there : a.0 ≡ b.0 = omega (arith, place) in
    ap₂ (λ (m n : ℕ). let q : ℕ × ℕ = (m, n) in q) there (ap (λ (q : ℕ × ℕ). q.1) e)

pub shift_same : (k : ℕ) (u v : Word) → shift k u ≡ shift k v → u ≡ v
shift_same k [] [] e = refl
shift_same k [] (b ∷ v) e = absurd (none e)
  where
    none : [] ≡ shift k (b ∷ v) → ⊥
    none e = cc
shift_same k (a ∷ u) [] e = absurd (none e)
  where
    none : shift k (a ∷ u) ≡ [] → ⊥
    none e = cc
shift_same k (a ∷ u) (b ∷ v) e =
    let head : moved k a ≡ moved k b = cc e in
    let rest : shift k u ≡ shift k v = cc e in
    ap₂ (λ (x : ℕ × ℕ) (w : Word). x ∷ w) (moved_same k a b head) (shift_same k u v rest)

pub shift_none : (w : Word) → shift 0 w ≡ w
shift_none [] = refl
shift_none (b ∷ w) =
    let e : b.0 + 0 ≡ b.0 = omega arith in
    ap₂ (λ (m : ℕ) (u : Word). let q : ℕ × ℕ = (m, b.1) in q ∷ u) e (shift_none w)

-- ---- by relations of sets and words: of a layer, behind a piece more, and once it was settled

module _ (A : Automaton) (G : Rule) (ends : (set : List ℕ) → G set → Settles A set) (ps : List (List ℕ)) (p : List ℕ) (S T U : List ℕ → Word → Type 0)
    (layer : (set : List ℕ) (w : Word) → LeadsPast A G 0 ps (set_of A.starts) w set ↔ S set w)
    (read : (set : List ℕ) (w : Word) → T set w ↔ ((from : List ℕ) × (u v : Word) × S from u × Leads A (bytes_at (length (joined ps)) p) from v set × (u ++ v ≡ w)))
    (left : (set : List ℕ) (w : Word) → U set w ↔ (T set w × ¬ G set)) where
  abbrev start : List ℕ
  start = set_of A.starts

  at_piece : bytes_at (length (joined ps)) p ≡ bytes_at (0 + length (joined ps)) p
  at_piece = let e : length (joined ps) ≡ 0 + length (joined ps) = omega arith in ap (λ j. bytes_at j p) e

  pub layer_on : (set : List ℕ) (w : Word) → LeadsPast A G 0 (ps ++ p ∷ []) start w set ↔ U set w
  layer_on set w = (there, back)
    where
      there : LeadsPast A G 0 (ps ++ p ∷ []) start w set → U set w
      there h =
          let x = past_more A G ends 0 ps p start w set h in
          (left set w).1 (
            (read set w).1 (x.0, x.1, x.2, (layer x.0 x.1).0 x.3, rw (← at_piece) at x.4, x.6),
            x.5,
          )

      back : U set w → LeadsPast A G 0 (ps ++ p ∷ []) start w set
      back r =
          let q = (left set w).0 r in
          let x = (read set w).0 q.0 in
          more_past A G ends 0 ps p start w set
          (x.0, x.1, x.2, (layer x.0 x.1).1 x.3, rw at_piece at x.4, q.1, x.5)

  pub given_on : (w : Word) → ((set : List ℕ) × T set w × G set) ↔ IsGivenNext A G ps p w
  given_on w = (
    λ h. (let x = (read h.0 w).0 h.1 in (x.0, h.0, x.1, x.2, (layer x.0 x.1).1 x.3, x.4, h.2, x.5)),
    λ h. (h.1, (read h.1 w).1 (h.0, h.2, h.3, (layer h.0 h.2).0 h.4, h.5, h.7), h.6),
  )

-- ---- words that are counted from a base

-- so many positions later, the word reaches the set
abbrev pub ReachesFrom : ℕ → Progress → List ℕ → Word → Type 0
ReachesFrom base P set w = (u : Word) × Reaches P set u × (shift base u ≡ w)

module _ (A : Automaton) (base i : ℕ) (p : List ℕ) (P Q : Progress) (words : Extends A (bytes_at i p) P Q) where
  abbrev ComesFrom : List ℕ → Word → Type 0
  ComesFrom set w = (from : List ℕ) × (u v : Word) × ReachesFrom base P from u × Leads A (bytes_at (i + base) p) from v set × (u ++ v ≡ w)

  pub read_from : (set : List ℕ) (w : Word) → ReachesFrom base Q set w ↔ ComesFrom set w
  read_from set w = (there, back)
    where
      there : ReachesFrom base Q set w → ComesFrom set w
      there r =
          let x = (words set r.0).0 r.1 in (
            x.0,
            shift base x.1,
            shift base x.2,
            (x.1, x.3, refl),
            later A base i p x.0 x.2 set x.4,
            sym (shift_append base x.1 x.2) ∙ (ap (shift base) x.5 ∙ r.2),
          )

      back : ComesFrom set w → ReachesFrom base Q set w
      back h =
          let x = h.3 in
          let y = earlier A base i p h.0 h.2 set h.4 in (
            x.0 ++ y.0,
            (words set (x.0 ++ y.0)).1 (h.0, x.0, y.0, x.1, y.1, refl),
            shift_append base x.0 y.0 ∙ (ap₂ (λ (u v : Word). u ++ v) x.2 y.2 ∙ h.5),
          )

-- ---- at the end

end_later : (A : Automaton) (k i : ℕ) (from : List ℕ) (u : Word) → Leads A (end_at i ∷ []) from u [] → Leads A (end_at (i + k) ∷ []) from (shift k u) []
end_later A k i from u h = (
  h.0,
  h.1,
  shift k h.2,
  ap (λ (w : Word). w ++ shift k h.2) (sym (shift_block k i h.0.marks)) ∙ (sym (shift_append k (mark_block i h.0.marks) h.2) ∙ ap (shift k) h.3),
  (ap (shift k) h.4.0, h.4.1),
)

end_earlier : (A : Automaton) (k i : ℕ) (from : List ℕ) (w : Word) → Leads A (end_at (i + k) ∷ []) from w [] → (u : Word) × Leads A (end_at i ∷ []) from u [] × (shift k u ≡ w)
end_earlier A k i from w h = (
  mark_block i h.0.marks ++ [],
  (h.0, h.1, [], refl, (refl, h.4.1)),
  shift_append k (mark_block i h.0.marks) []
      ∙ (ap₂ (λ (u v : Word). u ++ v) (shift_block k i h.0.marks) (sym h.4.0)
      ∙ h.3),
)

module _ (A : Automaton) (G : Rule) (ps : List (List ℕ)) (base i : ℕ) (P : Progress) (layer : IsLayerFrom A G ps base P) (there_is : i + base ≡ length (joined ps)) where
  abbrev EndsThere : Word → Type 0
  EndsThere w = (from : List ℕ) × (u v : Word) × Reaches P from u × Leads A (end_at i ∷ []) from v [] × (u ++ v ≡ w)

  last_place : whole (length (joined ps)) [] ≡ end_at (i + base) ∷ []
  last_place = let e : length (joined ps) + 0 ≡ i + base = omega (arith, there_is) in ap (λ j. end_at j ∷ []) e

  pub last_from : (u : Word) → EndsThere u ↔ IsGivenLast A G ps [] (shift base u)
  last_from w = (there, back)
    where
      there : EndsThere w → IsGivenLast A G ps [] (shift base w)
      there h = (
        h.0,
        shift base h.1,
        shift base h.2,
        (layer h.0 (shift base h.1)).1 (h.1, h.3, refl),
        subst (λ (qs : List ReadingPlace). Leads A qs h.0 (shift base h.2) []) (sym last_place) (end_later A base i h.0 h.2 h.4),
        sym (shift_append base h.1 h.2) ∙ ap (shift base) h.5,
      )

      back : IsGivenLast A G ps [] (shift base w) → EndsThere w
      back h =
          let x = (layer h.0 h.1).0 h.3 in
          let y = end_earlier A base i h.0 h.2 (subst (λ (qs : List ReadingPlace). Leads A qs h.0 h.2 []) last_place h.4) in (
            h.0,
            x.0,
            y.0,
            x.1,
            y.1,
            shift_same base (x.0 ++ y.0) w (shift_append base x.0 y.0 ∙ (ap₂ (λ (u v : Word). u ++ v) x.2 y.2 ∙ h.5)),
          )
