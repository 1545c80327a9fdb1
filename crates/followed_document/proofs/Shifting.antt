-- A piece that stands later is read as it would be earlier.
use Rattle.std.proofs.Common.{◌≡◌, ℕ, suc, ◌+◌, Bool, true, false, List, [], ◌∷◌, ◌++◌, refl, sym, ap, subst, arith, ◌∙◌}
use Rattle.std.specs.Prelude.{if◌then◌else◌, nat_eq}
use Rattle.marked_automaton.specs.Automaton.{Automaton}
use Rattle.node_arena.specs.Words.{Word}
use Rattle.output_graph.specs.Forward.{mark_block}
use Rattle.one_pass.specs.Places.{Leads, bytes_at}
use Rattle.followed_document.specs.Settling.{shift}
use Rattle.followed_document.specs.Laws.{ShiftLaw}

pub shift_append : (k : ℕ) (u v : Word) → shift k (u ++ v) ≡ shift k u ++ shift k v
shift_append k [] v = refl
shift_append k (b ∷ u) v = ap (λ (w : Word). let c : ℕ × ℕ = (b.0 + k, b.1) in c ∷ w) (shift_append k u v)

pub shift_block : (k i m : ℕ) → shift k (mark_block i m) ≡ mark_block (i + k) m
shift_block k i m = go (nat_eq m 0)
  where
    go : (c : Bool) → shift k (let w : Word = if c then [] else (i, m) ∷ [] in w) ≡ (let w : Word = if c then [] else (i + k, m) ∷ [] in w)
    go true = refl
    go false = refl

pub later : (A : Automaton) (k i : ℕ) (d from : List ℕ) (u : Word) (to : List ℕ) → Leads A (bytes_at i d) from u to → Leads A (bytes_at (i + k) d) from (shift k u) to
later A k i [] from u to h = (ap (shift k) h.0, h.1)
later A k i (b ∷ d) from u to h =
    let e : suc i + k ≡ suc (i + k) = omega arith in (
      h.0,
      h.1,
      shift k h.2,
      ap (λ (w : Word). w ++ shift k h.2) (sym (shift_block k i h.0.marks)) ∙ (sym (shift_append k (mark_block i h.0.marks) h.2) ∙ ap (shift k) h.3),
      subst (λ j. Leads A (bytes_at j d) h.0.to (shift k h.2) to) e (later A k (suc i) d h.0.to h.2 to h.4),
    )

pub earlier : (A : Automaton) (k i : ℕ) (d from : List ℕ) (w : Word) (to : List ℕ) → Leads A (bytes_at (i + k) d) from w to → (u : Word) × Leads A (bytes_at i d) from u to × (shift k u ≡ w)
earlier A k i [] from w to h = ([], (refl, h.1), sym h.0)
earlier A k i (b ∷ d) from w to h =
    let e : suc (i + k) ≡ suc i + k = omega arith in
    let r = earlier A k (suc i) d h.0.to h.2 to (subst (λ j. Leads A (bytes_at j d) h.0.to h.2 to) e h.4) in (
      mark_block i h.0.marks ++ r.0,
      (h.0, h.1, r.0, refl, r.1),
      shift_append k (mark_block i h.0.marks) r.0 ∙ (ap (λ (x : Word). x ++ shift k r.0) (shift_block k i h.0.marks) ∙ (ap (λ (x : Word). mark_block (i + k) h.0.marks ++ x) r.2 ∙ h.3)),
    )

pub shift_law : ShiftLaw
shift_law A k i d from w to = (
  earlier A k i d from w to,
  λ h. subst (λ (x : Word). Leads A (bytes_at (i + k) d) from x to) h.2 (later A k i d from h.0 to h.1),
)
