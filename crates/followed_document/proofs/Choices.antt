-- Choices of edges over the bytes of pieces: where their blocks stand, and that a word tells its choice.
use Rattle.std.proofs.Common.{◌≡◌, ℕ, suc, ◌+◌, ◌<◌, ◌≤◌, Bool, true, false, List, [], ◌∷◌, ◌++◌, length, inl, inr, refl, sym, ap, subst, arith, ◌∙◌}
use Rattle.std.specs.Prelude.{if◌then◌else◌, map, nat_eq}
use Rattle.std.proofs.lemmas.Bool.{eqb-true}
use Rattle.span_core.specs.Lists.{Has}
use Rattle.span_core.proofs.HasLaws.{Has-append_cases, Has-map_cases}
use Rattle.marked_automaton.specs.declared.way.Way.{Way}
use Rattle.marked_automaton.specs.Automaton.{Automaton}
use Rattle.automaton_reading.specs.Reading.{Reach, blocks_down, byte_read, edges, reach_with, ways_taken}
use Rattle.node_arena.specs.Words.{Word}
use Rattle.output_graph.specs.Forward.{mark_block}
use Rattle.one_pass.specs.Places.{Leads, byte_at, bytes_at, end_at}
use Rattle.one_pass.proofs.PlaceLaws.{block_at}

-- ---- where blocks stand

abbrev pub AllFrom : ℕ → Word → Type 0
AllFrom i w = (b : ℕ × ℕ) → Has w b → i ≤ b.0

abbrev pub AllBelow : ℕ → Word → Type 0
AllBelow i w = (b : ℕ × ℕ) → Has w b → b.0 < i

block_from : (i m : ℕ) → AllFrom i (mark_block i m)
block_from i m b h = let e = block_at i m b h in omega (arith, e)

append_from : (i : ℕ) (u v : Word) → AllFrom i u → AllFrom i v → AllFrom i (u ++ v)
append_from i u v a c b h = elim (Has-append_cases u v b h) as (λ _. i ≤ b.0) [ inl k ↦ a b k | inr k ↦ c b k ]

pub append_below : (i : ℕ) (u v : Word) → AllBelow i u → AllBelow i v → AllBelow i (u ++ v)
append_below i u v a c b h = elim (Has-append_cases u v b h) as (λ _. b.0 < i) [ inl k ↦ a b k | inr k ↦ c b k ]

pub from_there : (A : Automaton) (i : ℕ) (d from : List ℕ) (w : Word) (to : List ℕ) → Leads A (bytes_at i d) from w to → AllFrom i w
from_there A i [] from w to h = subst (AllFrom i) (sym h.0) (λ b n. absurd n)
from_there A i (c ∷ d) from w to h =
    subst (AllFrom i) h.3 (append_from i (mark_block i h.0.marks) h.2 (block_from i h.0.marks)
    (λ b k. let l = from_there A (suc i) d h.0.to h.2 to h.4 b k in omega (arith, l)))

pub below_there : (A : Automaton) (i : ℕ) (d from : List ℕ) (w : Word) (to : List ℕ) → Leads A (bytes_at i d) from w to → AllBelow (i + length d) w
below_there A i [] from w to h = subst (AllBelow (i + 0)) (sym h.0) (λ b n. absurd n)
below_there A i (c ∷ d) from w to h =
    subst (AllBelow (i + suc (length d))) h.3 (append_below (i + suc (length d)) (mark_block i h.0.marks) h.2
    (λ b k. let e = block_at i h.0.marks b k in omega (arith, e))
    (λ b k. let l = below_there A (suc i) d h.0.to h.2 to h.4 b k in omega (arith, l)))

-- with the end behind them
pub whole_from : (A : Automaton) (n i : ℕ) (d from : List ℕ) (w : Word) (to : List ℕ) → i + length d ≤ n → Leads A (bytes_at i d ++ end_at n ∷ []) from w to → AllFrom i w
whole_from A n i [] from w to le h =
    subst (AllFrom i) h.3 (append_from i (mark_block n h.0.marks) h.2
    (λ b k. let e = block_at n h.0.marks b k in omega (arith, e, le))
    (subst (AllFrom i) (sym h.4.0) (λ b none. absurd none)))
whole_from A n i (c ∷ d) from w to le h =
    subst (AllFrom i) h.3 (append_from i (mark_block i h.0.marks) h.2 (block_from i h.0.marks)
    (λ b k. let l = whole_from A n (suc i) d h.0.to h.2 to (omega (arith, le)) h.4 b k in omega (arith, l)))

-- ---- words that are cut at a position

pub same_cut : (m : ℕ) (u v x y : Word) → AllBelow m u → AllFrom m v → AllBelow m x → AllFrom m y → u ++ v ≡ x ++ y → (u ≡ x) × (v ≡ y)
same_cut m [] v [] y a b c d e = (refl, e)
same_cut m [] v (z ∷ x) y a b c d e =
    let low = c z (inl refl) in
    let high = b z (subst (λ (q : Word). Has q z) (sym e) (inl refl)) in
    absurd (omega (arith, low, high))
same_cut m (z ∷ u) v [] y a b c d e =
    let low = a z (inl refl) in
    let high = d z (subst (λ (q : Word). Has q z) e (inl refl)) in
    absurd (omega (arith, low, high))
same_cut m (z ∷ u) v (t ∷ x) y a b c d e =
    let head : z ≡ t = cc e in
    let tail : u ++ v ≡ x ++ y = cc e in
    let r = same_cut m u v x y (λ p h. a p (inr h)) b (λ p h. c p (inr h)) d tail in
    (λ i. head i ∷ r.0 i, r.1)

-- a block and what stands behind it
block_cut : (i m n : ℕ) (r s : Word) → AllFrom (suc i) r → AllFrom (suc i) s → mark_block i m ++ r ≡ mark_block i n ++ s → (m ≡ n) × (r ≡ s)
block_cut i m n r s a b e = go (nat_eq m 0) (nat_eq n 0) refl refl e
  where
    go : (c d : Bool) → nat_eq m 0 ≡ c → nat_eq n 0 ≡ d →
        (let x : Word = if c then [] else (i, m) ∷ [] in x) ++ r ≡ (let y : Word = if d then [] else (i, n) ∷ [] in y) ++ s → (m ≡ n) × (r ≡ s)
    go true true f g e = (eqb-true m 0 f ∙ sym (eqb-true n 0 g), e)
    go true false f g e = let l = a (i, n) (subst (λ (q : Word). Has q (i, n)) (sym e) (inl refl)) in absurd (omega (arith, l))
    go false true f g e = let l = b (i, m) (subst (λ (q : Word). Has q (i, m)) e (inl refl)) in absurd (omega (arith, l))
    go false false f g e = (let p : (i, m) ≡ (i, n) = cc e in ap (λ (q : ℕ × ℕ). q.1) p, cc e)

-- ---- a word tells its choice

edge_same : (A : Automaton) (set : List ℕ) (b : ℕ) (e f : Reach) → Has (edges A set (byte_read b)) e → Has (edges A set (byte_read b)) f → e.marks ≡ f.marks → e.to ≡ f.to
edge_same A set b e f h k same =
    let blocks = blocks_down (map (λ (y : Way). y.marks) (ways_taken A set b)) in
    let m = Has-map_cases (reach_with (ways_taken A set b)) blocks e h in
    let n = Has-map_cases (reach_with (ways_taken A set b)) blocks f k in
    let marks : m.0 ≡ n.0 = ap (λ (r : Reach). r.marks) m.2 ∙ (same ∙ sym (ap (λ (r : Reach). r.marks) n.2)) in
    ap (λ (r : Reach). r.to) (sym m.2) ∙ (ap (λ j. (reach_with (ways_taken A set b) j).to) marks ∙ ap (λ (r : Reach). r.to) n.2)

pub same_to : (A : Automaton) (i : ℕ) (d from : List ℕ) (w : Word) (to on : List ℕ) → Leads A (bytes_at i d) from w to → Leads A (bytes_at i d) from w on → to ≡ on
same_to A i [] from w to on h k = sym h.1 ∙ k.1
same_to A i (c ∷ d) from w to on h k =
    let cut = block_cut i h.0.marks k.0.marks h.2 k.2
    (from_there A (suc i) d h.0.to h.2 to h.4) (from_there A (suc i) d k.0.to k.2 on k.4) (h.3 ∙ sym k.3) in
    let next = edge_same A from c h.0 k.0 h.1 k.1 cut.0 in
    let other : Leads A (bytes_at (suc i) d) h.0.to h.2 on =
    subst (λ (s : List ℕ). Leads A (bytes_at (suc i) d) s h.2 on) (sym next) (subst (λ (u : Word). Leads A (bytes_at (suc i) d) k.0.to u on) (sym cut.1) k.4) in
    same_to A (suc i) d h.0.to h.2 to on h.4 other

-- ---- pieces, one behind another

pub bytes_then : (i : ℕ) (p q : List ℕ) → bytes_at i (p ++ q) ≡ bytes_at i p ++ bytes_at (i + length p) q
bytes_then i [] q = let e : i + 0 ≡ i = omega arith in ap (λ j. bytes_at j q) (sym e)
bytes_then i (c ∷ p) q =
    let e : suc i + length p ≡ i + suc (length p) = omega arith in
    ap (λ ps. byte_at i c ∷ ps) (bytes_then (suc i) p q ∙ ap (λ j. bytes_at (suc i) p ++ bytes_at j q) e)
