-- The states between starts and ends, by what is reached over edges.
use Rattle.std.proofs.Common.{◌≡◌, ℕ, ◌<◌, ◌↔◌, Bool, List, length, sym, ap, subst, arith, ◌∙◌}
use Rattle.span_core.specs.Lists.{Has}
use Rattle.span_core.proofs.HasLaws.{Has-map_cases}
use Rattle.marked_automaton.specs.declared.reach.Direction.TheVariants.{Forward, Back}
use Rattle.marked_automaton.specs.declared.way.Way.{Way}
use Rattle.marked_automaton.specs.declared.way.Stop.{Stop}
use Rattle.marked_automaton.specs.Reach.{IsFlagged, Reaches}
use Rattle.marked_automaton.specs.Trimmed.{IsBetween, back_edges_of, both, edges_in, states_of}
use Rattle.marked_automaton.proofs.Numbers.{both_flagged, both_len}

pub ends_below : (stops : List Stop) (ends : List ℕ) (n : ℕ) → ends ≡ states_of stops → ((x : Stop) → Has stops x → x.state < n) →
    (p : ℕ) → Has ends p → p < n
ends_below stops ends n same below p h =
    let x = Has-map_cases (λ (x : Stop). x.state) stops p (subst (λ (ps : List ℕ). Has ps p) same h) in
    omega (arith, below x.0 x.1, x.2)

pub between_is : (n : ℕ) (starts : List ℕ) (ways : List Way) (stops : List Stop) (ends : List ℕ) (from_starts to_ends left right useful : List Bool) →
    ends ≡ states_of stops → left ≡ from_starts → right ≡ to_ends → useful ≡ both left right → length from_starts ≡ n → length to_ends ≡ n →
    ((p : ℕ) → IsFlagged from_starts p ↔ Reaches (edges_in Forward ways) starts p) → ((p : ℕ) → IsFlagged to_ends p ↔ Reaches (edges_in Back ways) ends p) →
    (length useful ≡ n) × ((p : ℕ) → IsFlagged useful p ↔ IsBetween starts ways stops p)
between_is n starts ways stops ends from_starts to_ends left right useful s l r u len_from len_to from to = (
  ap length u ∙ (both_len left right lens ∙ (ap length l ∙ len_from)),
  λ p. (
    (λ h.
        let t = (both_flagged left right p lens).0 (subst (λ (x : List Bool). IsFlagged x p) u h) in (
          (from p).0 (subst (λ (x : List Bool). IsFlagged x p) l t.0),
          subst (λ (x : List ℕ). Reaches (back_edges_of ways) x p) s ((to p).0 (subst (λ (x : List Bool). IsFlagged x p) r t.1)),
        )),
    (λ h.
        let there = subst (λ (x : List Bool). IsFlagged x p) (sym l) ((from p).1 h.0) in
        let back_there = subst (λ (x : List Bool). IsFlagged x p) (sym r) ((to p).1 (subst (λ (x : List ℕ). Reaches (back_edges_of ways) x p) (sym s) h.1)) in
        subst (λ (x : List Bool). IsFlagged x p) (sym u) ((both_flagged left right p lens).1 (there, back_there))),
  ),
)
  where
    lens : length left ≡ length right
    lens = ap length l ∙ (len_from ∙ (sym len_to ∙ ap length (sym r)))
