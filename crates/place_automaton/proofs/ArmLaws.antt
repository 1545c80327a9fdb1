-- The arms of an alternation, whose places are numbered one after another.
use Rattle.std.proofs.Common.{◌≡◌, ℕ, ◌+◌, List, [], ◌∷◌, ◌++◌, map, inl, inr, refl, sym, ap, ◌∙◌, arith}
use Rattle.span_core.specs.Lists.{AreDistinct, Has}
use Rattle.spanner_model.specs.Captures.{VarName}
use Rattle.spanner_model.specs.Tree.{Tree, alt_all}
use Rattle.place_automaton.specs.declared.placing.Draft.{Draft}
use Rattle.place_automaton.specs.Drafts.{places_of, HasPlaced}
use Rattle.place_automaton.specs.Sides.{Sides, sides_of, any_sides}
use Rattle.place_automaton.specs.Places.{either_once}
use Rattle.place_automaton.proofs.DraftRows.{IsRow, placers}
use Rattle.place_automaton.proofs.NullCounts.{IsCountable}
use Rattle.place_automaton.proofs.NullSets.{null_set}
use Rattle.place_automaton.proofs.Rows.{in_turn, total, follows}

-- one part or the others
abbrev either_sides : Sides → Sides → Sides
either_sides P Q = record { null = either_once P.null Q.null; first = P.first ++ Q.first; last = P.last ++ Q.last }

module _ (names : List VarName) where
  arms_sides : (ts : List Tree) (k : ℕ) → sides_of (places_of names (alt_all ts) k) ≡ any_sides (map sides_of (in_turn (placers names ts) k))
  arms_sides [] k = refl
  arms_sides (t ∷ ts) k = ap (either_sides (sides_of (places_of names t k))) (arms_sides ts (k + (places_of names t k).count))

  arms_count : (ts : List Tree) (k : ℕ) → (places_of names (alt_all ts) k).count ≡ total (in_turn (placers names ts) k)
  arms_count [] k = refl
  arms_count (t ∷ ts) k = ap (λ n. (places_of names t k).count + n) (arms_count ts (k + (places_of names t k).count))

  arms_follow : (ts : List Tree) (k : ℕ) → (places_of names (alt_all ts) k).follow ≡ follows (in_turn (placers names ts) k)
  arms_follow [] k = refl
  arms_follow (t ∷ ts) k = ap (λ ws. (places_of names t k).follow ++ ws) (arms_follow ts (k + (places_of names t k).count))

  -- the sets of each arm are distinct
  pub arms_distinct : (ts : List Tree) (k : ℕ) → ((t : Tree) → Has ts t → IsCountable names t) → (P : Sides) →
      Has (map sides_of (in_turn (placers names ts) k)) P → AreDistinct P.null
  arms_distinct [] k ok P h = absurd h
  arms_distinct (t ∷ ts) k ok P (inl e) =
      let all = ok t (inl refl) in rw (← e) (null_set names t all.0 all.1 all.2 k).distinct
  arms_distinct (t ∷ ts) k ok P (inr h) = arms_distinct ts (k + (places_of names t k).count) (λ u g. ok u (inr g)) P h

  -- arms that have come one after another, and are joined
  pub arms_done : (ts : List Tree) (k : ℕ) (a b c : Draft) (xs : List Sides) (p : Sides) → IsRow (in_turn (placers names ts) k) a b xs → p ≡ any_sides xs →
      c.next ≡ b.next → c.ways.items ≡ b.ways.items → HasPlaced (places_of names (alt_all ts) k) a c p
  arms_done ts k a b c xs p row is next ways = record {
    sides = is ∙ (ap any_sides row.fragments ∙ sym (arms_sides ts k));
    next = omega (arith, next, row.next, arms_count ts k);
    ways = ways ∙ (row.ways ∙ ap (λ ws. a.ways.items ++ ws) (sym (arms_follow ts k)));
  }
