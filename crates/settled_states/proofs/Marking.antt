-- What has marks is found, and what leads to it.
use Rattle.std.proofs.Common.{◌≡◌, ℕ, zero, suc, ◌+◌, ◌<◌, ◌↔◌, ◌⊎◌, Bool, false, List, [], ◌∷◌, ◌++◌, length, map, get_or, take, replicate, inl, inr, refl, sym, ap, subst, arith, ◌∙◌}
use Rattle.std.proofs.lemmas.List.{map_more}
use Rattle.span_core.specs.Lists.{Has}
use Rattle.span_core.proofs.HasLaws.{Has-map, Has-map_cases, Has-take_more_cases}
use Rattle.marked_automaton.specs.Automaton.{Automaton}
use Rattle.marked_automaton.specs.Inside.{flagged}
use Rattle.marked_automaton.specs.Reach.{Grows, IsFlagged, IsSearch, LeadsOn, ReachesIn}
use Rattle.marked_automaton.specs.Trimmed.{back_edge_of, back_edges_of}
use Rattle.marked_automaton.specs.declared.way.Stop.{Stop}
use Rattle.marked_automaton.specs.declared.way.Way.{Way}
use Rattle.marked_automaton.proofs.Flags.{flagged_is, is_flagged}
use Rattle.marked_automaton.proofs.Growing.{grows_then, grows_weaker, none_flagged, search_ends}
use Rattle.settled_states.specs.declared.search.Search.{Search}
use Rattle.settled_states.specs.States.{AreSpent, HasMarkedEnd, HasMarkedWay, LeadsToMarks, MayTakeMarks}

-- a list that is made of another, with one element more
pub map_read : {X Y : Type 0} (f : X → Y) (xs : List X) (i : ℕ) (x : X) → i < length xs → x ≡ get_or xs i x → map f (take (i + 1) xs) ≡ map f (take i xs) ++ f x ∷ []
map_read f xs i x within at = map_more f xs i x within ∙ ap (λ y. map f (take i xs) ++ f y ∷ []) (sym at)

-- all that was found is P, and what is Q was found
pub record IsFoundSoFar (P Q : ℕ → Type 0) (old new : Search) : Type 0 where
  pub grows : Grows P old.found.items old.waiting.items new.found.items new.waiting.items
  pub found : (q : ℕ) → Q q → IsFlagged new.found.items q

-- one element more was looked at
pub found_more : {X : Type 0} (P : X → Type 0) (place : X → ℕ) (xs : List X) (i : ℕ) (x : X) (old new : List Bool) → i < length xs → x ≡ get_or xs i x →
    ((q : ℕ) → (y : X) × Has (take i xs) y × (place y ≡ q) × P y → IsFlagged old q) → ((q : ℕ) → IsFlagged old q → IsFlagged new q) → (P x → IsFlagged new (place x)) →
    (q : ℕ) → (y : X) × Has (take (i + 1) xs) y × (place y ≡ q) × P y → IsFlagged new q
found_more P place xs i x old new within at so_far kept here q h =
    elim (Has-take_more_cases xs i x h.0 within h.1) [
      | inl a ↦ kept q (so_far q (h.0, a, h.2, h.3))
      | inr e ↦
          let same : x ≡ h.0 = at ∙ e in
          subst (IsFlagged new) (ap place same ∙ h.2) (here (subst P (sym same) h.3))
    ]

-- a source is one of the states
pub source_below : (ways : List Way) (n : ℕ) → ((y : Way) → Has ways y → y.from < n) → (p q : ℕ) → LeadsOn (back_edges_of ways) p q → q < n
source_below ways n froms p q l =
    let y = Has-map_cases back_edge_of ways l.0 l.1 in
    subst (λ k. k < n) (ap (λ e. e.to) y.2 ∙ l.3) (froms y.0 y.1)

-- the search may begin with what was found so far
pub begins : (ways : List Way) (n : ℕ) (P : ℕ → Type 0) (found : List Bool) (waiting : List ℕ) → Grows P (replicate n false) [] found waiting → IsSearch (back_edges_of ways) (flagged 0 found) found waiting
begins ways n P found waiting g = record {
  sound = λ p h. (0, is_flagged found p h);
  seeded = λ p h. flagged_is found p h;
  flagged = λ p h. elim (g.flagged p h) [ inl x ↦ absurd x | inr y ↦ y ];
  closed = λ e h from. elim (g.new_waits e.from from) [ inl x ↦ absurd (none_flagged n e.from x) | inr y ↦ inr y ];
}

module _ (ways : List Way) (stops : List Stop) where
  abbrev Marked : ℕ → Type 0
  Marked q = HasMarkedWay ways q ⊎ HasMarkedEnd stops q

  module _ (seeds : List ℕ) where
    leads : ((q : ℕ) → Has seeds q → Marked q) → (n q : ℕ) → ReachesIn (back_edges_of ways) seeds n q → LeadsToMarks ways stops n q
    leads from zero q h = from q h
    leads from (suc n) q h =
        let y = Has-map_cases back_edge_of ways h.0 h.1 in
        let to : h.0.from ≡ y.0.to = ap (λ e. e.from) (sym y.2) in
        (y.0, y.1, ap (λ e. e.to) y.2 ∙ h.3, subst (LeadsToMarks ways stops n) to (leads from n h.0.from h.2))

    reaches : ((q : ℕ) → Marked q → Has seeds q) → (n q : ℕ) → LeadsToMarks ways stops n q → ReachesIn (back_edges_of ways) seeds n q
    reaches to zero q h = to q h
    reaches to (suc n) q h = (back_edge_of h.0, Has-map back_edge_of ways h.0 h.1, reaches to n h.0.to h.3, h.2)

  -- both kinds were found, and then what leads to them
  pub leading_is : (n : ℕ) (f1 f2 f3 : List Bool) (q1 q2 : List ℕ) → Grows (HasMarkedWay ways) (replicate n false) [] f1 q1 → Grows (HasMarkedEnd stops) f1 q1 f2 q2 →
      ((q : ℕ) → HasMarkedWay ways q → IsFlagged f1 q) → ((q : ℕ) → HasMarkedEnd stops q → IsFlagged f2 q) →
      (IsSearch (back_edges_of ways) (flagged 0 f2) f2 q2 → IsSearch (back_edges_of ways) (flagged 0 f2) f3 []) → (q : ℕ) → IsFlagged f3 q ↔ ((k : ℕ) × LeadsToMarks ways stops k q)
  leading_is n f1 f2 f3 q1 q2 one two found1 found2 follow q = (
    (λ h. let r = (follow first).sound q h in (r.0, leads (flagged 0 f2) (λ p k. from p (two.only p (flagged_is f2 p k))) r.0 q r.1)),
    (λ h. search_ends (back_edges_of ways) (flagged 0 f2) f3 (follow first) q (h.0, reaches (flagged 0 f2) (λ p k. is_flagged f2 p (to p k)) h.0 q h.1)),
  )
    where
      first : IsSearch (back_edges_of ways) (flagged 0 f2) f2 q2
      first = begins ways n Marked f2 q2
          (grows_then Marked (replicate n false) f1 f2 [] q1 q2 (grows_weaker (HasMarkedWay ways) Marked (λ p h. inl h) (replicate n false) f1 [] q1 one)
          (grows_weaker (HasMarkedEnd stops) Marked (λ p h. inr h) f1 f2 q1 q2 two))

      from : (p : ℕ) → IsFlagged f1 p ⊎ HasMarkedEnd stops p → Marked p
      from p (inl h) = elim (one.only p h) [ inl x ↦ absurd (none_flagged n p x) | inr y ↦ inl y ]
      from p (inr h) = inr h

      to : (p : ℕ) → Marked p → IsFlagged f2 p
      to p (inl h) = two.kept p (found1 p h)
      to p (inr h) = found2 p h

module _ (A : Automaton) (flags : List Bool) (exactly : (q : ℕ) → IsFlagged flags q ↔ MayTakeMarks A q) where
  no_marks : (m : ℕ) → ((m ≡ 0 → ⊥) → ⊥) → m ≡ 0
  no_marks zero h = refl
  no_marks (suc m) h = absurd (h (λ e. omega (arith, e)))

  -- no marks are taken from the states that have no flag
  pub others_are_spent : AreSpent A (λ q. IsFlagged flags q → ⊥)
  others_are_spent = record {
    ways = λ y h none. (
      no_marks y.marks (λ some. none ((exactly y.from).1 (0, inl (y, h, refl, some)))),
      (λ to. let r = (exactly y.to).0 to in none ((exactly y.from).1 (suc r.0, (y, h, refl, r.1)))),
    );
    ends = λ x h none. no_marks x.marks (λ some. none ((exactly x.state).1 (0, inr (x, h, refl, some))));
  }
