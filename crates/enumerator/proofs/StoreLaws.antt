-- Row cells: what is found, and what it leads to.
use Rattle.std.proofs.Common.{◌≡◌, ℕ, ◌+◌, ◌<◌, ◌≤◌, List, [], ◌∷◌, length, Some, inl, inr, refl, sym, ap, ◌∙◌, arith, if◌then◌else◌, nat_eq, eq-eqb, ne_eqb}
use Rattle.std.proofs.lemmas.Bool.{cases_eq, cond-true, cond-false}
use Rattle.node_arena.specs.declared.row.Entry.{Entry}
use Rattle.node_arena.specs.declared.row.Entry.TheVariants.{Nothing, Done, Row}
use Rattle.span_core.specs.Lists.{Has}
use Rattle.node_arena.specs.Words.{Word}
use Rattle.output_graph.specs.Order.{LeadsBefore}
use Rattle.node_arena.specs.Rows.{NamedRow, rows, row_at, HasRow, IsThere}
use Rattle.output_graph.specs.RowLists.{IsMade, AreMade, AreLed}
use Rattle.output_graph.proofs.RowLaws.{rows_kept, rows_at}

-- how many row cells are older than this one
abbrev pub age : List NamedRow → ℕ → ℕ
age [] k = 0
age (r ∷ older) k = if nat_eq r.name k then length older else age older k

-- at most so many look-ups lead on from an entry
abbrev pub reach : List NamedRow → Entry → ℕ
reach store Nothing = 0
reach store Done = 0
reach store (Row k) = age store k + 1

-- `next` leads to an older cell, so a chain has no more steps than there are cells
pub age_less : (store : List NamedRow) (k : ℕ) → HasRow store k → age store k < length store
age_less [] k there = absurd there.1
age_less (r ∷ older) k there = elim (cases_eq r.name k) as (λ _. age (r ∷ older) k < length (r ∷ older)) [
  | inl e ↦ let a = cond-true (nat_eq r.name k) (length older) (age older k) (eq-eqb r.name k e) in omega arith
  | inr ne ↦
      let a = cond-false (nat_eq r.name k) (length older) (age older k) (ne_eqb r.name k ne) in
      let there' : HasRow older k = elim there.1 as (λ _. HasRow older k) [
        | inl is ↦ absurd (ne (ap (λ (x : NamedRow). x.name) is ∙ there.2))
        | inr h ↦ (there.0, h, there.2)
      ] in
      let b = age_less older k there' in
      omega arith
]

-- a newer cell has another name
named_fresh : (older : List NamedRow) (q : NamedRow) (j : ℕ) → IsMade older q → HasRow older j → q.name ≡ j → ⊥
named_fresh older q j made there p = let same : there.0.name ≡ q.name = there.2 ∙ sym p in made.fresh (there.0, there.1, same)

-- what a row cell names is older than it
module _ (pick : NamedRow → Entry) (picked_there : (older : List NamedRow) (r : NamedRow) → IsMade older r → IsThere older (pick r)) where
  named_is_older : (store : List NamedRow) (k j : ℕ) (r : NamedRow) → AreMade store → row_at store k ≡ Some r → pick r ≡ Row j → (age store j < age store k) × HasRow store j
  named_is_older [] k j r made is e = cc
  named_is_older (q ∷ older) k j r made is e = elim (cases_eq q.name k) as (λ _. (age (q ∷ older) j < age (q ∷ older) k) × HasRow (q ∷ older) j) [
    | inl same ↦
        let found : Some q ≡ Some r = sym (cond-true (nat_eq q.name k) (Some q) (row_at older k) (eq-eqb q.name k same)) ∙ is in
        let q_is : q ≡ r = cc in
        let names : pick q ≡ Row j = ap pick q_is ∙ e in
        let there : HasRow older j = rw names at (picked_there older q made.0) in
        let ne : q.name ≡ j → ⊥ = λ p. named_fresh older q j made.0 there p in
        let a = cond-true (nat_eq q.name k) (length older) (age older k) (eq-eqb q.name k same) in
        let b = cond-false (nat_eq q.name j) (length older) (age older j) (ne_eqb q.name j ne) in
        let c = age_less older j there in
        (omega arith, (there.0, inr there.1, there.2))
    | inr other ↦
        let further : row_at older k ≡ Some r = sym (cond-false (nat_eq q.name k) (Some q) (row_at older k) (ne_eqb q.name k other)) ∙ is in
        let t = named_is_older older k j r made.1 further e in
        let less = t.0 in
        let there = t.1 in
        let ne : q.name ≡ j → ⊥ = λ p. named_fresh older q j made.0 there p in
        let a = cond-false (nat_eq q.name k) (length older) (age older k) (ne_eqb q.name k other) in
        let b = cond-false (nat_eq q.name j) (length older) (age older j) (ne_eqb q.name j ne) in
        (omega arith, (there.0, inr there.1, there.2))
  ]

pub next_is_older : (store : List NamedRow) (k j : ℕ) (r : NamedRow) → AreMade store → row_at store k ≡ Some r → r.next ≡ Row j → (age store j < age store k) × HasRow store j
next_is_older store k j r made is e = named_is_older (λ x. x.next) (λ older x m. m.next_there) store k j r made is e

pub child_is_older : (store : List NamedRow) (k j : ℕ) (r : NamedRow) → AreMade store → row_at store k ≡ Some r → r.child ≡ Row j → (age store j < age store k) × HasRow store j
child_is_older store k j r made is e = named_is_older (λ x. x.child) (λ older x m. m.child_there) store k j r made is e

-- a row cell is found by its name
pub found : (store : List NamedRow) (k : ℕ) → HasRow store k → (r : NamedRow) × (row_at store k ≡ Some r)
found [] k there = absurd there.1
found (q ∷ older) k there = elim (cases_eq q.name k) as (λ _. (r : NamedRow) × (row_at (q ∷ older) k ≡ Some r)) [
  | inl e ↦ (q, cond-true (nat_eq q.name k) (Some q) (row_at older k) (eq-eqb q.name k e))
  | inr ne ↦
      let there' : HasRow older k = elim there.1 as (λ _. HasRow older k) [
        | inl is ↦ absurd (ne (ap (λ (x : NamedRow). x.name) is ∙ there.2))
        | inr h ↦ (there.0, h, there.2)
      ] in
      let t = found older k there' in
      (t.0, cond-false (nat_eq q.name k) (Some q) (row_at older k) (ne_eqb q.name k ne) ∙ t.1)
]

-- a row cell's block stands before all rows of its next
pub led_at : (store : List NamedRow) (k : ℕ) (r : NamedRow) → AreMade store → AreLed store → row_at store k ≡ Some r → (w : Word) → Has (rows store r.next) w → LeadsBefore (r.at, r.marks) w
led_at [] k r made led is w h = cc
led_at (q ∷ older) k r made led is w h = elim (cases_eq q.name k) as (λ _. LeadsBefore (r.at, r.marks) w) [
  | inl e ↦
      let found : Some q ≡ Some r = sym (cond-true (nat_eq q.name k) (Some q) (row_at older k) (eq-eqb q.name k e)) ∙ is in
      let same : q ≡ r = cc in
      let there : Has (rows (q ∷ older) q.next) w = rw (← same) at h in
      let here = led.0 w (rw (← rows_kept older q q.next made.0.fresh made.0.next_there) there) in
      rw (← same) here
  | inr ne ↦
      let further : row_at older k ≡ Some r = sym (cond-false (nat_eq q.name k) (Some q) (row_at older k) (ne_eqb q.name k ne)) ∙ is in
      let t = rows_at older k r made.1 further in
      led_at older k r made.1 led.1 further w (rw (← rows_kept older q r.next made.0.fresh t.2) h)
]

-- what a row cell names is reached by fewer look-ups
reach_named : (store : List NamedRow) (k : ℕ) (e : Entry) → ((j : ℕ) → e ≡ Row j → age store j < age store k) → reach store e < reach store (Row k)
reach_named store k Nothing f = omega arith
reach_named store k Done f = omega arith
reach_named store k (Row j) f = let a = f j refl in omega arith

pub child_reach : (store : List NamedRow) (k : ℕ) (r : NamedRow) → AreMade store → row_at store k ≡ Some r → reach store r.child < reach store (Row k)
child_reach store k r made is = reach_named store k r.child (λ j e. (child_is_older store k j r made is e).0)

pub next_reach : (store : List NamedRow) (k : ℕ) (r : NamedRow) → AreMade store → row_at store k ≡ Some r → reach store r.next < reach store (Row k)
next_reach store k r made is = reach_named store k r.next (λ j e. (next_is_older store k j r made is e).0)

pub reach_few : (store : List NamedRow) (e : Entry) → IsThere store e → reach store e ≤ length store
reach_few store Nothing there = omega arith
reach_few store Done there = omega arith
reach_few store (Row k) there = let a = age_less store k there in omega arith
