use Rattle.std.proofs.Common.{◌≡◌, ◌∙◌, ℕ, ◌<◌, length, sym, subst, arith, inl, inr}
use Rattle.std.specs.List.{filter, flat_map}
use Rattle.std.proofs.lemmas.Bool.{cases_lt, eqb-false, eqb-true}
use Rattle.marked_automaton.specs.declared.way.Way.{Way}
use Rattle.marked_automaton.specs.Automaton.{ways_from}
use Rattle.automaton_reading.specs.Reading.{is_among}
use Rattle.set_table.specs.Staying.{AreGathered}
use Rattle.set_table.proofs.StayingLaws.{from_all, from_each, stays_nowhere, stays_told}
use Rattle.set_table.proofs.staying.stays_of.Goals.{then-is_grouped, else-is_grouped}
use Rattle.set_table.proofs.staying.stays_of.Goals as goal

pub returns-then-is_empty : goal.returns-then-is_empty
returns-then-is_empty c = stays_nowhere c.args.automaton.now.graph c.args.members.now c.empty.result
    (eqb-true (length c.args.members.now) 0 (sym c.is_empty.ensures ∙ c.if-is_empty.true)) c.empty.ensures

pub returns : goal.returns
returns c =
    let A = c.args.automaton.now.graph in
    let members = c.args.members.now in
    let some : 0 < length members = some_there (length members) (eqb-false (length members) 0 (sym c.is_empty.ensures ∙ c.if-is_empty.false)) in
    elim c.if-is_grouped.branch [
      | then-is_grouped w ↦
          stays_told A members (flat_map (ways_from A.ways) members) c.if-is_grouped.leading c.stays.result c.requires.order some
          (subst (AreGathered members _) (sym w.leading-is) w.add_from.ensures) (from_each A members) c.stays.ensures
      | else-is_grouped w ↦
          stays_told A members (filter (λ (y : Way). is_among members y.from) A.ways) c.if-is_grouped.leading c.stays.result c.requires.order some
          (subst (AreGathered members _) (sym w.leading-is)
          (subst (λ ws. AreGathered members (filter (λ (y : Way). is_among members y.from) ws) w.add_among.new.self) w.ways.ensures w.add_among.ensures)) (from_all A members) c.stays.ensures
    ]
  where
    some_there : (n : ℕ) → (n ≡ 0 → ⊥) → 0 < n
    some_there n other = elim (cases_lt 0 n) as (λ _. 0 < n) [ inl l ↦ l | inr le ↦ absurd (other (omega (arith, le))) ]
