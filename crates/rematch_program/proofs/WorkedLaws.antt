-- Worked examples, by computing.
use Rattle.std.specs.Fmt.{digits}
use Rattle.std.proofs.Common.{◌≡◌, ◌≤◌, ℕ, refl, arith}
use Rattle.spanner_model.specs.Tree.{Tree}
use Rattle.spanner_model.specs.Expression.{untied}
use Rattle.spanner_model.specs.Examples.{free, query}
use Rattle.marked_automaton.specs.declared.TheConstants.{MOST_STATES, MOST_WAYS}
use Rattle.place_automaton.specs.Counts.{count_states, count_ways}
use Rattle.place_automaton.specs.Examples.{many_a, many_optional}
use Rattle.query_automaton.specs.Parts.{AtomsAreSmall}
use Rattle.rematch_program.specs.Examples.{NoteExamples, SizeExamples}

pub note_examples : NoteExamples
unfolding digits
note_examples = (refl, refl)

-- a small atom, by its counts
small_counts : (f : Tree) → AtomsAreSmall (query (free f)) → (count_states (untied f) ≤ MOST_STATES) × (count_ways (untied f) ≤ MOST_WAYS)
small_counts f small = small.1

too_many_states : (n : ℕ) → n ≡ 20002 → n ≤ MOST_STATES → ⊥
too_many_states n is few = absurd (omega (arith, is, few))

too_many_ways : (n : ℕ) → n ≡ 4504503 → n ≤ MOST_WAYS → ⊥
too_many_ways n is few = absurd (omega (arith, is, few))

pub size_examples : SizeExamples
size_examples = (
  λ small. too_many_states (count_states (untied many_a)) refl (small_counts many_a small).0,
  λ small. too_many_ways (count_ways (untied many_optional)) refl (small_counts many_optional small).1,
)
