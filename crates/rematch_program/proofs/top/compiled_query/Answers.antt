use Rattle.std.proofs.Common.{◌≡◌, ◌⊎◌, inl, inr, ℕ, List, refl}
use Rattle.spanner_model.specs.ExprView.{query_of}
use Rattle.spanner_model.specs.Expression.{QueryTree}
use Rattle.marked_automaton.specs.declared.fault.SizeFault.{SizeFault}
use Rattle.marked_automaton.specs.declared.fault.SizeFault.TheVariants.{States, Ways, OutOfMemory}
use Rattle.note_texts.specs.Notes.{note_bytes, size_note}
use Rattle.note_texts.specs.Outcomes.{Is, IsOutOfMemory}
use Rattle.query_automaton.specs.Parts.{HasLargePart}
use Rattle.rm_outside.specs.declared.status.Status.{Status}
use Rattle.rm_outside.specs.declared.status.Status.TheVariants as status
use Rattle.rematch_program.specs.Run.{IsTooLarge, by_states, by_ways, by_memory}
use Rattle.rematch_program.proofs.top.compiled_query.Goals as goal

told : (q : QueryTree) (fault : SizeFault) (end : Status) (note : List ℕ) → HasLargePart q fault →
    ((¬ (fault ≡ OutOfMemory)) × Is end note status.Size (size_note fault)) ⊎ IsOutOfMemory end note → IsTooLarge q end note
told q (States count) end note large (inl h) = by_states count large h.1
told q (Ways count) end note large (inl h) = by_ways count large h.1
told q OutOfMemory end note large (inl h) = absurd (h.0 refl)
told q fault end note large (inr is) = by_memory is

pub returns-in-Err-clause-outcome : goal.returns-in-Err-clause-outcome
returns-in-Err-clause-outcome c = told (query_of c.args.query.now) c.in-Err.fault c.of_size.result.status (note_bytes c.of_size.result.note) c.in-Err.ensures.fault c.of_size.ensures
