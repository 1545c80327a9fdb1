-- A run in memory has the contract of a run of the program.
use Rattle.std.proofs.Common.{◌≡◌, ◌≢◌, ℕ, List, Option, Some, ◌∙◌, sym, subst}
use Rattle.known_tests.specs.Relations.{known_tests, relation}
use Rattle.rm_outside.specs.Change.{Change}
use Rattle.rm_outside.specs.Told.{Told}
use Rattle.rm_outside.specs.declared.status.Status.{Status}
use Rattle.spanner_model.specs.Passing.{known}
use Rattle.session_server.specs.Serve.{Serves, ServesAll}
use Rattle.whole_program.specs.declared.TheConstants.{MOST_REQUESTS}
use Rattle.whole_program.specs.All.{serving_words}
use Rattle.rematch_program.specs.Complete.{Completes}
use Rattle.rematch_program.specs.Run.{RunTested, shelved}
use Rattle.rematch_program.specs.Work.{Clock}
use Rattle.memory_run.specs.Ran.{Ran, Wrote, program, with_input}

pub ran : (words given : List (List ℕ)) (tests : List (List ℕ × ℕ)) (documents : List ℕ → Option (List ℕ)) (input rows note : List ℕ) (status : Status)
    (before after : Told) (source out notes : Change) (steps : Clock) → given ≡ words → tests ≡ known_tests → ((n : List ℕ) → before.held n ≡ with_input documents input n) →
    (source.old.bytes ≡ Some input) × (source.old.faults ≡ 0) → Wrote out rows → Wrote notes note →
    (given ≡ serving_words → Serves (known tests relation) MOST_REQUESTS source out notes status) →
    (given ≡ serving_words → ServesAll (known tests relation) MOST_REQUESTS source out notes status) →
    (given ≢ serving_words → RunTested (known tests relation) given (shelved before after) out notes steps status) →
    (given ≢ serving_words → Completes (known tests relation) given (shelved before after) out notes status) → Ran program words documents input rows note status
ran words given tests documents input rows note status before after source out notes steps is listed held asked wrote noted serves all run complete = record {
  before = before;
  after = after;
  source = source;
  out = out;
  notes = notes;
  steps = steps;
  held = held;
  asked = asked;
  wrote = wrote;
  noted = noted;
  serves = λ same. subst (λ (ts : List (List ℕ × ℕ)). Serves (known ts relation) MOST_REQUESTS source out notes status) listed (serves (is ∙ same));
  all = λ same. subst (λ (ts : List (List ℕ × ℕ)). ServesAll (known ts relation) MOST_REQUESTS source out notes status) listed (all (is ∙ same));
  run = λ other. subst (λ (ts : List (List ℕ × ℕ)). RunTested (known ts relation) words (shelved before after) out notes steps status) listed
      (subst (λ (ws : List (List ℕ)). RunTested (known tests relation) ws (shelved before after) out notes steps status) is (run (λ same. other (sym is ∙ same))));
  complete = λ other. subst (λ (ts : List (List ℕ × ℕ)). Completes (known ts relation) words (shelved before after) out notes status) listed
      (subst (λ (ws : List (List ℕ)). Completes (known tests relation) ws (shelved before after) out notes status) is (complete (λ same. other (sym is ∙ same))));
}
