-- What each call of a run is answered with, by what is held.
use Rattle.std.proofs.Common.{◌≡◌, ◌≢◌, ◌⊎◌, ℕ, ◌<◌, List, [], ◌∷◌, ◌++◌, length, drop, Option, Some, None, if◌then◌else◌, bytes_eq, refl, sym, ap, ◌∙◌, subst}
use Rattle.std.specs.Str.{IsUtf8}
use Rattle.rm_outside.specs.Status.{exit_status_of}
use Rattle.rm_outside.specs.declared.status.Status.{Status}
use Rattle.memory_run.specs.Input.{input_name}
use Rattle.memory_run.specs.Ran.{Ran, document_of, words_of}
use Rattle.memory_run.specs.declared.memory_run.MemoryRun.{MemoryRun}
use Rattle.rematch_c.specs.Refusals.{program}
use Rattle.rematch_c.specs.declared.held.Held.{Held}
use Rattle.rematch_c.specs.declared.held.Held.TheVariants.{Query, Rows, Run}
use Rattle.rematch_c.specs.declared.runs.Written.{Written}
use Rattle.rematch_c.specs.Runs.{AreAsBefore, DocumentAdded, Ended, Have, IsGivenNothing, IsNoRun, Outputs, RunBegun, WordAdded, outputs}

-- ---- what is held, and what a run is given

not_run : (held : Held) → ((r : MemoryRun) → held ≡ Run r → ⊥) → IsNoRun (Some held)
not_run (Query p) other = tt
not_run (Rows r) other = tt
not_run (Run r) other = other r refl

-- the same documents under each name
each_document : (r new : MemoryRun) → document_of new ≡ document_of r → (n : List ℕ) → document_of new n ≡ document_of r n
each_document r new same n = ap (λ (documents : List ℕ → Option (List ℕ)). documents n) same

-- what was put in the place of a run
pub nothing_in : (r new : MemoryRun) → new ≡ r → words_of r ≡ [] → ((n : List ℕ) → document_of r n ≡ None) → IsGivenNothing new
nothing_in r new is words documents = subst IsGivenNothing (sym is) (record { words = words; documents = documents })

-- ---- a run is begun

pub begun : (r : MemoryRun) (home : Option Held) → home ≡ Some (Run r) → words_of r ≡ [] → ((n : List ℕ) → document_of r n ≡ None) → RunBegun home 0
begun r home is words documents = subst (λ (h : Option Held). RunBegun h 0) (sym is) (RunBegun.begun (record { words = words; documents = documents }))

pub begun_want : (home : Option Held) → home ≡ None → RunBegun home 9
begun_want home empty = subst (λ (h : Option Held). RunBegun h 9) (sym empty) RunBegun.want

-- ---- a word

module _ (held : Held) (r new : MemoryRun) (word : List ℕ) (number : ℕ) (is : held ≡ Run r) where
  word_held : (wanted : ℕ) → number ≡ wanted → WordAdded (Some (Run r)) word (Some (Run new)) wanted → WordAdded (Some held) word (Some (Run new)) number
  word_held wanted same answer =
      subst (λ (h : Held). WordAdded (Some h) word (Some (Run new)) number) (sym is) (subst (WordAdded (Some (Run r)) word (Some (Run new))) (sym same) answer)

  pub word_added : (text : List ℕ) → text ≡ word → words_of new ≡ words_of r ++ text ∷ [] → document_of new ≡ document_of r → number ≡ 0 →
      WordAdded (Some held) word (Some (Run new)) number
  word_added text given words documents same =
      let more : words_of new ≡ words_of r ++ word ∷ [] = words ∙ ap (λ (w : List ℕ). words_of r ++ w ∷ []) given in
      word_held 0 same (WordAdded.added (record { words = more; documents = each_document r new documents }))

  pub word_want : words_of new ≡ words_of r → document_of new ≡ document_of r → number ≡ 9 → WordAdded (Some held) word (Some (Run new)) number
  word_want words documents same = word_held 9 same (WordAdded.want (record { words = words; documents = each_document r new documents }))

pub word_no_text : (held : Held) (r : MemoryRun) (word : List ℕ) → held ≡ Run r → ¬ IsUtf8 word → WordAdded (Some held) word (Some (Run r)) 10
word_no_text held r word is none = word_held held r r word 10 is 10 refl (WordAdded.no_text none)

pub word_other : (held : Held) (word : List ℕ) (number : ℕ) → ((r : MemoryRun) → held ≡ Run r → ⊥) → number ≡ 2 → WordAdded (Some held) word (Some held) number
word_other held word number other is = subst (WordAdded (Some held) word (Some held)) (sym is) (WordAdded.no_run (not_run held other))

pub word_none : (home new : Option Held) (word : List ℕ) (number : ℕ) → home ≡ None → new ≡ None → number ≡ 2 → WordAdded home word new number
word_none home new word number empty none is =
    subst (λ (h : Option Held). WordAdded h word new number) (sym empty) (subst (λ (h : Option Held). WordAdded None word h number) (sym none)
    (subst (WordAdded None word None) (sym is) (WordAdded.no_run tt)))

-- ---- a document

module _ (held : Held) (r new : MemoryRun) (name bytes : List ℕ) (number : ℕ) (is : held ≡ Run r) where
  document_held : (wanted : ℕ) → number ≡ wanted → DocumentAdded (Some (Run r)) name bytes (Some (Run new)) wanted →
      DocumentAdded (Some held) name bytes (Some (Run new)) number
  document_held wanted same answer =
      subst (λ (h : Held). DocumentAdded (Some h) name bytes (Some (Run new)) number) (sym is)
      (subst (DocumentAdded (Some (Run r)) name bytes (Some (Run new))) (sym same) answer)

  pub document_added : (text : List ℕ) → text ≡ name → words_of new ≡ words_of r →
      ((n : List ℕ) → document_of new n ≡ (if bytes_eq text n then Some bytes else document_of r n)) → number ≡ 0 → DocumentAdded (Some held) name bytes (Some (Run new)) number
  document_added text given words documents same =
      let more : (n : List ℕ) → document_of new n ≡ (if bytes_eq name n then Some bytes else document_of r n) =
      subst (λ (t : List ℕ). (n : List ℕ) → document_of new n ≡ (if bytes_eq t n then Some bytes else document_of r n)) given documents in
      document_held 0 same (DocumentAdded.added (record { words = words; documents = more }))

  pub document_taken : (text : List ℕ) → text ≡ name → words_of new ≡ words_of r → ((n : List ℕ) → document_of new n ≡ document_of r n) →
      (text ≡ input_name) ⊎ (document_of r text ≢ None) → number ≡ 2 → DocumentAdded (Some held) name bytes (Some (Run new)) number
  document_taken text given words documents taken same =
      document_held 2 same
      (DocumentAdded.taken (subst (λ (t : List ℕ). (t ≡ input_name) ⊎ (document_of r t ≢ None)) given taken) (record { words = words; documents = documents }))

  pub document_want : words_of new ≡ words_of r → ((n : List ℕ) → document_of new n ≡ document_of r n) → number ≡ 9 → DocumentAdded (Some held) name bytes (Some (Run new)) number
  document_want words documents same = document_held 9 same (DocumentAdded.want (record { words = words; documents = documents }))

pub document_no_text : (held : Held) (r : MemoryRun) (name bytes : List ℕ) → held ≡ Run r → ¬ IsUtf8 name → DocumentAdded (Some held) name bytes (Some (Run r)) 10
document_no_text held r name bytes is none = document_held held r r name bytes 10 is 10 refl (DocumentAdded.no_text none)

pub document_other : (held : Held) (name bytes : List ℕ) (number : ℕ) → ((r : MemoryRun) → held ≡ Run r → ⊥) → number ≡ 2 →
    DocumentAdded (Some held) name bytes (Some held) number
document_other held name bytes number other is = subst (DocumentAdded (Some held) name bytes (Some held)) (sym is) (DocumentAdded.no_run (not_run held other))

pub document_none : (home new : Option Held) (name bytes : List ℕ) (number : ℕ) → home ≡ None → new ≡ None → number ≡ 2 → DocumentAdded home name bytes new number
document_none home new name bytes number empty none is =
    subst (λ (h : Option Held). DocumentAdded h name bytes new number) (sym empty) (subst (λ (h : Option Held). DocumentAdded None name bytes h number) (sym none)
    (subst (DocumentAdded None name bytes None) (sym is) (DocumentAdded.no_run tt)))

-- ---- the run

-- nothing was written
pub untouched : (rows notes : List ℕ) (written : Written) → written.rows ≡ 0 → written.notes ≡ 0 → AreAsBefore (outputs rows rows notes notes written)
untouched rows notes written no_row no_note = record { rows = refl; notes = refl; no_row = no_row; no_note = no_note }

-- both outputs were copied
pub copied : (rows old_rows new_rows notes old_notes new_notes row_bytes note_bytes : List ℕ) → row_bytes ≡ rows → note_bytes ≡ notes →
    new_rows ≡ row_bytes ++ drop (length row_bytes) old_rows → new_notes ≡ note_bytes ++ drop (length note_bytes) old_notes →
    Have (outputs old_rows new_rows old_notes new_notes (record { rows = length row_bytes; notes = length note_bytes })) rows notes
copied rows old_rows new_rows notes old_notes new_notes row_bytes note_bytes is_rows is_notes rows_put notes_put =
    record {
      rows_put = subst (λ (xs : List ℕ). new_rows ≡ xs ++ drop (length xs) old_rows) is_rows rows_put;
      notes_put = subst (λ (xs : List ℕ). new_notes ≡ xs ++ drop (length xs) old_notes) is_notes notes_put;
      row_bytes = ap length is_rows;
      note_bytes = ap length is_notes;
    }

module _ (held : Held) (r new : MemoryRun) (input : List ℕ) (o : Outputs) (is : held ≡ Run r) (nothing : IsGivenNothing new) where
  ended_held : (number : ℕ) → Ended (Some (Run r)) input (Some (Run new)) o number → Ended (Some held) input (Some (Run new)) o number
  ended_held number answer = subst (λ (h : Held). Ended (Some h) input (Some (Run new)) o number) (sym is) answer

  pub ended_want : AreAsBefore o → Ended (Some held) input (Some (Run new)) o 9
  ended_want before = ended_held 9 (Ended.want before nothing)

  module _ (given : MemoryRun) (rows note : List ℕ) (status : Status) (same : given ≡ r) (ran : Ran program (words_of given) (document_of given) input rows note status) where
    ran_held : Ran program (words_of r) (document_of r) input rows note status
    ran_held = subst (λ (m : MemoryRun). Ran program (words_of m) (document_of m) input rows note status) same ran

    pub ended_whole : Have o rows note → Ended (Some held) input (Some (Run new)) o (exit_status_of status)
    ended_whole have = ended_held (exit_status_of status) (Ended.ended rows note status ran_held have nothing)

    pub ended_no_room : (length o.rows < length rows) ⊎ (length o.notes < length note) → AreAsBefore o → Ended (Some held) input (Some (Run new)) o 8
    ended_no_room room before = ended_held 8 (Ended.no_room rows note status ran_held room before nothing)

pub ended_other : (held : Held) (input : List ℕ) (o : Outputs) → ((r : MemoryRun) → held ≡ Run r → ⊥) → AreAsBefore o → Ended (Some held) input (Some held) o 2
ended_other held input o other before = Ended.no_run (not_run held other) before

pub ended_none : (home new : Option Held) (input : List ℕ) (o : Outputs) (number : ℕ) → home ≡ None → new ≡ None → AreAsBefore o → number ≡ 2 → Ended home input new o number
ended_none home new input o number empty none before is =
    subst (λ (h : Option Held). Ended h input new o number) (sym empty) (subst (λ (h : Option Held). Ended None input h o number) (sym none)
    (subst (Ended None input None o) (sym is) (Ended.no_run tt before)))
