-- What serving does: the relation between what the source gives, the bytes added to out and notes, the faults that rose, and the status.
use Rattle.std.specs.Prelude.{◌≡◌, ◌≤◌, ◌⊎◌, ℕ, List, [], ◌∷◌, length, Option, Some, codes}
use Rattle.rm_outside.specs.Change.{Change, Adds, AddsPart, Failed}
use Rattle.rm_outside.specs.Source.{IsSpent, IsNextLong, TakesLine, TakesLines}
use Rattle.rm_outside.specs.declared.status.Status.{Status}
use Rattle.rm_outside.specs.declared.status.Status.TheVariants as status
use Rattle.spanner_model.specs.Passing.{Known}
use Rattle.session_server.specs.declared.TheConstants.{MOST_LINE_BYTES}
use Rattle.note_texts.specs.Notes.{number_between, line}
use Rattle.note_texts.specs.Outcomes.{Is, IsOutOfMemory, Reports}
use Rattle.session_server.specs.Replies.{Reply, Sessions, AreReplies, replies_text}

-- these lines have these replies, in sessions of which none is open before
pub record Served (k : Known) (texts : List (List ℕ)) (replies : List Reply) : Type 0 where
  pub after : Sessions
  pub replied : AreReplies k [] texts replies after

-- the lines that were taken are answered: all of them, and then the source has no more; or it failed; or its next line is too long, or one
-- too many; or out failed; or memory is wanting
pub data ServesLines (k : Known) (most : ℕ) (source out : Change) (end : Status) (note : List ℕ) : Type 0 where
  all_served : (texts : List (List ℕ)) (replies : List Reply) (now : Option (List ℕ)) → TakesLines source.old.bytes texts now → IsSpent now → IsSpent source.new.bytes →
      length texts ≤ most → Served k texts replies → Adds out (replies_text replies) → Is end note status.Done (codes "end") →
      ServesLines k most source out end note
  source_failed : (texts : List (List ℕ)) (replies : List Reply) (now : Option (List ℕ)) → TakesLines source.old.bytes texts now → Failed source →
      length texts ≤ most → Served k texts replies → Adds out (replies_text replies) → Is end note status.Read (codes "read failed: requests") →
      ServesLines k most source out end note
  line_too_long : (texts : List (List ℕ)) (replies : List Reply) (now : Option (List ℕ)) → TakesLines source.old.bytes texts now →
      IsNextLong MOST_LINE_BYTES now → length texts ≤ most → Served k texts replies → Adds out (replies_text replies) →
      Is end note status.Long (number_between (codes "request longer than ") MOST_LINE_BYTES (codes " bytes")) → ServesLines k most source out end note
  too_many : (texts : List (List ℕ)) (replies : List Reply) (now : Option (List ℕ)) (next : List ℕ) → TakesLines source.old.bytes texts now → TakesLine now next source.new.bytes →
      length texts ≡ most → Served k texts replies → Adds out (replies_text replies) → Is end note status.Long (codes "too many requests") →
      ServesLines k most source out end note
  write_failed : (texts : List (List ℕ)) (replies : List Reply) → TakesLines source.old.bytes texts source.new.bytes → length texts ≤ most →
      Served k texts replies → AddsPart out (replies_text replies) → Failed out → Is end note status.Write (codes "write failed") →
      ServesLines k most source out end note
  wants_memory : (texts : List (List ℕ)) (replies : List Reply) (now : Option (List ℕ)) → TakesLines source.old.bytes texts now → length texts ≤ most →
      Served k texts replies → Adds out (replies_text replies) → IsOutOfMemory end note →
      ServesLines k most source out end note

-- serving
pub record Serves (k : Known) (most : ℕ) (source out notes : Change) (result : Status) : Type 0 where
  pub end : Status
  pub note : List ℕ
  pub done : ServesLines k most source out end note
  pub report : Reports end note notes result

-- Where no line is too long, there are not too many, and no fault is counted, each line has its reply, or memory is wanting.
pub record IsServed (k : Known) (texts : List (List ℕ)) (out notes : Change) (result : Status) : Type 0 where
  pub done : result ≡ status.Done
  pub replies : List Reply
  pub served : Served k texts replies
  pub wrote : Adds out (replies_text replies)
  pub noted : Adds notes (line (codes "end"))

-- no line of these is too long
abbrev pub AreShort : List (List ℕ) → Type 0
AreShort [] = Unit {0}
AreShort (text ∷ texts) = (length text ≤ MOST_LINE_BYTES) × AreShort texts

abbrev pub ServesAll : Known → ℕ → Change → Change → Change → Status → Type 0
ServesAll k most source out notes result =
    (bytes : List ℕ) (texts : List (List ℕ)) → source.old.bytes ≡ Some bytes → TakesLines (Some bytes) texts (Some []) → AreShort texts → length texts ≤ most →
    ¬ Failed source → ¬ Failed out → ¬ Failed notes → IsServed k texts out notes result ⊎ (result ≡ status.Memory)
