-- Why something is refused, in the text of a note.
use Rattle.std.specs.Prelude.{◌≡◌, ℕ, List}
use Rattle.std.specs.Str.{IsUtf8}
use Rattle.note_texts.specs.declared.refusals.Refusal.{Refusal}
use Rattle.note_texts.specs.declared.refusals.Refusal.TheVariants.{Note, OutOfMemory}

-- a refusal with this note, or without one for want of memory
abbrev pub MatchNote : Refusal → List ℕ → Type 0
MatchNote (Note note) text = (note.items ≡ text) × IsUtf8 text
MatchNote OutOfMemory text = Unit {0}
