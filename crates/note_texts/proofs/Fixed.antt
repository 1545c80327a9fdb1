-- Notes that are always the same.
use Rattle.std.proofs.Common.{◌≡◌, ◌∙◌, ◌-◌, ◌++◌, ◌∷◌, [], ℕ, List, length, take, refl, ap, arith, length-append}
use Rattle.std.specs.Prelude.{codes}
use Rattle.std.specs.Str.{IsUtf8}
use Rattle.std.proofs.lemmas.List.{take_at}
use Rattle.note_texts.specs.Notes.{fixed_text, line}
use Rattle.note_texts.specs.declared.note.FixedNote.{FixedNote}
use Rattle.note_texts.specs.declared.note.FixedNote.TheVariants as fixed

pub fixed_utf8 : (note : FixedNote) → IsUtf8 (fixed_text note)
unfolding lib.Utf8.encode
fixed_utf8 fixed.End = (codes "end", (refl, refl))
fixed_utf8 fixed.BadCommandLine = (codes "bad command line", (refl, refl))
fixed_utf8 fixed.QueryUnread = (codes "read failed: query", (refl, refl))
fixed_utf8 fixed.DocumentUnread = (codes "read failed: document", (refl, refl))
fixed_utf8 fixed.RequestsUnread = (codes "read failed: requests", (refl, refl))
fixed_utf8 fixed.NotACursor = (codes "cursor: not a cursor", (refl, refl))
fixed_utf8 fixed.OtherVariables = (codes "cursor: other variables", (refl, refl))
fixed_utf8 fixed.PastTheDocument = (codes "cursor: past the document", (refl, refl))
fixed_utf8 fixed.TooManyRequests = (codes "too many requests", (refl, refl))
fixed_utf8 fixed.WriteFailed = (codes "write failed", (refl, refl))
fixed_utf8 fixed.OutOfMemory = (codes "out of memory", (refl, refl))

shorter : (text : List ℕ) → length (text ++ 10 ∷ []) - 1 ≡ length text
shorter text = let e = length-append text (10 ∷ []) in omega (arith, e)

-- a line without its end
pub without_end : (text whole : List ℕ) → whole ≡ line text → take (length whole - 1) whole ≡ text
without_end text whole is =
    ap (λ (bytes : List ℕ). take (length bytes - 1) bytes) is ∙ (ap (λ (n : ℕ). take n (text ++ 10 ∷ [])) (shorter text) ∙ take_at text (10 ∷ []) (length text) refl)
