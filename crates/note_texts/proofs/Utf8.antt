-- Notes are UTF-8.
use Rattle.std.proofs.Common.{◌<◌, ◌^◌, ◌++◌, ℕ, List, IsTrue}
use Rattle.std.specs.Str.{IsUtf8}
use Rattle.std.proofs.lemmas.Str.{IsUtf8-append, IsUtf8-from_ascii}
use Rattle.std.proofs.lemmas.Fmt.{IsAscii-decimal}
use Rattle.std.specs.Fmt.{decimal}
use Rattle.span_core.specs.Names.{is_name}
use Rattle.span_core.proofs.NameTexts.{name_utf8}
use Rattle.note_texts.specs.Notes.{about, at_place}

pub number_utf8 : (what : List ℕ) (n : ℕ) → IsUtf8 what → n < 2 ^ 64 → IsUtf8 (at_place what n)
number_utf8 what n is small = IsUtf8-append what (decimal n) is (IsUtf8-from_ascii (decimal n) (IsAscii-decimal n small))

pub both_utf8 : (a b : List ℕ) → IsUtf8 a → IsUtf8 b → IsUtf8 (a ++ b)
both_utf8 = IsUtf8-append

pub about_utf8 : (before name after : List ℕ) → IsUtf8 before → IsTrue (is_name name) → IsUtf8 after → IsUtf8 (about before name after)
about_utf8 before name after a is b = IsUtf8-append (before ++ name) after (IsUtf8-append before name a (name_utf8 name is)) b
