-- The text form in a JSON string, which escapes it once more.
use Rattle.std.specs.Prelude.{ℕ, ◌&&◌, ◌==◌, nat_le, if◌then◌else◌, List, [], ◌∷◌}
use Rattle.json.specs.Print.{escape}
use Rattle.row_writer.specs.Lines.{byte_form, hex_form}

abbrev pub escaped_form : ℕ → List ℕ
escaped_form b = escape (byte_form b)

-- the same of a byte, written out
abbrev pub form_twice : ℕ → List ℕ
form_twice b =
    if b == 92 then 92 ∷ 92 ∷ 92 ∷ 92 ∷ []
    else (if b == 34 then 92 ∷ 92 ∷ 92 ∷ 34 ∷ []
    else (if b == 10 then 92 ∷ 92 ∷ 110 ∷ []
    else (if b == 9 then 92 ∷ 92 ∷ 116 ∷ []
    else (if b == 13 then 92 ∷ 92 ∷ 114 ∷ []
    else (if nat_le 32 b && nat_le b 126 then b ∷ []
    else 92 ∷ hex_form b)))))
