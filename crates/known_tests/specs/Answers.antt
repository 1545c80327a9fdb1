-- What the code of each test answers.
use Rattle.std.specs.Prelude.{ℕ, ◌≡◌, Bool, List}
use Rattle.known_tests.specs.declared.calls.ProgramCall.{ProgramCall}
use Rattle.known_tests.specs.declared.calls.ProgramCall.TheVariants.{Luhn, Upper}
use Rattle.known_tests.specs.Relations.{is_luhn, is_upper}

abbrev pub answers_of : ProgramCall → List ℕ → Bool → Type 0
answers_of Luhn bytes answer = answer ≡ is_luhn bytes
answers_of Upper bytes answer = answer ≡ is_upper bytes
