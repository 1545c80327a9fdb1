-- How long a request's trial is.
use Rattle.std.specs.Prelude.{ℕ}
use Rattle.command_line.specs.declared.request.Mode.{Mode}
use Rattle.command_line.specs.declared.request.Mode.TheVariants as mode

-- the lines of a trial; none of the other modes
abbrev pub lines_of : Mode → ℕ
lines_of mode.Plain = 0
lines_of mode.Explain = 0
lines_of (mode.Trial lines) = lines
