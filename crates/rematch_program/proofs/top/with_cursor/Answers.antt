use Rattle.std.proofs.Common.{rules, Some, None, sym, ◌∙◌}
use Rattle.rematch_program.specs.Run.{no_cursor, other_variables, placed}
use Rattle.rematch_program.proofs.top.with_cursor.Goals as goal

pub returns-in-None : goal.returns-in-None
returns-in-None g c = record { case = placed None (search rules) c.with_place.ensures.case }

pub returns-in-Ok : goal.returns-in-Ok
returns-in-Ok g c = record { case = placed (Some c.in-Ok.kept) (search rules) c.with_place-in-Ok.ensures.case }

pub returns-in-Err-Syntax : goal.returns-in-Err-Syntax
returns-in-Err-Syntax g c =
    let none = c.read.ensures.syntax.0 (let is = c.in-Err-Syntax.is in let at = c.in-Err-Syntax.field-0-is in cc) in
    record { case = no_cursor c.as_bytes.result.now (search rules) none (search rules) (search rules) }

pub returns-in-Err-Variables : goal.returns-in-Err-Variables
returns-in-Err-Variables g c =
    let other = c.read.ensures.variables.0 (let is = c.in-Err-Variables.is in let at = c.in-Err-Variables.field-0-is in cc) in
    record { case = other_variables c.as_bytes.result.now (search rules) other.0 other.1.0 other.1.1.0 other.1.1.1.0 (λ same. other.1.1.1.1 (same ∙ sym c.vars.ensures)) (search rules) (search rules) }
