use Rattle.std.proofs.Common.{ℕ, List, Option}
use Rattle.row_cursor.specs.Reading.{IsHeadAt}
use Rattle.row_cursor.proofs.Spelled.{if_none, no_head_here}
use Rattle.row_cursor.proofs.scan.read_head.Goals as goal

pub returns-in_err-length-in-None-clause-none : goal.returns-in_err-length-in-None-clause-none
returns-in_err-length-in-None-clause-none c =
    let none : (head : Option ℕ) (rest : List ℕ) → IsHeadAt c.args.text.now head rest → ⊥ =
    no_head_here c.args.text.now c.in_ok-version.version.now c.in_ok-version.ensures.some c.in-None.ensures.none c.in_err-length-in-None.ensures.none in
    if_none _ _ none
