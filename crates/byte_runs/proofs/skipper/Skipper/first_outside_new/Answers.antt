use Rattle.std.proofs.Common.{◌-◌, Some, None, length, take, drop, arith, sym, subst}
use Rattle.memchr.specs.Find.{IsFirstByte}
use Rattle.byte_runs.specs.Runs.{is_outside}
use Rattle.byte_runs.proofs.SetLaws.{behind_head}
use Rattle.byte_runs.proofs.skipper.Skipper.first_outside_new.Goals as goal

pub returns-in_err-found : goal.returns-in_err-found
returns-in_err-found c =
    let bytes = c.args.bytes.now in
    let head = c.min-head.result in
    subst (IsFirstByte (is_outside c.args.set.now) bytes) (sym c.from_residual.ensures)
    (behind_head c.args.set.now c.prepare.new.self bytes head (omega arith) (λ i. let f = c.type_inv.bytes i in omega (arith, f)) c.prepare.ensures
    (λ k low less. c.loop-place.invariant k low (omega arith)) None
    (subst (IsFirstByte (is_outside c.prepare.new.self) (take (length bytes - head) (drop head bytes))) c.in_err-found.was c.search.ensures))

pub returns : goal.returns
returns c =
    let bytes = c.args.bytes.now in
    let head = c.min-head.result in
    behind_head c.args.set.now c.prepare.new.self bytes head (omega arith) (λ i. let f = c.type_inv.bytes i in omega (arith, f)) c.prepare.ensures
    (λ k low less. c.loop-place.invariant k low (omega arith)) (Some c.in_ok-found.found)
    (subst (IsFirstByte (is_outside c.prepare.new.self) (take (length bytes - head) (drop head bytes))) c.in_ok-found.was c.search.ensures)
