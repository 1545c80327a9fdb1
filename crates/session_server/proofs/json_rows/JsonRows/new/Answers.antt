use Rattle.std.proofs.Common.{◌∙◌, ◌≡◌, ap, length, arith}
use Rattle.row_writer.specs.Kept.{Line}
use Rattle.row_writer.proofs.KeptLaws.{json_heads_length}
use Rattle.session_server.proofs.json_rows.JsonRows.new.Goals as goal

pub invariant_of-result : goal.invariant_of-result
invariant_of-result c =
    let heads : length c.in_ok-line.line.heads ≡ length c.args.vars.now = ap (λ (l : Line). length l.heads) c.in_ok-line.ensures ∙ json_heads_length c.args.vars.now in
    record { few = omega (arith, heads, c.len-few.ensures.value, c.len-few.ensures.few) }
