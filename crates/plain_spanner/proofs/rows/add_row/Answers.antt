use Rattle.std.proofs.Common.{◌≡◌, ℕ, List, sym, ap, ◌∙◌}
use Rattle.std.proofs.lemmas.Bool.{false≢true}
use Rattle.span_core.specs.Lists.{Has}
use Rattle.spanner_model.specs.Captures.{Captures, span_of, row_of}
use Rattle.plain_spanner.specs.Tables.{IsRowOfFits}
use Rattle.plain_spanner.proofs.TellsLaws.{tells_pushed, tells_unchanged}
use Rattle.plain_spanner.proofs.rows.add_row.Goals as goal

pub returns-then-not-some_ends_there : goal.returns-then-not-some_ends_there
returns-then-not-some_ends_there c =
    tells_unchanged (Has c.args.rows.now.items) (IsRowOfFits c.args.names.now c.args.to_end c.args.end c.args.branch.now) (λ r h.
    absurd (false≢true (sym c.if-not-some_ends_there.true ∙ c.some_ends_there.ensures.1 (h.0, rw c.ends.ensures h.1, h.2))))

pub returns : goal.returns
returns c =
    let names = c.args.names.now in
    let b = c.args.branch.now in
    let w = c.some_ends_there.ensures.0 c.if-not-some_ends_there.false in
    let is : c.row_of_captures.result ≡ row_of names (span_of b.0) = c.row_of_captures.ensures ∙ ap (λ (m : Captures). row_of names (span_of m)) c.captures-2.ensures in
    rw c.in_ok-push.ensures.items
    (tells_pushed (IsRowOfFits names c.args.to_end c.args.end b) c.args.rows.now.items c.row_of_captures.result (λ r q. is ∙ sym q.3)
    (w.0, rw (← c.ends.ensures) w.1, w.2, is))
