use Rattle.std.proofs.Common.{ℕ, ◌<◌, ◌↔◌}
use Rattle.std.specs.Option.{IsSomeAnd}
use Rattle.std.specs.BTreeMap.{get}
use Rattle.span_core.specs.Comparison.{row_cmp}
use Rattle.span_core.specs.Lists.{Has}
use Rattle.spanner_model.specs.Answers.{SpanRow}
use Rattle.plain_spanner.specs.Tables.{HasKeyAt}
use Rattle.plain_spanner.proofs.join.places_by_key.Given as goal

abbrev pub invariant-loop-place : goal.invariant-loop-place
invariant-loop-place l =
    (key : SpanRow) (p : ℕ) → IsSomeAnd (get row_cmp l.places key) (λ v. Has v.items p) ↔ ((p < l.place) × HasKeyAt l.table.names l.key_names l.table.rows.items key p)
