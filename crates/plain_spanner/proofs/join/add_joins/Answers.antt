use Rattle.std.proofs.Common.{ℕ, ◌⊎◌, ◌↔◌, Vec, Global, List, Option}
use Rattle.std.specs.Option.{IsSomeAnd}
use Rattle.std.proofs.lemmas.Option.{slice_get_within}
use Rattle.span_core.specs.Lists.{Has}
use Rattle.spanner_model.specs.Answers.{SpanRow}
use Rattle.plain_spanner.specs.Listed.{Tells, FromSome}
use Rattle.plain_spanner.specs.Tables.{HasKeyAt, JoinsWith, JoinsRow, row_over}
use Rattle.plain_spanner.proofs.TellsLaws.{tells_or, tells_unchanged}
use Rattle.plain_spanner.proofs.JoinLaws.{joins_found, joins_nothing}
use Rattle.plain_spanner.proofs.join.add_joins.Goals as goal

pub add_joined-requires-clause-within : goal.add_joined-requires-clause-within
add_joined-requires-clause-within c = λ p h.
    let here = rw c.deref.ensures.value at h in
    let place = (c.requires.places c.row_with-key.result p).0 (rw (← c.in-Some.ensures.value) here) in
    slice_get_within c.args.right.now.rows.items p place.0 place.1

pub returns-in_default : goal.returns-in_default
returns-in_default c =
    let W = c.args.right.now.names in
    let rights = c.args.right.now.rows.items in
    let shared = c.args.keyed.now.key_names in
    tells_unchanged (Has c.args.rows.now.items) (JoinsRow c.args.names.now c.args.left_names.now W rights c.args.row.now)
    (joins_nothing c.args.names.now c.args.left_names.now W shared rights c.args.row.now c.requires.shared (λ p place.
    let key = rw (← c.row_with-key.ensures) at place in
    let there = (c.requires.places c.row_with-key.result p).1 key in
    rw (← c.in_default.ensures.value) at there))

pub returns : goal.returns
returns c =
    let names = c.args.names.now in
    let V = c.args.left_names.now in
    let W = c.args.right.now.names in
    let rights = c.args.right.now.rows.items in
    let a = c.args.row.now in
    let shared = c.args.keyed.now.key_names in
    let places = c.in-Some.found.now.items in
    let key = c.row_with-key.result in
    let before = Has c.args.rows.now.items in
    let after = Has c.add_joined.new.rows.items in
    let found : (p : ℕ) → Has places p ↔ HasKeyAt W shared rights (row_over V shared a) p = λ p.
    rw (← c.row_with-key.ensures)
    (rw (← c.in-Some.ensures.value) at (c.requires.places key p)) in
    let added = rw c.deref.ensures.value at c.in_ok-add_joined.ensures in
    tells_or after before (FromSome (JoinsWith names V W a rights) places) (JoinsRow names V W rights a) added
    (joins_found names V W shared rights a places c.requires.shared found)
