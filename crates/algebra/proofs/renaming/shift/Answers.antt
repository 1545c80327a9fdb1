use Rattle.std.proofs.Common.{◌-◌, ◌*◌, Some, sym, ap, arith, ◌∙◌}
use Rattle.std.specs.Prelude.{is_some}
use Rattle.std.proofs.lemmas.Option.{slice_get_within}
use Rattle.spanner_model.proofs.NameLaws.{ascending-distinct}
use Rattle.algebra.proofs.RenamingLaws.{found_has, shift_against, shift_as_wanted, place_at, place_none}
use Rattle.algebra.proofs.renaming.shift.Goals as goal

pub returns-then-is_there-wanted : goal.returns-then-is_there-wanted
returns-then-is_there-wanted c =
    let x = c.args.name.now in
    let has = found_has c.args.other.now x c.find.result c.find.ensures.some c.find.ensures.none ∙ sym c.is_some-is_there.ensures in
    sym (shift_against c.args.names.now c.args.other.now c.args.wanted x c.is_some-is_there.result has c.if-is_there-wanted.true)

pub overflow_sub-result : goal.overflow_sub-result
overflow_sub-result c = omega (arith, slice_get_within c.args.names.now c.in-Some.k c.args.name.now c.in-Some.ensures.some, c.len-len.ensures.value)

pub overflow_sub-result-in-Some : goal.overflow_sub-result-in-Some
overflow_sub-result-in-Some c = omega (arith, slice_get_within c.args.names.now c.in-Some.k c.args.name.now c.in-Some.ensures.some, c.len-len.ensures.value)

pub returns-in-Some : goal.returns-in-Some
returns-in-Some c =
    let x = c.args.name.now in
    let names = c.args.names.now in
    let has = found_has c.args.other.now x c.find.result c.find.ensures.some c.find.ensures.none ∙ sym c.is_some-is_there.ensures in
    let at = place_at names x c.in-Some.k (ascending-distinct names c.len-len.ensures.ascending) c.in-Some.ensures.some in
    ap (λ n. Some (2 * (n - c.in-Some.k - 1))) c.len-len.ensures.value
    ∙ sym (shift_as_wanted names c.args.other.now c.args.wanted x c.is_some-is_there.result has c.if-is_there-wanted.false ∙ at)

pub returns-in-None : goal.returns-in-None
returns-in-None c =
    let x = c.args.name.now in
    let names = c.args.names.now in
    let has = found_has c.args.other.now x c.find.result c.find.ensures.some c.find.ensures.none ∙ sym c.is_some-is_there.ensures in
    let none = found_has names x c.find-2.result c.find-2.ensures.some c.find-2.ensures.none ∙ ap is_some c.in-None.is in
    sym (shift_as_wanted names c.args.other.now c.args.wanted x c.is_some-is_there.result has c.if-is_there-wanted.false ∙ place_none names x none)
