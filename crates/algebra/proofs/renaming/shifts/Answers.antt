use Rattle.std.proofs.Common.{◌≡◌, ℕ, ◌+◌, ◌<◌, ◌≤◌, List, [], ◌∷◌, ◌++◌, Option, Some, length, map, take, get_or, sym, ap, arith, ◌∙◌}
use Rattle.std.proofs.lemmas.List.{length-map, take_all, take_more, map-append}
use Rattle.std.proofs.lemmas.Option.{get_or_from_slice_get}
use Rattle.span_core.specs.declared.TheConstants.{MOST_VARIABLES}
use Rattle.span_core.specs.Lists.{Has}
use Rattle.algebra.specs.Renaming.{shift_of}
use Rattle.algebra.proofs.RenamingLaws.{shifts_small}
use Rattle.algebra.proofs.renaming.shifts.Goals as goal

pub loop-k-preserved : goal.loop-k-preserved
loop-k-preserved c =
    let all = c.args.all.now in
    let k = c.loop-k.k in
    let x = c.at.result.now in
    let f = shift_of c.args.names.now c.args.other.now c.args.wanted in
    let within : k < length all = omega (arith, c.loop-k-test.true, c.len-k-end.ensures.value) in
    let here : get_or all k x ≡ x = get_or_from_slice_get all k x x c.at.ensures.value in
    let more : map f (take (k + 1) all) ≡ map f (take k all) ++ f x ∷ [] =
    ap (map f) (take_more all k x within ∙ ap (λ z. take k all ++ z ∷ []) here) ∙ map-append f (take k all) (x ∷ []) in
    c.in_ok-push.ensures.items ∙ ((λ i. c.loop-k.invariant i ++ c.shift.ensures i ∷ []) ∙ sym more)

pub returns-clause-fit : goal.returns-clause-fit
returns-clause-fit c =
    let all = c.args.all.now in
    let names = c.args.names.now in
    let f = shift_of names c.args.other.now c.args.wanted in
    let is : c.loop-k.shifts.items ≡ map f all = c.loop-k.invariant ∙ ap (map f) (take_all c.loop-k.k all (omega (arith, c.loop-k-test.false, c.len-k-end.ensures.value))) in
    let few : length names ≤ MOST_VARIABLES = omega (arith, c.len-few.ensures.few, c.len-few.ensures.value) in
    record {
      few = omega (arith, ap length is, length-map all f, c.requires);
      small = λ s h. shifts_small names c.args.other.now c.args.wanted all s few (rw (← is) h);
    }
