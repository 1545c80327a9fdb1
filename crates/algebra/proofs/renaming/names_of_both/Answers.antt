use Rattle.std.proofs.Common.{◌≡◌, suc, ◌+◌, ◌<◌, ◌⊎◌, ◌∷◌, length, drop, get_or, sym, ap, arith, drop-cons, ◌∙◌}
use Rattle.std.specs.Prelude.{Contains}
use Rattle.std.proofs.lemmas.Option.{get_or_from_slice_get}
use Rattle.span_core.specs.NameSets.{with_name}
use Rattle.span_core.specs.declared.TheConstants.{MOST_VARIABLES}
use Rattle.algebra.specs.JoinedNames.{all_names}
use Rattle.algebra.proofs.NamesLaws.{room_or_there, truly}
use Rattle.algebra.proofs.renaming.names_of_both.Goals as goal

pub loop-k-preserved : goal.loop-k-preserved
loop-k-preserved c =
    let b = c.args.b.now in
    let k = c.loop-k.k in
    let x = c.at.result.now in
    let names = c.loop-k.names in
    let within : k < length b = omega (arith, c.loop-k-test.true, c.len-k-end.ensures.value) in
    let here : get_or b k x ≡ x = get_or_from_slice_get b k x x c.at.ensures.value in
    let n : k + 1 ≡ suc k = omega arith in
    let rest : drop k b ≡ x ∷ drop (k + 1) b = drop-cons b k x within ∙ (λ i. here i ∷ drop (sym n i) b) in
    let whole : all_names (with_name x names) (drop (k + 1) b) ≡ all_names c.args.a.now b = sym (ap (all_names names) rest) ∙ c.loop-k.invariant in
    let room : Contains names x ⊎ (length names < MOST_VARIABLES) = room_or_there names x (drop (k + 1) b) MOST_VARIABLES (omega (arith, ap length whole, c.requires)) in
    let added : c.add.new.self ≡ with_name x names = truly c.add.result (c.add.ensures.variant.1 room) c.add.ensures.added in
    ap (λ ns. all_names ns (drop (k + 1) b)) added ∙ whole
