use Rattle.std.proofs.Common.{◌≡◌, ℕ, ◌+◌, ◌<◌, List, length, get_or, sym, subst, arith, Option, Some, None}
use Rattle.std.specs.Prelude.{slice_get}
use Rattle.std.specs.List.{All}
use Rattle.std.specs.Option.{ForSome}
use Rattle.std.proofs.lemmas.Option.{slice_get_within}
use Rattle.marked_automaton.specs.Erased.{IsPlaceOf}
use Rattle.marked_automaton.proofs.EraserLaws.{found_more, place_found, within_more}
use Rattle.marked_automaton.proofs.eraser.Eraser.new.Goals as goal

pub loop-k-preserved : goal.loop-k-preserved
loop-k-preserved c =
    let names = c.args.names.now in
    let keep = c.args.keep.now in
    let places = c.loop-k.places.items in
    let i = c.loop-k.invariant in
    let made = c.in_ok-push.ensures.items in
    let found = place_found names c.at.result.now c.find.result c.find.ensures.some c.find.ensures.none in
    record {
      len = omega (arith, c.in_ok-push.ensures.len, i.len, c.loop-k.places.ok.0, c.push.new.self.ok.0);
      found = subst (λ (ps : List (Option ℕ)). (j : ℕ) (x : List ℕ) → j < c.loop-k.k + 1 → slice_get keep j ≡ Some x → IsPlaceOf names x (get_or ps j None)) (sym made)
          (found_more names keep places c.loop-k.k c.find.result c.at.result.now i.len c.at.ensures.value found i.found);
      within = subst (λ (ps : List (Option ℕ)). All (λ place. ForSome place (λ j. j < length names)) ps) (sym made)
          (within_more names keep places c.loop-k.k c.find.result c.at.result.now i.len c.at.ensures.value found i.within);
    }

pub returns-clause-places : goal.returns-clause-places
returns-clause-places c = (
  omega (arith, c.loop-k.invariant.len, c.len-k-end.ensures.value),
  λ k x at. c.loop-k.invariant.found k x (omega (arith, slice_get_within c.args.keep.now k x at, c.len-k-end.ensures.value)) at,
)
