use Rattle.std.proofs.Common.{ℕ, ◌+◌, ◌≤◌, ◌↔◌, length, arith}
use Rattle.std.specs.Prelude.{reverse, List, []}
use Rattle.std.proofs.lemmas.Option.{get_or_from_slice_get}
use Rattle.std.proofs.lemmas.Result.{IfOk-weaker, on_ok_weaker, IfErr-weaker}
use Rattle.span_core.specs.Intervals.{Covers}
use Rattle.place_automaton.specs.Atom.{AreBytes}
use Rattle.place_automaton.specs.Words.{atom_automaton}
use Rattle.marked_automaton.specs.Automaton.{size}
use Rattle.place_automaton.specs.Variables.{with_vars}
use Rattle.spanner_model.specs.View.{atom_of}
use Rattle.segment_filter.specs.Costs.{backward_of, filter_weight, forward_of, pairs_met}
use Rattle.segment_filter.specs.Sets.{MeetAt}
use Rattle.segment_filter.specs.Touching.{IsTouchedBy}
use Rattle.segment_filter.specs.Weights.{IsFullWithin, reading_look_ups, reading_weight}
use Rattle.segment_filter.proofs.CostLaws.{steps_within}
use Rattle.segment_filter.proofs.WeightLaws.{full_wider}
use Rattle.segment_filter.proofs.touching.touched.Goals as goal

pub returns-clause-ok : goal.returns-clause-ok
returns-clause-ok g c =
    let d = c.args.doc.now in
    let bytes : AreBytes d = λ i b at. let e = get_or_from_slice_get d i b 0 at in let f = c.type_inv.doc i in omega (arith, e, f) in
    let F = c.in-Ok.readings.forward.graph in
    let R = c.in-Ok.readings.backward.graph in
    let most = c.in-Ok.readings.most in
    IfOk-weaker c.touched_by.result (λ (t : List (ℕ × ℕ)). (i : ℕ) → Covers t i ↔ ((i ≤ length d) × MeetAt F R most d i))
    (λ (t : List (ℕ × ℕ)). (i : ℕ) → Covers t i ↔ IsTouchedBy (atom_of c.args.atom.now) d i)
    (λ t h i. let m = c.in-Ok.ensures.meet.meet d bytes i in (λ k. m.0 ((h i).0 k), λ k. (h i).1 (m.1 k)))
    c.touched_by.ensures.ok

pub returns-clause-within : goal.returns-clause-within
returns-clause-within g c =
    let d = c.args.doc.now in
    let ahead = (c.in-Ok.ensures.costs.ahead d).0 in
    let behind = (c.in-Ok.ensures.costs.behind (reverse d)).0 in
    on_ok_weaker c.touched_by.result (λ within. omega (arith, within, ahead, behind)) c.touched_by.ensures.within

pub returns-clause-full : goal.returns-clause-full
returns-clause-full g c =
    let d = c.args.doc.now in
    let a = atom_of c.args.atom.now in
    let F = c.in-Ok.readings.forward.graph in
    let R = c.in-Ok.readings.backward.graph in
    let ahead = (c.in-Ok.ensures.costs.ahead d).0 in
    let behind = (c.in-Ok.ensures.costs.behind (reverse d)).0 in
    let le : reading_weight R (reverse d) + reading_weight F d ≤ filter_weight (with_vars [] a.formula) a d = omega (arith, ahead, behind) in
    IfErr-weaker c.touched_by.result (λ e. IsFullWithin c.args.limit (reading_weight R (reverse d) + reading_weight F d) e)
    (λ e. IsFullWithin c.args.limit (filter_weight (with_vars [] a.formula) a d) e)
    (λ e h. full_wider c.args.limit (reading_weight R (reverse d) + reading_weight F d) (filter_weight (with_vars [] a.formula) a d) e le h)
    c.touched_by.ensures.full

pub returns-clause-steps : goal.returns-clause-steps
returns-clause-steps g c =
    let d = c.args.doc.now in
    let a = atom_of c.args.atom.now in
    let names = with_vars [] a.formula in
    let F = c.in-Ok.readings.forward.graph in
    let R = c.in-Ok.readings.backward.graph in
    let costs = c.in-Ok.ensures.costs in
    steps_within c.args.steps.now c.touched_by.new.steps (length d) (size R) (size F) (size (atom_automaton names a)) (reading_look_ups F d) (reading_look_ups R (reverse d))
    (reading_look_ups (forward_of names a) d) (reading_look_ups (backward_of names a) (reverse d)) (pairs_met (forward_of names a) (backward_of names a) d)
    c.touched_by.ensures.steps costs.behind_size costs.ahead_size (costs.behind (reverse d)).1 (costs.ahead d).1
