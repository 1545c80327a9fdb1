use Rattle.std.proofs.Common.{◌≡◌, ◌+◌, ◌-◌, ◌⊎◌, true, false, inl, inr, ◌∙◌}
use Rattle.std.specs.Prelude.{if◌then◌else◌}
use Rattle.spanner_model.specs.View.{atom_of}
use Rattle.segment_filter.specs.Sharing.{formula_places}
use Rattle.segment_filter.proofs.ReadingLaws.{last_place, plain_states, readings_made}
use Rattle.segment_filter.proofs.CostLaws.{costs_made}
use Rattle.segment_filter.proofs.readings.Readings.of.Goals as goal
use Rattle.segment_filter.proofs.readings.Readings.of.Goals.{then-atom, else-atom}

pub overflow_sub-most : goal.overflow_sub-most
overflow_sub-most c =
    let a = atom_of c.args.atom.now in
    let t = a.to_end in
    let f = a.formula in
    let names = c.in-Ok.marked.names in
    let states : c.states.result ≡ 1 + formula_places names f + (if t then 0 else 1) =
    c.states.ensures.value ∙ plain_states names a c.in-Ok.marked.graph c.states.ensures.marked.whole c.in-Ok.ensures.reduct in
    let cases : ((t ≡ true) × (c.if-atom.beyond ≡ 1)) ⊎ ((t ≡ false) × (c.if-atom.beyond ≡ 2)) =
    elim c.if-atom.branch [ then-atom w ↦ inl (w.if-atom.true, w.beyond-is) | else-atom w ↦ inr (w.if-atom.false, w.beyond-is) ] in
    (last_place t c.states.result (formula_places names f) c.if-atom.beyond states cases).0

pub returns-clause-meet : goal.returns-clause-meet
returns-clause-meet c =
    let a = atom_of c.args.atom.now in
    let t = a.to_end in
    let f = a.formula in
    let names = c.in-Ok.marked.names in
    let states : c.states.result ≡ 1 + formula_places names f + (if t then 0 else 1) =
    c.states.ensures.value ∙ plain_states names a c.in-Ok.marked.graph c.states.ensures.marked.whole c.in-Ok.ensures.reduct in
    let cases : ((t ≡ true) × (c.if-atom.beyond ≡ 1)) ⊎ ((t ≡ false) × (c.if-atom.beyond ≡ 2)) =
    elim c.if-atom.branch [ then-atom w ↦ inl (w.if-atom.true, w.beyond-is) | else-atom w ↦ inr (w.if-atom.false, w.beyond-is) ] in
    readings_made names a c.in-Ok.marked.graph c.states.ensures.marked.whole c.in-Ok.ensures.reduct c.requires.built c.requires.sequential
    c.empty.result c.in_ok-forward.forward.graph c.in_ok-backward.backward.graph (c.states.result - c.if-atom.beyond) c.empty.ensures
    c.in_ok-forward.ensures.graph c.in_ok-backward.ensures (last_place t c.states.result (formula_places names f) c.if-atom.beyond states cases).1

pub returns-clause-costs : goal.returns-clause-costs
returns-clause-costs c =
    costs_made c.in-Ok.marked.names (atom_of c.args.atom.now) c.in-Ok.marked c.states.ensures.marked c.in-Ok.ensures.reduct
    c.empty.result c.in_ok-forward.forward.graph c.in_ok-backward.backward.graph c.empty.ensures c.in_ok-forward.ensures.graph c.in_ok-backward.ensures
    c.in-Ok.ensures.names.0 c.in-Ok.ensures.names.1
