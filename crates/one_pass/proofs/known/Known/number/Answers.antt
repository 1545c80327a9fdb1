use Rattle.std.proofs.Common.{◌≡◌, ◌≤◌, subst, sym, length, Some, arith}
use Rattle.std.specs.Prelude.{slice_get}
use Rattle.one_pass.specs.Known.{IsKnown}
use Rattle.one_pass.proofs.KnownLaws.{known_layer, known_room, with_keeps}
use Rattle.one_pass.proofs.known.Known.number.Goals as goal

pub returns-then-number-known-clause-keeps : goal.returns-then-number-known-clause-keeps
returns-then-number-known-clause-keeps c = λ t known.
    let s = c.args.self.now in
    subst (λ ls. IsKnown t ls s.entries s.steps) (sym c.in-Ok.ensures.sets) (known_layer t s.layers s.entries s.steps c.args.sets.items known)

pub returns-then-number-known-clause-layers : goal.returns-then-number-known-clause-layers
returns-then-number-known-clause-layers c = λ k sets at.
    subst (λ ls. slice_get ls k ≡ Some sets) (sym c.in-Ok.ensures.sets) (with_keeps c.args.self.now.layers c.args.sets.items k sets at)

pub returns-clause-keeps : goal.returns-clause-keeps
returns-clause-keeps c = λ t known.
    let s = c.args.self.now in
    let later : IsKnown t c.number_of.new.self s.entries s.steps =
    subst (λ ls. IsKnown t ls s.entries s.steps) (sym c.in-Ok.ensures.sets) (known_layer t s.layers s.entries s.steps c.args.sets.items known) in
    let few : length c.make_room.new.self.asked.items ≤ length c.number_of.new.self = omega (arith, c.make_room.ensures.layers, later.few, c.len-2.ensures.value) in
    known_room t c.number_of.new.self s.entries c.make_room.new.self s.steps c.make_room.ensures.same few later

pub returns-clause-layers : goal.returns-clause-layers
returns-clause-layers c = λ k sets at. subst (λ ls. slice_get ls k ≡ Some sets) (sym c.in-Ok.ensures.sets) (with_keeps c.args.self.now.layers c.args.sets.items k sets at)
