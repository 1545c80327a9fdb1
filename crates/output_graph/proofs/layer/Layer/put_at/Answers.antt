use Rattle.std.proofs.Common.{◌≡◌, ◌<◌, length, arith, sym}
use Rattle.output_graph.proofs.ProgramLaws.{placed_none, placed_there}
use Rattle.output_graph.proofs.SetLaws.{found_set, missing_set, pushed, replaced, single}
use Rattle.output_graph.proofs.layer.Layer.put_at.Goals as goal

pub invariant_of-self : goal.invariant_of-self
invariant_of-self c =
    let there = placed_there c.self.inside.pairs.items c.args.set c.args.place (rw (← c.self.view_is) at c.requires.placed) (omega (arith, c.self.inside.pairs.ok.0)) in
    replaced c.self.inside.pairs.items c.self.inside.places.items c.self.invariant c.args.place c.args.set there.0 c.args.cell there.1

pub invariant_of-self-else-place-len : goal.invariant_of-self-else-place-len
invariant_of-self-else-place-len c =
    let room = rw (← c.self.view_is) at c.requires.covered in
    let has = c.self.inside.places.ok.0 in
    let none = placed_none c.self.inside.pairs.items c.args.set c.args.place (rw (← c.self.view_is) at c.requires.placed) (omega (arith, c.self.inside.pairs.ok.0)) in
    let at_end : c.len-else-place-len.result ≡ length c.self.inside.pairs.items = omega (arith, c.self.inside.pairs.ok.0) in
    let inside : c.args.set < length c.self.inside.places.items = omega arith in
    rw (c.push_reserved.ensures.items, at_end) (pushed c.self.inside.pairs.items c.self.inside.places.items c.self.invariant c.args.set c.args.cell none inside)

pub returns-then-place-len-clause-pairs : goal.returns-then-place-len-clause-pairs
returns-then-place-len-clause-pairs c =
    let there = placed_there c.self.inside.pairs.items c.args.set c.args.place (rw (← c.self.view_is) at c.requires.placed) (omega (arith, c.self.inside.pairs.ok.0)) in
    rw (← c.self.view_is) (sym (found_set c.self.inside.pairs.items c.args.place c.args.set there.0 c.args.cell
    (single c.self.inside.pairs.items c.self.inside.places.items c.self.invariant) there.1))

pub returns-else-place-len-clause-pairs : goal.returns-else-place-len-clause-pairs
returns-else-place-len-clause-pairs c =
    let none = placed_none c.self.inside.pairs.items c.args.set c.args.place (rw (← c.self.view_is) at c.requires.placed) (omega (arith, c.self.inside.pairs.ok.0)) in
    rw (c.push_reserved.ensures.items, ← c.self.view_is) (sym (missing_set c.self.inside.pairs.items c.args.set c.args.cell none))
