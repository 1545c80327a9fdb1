use Rattle.std.proofs.Common.{◌≡◌, ℕ, Some, arith, length, slice_get, ◌∙◌}
use Rattle.output_graph.specs.Sets.{HasNot}
use Rattle.output_graph.proofs.ProgramLaws.{place_found, place_missing}
use Rattle.output_graph.proofs.SetLaws.{single}
use Rattle.output_graph.proofs.layer.Layer.place_for.Goals as goal

pub returns-in-Some : goal.returns-in-Some
returns-in-Some c =
    let found : (d : ℕ) × (slice_get c.args.self.now.pairs c.in-Some.k ≡ Some (c.args.set, d)) = c.in-Some.ensures in
    let here = rw (← c.self.view_is) at found.1 in
    rw (← c.self.view_is) (place_found c.self.inside.pairs.items c.in-Some.k c.args.set found.0 (single c.self.inside.pairs.items c.self.inside.places.items c.self.invariant) here)

pub returns-in-None : goal.returns-in-None
returns-in-None c =
    let none : HasNot c.args.self.now.pairs c.args.set = c.in-None.ensures in
    let here = rw (← c.self.view_is) at none in
    let has = c.self.inside.pairs.ok.0 in
    let count : c.len.result ≡ length c.self.inside.pairs.items = omega arith in
    rw (← c.self.view_is) (count ∙ place_missing c.self.inside.pairs.items c.args.set here)
