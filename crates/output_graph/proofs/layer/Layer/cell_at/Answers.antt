use Rattle.std.proofs.Common.{◌≡◌, ℕ, Some, arith, slice_get, sym, ◌∙◌, ap}
use Rattle.std.proofs.lemmas.Option.{slice_get_read, same_Some}
use Rattle.output_graph.specs.Forward.{cell_of}
use Rattle.output_graph.specs.Graph.{sets_of}
use Rattle.output_graph.specs.Programs.{place_in}
use Rattle.output_graph.proofs.ProgramLaws.{placed_none, placed_there}
use Rattle.output_graph.proofs.SetLaws.{found_cell, missing_cell, single}
use Rattle.output_graph.proofs.layer.Layer.cell_at.Goals as goal

pub returns-then-place-len : goal.returns-then-place-len
returns-then-place-len c = λ s is.
    let placed : c.args.place ≡ place_in (sets_of c.self.inside.pairs.items) s = rw (← c.self.view_is) at is in
    let has = c.self.inside.pairs.ok.0 in
    let there = placed_there c.self.inside.pairs.items s c.args.place placed (omega arith) in
    let at_pair : slice_get c.self.inside.pairs.items c.args.place ≡ Some c.index.result.now = slice_get_read _ _ _ _ has (omega arith) c.index.ensures in
    let same = same_Some (s, there.0) c.index.result.now (sym there.1 ∙ at_pair) in
    let cell : cell_of c.self.inside.pairs.items s ≡ Some there.0 =
    found_cell c.self.inside.pairs.items c.args.place s there.0 (single c.self.inside.pairs.items c.self.inside.places.items c.self.invariant) there.1 in
    rw (← c.self.view_is) (sym (cell ∙ ap (λ (x : ℕ × ℕ). Some x.1) same))

pub returns-else-place-len : goal.returns-else-place-len
returns-else-place-len c = λ s is.
    let placed : c.args.place ≡ place_in (sets_of c.self.inside.pairs.items) s = rw (← c.self.view_is) at is in
    let has = c.self.inside.pairs.ok.0 in
    rw (← c.self.view_is) (sym (missing_cell c.self.inside.pairs.items s (placed_none c.self.inside.pairs.items s c.args.place placed (omega arith))))
