use Rattle.std.proofs.Common.{◌≡◌}
use Rattle.marked_automaton.specs.Automaton.{Automaton, Marked}
use Rattle.marked_automaton.specs.Marks.{left_of, remarked}
use Rattle.marked_automaton.specs.Reduct.{Reduces}
use Rattle.std.specs.Prelude.{IfOk}
use Rattle.std.specs.declared.result.Result.{Result}
use Rattle.std.specs.declared.result.Result.TheVariants.{Ok, Err}
use Rattle.span_core.specs.declared.memory.OutOfMemory.{OutOfMemory}
use Rattle.marked_automaton.proofs.Rearranged.{reduct_of_itself}
use Rattle.algebra.proofs.Alike.{remarked_whole}
use Rattle.algebra.proofs.operations.project.Goals as goal

go : (G : Automaton) → Reduces G G → (r : Result Marked OutOfMemory) → IfOk r (λ (a : Marked). a.graph ≡ G) → IfOk r (λ (p : Marked). Reduces p.graph G)
go G h (Ok a) e = rw e h
go G h (Err x) e = tt

pub returns-clause-reduct : goal.returns-clause-reduct
returns-clause-reduct c =
    let e = left_of c.args.a.now.names c.args.keep.now in
    let whole = remarked_whole e c.args.a.now.graph c.is_marked.ensures.whole in
    go (remarked e c.args.a.now.graph) (reduct_of_itself (remarked e c.args.a.now.graph) whole) c.erase.result c.erase.ensures.graph
