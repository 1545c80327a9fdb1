use Rattle.std.proofs.Common.{◌≡◌, ℕ, ◌*◌, ◌≤◌, length}
use Rattle.spanner_model.specs.ExprView.{query_of}
use Rattle.query_automaton.specs.Compiling.{AreCompiled}
use Rattle.query_automaton.specs.Held.{IsWithin}
use Rattle.query_automaton.proofs.HeldQueries.{TakesLets}
use Rattle.query_automaton.proofs.expressions.Compiler.compile_lets.Given as goal

abbrev pub invariant-loop-k : goal.invariant-loop-k
invariant-loop-k l = record {
  query : l.self.query ≡ l.fn.self.query;
  long : length l.self.lets ≡ l.k;
  held : (most : ℕ) → IsWithin (query_of l.fn.self.query) most → l.self.held ≤ l.k * most;
  steps : TakesLets (query_of l.fn.self.query) l.k l.effort;
  made : AreCompiled (query_of l.fn.self.query) l.self.lets;
}
