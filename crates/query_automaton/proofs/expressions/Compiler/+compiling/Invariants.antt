use Rattle.std.proofs.Common.{◌≡◌, ◌+◌, ◌*◌, ◌≤◌, length}
use Rattle.spanner_model.specs.Expression.{join_all, union_all}
use Rattle.spanner_model.specs.ExprView.{expr_of, exprs_of, query_of}
use Rattle.spanner_model.proofs.Nodes.{expr_nodes}
use Rattle.query_automaton.proofs.Combining.{Union, Join}
use Rattle.query_automaton.specs.QueryAutomaton.{of_lets}
use Rattle.query_automaton.proofs.CompileLaws.{SoFar}
use Rattle.query_automaton.proofs.HeldLaws.{TakesFirst}
use Rattle.query_automaton.proofs.expressions.Compiler.+compiling.Given as goal

abbrev pub decreases-expression : goal.decreases-expression
decreases-expression l = 3 * expr_nodes (expr_of l.expr.now) + 1

abbrev pub decreases-beside : goal.decreases-beside
decreases-beside l = 3 * expr_nodes (expr_of l.expr.now) + 2

abbrev pub decreases-union : goal.decreases-union
decreases-union l = 3 * expr_nodes (union_all (exprs_of l.parts.now))

abbrev pub decreases-join : goal.decreases-join
decreases-join l = 3 * expr_nodes (join_all (exprs_of l.parts.now))

abbrev pub invariant-union-loop-k : goal.invariant-union-loop-k
invariant-union-loop-k l = record {
  begun : 1 ≤ l.k;
  same : l.self ≡ l.fn.self;
  so_far : SoFar (query_of l.fn.self.query) (length l.fn.self.lets) Union (exprs_of l.parts) l.k l.all;
  steps : TakesFirst (of_lets (query_of l.fn.self.query).lets (length l.fn.self.lets)) Union (exprs_of l.parts) l.k l.fn.effort l.effort;
}

abbrev pub invariant-join-loop-k : goal.invariant-join-loop-k
invariant-join-loop-k l = record {
  begun : 1 ≤ l.k;
  same : l.self ≡ l.fn.self;
  so_far : SoFar (query_of l.fn.self.query) (length l.fn.self.lets) Join (exprs_of l.parts) l.k l.all;
  steps : TakesFirst (of_lets (query_of l.fn.self.query).lets (length l.fn.self.lets)) Join (exprs_of l.parts) l.k l.fn.effort l.effort;
}
