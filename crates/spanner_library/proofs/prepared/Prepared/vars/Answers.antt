use Rattle.std.proofs.Common.{subst}
use Rattle.spanner_model.specs.Answers.{AreResultNames}
use Rattle.query_automaton.specs.CompiledQuery.{IsCompiled}
use Rattle.spanner_library.specs.Library.{PreparedQuery, automaton_of, tree}
use Rattle.spanner_library.proofs.prepared.Prepared.vars.Goals as goal

pub returns-clause-names : goal.returns-clause-names
returns-clause-names g c = subst (λ (p : PreparedQuery). AreResultNames (tree p).query p.names) c.self.view_is c.self.invariant.0.words.0

pub returns-clause-compiled : goal.returns-clause-compiled
returns-clause-compiled g c = subst (λ (p : PreparedQuery). IsCompiled (tree p).query (automaton_of p)) c.self.view_is c.self.invariant.0
