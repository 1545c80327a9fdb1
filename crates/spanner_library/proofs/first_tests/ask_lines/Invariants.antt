use Rattle.spanner_engine.specs.Caching.{IsCacheOf}
use Rattle.spanner_library.proofs.first_tests.ask_lines.Given as goal

-- the cache belongs to the query
abbrev pub invariant-loop-line : goal.invariant-loop-line
invariant-loop-line g l = IsCacheOf l.query.graph l.cache
