use Rattle.std.proofs.Common.{◌≡◌, ◌++◌, [], ◌∷◌, drop}
use Rattle.query_printer.specs.PrintedQuery.{further}
use Rattle.rematch_program.specs.Explained.{names_text}
use Rattle.rematch_program.proofs.explanation.push_names.Given as goal

abbrev pub invariant-loop-k : goal.invariant-loop-k
invariant-loop-k l = l.text.items ++ further (32 ∷ []) (drop l.k l.vars) ≡ l.fn.text.items ++ names_text l.vars
