use Rattle.one_pass.specs.Flags.{IsListing, ListsWithin}
use Rattle.one_pass.proofs.settling.list_sources.Given as goal

-- the first k sources have been given, or not
abbrev pub invariant-loop-k : goal.invariant-loop-k
invariant-loop-k g l = IsListing l.fn.graph l.settled l.at l.k l.graph × ListsWithin l.fn.graph l.settled l.k l.graph l.fn.steps l.steps
