use Rattle.std.proofs.Common.{◌≡◌, length}
use Rattle.check_cases.proofs.documents.document_of.Given as goal

abbrev pub invariant-loop : goal.invariant-loop
invariant-loop l = length l.document.items ≡ l.counter
