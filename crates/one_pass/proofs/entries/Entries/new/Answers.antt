use Rattle.std.proofs.Common.{ap, ◌*◌, length, arith}
use Rattle.one_pass.proofs.EntryLaws.{within_asked}
use Rattle.one_pass.proofs.entries.Entries.new.Goals as goal

pub invariant_of-result : goal.invariant_of-result
invariant_of-result c =
    let none = ap length c.new.ensures.items in
    let zero = ap (λ n. c.args.classes.count * n) none in
    record {
      room = omega (arith, zero);
      some = λ k b small has. absurd (let past = within_asked c.new.result.items k b has in omega (arith, past, none));
    }
