use Rattle.std.proofs.Common.{arith}
use Rattle.growing_document.proofs.Appending.{appended_here, at_most, fault_here, inside_here, laid_there, none_here, paid_here}
use Rattle.growing_document.proofs.growing.read_piece.Goals as goal

pub take_up-old-requires : goal.take_up-old-requires
take_up-old-requires g c = laid_there c.replace.ensures.value c.in-Some.is c.requires

pub read-requires : goal.read-requires
read-requires g c = record {
  few =
      omega (
        arith,
        at_most c.replace.ensures.value c.in-Some.is c.requires c.args.piece.now c.take_up-old.ensures
            (omega (arith, c.len.ensures, c.if-seen-gt-MOST_BYTES.false)),
      );
}

pub returns-in-Err-clause-fault : goal.returns-in-Err-clause-fault
returns-in-Err-clause-fault g c =
    fault_here c.replace.ensures.value c.in-Some.is c.requires _ c.take_up-old.ensures c.grown_fault.ensures c.in-Err.ensures.refused

pub returns-in-Ok-clause-inside : goal.returns-in-Ok-clause-inside
returns-in-Ok-clause-inside g c = none_here c.replace.ensures.value c.in-Some.is c.requires c.replace.ensures.after

pub returns-in-Ok-clause-come : goal.returns-in-Ok-clause-come
returns-in-Ok-clause-come g c =
    inside_here c.replace.ensures.value c.in-Some.is c.requires _ c.take_up-old.ensures
    c.in-Ok.ensures.read c.in-Ok.ensures.at c.lay_down.ensures.laid c.lay_down.ensures.same
    (omega (arith, c.len.ensures, c.if-seen-gt-MOST_BYTES.false)) c.type_inv.piece

pub returns-in-Ok-clause-appended : goal.returns-in-Ok-clause-appended
returns-in-Ok-clause-appended g c =
    appended_here c.replace.ensures.value c.in-Some.is c.requires _ c.take_up-old.ensures
    c.in-Ok.ensures.read c.in-Ok.ensures.at c.lay_down.ensures.laid c.lay_down.ensures.same

pub returns-in-Ok-clause-steps : goal.returns-in-Ok-clause-steps
returns-in-Ok-clause-steps g c =
    paid_here c.replace.ensures.value c.in-Some.is c.requires _ c.take_up-old.ensures
    c.in-Ok.ensures.read c.in-Ok.ensures.at c.lay_down.ensures.laid c.lay_down.ensures.same
