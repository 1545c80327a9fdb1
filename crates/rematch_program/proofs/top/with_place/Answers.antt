use Rattle.std.proofs.Common.{rules, inl, inr}
use Rattle.rematch_program.specs.Run.{document_failed, document_too_long, out_of_memory, found}
use Rattle.rematch_program.proofs.top.with_place.Goals as goal

pub returns-in-Ok : goal.returns-in-Ok
returns-in-Ok g c = record { case = found c.deref.result.now (search rules) c.with_document.ensures.case }

pub returns-in-Err-TooLong : goal.returns-in-Err-TooLong
returns-in-Err-TooLong g c =
    record {
      case = elim c.with.ensures [
        | inl is ↦ document_too_long (record { once = c.fetch_all.ensures.once; many = search rules }) is (search rules)
        | inr is ↦ out_of_memory c.fetch_all.ensures.once is (search rules)
      ];
    }

pub returns-in-Err-Failed : goal.returns-in-Err-Failed
returns-in-Err-Failed g c = record { case = document_failed (search rules) (search rules) (search rules) }

pub returns-in-Err-OutOfMemory : goal.returns-in-Err-OutOfMemory
returns-in-Err-OutOfMemory g c = record { case = out_of_memory c.fetch_all.ensures.once (search rules) (search rules) }
