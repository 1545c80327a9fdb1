use Rattle.std.proofs.Common.{rules, inl, inr}
use Rattle.rematch_program.specs.Run.{given, query_failed, query_too_long, out_of_memory, fetched}
use Rattle.rematch_program.proofs.top.with_request.Goals as goal

pub returns-in-Given : goal.returns-in-Given
returns-in-Given g c = record { case = given c.as_bytes.result.now (search rules) c.with_text.ensures.case }

pub returns-in-Ok : goal.returns-in-Ok
returns-in-Ok g c =
    record { case = fetched c.in-Named.name.now (search rules) c.deref.result.now (g.S.Shelf.told c.fetch_all.new.shelf) (search rules) c.with_text-in-Ok.ensures.case }

pub returns-in-Err-Failed : goal.returns-in-Err-Failed
returns-in-Err-Failed g c = record { case = query_failed c.in-Named.name.now (search rules) (search rules) (search rules) (search rules) }

pub returns-in-Err-TooLong : goal.returns-in-Err-TooLong
returns-in-Err-TooLong g c =
    record {
      case = elim c.with.ensures [
        | inl is ↦ query_too_long c.in-Named.name.now (search rules) (record { once = c.fetch_all.ensures.once; many = search rules }) is (search rules)
        | inr is ↦ out_of_memory c.in-Named.name.now (search rules) c.fetch_all.ensures.once is (search rules)
      ];
    }

pub returns-in-Err-OutOfMemory : goal.returns-in-Err-OutOfMemory
returns-in-Err-OutOfMemory g c = record { case = out_of_memory c.in-Named.name.now (search rules) c.fetch_all.ensures.once (search rules) (search rules) }
