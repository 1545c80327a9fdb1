use Rattle.std.proofs.Common.{Some, ap, map, refl, rules, string_bytes}
use Rattle.rm_outside.specs.Change.{change}
use Rattle.rm_outside.specs.MemoryShelf.{shelf_told}
use Rattle.rm_outside.specs.MemorySink.{sink_told, written_of}
use Rattle.rm_outside.specs.MemorySource.{source_told}
use Rattle.rematch_program.specs.Work.{clock}
use Rattle.memory_run.specs.Ran.{document_of, words_of}
use Rattle.memory_run.proofs.RunLaws.{ran}
use Rattle.memory_run.proofs.memory_run.MemoryRun.run.Goals as goal

pub returns : goal.returns
returns g c =
    ran (words_of c.args.self) (map string_bytes c.deref.result.now) c.in_ok-tests.tests (document_of c.args.self) c.args.input.now (written_of c.run_all-status.new.out)
    (written_of c.run_all-status.new.notes) c.run_all-status.result (shelf_told c.hold.new.self) (shelf_told c.run_all-status.new.shelf)
    (change (source_told c.new-source.result) (source_told c.run_all-status.new.source)) (change (sink_told c.in_ok-rows.rows) (sink_told c.run_all-status.new.out))
    (change (sink_told c.in_ok-notes.notes) (sink_told c.run_all-status.new.notes)) (clock _ _) (ap (map string_bytes) c.deref.ensures.value) c.in_ok-tests.ensures c.in_ok-hold.ensures.ok
    (ap Some (search rules), c.new-source.ensures.faults)
    (record { empty = ap Some c.in_ok-rows.ensures.empty; none = c.in_ok-rows.ensures.faults; written = refl })
    (record { empty = ap Some c.in_ok-notes.ensures.empty; none = c.in_ok-notes.ensures.faults; written = refl })
    c.run_all-status.ensures.serves c.run_all-status.ensures.all c.run_all-status.ensures.run c.run_all-status.ensures.complete
