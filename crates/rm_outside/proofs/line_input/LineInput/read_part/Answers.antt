use Rattle.std.proofs.Common.{rules, ◌≡◌, length}
use Rattle.rm_outside.proofs.PartLaws.{end_behind, fault_behind, part_behind, read_fault}
use Rattle.rm_outside.proofs.line_input.LineInput.read_part.Goals as goal

pub returns-in-Ok-eq0-clause-next : goal.returns-in-Ok-eq0-clause-next
returns-in-Ok-eq0-clause-next g c =
    let s = c.args.self.now in
    let held : c.len-held.result ≡ length c.args.into.now.items = search rules in
    end_behind s.start s.end _ _ _ s.buffer.items _ _ _ _ c.requires.used held c.in-Ok-eq0.ensures.read c.in-Ok-eq0.field-0-test

pub returns-in-Ok-cut_part-clause-next : goal.returns-in-Ok-cut_part-clause-next
returns-in-Ok-cut_part-clause-next g c =
    let s = c.args.self.now in
    let held : c.len-held.result ≡ length c.args.into.now.items = search rules in
    part_behind s.start s.end _ _ _ s.buffer.items _ _ _ _ c.requires.used held c.in-Ok.ensures.read _ _ _ _ _ c.in-Ok-cut_part.ensures.part

pub returns-in-Err-clause-fault : goal.returns-in-Err-clause-fault
returns-in-Err-clause-fault g c = read_fault _ _ _ _ c.in-Err.ensures.fault

pub returns-in-Err-cut_part-clause-fault : goal.returns-in-Err-cut_part-clause-fault
returns-in-Err-cut_part-clause-fault g c =
    let s = c.args.self.now in
    let held : c.len-held.result ≡ length c.args.into.now.items = search rules in
    fault_behind s.start s.end _ _ _ s.buffer.items _ _ _ _ c.requires.used held c.in-Ok.ensures.read _ _ _ c.in-Err-cut_part.ensures.fault
