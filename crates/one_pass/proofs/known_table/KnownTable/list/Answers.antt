use Rattle.std.proofs.Common.{◌+◌, ◌≤◌, length, arith, subst}
use Rattle.automaton_reading.specs.Reading.{edges_K}
use Rattle.output_graph.specs.Rows.{rows}
use Rattle.set_table.specs.Tabled.{Tabled}
use Rattle.one_pass.specs.Builds.{IsNew, build}
use Rattle.one_pass.specs.Faults.{IsReadFault}
use Rattle.one_pass.specs.Passes.{HasKept}
use Rattle.one_pass.specs.Places.{AreReadWords, is_touched}
use Rattle.one_pass.specs.Weights.{WeighsWithin}
use Rattle.one_pass.proofs.ReadLaws.{end_gives_up, parts_give_up, pass_cells, pass_kept, pass_steps, pass_weighs, pass_words, words_listed}
use Rattle.one_pass.proofs.known_table.KnownTable.list.Goals as goal

pub returns-in-Err-read_parts-clause-steps : goal.returns-in-Err-read_parts-clause-steps
returns-in-Err-read_parts-clause-steps g c =
    subst (λ (t : Tabled). c.read_parts.new.steps + 1 ≤ c.args.steps.now + build t.graph c.args.doc.now (is_touched c.args.positions.now)) c.self.view_is
    (parts_give_up c.args.doc.now c.args.positions.now c.parts.ensures.apart c.requires.within c.begin_with.ensures.tabled c.args.steps.now
    c.in-Ok.pass c.begin_with.new.steps c.in-Ok.ensures.begun c.parts.result.now c.parts.ensures.value c.in-Err-read_parts.ensures.given_up).steps

pub returns-in-Err-read_parts-clause-cause : goal.returns-in-Err-read_parts-clause-cause
returns-in-Err-read_parts-clause-cause g c =
    subst (λ (t : Tabled). IsNew t.graph t → IsReadFault t.graph (is_touched c.args.positions.now) c.args.doc.now t.limit c.in-Err-read_parts.fault) c.self.view_is
    (parts_give_up c.args.doc.now c.args.positions.now c.parts.ensures.apart c.requires.within c.begin_with.ensures.tabled c.args.steps.now
    c.in-Ok.pass c.begin_with.new.steps c.in-Ok.ensures.begun c.parts.result.now c.parts.ensures.value c.in-Err-read_parts.ensures.given_up).cause

pub returns-in-Err-end_with-clause-steps : goal.returns-in-Err-end_with-clause-steps
returns-in-Err-end_with-clause-steps g c =
    subst (λ (t : Tabled). c.end_with.new.steps + 1 ≤ c.args.steps.now + build t.graph c.args.doc.now (is_touched c.args.positions.now)) c.self.view_is
    (end_gives_up c.args.doc.now c.args.positions.now c.parts.ensures.apart c.requires.within c.begin_with.ensures.tabled c.args.steps.now
    c.in-Ok.pass c.begin_with.new.steps c.in-Ok.ensures.begun c.parts.result.now c.parts.ensures.value
    c.in_default.ensures.read c.in_default.ensures.at c.in-Err-end_with.ensures.given_up).steps

pub returns-in-Err-end_with-clause-cause : goal.returns-in-Err-end_with-clause-cause
returns-in-Err-end_with-clause-cause g c =
    subst (λ (t : Tabled). IsNew t.graph t → IsReadFault t.graph (is_touched c.args.positions.now) c.args.doc.now t.limit c.in-Err-end_with.fault) c.self.view_is
    (end_gives_up c.args.doc.now c.args.positions.now c.parts.ensures.apart c.requires.within c.begin_with.ensures.tabled c.args.steps.now
    c.in-Ok.pass c.begin_with.new.steps c.in-Ok.ensures.begun c.parts.result.now c.parts.ensures.value
    c.in_default.ensures.read c.in_default.ensures.at c.in-Err-end_with.ensures.given_up).cause

pub returns-clause-words : goal.returns-clause-words
returns-clause-words g c =
    let listed = rows c.turn.result.store c.turn.result.first in
    subst (λ (t : Tabled). AreReadWords t.graph (is_touched c.args.positions.now) c.args.doc.now listed) c.self.view_is
    (words_listed c.self.inside.table.graph (is_touched c.args.positions.now) c.args.doc.now c.in-Ok-end_with.ended.graph listed c.turn.ensures.listed.exact
    (pass_words c.args.doc.now c.args.positions.now c.parts.ensures.apart c.requires.within c.begin_with.ensures.tabled c.args.steps.now
    c.in-Ok.pass c.begin_with.new.steps c.in-Ok.ensures.begun c.parts.result.now c.parts.ensures.value
    c.in_default.ensures.read c.in_default.ensures.at c.in-Ok-end_with.ended.graph c.in-Ok-end_with.ensures.ended))

pub returns-clause-kept : goal.returns-clause-kept
returns-clause-kept g c =
    subst (λ (t : Tabled). HasKept t c.end_with.new.table) c.self.view_is
    (pass_kept c.args.doc.now c.args.positions.now c.parts.ensures.apart c.requires.within c.begin_with.ensures.tabled c.args.steps.now
    c.in-Ok.pass c.begin_with.new.steps c.in-Ok.ensures.begun c.parts.result.now c.parts.ensures.value
    c.in_default.ensures.read c.in_default.ensures.at c.in-Ok-end_with.ended.graph c.in-Ok-end_with.ensures.ended)

pub returns-clause-weighs : goal.returns-clause-weighs
returns-clause-weighs g c =
    subst (λ (t : Tabled). WeighsWithin t.graph c.args.doc.now (is_touched c.args.positions.now) t.limit) c.self.view_is
    (pass_weighs c.args.doc.now c.args.positions.now c.parts.ensures.apart c.requires.within c.begin_with.ensures.tabled c.args.steps.now
    c.in-Ok.pass c.begin_with.new.steps c.in-Ok.ensures.begun c.parts.result.now c.parts.ensures.value
    c.in_default.ensures.read c.in_default.ensures.at c.in-Ok-end_with.ended.graph c.in-Ok-end_with.ensures.ended)

pub returns-clause-cells : goal.returns-clause-cells
returns-clause-cells g c =
    let few =
    pass_cells c.args.doc.now c.args.positions.now c.parts.ensures.apart c.requires.within c.begin_with.ensures.tabled c.args.steps.now
    c.in-Ok.pass c.begin_with.new.steps c.in-Ok.ensures.begun c.parts.result.now c.parts.ensures.value
    c.in_default.ensures.read c.in_default.ensures.at c.in-Ok-end_with.ended.graph c.in-Ok-end_with.ensures.ended in
    subst (λ (t : Tabled). length c.turn.result.store ≤ edges_K t.graph c.args.doc.now (is_touched c.args.positions.now) + 1) c.self.view_is
    (omega (arith, few, c.turn.ensures.listed.few))

pub returns-clause-steps : goal.returns-clause-steps
returns-clause-steps g c =
    let read =
    pass_steps c.args.doc.now c.args.positions.now c.parts.ensures.apart c.requires.within c.begin_with.ensures.tabled c.args.steps.now
    c.in-Ok.pass c.begin_with.new.steps c.in-Ok.ensures.begun c.parts.result.now c.parts.ensures.value
    c.in_default.ensures.read c.in_default.ensures.at c.in-Ok-end_with.ended.graph c.in-Ok-end_with.ensures.ended in
    subst (λ (t : Tabled). c.turn.new.steps + 1 ≤ c.args.steps.now + build t.graph c.args.doc.now (is_touched c.args.positions.now)) c.self.view_is
    (omega (arith, read, c.turn.ensures.steps))
