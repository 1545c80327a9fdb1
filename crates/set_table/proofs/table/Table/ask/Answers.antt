use Rattle.std.proofs.Common.{rules}
use Rattle.span_core.proofs.HasLaws.{Has-slice_get}
use Rattle.set_table.specs.Tabled.{look_up}
use Rattle.set_table.specs.Answered.{question_of}
use Rattle.set_table.proofs.HeldLaws.{look_up_absent, look_up_found}
use Rattle.set_table.proofs.OnceLaws.{once_is_first, once_is_same}
use Rattle.set_table.proofs.table.Table.ask.Goals as goal

pub returns-then-number-ne0 : goal.returns-then-number-ne0
returns-then-number-ne0 c =
    let found = look_up_found c.args.question c.self.invariant c.self.view_is c.requires.set c.requires.question c.place_of.ensures
    c.at-number.ensures c.if-number-ne0.true in
    record { asked = once_is_same _ _ (Has-slice_get _ _ _ found); number = found; err = search rules; refused = search rules }

pub answer-requires-clause-absent : goal.answer-requires-clause-absent
answer-requires-clause-absent c =
    look_up_absent c.args.question c.self.invariant c.self.view_is c.requires.set c.place_of.ensures c.at-number.ensures c.if-number-ne0.false

pub returns : goal.returns
returns c =
    let absent = look_up_absent c.args.question c.self.invariant c.self.view_is c.requires.set c.place_of.ensures c.at-number.ensures c.if-number-ne0.false in
    let first = once_is_first c.args.self.now (look_up c.args.self.now c.args.set (question_of c.args.question)) absent in
    record { asked = rw first c.answer.ensures.asked; number = c.answer.ensures.number; err = c.answer.ensures.err; refused = rw first c.answer.ensures.refused }
