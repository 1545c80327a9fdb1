use Rattle.std.proofs.Common.{length, sym, ap, ◌∙◌}
use Rattle.row_writer.specs.Kept.{Line}
use Rattle.row_writer.proofs.Keeping.{length_heads}
use Rattle.row_writer.proofs.KeptLaws.{bare_room}
use Rattle.row_writer.proofs.kept.KeptLine.room.Goals as goal

pub returns-then-not-texts : goal.returns-then-not-texts
returns-then-not-texts c = bare_room c.args.texts c.args.self.now.heads c.args.spans.now c.if-not-texts.true c.requires.lengths

pub fields_room-requires-clause-lengths : goal.fields_room-requires-clause-lengths
fields_room-requires-clause-lengths c =
    c.requires.lengths ∙ ap (λ (l : Line). length l.heads) (sym c.self.view_is) ∙ length_heads c.self.inside.fields.items ∙ ap length (sym c.as_slice.ensures.value)
