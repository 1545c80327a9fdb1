use Rattle.std.proofs.Common.{length, sym, ap, ◌∙◌}
use Rattle.row_writer.specs.Kept.{Line}
use Rattle.row_writer.proofs.Keeping.{length_heads}
use Rattle.row_writer.proofs.kept.KeptLine.put_other.Goals as goal

pub put_fields-end-requires-clause-lengths : goal.put_fields-end-requires-clause-lengths
put_fields-end-requires-clause-lengths c =
    c.requires.lengths ∙ ap (λ (l : Line). length l.heads) (sym c.self.view_is) ∙ length_heads c.self.inside.fields.items ∙ ap length (sym c.as_mut_slice.ensures.value)
