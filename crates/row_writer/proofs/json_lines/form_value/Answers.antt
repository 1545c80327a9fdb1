use Rattle.std.proofs.Common.{sym, ◌∙◌, subst}
use Rattle.std.specs.Prelude.{slice_range}
use Rattle.std.specs.Str.{IsUtf8}
use Rattle.row_writer.proofs.Ascii.{form_utf8}
use Rattle.row_writer.proofs.json_lines.form_value.Goals as goal

pub unreachable-requires : goal.unreachable-requires
unreachable-requires c =
    let bytes = slice_range c.args.doc.now c.args.span.start c.args.span.end in
    c.in-Err.ensures.cases.0 (subst IsUtf8 (sym (c.as_slice.ensures.value ∙ c.in_ok-form.ensures)) (form_utf8 bytes))
