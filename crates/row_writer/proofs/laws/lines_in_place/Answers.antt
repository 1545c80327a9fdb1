use Rattle.row_writer.proofs.KeptLaws.{kept_json, kept_spans, kept_table}
use Rattle.row_writer.proofs.laws.lines_in_place.Goals as goal

pub returns : goal.returns
returns c = record { spans = kept_spans; table = kept_table; json = kept_json }
