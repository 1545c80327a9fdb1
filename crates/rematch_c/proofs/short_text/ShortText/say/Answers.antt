use Rattle.std.proofs.Common.{rules}
use Rattle.rematch_c.proofs.TextLaws.{said}
use Rattle.rematch_c.proofs.short_text.ShortText.say.Goals as goal

pub returns : goal.returns
returns c = said c.args.said.now c.copy_from_slice.new.self _ c.min-count.result c.min-count.ensures c.copy_from_slice.ensures.after (search rules)
