use Rattle.one_pass.proofs.KnownLaws.{known_entry}
use Rattle.one_pass.proofs.known.Known.enter.Goals as goal

pub returns : goal.returns
returns c = known_entry c.args.table.now _ _ _ _ c.args.layer c.args.byte c.args.entry c.enter.ensures.entered c.enter.ensures.layers c.requires.entry c.requires.known
