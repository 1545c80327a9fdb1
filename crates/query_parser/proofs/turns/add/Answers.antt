use Rattle.query_parser.proofs.Lists.{adds_room, adds_kept}
use Rattle.query_parser.proofs.turns.add.Goals as goal

pub returns-clause-room : goal.returns-clause-room
returns-clause-room c = adds_room c.add.result c.args.names.now c.args.name c.add.ensures.variant

pub returns-clause-kept : goal.returns-clause-kept
returns-clause-kept c =
    adds_kept c.add.result c.args.names.now c.add.new.self c.args.name (adds_room c.add.result c.args.names.now c.args.name c.add.ensures.variant) c.add.ensures.added
    c.add.ensures.kept
