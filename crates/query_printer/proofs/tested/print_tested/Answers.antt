use Rattle.spanner_model.specs.ExprView.{query_of}
use Rattle.query_printer.proofs.SoundFormed.{query_is_formed}
use Rattle.query_printer.proofs.tested.print_tested.Goals as goal

pub push_tested-done-requires : goal.push_tested-done-requires
push_tested-done-requires c = query_is_formed (query_of c.args.tested.now.query) c.requires
