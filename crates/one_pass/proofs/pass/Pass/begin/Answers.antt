use Rattle.one_pass.proofs.pass.Pass.begin.Goals as goal

pub begin_with-requires : goal.begin_with-requires
begin_with-requires g c = record { known = c.new.ensures c.args.table.now }
