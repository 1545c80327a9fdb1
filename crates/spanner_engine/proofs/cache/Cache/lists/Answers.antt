use Rattle.std.proofs.Common.{◌∙◌}
use Rattle.one_pass.specs.Places.{is_touched}
use Rattle.spanner_engine.proofs.CacheLaws.{kept_of}
use Rattle.spanner_engine.proofs.Starting.{start_fault}
use Rattle.spanner_engine.proofs.cache.Cache.lists.Goals as goal

pub returns-in-Ok-clause-words : goal.returns-in-Ok-clause-words
returns-in-Ok-clause-words g c =
    rw c.keep.ensures.lists
    (rw c.take_up-table.ensures at c.in-Ok.ensures.words)

pub returns-in-Ok-clause-weighs : goal.returns-in-Ok-clause-weighs
returns-in-Ok-clause-weighs g c =
    let A = c.args.automaton.now.graph in
    let of = kept_of A c.args.self.now c.in-Some.kept c.requires.cache c.in-Some.ensures.kept.0 in
    rw (of.limit_is ∙ c.in-Some.ensures.kept.1) at (rw c.take_up-table.ensures at c.in-Ok.ensures.weighs)

pub returns-in-Err-clause-cause : goal.returns-in-Err-clause-cause
returns-in-Err-clause-cause g c =
    start_fault c.args.automaton.now.graph c.args.doc.now (is_touched c.args.positions.now) c.args.limit c.in-Err.fault c.in-Err.ensures.refused

pub returns-in-Ok-list-clause-words : goal.returns-in-Ok-list-clause-words
returns-in-Ok-list-clause-words g c =
    rw c.keep-in-Ok-list.ensures.lists
    (rw c.in-Ok-new.ensures.new at c.in-Ok-list.ensures.words)

pub returns-in-Ok-list-clause-weighs : goal.returns-in-Ok-list-clause-weighs
returns-in-Ok-list-clause-weighs g c =
    rw c.in-Ok-new.ensures.new at c.in-Ok-list.ensures.weighs
