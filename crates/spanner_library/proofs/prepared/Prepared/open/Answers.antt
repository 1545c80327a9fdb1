use Rattle.std.proofs.Common.{◌+◌, ◌≤◌, ℕ, Bool, List, subst, sym}
use Rattle.std.specs.Option.{option_copied}
use Rattle.spanner_engine.specs.Begun.{AreRead, IsReadWithin, begin_steps, row_kept}
use Rattle.spanner_model.specs.Answers.{SpanRow}
use Rattle.spanner_model.specs.ExprView.{query_of}
use Rattle.spanner_engine.specs.Filtering.{AreAtomsWithin}
use Rattle.spanner_engine.specs.Fitting.{AreLast}
use Rattle.spanner_engine.specs.declared.beginning.BeginFault.TheVariants.{CursorOther, CursorPlace}
use Rattle.spanner_engine.proofs.PassingLaws.{left_last}
use Rattle.spanner_library.specs.Library.{PreparedQuery, tree}
use Rattle.spanner_library.proofs.Opening.{same_fault}
use Rattle.spanner_library.proofs.prepared.Prepared.open.Goals as goal

pub returns-in-Ok-clause-steps : goal.returns-in-Ok-clause-steps
returns-in-Ok-clause-steps g c =
    let d = c.args.document.now in
    let filter = c.args.options.filter in
    let kept = row_kept (option_copied c.args.after) in
    subst (λ (p : PreparedQuery). (K : ℕ → Bool) → AreRead filter (tree p).query d K → c.begin_by.new.steps ≤ c.args.steps.now + begin_steps filter (tree p).query d K kept)
    c.self.view_is c.begin_by.ensures.steps

pub returns-in-Err-clause-steps : goal.returns-in-Err-clause-steps
returns-in-Err-clause-steps g c =
    let d = c.args.document.now in
    let filter = c.args.options.filter in
    let kept = row_kept (option_copied c.args.after) in
    subst (λ (p : PreparedQuery). (K : ℕ → Bool) → AreRead filter (tree p).query d K → c.begin_by.new.steps ≤ c.args.steps.now + begin_steps filter (tree p).query d K kept)
    c.self.view_is c.begin_by.ensures.steps

pub returns-in-Ok-clause-last : goal.returns-in-Ok-clause-last
returns-in-Ok-clause-last g c =
    subst (λ (rows : List SpanRow). AreLast (query_of c.args.self.now.tested.query) c.args.document.now c.args.self.now.names rows) (sym c.over.ensures.rest)
    (subst (λ (p : PreparedQuery). AreLast (tree p).query c.args.document.now p.names c.in-Ok.answers.rest) c.self.view_is (left_last _ _ _ _ _ c.in-Ok.ensures.left))

pub returns-in-Ok-clause-weighs : goal.returns-in-Ok-clause-weighs
returns-in-Ok-clause-weighs g c =
    subst (λ (p : PreparedQuery). IsReadWithin p.graph (tree p).query c.args.document.now c.args.options.filter c.args.options.limit) c.self.view_is c.in-Ok.ensures.weighs

pub returns-in-Ok-clause-atoms : goal.returns-in-Ok-clause-atoms
returns-in-Ok-clause-atoms g c =
    subst (λ (p : PreparedQuery). AreAtomsWithin (tree p).query c.args.document.now c.args.options.filter c.args.options.limit) c.self.view_is c.in-Ok.ensures.atoms

pub returns-in-Err-clause-still : goal.returns-in-Err-clause-still
returns-in-Err-clause-still g c kept found = same_fault c.in-Err.fault CursorPlace (CursorOther kept found) (c.in-Err.ensures.still kept found)
