use Rattle.spanner_model.specs.Captures.{VarName}
use Rattle.spanner_model.specs.Expression.{ExprTree}
use Rattle.spanner_model.specs.ExprView.{expr_of, query_of}
use Rattle.span_core.proofs.HasLaws.{Has-slice_get}
use Rattle.rematch_program.proofs.CountedAtoms.{let_counted}
use Rattle.rematch_program.proofs.AtomLines.{let_lines}
use Rattle.rematch_program.proofs.explanation.push_let_atoms.Goals as goal

pub push_atoms-requires : goal.push_atoms-requires
push_atoms-requires c =
    let lets = (query_of c.args.query.now).lets in
    let l : VarName × ExprTree = (c.at.result.now.0, expr_of c.at.result.now.1) in
    let_counted lets l (Has-slice_get lets c.loop-k.k l c.at.ensures) c.requires

pub loop-k-preserved : goal.loop-k-preserved
loop-k-preserved c =
    let_lines 0 c.args.text.now.items (query_of c.args.query.now).lets c.loop-k.k c.at.result.now.0 (expr_of c.at.result.now.1) c.loop-k.atoms
    c.loop-k.text.items c.in_ok-atoms.atoms c.push_atoms.new.text.items
    c.at.ensures c.loop-k.invariant c.in_ok-atoms.ensures
