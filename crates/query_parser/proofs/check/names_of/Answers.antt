use Rattle.std.proofs.Common.{arith, []}
use Rattle.spanner_model.specs.ExprView.{expr_of, lets_of, query_of}
use Rattle.spanner_model.specs.Captures.{VarName}
use Rattle.spanner_model.specs.Expression.{ExprTree}
use Rattle.spanner_model.specs.Sound.{NameIn, NameInLets}
use Rattle.spanner_model.proofs.GatheredLaws.{gathered_next, gathered_no_more}
use Rattle.query_parser.proofs.ReachLaws.{let_in_turn}
use Rattle.query_parser.proofs.KnownLaws.{all_names, many_names, many_let_names}
use Rattle.query_parser.proofs.check.names_of.Goals as goal

pub gather_names-requires : goal.gather_names-requires
gather_names-requires c = (c.loop-k.k, c.requires.0 c.loop-k.k (c.at.result.now.0, expr_of c.at.result.now.1) c.at.ensures)

pub loop-k-preserved : goal.loop-k-preserved
loop-k-preserved c =
    let l : VarName × ExprTree = (c.at.result.now.0, expr_of c.at.result.now.1) in
    gathered_next (λ (l : VarName × ExprTree) (x : VarName). NameIn l.1 x) NameInLets let_in_turn (lets_of c.args.query.now.lets) c.loop-k.k l []
    c.loop-k.names c.gather_names.new.into c.at.ensures c.loop-k.invariant
    c.if-not-gather_names.ensures

pub returns-then-not-gather_names-clause-none : goal.returns-then-not-gather_names-clause-none
returns-then-not-gather_names-clause-none c =
    let q = query_of c.args.query.now in
    let l : VarName × ExprTree = (c.at.result.now.0, expr_of c.at.result.now.1) in
    many_let_names q c.gather_names.new.into
    (gathered_no_more (λ (l : VarName × ExprTree) (x : VarName). NameIn l.1 x) NameInLets let_in_turn q.lets c.loop-k.k l [] c.loop-k.names c.gather_names.new.into c.at.ensures c.loop-k.invariant
    c.if-not-gather_names.ensures)

pub returns-then-all-clause-names : goal.returns-then-all-clause-names
returns-then-all-clause-names c =
    all_names (query_of c.args.query.now) c.loop-k.k c.loop-k.names c.gather_names-all.new.into (omega (arith, c.len-k-end.ensures, c.loop-k-test.false)) c.loop-k.invariant c.if-all.ensures

pub returns-else-all-clause-none : goal.returns-else-all-clause-none
returns-else-all-clause-none c =
    many_names (query_of c.args.query.now) c.loop-k.k c.loop-k.names c.gather_names-all.new.into (omega (arith, c.len-k-end.ensures, c.loop-k-test.false)) c.loop-k.invariant c.if-all.ensures
