use Rattle.std.proofs.Common.{ℕ, List, length, refl, arith}
use Rattle.std.proofs.lemmas.Option.{slice_get_within}
use Rattle.span_core.proofs.ListLaws.{prefix_then, prefix_same}
use Rattle.spanner_model.specs.Expression.{ExprTree}
use Rattle.spanner_model.specs.ExprView.{expr_of, lets_of}
use Rattle.query_parser.specs.Spells.{names_of}
use Rattle.query_printer.specs.PrintedQuery.{printed}
use Rattle.query_printer.proofs.PrintedParts.{lets_put, query_put}
use Rattle.query_printer.proofs.SoundFormed.{formed_under}
use Rattle.query_printer.proofs.queries.push_query.Goals as goal

pub push_let-requires : goal.push_let-requires
push_let-requires c =
    let lets = lets_of c.args.query.now.lets in
    let l : List ℕ × ExprTree = (c.at.result.now.0, expr_of c.at.result.now.1) in
    formed_under c.loop-k.k (length lets) (expr_of c.at.result.now.1) (omega (arith, slice_get_within lets c.loop-k.k l c.at.ensures)) (c.requires.0 c.loop-k.k l c.at.ensures)

pub loop-k-preserved : goal.loop-k-preserved
loop-k-preserved c =
    let lets = lets_of c.args.query.now.lets in
    record {
      printed = lets_put (names_of lets) lets c.loop-k.k (c.at.result.now.0, expr_of c.at.result.now.1) c.loop-k.out.items c.push_let.new.out.items _ c.at.ensures c.in_ok-push_let.ensures.ok
          c.loop-k.invariant.printed;
      front = prefix_then _ _ _ c.loop-k.invariant.front c.in_ok-push_let.ensures.front;
    }

pub returns-clause-ok : goal.returns-clause-ok
returns-clause-ok c =
    let lets = lets_of c.args.query.now.lets in
    query_put c.push_expr.result (names_of lets) lets c.loop-k.k c.loop-k.out.items c.args.out.now.items c.push_expr.new.out.items (printed (names_of lets) (expr_of c.args.query.now.body))
    (omega (arith, c.loop-k-test.false, c.len-k-end.ensures)) c.loop-k.invariant.printed c.push_expr.ensures.ok

pub loop-k-init : goal.loop-k-init
loop-k-init c = record { printed = refl; front = prefix_same c.args.out.now.items }
