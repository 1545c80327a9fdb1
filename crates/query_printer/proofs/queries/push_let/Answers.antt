use Rattle.std.proofs.Common.{ap, ◌∙◌, ◌++◌}
use Rattle.std.specs.Prelude.{codes}
use Rattle.spanner_model.specs.ExprView.{expr_of, lets_of}
use Rattle.query_parser.specs.Spells.{names_of}
use Rattle.query_printer.specs.PrintedQuery.{printed}
use Rattle.query_printer.proofs.PrintedParts.{five_on}
use Rattle.query_printer.proofs.queries.push_let.Goals as goal

pub returns-clause-ok : goal.returns-clause-ok
returns-clause-ok c =
    five_on c.push_bytes-4.result c.args.out.now.items (codes "let ") c.args.named.now.0 (codes " = ") (printed (names_of (lets_of c.args.lets.now)) (expr_of c.args.named.now.1)) (codes "; ")
    c.push_bytes.new.out.items c.push_bytes-2.new.out.items c.push_bytes-3.new.out.items c.push_expr.new.out.items c.push_bytes-4.new.out.items c.in_ok-push_bytes.ensures.ok
    (c.in_ok-push_bytes-2.ensures.ok ∙ ap (λ x. c.push_bytes.new.out.items ++ x) c.as_bytes.ensures.value) c.in_ok-push_bytes-3.ensures.ok c.in_ok-push_expr.ensures.ok c.push_bytes-4.ensures.ok
