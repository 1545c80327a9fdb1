use Rattle.std.proofs.Common.{◌≡◌, ◌∙◌, sym, subst, ap, arith, [], ◌∷◌, ◌++◌, length}
use Rattle.spanner_model.specs.ExprView.{expr_of, lets_of}
use Rattle.query_parser.specs.Spells.{names_of}
use Rattle.query_parser.specs.Numbers.{Numbers}
use Rattle.query_parser.proofs.MoveLaws.{names_more, names_len}
use Rattle.query_parser.proofs.NumberLaws.{numbers_more}
use Rattle.query_parser.proofs.named.Named.with.Goals as goal

pub invariant_of-result : goal.invariant_of-result
invariant_of-result c =
    let old = lets_of c.args.self.lets in
    let same : names_of (lets_of c.push.new.self) ≡ names_of old ++ c.args.name ∷ [] =
    ap names_of c.in-Ok-push.ensures.lets ∙ names_more old c.args.name (expr_of c.args.expr) in
    let is : c.in-Ok.number ≡ length (names_of old) = grind (arith, c.in-Ok.ensures, c.len.ensures, names_len old) in
    record {
      told = subst (Numbers c.insert.new.self) (sym same)
          (numbers_more c.args.self.numbers c.insert.new.self (names_of old) c.args.name c.in-Ok.number c.args.self.told c.in-Ok-insert.ensures.updates is);
    }
