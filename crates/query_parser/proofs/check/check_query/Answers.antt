use Rattle.std.proofs.Common.{◌≡◌, ℕ, inl, inr, List, [], ◌∷◌, ◌++◌, length, length-append, ap, ◌∙◌, arith}
use Rattle.std.proofs.lemmas.List.{length-map, map-append}
use Rattle.std.proofs.lemmas.Option.{slice_get_within}
use Rattle.span_core.proofs.HasLaws.{Has-slice_get}
use Rattle.spanner_model.specs.Captures.{VarName}
use Rattle.spanner_model.specs.Expression.{ExprTree}
use Rattle.spanner_model.specs.ExprView.{expr_of, query_of}
use Rattle.query_parser.specs.declared.check.Bound.{Bound}
use Rattle.query_parser.specs.TreeFaults.{Passes, LetPasses, IsExprFault}
use Rattle.query_parser.specs.Formed.{IsFormed}
use Rattle.query_parser.specs.Bounds.{BoundNames, bound_in, bounds_in, IsBoundOf, HasSureAmongVars, vars_known, sure_known}
use Rattle.query_parser.proofs.ReachLaws.{let_in_turn}
use Rattle.query_parser.proofs.KnownLaws.{Knows, let_fault, known_next, body_fault, all_pass}
use Rattle.query_parser.proofs.check.check_query.Goals as goal

pub check_expr-requires-clause-formed : goal.check_expr-requires-clause-formed
check_expr-requires-clause-formed c =
    let l : VarName × ExprTree = (c.at.result.now.0, expr_of c.at.result.now.1) in
    rw (ap length c.deref.ensures.value ∙ c.loop-k.invariant.long) (c.requires.formed.0 c.loop-k.k l c.at.ensures)

pub check_expr-requires-clause-named : goal.check_expr-requires-clause-named
check_expr-requires-clause-named c =
    let l : VarName × ExprTree = (c.at.result.now.0, expr_of c.at.result.now.1) in
    let q = query_of c.args.query.now in
    λ x n. c.requires.named x (inl (let_in_turn.of_one q.lets l x (Has-slice_get q.lets c.loop-k.k l c.at.ensures) n))

pub check_expr-requires-clause-among : goal.check_expr-requires-clause-among
check_expr-requires-clause-among c =
    rw c.deref.ensures.value c.loop-k.invariant.knows.among

pub returns-in-Err-clause-fault : goal.returns-in-Err-clause-fault
returns-in-Err-clause-fault c =
    let l : VarName × ExprTree = (c.at.result.now.0, expr_of c.at.result.now.1) in
    let names = c.args.names.now in
    let old = c.loop-k.known.items in
    inr (let_fault (query_of c.args.query.now) (bounds_in names old) c.loop-k.k l c.in-Err.fault c.at.ensures (length-map old (bound_in names) ∙ c.loop-k.invariant.long) c.loop-k.invariant.knows
    c.loop-k.invariant.passed
    (rw (← c.deref.ensures.value) c.in-Err.ensures))

pub loop-k-preserved : goal.loop-k-preserved
loop-k-preserved c =
    let l : VarName × ExprTree = (c.at.result.now.0, expr_of c.at.result.now.1) in
    let names = c.args.names.now in
    let q = query_of c.args.query.now in
    let old = c.loop-k.known.items in
    let b = c.in-Ok.bound in
    let here =
    rw c.deref.ensures.value at c.in-Ok.ensures in
    let next = known_next q (bounds_in names old) c.loop-k.k l (bound_in names b) c.at.ensures (length-map old (bound_in names) ∙
    c.loop-k.invariant.long) c.loop-k.invariant.knows c.loop-k.invariant.passed
    (c.requires.formed.0 c.loop-k.k l c.at.ensures) here.0 here.1 in
    let is : c.push.new.self.items ≡ old ++ b ∷ [] = c.in-Ok-push.ensures.items in
    let all : bounds_in names c.push.new.self.items ≡ bounds_in names old ++ bound_in names b ∷ [] = ap (bounds_in names) is ∙ map-append (bound_in names) old (b ∷ []) in
    record {
      long = ap length is ∙ omega (arith, length-append old (b ∷ []), c.loop-k.invariant.long);
      knows = rw all next.knows;
      passed = next.passed;
    }

pub returns-in-Ok-check_expr-clause-passes : goal.returns-in-Ok-check_expr-clause-passes
returns-in-Ok-check_expr-clause-passes c =
    let q = query_of c.args.query.now in
    let names = c.args.names.now in
    let known = c.loop-k.known.items in
    let over = c.loop-k-test.false in
    let all : (j : ℕ) → LetPasses q.lets j = λ j l is. c.loop-k.invariant.passed j (omega (arith, slice_get_within q.lets j l is, c.len-k-end.ensures, over)) l is in
    all_pass q (bounds_in names known) (omega (arith, length-map known (bound_in names), c.loop-k.invariant.long, c.len-k-end.ensures, over, c.loop-k.auto.k-end)) c.loop-k.invariant.knows all
    (rw (← c.deref-2.ensures.value) c.in-Ok-check_expr.ensures.0)

pub returns-clause-fault : goal.returns-clause-fault
returns-clause-fault c =
    let q = query_of c.args.query.now in
    let names = c.args.names.now in
    let known = c.loop-k.known.items in
    let over = c.loop-k-test.false in
    let all : (j : ℕ) → LetPasses q.lets j = λ j l is. c.loop-k.invariant.passed j (omega (arith, slice_get_within q.lets j l is, c.len-k-end.ensures, over)) l is in
    inr (body_fault q (bounds_in names known) c.in-Err-check_expr.fault
    (omega (arith, length-map known (bound_in names), c.loop-k.invariant.long, c.len-k-end.ensures, over, c.loop-k.auto.k-end)) c.loop-k.invariant.knows all
    (rw (← c.deref-2.ensures.value) c.in-Err-check_expr.ensures))
