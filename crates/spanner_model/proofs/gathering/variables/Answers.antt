use Rattle.std.proofs.Common.{◌≡◌, List, [], ◌∷◌, ◌++◌, length, sym, ap, ◌∙◌, subst, arith, length-append}
use Rattle.std.specs.Prelude.{slice_get}
use Rattle.spanner_model.specs.Captures.{VarName}
use Rattle.spanner_model.specs.ExprView.{expr_of, query_of}
use Rattle.spanner_model.proofs.ExprLaws.{Knows, asked_let, asked_body, knows_more, result_vars}
use Rattle.spanner_model.proofs.gathering.variables.Goals as goal

pub variables_of-vars-requires-clause-under : goal.variables_of-vars-requires-clause-under
variables_of-vars-requires-clause-under c =
    let q = query_of c.args.query.now in
    let is = c.deref.ensures.value in
    (asked_let q c.deref.result.now c.loop-k.k (c.at.result.now.0, expr_of c.at.result.now.1) c.requires (ap length is ∙ c.loop-k.invariant.0)
    (subst (λ (xs : List (List VarName)). Knows q.lets xs) (sym is) c.loop-k.invariant.1) c.at.ensures).under

pub variables_of-vars-requires-clause-room : goal.variables_of-vars-requires-clause-room
variables_of-vars-requires-clause-room c =
    let q = query_of c.args.query.now in
    let is = c.deref.ensures.value in
    (asked_let q c.deref.result.now c.loop-k.k (c.at.result.now.0, expr_of c.at.result.now.1) c.requires (ap length is ∙ c.loop-k.invariant.0)
    (subst (λ (xs : List (List VarName)). Knows q.lets xs) (sym is) c.loop-k.invariant.1) c.at.ensures).room

pub loop-k-preserved : goal.loop-k-preserved
loop-k-preserved c =
    let q = query_of c.args.query.now in
    let is = c.deref.ensures.value in
    let items = c.in_ok-push.ensures.items in
    let knows : Knows q.lets c.deref.result.now = subst (λ (xs : List (List VarName)). Knows q.lets xs) (sym is) c.loop-k.invariant.1 in
    let at = ap (λ n. slice_get q.lets n) (ap length is ∙ c.loop-k.invariant.0) ∙ c.at.ensures in
    let more = knows_more q.lets c.deref.result.now (c.at.result.now.0, expr_of c.at.result.now.1) c.variables_of-vars.result at knows c.variables_of-vars.ensures.names in
    let grown = items ∙ ap (λ (xs : List (List VarName)). xs ++ c.variables_of-vars.result ∷ []) (sym is) in
    (omega (arith, ap length items, length-append c.loop-k.known.items (c.variables_of-vars.result ∷ []), c.loop-k.invariant.0), subst (λ (xs : List (List VarName)). Knows q.lets xs) (sym grown) more)

pub variables_of-requires-clause-under : goal.variables_of-requires-clause-under
variables_of-requires-clause-under c =
    let q = query_of c.args.query.now in
    let is = c.deref-2.ensures.value in
    let long : length c.deref-2.result.now ≡ length q.lets = omega (arith, ap length is, c.loop-k.invariant.0, c.loop-k-test.false, c.loop-k.auto.k-end, c.len-k-end.ensures) in
    (asked_body q c.deref-2.result.now c.requires long (subst (λ (xs : List (List VarName)). Knows q.lets xs) (sym is) c.loop-k.invariant.1)).under

pub variables_of-requires-clause-room : goal.variables_of-requires-clause-room
variables_of-requires-clause-room c =
    let q = query_of c.args.query.now in
    let is = c.deref-2.ensures.value in
    let long : length c.deref-2.result.now ≡ length q.lets = omega (arith, ap length is, c.loop-k.invariant.0, c.loop-k-test.false, c.loop-k.auto.k-end, c.len-k-end.ensures) in
    (asked_body q c.deref-2.result.now c.requires long (subst (λ (xs : List (List VarName)). Knows q.lets xs) (sym is) c.loop-k.invariant.1)).room

pub returns : goal.returns
returns c =
    let q = query_of c.args.query.now in
    let is = c.deref-2.ensures.value in
    let long : length c.deref-2.result.now ≡ length q.lets = omega (arith, ap length is, c.loop-k.invariant.0, c.loop-k-test.false, c.loop-k.auto.k-end, c.len-k-end.ensures) in
    let knows : Knows q.lets c.deref-2.result.now = subst (λ (xs : List (List VarName)). Knows q.lets xs) (sym is) c.loop-k.invariant.1 in (
      c.variables_of.ensures.ascending,
      λ x. let v = result_vars q c.deref-2.result.now x long knows in
          (λ h. v.0 ((c.variables_of.ensures.names x).0 h), λ h. (c.variables_of.ensures.names x).1 (v.1 h)),
    )
