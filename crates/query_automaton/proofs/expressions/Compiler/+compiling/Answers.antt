use Rattle.std.proofs.Common.{ℕ, ◌+◌, ◌≤◌, length, refl, ap, ◌∙◌, arith}
use Rattle.std.specs.Prelude.{IfErr}
use Rattle.std.proofs.lemmas.Result.{IfErr-weaker}
use Rattle.marked_automaton.specs.Automaton.{size}
use Rattle.spanner_model.specs.ExprView.{expr_of, exprs_of, query_of}
use Rattle.spanner_model.proofs.ExprTrees.{expr_of-Atom, expr_of-Join, expr_of-Named, expr_of-Union}
use Rattle.algebra.proofs.Followed.{handed_on}
use Rattle.query_automaton.specs.BegunQuery.{BegunQuery, HasCauseBeside, HasCauseIn}
use Rattle.query_automaton.specs.QueryAutomaton.{of_lets}
use Rattle.query_automaton.proofs.Combining.{Union, Join}
use Rattle.query_automaton.proofs.CompileLaws.{part_can, so_far_all}
use Rattle.query_automaton.proofs.HeldLaws.{cause_first, cause_inside, cause_left, cause_next, cause_project, cause_right, cause_up, compiled_size, so_far_size, takes_project}
use Rattle.query_automaton.proofs.StepLaws.{steps_first}
use Rattle.query_automaton.proofs.StepQueries.{AreNext, IsFirst, first_so_far, first_spends, first_spent, first_takes, next_fault, next_names, next_so_far, next_takes}
use Rattle.query_automaton.proofs.MinusLaws.{AreSides, differed, differing_fault, differing_takes, minus_of, names_agree, right_can}
use Rattle.spanner_model.proofs.Nodes.{expr_nodes}
use Rattle.query_automaton.proofs.PieceLaws.{kept_there, project_of, projected}
use Rattle.query_automaton.proofs.expressions.Compiler.+compiling.Goals as goal
use Rattle.query_automaton.proofs.expressions.Compiler.+compiling.Goals.{expression-After-as_automaton-in-Minus, join-After-as_automaton-in-loop-k, union-After-as_automaton, union-After-as_automaton-in-loop-k}

-- ---- one expression

pub expression-named-requires : goal.expression-named-requires
expression-named-requires t c =
    let e = ap expr_of c.in-Named.is ∙ expr_of-Named c.in-Named.k in
    (rw e at c.requires).asked.sound_expr

pub expression-returns-in_ok-named-in-Named-clause-made : goal.expression-returns-in_ok-named-in-Named-clause-made
expression-returns-in_ok-named-in-Named-clause-made t c =
    let named = c.in_ok-named-in-Named in
    rw (ap expr_of c.in-Named.is ∙ expr_of-Named c.in-Named.k)
    (record { reduces = c.requires.known.reduce c.in-Named.k named.field-0 named.ensures; small = tt })

pub expression-returns-in_ok-named-in-Named-clause-steps : goal.expression-returns-in_ok-named-in-Named-clause-steps
expression-returns-in_ok-named-in-Named-clause-steps t c = λ most within. omega arith

-- ---- a projection

pub expression-projected-requires : goal.expression-projected-requires
expression-projected-requires t c = kept_there (rw (project_of c.in-Project.is c.deref.ensures) at c.requires) c.in_ok-inner-in-Project.ensures.made

pub expression-returns-in_ok-projected-in-Project-clause-made : goal.expression-returns-in_ok-projected-in-Project-clause-made
expression-returns-in_ok-projected-in-Project-clause-made t c =
    let p = c.in_ok-projected-in-Project.ensures in
    let e = project_of c.in-Project.is c.deref.ensures in
    rw e (projected (rw e at c.requires) c.in_ok-inner-in-Project.ensures.made p.names p.reduct)

pub expression-returns-in_err-inner-in-Project-clause-fault : goal.expression-returns-in_err-inner-in-Project-clause-fault
expression-returns-in_err-inner-in-Project-clause-fault t c =
    handed_on _ _ _ c.from_residual-in_err-inner-in-Project.ensures.1
    (rw (project_of c.in-Project.is c.deref.ensures) (cause_inside _ _ _ _ _ _ c.in_err-inner-in-Project.ensures.fault))

pub expression-returns-in_ok-projected-in-Project-clause-steps : goal.expression-returns-in_ok-projected-in-Project-clause-steps
expression-returns-in_ok-projected-in-Project-clause-steps t c =
    let inner = c.in_ok-inner-in-Project.ensures in
    let p = c.in_ok-projected-in-Project.ensures in
    rw (project_of c.in-Project.is c.deref.ensures) (takes_project _ inner.made p.marked _ _ inner.steps _ p.steps)

pub expression-returns-in_err-projected-in-Project-clause-fault : goal.expression-returns-in_err-projected-in-Project-clause-fault
expression-returns-in_err-projected-in-Project-clause-fault t c =
    let inner = c.in_ok-inner-in-Project.ensures in
    let p = c.in_err-projected-in-Project.ensures in
    handed_on _ _ _ c.from_residual-in_err-projected-in-Project.ensures.1
    (rw (project_of c.in-Project.is c.deref.ensures) (cause_project _ inner.made p.marked _ _ inner.steps _ _ p.fault))

-- ---- a difference

pub expression-beside-requires : goal.expression-beside-requires
expression-beside-requires t c =
    let e = minus_of c.in-Minus.is c.deref-in-Minus.ensures c.deref-in-Minus-2.ensures in
    (omega (arith, ap expr_nodes e), rw c.in_ok-first-in-Minus.ensures.same (right_can (rw e at c.requires)))

pub expression-returns-in_err-first-in-Minus-clause-fault : goal.expression-returns-in_err-first-in-Minus-clause-fault
expression-returns-in_err-first-in-Minus-clause-fault t c =
    handed_on _ _ _ c.from_residual-in_err-first-in-Minus.ensures.1
    (cause_left _ _ _ _ _ (minus_of c.in-Minus.is c.deref-in-Minus.ensures refl) _ c.in_err-first-in-Minus.ensures.fault)

pub expression-returns-in_err-second-in-Minus-clause-fault : goal.expression-returns-in_err-second-in-Minus-clause-fault
expression-returns-in_err-second-in-Minus-clause-fault t c =
    let first = c.in_ok-first-in-Minus.ensures in
    let second = c.in_err-second-in-Minus.ensures in
    handed_on _ _ _ c.from_residual-in_err-second-in-Minus.ensures.1
    (cause_right _ _ _ _ _ _ c.in_ok-first-in-Minus.first (minus_of c.in-Minus.is c.deref-in-Minus.ensures c.deref-in-Minus-2.ensures) _
    (compiled_size first.made second.marked) first.steps (rw first.same at second.fault))

-- both sides are compiled
sides : {t : ℕ} (c : expression-After-as_automaton-in-Minus t) →
    AreSides c.args.self.now (expr_of c.args.expr.now) (expr_of c.deref-in-Minus.result.now) (expr_of c.deref-in-Minus-2.result.now)
    c.as_automaton.result.now c.as_automaton-in-Minus.result.now c.args.effort.now c.expression-in-Minus.new.effort c.beside.new.effort
sides c =
    let e = minus_of c.in-Minus.is c.deref-in-Minus.ensures c.deref-in-Minus-2.ensures in
    let first = c.in_ok-first-in-Minus.ensures in
    let second = c.in_ok-second-in-Minus.ensures in
    record {
      is = e;
      can = rw e at c.requires;
      left = rw c.as_automaton.ensures first.made;
      right = rw c.as_automaton-in-Minus.ensures (rw first.same at second.made);
      first = first.steps;
      second = rw first.same at second.steps;
    }

pub expression-differing-requires : goal.expression-differing-requires
expression-differing-requires t c = names_agree (sides (goal.at.expression-differing-requires t c).After-as_automaton-in-Minus)

pub expression-returns-in_ok-differing-in-Minus-clause-made : goal.expression-returns-in_ok-differing-in-Minus-clause-made
expression-returns-in_ok-differing-in-Minus-clause-made t c =
    let both = sides (goal.at.expression-returns-in_ok-differing-in-Minus-clause-made t c).After-as_automaton-in-Minus in
    differed both c.in_ok-differing-in-Minus.ensures.marked c.in_ok-differing-in-Minus.ensures.made

pub expression-returns-in_err-differing-in-Minus-clause-fault : goal.expression-returns-in_err-differing-in-Minus-clause-fault
expression-returns-in_err-differing-in-Minus-clause-fault t c =
    let both = sides (goal.at.expression-returns-in_err-differing-in-Minus-clause-fault t c).After-as_automaton-in-Minus in
    handed_on _ _ _ c.from_residual-in_err-differing-in-Minus.ensures.1
    (differing_fault both c.in_err-differing-in-Minus.ensures.marked _ c.in_err-differing-in-Minus.ensures.fault)

pub expression-returns-in_ok-differing-in-Minus-clause-steps : goal.expression-returns-in_ok-differing-in-Minus-clause-steps
expression-returns-in_ok-differing-in-Minus-clause-steps t c =
    let both = sides (goal.at.expression-returns-in_ok-differing-in-Minus-clause-steps t c).After-as_automaton-in-Minus in
    differing_takes both c.in_ok-differing-in-Minus.ensures.marked _ c.in_ok-differing-in-Minus.ensures.steps

-- ---- an atom, a union or a join as it is met

pub expression-returns-in-Atom-clause-fault : goal.expression-returns-in-Atom-clause-fault
expression-returns-in-Atom-clause-fault t c = rw (ap expr_of c.in-Atom.is ∙ expr_of-Atom c.in-Atom.atom) c.atom.ensures.fault

pub expression-returns-in-Atom-clause-steps : goal.expression-returns-in-Atom-clause-steps
expression-returns-in-Atom-clause-steps t c = rw (ap expr_of c.in-Atom.is ∙ expr_of-Atom c.in-Atom.atom) c.atom.ensures.steps

pub expression-returns-in-Union-clause-fault : goal.expression-returns-in-Union-clause-fault
expression-returns-in-Union-clause-fault t c = rw (ap expr_of c.in-Union.is ∙ expr_of-Union c.in-Union.parts) c.union.ensures.fault

pub expression-returns-in-Union-clause-steps : goal.expression-returns-in-Union-clause-steps
expression-returns-in-Union-clause-steps t c = rw (ap expr_of c.in-Union.is ∙ expr_of-Union c.in-Union.parts) c.union.ensures.steps

pub expression-returns-in-Join-clause-fault : goal.expression-returns-in-Join-clause-fault
expression-returns-in-Join-clause-fault t c = rw (ap expr_of c.in-Join.is ∙ expr_of-Join c.in-Join.parts) c.join.ensures.fault

pub expression-returns-in-Join-clause-steps : goal.expression-returns-in-Join-clause-steps
expression-returns-in-Join-clause-steps t c = rw (ap expr_of c.in-Join.is ∙ expr_of-Join c.in-Join.parts) c.join.ensures.steps

-- ---- an expression beside one that waits

pub beside-returns-clause-fault : goal.beside-returns-clause-fault
beside-returns-clause-fault t c =
    let E = c.args.effort.now in
    let b = c.args.self.now in
    let w = c.args.waiting.now in
    let e = expr_of c.args.expr.now in
    let more = c.in_ok-self-inside.field-0 in
    let at : BegunQuery → BegunQuery = λ d. record { query = d.query; lets = d.lets; held = more } in
    let held : more ≤ b.held + size w.graph = omega (arith, c.in_ok-self-inside.ensures.all.0, ap (λ (d : BegunQuery). d.held) c.self.view_is, c.own_size.ensures.most) in
    let made : IfErr c.expression-made.result (HasCauseIn (at b) E e) =
    rw (← c.self.view_is) c.expression-made.ensures.fault in
    IfErr-weaker c.expression-made.result (HasCauseIn (at b) E e) (HasCauseBeside b w E e)
    (λ fault h. cause_up (of_lets (query_of b.query).lets (length b.lets)) (b.held + size w.graph) more E E e e fault (λ n p. p) (λ most within. omega (arith, held)) (λ most within le. le) h) made

pub beside-returns-clause-steps : goal.beside-returns-clause-steps
beside-returns-clause-steps t c =
    let e = expr_of c.args.expr.now in
    rw (← c.self.view_is) c.expression-made.ensures.steps

-- ---- a union

pub union-expression-requires : goal.union-expression-requires
union-expression-requires t c =
    let part = part_can Union _ _ c.at.ensures c.requires in
    (omega (arith, part.0), part.1)

pub union-returns-in_err-all-clause-fault : goal.union-returns-in_err-all-clause-fault
union-returns-in_err-all-clause-fault t c =
    handed_on _ _ _ c.from_residual.ensures.1 (cause_first _ _ _ Union _ _ _ c.at.ensures _ c.in_err-all.ensures.fault)

-- the first part is compiled
first_of_union : {t : ℕ} (c : union-After-as_automaton t) →
    IsFirst c.args.self.now Union (exprs_of c.args.parts.now) (expr_of c.at.result.now) c.in_ok-all.all c.args.effort.now c.expression.new.effort
first_of_union c = record { can = c.requires; at = c.at.ensures; made = c.in_ok-all.ensures.made; takes = c.in_ok-all.ensures.steps }

pub union-returns-in_err-spend-clause-fault : goal.union-returns-in_err-spend-clause-fault
union-returns-in_err-spend-clause-fault t c =
    let first = first_of_union (goal.at.union-returns-in_err-spend-clause-fault t c).After-as_automaton in
    let spent = c.in_err-spend.ensures in
    handed_on _ _ _ c.from_residual-in_err-spend.ensures.1 (first_spent first c.as_automaton.ensures spent.marked spent.spent _ spent.fault)

pub union-loop-k-init : goal.union-loop-k-init
union-loop-k-init t c =
    let first = first_of_union (goal.at.union-loop-k-init t c).After-as_automaton in
    record {
      begun = omega arith;
      same = c.in_ok-all.ensures.same;
      so_far = first_so_far first;
      steps = first_spends first c.as_automaton.ensures c.in_ok-spend.ensures.marked _ c.in_ok-spend.ensures.steps;
    }

pub union-beside-requires : goal.union-beside-requires
union-beside-requires t c =
    let part = part_can Union _ _ c.at-in-loop-k.ensures c.requires in
    (omega (arith, part.0), rw c.loop-k.invariant.same part.1)

pub union-returns-in_err-part-clause-fault : goal.union-returns-in_err-part-clause-fault
union-returns-in_err-part-clause-fault t c =
    let before = c.loop-k.invariant in
    let part = c.in_err-part.ensures in
    handed_on _ _ _ c.from_residual-in_err-part.ensures.1
    (cause_next _ _ _ _ Union _ _ _ c.loop-k.all c.at-in-loop-k.ensures _ (so_far_size before.so_far part.marked) before.steps (rw before.same at part.fault))

-- the first parts are compiled, and the next
next_of_union : {t : ℕ} (c : union-After-as_automaton-in-loop-k t) →
    AreNext c.args.self.now Union (exprs_of c.args.parts.now) c.loop-k.k (expr_of c.at-in-loop-k.result.now) c.loop-k.all c.as_automaton-in-loop-k.result.now
    c.args.effort.now c.loop-k.effort c.beside.new.effort
next_of_union c =
    let before = c.loop-k.invariant in
    let part = c.in_ok-part.ensures in
    record {
      can = c.requires;
      begun = before.begun;
      at = c.at-in-loop-k.ensures;
      so_far = before.so_far;
      part = rw c.as_automaton-in-loop-k.ensures (rw before.same at part.made);
      first = before.steps;
      takes = rw before.same at part.steps;
    }

pub union-united-requires : goal.union-united-requires
union-united-requires t c = next_names (next_of_union (goal.at.union-united-requires t c).After-as_automaton-in-loop-k)

pub union-returns-in_err-all-2-clause-fault : goal.union-returns-in_err-all-2-clause-fault
union-returns-in_err-all-2-clause-fault t c =
    let next = next_of_union (goal.at.union-returns-in_err-all-2-clause-fault t c).After-as_automaton-in-loop-k in
    handed_on _ _ _ c.from_residual-in_err-all-2.ensures.1 (next_fault next c.in_err-all-2.ensures.marked _ c.in_err-all-2.ensures.fault)

pub union-loop-k-preserved : goal.union-loop-k-preserved
union-loop-k-preserved t c =
    let next = next_of_union (goal.at.union-loop-k-preserved t c).After-as_automaton-in-loop-k in
    let made = c.in_ok-all-2.ensures in
    record {
      begun = omega arith;
      same = made.same ∙ (c.in_ok-part.ensures.same ∙ c.loop-k.invariant.same);
      so_far = next_so_far next made.marked made.made;
      steps = next_takes next made.marked _ made.steps;
    }

pub union-returns-clause-made : goal.union-returns-clause-made
union-returns-clause-made t c = so_far_all c.requires.known c.requires.asked (λ two. omega (arith, two)) c.loop-k.invariant.so_far

pub union-returns-clause-steps : goal.union-returns-clause-steps
union-returns-clause-steps t c = λ most within. omega (arith, c.loop-k.invariant.steps most within, steps_first most Union c.loop-k.k (exprs_of c.args.parts.now))

-- ---- a join

pub join-expression-requires : goal.join-expression-requires
join-expression-requires t c =
    let part = part_can Join _ _ c.at.ensures c.requires in
    (omega (arith, part.0), part.1)

pub join-returns-in_err-all-clause-fault : goal.join-returns-in_err-all-clause-fault
join-returns-in_err-all-clause-fault t c =
    handed_on _ _ _ c.from_residual.ensures.1 (cause_first _ _ _ Join _ _ _ c.at.ensures _ c.in_err-all.ensures.fault)

pub join-loop-k-init : goal.join-loop-k-init
join-loop-k-init t c =
    let all = c.in_ok-all.ensures in
    let first : IsFirst c.args.self.now Join (exprs_of c.args.parts.now) (expr_of c.at.result.now) c.in_ok-all.all c.args.effort.now c.expression.new.effort =
    record { can = c.requires; at = c.at.ensures; made = all.made; takes = all.steps } in
    record {
      begun = omega arith;
      same = c.in_ok-all.ensures.same;
      so_far = first_so_far first;
      steps = first_takes first;
    }

pub join-beside-requires : goal.join-beside-requires
join-beside-requires t c =
    let part = part_can Join _ _ c.at-in-loop-k.ensures c.requires in
    (omega (arith, part.0), rw c.loop-k.invariant.same part.1)

pub join-returns-in_err-part-clause-fault : goal.join-returns-in_err-part-clause-fault
join-returns-in_err-part-clause-fault t c =
    let before = c.loop-k.invariant in
    let part = c.in_err-part.ensures in
    handed_on _ _ _ c.from_residual-in_err-part.ensures.1
    (cause_next _ _ _ _ Join _ _ _ c.loop-k.all c.at-in-loop-k.ensures _ (so_far_size before.so_far part.marked) before.steps (rw before.same at part.fault))

-- the first parts are compiled, and the next
next_of_join : {t : ℕ} (c : join-After-as_automaton-in-loop-k t) →
    AreNext c.args.self.now Join (exprs_of c.args.parts.now) c.loop-k.k (expr_of c.at-in-loop-k.result.now) c.as_automaton.result.now c.as_automaton-in-loop-k.result.now
    c.args.effort.now c.loop-k.effort c.beside.new.effort
next_of_join c =
    let before = c.loop-k.invariant in
    let part = c.in_ok-part.ensures in
    record {
      can = c.requires;
      begun = before.begun;
      at = c.at-in-loop-k.ensures;
      so_far = rw c.as_automaton.ensures before.so_far;
      part = rw c.as_automaton-in-loop-k.ensures (rw before.same at part.made);
      first = before.steps;
      takes = rw before.same at part.steps;
    }

pub join-joined-requires : goal.join-joined-requires
join-joined-requires t c = next_names (next_of_join (goal.at.join-joined-requires t c).After-as_automaton-in-loop-k)

pub join-returns-in_err-all-2-clause-fault : goal.join-returns-in_err-all-2-clause-fault
join-returns-in_err-all-2-clause-fault t c =
    let next = next_of_join (goal.at.join-returns-in_err-all-2-clause-fault t c).After-as_automaton-in-loop-k in
    handed_on _ _ _ c.from_residual-in_err-all-2.ensures.1 (next_fault next c.in_err-all-2.ensures.marked _ c.in_err-all-2.ensures.fault)

pub join-loop-k-preserved : goal.join-loop-k-preserved
join-loop-k-preserved t c =
    let next = next_of_join (goal.at.join-loop-k-preserved t c).After-as_automaton-in-loop-k in
    let made = c.in_ok-all-2.ensures in
    record {
      begun = omega arith;
      same = made.same ∙ (c.in_ok-part.ensures.same ∙ c.loop-k.invariant.same);
      so_far = next_so_far next made.marked made.made;
      steps = next_takes next made.marked _ made.steps;
    }

pub join-returns-clause-made : goal.join-returns-clause-made
join-returns-clause-made t c = so_far_all c.requires.known c.requires.asked (λ two. omega (arith, two)) c.loop-k.invariant.so_far

pub join-returns-clause-steps : goal.join-returns-clause-steps
join-returns-clause-steps t c = λ most within. omega (arith, c.loop-k.invariant.steps most within, steps_first most Join c.loop-k.k (exprs_of c.args.parts.now))
