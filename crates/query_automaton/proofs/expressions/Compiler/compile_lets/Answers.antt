use Rattle.std.proofs.Common.{◌≡◌, ◌+◌, ◌≤◌, List, [], ◌∷◌, ◌++◌, Some, rules, length, length-append, sym, ap, ◌∙◌, subst, arith}
use Rattle.std.specs.Prelude.{slice_get}
use Rattle.spanner_model.specs.ExprView.{expr_of, query_of}
use Rattle.marked_automaton.specs.Automaton.{Marked, size}
use Rattle.algebra.proofs.Followed.{handed_on}
use Rattle.query_automaton.specs.BegunQuery.{BegunQuery}
use Rattle.query_automaton.specs.Compiling.{AreCompiled}
use Rattle.query_automaton.specs.Held.{HasCause}
use Rattle.query_automaton.proofs.PieceLaws.{let_can, let_more, none_compiled}
use Rattle.query_automaton.proofs.HeldQueries.{let_cause, let_held, let_kept, let_takes}
use Rattle.query_automaton.proofs.StepLaws.{lets_first}
use Rattle.query_automaton.proofs.expressions.Compiler.compile_lets.Goals as goal
use Rattle.query_automaton.proofs.expressions.Compiler.compile_lets.Goals.{After-at}

pub loop-k-init : goal.loop-k-init
loop-k-init c =
    let q = query_of c.args.self.now.query in
    record {
      query = search rules;
      long = omega (arith, ap length c.requires.none);
      held = λ most within. omega (arith, c.requires.nothing);
      steps = λ most within. omega (arith, c.requires.all);
      made = rw c.requires.none (none_compiled q);
    }

-- the let that is compiled
at_let : (c : After-at) → slice_get (query_of c.args.self.now.query).lets c.loop-k.k ≡ Some (c.at.result.now.0, expr_of c.at.result.now.1)
at_let c = rw (← (ap (λ (d : BegunQuery). d.query) c.self.view_is)) c.at.ensures

pub expression-requires : goal.expression-requires
expression-requires c =
    let inv = c.loop-k.invariant in
    let_can c.args.self.now c.loop-k.self inv.query c.loop-k.k inv.long inv.made _ (at_let (goal.at.expression-requires c).After-at) c.requires.sound

pub returns-in_err-automaton-clause-fault : goal.returns-in_err-automaton-clause-fault
returns-in_err-automaton-clause-fault c =
    let first = c.args.self.now in
    let at = at_let (goal.at.returns-in_err-automaton-clause-fault c).After-at in
    let inv = c.loop-k.invariant in
    handed_on (HasCause (query_of first.query)) _ _ c.from_residual.ensures.1
    (let_cause first c.loop-k.self inv.query c.loop-k.k inv.long inv.made _ at inv.held c.loop-k.effort inv.steps c.in_err-automaton.field-0.0 c.in_err-automaton.ensures.fault)

pub returns-in_err-keep-clause-fault : goal.returns-in_err-keep-clause-fault
returns-in_err-keep-clause-fault c =
    let first = c.args.self.now in
    let at = at_let (goal.at.returns-in_err-keep-clause-fault c).After-at in
    let inv = c.loop-k.invariant in
    let made = c.in_ok-automaton.ensures in
    handed_on (HasCause (query_of first.query)) _ _ c.from_residual-in_err-keep.ensures.1
    (let_kept first c.loop-k.self inv.query c.loop-k.k inv.long inv.made _ at inv.held c.loop-k.effort inv.steps c.in_ok-automaton.automaton made.made c.in_err-keep.ensures.marked
    c.in_err-keep.field-0.0 (rw (← made.same) c.in_err-keep.ensures.fault))

pub loop-k-preserved : goal.loop-k-preserved
loop-k-preserved c =
    let first = c.args.self.now in
    let k = c.loop-k.k in
    let b = c.loop-k.self in
    let at = at_let (goal.at.loop-k-preserved c).After-at in
    let inv = c.loop-k.invariant in
    let a = c.in_ok-automaton.automaton in
    let made = c.in_ok-automaton.ensures in
    let new = c.keep.new.self in
    let lets : new.lets ≡ b.lets ++ a ∷ [] = c.in_ok-keep.ensures.lets ∙ ap (λ (d : BegunQuery). d.lets ++ a ∷ []) made.same in
    record {
      query = c.in_ok-keep.ensures.query ∙ (ap (λ (d : BegunQuery). d.query) made.same ∙ inv.query);
      long = omega (arith, ap length lets, length-append b.lets (a ∷ []), inv.long);
      held = let_held first b inv.query k inv.long inv.made _ at inv.held c.loop-k.effort inv.steps a made.made c.in_ok-keep.ensures.marked new.held
          (subst (λ (d : BegunQuery). new.held ≤ d.held + size a.graph) made.same c.in_ok-keep.ensures.held);
      steps = let_takes first b inv.query k inv.long inv.made _ at inv.held c.loop-k.effort inv.steps _ made.steps;
      made = subst (λ (ls : List Marked). AreCompiled (query_of first.query) ls) (sym lets) (let_more first b inv.query k inv.long inv.made _ at a made.made);
    }

pub returns-clause-steps : goal.returns-clause-steps
returns-clause-steps c = λ most within. omega (arith, c.loop-k.invariant.steps most within, lets_first most c.loop-k.k (query_of c.args.self.now.query).lets)
