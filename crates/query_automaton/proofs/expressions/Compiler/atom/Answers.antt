use Rattle.std.proofs.Common.{length}
use Rattle.spanner_model.specs.ExprView.{query_of}
use Rattle.spanner_model.specs.View.{atom_of}
use Rattle.marked_automaton.specs.Automaton.{size}
use Rattle.marked_automaton.specs.Reduct.{ReducesMarked}
use Rattle.marked_automaton.proofs.Rearranged.{rearranged_reduces}
use Rattle.place_automaton.specs.Words.{atom_automaton}
use Rattle.algebra.proofs.Followed.{handed_on}
use Rattle.spanner_model.specs.Expression.{atom}
use Rattle.query_automaton.specs.BegunQuery.{HasCauseIn}
use Rattle.query_automaton.specs.QueryAutomaton.{of_atom, of_lets}
use Rattle.query_automaton.specs.Told.{atom_fault_of}
use Rattle.query_automaton.proofs.HeldQueries.{atom_cause, atom_spent, atom_takes, atom_within}
use Rattle.query_automaton.proofs.PieceLaws.{atom_made}
use Rattle.query_automaton.proofs.expressions.Compiler.atom.Goals as goal

pub returns-in_err-whole-clause-fault : goal.returns-in_err-whole-clause-fault
returns-in_err-whole-clause-fault c =
    let a = atom_of c.args.atom.now in
    let b = c.args.self.now in
    handed_on (HasCauseIn b c.args.effort.now (atom a)) c.from_residual.result (atom_fault_of c.in_err-whole.field-0.0) c.from_residual.ensures.1
    (atom_cause (of_lets (query_of b.query).lets (length b.lets)) a b.held c.args.effort.now c.in_err-whole.field-0.0 c.in_err-whole.ensures.err)

pub returns-in_err-spend-clause-fault : goal.returns-in_err-spend-clause-fault
returns-in_err-spend-clause-fault c =
    let a = atom_of c.args.atom.now in
    let b = c.args.self.now in
    let L = of_lets (query_of b.query).lets (length b.lets) in
    let whole = c.in_ok-whole.whole in
    let of = c.in_ok-whole.ensures in
    let red = rearranged_reduces whole.graph (atom_automaton whole.names a) of.reduct in
    let fault = c.in_err-spend.field-0.0 in
    handed_on (HasCauseIn b c.args.effort.now (atom a)) c.from_residual-in_err-spend.result fault c.from_residual-in_err-spend.ensures.1
    (atom_spent L a b.held c.args.effort.now (size whole.graph) c.in_err-spend.ensures.spent (atom_within L a whole of.names.0 of.names.1 red c.in_err-spend.ensures.marked of.small) fault
    c.in_err-spend.ensures.fault)

pub returns-clause-steps : goal.returns-clause-steps
returns-clause-steps c =
    let a = atom_of c.args.atom.now in
    let b = c.args.self.now in
    let L = of_lets (query_of b.query).lets (length b.lets) in
    let whole = c.in_ok-whole.whole in
    let of = c.in_ok-whole.ensures in
    let red = rearranged_reduces whole.graph (atom_automaton whole.names a) of.reduct in
    atom_takes L a c.args.effort.now c.spend.new.effort (size whole.graph) c.in_ok-spend.ensures.steps (atom_within L a whole of.names.0 of.names.1 red c.in_ok-spend.ensures.marked of.small)

pub returns-clause-made : goal.returns-clause-made
returns-clause-made c =
    let a = atom_of c.args.atom.now in
    let whole = c.in_ok-whole.whole in
    let of = c.in_ok-whole.ensures in
    let trim = c.in_ok-trim in
    let made : ReducesMarked trim.field-0 (of_atom a) =
    atom_made a whole trim.field-0 of.names.0 of.names.1
    (rearranged_reduces whole.graph (atom_automaton whole.names a) of.reduct) trim.ensures.names trim.ensures.reduct in
    record { reduces = rw c.in_ok-new.ensures made; small = of.small }
