use Rattle.std.proofs.Common.{◌≡◌, ℕ, ◌+◌, ◌*◌, ◌≤◌, length, sym, ◌∙◌, subst}
use Rattle.spanner_model.specs.ExprView.{query_of}
use Rattle.spanner_model.specs.declared.query.Query.{Query}
use Rattle.query_automaton.specs.BegunQuery.{BegunQuery}
use Rattle.spanner_model.specs.Expression.{QueryTree}
use Rattle.spanner_model.specs.Sound.{IsSound}
use Rattle.marked_automaton.specs.Automaton.{Marked}
use Rattle.marked_automaton.specs.Reduct.{Reduces, ReducesMarked}
use Rattle.marked_automaton.proofs.Reducts.{reduct_of_reduct}
use Rattle.algebra.proofs.Followed.{handed_on}
use Rattle.query_automaton.specs.CompiledQuery.{IsCompiled}
use Rattle.query_automaton.specs.Compiling.{AreCompiled, IsCompiledFrom}
use Rattle.query_automaton.specs.Held.{HasCause, IsWithin}
use Rattle.query_automaton.specs.Steps.{steps_of_lets}
use Rattle.query_automaton.specs.declared.effort.TheConstants.{MOST_STEPS}
use Rattle.query_automaton.specs.QueryAutomaton.{of_query}
use Rattle.query_automaton.proofs.PieceLaws.{all_lets_small, body_can, body_made}
use Rattle.query_automaton.proofs.HeldQueries.{body_cause}
use Rattle.query_automaton.proofs.QueryWords.{words_of_reduct}
use Rattle.query_automaton.proofs.compiled.compile_with_cause.Goals as goal
use Rattle.query_automaton.proofs.compiled.compile_with_cause.Goals.{In_ok-automaton, In_ok-compile_lets}

pub compile_lets-requires-clause-sound : goal.compile_lets-requires-clause-sound
compile_lets-requires-clause-sound c = rw c.new-compiler.ensures.query c.requires

pub returns-in_err-compile_lets-clause-fault : goal.returns-in_err-compile_lets-clause-fault
returns-in_err-compile_lets-clause-fault c =
    let fault = c.in_err-compile_lets.field-0.0 in
    handed_on (HasCause (query_of c.args.query.now)) c.from_residual.result fault c.from_residual.ensures.1
    (rw (← c.new-compiler.ensures.query) c.in_err-compile_lets.ensures.fault)

-- the lets of the query are compiled
record AreLets (q : Query) (b : BegunQuery) : Type 0 where
  same : b.query ≡ q
  long : length b.lets ≡ length (query_of q).lets
  known : AreCompiled (query_of q) b.lets

all_lets : (c : In_ok-compile_lets) → AreLets c.args.query.now c.compile_lets.new.self
all_lets c =
    let at = c.new-compiler.ensures.query in
    record {
      same = c.in_ok-compile_lets.ensures.query ∙ at;
      long = rw (← at) c.in_ok-compile_lets.ensures.long;
      known = rw (← at) c.in_ok-compile_lets.ensures.made;
    }

pub expression-requires : goal.expression-requires
expression-requires c =
    let lets = all_lets (goal.at.expression-requires c).In_ok-compile_lets in
    body_can _ _ lets.same lets.long lets.known c.requires

pub returns-in_err-body-clause-fault : goal.returns-in_err-body-clause-fault
returns-in_err-body-clause-fault c =
    let q = c.args.query.now in
    let b = c.compile_lets.new.self in
    let lets = all_lets (goal.at.returns-in_err-body-clause-fault c).In_ok-compile_lets in
    let at : c.new-compiler.result.query ≡ q = c.new-compiler.ensures.query in
    let so_far : (most : ℕ) → IsWithin (query_of q) most → b.held ≤ length (query_of q).lets * most =
    rw at at c.in_ok-compile_lets.ensures.held in
    let takes : (most : ℕ) → IsWithin (query_of q) most → MOST_STEPS ≤ c.compile_lets.new.effort + steps_of_lets most (query_of q).lets =
    rw at at c.in_ok-compile_lets.ensures.steps in
    handed_on (HasCause (query_of q)) _ _ c.from_residual-in_err-body.ensures.1
    (body_cause q b lets.same lets.long so_far c.compile_lets.new.effort takes c.in_err-body.field-0.0 c.in_err-body.ensures.fault)

-- what is left of the automaton that the body was compiled to, after all lets
is_compiled : (q : QueryTree) → IsSound q → (n : ℕ) → n ≡ length q.lets → (body : Marked) → IsCompiledFrom q n q.body body →
    (whole : Marked) → whole ≡ body → (a : Marked) → a.names ≡ whole.names → Reduces a.graph whole.graph → IsCompiled q a
is_compiled q sound n long body of_body whole same a names smaller =
    let after_all : IsCompiledFrom q (length q.lets) q.body body = subst (λ k. IsCompiledFrom q k q.body body) long of_body in
    let made : ReducesMarked whole (of_query q) = subst (λ (m : Marked). ReducesMarked m (of_query q)) (sym same) after_all.reduces in
    let reduces : ReducesMarked a (of_query q) = (names ∙ made.0, reduct_of_reduct a.graph whole.graph (of_query q).graph smaller made.1) in
    record { sound = sound; reduces = reduces; words = words_of_reduct q sound a reduces }

compiled : (c : In_ok-automaton) → IsCompiled (query_of c.args.query.now) c.in_ok-automaton.automaton
compiled c =
    let q = c.args.query.now in
    let b = c.compile_lets.new.self in
    let at : c.new-compiler.result.query ≡ q = c.new-compiler.ensures.query in
    let long : length b.lets ≡ length (query_of q).lets = rw (← at) c.in_ok-compile_lets.ensures.long in
    is_compiled (query_of q) c.requires (length b.lets) long
    c.in_ok-body.body (body_made q b (c.in_ok-compile_lets.ensures.query ∙ at) long c.in_ok-body.body c.in_ok-body.ensures.made) c.in_ok-take.field-0 c.in_ok-take.ensures
    c.in_ok-automaton.automaton c.in_ok-automaton.ensures.names c.in_ok-automaton.ensures.reduct

pub invariant_of-result : goal.invariant_of-result
invariant_of-result c = compiled (goal.at.invariant_of-result c).In_ok-automaton

pub returns-clause-made : goal.returns-clause-made
returns-clause-made c = (compiled (goal.at.returns-clause-made c).In_ok-automaton).reduces

pub returns-clause-words : goal.returns-clause-words
returns-clause-words c = (compiled (goal.at.returns-clause-words c).In_ok-automaton).words

pub returns-clause-small : goal.returns-clause-small
returns-clause-small c =
    let lets = all_lets (goal.at.returns-clause-small c).In_ok-compile_lets in
    (λ l h. all_lets_small _ _ lets.known lets.long l h, c.in_ok-body.ensures.made.small)
