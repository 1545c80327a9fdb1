use Rattle.std.proofs.Common.{◌≡◌, ◌≤◌, length, subst, arith, IfOk, IfErr, ◌⊎◌}
use Rattle.std.proofs.lemmas.Option.{slice_get_within}
use Rattle.formula_parser.specs.declared.fault.FormulaFault.TheVariants.{OutOfMemory}
use Rattle.spanner_model.specs.View.{atom_of}
use Rattle.formula_parser.specs.Faults.{HasFaultOver}
use Rattle.formula_parser.specs.Spells.{IsAtomOver}
use Rattle.formula_parser.specs.Step.{is_tied}
use Rattle.formula_parser.specs.View.{alphabet_seen}
use Rattle.formula_parser.proofs.TheTrees.{plain_class_trees}
use Rattle.formula_parser.proofs.TurnLaws.{some_dialect, start_within, reads_from_start, answer_found, answer_fault, answer_within}
use Rattle.formula_parser.proofs.BuiltLaws.{text_of, answer_built}
use Rattle.formula_parser.proofs.reader.read_nest.Goals as goal

pub read_by_turns-requires : goal.read_by_turns-requires
read_by_turns-requires c =
    let h = slice_get_within c.args.text.now c.args.from 47 c.requires.slash in
    rw c.start_at.ensures (start_within c.args.text.now c.args.from h)

pub returns-clause-found : goal.returns-clause-found
returns-clause-found c =
    let text = c.args.text.now in
    let from = c.args.from in
    let some = some_dialect (alphabet_seen c.args.alphabet) in
    let ends = reads_from_start some.0 text from _ _ c.read_by_turns.result c.start_at.ensures c.requires.nest (c.read_by_turns.ensures.ends some.0 some.1 some.2) in
    let tied : IfOk c.read_by_turns.result (λ x. x.0.from_start ≡ is_tied text from) =
    subst (λ b. IfOk c.read_by_turns.result (λ x. x.0.from_start ≡ b)) c.is_tied-from_start.ensures c.read_by_turns.ensures.tied in
    subst (λ a. IfOk c.read_by_turns.result (λ x. IsAtomOver a text from (atom_of x.0, x.1))) some.2
    (answer_found some.0 some.1 text from c.read_by_turns.result ends tied)

pub returns-clause-fault : goal.returns-clause-fault
returns-clause-fault c =
    let text = c.args.text.now in
    let from = c.args.from in
    let some = some_dialect (alphabet_seen c.args.alphabet) in
    rw (← some.2)
    (answer_fault some.0 some.1 text from c.read_by_turns.result
    (reads_from_start some.0 text from _ _ c.read_by_turns.result c.start_at.ensures c.requires.nest (c.read_by_turns.ensures.ends some.0 some.1 some.2)))

pub returns-clause-built : goal.returns-clause-built
returns-clause-built c =
    answer_built plain_class_trees (alphabet_seen c.args.alphabet) c.args.text.now c.args.from c.read_by_turns.result (returns-clause-found c)
    (text_of c.args.text.now (λ i. omega (arith, c.type_inv.text i)))

pub returns-clause-within : goal.returns-clause-within
returns-clause-within c = answer_within (alphabet_seen c.args.alphabet) c.args.text.now c.args.from c.read_by_turns.result (returns-clause-found c)
