use Rattle.std.proofs.Common.{◌+◌, refl, subst, ap, Ok, Err, inr}
use Rattle.std.specs.Str.{IsUtf8}
use Rattle.spanner_model.specs.View.{atom_of}
use Rattle.formula_parser.specs.Spells.{over_characters}
use Rattle.formula_parser.proofs.SignLaws.{unsigned, signed, one_tree, no_tree_with_fault}
use Rattle.formula_parser.proofs.TheTrees.{the_trees, the_trees_are}
use Rattle.formula_parser.proofs.TurnLaws.{byte_answer, byte_fault, character_fault, not_utf8_fault, answer_only}
use Rattle.formula_parser.proofs.reader.read_atom.Goals as goal

pub returns-in_default-clause-found : goal.returns-in_default-clause-found
returns-in_default-clause-found c =
    byte_answer c.args.text.now c.args.from c.read_over.result (unsigned c.args.text.now c.args.from c.sign_len.result c.sign_len.ensures.value c.in_default.is) c.read_over.ensures.found

pub returns-in_default-clause-fault : goal.returns-in_default-clause-fault
returns-in_default-clause-fault c =
    byte_fault c.args.text.now c.args.from c.read_over.result (unsigned c.args.text.now c.args.from c.sign_len.result c.sign_len.ensures.value c.in_default.is) c.read_over.ensures.fault

pub returns-in_default-clause-only : goal.returns-in_default-clause-only
returns-in_default-clause-only c =
    answer_only (one_tree the_trees the_trees_are) (no_tree_with_fault the_trees the_trees_are) c.args.text.now c.args.from c.read_over.result
    (returns-in_default-clause-found c) (returns-in_default-clause-fault c)

pub returns-in-Err-clause-fault : goal.returns-in-Err-clause-fault
returns-in-Err-clause-fault c =
    inr (not_utf8_fault c.args.text.now c.args.from _ c.between.result.now _ c.valid_up_to.result
    (signed c.args.text.now c.args.from c.sign_len.result c.in-Some.len c.sign_len.ensures.value c.in-Some.is) c.between.ensures c.in-Err.ensures.cases.1 c.valid_up_to.ensures)

pub returns-in-Err-clause-only : goal.returns-in-Err-clause-only
returns-in-Err-clause-only c = λ x is.
    absurd (no_tree_with_fault the_trees the_trees_are c.args.text.now c.args.from x _ is
    (not_utf8_fault c.args.text.now c.args.from _ c.between.result.now _ c.valid_up_to.result
    (signed c.args.text.now c.args.from c.sign_len.result c.in-Some.len c.sign_len.ensures.value c.in-Some.is) c.between.ensures c.in-Err.ensures.cases.1 c.valid_up_to.ensures))

pub returns-in-Ok-clause-found : goal.returns-in-Ok-clause-found
returns-in-Ok-clause-found c =
    over_characters (signed c.args.text.now c.args.from c.sign_len.result c.in-Some.len c.sign_len.ensures.value c.in-Some.is)
    (subst IsUtf8 c.between.ensures c.in_default-from_utf8.ensures.cases.1) c.in-Ok.ensures.found refl

pub returns-in-Ok-clause-only : goal.returns-in-Ok-clause-only
returns-in-Ok-clause-only c = λ x is.
    ap Ok (one_tree the_trees the_trees_are c.args.text.now c.args.from (atom_of c.in-Ok.atom, c.in-Ok.place + 1) x (returns-in-Ok-clause-found c) is)

pub returns-in-Err-read_over-clause-fault : goal.returns-in-Err-read_over-clause-fault
returns-in-Err-read_over-clause-fault c =
    character_fault c.args.text.now c.args.from _ c.in-Err-read_over.fault
    (signed c.args.text.now c.args.from c.sign_len.result c.in-Some.len c.sign_len.ensures.value c.in-Some.is)
    (subst IsUtf8 c.between.ensures c.in_default-from_utf8.ensures.cases.1) c.in-Err-read_over.ensures.fault

pub returns-in-Err-read_over-clause-only : goal.returns-in-Err-read_over-clause-only
returns-in-Err-read_over-clause-only c =
    answer_only (one_tree the_trees the_trees_are) (no_tree_with_fault the_trees the_trees_are) c.args.text.now c.args.from (Err c.in-Err-read_over.fault)
    tt (returns-in-Err-read_over-clause-fault c)
