use Rattle.query_printer.proofs.PrintLaws.{formula_spells, printed_spells, printed_is_atom}
use Rattle.query_printer.proofs.formulas.printed_forms_spell_their_trees.Goals as goal

pub returns-clause-formulas : goal.returns-clause-formulas
returns-clause-formulas c = formula_spells

pub returns-clause-atoms : goal.returns-clause-atoms
returns-clause-atoms c = printed_spells

pub returns-clause-places : goal.returns-clause-places
returns-clause-places c = printed_is_atom
