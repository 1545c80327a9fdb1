use Rattle.std.proofs.Common.{List}
use Rattle.span_core.specs.NameSets.{Ascending}
use Rattle.spanner_model.specs.Captures.{VarName}
use Rattle.spanner_model.specs.View.{tree_of}
use Rattle.spanner_model.proofs.NameLaws.{ascending-distinct}
use Rattle.place_automaton.proofs.LargeFaults.{null_past, null_within}
use Rattle.place_automaton.proofs.NameLists.{list_ascends, vars_named}
use Rattle.place_automaton.proofs.counting.numbers_of.Goals as goal

pub count_formula-requires-clause-distinct : goal.count_formula-requires-clause-distinct
count_formula-requires-clause-distinct c =
    let names = c.vars_of-vars.result in
    ascending-distinct names (rw c.vars_of-vars.ensures (list_ascends (tree_of c.args.formula.now)))

pub count_formula-requires-clause-named : goal.count_formula-requires-clause-named
count_formula-requires-clause-named c = vars_named (tree_of c.args.formula.now) c.vars_of-vars.result c.vars_of-vars.ensures

pub returns-clause-small : goal.returns-clause-small
returns-clause-small c = null_within (tree_of c.args.formula.now) c.vars_of-vars.result c.count_formula.result c.vars_of-vars.ensures c.count_formula.ensures.small

pub returns-clause-err : goal.returns-clause-err
returns-clause-err c = null_past (tree_of c.args.formula.now) c.vars_of-vars.result c.count_formula.result c.vars_of-vars.ensures c.count_formula.ensures.err
