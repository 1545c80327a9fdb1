use Rattle.std.proofs.Common.{[]}
use Rattle.spanner_model.specs.View.{tree_of}
use Rattle.spanner_model.proofs.NameLaws.{same_names}
use Rattle.place_automaton.specs.Variables.{with_vars}
use Rattle.place_automaton.proofs.NameLists.{list_ascends, vars_are}
use Rattle.place_automaton.proofs.variables.vars_of.Goals as goal

pub returns : goal.returns
returns c =
    let f = tree_of c.args.formula.now in
    same_names c.gathered.result (with_vars [] f) c.gathered.ensures.ascending (list_ascends f)
    (λ x h. (vars_are f x).1 ((c.gathered.ensures.names x).0 h)) (λ x h. (c.gathered.ensures.names x).1 ((vars_are f x).0 h))
