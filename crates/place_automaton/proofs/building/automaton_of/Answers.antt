use Rattle.std.proofs.Common.{[], sym, subst}
use Rattle.span_core.specs.Lists.{AreDistinct}
use Rattle.spanner_model.specs.View.{tree_of, atom_of}
use Rattle.place_automaton.specs.Counts.{counts_over}
use Rattle.place_automaton.specs.Variables.{with_vars}
use Rattle.place_automaton.proofs.BuiltRepeats.{ordered_repeats}
use Rattle.place_automaton.proofs.EndLaws.{ends_refused}
use Rattle.place_automaton.proofs.LastSets.{stops_once}
use Rattle.place_automaton.proofs.building.automaton_of.Goals as goal

pub returns-clause-ends : goal.returns-clause-ends
returns-clause-ends c =
    let a = c.in_ok-automaton.automaton in
    let h = c.in_ok-automaton.ensures in
    let f = tree_of c.args.atom.now.formula in
    subst AreDistinct (sym h.stops)
    (stops_once a.names (atom_of c.args.atom.now) (λ x v. (h.names x).1 v) c.requires.sequential (ordered_repeats f c.requires.built))

pub returns-then-ends-gt-MOST_ENDS-clause-err : goal.returns-then-ends-gt-MOST_ENDS-clause-err
returns-then-ends-gt-MOST_ENDS-clause-err c =
    let a = atom_of c.args.atom.now in
    let counted = counts_over (with_vars [] a.formula) a.formula in
    let n = c.in-Ok.ensures.ok in
    ends_refused a c.ways-ways.result c.ends-ends.result (c.ways-ways.ensures counted n) c.if-ways.false (c.ends-ends.ensures counted n) c.if-ends-gt-MOST_ENDS.true
