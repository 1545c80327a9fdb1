use Rattle.std.proofs.Common.{List, length, ap, ◌∙◌, arith}
use Rattle.spanner_model.specs.Captures.{VarName}
use Rattle.marked_automaton.specs.Automaton.{Marked}
use Rattle.query_automaton.proofs.PieceLaws.{kept_all}
use Rattle.query_automaton.proofs.expressions.Compiler.projected.Goals as goal

pub returns-then-len-clause-names : goal.returns-then-len-clause-names
returns-then-len-clause-names c =
    let a = c.args.inner in
    let same = c.vars.ensures ∙ ap (λ (m : Marked). m.names) c.as_automaton-whole.ensures in
    let marked = rw c.as_automaton-whole.ensures at c.states.ensures.marked in
    (kept_all c.args.names.now a marked c.len.ensures.ascending (rw (← same) c.len-2.ensures.ascending) c.requires
    (omega (arith, c.len.ensures.value, c.len-2.ensures.value, c.if-len.true, ap (λ (ns : List VarName). length ns) same))).0

pub returns-then-len-clause-reduct : goal.returns-then-len-clause-reduct
returns-then-len-clause-reduct c =
    let a = c.args.inner in
    let same = c.vars.ensures ∙ ap (λ (m : Marked). m.names) c.as_automaton-whole.ensures in
    let marked = rw c.as_automaton-whole.ensures at c.states.ensures.marked in
    (kept_all c.args.names.now a marked c.len.ensures.ascending (rw (← same) c.len-2.ensures.ascending) c.requires
    (omega (arith, c.len.ensures.value, c.len-2.ensures.value, c.if-len.true, ap (λ (ns : List VarName). length ns) same))).1

pub returns-clause-reduct : goal.returns-clause-reduct
returns-clause-reduct c =
    rw c.in_ok-new.ensures
    (rw (← c.as_automaton-whole.ensures) c.in_ok-project.ensures.reduct)
