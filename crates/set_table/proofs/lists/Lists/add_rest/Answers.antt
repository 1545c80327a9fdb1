use Rattle.std.proofs.Common.{◌≡◌, length, refl, ap, subst, arith, rules, ◌∙◌}
use Rattle.std.specs.List.{filter}
use Rattle.span_core.specs.Lists.{Has}
use Rattle.span_core.proofs.ListLaws.{filter_no_more}
use Rattle.automaton_reading.specs.Reading.{is_among, rest_edge}
use Rattle.numbered_lists.specs.Numbered.{set_at}
use Rattle.set_table.proofs.AddsLaws.{adds_edges, below_few, ready_set}
use Rattle.set_table.proofs.lists.Lists.add_rest.Goals as goal

pub idle_members-requires : goal.idle_members-requires
idle_members-requires c = λ p h.
    let s = c.args.self.now in
    (ready_set c.args.automaton.now s c.args.set c.requires).states p (subst (λ xs. Has xs p) c.at.ensures h)

pub put_rest-requires-clause-few_members : goal.put_rest-requires-clause-few_members
put_rest-requires-clause-few_members c =
    let s = c.args.self.now in
    let M = c.args.automaton.now in
    let S = set_at s.sets c.args.set in
    let r = ready_set M s c.args.set c.requires in
    let idle : c.in_ok-idle.idle.items ≡ filter (is_among M.graph.idle) S = c.in_ok-idle.ensures ∙ ap (filter (is_among M.graph.idle)) c.at.ensures in
    omega (arith, ap length idle, filter_no_more (is_among M.graph.idle) S, below_few M.graph.states S r.order r.states, c.requires.marked.few_states)

pub returns-clause-added : goal.returns-clause-added
returns-clause-added c =
    let M = c.args.automaton.now in
    let s = c.args.self.now in
    let S = set_at s.sets c.args.set in
    let idle : c.in_ok-idle.idle.items ≡ filter (is_among M.graph.idle) S = c.in_ok-idle.ensures ∙ ap (filter (is_among M.graph.idle)) c.at.ensures in
    adds_edges M.graph s _ _ (rest_edge c.in_ok-idle.idle.items) c.in_ok-added.added c.in_ok-added.ensures.put refl
    (ap rest_edge idle) refl refl refl (search rules) (search rules)
