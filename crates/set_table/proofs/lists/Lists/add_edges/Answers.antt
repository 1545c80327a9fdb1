use Rattle.std.proofs.Common.{◌≡◌, ℕ, ◌<◌, ◌≤◌, List, length, map, refl, sym, ap, subst, rules, ◌∙◌}
use Rattle.span_core.specs.Lists.{IsInOrder}
use Rattle.automaton_reading.specs.Reading.{set_of, ways_taken}
use Rattle.set_table.specs.Cut.{code_of, cut}
use Rattle.numbered_lists.specs.Numbered.{set_at}
use Rattle.set_table.proofs.AddsLaws.{adds_edges, codes_few, edges_cut, ready_set}
use Rattle.set_table.proofs.lists.Lists.add_edges.Goals as goal

pub put_codes-requires-clause-order : goal.put_codes-requires-clause-order
put_codes-requires-clause-order c =
    let s = c.args.self.now in
    subst (IsInOrder ◌<◌) (sym c.at.ensures) (ready_set c.args.automaton.now s c.args.set c.requires).order

pub put_edges-requires-clause-few_codes : goal.put_edges-requires-clause-few_codes
put_edges-requires-clause-few_codes c =
    let M = c.args.automaton.now in
    let S = set_at c.args.self.now.sets c.args.set in
    let codes : c.as_slice.result.now ≡ set_of (map code_of (ways_taken M.graph S c.args.byte)) = c.as_slice.ensures.value ∙
    (c.in_ok-put_codes.ensures.codes ∙ (λ i. set_of (map code_of (ways_taken M.graph (c.at.ensures i) c.args.byte)))) in
    subst (λ (xs : List ℕ). length xs ≤ 2000000) (sym codes) (codes_few M S c.args.byte c.requires.marked)

pub returns-clause-added : goal.returns-clause-added
returns-clause-added c =
    let M = c.args.automaton.now in
    let s = c.args.self.now in
    let S = set_at s.sets c.args.set in
    let codes : c.as_slice.result.now ≡ set_of (map code_of (ways_taken M.graph S c.args.byte)) = c.as_slice.ensures.value ∙
    (c.in_ok-put_codes.ensures.codes ∙ (λ i. set_of (map code_of (ways_taken M.graph (c.at.ensures i) c.args.byte)))) in
    adds_edges M.graph s _ _ (cut c.as_slice.result.now) c.in_ok-added.added c.in_ok-added.ensures.put refl
    (ap cut codes ∙ edges_cut M S c.args.byte c.requires.marked c.requires.names) refl refl refl (search rules) (search rules)
