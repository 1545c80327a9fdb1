use Rattle.std.proofs.Common.{◌≡◌, List, sym, ap, subst, ◌∙◌}
use Rattle.node_arena.specs.Cells.{NamedLink, HasCell}
use Rattle.node_arena.specs.Rows.{NamedRow}
use Rattle.node_arena.specs.Closing.{Entries, head}
use Rattle.node_arena.specs.declared.row.Entry.{Entry}
use Rattle.output_graph.specs.Loop.{IsEntryOfFrom, handed_to}
use Rattle.output_graph.proofs.TurnSteps.{is_drop}
use Rattle.output_graph.proofs.turning.hand_rows.Goals as goal

pub returns-clause-handed : goal.returns-clause-handed
returns-clause-handed g c =
    let e = c.entry_of_from-entry.ensures in
    let left : Entries = c.entry_of_from-entry.new.closing.heads in
    let from = c.args.from in
    let there : HasCell c.entry_of_from-entry.new.closing.cells from =
    subst (λ (xs : List NamedLink). HasCell xs from) (sym (is_drop c.args.closing.now.cells c.entry_of_from-entry.new.closing.cells e.taken.0 e.taken.1)) c.requires.from in
    let next : c.head-next.result ≡ head left from = c.head-next.ensures ∙ sym (e.heads from there) in
    let cells = c.hand.ensures.cells ∙ c.set_head.ensures.cells in
    let store = c.hand.ensures.store ∙ c.set_head.ensures.store in (
      left,
      λ q h. e.heads q (subst (λ (xs : List NamedLink). HasCell xs q) cells h),
      subst (λ (xs : List NamedRow). IsEntryOfFrom c.args.block.0 c.args.block.1 c.args.mine (head left from) c.args.closing.now.store xs c.entry_of_from-entry.result) (sym store)
          (subst (λ (n : Entry). IsEntryOfFrom c.args.block.0 c.args.block.1 c.args.mine n c.args.closing.now.store c.entry_of_from-entry.new.closing.store c.entry_of_from-entry.result) next e.entry),
      c.hand.ensures.heads ∙ ap (λ (hs : Entries). handed_to hs c.args.also c.args.mine) c.set_head.ensures.heads,
    )
