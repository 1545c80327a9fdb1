use Rattle.std.proofs.Common.{◌+◌, length, sym, ap, arith, ◌∙◌}
use Rattle.automaton_reading.specs.Reading.{set_of}
use Rattle.set_table.proofs.HeldLaws.{held_fresh}
use Rattle.set_table.proofs.StayLaws.{no_stays}
use Rattle.set_table.proofs.table.Table.new.Goals as goal

pub invariant_of-result : goal.invariant_of-result
invariant_of-result g c =
    let M = c.args.automaton.now in
    let s = c.in_ok-store.store in
    record {
      marked = c.is_marked.ensures;
      names = omega (arith, c.len-names.ensures.value, c.len-names.ensures.few, ap length c.vars.ensures);
      small = c.requires;
      light = c.if-weight-limit.false;
      held = held_fresh M.graph s.lists.sets s.answers.items s.lists.edges.items s.lists.ends.items s.numbers c.in_ok-start.start.items (1 + c.len.result) c.is_marked.ensures.whole
          (c.in_ok-start.ensures ∙ ap set_of c.starts.ensures) c.in_ok-store.ensures.sets c.in_ok-store.ensures.answers c.in_ok-store.ensures.edges
          c.in_ok-store.ensures.ends c.in_ok-store.ensures.numbers
          (omega (arith, c.len.ensures, c.in_ok-start.start.ok));
      stays = no_stays M.graph c.args.limit s.lists.sets s.answers.items s.stays.items c.in_ok-store.ensures.answers
          (c.in_ok-store.ensures.stay_of_each ∙ sym (ap length c.in_ok-store.ensures.sets)) c.in_ok-store.ensures.stays;
      indexed = c.in_ok-store.ensures.indexed M.graph.ways;
    }
