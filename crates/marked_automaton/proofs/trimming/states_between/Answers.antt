use Rattle.std.proofs.Common.{◌∙◌}
use Rattle.marked_automaton.proofs.Between.{ends_below, between_is}
use Rattle.marked_automaton.proofs.trimming.states_between.Goals as goal

pub reached-requires-2-clause-seeds : goal.reached-requires-2-clause-seeds
reached-requires-2-clause-seeds c =
    ends_below c.args.stops.now c.as_slice.result.now c.args.states (c.as_slice.ensures.value ∙ c.in_ok-ends.ensures) c.requires.stops

pub returns-clause-len : goal.returns-clause-len
returns-clause-len c = (between_is c.args.states c.args.starts.now c.args.ways.now c.args.stops.now _ _ _ _ _ _
    (c.as_slice.ensures.value ∙ c.in_ok-ends.ensures) c.as_slice-2.ensures.value c.as_slice-3.ensures.value
    c.in_ok-both_set.ensures c.in_ok-from_starts.ensures.len c.in_ok-to_ends.ensures.len c.in_ok-from_starts.ensures.exactly c.in_ok-to_ends.ensures.exactly).0

pub returns-clause-exactly : goal.returns-clause-exactly
returns-clause-exactly c = (between_is c.args.states c.args.starts.now c.args.ways.now c.args.stops.now _ _ _ _ _ _
    (c.as_slice.ensures.value ∙ c.in_ok-ends.ensures) c.as_slice-2.ensures.value c.as_slice-3.ensures.value
    c.in_ok-both_set.ensures c.in_ok-from_starts.ensures.len c.in_ok-to_ends.ensures.len c.in_ok-from_starts.ensures.exactly c.in_ok-to_ends.ensures.exactly).1
