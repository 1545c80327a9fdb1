use Rattle.segment_filter.proofs.comparing.Comparisons.compare.Goals as goal

pub share-meets-requires-clause-a : goal.share-meets-requires-clause-a
share-meets-requires-clause-a c = c.members-states.ensures.states.order

pub share-meets-requires-clause-b : goal.share-meets-requires-clause-b
share-meets-requires-clause-b c = c.members-other_states.ensures.states.order
