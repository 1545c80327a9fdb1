use Rattle.std.proofs.Common.{◌↔◌, ℕ, List, subst}
use Rattle.marked_automaton.specs.Reach.{IsFlagged}
use Rattle.marked_automaton.specs.declared.way.Stop.{Stop}
use Rattle.marked_automaton.specs.declared.way.Way.{Way}
use Rattle.settled_states.specs.States.{LeadsToMarks, MayTakeMarks}
use Rattle.settled_states.proofs.Marking.{others_are_spent}
use Rattle.settled_states.proofs.unspent.unspent_states.Goals as goal
use Rattle.settled_states.proofs.unspent.unspent_states.Goals.{In_ok-flags}

exact : (c : In_ok-flags) → (q : ℕ) → IsFlagged c.in_ok-flags.flags.items q ↔ MayTakeMarks c.args.automaton.now.graph q
exact c =
    let flags = c.in_ok-flags.flags.items in
    let graph = c.args.automaton.now.graph in
    subst (λ (xs : List Stop). (q : ℕ) → IsFlagged flags q ↔ ((n : ℕ) × LeadsToMarks graph.ways xs n q)) c.stops.ensures
    (subst (λ (ys : List Way). (q : ℕ) → IsFlagged flags q ↔ ((n : ℕ) × LeadsToMarks ys c.stops.result.now n q)) c.ways.ensures c.in_ok-flags.ensures.exactly)

pub returns-clause-exactly : goal.returns-clause-exactly
returns-clause-exactly c = exact c

pub returns-clause-spent : goal.returns-clause-spent
returns-clause-spent c = others_are_spent c.args.automaton.now.graph c.in_ok-flags.flags.items (exact c)
