-- Sets of which it is known how they are left.
use Rattle.std.proofs.Common.{ℕ, List}
use Rattle.span_core.specs.Lists.{Has}
use Rattle.way_exits.specs.Exits.{IsLeft, Knows}
use Rattle.way_exits.specs.declared.waiting.Exit.{Exit}
use Rattle.way_exits.specs.declared.waiting.Exit.TheVariants.{Front, Home, Inside}
use Rattle.way_exits.specs.declared.waiting.Waiting.{Waiting}

left_some : (states : List ℕ) (exit : Exit) (set : List ℕ) → IsLeft states exit set → (p : ℕ) × Has set p
left_some states (Front chain) set h = h.some
left_some states (Inside inner) set h = h.some
left_some states (Home homes) set h = h.2.some

-- each of them has a member
pub known_some : (waiting : Waiting) (set : List ℕ) → Knows waiting set → (p : ℕ) × Has set p
known_some waiting set h = left_some waiting.states.items waiting.exit set h
