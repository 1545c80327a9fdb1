use Rattle.std.proofs.Common.{List, ℕ, ◌++◌, true, sym, subst}
use Rattle.marked_automaton.specs.Automaton.{ByteClass}
use Rattle.way_exits.specs.Waiting.{Forces, IsLevel}
use Rattle.way_exits.proofs.AheadLaws.{forced_all, forced_more}
use Rattle.way_exits.proofs.chains.chain_of.Goals as goal

pub loop-init : goal.loop-init
loop-init c chain forced =
    subst (λ (sets : List ByteClass). Forces c.args.ways.now true c.args.states.now (sets ++ chain)) (sym c.new-sets.ensures.items)
    (subst (λ (from : List ℕ). Forces c.args.ways.now true from chain) c.in-Some.ensures forced)

pub loop-preserved : goal.loop-preserved
loop-preserved c =
    let level = c.in-Some-level_of.level in
    forced_more c.args.ways.now c.args.states.now c.loop.leaving c.loop.from.items level.next.items c.loop.sets.items c.push.new.self.items level.bytes c.loop.invariant
    (subst (λ (from : List ℕ). IsLevel c.loop.leaving c.args.ways.now from level.bytes level.next.items) c.as_slice.ensures.value c.in-Some-level_of.ensures) c.in-Ok.ensures.items

pub returns-in-None-level_of : goal.returns-in-None-level_of
returns-in-None-level_of c = forced_all c.args.ways.now c.args.states.now c.loop.leaving c.loop.from.items c.loop.sets.items c.loop.invariant

pub returns-then-is_empty : goal.returns-then-is_empty
returns-then-is_empty c = forced_all c.args.ways.now c.args.states.now c.loop.leaving c.loop.from.items c.loop.sets.items c.loop.invariant

pub returns : goal.returns
returns c = forced_all c.args.ways.now c.args.states.now c.loop.leaving c.loop.from.items c.loop.sets.items c.loop.invariant
