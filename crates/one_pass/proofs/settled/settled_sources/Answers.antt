use Rattle.std.proofs.Common.{◌<◌, List, ℕ, length, subst, sym, arith}
use Rattle.std.specs.Prelude.{◌↔◌, IsTrue}
use Rattle.span_core.proofs.HasLaws.{Has-get_or}
use Rattle.marked_automaton.specs.Reach.{IsFlagged}
use Rattle.output_graph.specs.Graph.{sources}
use Rattle.one_pass.specs.Layers.{no_source, source_at}
use Rattle.one_pass.proofs.GraphLaws.{whole_count, whole_set}
use Rattle.one_pass.specs.Settling.{IsSettledSet}
use Rattle.one_pass.proofs.Told.{told_more}
use Rattle.one_pass.proofs.settled.settled_sources.Goals as goal

pub members-requires : goal.members-requires
members-requires c =
    let within : c.loop-k.k < length c.args.graph.now.layer = omega arith in
    let s = whole_set c.args.graph.now c.requires.fresh c.loop-k.k c.set_at-set.result within c.set_at-set.ensures in
    subst (λ n. n < length c.args.table.now.sets) (sym s.1)
    (c.requires.given (source_at (sources c.args.graph.now) c.loop-k.k) (Has-get_or (sources c.args.graph.now) c.loop-k.k no_source s.0))

pub loop-k-preserved : goal.loop-k-preserved
loop-k-preserved c =
    let within : c.loop-k.k < length c.args.graph.now.layer = omega arith in
    let s = whole_set c.args.graph.now c.requires.fresh c.loop-k.k c.set_at-set.result within c.set_at-set.ensures in
    told_more (IsSettledSet (λ q. ¬ IsFlagged c.args.unspent.now q) (IsFlagged c.args.lasting.now)) c.args.table.now c.args.graph.now c.loop-k.k c.loop-k.flags.items c.push.new.self.items
    c.is_settled-settled.result c.set_at-set.result c.loop-k.invariant c.in_ok-push.ensures.items s.1
    (subst (λ (xs : List ℕ). IsTrue c.is_settled-settled.result ↔ IsSettledSet (λ q. ¬ IsFlagged c.args.unspent.now q) (IsFlagged c.args.lasting.now) xs) c.members.ensures.members
    c.is_settled-settled.ensures)

pub returns-clause-told : goal.returns-clause-told
returns-clause-told c = λ j l. let count = whole_count c.args.graph.now c.requires.fresh in c.loop-k.invariant.1 j (omega (arith, l, count))
