use Rattle.std.proofs.Common.{◌≡◌, ◌+◌, ◌<◌, List, Vec, Global, length, take, subst, sym, ap, arith, ◌∙◌}
use Rattle.std.proofs.Math.ListN.{set, length-replicate, length-set}
use Rattle.std.proofs.lemmas.Bool.{false≢true}
use Rattle.std.proofs.lemmas.List.{take_all}
use Rattle.span_core.specs.Lists.{Has}
use Rattle.span_core.proofs.HasLaws.{Has-get_or}
use Rattle.span_core.specs.declared.byte_set.ByteSet.{ByteSet}
use Rattle.marked_automaton.specs.declared.way.Way.{Way}
use Rattle.settled_states.specs.Covering.{AreBytesInto}
use Rattle.settled_states.proofs.Covers.{into_kept, into_more, into_none}
use Rattle.settled_states.proofs.lasting.bytes_into.Goals as goal
use Rattle.settled_states.proofs.lasting.bytes_into.Goals.{After-way-item, then-leads_plainly, else-leads_plainly}

there : (c : After-way-item) → Has c.args.ways.now c.way-item.result
there c = subst (Has c.args.ways.now) (sym c.way-item.is) (Has-get_or c.args.ways.now c.loop-way.way-index c.way-item.result c.loop-way-test.true)

pub leads_plainly-requires : goal.leads_plainly-requires
leads_plainly-requires c = c.requires.tos c.way-item.result (there (goal.at.leads_plainly-requires c).After-way-item)

pub index-requires : goal.index-requires
index-requires c =
    omega (arith, c.requires.froms c.way-item.result (there (goal.at.index-requires c).After-way-item), c.loop-way.invariant.len, c.loop-way.sets.ok.0)

pub index_mut-requires : goal.index_mut-requires
index_mut-requires c =
    omega (arith, c.requires.froms c.way-item.result (there (goal.at.index_mut-requires c).After-way-item), c.loop-way.invariant.len, c.loop-way.sets.ok.0)

pub loop-way-init : goal.loop-way-init
loop-way-init c = record {
  len = ap length c.in_ok-sets.ensures ∙ length-replicate (length c.args.good.now) _;
  exactly = into_none c.args.good.now (length c.args.good.now) c.args.ways.now c.in_ok-sets.sets.items c.in_ok-sets.ensures;
}

pub loop-way-preserved : goal.loop-way-preserved
loop-way-preserved c =
    let good = c.args.good.now in
    let ways = c.args.ways.now in
    let i = c.loop-way.way-index in
    let y = c.way-item.result in
    let sets = c.loop-way.sets.items in
    let inv = c.loop-way.invariant in
    let within : y.from < length sets = omega (arith, c.requires.froms y (there (goal.at.loop-way-preserved c).After-way-item), inv.len) in
    elim c.if-leads_plainly.branch [
      | then-leads_plainly w ↦
          let items : c.if-leads_plainly.sets.items ≡ set sets y.from w.union-bytes.result = ap (λ (v : Vec ByteSet Global). v.items) w.sets-is in
          record {
            len = ap length items ∙ (length-set sets y.from w.union-bytes.result ∙ inv.len);
            exactly = subst (AreBytesInto (take (i + 1) ways) good) (sym items)
                (into_more good ways i y c.loop-way-test.true c.way-item.is sets inv.exactly w.index.result.now w.union-bytes.result within (c.leads_plainly.ensures.0 w.if-leads_plainly.true)
                w.index.ensures w.union-bytes.ensures);
          }
      | else-leads_plainly w ↦
          let items : c.if-leads_plainly.sets.items ≡ sets = ap (λ (v : Vec ByteSet Global). v.items) w.sets-is in
          record {
            len = ap length items ∙ inv.len;
            exactly = subst (AreBytesInto (take (i + 1) ways) good) (sym items)
                (into_kept good ways i y c.loop-way-test.true c.way-item.is sets inv.exactly (λ plain. false≢true (sym w.if-leads_plainly.false ∙ c.leads_plainly.ensures.1 plain)));
          }
    ]

pub returns-clause-exactly : goal.returns-clause-exactly
returns-clause-exactly c =
    subst (λ (ys : List Way). AreBytesInto ys c.args.good.now c.loop-way.sets.items) (take_all c.loop-way.way-index c.args.ways.now c.loop-way-test.false) c.loop-way.invariant.exactly
