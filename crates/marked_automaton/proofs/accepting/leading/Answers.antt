use Rattle.std.proofs.Common.{◌≡◌, ℕ, ◌+◌, Bool, true, Vec, Global, List, length, take, sym, ap, subst, arith, ◌∙◌}
use Rattle.std.proofs.Math.ListN.{set, length-set}
use Rattle.std.proofs.lemmas.List.{take_all}
use Rattle.std.proofs.lemmas.Bool.{false≢true}
use Rattle.span_core.specs.Lists.{Has}
use Rattle.span_core.proofs.HasLaws.{Has-get_or}
use Rattle.marked_automaton.specs.declared.way.Way.{Way}
use Rattle.marked_automaton.specs.Accepting.{Gathers, Takes}
use Rattle.marked_automaton.proofs.Gathering.{gathers_kept, gathers_set}
use Rattle.marked_automaton.proofs.accepting.leading.Goals.{then-takes, else-takes}
use Rattle.marked_automaton.proofs.accepting.leading.Goals as goal

pub takes-requires : goal.takes-requires
takes-requires c =
    let ways = c.args.ways.now in
    let y = c.way-item.result in
    c.requires.tos y (subst (Has ways) (sym c.way-item.is) (Has-get_or ways c.loop-way.way-index y c.loop-way-test.true))

pub index_mut-requires : goal.index_mut-requires
index_mut-requires c =
    let ways = c.args.ways.now in
    let y = c.way-item.result in
    let has = subst (Has ways) (sym c.way-item.is) (Has-get_or ways c.loop-way.way-index y c.loop-way-test.true) in
    omega (arith, c.requires.froms y has, c.loop-way.invariant.len, c.loop-way.before.ok.0)

pub loop-way-preserved : goal.loop-way-preserved
loop-way-preserved c =
    let ways = c.args.ways.now in
    let y = c.way-item.result in
    let i = c.loop-way.way-index in
    let before = c.loop-way.before.items in
    let inv = c.loop-way.invariant in
    let has = subst (Has ways) (sym c.way-item.is) (Has-get_or ways i y c.loop-way-test.true) in
    let P : Way → Type 0 = Takes c.args.marks c.args.byte c.args.good.now in
    let place : Way → ℕ = λ (z : Way). z.from in
    elim c.if-takes.branch [
      | then-takes w ↦
          let items : c.if-takes.before.items ≡ set before y.from true = ap (λ (v : Vec Bool Global). v.items) w.before-is in
          record {
            len = ap length items ∙ (length-set before y.from true ∙ inv.len);
            gathers = subst (Gathers P place (take (i + 1) ways)) (sym items)
                (gathers_set P place ways before i y c.loop-way-test.true (sym c.way-item.is) inv.gathers (c.takes.ensures.0 w.if-takes.true)
                (omega (arith, c.requires.froms y has, inv.len)));
          }
      | else-takes w ↦
          let items : c.if-takes.before.items ≡ before = ap (λ (v : Vec Bool Global). v.items) w.before-is in
          record {
            len = ap length items ∙ inv.len;
            gathers = subst (Gathers P place (take (i + 1) ways)) (sym items)
                (gathers_kept P place ways before i y c.loop-way-test.true (sym c.way-item.is) inv.gathers
                (λ t. false≢true (sym w.if-takes.false ∙ c.takes.ensures.1 t)));
          }
    ]

pub returns-clause-exactly : goal.returns-clause-exactly
returns-clause-exactly c =
    subst (λ (ys : List Way). Gathers (Takes c.args.marks c.args.byte c.args.good.now) (λ (z : Way). z.from) ys c.loop-way.before.items)
    (take_all c.loop-way.way-index c.args.ways.now c.loop-way-test.false) c.loop-way.invariant.gathers
