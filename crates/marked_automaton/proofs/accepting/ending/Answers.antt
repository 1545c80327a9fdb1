use Rattle.std.proofs.Common.{◌≡◌, ℕ, ◌+◌, Bool, true, Vec, Global, length, take, sym, ap, subst, arith, ◌∙◌}
use Rattle.std.proofs.Math.ListN.{set, length-set}
use Rattle.span_core.specs.Lists.{Has}
use Rattle.span_core.proofs.HasLaws.{Has-get_or}
use Rattle.marked_automaton.specs.declared.way.Stop.{Stop}
use Rattle.marked_automaton.specs.Accepting.{Gathers}
use Rattle.marked_automaton.proofs.Gathering.{gathers_kept, gathers_set}
use Rattle.marked_automaton.proofs.accepting.ending.Goals.{then-number, else-number}
use Rattle.marked_automaton.proofs.accepting.ending.Goals as goal

pub index_mut-requires : goal.index_mut-requires
index_mut-requires c =
    let stops = c.args.stops.now in
    let x = c.stop-item.result in
    let has = subst (Has stops) (sym c.stop-item.is) (Has-get_or stops c.loop-stop.stop-index x c.loop-stop-test.true) in
    omega (arith, c.requires x has, c.loop-stop.invariant.len, c.loop-stop.good.ok.0)

pub loop-stop-preserved : goal.loop-stop-preserved
loop-stop-preserved c =
    let stops = c.args.stops.now in
    let x = c.stop-item.result in
    let i = c.loop-stop.stop-index in
    let good = c.loop-stop.good.items in
    let inv = c.loop-stop.invariant in
    let has = subst (Has stops) (sym c.stop-item.is) (Has-get_or stops i x c.loop-stop-test.true) in
    let P : Stop → Type 0 = λ (y : Stop). y.marks ≡ c.args.marks in
    let place : Stop → ℕ = λ (y : Stop). y.state in
    elim c.if-number.branch [
      | then-number w ↦
          let items : c.if-number.good.items ≡ set good x.state true = ap (λ (v : Vec Bool Global). v.items) w.good-is in
          let same : x.marks ≡ c.args.marks = sym c.number.ensures ∙ (w.if-number.true ∙ c.number-in-loop-stop.ensures) in
          record {
            len = ap length items ∙ (length-set good x.state true ∙ inv.len);
            gathers = subst (Gathers P place (take (i + 1) stops)) (sym items)
                (gathers_set P place stops good i x c.loop-stop-test.true (sym c.stop-item.is) inv.gathers same (omega (arith, c.requires x has, inv.len)));
          }
      | else-number w ↦
          let items : c.if-number.good.items ≡ good = ap (λ (v : Vec Bool Global). v.items) w.good-is in
          record {
            len = ap length items ∙ inv.len;
            gathers = subst (Gathers P place (take (i + 1) stops)) (sym items)
                (gathers_kept P place stops good i x c.loop-stop-test.true (sym c.stop-item.is) inv.gathers
                (λ e. w.if-number.false (c.number.ensures ∙ (e ∙ sym c.number-in-loop-stop.ensures))));
          }
    ]
