use Rattle.std.proofs.Common.{◌≡◌, ℕ, ◌+◌, Bool, true, Vec, Global, length, take, sym, ap, subst, arith, ◌∙◌}
use Rattle.std.proofs.Math.ListN.{set, length-set}
use Rattle.std.proofs.lemmas.Bool.{false≢true}
use Rattle.span_core.specs.Lists.{Has}
use Rattle.span_core.proofs.HasLaws.{Has-get_or}
use Rattle.marked_automaton.specs.declared.way.Stop.{Stop}
use Rattle.marked_automaton.specs.Accepting.{Gathers}
use Rattle.marked_automaton.proofs.Gathering.{gathers_kept, gathers_set}
use Rattle.settled_states.proofs.lasting.plain_ends.Goals.{then-is_none, else-is_none}
use Rattle.settled_states.proofs.lasting.plain_ends.Goals as goal

pub index_mut-requires : goal.index_mut-requires
index_mut-requires c =
    let stops = c.args.stops.now in
    let x = c.stop-item.result in
    let has = subst (Has stops) (sym c.stop-item.is) (Has-get_or stops c.loop-stop.stop-index x c.loop-stop-test.true) in
    omega (arith, c.requires x has, c.loop-stop.invariant.len, c.loop-stop.flags.ok.0)

pub loop-stop-preserved : goal.loop-stop-preserved
loop-stop-preserved c =
    let stops = c.args.stops.now in
    let x = c.stop-item.result in
    let i = c.loop-stop.stop-index in
    let flags = c.loop-stop.flags.items in
    let inv = c.loop-stop.invariant in
    let has = subst (Has stops) (sym c.stop-item.is) (Has-get_or stops i x c.loop-stop-test.true) in
    let P : Stop → Type 0 = λ (z : Stop). z.marks ≡ 0 in
    let place : Stop → ℕ = λ (y : Stop). y.state in
    elim c.if-is_none.branch [
      | then-is_none w ↦
          let items : c.if-is_none.flags.items ≡ set flags x.state true = ap (λ (v : Vec Bool Global). v.items) w.flags-is in
          record {
            len = ap length items ∙ (length-set flags x.state true ∙ inv.len);
            gathers = subst (Gathers P place (take (i + 1) stops)) (sym items)
                (gathers_set P place stops flags i x c.loop-stop-test.true (sym c.stop-item.is) inv.gathers (c.is_none.ensures.0 w.if-is_none.true)
                (omega (arith, c.requires x has, inv.len)));
          }
      | else-is_none w ↦
          let items : c.if-is_none.flags.items ≡ flags = ap (λ (v : Vec Bool Global). v.items) w.flags-is in
          record {
            len = ap length items ∙ inv.len;
            gathers = subst (Gathers P place (take (i + 1) stops)) (sym items)
                (gathers_kept P place stops flags i x c.loop-stop-test.true (sym c.stop-item.is) inv.gathers
                (λ t. false≢true (sym w.if-is_none.false ∙ c.is_none.ensures.1 t)));
          }
    ]
