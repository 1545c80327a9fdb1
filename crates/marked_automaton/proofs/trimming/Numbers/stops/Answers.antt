use Rattle.std.proofs.Common.{◌≡◌, None, Vec, Global, get_or, sym, ap, subst, arith, ◌∙◌}
use Rattle.std.proofs.lemmas.List.{get_or_read}
use Rattle.span_core.specs.Lists.{Has}
use Rattle.span_core.proofs.HasLaws.{Has-get_or}
use Rattle.marked_automaton.specs.declared.way.Stop.{Stop}
use Rattle.marked_automaton.specs.Trimmed.{moved_stop, number_of, stop_at}
use Rattle.marked_automaton.proofs.Loops.{kept_one_more, kept_none_more}
use Rattle.marked_automaton.proofs.trimming.Numbers.stops.Goals.{in-Some+in_ok-push, in_default}
use Rattle.marked_automaton.proofs.trimming.Numbers.stops.Goals as goal

pub index-requires : goal.index-requires
index-requires c =
    let stops = c.args.stops.now in
    let i = c.loop-stop.stop-index in
    let x = c.stop-item.result in
    omega (arith, c.requires x (subst (Has stops) (sym c.stop-item.is) (Has-get_or stops i x c.loop-stop-test.true)), c.args.self.now.numbers.ok.0)

pub loop-stop-preserved : goal.loop-stop-preserved
loop-stop-preserved c =
    let stops = c.args.stops.now in
    let i = c.loop-stop.stop-index in
    let numbers = c.args.self.now.numbers.items in
    let x = c.stop-item.result in
    let within = c.requires x (subst (Has stops) (sym c.stop-item.is) (Has-get_or stops i x c.loop-stop-test.true)) in
    let at : c.index.result.now ≡ number_of numbers x.state = get_or_read numbers x.state c.index.result.now within c.index.ensures None in
    let here : moved_stop numbers (get_or stops i x) ≡ stop_at c.index.result.now x = ap (moved_stop numbers) (sym c.stop-item.is) ∙ ap (λ o. stop_at o x) (sym at) in
    elim c.match-index.branch [
      | in-Some+in_ok-push w ↦
          ap (λ (v : Vec Stop Global). v.items) w.kept-is ∙ (w.in_ok-push.ensures.items
          ∙ kept_one_more (moved_stop numbers) stops i x c.loop-stop.kept.items (record { state = w.in-Some.state; marks = x.marks }) c.loop-stop-test.true
          (here ∙ ap (λ o. stop_at o x) w.in-Some.is) c.loop-stop.invariant)
      | in_default w ↦
          ap (λ (v : Vec Stop Global). v.items) w.kept-is
          ∙ kept_none_more (moved_stop numbers) stops i x c.loop-stop.kept.items c.loop-stop-test.true (here ∙ ap (λ o. stop_at o x) w.in_default.is) c.loop-stop.invariant
    ]
