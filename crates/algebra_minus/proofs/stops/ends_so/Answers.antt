use Rattle.std.proofs.Common.{sym, ◌∙◌}
use Rattle.automaton_reading.proofs.Determined.{among_has, has_among}
use Rattle.automaton_reading.proofs.Searched.{searched_is}
use Rattle.algebra_minus.proofs.stops.ends_so.Goals as goal

pub returns : goal.returns
returns c =
    let set = c.args.set.now in
    let state = c.args.stop.now.state in
    let is = c.is_ok.ensures.value ∙ searched_is set state c.binary_search.result c.requires c.binary_search.ensures.position in
    let marks = sym c.number.ensures ∙ c.if-number-marks.false in
    ((λ t. (marks, among_has set state (sym is ∙ t))), (λ h. is ∙ has_among set state h.1))
