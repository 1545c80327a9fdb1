use Rattle.std.proofs.Common.{IfOk, ap, ◌∙◌}
use Rattle.place_automaton.specs.Counts.{counts_plus, counts_repeated}
use Rattle.place_automaton.specs.Capped.{AreCapped}
use Rattle.place_automaton.proofs.numbers.Numbers.repeated.Goals as goal

pub returns-in_ok-plus-in-None : goal.returns-in_ok-plus-in-None
returns-in_ok-plus-in-None c = λ a p.
    let e = ap (λ n. counts_repeated n c.args.most a) c.if-least-eq0.true ∙ ap (λ o. counts_repeated 0 o a) c.in-None.is in
    rw e (c.opt.ensures.capped (counts_plus a) (c.in_ok-plus-in-None.ensures.capped a p))
