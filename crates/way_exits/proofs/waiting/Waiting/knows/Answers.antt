use Rattle.std.proofs.Common.{ℕ, List, sym, subst}
use Rattle.std.specs.Prelude.{Vec}
use Rattle.std.specs.Global.{Global}
use Rattle.way_exits.specs.Exits.{IsLeft}
use Rattle.way_exits.specs.Home.{IsAmong}
use Rattle.way_exits.specs.declared.waiting.Exit.{Exit}
use Rattle.way_exits.proofs.waiting.Waiting.knows.Goals as goal

pub returns-in-Home : goal.returns-in-Home
returns-in-Home c is =
    let set = c.args.set.now in
    subst (λ (e : Exit). IsLeft c.args.self.now.states.items e set) (sym c.in-Home.is)
    (subst (λ (sets : List (Vec ℕ Global)). IsAmong sets set) c.as_slice-in-Home.ensures.value (c.is_among.ensures is))
