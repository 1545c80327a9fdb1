use Rattle.std.proofs.Common.{ℕ, Bool, List, subst}
use Rattle.regex_literal.specs.Ladders.{Admits}
use Rattle.regex_literal.specs.Levels.{FitsLevels}
use Rattle.byte_runs.proofs.ChainLaws.{ladder_fits}
use Rattle.byte_runs.proofs.chain.ladder_of.Goals as goal

pub returns : goal.returns
returns c =
    ladder_fits c.args.sets.now c.in-Ok.levels.items c.in-Some.ladder c.in-Ok.ensures
    (subst (λ (levels : List (List Bool)). (hay : List ℕ) (k : ℕ) → FitsLevels hay levels k → Admits c.in-Some.ladder hay k) c.as_slice.ensures.value c.in-Some.ensures.fits)
