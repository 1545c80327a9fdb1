-- What the words ask for, by what the command makes of them.
use Rattle.std.proofs.Common.{◌≡◌, ◌≢◌, refl, List, [], ◌∷◌, None, rules}
use Rattle.clap.specs.Words.{Text, Kinds}
use Rattle.command_line.specs.Command.{found, refusals}
use Rattle.command_line.specs.Given.{given_by}
use Rattle.command_line.specs.RequestView.{requested, requested_by}

pub requested_when_taken : (words : List Text) → refusals words ≡ [] → requested words ≡ requested_by (given_by (found words))
unfolding requested
requested_when_taken words taken = rw taken refl

pub requested_when_refused : (words : List Text) → refusals words ≢ [] → requested words ≡ None
unfolding requested
requested_when_refused words refused = go (refusals words) refl
  where
    go : (kinds : Kinds) → refusals words ≡ kinds → requested words ≡ None
    go [] none = absurd (refused none)
    go (k ∷ ks) some = rw some (search rules)
