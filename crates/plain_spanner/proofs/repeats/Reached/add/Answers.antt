use Rattle.std.proofs.Common.{◌≡◌, refl, sym, ◌∙◌}
use Rattle.plain_spanner.proofs.TellsLaws.{tells_pushed}
use Rattle.plain_spanner.proofs.EndLaws.{there_number, number_added}
use Rattle.plain_spanner.proofs.repeats.Reached.add.Goals as goal

pub returns-in_ok-insert-clause-all : goal.returns-in_ok-insert-clause-all
returns-in_ok-insert-clause-all c = rw c.in_ok-push.ensures.items (tells_pushed (λ j. c.args.end ≡ j) c.args.self.now.ends.items c.args.end (λ j e. e) refl)

pub returns-else-not-contains-clause-all : goal.returns-else-not-contains-clause-all
returns-else-not-contains-clause-all c =
    number_added c.args.self.now.ends.items c.args.end (there_number c.args.self.now.ends.items c.args.end (c.args.self.now.listed c.args.end (sym c.contains.ensures ∙ c.if-not-contains.false)))
