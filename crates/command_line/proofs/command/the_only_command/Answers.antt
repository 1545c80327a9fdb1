use Rattle.std.proofs.Common.{◌≡◌, ◌∙◌, ap}
use Rattle.clap.specs.Words.{App, Rule, with_rule}
use Rattle.command_line.specs.Command.{the_command}
use Rattle.command_line.proofs.command.the_only_command.Goals as goal

-- a command to which a rule was added
grown : (before after : App) (a : App) (r : Rule) → after ≡ with_rule before r → before ≡ a → after ≡ with_rule a r
grown before after a r e f = e ∙ ap (λ b. with_rule b r) f

pub returns : goal.returns
unfolding the_command
returns c =
    grown _ _ _ _ c.in_ok-command-11.ensures
    (grown _ _ _ _ c.in_ok-command-10.ensures
    (grown _ _ _ _ c.in_ok-command-9.ensures
    (grown _ _ _ _ c.in_ok-command-8.ensures
    (grown _ _ _ _ c.in_ok-command-7.ensures
    (grown _ _ _ _ c.in_ok-command-6.ensures
    (grown _ _ _ _ c.in_ok-command-5.ensures
    (grown _ _ _ _ c.in_ok-command-4.ensures
    (grown _ _ _ _ c.in_ok-command-3.ensures
    (grown _ _ _ _ c.in_ok-command-2.ensures
    (grown _ _ _ _ c.in_ok-command.ensures c.bare_command-bare.ensures))))))))))
