-- The command, and what its written meaning makes of the words.
use Rattle.std.specs.Prelude.{ℕ, true, List, [], ◌∷◌, Some, codes, fold}
use Rattle.clap.specs.Words.{Row, Rule, Text, App, Kinds, new_app, new_rule, with_rule, matches_of, fault_of}
use Rattle.clap.specs.Simple.{on_top}
use Rattle.clap.specs.declared.builder.action.ArgAction.TheVariants.{SetTrue}

-- an option `-x` that takes one text
abbrev pub option_rule : Text → ℕ → Rule
option_rule id letter = record (new_rule id) { short = Some letter }

-- a flag `-x`
abbrev pub flag_rule : Text → ℕ → Rule
flag_rule id letter = record (new_rule id) { short = Some letter; action = Some SetTrue }

-- an option `--name` that takes one text
abbrev pub long_option_rule : Text → Rule
long_option_rule name = record (new_rule name) { long = Some name }

-- a flag `--name`
abbrev pub long_flag_rule : Text → Rule
long_flag_rule name = record (new_rule name) { long = Some name; action = Some SetTrue }

-- the command's arguments; DOC is the one that has no letter
abbrev pub the_rules : List Rule
the_rules =
    option_rule (codes "query") 101
    ∷ option_rule (codes "query-name") 113
    ∷ option_rule (codes "limit") 110
    ∷ option_rule (codes "after") 97
    ∷ option_rule (codes "form") 102
    ∷ flag_rule (codes "texts") 116
    ∷ long_flag_rule (codes "filter")
    ∷ long_option_rule (codes "max-table")
    ∷ long_flag_rule (codes "explain")
    ∷ long_option_rule (codes "trial")
    ∷ new_rule (codes "document")
    ∷ []

-- the command, whose words do not begin with the program's name
unfoldable pub the_command : App
the_command = fold with_rule (on_top (λ s. record s { no_binary_name = true }) (new_app (codes "rematch"))) the_rules

-- the kinds of refusal of the words, none where the command takes them
unfoldable pub refusals : List Text → Kinds
refusals words = fault_of the_command words

-- what was found for each argument, where the command takes the words
unfoldable pub found : List Text → List Row
found words = matches_of the_command words
