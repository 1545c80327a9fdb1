-- What is kept of a query from document to document, and what it may cost that it is kept.
use Rattle.std.specs.Prelude.{ℕ, Bool, List, Option, None, Some}
use Rattle.std.specs.Option.{IfSome}
use Rattle.marked_automaton.specs.Automaton.{Automaton}
use Rattle.one_pass.specs.declared.known_table.KeptTable.{KeptTable}
use Rattle.one_pass.specs.Builds.{build}
use Rattle.one_pass.specs.Readings.{IsKeptOf}
use Rattle.spanner_engine.specs.declared.cache.Cache.{Cache}

-- what the cache keeps, if it keeps anything, is of this automaton
abbrev pub IsCacheOf : Automaton → Cache → Type 0
IsCacheOf A cache = IfSome cache.kept (IsKeptOf A)

-- reading by a kept table, in case it is refused and the document is read anew; nothing where none is kept
abbrev pub rebuild : Option KeptTable → Automaton → List ℕ → (ℕ → Bool) → ℕ
rebuild None A d K = 0
rebuild (Some kept) A d K = build A d K
