-- What is kept from document to document.
use Rattle.std.proofs.Common.{◌≡◌, ℕ, ◌+◌, ◌≤◌, Bool, List, Option, None, Some, ap, arith}
use Rattle.marked_automaton.specs.Automaton.{Automaton}
use Rattle.one_pass.specs.Readings.{IsKeptOf}
use Rattle.spanner_engine.specs.Caching.{IsCacheOf, rebuild}
use Rattle.spanner_engine.specs.declared.cache.Cache.{Cache}
use Rattle.one_pass.specs.declared.known_table.KeptTable.{KeptTable}

-- what is taken out is of the automaton
pub kept_of : (A : Automaton) (cache : Cache) (kept : KeptTable) → IsCacheOf A cache → cache.kept ≡ Some kept → IsKeptOf A kept
kept_of A cache kept goes is = rw is at goes

-- nothing, where none was kept
pub alone : (o : Option KeptTable) (A : Automaton) (d : List ℕ) (K : ℕ → Bool) (old new s : ℕ) → o ≡ None → new ≤ old + rebuild o A d K + s → new ≤ old + s
alone o A d K old new s is le =
    let none : rebuild o A d K ≡ 0 = ap (λ (k : Option KeptTable). rebuild k A d K) is in
    omega (arith, le, none)
