-- What the grammar and the faults of queries have in common.
use Rattle.std.specs.Prelude.{◌≡◌, ℕ, ◌<◌, ◌⊎◌, List, All}
use Rattle.spanner_model.specs.Expression.{QueryTree}
use Rattle.query_parser.specs.declared.fault.QueryFault.{QueryFault}
use Rattle.query_parser.specs.Spells.{SpellsQuery}
use Rattle.query_parser.specs.Faults.{IsReadFault, KeepsTooMany, HasFault, IsQueryText}

-- no text spells two queries
abbrev pub HasOneQuery : Type 0
HasOneQuery = (text : List ℕ) (q r : QueryTree) → SpellsQuery text q → SpellsQuery text r → q ≡ r

-- no text spells a query, and has a fault that is met when it is read or a projection that keeps too many names
abbrev pub HasNoQueryWithReadFault : Type 0
HasNoQueryWithReadFault =
    (text : List ℕ) (q : QueryTree) → SpellsQuery text q → ((e : QueryFault) → ¬ IsReadFault text e) × ¬ KeepsTooMany text

-- no text has two faults that are met when it is read, nor one and a projection that keeps too many names
abbrev pub HasOneReadFault : Type 0
HasOneReadFault =
    (text : List ℕ) (e : QueryFault) → IsReadFault text e → ((d : QueryFault) → IsReadFault text d → e ≡ d) × ¬ KeepsTooMany text

-- each text spells a query, has a fault that is met when it is read, or keeps too many names
abbrev pub IsReadOrRefused : Type 0
IsReadOrRefused =
    (text : List ℕ) → ((q : QueryTree) × SpellsQuery text q) ⊎ (((e : QueryFault) × IsReadFault text e) ⊎ KeepsTooMany text)

-- no text of a sound query has a fault
abbrev pub HasNoQueryWithFault : Type 0
HasNoQueryWithFault = (text : List ℕ) (q : QueryTree) (e : QueryFault) → IsQueryText text q → HasFault text e → ⊥

-- no text has two faults
abbrev pub HasOneFault : Type 0
HasOneFault = (text : List ℕ) (e d : QueryFault) → HasFault text e → HasFault text d → e ≡ d

-- each text of bytes is that of a sound query or has a fault
abbrev pub HasQueryOrFault : Type 0
HasQueryOrFault =
    (text : List ℕ) → All (λ b. b < 256) text → ((q : QueryTree) × IsQueryText text q) ⊎ ((e : QueryFault) × HasFault text e)
