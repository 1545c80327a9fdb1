-- What a walk through the atoms of a query finds, why it ends early, and what it costs.
use Rattle.std.specs.Prelude.{ℕ, ◌<◌, ◌≤◌, ◌⊎◌, ◌↔◌, Bool, List, IsTrue}
use Rattle.span_core.specs.Intervals.{Covers}
use Rattle.spanner_model.specs.Expression.{AtomTree, ExprTree, QueryTree}
use Rattle.query_automaton.specs.Compiling.{IsAsked}
use Rattle.spanner_engine.specs.Touching.{HasMinus, SomeAtom, SomeAtomOf, sum_atoms}
use Rattle.segment_filter.specs.Touching.{IsTouchedBy}
use Rattle.segment_filter.specs.Costs.{atom_weight, readings_weight, touching_steps}
use Rattle.segment_filter.specs.declared.fault.FilterFault.{FilterFault}
use Rattle.segment_filter.specs.declared.fault.FilterFault.TheVariants.{Full, OutOfMemory}

-- the expression stands in a sound query
abbrev pub IsInSound : ExprTree → Type 0
IsInSound e = (q : QueryTree) × (n : ℕ) × IsAsked q n e

-- some atom of the expression touches the position
abbrev pub IsTouchedIn : List ℕ → ExprTree → ℕ → Type 0
IsTouchedIn d e i = SomeAtom (λ a. IsTouchedBy a d i) e

-- the positions that the atoms of the expression touch are added
abbrev pub AddsTouched : List ℕ → ExprTree → List (ℕ × ℕ) → List (ℕ × ℕ) → Type 0
AddsTouched d e before after = (i : ℕ) → Covers after i ↔ (Covers before i ⊎ IsTouchedIn d e i)

-- the limit is passed by this weight, and the atom weighs no less
abbrev pub IsFullAtom : List ℕ → ℕ → ℕ → AtomTree → Type 0
IsFullAtom d limit weight a = (limit < weight) × (weight ≤ atom_weight a d)

-- why a walk ends early: some atom of the expression passes the limit so; want of memory has no cause
abbrev pub HasFullAtom : List ℕ → ℕ → ExprTree → FilterFault → Type 0
HasFullAtom d limit e (Full weight) = SomeAtom (IsFullAtom d limit weight) e
HasFullAtom d limit e OutOfMemory = Unit {0}

-- why the positions are not told: the filter is asked for, no difference stands in the query's text, and some atom of it passes the limit so
abbrev pub IsFilterFault : QueryTree → List ℕ → Bool → ℕ → FilterFault → Type 0
IsFilterFault q d filter limit (Full weight) = IsTrue filter × ¬ HasMinus q × SomeAtomOf (IsFullAtom d limit weight) q
IsFilterFault q d filter limit OutOfMemory = Unit {0}

-- the two readings of the atom weigh more than the limit
abbrev pub IsHeavy : List ℕ → ℕ → AtomTree → Type 0
IsHeavy d limit a = limit < readings_weight a d

-- with the filter, the readings of no atom of a text without differences weigh more than the limit
abbrev pub AreAtomsWithin : QueryTree → List ℕ → Bool → ℕ → Type 0
AreAtomsWithin q d filter limit = IsTrue filter → ¬ HasMinus q → ¬ SomeAtomOf (IsHeavy d limit) q

-- to find what the atoms of the expression touch
abbrev pub steps_in : List ℕ → ExprTree → ℕ
steps_in d e = sum_atoms (λ a. touching_steps a d) e
