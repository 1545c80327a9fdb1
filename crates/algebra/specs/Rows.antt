-- The operations on rows: what blocks say of the spans of rows.
use Rattle.std.specs.Prelude.{◌≡◌, ℕ, ◌≤◌, ◌⊎◌, ◌↔◌, List, IsTrue, if◌then◌else◌}
use Rattle.std.specs.Option.{ForSome}
use Rattle.span_core.specs.declared.span.Span.{Span}
use Rattle.span_core.specs.Block.{block}
use Rattle.spanner_model.specs.Captures.{VarName, Mapping, row_of}
use Rattle.span_core.specs.Lists.{Has, AreDistinct}
use Rattle.span_core.specs.NameSets.{has_name}
use Rattle.algebra.specs.JoinedMarks.{agree_on, joined}

-- each span of these variables lies in a document of so many bytes
abbrev pub LiesWithin : ℕ → List VarName → Mapping → Type 0
LiesWithin n names m = (x : VarName) → Has names x → ForSome (m x) (λ (s : Span). s.end ≤ n)

-- the first mapping on its names, and elsewhere the second
abbrev pub merged : List VarName → Mapping → Mapping → Mapping
merged names1 m1 m2 x = if has_name names1 x then m1 x else m2 x

-- The blocks of two rows agree at all positions exactly where shared variables have equal spans.
abbrev pub BlocksAgree : Type 0
BlocksAgree =
    (names1 names2 names : List VarName) → AreDistinct names1 → AreDistinct names2 → ((x : VarName) → Has names x ↔ (Has names1 x ⊎ Has names2 x)) →
    (m1 m2 : Mapping) (n : ℕ) → LiesWithin n names1 m1 → LiesWithin n names2 m2 →
    ((p : ℕ) → p ≤ n → IsTrue (agree_on names1 names2 names (block (row_of names1 m1) p) (block (row_of names2 m2) p)))
    ↔ ((x : VarName) → Has names1 x → Has names2 x → m1 x ≡ m2 x)

-- What two blocks are together is the block of the merged row.
abbrev pub BlocksAreJoined : Type 0
BlocksAreJoined =
    (names1 names2 names : List VarName) → AreDistinct names1 → AreDistinct names2 → ((x : VarName) → Has names x ↔ (Has names1 x ⊎ Has names2 x)) →
    (m1 m2 : Mapping) (p : ℕ) →
    joined names1 names2 names (block (row_of names1 m1) p) (block (row_of names2 m2) p) ≡ block (row_of names (merged names1 m1 m2)) p
