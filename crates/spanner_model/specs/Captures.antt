-- Mappings: names, and the span that each is given.
--   A fit makes a list of captures. A name stands in it once at most, and its order says nothing: only
--   `span_of` is read. A mapping is a function from names to spans, where None is "absent".
use Rattle.std.specs.Prelude.{◌≡◌, ℕ, ◌⊎◌, List, [], ◌∷◌, Option, Some, None, if◌then◌else◌, map}
use Rattle.std.specs.Str.{bytes_eq}
use Rattle.span_core.specs.declared.span.Span.{Span}

-- the name of a variable, as its bytes
abbrev pub VarName : Type 0
VarName = List ℕ

abbrev pub Captures : Type 0
Captures = List (VarName × Span)

abbrev pub Mapping : Type 0
Mapping = VarName → Option Span

-- the name is captured
abbrev pub Captured : Captures → VarName → Type 0
Captured [] x = ⊥
Captured (c ∷ m) x = (c.0 ≡ x) ⊎ Captured m x

-- no name is captured in both
abbrev pub AreApart : Captures → Captures → Type 0
AreApart m n = (x : VarName) → Captured m x → Captured n x → ⊥

-- the mapping that captures make: the span that a name is given
abbrev pub span_of : Captures → Mapping
span_of [] x = None
span_of (c ∷ m) x = if bytes_eq c.0 x then Some c.1 else span_of m x

-- the row of a mapping: its spans in the order of these names
abbrev pub row_of : List VarName → Mapping → List (Option Span)
row_of names m = map m names

-- the mapping of a row: a name that is not listed is absent
abbrev pub mapping_of : List VarName → List (Option Span) → Mapping
mapping_of [] row x = None
mapping_of (name ∷ names) [] x = None
mapping_of (name ∷ names) (s ∷ row) x = if bytes_eq name x then s else mapping_of names row x
