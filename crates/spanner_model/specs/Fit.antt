-- Fit: a formula fits a part of the document, with captures (Fagin et al. 2015, regex formulas).
--   Positions are counted from 0, and a part may be empty.
use Rattle.std.specs.Prelude.{◌≡◌, ℕ, zero, suc, ◌+◌, ◌≤◌, ◌⊎◌, List, [], ◌∷◌, ◌++◌, Some, slice_get, IsTrue}
use Rattle.std.specs.Option.{ForSome}
use Rattle.std.specs.FinSet.{contains}
use Rattle.span_core.specs.declared.span.Span.{Span}
use Rattle.spanner_model.specs.Tree.{Tree, empty, one, cat_end, cat, alt_end, alt, rep, cap}
use Rattle.spanner_model.specs.Captures.{Captures, Captured, AreApart}

-- what fits the part from i to j of a document, and with which captures
abbrev pub Piece : Type 1
Piece = ℕ → ℕ → Captures → Type 0

-- first one piece, then the other, next to it; they capture no name both, and their captures are joined
abbrev pub Then : Piece → Piece → Piece
Then P Q i j m =
    (k : ℕ) × (m1 : Captures) × (m2 : Captures) × P i k m1 × Q k j m2 × AreApart m1 m2 × (m ≡ m1 ++ m2)

-- the empty piece
abbrev pub Nothing : Piece
Nothing i j m = (i ≡ j) × (m ≡ [])

-- c pieces, one after another
abbrev pub Times : Piece → ℕ → Piece
Times P zero = Nothing
Times P (suc c) = Then P (Times P c)

-- the formula fits the part from i to j of the document d, with the captures m
abbrev pub Fit : Tree → List ℕ → Piece
Fit empty d i j m = Nothing i j m
Fit (one set) d i j m = (b : ℕ) × (slice_get d i ≡ Some b) × IsTrue (contains set b) × (j ≡ i + 1) × (m ≡ [])
Fit cat_end d i j m = Nothing i j m
Fit (cat f rest) d i j m = Then (Fit f d) (Fit rest d) i j m
Fit alt_end d i j m = ⊥
Fit (alt f rest) d i j m = Fit f d i j m ⊎ Fit rest d i j m
Fit (rep f least most) d i j m =
    (c : ℕ) × (least ≤ c) × ForSome most (λ b. c ≤ b) × Times (Fit f d) c i j m
Fit (cap x f) d i j m =
    (s : Span) × (n : Captures) × (s.start ≡ i) × (s.end ≡ j) × Fit f d i j n × (Captured n x → ⊥) × (m ≡ (x, s) ∷ n)
