-- Lists of fits, and of their ends.
use Rattle.std.specs.List.{list_any}
use Rattle.std.specs.Prelude.{◌≡◌, Bool, nat_eq, ℕ, ◌+◌, ◌≤◌, List, [], ◌∷◌, ◌++◌}
use Rattle.span_core.specs.declared.span.Span.{Span}
use Rattle.span_core.specs.Lists.{Has}
use Rattle.spanner_model.specs.Captures.{VarName, Captures}
use Rattle.spanner_model.specs.Fit.{Piece, Times}

-- H is true of what Q is true of, and of nothing else
pub record Tells {X : Type 0} (H Q : X → Type 0) : Type 0 where
  pub each_so : (x : X) → H x → Q x
  pub all_there : (x : X) → Q x → H x

-- some x of the list is so related to y
abbrev pub FromSome : {X Y : Type 0} → (X → Y → Type 0) → List X → Y → Type 0
FromSome {X} R xs y = (x : X) × Has xs x × R x y

-- a number is in the list
abbrev pub has_number : List ℕ → ℕ → Bool
has_number xs j = list_any (λ x. nat_eq x j) xs

-- ---- ends

-- from some of these starts on a piece leads to here, and captures nothing
abbrev pub LeadsOn : Piece → List ℕ → ℕ → Type 0
LeadsOn P starts j = FromSome (λ i j. P i j []) starts j

-- so many pieces
abbrev pub LeadsTimes : Piece → ℕ → List ℕ → ℕ → Type 0
LeadsTimes P c starts j = FromSome (λ i j. Times P c i j []) starts j

-- at least so many pieces, and at most so many more
abbrev pub LeadsIn : Piece → ℕ → ℕ → List ℕ → ℕ → Type 0
LeadsIn P least more starts j = (c : ℕ) × (least ≤ c) × (c ≤ least + more) × LeadsTimes P c starts j

-- ---- fits, of which those with the same captures stand together

-- where a fit ends, and what it captures
abbrev pub EndAndCaptures : Type 0
EndAndCaptures = ℕ × Captures

-- captures, and the ends of the fits that have them
abbrev pub CapturesAndEnds : Type 0
CapturesAndEnds = Captures × List ℕ

-- the fit is among these
abbrev pub HasFit : List CapturesAndEnds → EndAndCaptures → Type 0
HasFit branches fit = (ends : List ℕ) × Has branches (fit.1, ends) × Has ends fit.0

-- the fit goes on from one of which A is true by a piece, and has the captures of both
abbrev pub Continued : (EndAndCaptures → Type 0) → Piece → EndAndCaptures → Type 0
Continued A P fit =
    (k : ℕ) × (m1 : Captures) × (m2 : Captures) × A (k, m1) × P k fit.0 m2 × (fit.1 ≡ m1 ++ m2)

-- the fits of all branches end in the document, which has n bytes
abbrev pub EndWithin : ℕ → List CapturesAndEnds → Type 0
EndWithin n branches = (fit : EndAndCaptures) → HasFit branches fit → fit.0 ≤ n

-- after the captures m0 a capture from i to j, in which m1 is captured
abbrev pub CapturedTo : VarName → ℕ → Captures → Captures → ℕ → EndAndCaptures → Type 0
CapturedTo x i m0 m1 j fit = (s : Span) × (s.start ≡ i) × (s.end ≡ j) × (fit ≡ (j, m0 ++ (x, s) ∷ m1))

-- a capture from i to one of the ends, in which the branch is captured
abbrev pub CapturedAt : VarName → ℕ → Captures → CapturesAndEnds → EndAndCaptures → Type 0
CapturedAt x i m0 b fit = FromSome (CapturedTo x i m0 b.0) b.1 fit

-- a capture from i on, of a piece
abbrev pub CapturedFrom : VarName → Piece → Captures → ℕ → EndAndCaptures → Type 0
CapturedFrom x P m0 i fit = (j : ℕ) × (m1 : Captures) × P i j m1 × CapturedTo x i m0 m1 j fit
