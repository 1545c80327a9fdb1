-- What the code's types of escapes and classes over characters stand for.
use Rattle.std.specs.Prelude.{◌≡◌, ℕ, ◌<◌, ◌↔◌, Bool, true, false, List, Option, Some, None, Result, Ok, Err, IsTrue, if◌then◌else◌}
use Rattle.std.specs.Char.{IsScalar}
use Rattle.std.specs.FinSet as set
use Rattle.span_core.specs.Intervals.{Covers}
use Rattle.spanner_model.specs.Tree.{Tree}
use Rattle.spanner_model.specs.View.{tree_of}
use Rattle.spanner_model.specs.declared.formula.Formula.{Formula}
use Rattle.formula_parser.specs.declared.fault.FormulaFault.{FormulaFault}
use Rattle.formula_parser.specs.declared.fault.FormulaFault.TheVariants.{OutOfMemory}
use Rattle.formula_parser.specs.declared.characters.CharElem.{CharElem}
use Rattle.formula_parser.specs.declared.characters.CharElem.TheVariants as code_elem
use Rattle.formula_parser.specs.declared.char_class.CharLast.{CharLast}
use Rattle.formula_parser.specs.declared.char_class.CharLast.TheVariants as code_last
use Rattle.formula_parser.specs.declared.char_class.CharItems.{CharItems}
use Rattle.formula_parser.specs.declared.char_class.CharToken.{CharToken}
use Rattle.formula_parser.specs.declared.char_class.CharToken.TheVariants as code_token
use Rattle.formula_parser.specs.Sets.{Bytes}
use Rattle.formula_parser.specs.Alphabet.{of_characters, members, others_of}
use Rattle.formula_parser.specs.Escapes.{Elem, byte, kind}
use Rattle.formula_parser.specs.Dialect.{ElemToken, is_scalar}
use Rattle.formula_parser.specs.Classes.{Within, no_item, after_elem, after_dash, after_range}
use Rattle.formula_parser.specs.ClassStep.{ClassNext, goes_on, closes, fails, takes_elem, takes_end}

-- the ranges are those of the characters among the numbers of the set
abbrev pub Holds : List (ℕ × ℕ) → Bytes → Type 0
Holds ranges s = (c : ℕ) → Covers ranges c ↔ (IsScalar c × IsTrue (set.contains s c))

-- the ranges are those of the numbers in the set that lie below n
abbrev pub HoldsBelow : List (ℕ × ℕ) → ℕ → Bytes → Type 0
HoldsBelow ranges n s = (c : ℕ) → Covers ranges c ↔ ((c < n) × IsTrue (set.contains s c))

abbrev pub IsElemOf : CharElem → Elem → Type 0
IsElemOf (code_elem.One c) x = x ≡ byte c
IsElemOf (code_elem.Kind ranges) x = (s : Bytes) × (x ≡ kind s) × Holds ranges s

-- the code's answer is this token, or memory ran out
abbrev pub IsElemToken : Result (CharElem × ℕ) FormulaFault → ElemToken → Type 0
IsElemToken (Ok found) token = (x : Elem) × IsElemOf found.0 x × (token ≡ Ok (x, found.1))
IsElemToken (Err OutOfMemory) token = Unit {0}
IsElemToken (Err fault) token = token ≡ Err fault

-- a number where it is that of a character
abbrev pub scalar_of : Option ℕ → Option ℕ
scalar_of None = None
scalar_of (Some c) = if is_scalar c then Some c else None

abbrev pub IsLastOf : CharLast → Within → Type 0
IsLastOf code_last.Nothing w = w ≡ no_item
IsLastOf (code_last.Elem found q) w = (x : Elem) × IsElemOf found x × (w ≡ after_elem x q)
IsLastOf (code_last.Dash found q) w = (x : Elem) × IsElemOf found x × (w ≡ after_dash x q)
IsLastOf code_last.Range w = w ≡ after_range

abbrev pub AreItemsOf : CharItems → Bytes → Within → Type 0
AreItemsOf items s w = Holds items.set s × IsLastOf items.last w

abbrev pub is_after_elem : Within → Bool
is_after_elem no_item = false
is_after_elem (after_elem x q) = true
is_after_elem (after_dash x q) = false
is_after_elem after_range = false

-- the `-` of a range
abbrev pub IsDashStep : Within → Bytes → ClassNext → Type 0
IsDashStep (after_elem x q) s next = next ≡ goes_on 1 s (after_dash x q)
IsDashStep w s next = ⊥

-- what the code's token at the place p makes of a class
abbrev pub IsTokenStep : Result CharToken FormulaFault → ℕ → Bytes → Within → ClassNext → Type 0
IsTokenStep (Ok (code_token.Elem found len)) p s w next = (x : Elem) × IsElemOf found x × (next ≡ takes_elem p (x, len) s w)
IsTokenStep (Ok code_token.Dash) p s w next = IsDashStep w s next
IsTokenStep (Ok code_token.End) p s w next = next ≡ takes_end p s w
IsTokenStep (Err OutOfMemory) p s w next = Unit {0}
IsTokenStep (Err fault) p s w next = next ≡ fails fault

-- the items after an element that takes so many bytes
abbrev pub AreItemsAfter : Result CharItems FormulaFault → ℕ → ClassNext → Type 0
AreItemsAfter (Ok items) len next = (s : Bytes) × (w : Within) × AreItemsOf items s w × (next ≡ goes_on len s w)
AreItemsAfter (Err OutOfMemory) len next = Unit {0}
AreItemsAfter (Err fault) len next = next ≡ fails fault

-- the characters of a class with these items, or all others
abbrev pub chosen_set : Bool → Bytes → Bytes
chosen_set negated s = if negated then others_of of_characters s else members of_characters s

-- the set of all the items
abbrev pub IsWholeSet : Result (List (ℕ × ℕ)) FormulaFault → ClassNext → Type 0
IsWholeSet (Ok ranges) next = (s : Bytes) × Holds ranges s × (next ≡ closes s)
IsWholeSet (Err OutOfMemory) next = Unit {0}
IsWholeSet (Err fault) next = next ≡ fails fault

-- the tree of the class that is read, and how many bytes it takes
abbrev pub IsClassRead : (Bytes → Tree) → Result (Formula × ℕ) FormulaFault → Result (Bytes × ℕ) FormulaFault → Type 0
IsClassRead trees (Ok x) r = (s : Bytes) × (tree_of x.0 ≡ trees s) × (r ≡ Ok (s, x.1))
IsClassRead trees (Err OutOfMemory) r = Unit {0}
IsClassRead trees (Err fault) r = r ≡ Err fault
