-- What the code's own types stand for.
use Rattle.std.specs.Prelude.{ℕ, map, reverse, Option, Some, None}
use Rattle.spanner_model.specs.View.{tree_of, trees_of}
use Rattle.formula_parser.specs.declared.tokens.Elem.{Elem as CodeElem}
use Rattle.formula_parser.specs.declared.tokens.Elem.TheVariants as code_elem
use Rattle.formula_parser.specs.declared.tokens.Bounds.{Bounds as CodeBounds}
use Rattle.formula_parser.specs.declared.nest.Opener.{Opener as CodeOpener}
use Rattle.formula_parser.specs.declared.nest.Opener.TheVariants as code_opener
use Rattle.formula_parser.specs.declared.nest.Frame.{Frame as CodeFrame}
use Rattle.formula_parser.specs.declared.nest.Last.{Last as CodeLast}
use Rattle.formula_parser.specs.declared.nest.Last.TheVariants as code_last
use Rattle.formula_parser.specs.declared.nest.Nest.{Nest as CodeNest}
use Rattle.formula_parser.specs.declared.alphabet.Alphabet.{Alphabet as CodeAlphabet}
use Rattle.formula_parser.specs.declared.alphabet.Alphabet.TheVariants as code_alphabet
use Rattle.formula_parser.specs.Alphabet.{Alphabet, of_bytes, of_characters}
use Rattle.formula_parser.specs.Escapes.{Elem, byte, kind}
use Rattle.formula_parser.specs.Tokens.{Bounds}
use Rattle.formula_parser.specs.Faults.{Opener, slash, group, capture}
use Rattle.formula_parser.specs.Nest.{Frame, Last, start, unit, repeated, Nest}

abbrev pub elem_of : CodeElem → Elem
elem_of (code_elem.Byte b) = byte b
elem_of (code_elem.Kind s) = kind s

abbrev pub escape_of : Option (CodeElem × ℕ) → Option (Elem × ℕ)
escape_of None = None
escape_of (Some x) = Some (elem_of x.0, x.1)

abbrev pub bounds_of : Option CodeBounds → Option Bounds
bounds_of None = None
bounds_of (Some b) = Some (record { least = b.least; most = b.most; len = b.len })

abbrev pub opener_of : CodeOpener → Opener
opener_of code_opener.Slash = slash
opener_of code_opener.Group = group
opener_of (code_opener.Capture name) = capture name

abbrev pub last_of : CodeLast → Last
last_of code_last.Start = start
last_of (code_last.Unit f) = unit (tree_of f)
last_of (code_last.Repeated f) = repeated (tree_of f)

abbrev pub frame_of : CodeFrame → Frame
frame_of f = record { opener = opener_of f.opener; place = f.place; arms = trees_of f.arms; parts = trees_of f.parts }

-- the code's list has the innermost frame last
abbrev pub nest_of : CodeNest → Nest
nest_of n = record { below = map frame_of (reverse n.below.items); top = frame_of n.top; last = last_of n.last }

abbrev pub alphabet_seen : CodeAlphabet → Alphabet
alphabet_seen code_alphabet.Bytes = of_bytes
alphabet_seen code_alphabet.Characters = of_characters
