-- What the code's types of a class stand for.
use Rattle.std.specs.Prelude.{ℕ, Result, Ok, Err}
use Rattle.formula_parser.specs.declared.fault.FormulaFault.{FormulaFault}
use Rattle.formula_parser.specs.declared.class.ClassLast.{ClassLast}
use Rattle.formula_parser.specs.declared.class.ClassLast.TheVariants as code_last
use Rattle.formula_parser.specs.declared.class.Items.{Items}
use Rattle.formula_parser.specs.declared.class.ClassToken.{ClassToken}
use Rattle.formula_parser.specs.declared.class.ClassToken.TheVariants as code_token
use Rattle.formula_parser.specs.Sets.{Bytes}
use Rattle.formula_parser.specs.Classes as classes
use Rattle.formula_parser.specs.Classes.{Within, no_item, after_dash, after_range}
use Rattle.formula_parser.specs.ClassStep.{ClassNext, goes_on, closes, fails, takes_elem, takes_end}
use Rattle.formula_parser.specs.View.{elem_of}

abbrev pub last_of : ClassLast → Within
last_of code_last.Nothing = no_item
last_of (code_last.Elem x q) = classes.after_elem (elem_of x) q
last_of (code_last.Dash x q) = after_dash (elem_of x) q
last_of code_last.Range = after_range

-- what the class is after an element of so many bytes, by what the code makes of its items
abbrev pub after_elem : ℕ → Result Items FormulaFault → ClassNext
after_elem len (Ok items) = goes_on len items.set (last_of items.last)
after_elem len (Err e) = fails e

-- after a `]`
abbrev pub after_end : Result Bytes FormulaFault → ClassNext
after_end (Ok s) = closes s
after_end (Err e) = fails e

-- after a token at the place p that the code found
abbrev pub after_token : ℕ → Result ClassToken FormulaFault → Bytes → Within → ClassNext
after_token p (Ok (code_token.Elem x len)) s w = takes_elem p (elem_of x, len) s w
after_token p (Ok (code_token.Dash x q)) s w = goes_on 1 s (after_dash (elem_of x) q)
after_token p (Ok code_token.End) s w = takes_end p s w
after_token p (Err e) s w = fails e
