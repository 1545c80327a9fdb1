-- The reader of a class, one element after another.
use Rattle.std.specs.Prelude.{ℕ, zero, suc, ◌+◌, ◌-◌, Bool, true, false, ◌==◌, nat_le, List, [], ◌∷◌, drop, Result, Ok, Err, if◌then◌else◌}
use Rattle.std.specs.FinSet as set
use Rattle.formula_parser.specs.declared.fault.FormulaFault.{FormulaFault}
use Rattle.formula_parser.specs.declared.fault.FormulaFault.TheVariants.{Unexpected, Unclosed, BadRange}
use Rattle.formula_parser.specs.Sets.{Bytes}
use Rattle.formula_parser.specs.Alphabet.{members, others_of}
use Rattle.formula_parser.specs.Dialect.{Dialect, alphabet_of, ElemToken, escape_in, wide_in}
use Rattle.formula_parser.specs.Runs.{begins_with}
use Rattle.formula_parser.specs.Escapes.{Elem, byte, kind, elem_set}
use Rattle.formula_parser.specs.Classes.{range_set, Within, no_item, after_elem, after_dash, after_range}

-- so many bytes are read, and these are the set of the items before the last element and the last thing read; or the class ends here; or it has a fault
pub data ClassNext : Type 0 where
  goes_on : ℕ → Bytes → Within → ClassNext
  closes : Bytes → ClassNext
  fails : FormulaFault → ClassNext

-- the set of all items that were read
abbrev pub held_set : Bytes → Within → Bytes
held_set s no_item = s
held_set s (after_elem x q) = set.union s (elem_set x)
held_set s (after_dash x q) = s
held_set s after_range = s

abbrev pub are_range : Elem → Elem → Bool
are_range (byte a) (byte b) = nat_le a b
are_range (byte a) (kind s) = false
are_range (kind s) y = false

-- an element that takes so many bytes
abbrev pub takes_elem : ℕ → Elem × ℕ → Bytes → Within → ClassNext
takes_elem p x s no_item = goes_on x.1 s (after_elem x.0 p)
takes_elem p x s (after_elem y q) = goes_on x.1 (set.union s (elem_set y)) (after_elem x.0 p)
takes_elem p x s (after_dash y q) = if are_range y x.0 then goes_on x.1 (set.union s (range_set y x.0)) after_range else fails (BadRange q)
takes_elem p x s after_range = goes_on x.1 s (after_elem x.0 p)

-- an element, or the fault of it
abbrev pub takes_token : ℕ → ElemToken → Bytes → Within → ClassNext
takes_token p (Ok x) s w = takes_elem p x s w
takes_token p (Err e) s w = fails e

-- a `-`, before the text t
abbrev pub takes_dash : ℕ → List ℕ → Bytes → Within → ClassNext
takes_dash p t s no_item = takes_elem p (byte 45, 1) s no_item
takes_dash p t s (after_elem x q) =
    if begins_with 93 t then takes_elem p (byte 45, 1) s (after_elem x q) else goes_on 1 s (after_dash x q)
takes_dash p t s (after_dash x q) = takes_elem p (byte 45, 1) s (after_dash x q)
takes_dash p t s after_range = takes_elem p (byte 45, 1) s after_range

-- a `]`
abbrev pub takes_end : ℕ → Bytes → Within → ClassNext
takes_end p s no_item = fails (Unexpected p)
takes_end p s (after_elem x q) = closes (set.union s (elem_set x))
takes_end p s (after_dash x q) = fails (Unexpected p)
takes_end p s after_range = closes s

-- what the next token makes of a class whose `[` stands at `from`
abbrev pub class_step : Dialect → ℕ → ℕ → List ℕ → Bytes → Within → ClassNext
class_step d from p [] s w = fails (Unclosed from)
class_step d from p (c ∷ t) s w =
    if c == 93 then takes_end p s w
    else if c == 91 then fails (Unexpected p)
    else if c == 47 then fails (Unclosed from)
    else if nat_le 128 c then takes_token p (wide_in d p (c ∷ t)) s w
    else if c == 92 then takes_token p (escape_in d p t) s w
    else if c == 45 then takes_dash p t s w
    else takes_elem p (byte c, 1) s w

-- the class that ends before the place p with these items
abbrev pub closed_class : Dialect → Bool → ℕ → ℕ → Bytes → Result (Bytes × ℕ) FormulaFault
closed_class d negated from p s =
    let all = if negated then others_of (alphabet_of d) s else members (alphabet_of d) s in
    if set.len all == 0 then Err (BadRange from) else Ok (all, p - from)

-- the items from the place p on, after `skip` bytes that were read already
unfoldable pub items_at : Dialect → Bool → ℕ → ℕ → ℕ → List ℕ → Bytes → Within → Result (Bytes × ℕ) FormulaFault
items_at d negated from (suc skip) p [] s w = Err (Unclosed from)
items_at d negated from (suc skip) p (c ∷ t) s w = items_at d negated from skip (p + 1) t s w
items_at d negated from zero p [] s w = Err (Unclosed from)
items_at d negated from zero p (c ∷ t) s w = elim (class_step d from p (c ∷ t) s w) [
  | goes_on len r v ↦ items_at d negated from (len - 1) (p + 1) t r v
  | closes r ↦ closed_class d negated from (p + 1) r
  | fails e ↦ Err e
]

-- The class whose `[` stands at `from`, by the text after the `[`: its set and how many bytes it takes with both brackets, or its fault.
unfoldable pub class_at : Dialect → ℕ → List ℕ → Result (Bytes × ℕ) FormulaFault
class_at d from t =
    if begins_with 94 t then items_at d true from 0 (from + 2) (drop 1 t) set.empty no_item
    else items_at d false from 0 (from + 1) t set.empty no_item
