-- What was read of a text before a place, and the faults that are met there.
use Rattle.std.specs.Prelude.{◌≡◌, ℕ, ◌+◌, ◌<◌, false, List, [], ◌∷◌, ◌++◌, length, drop, Option}
use Rattle.spanner_model.specs.Tree.{Tree}
use Rattle.spanner_model.specs.WellBuilt.{IsVariable, none_word}
use Rattle.formula_parser.specs.declared.fault.FormulaFault.{FormulaFault}
use Rattle.formula_parser.specs.declared.fault.FormulaFault.TheVariants.{Unexpected, Unclosed, BadRange, BadRepeat, DoubleRepeat, Anchor, NameTooLong, ReservedName, TooDeep, NotUtf8}
use Rattle.formula_parser.specs.Runs.{begins_with, StandsAt}
use Rattle.std.specs.Str.{IsUtf8, IsValidUpTo}
use Rattle.formula_parser.specs.Escapes.{Elem}
use Rattle.formula_parser.specs.Alphabet.{Alphabet, of_bytes, of_characters}
use Rattle.formula_parser.specs.CharEscapes.{IsEscapeOf, HasEscapeFault, IsEmptyKind}
use Rattle.formula_parser.specs.Signs.{HasNoSign, HasSign}
use Rattle.formula_parser.specs.Names.{HasHead, head_text}
use Rattle.formula_parser.specs.Repeats.{IsRepeat, IsSign}
use Rattle.formula_parser.specs.Classes.{HasClassFault}
use Rattle.formula_parser.specs.Spells.{IsPlain}

-- the last thing read: the start of a sequence, a unit, a repeat
pub data Mark : Type 0 where
  at_start : Mark
  after_unit : Mark
  after_repeat : Mark

-- what is open: a group, or the capture of a name; the atom's slash always is
pub data Opener : Type 0 where
  slash : Opener
  group : Opener
  capture : List ℕ → Opener

-- an opener other than the slash, and its place
abbrev pub Opening : Type 0
Opening = Opener × ℕ

-- the place of the innermost opener
abbrev pub innermost : ℕ → List Opening → ℕ
innermost from [] = from
innermost from (o ∷ os) = o.1

-- The bytes from the slash at `from` to before p leave these openers open, the innermost first.
pub data Reads (alphabet : Alphabet) (text : List ℕ) (from : ℕ) : ℕ → List Opening → Mark → Type 0 where
  slash_read : begins_with 94 (drop (from + 1) text) ≡ false → Reads alphabet text from (from + 1) [] at_start
  tie_read : StandsAt text (from + 1) (94 ∷ []) → Reads alphabet text from (from + 1 + 1) [] at_start
  unit_read : {p : ℕ} {os : List Opening} {m : Mark} {u after : List ℕ} {f : Tree} →
      Reads alphabet text from p os m → drop p text ≡ u ++ after → IsPlain alphabet u f after → Reads alphabet text from (p + length u) os after_unit
  repeat_read : {p : ℕ} {os : List Opening} {u : List ℕ} {least : ℕ} {most : Option ℕ} →
      Reads alphabet text from p os after_unit → IsRepeat u least most → StandsAt text p u → Reads alphabet text from (p + length u) os after_repeat
  bar_read : {p : ℕ} {os : List Opening} {m : Mark} →
      Reads alphabet text from p os m → StandsAt text p (124 ∷ []) → Reads alphabet text from (p + 1) os at_start
  open_read : {p : ℕ} {os : List Opening} {m : Mark} →
      Reads alphabet text from p os m → length os < 100 → StandsAt text p (40 ∷ []) → Reads alphabet text from (p + 1) ((group, p) ∷ os) at_start
  head_read : {p : ℕ} {os : List Opening} {m : Mark} {x : List ℕ} →
      Reads alphabet text from p os m → length os < 100 → IsVariable x → StandsAt text p (head_text x) →
      Reads alphabet text from (p + length (head_text x)) ((capture x, p) ∷ os) at_start
  close_read : {p q : ℕ} {os : List Opening} {m : Mark} →
      Reads alphabet text from p ((group, q) ∷ os) m → StandsAt text p (41 ∷ []) → Reads alphabet text from (p + 1) os after_unit
  brace_read : {p q : ℕ} {x : List ℕ} {os : List Opening} {m : Mark} →
      Reads alphabet text from p ((capture x, q) ∷ os) m → StandsAt text p (125 ∷ []) → Reads alphabet text from (p + 1) os after_unit

-- The fault that is met first, over the alphabet.
pub data HasFaultOver (alphabet : Alphabet) (text : List ℕ) (from : ℕ) : FormulaFault → Type 0 where
  nothing_to_repeat : {p c : ℕ} {os : List Opening} → Reads alphabet text from p os at_start → IsSign c → StandsAt text p (c ∷ []) → HasFaultOver alphabet text from (Unexpected p)
  nothing_to_close : {p : ℕ} {m : Mark} → Reads alphabet text from p [] m → StandsAt text p (41 ∷ []) → HasFaultOver alphabet text from (Unexpected p)
  no_capture_to_close : {p : ℕ} {m : Mark} → Reads alphabet text from p [] m → StandsAt text p (125 ∷ []) → HasFaultOver alphabet text from (Unexpected p)
  no_class_to_close : {p : ℕ} {os : List Opening} {m : Mark} → Reads alphabet text from p os m → StandsAt text p (93 ∷ []) → HasFaultOver alphabet text from (Unexpected p)
  capture_for_group : {p q : ℕ} {x : List ℕ} {os : List Opening} {m : Mark} → Reads alphabet text from p ((capture x, q) ∷ os) m → StandsAt text p (41 ∷ []) →
      HasFaultOver alphabet text from (Unclosed q)
  group_for_capture : {p q : ℕ} {os : List Opening} {m : Mark} → Reads alphabet text from p ((group, q) ∷ os) m → StandsAt text p (125 ∷ []) →
      HasFaultOver alphabet text from (Unclosed q)
  slash_inside : {p q : ℕ} {o : Opener} {os : List Opening} {m : Mark} → Reads alphabet text from p ((o, q) ∷ os) m → StandsAt text p (47 ∷ []) →
      HasFaultOver alphabet text from (Unclosed q)
  text_ends : {p : ℕ} {os : List Opening} {m : Mark} → Reads alphabet text from p os m → drop p text ≡ [] → HasFaultOver alphabet text from (Unclosed (innermost from os))
  at_escape : {p : ℕ} {os : List Opening} {m : Mark} {e : FormulaFault} → Reads alphabet text from p os m → HasEscapeFault alphabet text p e →
      HasFaultOver alphabet text from e
  empty_kind : {p : ℕ} {os : List Opening} {m : Mark} (e : List ℕ) (x : Elem) → Reads alphabet text from p os m → IsEscapeOf alphabet e x →
      StandsAt text p (92 ∷ e) → IsEmptyKind alphabet x → HasFaultOver alphabet text from (BadRange p)
  in_class : {p : ℕ} {os : List Opening} {m : Mark} {e : FormulaFault} → Reads alphabet text from p os m → StandsAt text p (91 ∷ []) →
      HasClassFault alphabet text p e → HasFaultOver alphabet text from e
  no_repeat : {p : ℕ} {os : List Opening} → Reads alphabet text from p os after_unit → StandsAt text p (123 ∷ []) →
      ((u : List ℕ) (least : ℕ) (most : Option ℕ) → IsRepeat u least most → StandsAt text p u → ⊥) → HasFaultOver alphabet text from (BadRepeat p)
  repeat_twice : {p c : ℕ} {os : List Opening} → Reads alphabet text from p os after_repeat → IsSign c → StandsAt text p (c ∷ []) → HasFaultOver alphabet text from (DoubleRepeat p)
  tie_late : {p : ℕ} {os : List Opening} {m : Mark} → Reads alphabet text from p os m → StandsAt text p (94 ∷ []) → HasFaultOver alphabet text from (Anchor p)
  tie_inside : {p : ℕ} {o : Opening} {os : List Opening} {m : Mark} → Reads alphabet text from p (o ∷ os) m → StandsAt text p (36 ∷ []) → HasFaultOver alphabet text from (Anchor p)
  tie_early : {p : ℕ} {m : Mark} {after : List ℕ} → Reads alphabet text from p [] m → drop p text ≡ 36 ∷ after → begins_with 47 after ≡ false →
      HasFaultOver alphabet text from (Anchor p)
  name_too_long : {p : ℕ} {os : List Opening} {m : Mark} {after : List ℕ} → Reads alphabet text from p os m → drop p text ≡ 33 ∷ after → (x : List ℕ) → HasHead after x →
      32 < length x → HasFaultOver alphabet text from (NameTooLong p)
  reserved_name : {p : ℕ} {os : List Opening} {m : Mark} → Reads alphabet text from p os m → StandsAt text p (head_text none_word) → HasFaultOver alphabet text from (ReservedName p)
  group_too_deep : {p : ℕ} {os : List Opening} {m : Mark} → Reads alphabet text from p os m → length os ≡ 100 → StandsAt text p (40 ∷ []) →
      HasFaultOver alphabet text from (TooDeep p)
  capture_too_deep : {p : ℕ} {os : List Opening} {m : Mark} → Reads alphabet text from p os m → length os ≡ 100 → (x : List ℕ) → IsVariable x →
      StandsAt text p (head_text x) → HasFaultOver alphabet text from (TooDeep p)

-- The fault of an atom. With the sign, the text between the slashes that is no UTF-8 comes before all others.
pub data HasFault (text : List ℕ) (from : ℕ) : FormulaFault → Type 0 where
  over_bytes : {e : FormulaFault} → HasNoSign text from → HasFaultOver of_bytes text from e → HasFault text from e
  not_utf8 : {u : List ℕ} {n : ℕ} → HasSign text from u → IsValidUpTo u n → HasFault text from (NotUtf8 (from + 1 + n))
  over_characters : {u : List ℕ} {e : FormulaFault} → HasSign text from u → IsUtf8 u → HasFaultOver of_characters text from e → HasFault text from e
