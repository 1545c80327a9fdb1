-- The grammar of an atom: which text spells which tree.
use Rattle.std.specs.Prelude.{◌≡◌, ◌≢◌, ℕ, suc, ◌+◌, ◌≤◌, ◌<◌, Bool, true, false, List, [], ◌∷◌, ◌++◌, length, drop, map, Option, IsTrue}
use Rattle.std.specs.List.{list_all}
use Rattle.spanner_model.specs.Tree.{Tree, empty, one, rep, cap, cat_all, alt_all}
use Rattle.spanner_model.specs.WellBuilt.{IsVariable}
use Rattle.spanner_model.specs.Expression.{AtomTree}
use Rattle.std.specs.Str.{IsUtf8}
use Rattle.formula_parser.specs.Sets.{Bytes, single}
use Rattle.formula_parser.specs.Runs.{begins}
use Rattle.formula_parser.specs.Escapes.{Elem, elem_set, is_between}
use Rattle.formula_parser.specs.Alphabet.{Alphabet, of_bytes, of_characters, dot_set, IsSetTree}
use Rattle.formula_parser.specs.CharEscapes.{IsEscapeOf, IsEmptyKind}
use Rattle.formula_parser.specs.Signs.{HasNoSign, HasSign}
use Rattle.formula_parser.specs.Names.{HasHead, head_text}
use Rattle.formula_parser.specs.Repeats.{IsRepeat}
use Rattle.formula_parser.specs.Classes.{IsClass}

-- a sequence of no pieces is empty, of one piece that piece, of more their concatenation
abbrev pub seq_tree : List Tree → Tree
seq_tree [] = empty
seq_tree (f ∷ []) = f
seq_tree (f ∷ g ∷ fs) = cat_all (f ∷ g ∷ fs)

-- an alternation of one sequence is that sequence, of more their alternation
abbrev pub alt_tree : List Tree → Tree
alt_tree [] = empty
alt_tree (f ∷ []) = f
alt_tree (f ∷ g ∷ fs) = alt_all (f ∷ g ∷ fs)

abbrev pub IsNoneOf : ℕ → List ℕ → Type 0
IsNoneOf b [] = Unit {0}
IsNoneOf b (c ∷ cs) = (b ≢ c) × IsNoneOf b cs

-- / ( ) [ ] { } | * + ? . ^ $ ! and the backslash
abbrev pub specials : List ℕ
specials = 47 ∷ 40 ∷ 41 ∷ 91 ∷ 93 ∷ 123 ∷ 125 ∷ 124 ∷ 42 ∷ 43 ∷ 63 ∷ 46 ∷ 94 ∷ 36 ∷ 33 ∷ 92 ∷ []

-- a byte below C0 that stands for itself
abbrev pub IsLiteral : ℕ → Type 0
IsLiteral b = IsNoneOf b specials × (b < 192)

-- a byte that follows the first one of a character of UTF-8
abbrev pub is_tail : ℕ → Bool
is_tail c = is_between 128 191 c

-- these bytes, one after another
abbrev pub bytes_tree : List ℕ → Tree
bytes_tree bytes = seq_tree (map (λ b. one (single b)) bytes)

-- a unit without parts; `after` is the text that follows
pub data IsPlain (alphabet : Alphabet) : List ℕ → Tree → List ℕ → Type 0 where
  literal : {b : ℕ} {after : List ℕ} → IsLiteral b → IsPlain alphabet (b ∷ []) (one (single b)) after
  -- a byte of C0 or more, and all the bytes of 80 to BF that follow it
  wide : {b : ℕ} {t after : List ℕ} → 192 ≤ b → IsTrue (list_all is_tail t) → begins is_tail after ≡ false → IsPlain alphabet (b ∷ t) (bytes_tree (b ∷ t)) after
  -- a `!` stands for itself where it begins no capture
  bang : {after : List ℕ} → ((x : List ℕ) → HasHead after x → ⊥) → IsPlain alphabet (33 ∷ []) (one (single 33)) after
  dot : {after : List ℕ} {f : Tree} → IsSetTree alphabet (dot_set alphabet) f → IsPlain alphabet (46 ∷ []) f after
  escape : {e after : List ℕ} (x : Elem) {f : Tree} → IsEscapeOf alphabet e x → (IsEmptyKind alphabet x → ⊥) → IsSetTree alphabet (elem_set x) f →
      IsPlain alphabet (92 ∷ e) f after
  class : {t after : List ℕ} {s : Bytes} {f : Tree} → IsClass alphabet t s after → IsSetTree alphabet s f → IsPlain alphabet (91 ∷ t) f after

-- `room` is how many groups and captures may still be opened, `after` the text that follows.
mutual
  -- the text of the sequences of an alternation, with a bar between, and their trees
  pub data SpellsAlt (alphabet : Alphabet) : ℕ → List ℕ → List Tree → List ℕ → Type 0 where
    lone_arm : {room : ℕ} {t after : List ℕ} {fs : List Tree} → SpellsSeq alphabet room t fs after → SpellsAlt alphabet room t (seq_tree fs ∷ []) after
    more_arms : {room : ℕ} {t u after : List ℕ} {fs gs : List Tree} → SpellsSeq alphabet room t fs (124 ∷ u ++ after) → SpellsAlt alphabet room u gs after →
        SpellsAlt alphabet room (t ++ 124 ∷ u) (seq_tree fs ∷ gs) after

  -- the text of the pieces of a sequence, and their trees
  pub data SpellsSeq (alphabet : Alphabet) : ℕ → List ℕ → List Tree → List ℕ → Type 0 where
    no_piece : {room : ℕ} {after : List ℕ} → SpellsSeq alphabet room [] [] after
    more_pieces : {room : ℕ} {t u after : List ℕ} {f : Tree} {fs : List Tree} → SpellsPiece alphabet room t f (u ++ after) → SpellsSeq alphabet room u fs after →
        SpellsSeq alphabet room (t ++ u) (f ∷ fs) after

  -- a unit, or a unit and its repeat
  pub data SpellsPiece (alphabet : Alphabet) : ℕ → List ℕ → Tree → List ℕ → Type 0 where
    once : {room : ℕ} {t after : List ℕ} {f : Tree} → SpellsUnit alphabet room t f after → SpellsPiece alphabet room t f after
    again : {room : ℕ} {t u after : List ℕ} {f : Tree} {least : ℕ} {most : Option ℕ} → SpellsUnit alphabet room t f (u ++ after) → IsRepeat u least most →
        SpellsPiece alphabet room (t ++ u) (rep f least most) after

  pub data SpellsUnit (alphabet : Alphabet) : ℕ → List ℕ → Tree → List ℕ → Type 0 where
    plain : {room : ℕ} {t after : List ℕ} {f : Tree} → IsPlain alphabet t f after → SpellsUnit alphabet room t f after
    group_of : {room : ℕ} {t after : List ℕ} {fs : List Tree} → SpellsAlt alphabet room t fs (41 ∷ after) →
        SpellsUnit alphabet (suc room) (40 ∷ (t ++ 41 ∷ [])) (alt_tree fs) after
    capture_of : {room : ℕ} {x t after : List ℕ} {fs : List Tree} → IsVariable x → SpellsAlt alphabet room t fs (125 ∷ after) →
        SpellsUnit alphabet (suc room) (head_text x ++ (t ++ 125 ∷ [])) (cap x (alt_tree fs)) after

-- the byte, where it is there
abbrev pub given : Bool → ℕ → List ℕ
given true b = b ∷ []
given false b = []

-- The text between the slashes spells the atom, a `^` before the formula and a `$` after it where it is tied; `after` follows the closing slash.
abbrev pub Spells : Alphabet → List ℕ → AtomTree → List ℕ → Type 0
Spells alphabet text a after =
    (t : List ℕ) × (fs : List Tree) × (text ≡ given a.from_start 94 ++ (t ++ given a.to_end 36))
    × SpellsAlt alphabet 100 t fs (given a.to_end 36 ++ 47 ∷ after) × (a.formula ≡ alt_tree fs)

-- The slash at `from` begins an atom over the alphabet: its tree, and the place after its closing slash.
abbrev pub IsAtomOver : Alphabet → List ℕ → ℕ → AtomTree × ℕ → Type 0
IsAtomOver alphabet text from x =
    (u : List ℕ) × (v : List ℕ) × (drop (from + 1) text ≡ u ++ 47 ∷ v) × Spells alphabet u x.0 v × (x.1 ≡ from + 1 + length u + 1)

-- The slash at `from` begins an atom: its tree, and the place after it. With the sign, which is part of it, the atom is over characters, and what stands between its slashes is UTF-8.
pub data IsAtomAt (text : List ℕ) (from : ℕ) (x : AtomTree × ℕ) : Type 0 where
  over_bytes : HasNoSign text from → IsAtomOver of_bytes text from x → IsAtomAt text from x
  over_characters : {u : List ℕ} {p : ℕ} → HasSign text from u → IsUtf8 u → IsAtomOver of_characters text from (x.0, p) → x.1 ≡ p + 1 → IsAtomAt text from x
