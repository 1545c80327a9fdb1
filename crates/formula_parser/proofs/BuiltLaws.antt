-- What is spelled is well built.
use Rattle.std.proofs.Common.{◌≡◌, ◌≢◌, ℕ, zero, suc, ◌+◌, ◌*◌, ◌<◌, ◌≤◌, true, false, not, ◌&&◌, List, [], ◌∷◌, ◌++◌, drop, get_or, map, Option, Some, IfOk, Result, Ok, Err, ap, sym, ◌∙◌, subst, arith}
use Rattle.std.specs.Ordering.{nat_cmp}
use Rattle.std.specs.Cmp.{nat_cmp_total}
use Rattle.std.specs.FinSet as set
use Rattle.std.specs.FinSet.{contains-difference, contains-insert, contains-empty}
use Rattle.std.specs.Option.{ForSome}
use Rattle.std.proofs.lemmas.Bool.{true≢false}
use Rattle.std.proofs.lemmas.Bool.Decides.{nat_tests}
use Rattle.span_core.specs.ByteSets.{bytes_between}
use Rattle.span_core.specs.ByteWordLaws.{contains-bytes_between}
use Rattle.spanner_model.specs.Tree.{Tree, one, cat_all, alt_all}
use Rattle.spanner_model.specs.WellBuilt.{IsByteClass, AreRepeatNumbers, IsBuilt, AreParts, AreArms, nesting, IsWellBuilt}
use Rattle.spanner_model.specs.View.{tree_of, atom_of}
use Rattle.spanner_model.specs.declared.formula.Atom.{Atom}
use Rattle.spanner_model.specs.Expression.{AtomTree}
use Rattle.formula_parser.specs.declared.fault.FormulaFault.{FormulaFault}
use Rattle.unicode_classes.specs.Laws.{ClassTreesArePlain}
use Rattle.formula_parser.specs.Sets.{Bytes, single, all_but_newline, digits}
use Rattle.formula_parser.specs.CharSets.{AreAllCharacters, IsTreeOf}
use Rattle.formula_parser.specs.Alphabet.{Alphabet, of_bytes, of_characters, dot_set, IsSetTree}
use Rattle.formula_parser.specs.CharEscapes.{IsEscapeOf, IsEmptyKind}
use Rattle.formula_parser.specs.Classes.{IsClass}
use Rattle.formula_parser.proofs.SetTrees.{class_in, escape_set_in, dot_in, dot_full}
use Rattle.formula_parser.proofs.AllTrees.{are_characters, none_of_ranges}
use Rattle.formula_parser.specs.Escapes.{Elem, elem_set, IsEscape, a_digit, a_word_byte, a_space, newline, tab, carriage_return, hex, itself}
use Rattle.formula_parser.specs.Names.{head_text}
use Rattle.formula_parser.specs.Repeats.{IsRepeat, star, plus, maybe, exactly, at_least, between}
use Rattle.formula_parser.specs.Spells.{seq_tree, alt_tree, IsPlain, literal, wide, bang, dot, escape, class, SpellsAlt, SpellsSeq, SpellsPiece, SpellsUnit, lone_arm, more_arms, no_piece, more_pieces, once, again, plain, group_of, capture_of, given, IsAtomOver, IsAtomAt, over_bytes, over_characters}
use Rattle.formula_parser.proofs.ClassSets.{single_bytes, others_bytes, escape_bytes}
use Rattle.formula_parser.proofs.ClassLaws.{class_built}
use Rattle.formula_parser.proofs.CharSetLaws.{single_has, has_first}

-- a set with a member is not empty
has_some : (s : Bytes) (b : ℕ) → set.contains s b ≡ true → ¬ (s ≡ set.empty)
has_some s b has e = true≢false (sym has ∙ ap (λ t. set.contains t b) e ∙ contains-empty nat_cmp b)

has_between : (low high b : ℕ) → low ≤ b → b ≤ high → set.contains (bytes_between low high) b ≡ true
has_between low high b from to = contains-bytes_between low high b ∙ grind (arith, nat_tests)

single_built : (b : ℕ) → b < 256 → IsByteClass (single b)
single_built b small = (has_some (single b) b (single_has b), single_bytes b small)

dot_built : IsByteClass all_but_newline
dot_built =
    let in_all = has_between 0 255 0 (omega arith) (omega arith) in
    let not_in : set.contains (single 10) 0 ≡ false = contains-insert nat_cmp_total set.empty 10 0 ∙ contains-empty nat_cmp 0 in
    let has : set.contains all_but_newline 0 ≡ true =
    contains-difference nat_cmp_total (bytes_between 0 255) (single 10) 0 ∙ ap (λ v. v && not (set.contains (single 10) 0)) in_all ∙ ap not not_in in
    (has_some all_but_newline 0 has, others_bytes (single 10))

escape_has : {e : List ℕ} {x : Elem} → IsEscape e x → (b : ℕ) × (set.contains (elem_set x) b ≡ true)
escape_has a_digit = (48, has_between 48 57 48 (omega arith) (omega arith))
escape_has a_word_byte = (
  48,
  has_first (set.union digits (bytes_between 65 90)) (set.union (single 95) (bytes_between 97 122)) 48
      (has_first digits (bytes_between 65 90) 48 (has_between 48 57 48 (omega arith) (omega arith))),
)
escape_has a_space = (9, has_first (bytes_between 9 13) (single 32) 9 (has_between 9 13 9 (omega arith) (omega arith)))
escape_has newline = (10, single_has 10)
escape_has tab = (9, single_has 9)
escape_has carriage_return = (13, single_has 13)
escape_has (hex {x = x} {y = y} a b) = (16 * x + y, single_has (16 * x + y))
escape_has (itself {c = c} p) = (c, single_has c)

escape_built : {e : List ℕ} {x : Elem} → IsEscape e x → IsByteClass (elem_set x)
escape_built {x = x} is = let has = escape_has is in (has_some (elem_set x) has.0 has.1, escape_bytes is)

-- the text is of bytes
abbrev pub IsText : List ℕ → Type 0
IsText [] = Unit {0}
IsText (b ∷ t) = (b < 256) × IsText t

pub text_of : (t : List ℕ) → ((i : ℕ) → get_or t i 0 < 256) → IsText t
text_of [] h = tt
text_of (b ∷ t) h = (h 0, text_of t (λ i. h (suc i)))

pub text_from : (n : ℕ) (t : List ℕ) → IsText t → IsText (drop n t)
text_from zero t h = h
text_from (suc n) [] h = tt
text_from (suc n) (b ∷ t) h = text_from n t h.1

text_first : (t u : List ℕ) → IsText (t ++ u) → IsText t
text_first [] u h = tt
text_first (b ∷ t) u h = (h.0, text_first t u h.1)

text_second : (t u : List ℕ) → IsText (t ++ u) → IsText u
text_second [] u h = h
text_second (b ∷ t) u h = text_second t u h.1

-- built, with so many formulas inside each other at most
abbrev pub IsGood : ℕ → Tree → Type 0
IsGood k f = IsBuilt f × (nesting f ≤ k)

abbrev pub AreGood : ℕ → List Tree → Type 0
AreGood k [] = Unit {0}
AreGood k (f ∷ fs) = IsGood k f × AreGood k fs

parts_good : (k : ℕ) (fs : List Tree) → AreGood k fs → AreParts (cat_all fs) × (nesting (cat_all fs) ≤ suc k)
parts_good k [] h = (tt, omega arith)
parts_good k (f ∷ fs) h =
    let rest = parts_good k fs h.1 in
    let first = h.0.1 in
    ((h.0.0, rest.0), omega (arith, rest.1))

arms_good : (k : ℕ) (fs : List Tree) → AreGood k fs → AreArms (alt_all fs) × (nesting (alt_all fs) ≤ suc k)
arms_good k [] h = (tt, omega arith)
arms_good k (f ∷ fs) h =
    let rest = arms_good k fs h.1 in
    let first = h.0.1 in
    ((h.0.0, rest.0), omega (arith, rest.1))

seq_good : (k : ℕ) (fs : List Tree) → AreGood k fs → IsGood (suc k) (seq_tree fs)
seq_good k [] h = (tt, omega arith)
seq_good k (f ∷ []) h = let first = h.0.1 in (h.0.0, omega arith)
seq_good k (f ∷ g ∷ fs) h =
    let all = parts_good k (f ∷ g ∷ fs) h in
    let rest = parts_good k (g ∷ fs) h.1 in
    ((h.0.0, rest.0, λ e. cc), all.1)

alt_good : (k : ℕ) (fs : List Tree) → AreGood k fs → IsGood (suc k) (alt_tree fs)
alt_good k [] h = (tt, omega arith)
alt_good k (f ∷ []) h = let first = h.0.1 in (h.0.0, omega arith)
alt_good k (f ∷ g ∷ fs) h =
    let all = arms_good k (f ∷ g ∷ fs) h in
    let rest = arms_good k (g ∷ fs) h.1 in
    ((h.0.0, rest.0, λ e. cc), all.1)

bytes_good : (t : List ℕ) → IsText t → AreGood 1 (map (λ b. one (single b)) t)
bytes_good [] h = tt
bytes_good (b ∷ t) h = ((single_built b h.0, omega arith), bytes_good t h.1)

-- a set whose tree is well built
abbrev IsGoodSet : Alphabet → Bytes → Type 0
IsGoodSet of_bytes s = IsByteClass s
IsGoodSet of_characters s = (s ≢ set.empty) × AreAllCharacters s

dot_good : (alphabet : Alphabet) → IsGoodSet alphabet (dot_set alphabet)
dot_good of_bytes = dot_built
dot_good of_characters = (dot_full of_characters, dot_in of_characters)

escape_good : (alphabet : Alphabet) (e : List ℕ) (x : Elem) → IsEscapeOf alphabet e x → (IsEmptyKind alphabet x → ⊥) → IsGoodSet alphabet (elem_set x)
escape_good of_bytes e x is some = escape_built is
escape_good of_characters e x is some = (some, escape_set_in of_characters e x is)

class_good : (alphabet : Alphabet) {u after : List ℕ} {s : Bytes} → IsClass alphabet u s after → IsGoodSet alphabet s
class_good of_bytes is = class_built is
class_good of_characters is = (is.1, class_in is.0)

some_most : (least most : ℕ) → least ≤ most → most ≤ 1000 → ForSome (Some most) (λ b. (least ≤ b) × (b ≤ 1000))
some_most least most le small b e = let same : most ≡ b = cc in (omega arith, omega arith)

repeat_numbers : {u : List ℕ} {least : ℕ} {most : Option ℕ} → IsRepeat u least most → AreRepeatNumbers least most
repeat_numbers star = (omega arith, λ b e. absurd (cc))
repeat_numbers plus = (omega arith, λ b e. absurd (cc))
repeat_numbers maybe = (omega arith, some_most 0 1 (omega arith) (omega arith))
repeat_numbers (exactly {m = m} is) = (is.small, some_most m m (omega arith) is.small)
repeat_numbers (at_least is) = (is.small, λ b e. absurd (cc))
repeat_numbers (between {m = m} {k = k} is are le) = (is.small, some_most m k le are.small)

pieces_seq : (room : ℕ) (fs : List Tree) → AreGood (4 * room + 9) fs → IsGood (4 * room + 10) (seq_tree fs)
pieces_seq room fs pieces =
    let good = seq_good (4 * room + 9) fs pieces in
    let depth = good.1 in
    (good.0, omega arith)

module _ (plain_trees : ClassTreesArePlain) (alphabet : Alphabet) where
  tree_good : (s : Bytes) (f : Tree) → IsTreeOf s f → s ≢ set.empty → AreAllCharacters s → IsGood 8 f
  tree_good s f (ranges, are, is) some all =
      let h = plain_trees ranges f are.apart (are_characters s ranges all are) (λ none. some (none_of_ranges s ranges are none)) is in (h.0, h.1)

  set_good : (a : Alphabet) (s : Bytes) (f : Tree) → IsGoodSet a s → IsSetTree a s f → IsGood 8 f
  set_good of_bytes s f good is = subst (IsGood 8) (sym is) (good, omega arith)
  set_good of_characters s f good is = tree_good s f is good.0 good.1

  plain_good : {t after : List ℕ} {f : Tree} → IsPlain alphabet t f after → IsText t → IsGood 8 f
  plain_good (literal {b = b} is) text = (single_built b text.0, omega arith)
  plain_good (wide {b = b} {t = t} big all ends) text =
      let good = seq_good 1 (map (λ c. one (single c)) (b ∷ t)) (bytes_good (b ∷ t) text) in
      let depth = good.1 in
      (good.0, omega arith)
  plain_good (bang none) text = (single_built 33 (omega arith), omega arith)
  plain_good (dot {f = f} tree) text = set_good alphabet (dot_set alphabet) f (dot_good alphabet) tree
  plain_good (escape {e = e} x {f = f} is some tree) text = set_good alphabet (elem_set x) f (escape_good alphabet e x is some) tree
  plain_good (class {s = s} {f = f} is tree) text = set_good alphabet s f (class_good alphabet is) tree

  mutual
    alt_built : {room : ℕ} {t after : List ℕ} {fs : List Tree} → SpellsAlt alphabet room t fs after → IsText t → AreGood (4 * room + 10) fs
    alt_built (lone_arm {room = room} {fs = fs} s) text = (pieces_seq room fs (pieces_built s text), tt)
    alt_built (more_arms {room = room} {t = t} {u = u} {fs = fs} s rest) text =
        (pieces_seq room fs (pieces_built s (text_first t (124 ∷ u) text)), alt_built rest (text_second t (124 ∷ u) text).1)

    pieces_built : {room : ℕ} {t after : List ℕ} {fs : List Tree} → SpellsSeq alphabet room t fs after → IsText t → AreGood (4 * room + 9) fs
    pieces_built no_piece text = tt
    pieces_built (more_pieces {t = t} {u = u} p s) text = (piece_built p (text_first t u text), pieces_built s (text_second t u text))

    piece_built : {room : ℕ} {t after : List ℕ} {f : Tree} → SpellsPiece alphabet room t f after → IsText t → IsGood (4 * room + 9) f
    piece_built (once u) text = let good = unit_built u text in let depth = good.1 in (good.0, omega arith)
    piece_built (again {t = t} {u = u} is sign) text =
        let good = unit_built is (text_first t u text) in
        let depth = good.1 in
        ((good.0, repeat_numbers sign), omega arith)

    unit_built : {room : ℕ} {t after : List ℕ} {f : Tree} → SpellsUnit alphabet room t f after → IsText t → IsGood (4 * room + 8) f
    unit_built (plain is) text = let good = plain_good is text in let depth = good.1 in (good.0, omega arith)
    unit_built (group_of {room = room} {t = t} {fs = fs} arms) text =
        let good = alt_good (4 * room + 10) fs (alt_built arms (text_first t (41 ∷ []) text.1)) in
        let depth = good.1 in
        (good.0, omega arith)
    unit_built (capture_of {room = room} {x = x} {t = t} {fs = fs} variable arms) text =
        let good = alt_good (4 * room + 10) fs (alt_built arms (text_first t (125 ∷ []) (text_second (head_text x) (t ++ 125 ∷ []) text))) in
        let depth = good.1 in
        ((good.0, variable), omega arith)

  -- An atom's formula is well built.
  pub over_built : (text : List ℕ) (from : ℕ) (x : AtomTree × ℕ) → IsAtomOver alphabet text from x → IsText text → IsWellBuilt x.0.formula
  over_built text from x (u, v, stands, (t, fs, text_is, arms, tree), after) bytes =
      let s = given x.0.from_start 94 in
      let e = given x.0.to_end 36 in
      let here : IsText ((s ++ (t ++ e)) ++ 47 ∷ v) = rw text_is at (subst IsText stands (text_from (from + 1) text bytes)) in
      let middle = text_first t e (text_second s (t ++ e) (text_first (s ++ (t ++ e)) (47 ∷ v) here)) in
      let good = alt_good 410 fs (alt_built arms middle) in
      let depth = good.1 in
      subst IsWellBuilt (sym tree) (good.0, omega arith)

-- the same of what the code returns
pub answer_built : ClassTreesArePlain → (alphabet : Alphabet) (text : List ℕ) (from : ℕ) (r : Result (Atom × ℕ) FormulaFault) →
    IfOk r (λ x. IsAtomOver alphabet text from (atom_of x.0, x.1)) → IsText text → IfOk r (λ x. IsWellBuilt (tree_of x.0.formula))
answer_built plain_trees alphabet text from (Ok x) found bytes = over_built plain_trees alphabet text from (atom_of x.0, x.1) found bytes
answer_built plain_trees alphabet text from (Err e) found bytes = tt

-- an atom's formula is well built
pub built_at : ClassTreesArePlain → (text : List ℕ) (from : ℕ) (x : AtomTree × ℕ) → IsAtomAt text from x → IsText text → IsWellBuilt x.0.formula
built_at plain_trees text from x (over_bytes none is) bytes = over_built plain_trees of_bytes text from x is bytes
built_at plain_trees text from x (over_characters {p = p} sign utf8 is at) bytes = over_built plain_trees of_characters text from (x.0, p) is bytes
