-- A printed form spells its tree.
use Rattle.std.proofs.Common.{◌≡◌, ◌≢◌, ℕ, zero, suc, ◌+◌, ◌≤◌, false, List, [], ◌∷◌, ◌++◌, length, drop, ap, subst, sym, refl, ◌∙◌, arith, append_assoc, length-append}
use Rattle.std.proofs.lemmas.List.{append-nil}
use Rattle.spanner_model.specs.Tree.{Tree, empty, one, cat_end, cat, alt_end, alt, rep, cap, cat_all, alt_all}
use Rattle.spanner_model.specs.WellBuilt.{IsBuilt, AreParts, AreArms, IsWellBuilt}
use Rattle.spanner_model.specs.Expression.{AtomTree, untied}
use Rattle.formula_parser.specs.Names.{head_text}
use Rattle.formula_parser.specs.Spells.{seq_tree, alt_tree, SpellsAlt, SpellsSeq, SpellsPiece, SpellsUnit, lone_arm, more_arms as further_arms, no_piece, more_pieces, once, again, plain, group_of, capture_of, given, Spells, IsAtomAt, over_bytes}
use Rattle.formula_parser.specs.Alphabet.{of_bytes}
use Rattle.formula_parser.specs.Signs.{is_sign}
use Rattle.formula_parser.proofs.SignLaws.{one_inside}
use Rattle.formula_parser.proofs.AtomLaws.{spelled_inside}
use Rattle.query_printer.specs.PrintedFormula.{Shape, a_unit, a_repeat, a_cat, an_alt, shape, wraps_arm, wraps_part, wraps_operand, wrapped, wrapped_open, sign, printed, most_open, tied_text, atom_text}
use Rattle.formula_parser.proofs.RunLaws.{after_token}
use Rattle.query_printer.proofs.PrintedByteSets.{set_plain}
use Rattle.query_printer.proofs.PrintedSigns.{sign_is}

abbrev pub SeqText : ℕ → List ℕ → Tree → List ℕ → Type 0
SeqText room t f b = (fs : List Tree) × SpellsSeq of_bytes room t fs b × (seq_tree fs ≡ f)

abbrev pub AltText : ℕ → List ℕ → Tree → List ℕ → Type 0
AltText room t f b = (gs : List Tree) × SpellsAlt of_bytes room t gs b × (alt_tree gs ≡ f)

-- a text of the tree, as its shape wants
abbrev pub Forms : ℕ → List ℕ → Tree → Shape → List ℕ → Type 0
Forms room t f a_unit b = SpellsUnit of_bytes room t f b
Forms room t f a_repeat b = SpellsPiece of_bytes room t f b
Forms room t f a_cat b = SeqText room t f b
Forms room t f an_alt b = AltText room t f b

-- a piece alone is a sequence
piece_seq : (room : ℕ) (t : List ℕ) (f : Tree) (b : List ℕ) → SpellsPiece of_bytes room t f b → SeqText room t f b
piece_seq room t f b p = (f ∷ [], rw (← append-nil t) (more_pieces p no_piece), refl)

seq_alt : (room : ℕ) (t : List ℕ) (f : Tree) (b : List ℕ) → SeqText room t f b → AltText room t f b
seq_alt room t f b (fs, s, e) = (seq_tree fs ∷ [], lone_arm s, e)

forms_alt : (room : ℕ) (t : List ℕ) (f : Tree) (k : Shape) (b : List ℕ) → Forms room t f k b → AltText room t f b
forms_alt room t f a_unit b u = seq_alt room t f b (piece_seq room t f b (once u))
forms_alt room t f a_repeat b p = seq_alt room t f b (piece_seq room t f b p)
forms_alt room t f a_cat b s = seq_alt room t f b s
forms_alt room t f an_alt b a = a

-- a text that has these forms before every text, where at least n more may be opened
abbrev pub AllForms : ℕ → List ℕ → Tree → Shape → Type 0
AllForms n t f k = (r : ℕ) → n ≤ r → (b : List ℕ) → Forms r t f k b

-- in parentheses it is a unit
wrapped_unit : (room : ℕ) (t : List ℕ) (f : Tree) (k : Shape) (b : List ℕ) → Forms room t f k (41 ∷ b) → SpellsUnit of_bytes (suc room) (40 ∷ (t ++ 41 ∷ [])) f b
wrapped_unit room t f k b h =
    let a = forms_alt room t f k (41 ∷ b) h in
    rw (← a.2) (group_of a.1)

paren_unit : (room n : ℕ) (t : List ℕ) (f : Tree) (k : Shape) (b : List ℕ) → AllForms n t f k → suc n ≤ room →
    SpellsUnit of_bytes room (40 ∷ (t ++ 41 ∷ [])) f b
paren_unit zero n t f k b all fits = absurd (omega arith)
paren_unit (suc r) n t f k b all fits = wrapped_unit r t f k b (all r (omega arith) (41 ∷ b))

-- under a repeat
operand_unit : (room n : ℕ) (t : List ℕ) (f : Tree) (k : Shape) (b : List ℕ) → AllForms n t f k → wrapped_open (wraps_operand k) n ≤ room →
    SpellsUnit of_bytes room (wrapped (wraps_operand k) t) f b
operand_unit room n t f a_unit b all fits = all room fits b
operand_unit room n t f a_repeat b all fits = paren_unit room n t f a_repeat b all fits
operand_unit room n t f a_cat b all fits = paren_unit room n t f a_cat b all fits
operand_unit room n t f an_alt b all fits = paren_unit room n t f an_alt b all fits

-- in a concatenation
part_piece : (room n : ℕ) (t : List ℕ) (f : Tree) (k : Shape) (b : List ℕ) → AllForms n t f k → wrapped_open (wraps_part k) n ≤ room →
    SpellsPiece of_bytes room (wrapped (wraps_part k) t) f b
part_piece room n t f a_unit b all fits = once (all room fits b)
part_piece room n t f a_repeat b all fits = all room fits b
part_piece room n t f a_cat b all fits = once (paren_unit room n t f a_cat b all fits)
part_piece room n t f an_alt b all fits = once (paren_unit room n t f an_alt b all fits)

-- in an alternation
arm_seq : (room n : ℕ) (t : List ℕ) (f : Tree) (k : Shape) (b : List ℕ) → AllForms n t f k → wrapped_open (wraps_arm k) n ≤ room →
    SeqText room (wrapped (wraps_arm k) t) f b
arm_seq room n t f a_unit b all fits = piece_seq room t f b (once (all room fits b))
arm_seq room n t f a_repeat b all fits = piece_seq room t f b (all room fits b)
arm_seq room n t f a_cat b all fits = all room fits b
arm_seq room n t f an_alt b all fits = piece_seq room (40 ∷ (t ++ 41 ∷ [])) f b (once (paren_unit room n t f an_alt b all fits))

cat_of_parts : (f rest : Tree) (fs : List Tree) → cat_all fs ≡ rest → rest ≢ cat_end → seq_tree (f ∷ fs) ≡ cat f rest
cat_of_parts f rest [] e more = absurd (more (sym e))
cat_of_parts f rest (g ∷ gs) e more = ap (cat f) e

alt_of_arms : (x f g r : Tree) (gs : List Tree) → x ≡ f → alt_all gs ≡ alt g r → alt_tree (x ∷ gs) ≡ alt f (alt g r)
alt_of_arms x f g r [] d e = absurd (cc)
alt_of_arms x f g r (h ∷ hs) d e = ap (λ y. alt y (alt_all (h ∷ hs))) d ∙ ap (alt f) e

mutual
  pub spelled : (f : Tree) → IsBuilt f → (room : ℕ) → most_open f ≤ room → (b : List ℕ) → Forms room (printed f) f (shape f) b
  spelled empty c zero h b = absurd (omega arith)
  spelled empty c (suc room) h b = group_of (lone_arm no_piece)
  spelled (one s) c room h b = plain (set_plain s c b)
  spelled cat_end c room h b = absurd c
  spelled (cat f rest) c room h b =
      let others = parts_spelled rest c.1 room (omega arith) b in
      let first = part_piece room (most_open f) (printed f) f (shape f) (printed rest ++ b) (spelled f c.0) (omega arith) in
      (f ∷ others.0, more_pieces first others.1, cat_of_parts f rest others.0 others.2 c.2)
  spelled alt_end c room h b = absurd c
  spelled (alt f alt_end) c room h b = absurd (c.2 refl)
  spelled (alt f (alt g r)) c room h b =
      let others = arms_spelled (alt g r) c.1 (λ e. cc) room (omega arith) b in
      let first = arm_seq room (most_open f) (printed f) f (shape f) (124 ∷ printed (alt g r) ++ b) (spelled f c.0) (omega arith) in
      (seq_tree first.0 ∷ others.0, further_arms first.1 others.1, alt_of_arms (seq_tree first.0) f g r others.0 first.2 others.2)
  spelled (alt f _) c room h b = absurd c.1
  spelled (rep f least most) c room h b =
      again (operand_unit room (most_open f) (printed f) f (shape f) (sign least most ++ b) (spelled f c.0) h) (sign_is least most c.1)
  spelled (cap x f) c zero h b = absurd (omega arith)
  spelled (cap x f) c (suc room) h b =
      let inside = forms_alt room (printed f) f (shape f) (125 ∷ b) (spelled f c.0 room (omega arith) (125 ∷ b)) in
      subst (λ y. SpellsUnit of_bytes (suc room) (head_text x ++ (printed f ++ 125 ∷ [])) (cap x y) b) inside.2 (capture_of c.1 inside.1)

  pub parts_spelled : (f : Tree) → AreParts f → (room : ℕ) → most_open f ≤ room → (b : List ℕ) →
      (fs : List Tree) × SpellsSeq of_bytes room (printed f) fs b × (cat_all fs ≡ f)
  parts_spelled cat_end c room h b = ([], no_piece, refl)
  parts_spelled (cat f rest) c room h b =
      let others = parts_spelled rest c.1 room (omega arith) b in
      let first = part_piece room (most_open f) (printed f) f (shape f) (printed rest ++ b) (spelled f c.0) (omega arith) in
      (f ∷ others.0, more_pieces first others.1, ap (cat f) others.2)
  parts_spelled _ c room h b = absurd c

  pub arms_spelled : (f : Tree) → AreArms f → f ≢ alt_end → (room : ℕ) → most_open f ≤ room → (b : List ℕ) →
      (gs : List Tree) × SpellsAlt of_bytes room (printed f) gs b × (alt_all gs ≡ f)
  arms_spelled alt_end c more room h b = absurd (more refl)
  arms_spelled (alt f alt_end) c more room h b =
      let first = arm_seq room (most_open f) (printed f) f (shape f) b (spelled f c.0) (omega arith) in (
        seq_tree first.0 ∷ [],
        subst (λ t. SpellsAlt of_bytes room t (seq_tree first.0 ∷ []) b) (sym (append-nil (wrapped (wraps_arm (shape f)) (printed f)))) (lone_arm first.1),
        ap (λ x. alt x alt_end) first.2,
      )
  arms_spelled (alt f (alt g r)) c more room h b =
      let others = arms_spelled (alt g r) c.1 (λ e. cc) room (omega arith) b in
      let first = arm_seq room (most_open f) (printed f) f (shape f) (124 ∷ printed (alt g r) ++ b) (spelled f c.0) (omega arith) in
      (seq_tree first.0 ∷ others.0, further_arms first.1 others.1, ap (λ x. alt x (alt_all others.0)) first.2 ∙ ap (alt f) others.2)
  arms_spelled (alt f _) c more room h b = absurd c.1
  arms_spelled _ c more room h b = absurd c

-- The printed form of an atom, between its slashes, spells it.
pub printed_spells : (a : AtomTree) (after : List ℕ) → IsWellBuilt a.formula → most_open a.formula ≤ 100 → Spells of_bytes (tied_text a) a after
printed_spells a after built few =
    let b = given a.to_end 36 ++ 47 ∷ after in
    let is = forms_alt 100 (printed a.formula) a.formula (shape a.formula) b (spelled a.formula built.0 100 few b) in
    (printed a.formula, is.0, refl, is.1, sym is.2)

-- Wherever it stands, it is an atom there, and the atom's, unless the sign follows it.
pub printed_is_atom : (before after : List ℕ) (a : AtomTree) → is_sign after ≡ false → IsWellBuilt a.formula → most_open a.formula ≤ 100 →
    IsAtomAt (before ++ (atom_text a ++ after)) (length before) (a, length before + length (atom_text a))
printed_is_atom before after a unsigned built few =
    let u = tied_text a in
    let text : before ++ (atom_text a ++ after) ≡ (before ++ 47 ∷ []) ++ (u ++ 47 ∷ after) = simp append_assoc in
    let long : length before + 1 ≡ length (before ++ 47 ∷ []) = omega (arith, length-append before (47 ∷ [])) in
    let stands : drop (length before + 1) (before ++ (atom_text a ++ after)) ≡ u ++ 47 ∷ after =
    ap (drop (length before + 1)) text ∙ ap (λ n. drop n ((before ++ 47 ∷ []) ++ (u ++ 47 ∷ after))) long ∙ after_token (before ++ 47 ∷ []) (u ++ 47 ∷ after) in
    let spells = printed_spells a after built few in
    over_bytes
    (λ w v closed. (let same = one_inside closed.0 (spelled_inside of_bytes u a after spells) v after (sym closed.1 ∙ stands) in ap is_sign same.1 ∙ unsigned))
    (u, after, stands, spells, omega (arith, length-append u (47 ∷ [])))

-- The printed form of a formula spells it.
pub formula_spells : (f : Tree) (after : List ℕ) → IsWellBuilt f → most_open f ≤ 100 → Spells of_bytes (printed f) (untied f) after
formula_spells f after built few =
    let a = untied f in
    rw (← append-nil (printed f)) (printed_spells a after built few)
