-- What is read is spelled.
use Rattle.std.proofs.Common.{◌≡◌, ℕ, zero, suc, ◌+◌, ◌<◌, ◌≤◌, Bool, true, false, List, [], ◌∷◌, ◌++◌, length, drop, take, Option, Some, None, Result, Ok, Err, ap, subst, sym, refl, ◌∙◌, append_assoc, arith, length-append, nat_lt, ◌-◌, if◌then◌else◌}
use Rattle.std.specs.Str.{bytes_eq}
use Rattle.std.proofs.lemmas.List.{append-nil, take-append-drop, length-take}
use Rattle.std.proofs.lemmas.Bool.Decides.{nat_tests}
use Rattle.std.proofs.lemmas.Slice.Eq.{bytes_eq-Decides}
use Rattle.span_core.specs.Names.{is_name}
use Rattle.spanner_model.specs.Tree.{Tree, one, rep, cap}
use Rattle.spanner_model.specs.WellBuilt.{IsVariable, none_word}
use Rattle.formula_parser.specs.declared.fault.FormulaFault.{FormulaFault}
use Rattle.formula_parser.specs.Faults.{Opener, slash, group, capture}
use Rattle.formula_parser.specs.Nest.{Frame, Last, start, unit, repeated, Nest, held, whole_seq, whole_alt, with_unit, opened, outermost}
use Rattle.formula_parser.specs.Step.{Body, Next, goes, stops, step, repeats, braces, opens, escapes, classes, bangs, ties, end_len, Ends, EndsAfter}
use Rattle.formula_parser.specs.Sets.{Bytes, single}
use Rattle.formula_parser.specs.Runs.{begins_with}
use Rattle.formula_parser.specs.Escapes.{elem_set}
use Rattle.formula_parser.specs.Names.{head_text}
use Rattle.formula_parser.specs.Repeats.{IsRepeat, star, plus, maybe}
use Rattle.formula_parser.specs.Tokens.{head_at, Bounds, bounds_at, tails}
use Rattle.formula_parser.specs.ClassStep.{class_at}
use Rattle.formula_parser.specs.Spells.{seq_tree, alt_tree, is_tail, bytes_tree, IsPlain, literal, wide, bang, dot, escape, class, SpellsAlt, SpellsSeq, SpellsPiece, SpellsUnit, lone_arm, more_arms, no_piece, more_pieces, once, again, plain, group_of, capture_of, given}
use Rattle.formula_parser.proofs.Bytes.{Byte, is_slash, is_open, is_close, is_bracket, is_bracket_close, is_brace, is_brace_close, is_bar, is_star, is_plus, is_maybe, is_dot, is_caret, is_dollar, is_bang, is_backslash, is_literal, is_wide, byte_of}
use Rattle.formula_parser.proofs.RunLaws.{run_of, after_token, the_token}
use Rattle.formula_parser.proofs.HeadLaws.{head_read, head_is, byte_front}
use Rattle.formula_parser.proofs.RepeatLaws.{bounds_is}
use Rattle.formula_parser.proofs.ClassLaws.{class_is}
use Rattle.formula_parser.proofs.ReadsSpelled.{at_piece, IsFresh, literal_step, wide_step, whole_seq_is, whole_alt_is, head_length}
use Rattle.formula_parser.specs.Dialect.{Dialect, alphabet_of, tree_in, Speaks, ElemToken, escape_in, is_empty_kind}
use Rattle.formula_parser.specs.Alphabet.{dot_set}
use Rattle.formula_parser.proofs.ElemTokens.{escape_in_is}
use Rattle.formula_parser.proofs.SetTrees.{set_tree_is, full_of, kind_is_full, class_in, escape_set_in, dot_in, dot_full}

-- a name that is not the reserved word
pub variable_of : (x : List ℕ) → is_name x ≡ true → bytes_eq x none_word ≡ false → IsVariable x
variable_of x name other = (name, λ e. let same = (bytes_eq-Decides x none_word).1 e in absurd (cc))

module _ (lang : Dialect) (speaks : Speaks lang) where
  -- the whole arms of a frame, a bar after each
  pub data SpellsArms : ℕ → List ℕ → List Tree → List ℕ → Type 0 where
    no_arm : {room : ℕ} {after : List ℕ} → SpellsArms room [] [] after
    arm_and : {room : ℕ} {t u after : List ℕ} {gs fs : List Tree} → SpellsArms room t gs (u ++ 124 ∷ after) → SpellsSeq (alphabet_of lang) room u fs (124 ∷ after) →
        SpellsArms room (t ++ (u ++ 124 ∷ [])) (gs ++ seq_tree fs ∷ []) after

  alt_at : {room : ℕ} {after : List ℕ} (t u : List ℕ) (fs gs : List Tree) → t ≡ u → fs ≡ gs → SpellsAlt (alphabet_of lang) room t fs after → SpellsAlt (alphabet_of lang) room u gs after
  alt_at {room = room} {after = after} t u fs gs e d h = rw (← e) (rw (← d) h)

  seq_at : {room : ℕ} {fs : List Tree} {after : List ℕ} (t u : List ℕ) → t ≡ u → SpellsSeq (alphabet_of lang) room t fs after → SpellsSeq (alphabet_of lang) room u fs after
  seq_at {room = room} {fs = fs} {after = after} t u e h = rw (← e) h

  -- the same before an equal text
  seq_before : {room : ℕ} {t : List ℕ} {fs : List Tree} (a b : List ℕ) → a ≡ b → SpellsSeq (alphabet_of lang) room t fs a → SpellsSeq (alphabet_of lang) room t fs b
  seq_before {room = room} {t = t} {fs = fs} a b e = subst (SpellsSeq (alphabet_of lang) room t fs) e

  piece_before : {room : ℕ} {t : List ℕ} {f : Tree} (a b : List ℕ) → a ≡ b → SpellsPiece (alphabet_of lang) room t f a → SpellsPiece (alphabet_of lang) room t f b
  piece_before {room = room} {t = t} {f = f} a b e = subst (SpellsPiece (alphabet_of lang) room t f) e

  arms_before : {room : ℕ} {t : List ℕ} {fs : List Tree} (a b : List ℕ) → a ≡ b → SpellsArms room t fs a → SpellsArms room t fs b
  arms_before {room = room} {t = t} {fs = fs} a b e = subst (SpellsArms room t fs) e

  -- the arms so far, and the others
  pub arms_and : {room : ℕ} {t b : List ℕ} {gs : List Tree} → SpellsArms room t gs b → (u after : List ℕ) (hs : List Tree) → b ≡ u ++ after →
      SpellsAlt (alphabet_of lang) room u hs after → SpellsAlt (alphabet_of lang) room (t ++ u) (gs ++ hs) after
  arms_and no_arm u after hs e rest = rest
  arms_and (arm_and {t = t} {u = v} {after = b} {gs = gs} {fs = fs} before s) u after hs e rest =
      alt_at (t ++ (v ++ 124 ∷ u)) ((t ++ (v ++ 124 ∷ [])) ++ u) (gs ++ seq_tree fs ∷ hs) ((gs ++ seq_tree fs ∷ []) ++ hs)
      (simp append_assoc) (simp append_assoc)
      (arms_and before (v ++ 124 ∷ u) after (seq_tree fs ∷ hs) (ap (λ x. v ++ 124 ∷ x) e ∙ sym (append_assoc v (124 ∷ u) after))
      (more_arms (seq_before (124 ∷ b) (124 ∷ u ++ after) (ap (λ x. 124 ∷ x) e) s) rest))

  -- one more piece at the end
  pub seq_and : {room : ℕ} {t b : List ℕ} {fs : List Tree} → SpellsSeq (alphabet_of lang) room t fs b → (u after : List ℕ) (f : Tree) → b ≡ u ++ after →
      SpellsPiece (alphabet_of lang) room u f after → SpellsSeq (alphabet_of lang) room (t ++ u) (fs ++ f ∷ []) after
  seq_and no_piece u after f e p = seq_at (u ++ []) u (append-nil u) (more_pieces p no_piece)
  seq_and (more_pieces {t = t} {u = v} {after = b} {f = g} {fs = fs} q s) u after f e p =
      seq_at (t ++ (v ++ u)) ((t ++ v) ++ u) (sym (append_assoc t v u))
      (more_pieces (piece_before (v ++ b) ((v ++ u) ++ after) (ap (λ x. v ++ x) e ∙ sym (append_assoc v u after)) q) (seq_and s u after f e p))

  -- the text of the last thing read
  abbrev pub SpellsLast : ℕ → List ℕ → Last → List ℕ → Type 0
  SpellsLast room t start after = t ≡ []
  SpellsLast room t (unit f) after = SpellsUnit (alphabet_of lang) room t f after
  SpellsLast room t (repeated f) after = SpellsPiece (alphabet_of lang) room t f after

  -- the last thing read becomes a piece
  pub held_spelled : {room : ℕ} (t u after : List ℕ) (ps : List Tree) (last : Last) → SpellsSeq (alphabet_of lang) room t ps (u ++ after) → SpellsLast room u last after →
      SpellsSeq (alphabet_of lang) room (t ++ u) (held ps last) after
  held_spelled t u after ps start s e =
      seq_at t (t ++ u) (sym (append-nil t) ∙ ap (λ x. t ++ x) (sym e)) (seq_before (u ++ after) after (ap (λ x. x ++ after) e) s)
  held_spelled t u after ps (unit f) s p = seq_and s u after f refl (once p)
  held_spelled t u after ps (repeated f) s p = seq_and s u after f refl p

  -- an opener that may stand inside the slash, and its text
  abbrev pub IsOpener : Opener → Type 0
  IsOpener slash = ⊥
  IsOpener group = Unit {0}
  IsOpener (capture x) = IsVariable x

  abbrev pub opener_text : Opener → List ℕ
  opener_text slash = []
  opener_text group = 40 ∷ []
  opener_text (capture x) = head_text x

  -- a frame that waits for the one inside it
  pub record Waits (room : ℕ) (t : List ℕ) (f : Frame) (after : List ℕ) : Type 0 where
    pub arms_text : List ℕ
    pub parts_text : List ℕ
    pub arms : SpellsArms room arms_text f.arms (parts_text ++ after)
    pub parts : SpellsSeq (alphabet_of lang) room parts_text f.parts after
    pub text : t ≡ arms_text ++ parts_text

  -- the innermost frame
  pub record Stands (room : ℕ) (t : List ℕ) (arms parts : List Tree) (last : Last) (after : List ℕ) : Type 0 where
    pub arms_text : List ℕ
    pub parts_text : List ℕ
    pub last_text : List ℕ
    pub arms_are : SpellsArms room arms_text arms (parts_text ++ (last_text ++ after))
    pub parts_are : SpellsSeq (alphabet_of lang) room parts_text parts (last_text ++ after)
    pub last_is : SpellsLast room last_text last after
    pub fresh : IsFresh parts last
    pub text : t ≡ arms_text ++ (parts_text ++ last_text)

  -- the text up to the innermost frame, its opener among it
  abbrev pub Outside : ℕ → List ℕ → Opener → List Frame → List ℕ → Type 0
  Outside room t opener [] after = (opener ≡ slash) × (room ≡ 100) × (t ≡ [])
  Outside room t opener (f ∷ below) after =
      (s : List ℕ) × (u : List ℕ) × IsOpener opener × Outside (suc room) s f.opener below (u ++ (opener_text opener ++ after))
      × Waits (suc room) u f (opener_text opener ++ after) × (t ≡ s ++ (u ++ opener_text opener))

  -- the text that was read when this is open, before the rest of the text
  pub record IsOpen (room : ℕ) (t : List ℕ) (below : List Frame) (opener : Opener) (arms parts : List Tree) (last : Last) (after : List ℕ) : Type 0 where
    pub outside_text : List ℕ
    pub inside_text : List ℕ
    pub outside : Outside room outside_text opener below (inside_text ++ after)
    pub inside : Stands room inside_text arms parts last after
    pub text : t ≡ outside_text ++ inside_text

  pub whole_spelled : {room : ℕ} (t : List ℕ) (arms parts : List Tree) (last : Last) (after : List ℕ) → Stands room t arms parts last after →
      SpellsAlt (alphabet_of lang) room t (arms ++ seq_tree (held parts last) ∷ []) after
  whole_spelled {room = room} t arms parts last after h =
      let rest = h.parts_text ++ h.last_text in
      rw h.text
      (arms_and h.arms_are rest after (seq_tree (held parts last) ∷ []) (sym (append_assoc h.parts_text h.last_text after))
      (lone_arm (held_spelled h.parts_text h.last_text after parts last h.parts_are h.last_is)))

  pub whole_tree : (arms parts : List Tree) (last : Last) → IsFresh parts last →
      whole_alt arms (whole_seq parts last) ≡ alt_tree (arms ++ seq_tree (held parts last) ∷ [])
  whole_tree arms parts last fresh = whole_alt_is arms (whole_seq parts last) ∙ ap (λ x. alt_tree (arms ++ x ∷ [])) (whole_seq_is parts last fresh)

  pub outside_room : (room : ℕ) (t : List ℕ) (opener : Opener) (below : List Frame) (after : List ℕ) → Outside room t opener below after →
      room + length below ≡ 100
  outside_room room t opener [] after o = let e = o.1 in omega arith
  outside_room room t opener (f ∷ below) after o = let e = outside_room (suc room) o.0 f.opener below (o.1 ++ (opener_text opener ++ after)) o.3 in omega arith

  -- one more unit
  unit_read : {room : ℕ} (t u after : List ℕ) (below : List Frame) (opener : Opener) (arms parts : List Tree) (last : Last) (f : Tree) →
      IsOpen room t below opener arms parts last (u ++ after) → SpellsUnit (alphabet_of lang) room u f after → IsOpen room (t ++ u) below opener arms (held parts last) (unit f) after
  unit_read {room = room} t u after below opener arms parts last f o is =
      let i = o.inside in record {
        outside_text = o.outside_text;
        inside_text = o.inside_text ++ u;
        outside = subst (Outside room o.outside_text opener below) (sym (append_assoc o.inside_text u after)) o.outside;
        inside = record {
          arms_text = i.arms_text;
          parts_text = i.parts_text ++ i.last_text;
          last_text = u;
          arms_are = arms_before (i.parts_text ++ (i.last_text ++ (u ++ after))) ((i.parts_text ++ i.last_text) ++ (u ++ after))
              (sym (append_assoc i.parts_text i.last_text (u ++ after))) i.arms_are;
          parts_are = held_spelled i.parts_text i.last_text (u ++ after) parts last i.parts_are i.last_is;
          last_is = is;
          fresh = tt;
          text = ap (λ x. x ++ u) i.text ∙ simp append_assoc;
        };
        text = ap (λ x. x ++ u) o.text ∙ append_assoc o.outside_text o.inside_text u;
      }

  -- a repeat
  repeat_read : {room : ℕ} (t u after : List ℕ) (below : List Frame) (opener : Opener) (arms parts : List Tree) (f : Tree) (least : ℕ) (most : Option ℕ) →
      IsOpen room t below opener arms parts (unit f) (u ++ after) → IsRepeat u least most →
      IsOpen room (t ++ u) below opener arms parts (repeated (rep f least most)) after
  repeat_read {room = room} t u after below opener arms parts f least most o is =
      let i = o.inside in
      let same : i.last_text ++ (u ++ after) ≡ (i.last_text ++ u) ++ after = sym (append_assoc i.last_text u after) in record {
        outside_text = o.outside_text;
        inside_text = o.inside_text ++ u;
        outside = subst (Outside room o.outside_text opener below) (sym (append_assoc o.inside_text u after)) o.outside;
        inside = record {
          arms_text = i.arms_text;
          parts_text = i.parts_text;
          last_text = i.last_text ++ u;
          arms_are = arms_before (i.parts_text ++ (i.last_text ++ (u ++ after))) (i.parts_text ++ ((i.last_text ++ u) ++ after)) (ap (λ x. i.parts_text ++ x) same) i.arms_are;
          parts_are = seq_before (i.last_text ++ (u ++ after)) ((i.last_text ++ u) ++ after) same i.parts_are;
          last_is = again i.last_is is;
          fresh = tt;
          text = ap (λ x. x ++ u) i.text ∙ simp append_assoc;
        };
        text = ap (λ x. x ++ u) o.text ∙ append_assoc o.outside_text o.inside_text u;
      }

  bar_read : {room : ℕ} (t after : List ℕ) (below : List Frame) (opener : Opener) (arms parts : List Tree) (last : Last) →
      IsOpen room t below opener arms parts last (124 ∷ after) → IsOpen room (t ++ 124 ∷ []) below opener (arms ++ whole_seq parts last ∷ []) [] start after
  bar_read {room = room} t after below opener arms parts last o =
      let i = o.inside in
      let arm = i.arms_text ++ ((i.parts_text ++ i.last_text) ++ 124 ∷ []) in record {
        outside_text = o.outside_text;
        inside_text = o.inside_text ++ 124 ∷ [];
        outside = subst (Outside room o.outside_text opener below) (sym (append_assoc o.inside_text (124 ∷ []) after)) o.outside;
        inside = record {
          arms_text = arm;
          parts_text = [];
          last_text = [];
          arms_are = rw (whole_seq_is parts last i.fresh)
              (arm_and (arms_before (i.parts_text ++ (i.last_text ++ 124 ∷ after)) ((i.parts_text ++ i.last_text) ++ 124 ∷ after)
              (sym (append_assoc i.parts_text i.last_text (124 ∷ after))) i.arms_are)
              (held_spelled i.parts_text i.last_text (124 ∷ after) parts last i.parts_are i.last_is));
          parts_are = no_piece;
          last_is = refl;
          fresh = refl;
          text = ap (λ x. x ++ 124 ∷ []) i.text ∙ simp (append_assoc, append-nil);
        };
        text = ap (λ x. x ++ 124 ∷ []) o.text ∙ append_assoc o.outside_text o.inside_text (124 ∷ []);
      }

  -- one more opener
  open_read : {room : ℕ} (t after : List ℕ) (below : List Frame) (opener : Opener) (place : ℕ) (arms parts : List Tree) (last : Last) (inner : Opener) →
      IsOpener inner → IsOpen (suc room) t below opener arms parts last (opener_text inner ++ after) →
      IsOpen room (t ++ opener_text inner) (record { opener = opener; place = place; arms = arms; parts = held parts last } ∷ below) inner [] [] start after
  open_read t after below opener place arms parts last inner is o =
      let i = o.inside in
      let w = opener_text inner in record {
        outside_text = o.outside_text ++ (o.inside_text ++ w);
        inside_text = [];
        outside = (
          o.outside_text,
          o.inside_text,
          is,
          o.outside,
          record {
            arms_text = i.arms_text;
            parts_text = i.parts_text ++ i.last_text;
            arms = arms_before (i.parts_text ++ (i.last_text ++ (w ++ after))) ((i.parts_text ++ i.last_text) ++ (w ++ after))
                (sym (append_assoc i.parts_text i.last_text (w ++ after))) i.arms_are;
            parts = held_spelled i.parts_text i.last_text (w ++ after) parts last i.parts_are i.last_is;
            text = i.text;
          },
          refl,
        );
        inside = record { arms_text = []; parts_text = []; last_text = []; arms_are = no_arm; parts_are = no_piece; last_is = refl; fresh = refl; text = refl };
        text = ap (λ x. x ++ w) o.text ∙ simp (append_assoc, append-nil);
      }

  -- the innermost frame is closed by the byte c, and is the unit g of the one around it
  close_read : {room : ℕ} (t after : List ℕ) (f : Frame) (below : List Frame) (opener : Opener) (arms parts : List Tree) (last : Last) (c : ℕ) (g : Tree) →
      IsOpen room t (f ∷ below) opener arms parts last (c ∷ after) →
      ((u : List ℕ) → SpellsAlt (alphabet_of lang) room u (arms ++ seq_tree (held parts last) ∷ []) (c ∷ after) →
      SpellsUnit (alphabet_of lang) (suc room) (opener_text opener ++ (u ++ c ∷ [])) g after) →
      IsOpen (suc room) (t ++ c ∷ []) below f.opener f.arms f.parts (unit g) after
  close_read {room = room} t after f below opener arms parts last c g o is =
      let w = o.outside.4 in
      let u = opener_text opener ++ (o.inside_text ++ c ∷ []) in
      let same : opener_text opener ++ (o.inside_text ++ c ∷ after) ≡ u ++ after = simp append_assoc in record {
        outside_text = o.outside.0;
        inside_text = o.outside.1 ++ u;
        outside = subst (Outside (suc room) o.outside.0 f.opener below) (ap (λ x. o.outside.1 ++ x) same ∙ sym (append_assoc o.outside.1 u after)) o.outside.3;
        inside = record {
          arms_text = w.arms_text;
          parts_text = w.parts_text;
          last_text = u;
          arms_are = arms_before (w.parts_text ++ (opener_text opener ++ (o.inside_text ++ c ∷ after))) (w.parts_text ++ (u ++ after)) (ap (λ x. w.parts_text ++ x) same) w.arms;
          parts_are = seq_before (opener_text opener ++ (o.inside_text ++ c ∷ after)) (u ++ after) same w.parts;
          last_is = is o.inside_text (whole_spelled o.inside_text arms parts last (c ∷ after) o.inside);
          fresh = tt;
          text = ap (λ x. x ++ u) w.text ∙ append_assoc w.arms_text w.parts_text u;
        };
        text = ap (λ x. x ++ c ∷ []) (o.text ∙ ap (λ x. x ++ o.inside_text) o.outside.5) ∙ simp append_assoc;
      }

  group_read : {room : ℕ} (t after : List ℕ) (f : Frame) (below : List Frame) (arms parts : List Tree) (last : Last) →
      IsOpen room t (f ∷ below) group arms parts last (41 ∷ after) →
      IsOpen (suc room) (t ++ 41 ∷ []) below f.opener f.arms f.parts (unit (whole_alt arms (whole_seq parts last))) after
  group_read {room = room} t after f below arms parts last o =
      close_read t after f below group arms parts last 41 (whole_alt arms (whole_seq parts last)) o
      (λ u alt. rw (whole_tree arms parts last o.inside.fresh) (group_of alt))

  capture_read : {room : ℕ} (t after : List ℕ) (f : Frame) (below : List Frame) (x : List ℕ) (arms parts : List Tree) (last : Last) →
      IsOpen room t (f ∷ below) (capture x) arms parts last (125 ∷ after) →
      IsOpen (suc room) (t ++ 125 ∷ []) below f.opener f.arms f.parts (unit (cap x (whole_alt arms (whole_seq parts last)))) after
  capture_read {room = room} t after f below x arms parts last o =
      close_read t after f below (capture x) arms parts last 125 (cap x (whole_alt arms (whole_seq parts last))) o
      (λ u alt. rw (whole_tree arms parts last o.inside.fresh)
      (capture_of o.outside.2 alt))

  abbrev pub IsOpenNest : ℕ → List ℕ → Nest → List ℕ → Type 0
  IsOpenNest room t n after = IsOpen room t n.below n.top.opener n.top.arms n.top.parts n.last after

  -- the text spells the formula, before what ties it and the slash
  abbrev pub SpellsBody : List ℕ → Body → List ℕ → Type 0
  SpellsBody t b after = (fs : List Tree) × SpellsAlt (alphabet_of lang) 100 t fs (given b.1 36 ++ 47 ∷ after) × (b.0 ≡ alt_tree fs)

  -- what a step makes of a text t that was read, before the rest
  abbrev pub Grows : List ℕ → List ℕ → Next → Type 0
  Grows t rest (goes len m) = (room : ℕ) × IsOpenNest room (t ++ take len rest) m (drop len rest) × (len ≤ length rest)
  Grows t rest (stops (Ok b)) = (u : List ℕ) × (rest ≡ given b.1 36 ++ 47 ∷ u) × SpellsBody t b u
  Grows t rest (stops (Err e)) = Unit {0}

  if_grows : (b : Bool) (x y : Next) (P : Next → Type 0) → (b ≡ true → P x) → (b ≡ false → P y) → P (if b then x else y)
  if_grows true x y P first second = first refl
  if_grows false x y P first second = second refl

  -- a token
  grown : (room : ℕ) (t rest g after : List ℕ) (len : ℕ) (m : Nest) → rest ≡ g ++ after → len ≡ length g → IsOpenNest room (t ++ g) m after →
      Grows t rest (goes len m)
  grown room t rest g after len m splits takes o =
      let token : take len rest ≡ g = ap (λ n. take n rest) takes ∙ ap (take (length g)) splits ∙ the_token g after in
      let others : drop len rest ≡ after = ap (λ n. drop n rest) takes ∙ ap (drop (length g)) splits ∙ after_token g after in (
        room,
        rw others (rw token o),
        omega (arith, takes, ap length splits, length-append g after),
      )

  unit_grows : (room : ℕ) (t rest g after : List ℕ) (len : ℕ) (f : Tree) (below : List Frame) (opener : Opener) (place : ℕ) (arms parts : List Tree) (last : Last) →
      rest ≡ g ++ after → len ≡ length g → IsPlain (alphabet_of lang) g f after → IsOpen room t below opener arms parts last rest →
      Grows t rest (goes len (with_unit f (at_piece below opener place arms parts last)))
  unit_grows room t rest g after len f below opener place arms parts last splits takes is o =
      grown room t rest g after len (with_unit f (at_piece below opener place arms parts last)) splits takes
      (unit_read t g after below opener arms parts last f (subst (IsOpen room t below opener arms parts last) splits o) (plain is))

  repeat_grows : (at : ℕ) (room : ℕ) (t rest u after : List ℕ) (len least : ℕ) (most : Option ℕ) (below : List Frame) (opener : Opener) (place : ℕ) (arms parts : List Tree) (last : Last) →
      rest ≡ u ++ after → len ≡ length u → IsRepeat u least most → IsOpen room t below opener arms parts last rest →
      Grows t rest (repeats at len least most (at_piece below opener place arms parts last))
  repeat_grows at room t rest u after len least most below opener place arms parts start splits takes is o = tt
  repeat_grows at room t rest u after len least most below opener place arms parts (unit f) splits takes is o =
      grown room t rest u after len (at_piece below opener place arms parts (repeated (rep f least most))) splits takes
      (repeat_read t u after below opener arms parts f least most (subst (IsOpen room t below opener arms parts (unit f)) splits o) is)
  repeat_grows at room t rest u after len least most below opener place arms parts (repeated f) splits takes is o = tt

  brace_grows : (at : ℕ) (s : List ℕ) (room : ℕ) (t : List ℕ) (below : List Frame) (opener : Opener) (place : ℕ) (arms parts : List Tree) (last : Last)
      (found : Option Bounds) → bounds_at s ≡ found → IsOpen room t below opener arms parts last (123 ∷ s) →
      Grows t (123 ∷ s) (braces at found (at_piece below opener place arms parts last))
  brace_grows at s room t below opener place arms parts start None e o = tt
  brace_grows at s room t below opener place arms parts (unit f) None e o = tt
  brace_grows at s room t below opener place arms parts (repeated f) None e o = tt
  brace_grows at s room t below opener place arms parts last (Some b) e o =
      let g = bounds_is s b e in
      repeat_grows at room t (123 ∷ s) (123 ∷ g.text) g.rest b.len b.least b.most below opener place arms parts last
      (ap (λ y. 123 ∷ y) g.splits) g.takes g.is o

  opens_grows : (at len : ℕ) (rest after : List ℕ) (room : ℕ) (t : List ℕ) (below : List Frame) (opener : Opener) (place : ℕ) (arms parts : List Tree) (last : Last)
      (inner : Opener) → IsOpener inner → rest ≡ opener_text inner ++ after → len ≡ length (opener_text inner) →
      IsOpen room t below opener arms parts last rest →
      Grows t rest (opens inner at len (at_piece below opener place arms parts last))
  opens_grows at len rest after room t below opener place arms parts last inner is splits takes o =
      let n = at_piece below opener place arms parts last in
      if_grows (nat_lt (length below) 100) (goes len (opened inner at n)) _ (Grows t rest)
      (λ less.
      let fits : length below < 100 = grind (arith, nat_tests) in
      let all = outside_room room o.outside_text opener below (o.inside_text ++ rest) o.outside in
      let one : room ≡ suc (room - 1) = omega arith in
      grown (room - 1) t rest (opener_text inner) after len (opened inner at n) splits takes
      (open_read t after below opener place arms parts last inner is
      (rw (← one) (subst (IsOpen room t below opener arms parts last) splits o))))
      (λ full. tt)

  bang_grows : (at : ℕ) (s : List ℕ) (room : ℕ) (t : List ℕ) (below : List Frame) (opener : Opener) (place : ℕ) (arms parts : List Tree) (last : Last)
      (found : Option (List ℕ)) → head_at s ≡ found → IsOpen room t below opener arms parts last (33 ∷ s) →
      Grows t (33 ∷ s) (bangs at found (at_piece below opener place arms parts last))
  bang_grows at s room t below opener place arms parts last None e o =
      unit_grows room t (33 ∷ s) (33 ∷ []) s 1 (one (single 33)) below opener place arms parts last refl refl
      (bang (λ x h. let same = head_read s x h in absurd (cc))) o
  bang_grows at s room t below opener place arms parts last (Some x) e o =
      let h = head_is s x e in
      if_grows (is_name x) _ _ (Grows t (33 ∷ s))
      (λ name. if_grows (bytes_eq x none_word) _ _ (Grows t (33 ∷ s)) (λ none. tt)
      (λ other. opens_grows at (length x + 2) (33 ∷ s) h.0 room t below opener place arms parts last (capture x) (variable_of x name other)
      (ap (λ y. 33 ∷ y) (h.1 ∙ sym (append_assoc x (123 ∷ []) h.0))) (sym (head_length x)) o))
      (λ long. tt)

  escape_grows : (at : ℕ) (s : List ℕ) (room : ℕ) (t : List ℕ) (below : List Frame) (opener : Opener) (place : ℕ) (arms parts : List Tree) (last : Last)
      (found : ElemToken) → escape_in lang at s ≡ found → IsOpen room t below opener arms parts last (92 ∷ s) →
      Grows t (92 ∷ s) (escapes lang at found (at_piece below opener place arms parts last))
  escape_grows at s room t below opener place arms parts last (Err f) e o = tt
  escape_grows at s room t below opener place arms parts last (Ok x) e o =
      let g = escape_in_is lang s at x e in
      let set = elem_set x.0 in
      if_grows (is_empty_kind lang x.0) _ _ (Grows t (92 ∷ s)) (λ none. tt)
      (λ some.
      let full = kind_is_full lang x.0 some in
      unit_grows room t (92 ∷ s) (92 ∷ g.text) g.rest x.1 (tree_in lang set) below opener place arms parts last
      (ap (λ y. 92 ∷ y) g.splits) g.takes (escape x.0 g.is full.0 (set_tree_is lang speaks set full.1 (escape_set_in (alphabet_of lang) g.text x.0 g.is))) o)

  class_grows : (at : ℕ) (s : List ℕ) (room : ℕ) (t : List ℕ) (below : List Frame) (opener : Opener) (place : ℕ) (arms parts : List Tree) (last : Last)
      (found : Result (Bytes × ℕ) FormulaFault) → class_at lang at s ≡ found → IsOpen room t below opener arms parts last (91 ∷ s) →
      Grows t (91 ∷ s) (classes lang found (at_piece below opener place arms parts last))
  class_grows at s room t below opener place arms parts last (Err f) e o = tt
  class_grows at s room t below opener place arms parts last (Ok x) e o =
      let g = class_is lang speaks at s x e in
      unit_grows room t (91 ∷ s) (91 ∷ g.text) g.rest x.1 (tree_in lang x.0) below opener place arms parts last
      (ap (λ y. 91 ∷ y) g.splits) g.takes
      (class g.is (set_tree_is lang speaks x.0 (full_of (alphabet_of lang) x.0 g.is.1) (class_in g.is.0))) o

  -- the innermost frame is the slash's, and a slash follows
  body_spelled : (room : ℕ) (t : List ℕ) (arms parts : List Tree) (last : Last) (after : List ℕ) (o : IsOpen room t [] slash arms parts last after) →
      (fs : List Tree) × SpellsAlt (alphabet_of lang) 100 t fs after × (whole_alt arms (whole_seq parts last) ≡ alt_tree fs)
  body_spelled room t arms parts last after o =
      let i = o.inside in
      let text : t ≡ o.inside_text = o.text ∙ ap (λ x. x ++ o.inside_text) o.outside.2 in
      let spelled = whole_spelled o.inside_text arms parts last after i in (
        arms ++ seq_tree (held parts last) ∷ [],
        rw (← o.outside.1)
            (rw text spelled),
        whole_tree arms parts last i.fresh,
      )

  tie_grows : (at : ℕ) (s : List ℕ) (room : ℕ) (t : List ℕ) (below : List Frame) (opener : Opener) (place : ℕ) (arms parts : List Tree) (last : Last) →
      IsOpen room t below opener arms parts last (36 ∷ s) → Grows t (36 ∷ s) (ties at s (at_piece below opener place arms parts last))
  tie_grows at s room t [] slash place arms parts last o =
      if_grows (begins_with 47 s) _ _ (Grows t (36 ∷ s))
      (λ ends.
      let front = byte_front 47 s ends in
      let same : 36 ∷ s ≡ 36 ∷ 47 ∷ front.0 = ap (λ y. 36 ∷ y) front.1 in
      (front.0, same, body_spelled room t arms parts last (36 ∷ 47 ∷ front.0) (subst (IsOpen room t [] slash arms parts last) same o)))
      (λ early. tt)
  tie_grows at s room t (f ∷ below) slash place arms parts last o = absurd o.outside.2
  tie_grows at s room t below group place arms parts last o = tt
  tie_grows at s room t below (capture x) place arms parts last o = tt

  pub grows : {c : ℕ} → Byte c → (at : ℕ) (s : List ℕ) (room : ℕ) (t : List ℕ) (below : List Frame) (opener : Opener) (place : ℕ)
      (arms parts : List Tree) (last : Last) → IsOpen room t below opener arms parts last (c ∷ s) →
      Grows t (c ∷ s) (step lang at (c ∷ s) (at_piece below opener place arms parts last))
  grows is_slash at s room t [] slash place arms parts last o = (s, refl, body_spelled room t arms parts last (47 ∷ s) o)
  grows is_slash at s room t (f ∷ below) slash place arms parts last o = absurd o.outside.2
  grows is_slash at s room t below group place arms parts last o = tt
  grows is_slash at s room t below (capture x) place arms parts last o = tt
  grows is_open at s room t below opener place arms parts last o = opens_grows at 1 (40 ∷ s) s room t below opener place arms parts last group tt refl refl o
  grows is_close at s room t below slash place arms parts last o = tt
  grows is_close at s room t below (capture x) place arms parts last o = tt
  grows is_close at s room t [] group place arms parts last o = tt
  grows is_close at s room t (f ∷ below) group place arms parts last o = (suc room, group_read t s f below arms parts last o, omega arith)
  grows is_bracket at s room t below opener place arms parts last o = class_grows at s room t below opener place arms parts last (class_at lang at s) refl o
  grows is_bracket_close at s room t below opener place arms parts last o = tt
  grows is_brace at s room t below opener place arms parts last o = brace_grows at s room t below opener place arms parts last (bounds_at s) refl o
  grows is_brace_close at s room t below slash place arms parts last o = tt
  grows is_brace_close at s room t below group place arms parts last o = tt
  grows is_brace_close at s room t [] (capture x) place arms parts last o = tt
  grows is_brace_close at s room t (f ∷ below) (capture x) place arms parts last o = (suc room, capture_read t s f below x arms parts last o, omega arith)
  grows is_bar at s room t below opener place arms parts last o = (room, bar_read t s below opener arms parts last o, omega arith)
  grows is_star at s room t below opener place arms parts last o =
      repeat_grows at room t (42 ∷ s) (42 ∷ []) s 1 0 None below opener place arms parts last refl refl star o
  grows is_plus at s room t below opener place arms parts last o =
      repeat_grows at room t (43 ∷ s) (43 ∷ []) s 1 1 None below opener place arms parts last refl refl plus o
  grows is_maybe at s room t below opener place arms parts last o =
      repeat_grows at room t (63 ∷ s) (63 ∷ []) s 1 0 (Some 1) below opener place arms parts last refl refl maybe o
  grows is_dot at s room t below opener place arms parts last o =
      unit_grows room t (46 ∷ s) (46 ∷ []) s 1 (tree_in lang (dot_set (alphabet_of lang))) below opener place arms parts last refl refl
      (dot (set_tree_is lang speaks (dot_set (alphabet_of lang)) (dot_full (alphabet_of lang)) (dot_in (alphabet_of lang)))) o
  grows is_caret at s room t below opener place arms parts last o = tt
  grows is_dollar at s room t below opener place arms parts last o = tie_grows at s room t below opener place arms parts last o
  grows is_bang at s room t below opener place arms parts last o =
      bang_grows at s room t below opener place arms parts last (head_at s) refl o
  grows is_backslash at s room t below opener place arms parts last o =
      escape_grows at s room t below opener place arms parts last (escape_in lang at s) refl o
  grows (is_literal {b = b} ordinary) at s room t below opener place arms parts last o =
      let n = at_piece below opener place arms parts last in
      subst (Grows t (b ∷ s)) (sym (literal_step lang speaks at b s n ordinary))
      (unit_grows room t (b ∷ s) (b ∷ []) s 1 (one (single b)) below opener place arms parts last refl refl (literal ordinary) o)
  grows (is_wide {b = b} big) at s room t below opener place arms parts last o =
      let n = at_piece below opener place arms parts last in
      let r = run_of is_tail s in
      subst (Grows t (b ∷ s)) (sym (wide_step lang speaks at b s n big.1))
      (unit_grows room t (b ∷ s) (b ∷ tails s) r.rest (suc (length (tails s))) (bytes_tree (b ∷ tails s)) below opener place arms parts last
      (ap (λ y. b ∷ y) r.splits) refl (wide big.1 r.all r.stops) o)

  pub grows_here : (at : ℕ) (rest : List ℕ) (room : ℕ) (t : List ℕ) (n : Nest) → IsOpenNest room t n rest → Grows t rest (step lang at rest n)
  grows_here at [] room t n o = tt
  grows_here at (c ∷ s) room t n o = grows (byte_of c) at s room t n.below n.top.opener n.top.place n.top.arms n.top.parts n.last o

  -- what is read from here on, with the text t before it
  pub spelled_from : (k at : ℕ) (rest : List ℕ) (room : ℕ) (t : List ℕ) (n : Nest) (x : Body × ℕ) → IsOpenNest room t n rest →
      EndsAfter lang k at rest n (Ok x) → (u : List ℕ) × (v : List ℕ) × (rest ≡ u ++ (given x.0.1 36 ++ 47 ∷ v)) × SpellsBody (t ++ u) x.0 v × (x.1 ≡ at + length u + end_len x.0.1)
  spelled_from zero at rest room t n x o ends =
      let g : Grows t rest (stops (Ok x.0)) = subst (Grows t rest) ends.0 (grows_here at rest room t n o) in
      ([], g.0, g.1, rw (append-nil t) g.2, ends.1 ∙ omega arith)
  spelled_from (suc k) at rest room t n x o (len, m, is, ends) =
      let g : Grows t rest (goes len m) = subst (Grows t rest) is (grows_here at rest room t n o) in
      let r = spelled_from k (at + len) (drop len rest) g.0 (t ++ take len rest) m x g.1 ends in
      let front = take len rest in (
        front ++ r.0,
        r.1,
        sym (take-append-drop len rest) ∙ ap (λ y. front ++ y) r.2 ∙ sym (append_assoc front r.0 (given x.0.1 36 ++ 47 ∷ r.1)),
        rw (← append_assoc t front r.0) r.3,
        r.4 ∙ omega (arith, length-append front r.0, length-take len rest, g.2),
      )

  -- What is read is spelled: the text up to what ties it and a slash, and the place after that.
  pub spelled_read : (at place : ℕ) (rest : List ℕ) (x : Body × ℕ) → Ends lang at rest (outermost place) (Ok x) →
      (u : List ℕ) × (v : List ℕ) × (rest ≡ u ++ (given x.0.1 36 ++ 47 ∷ v)) × SpellsBody u x.0 v × (x.1 ≡ at + length u + end_len x.0.1)
  spelled_read at place rest x (k, ends) =
      spelled_from k at rest 100 [] (outermost place) x
      (record {
        outside_text = [];
        inside_text = [];
        outside = (refl, refl, refl);
        inside = record { arms_text = []; parts_text = []; last_text = []; arms_are = no_arm; parts_are = no_piece; last_is = refl; fresh = refl; text = refl };
        text = refl;
      })
      ends
