-- What is spelled is read.
use Rattle.std.proofs.Common.{◌≡◌, ◌&&◌, ℕ, suc, ◌+◌, ◌<◌, ◌≤◌, Bool, true, false, List, [], ◌∷◌, ◌++◌, length, Option, Some, None, Ok, Err, ap, subst, sym, refl, ◌∙◌, append_assoc, arith, length-append, nat_lt, if◌then◌else◌}
use Rattle.std.proofs.lemmas.List.{append-nil}
use Rattle.std.proofs.lemmas.Bool.Decides.{nat_tests}
use Rattle.std.proofs.lemmas.Slice.Eq.{bytes_eq-Decides}
use Rattle.std.specs.Str.{bytes_eq}
use Rattle.spanner_model.specs.Tree.{Tree, one, rep, cap, cat_all}
use Rattle.spanner_model.specs.WellBuilt.{IsVariable, none_word}
use Rattle.span_core.specs.Names.{is_name, is_name_start, is_name_byte}
use Rattle.std.specs.List.{list_all}
use Rattle.std.proofs.lemmas.Bool.{and_parts}
use Rattle.formula_parser.specs.declared.fault.FormulaFault.TheVariants.{BadRange, NameTooLong, ReservedName}
use Rattle.formula_parser.specs.Faults.{Opener, slash, group, capture}
use Rattle.formula_parser.specs.Nest.{Frame, Last, start, unit, repeated, Nest, held, whole_seq, whole_alt, with_unit, with_repeat, opened, settled, outermost}
use Rattle.formula_parser.specs.Step.{Next, goes, stops, step, braces, escapes, bangs, classes, widens, opens, end_len, Ends}
use Rattle.formula_parser.specs.Sets.{single}
use Rattle.formula_parser.specs.Tokens.{head_at, bounds_at, tails}
use Rattle.formula_parser.specs.Names.{HasHead, head_text, is_word}
use Rattle.formula_parser.specs.Repeats.{IsRepeat, star, plus, maybe, exactly, at_least, between}
use Rattle.formula_parser.specs.Spells.{seq_tree, alt_tree, IsLiteral, is_tail, IsPlain, literal, wide, bang, dot, escape, class, SpellsAlt, SpellsSeq, SpellsPiece, SpellsUnit, lone_arm, more_arms, no_piece, more_pieces, once, again, plain, group_of, capture_of, given}
use Rattle.formula_parser.proofs.RunLaws.{run_is, after_token}
use Rattle.formula_parser.specs.Escapes.{elem_set}
use Rattle.formula_parser.specs.Alphabet.{dot_set}
use Rattle.formula_parser.proofs.ElemTokens.{escape_in_read}
use Rattle.formula_parser.proofs.SetTrees.{set_tree_only, kind_full, kind_is_some, full_of, class_in, escape_set_in, dot_in, dot_full}
use Rattle.formula_parser.proofs.HeadLaws.{head_read, head_is}
use Rattle.formula_parser.proofs.RepeatLaws.{bounds_exactly, bounds_at_least, bounds_between}
use Rattle.formula_parser.proofs.ClassLaws.{class_read}
use Rattle.formula_parser.proofs.StepLaws.{Answer, ends_more}
use Rattle.formula_parser.specs.Dialect.{Dialect, alphabet_of, tree_in, Speaks}

-- the innermost frame with these pieces and this last thing
abbrev pub at_piece : List Frame → Opener → ℕ → List Tree → List Tree → Last → Nest
at_piece below opener place arms parts last =
    record { below = below; top = record { opener = opener; place = place; arms = arms; parts = parts }; last = last }

-- a name is a word of at most 32 bytes
pub name_word : (x : List ℕ) → is_name x ≡ true → (is_word x ≡ true) × (length x ≤ 32)
name_word [] h = absurd (cc)
name_word (c ∷ x) h =
    let parts = and_parts (nat_lt (length x) 32) (is_name_start c && list_all is_name_byte x) h in
    let few = parts.0 in
    (parts.1, grind (arith, nat_tests))

pub word_name : (x : List ℕ) → is_word x ≡ true → length x ≤ 32 → is_name x ≡ true
word_name [] h few = absurd (cc)
word_name (c ∷ x) h few =
    let fits : nat_lt (length x) 32 ≡ true = grind (arith, nat_tests) in
    ap (λ b. b && (is_name_start c && list_all is_name_byte x)) fits ∙ h

-- a word that is no name is too long
pub long_word : (x : List ℕ) → is_word x ≡ true → is_name x ≡ false → 32 < length x
long_word x word other = by (nat_lt 32 (length x)) refl
  where
    by : (b : Bool) → nat_lt 32 (length x) ≡ b → 32 < length x
    by true e = grind (arith, nat_tests)
    by false e = let same = word_name x word (grind (arith, nat_tests)) in absurd (cc)

pub long_no_name : (x : List ℕ) → 32 < length x → is_name x ≡ false
long_no_name [] long = refl
long_no_name (c ∷ x) long =
    let full : nat_lt (length x) 32 ≡ false = grind (arith, nat_tests) in
    ap (λ b. b && (is_name_start c && list_all is_name_byte x)) full

-- texts that differ are told apart
pub texts_differ : (x y : List ℕ) → (x ≡ y → ⊥) → bytes_eq x y ≡ false
texts_differ x y differ = by (bytes_eq x y) refl
  where
    by : (b : Bool) → bytes_eq x y ≡ b → bytes_eq x y ≡ false
    by false e = e
    by true e = absurd (differ ((bytes_eq-Decides x y).0 e))

pub variable_opens : (at : ℕ) (x : List ℕ) (n : Nest) → IsVariable x → bangs at (Some x) n ≡ opens (capture x) at (length x + 2) n
variable_opens at x n variable =
    let deep : Bool → Next = λ b. if b then stops (Err (ReservedName at)) else opens (capture x) at (length x + 2) n in
    ap (λ b. if b then deep (bytes_eq x none_word) else stops (Err (NameTooLong at))) variable.0 ∙ ap deep (texts_differ x none_word variable.1)

pub head_length : (x : List ℕ) → length (head_text x) ≡ length x + 2
head_length x = omega (arith, length-append x (123 ∷ []))

-- with room for one more
pub opens_step : (opener : Opener) (at len : ℕ) (n : Nest) → length n.below < 100 → opens opener at len n ≡ goes len (opened opener at n)
opens_step opener at len n room = grind (arith, nat_tests)

-- nothing was read since the start of the sequence only if it has no pieces yet
abbrev pub IsFresh : List Tree → Last → Type 0
IsFresh parts start = parts ≡ []
IsFresh parts (unit f) = Unit {0}
IsFresh parts (repeated f) = Unit {0}

cons_seq : (p f : Tree) (ps : List Tree) → cat_all ((p ∷ ps) ++ f ∷ []) ≡ seq_tree ((p ∷ ps) ++ f ∷ [])
cons_seq p f [] = refl
cons_seq p f (q ∷ ps) = refl

pub whole_seq_is : (parts : List Tree) (last : Last) → IsFresh parts last → whole_seq parts last ≡ seq_tree (held parts last)
whole_seq_is [] start fresh = refl
whole_seq_is [] (unit f) fresh = refl
whole_seq_is [] (repeated f) fresh = refl
whole_seq_is (p ∷ ps) start fresh = absurd (cc fresh)
whole_seq_is (p ∷ ps) (unit f) fresh = cons_seq p f ps
whole_seq_is (p ∷ ps) (repeated f) fresh = cons_seq p f ps

pub whole_alt_is : (arms : List Tree) (s : Tree) → whole_alt arms s ≡ alt_tree (arms ++ s ∷ [])
whole_alt_is [] s = refl
whole_alt_is (a ∷ []) s = refl
whole_alt_is (a ∷ b ∷ arms) s = refl

module _ (lang : Dialect) (speaks : Speaks lang) where
  pub literal_step : (at b : ℕ) (t : List ℕ) (n : Nest) → IsLiteral b → step lang at (b ∷ t) n ≡ goes 1 (with_unit (one (single b)) n)
  literal_step at b t n ordinary = let none = ordinary.0 in grind (arith, nat_tests, none.0, none.1, ordinary.1)

  pub wide_step : (at b : ℕ) (t : List ℕ) (n : Nest) → 192 ≤ b → step lang at (b ∷ t) n ≡ widens b (tails t) n
  wide_step at b t n big = grind (arith, nat_tests)

  -- what a `!` does before the head of a capture
  pub head_bangs : (at : ℕ) (x rest : List ℕ) (n : Nest) → is_word x ≡ true → step lang at (head_text x ++ rest) n ≡ bangs at (Some x) n
  head_bangs at x rest n word = ap (λ y. bangs at y n) (head_read ((x ++ 123 ∷ []) ++ rest) x (rest, append_assoc x (123 ∷ []) rest, word))

  pub open_step : (at : ℕ) (t : List ℕ) (n : Nest) → length n.below < 100 → step lang at (40 ∷ t) n ≡ goes 1 (opened group at n)
  open_step at t n room = opens_step group at 1 n room

  pub head_step : (at : ℕ) (x rest : List ℕ) (n : Nest) → IsVariable x → length n.below < 100 →
      step lang at (head_text x ++ rest) n ≡ goes (length (head_text x)) (opened (capture x) at n)
  head_step at x rest n variable room =
      head_bangs at x rest n (name_word x variable.0).0 ∙ variable_opens at x n variable ∙ opens_step (capture x) at (length x + 2) n room
      ∙ ap (λ k. goes k (opened (capture x) at n)) (sym (head_length x))

  -- a text in two parts, and then the rest
  pub ends_split : (at : ℕ) (t u rest : List ℕ) (n : Nest) (r : Answer) → Ends lang at (t ++ (u ++ rest)) n r → Ends lang at ((t ++ u) ++ rest) n r
  ends_split at t u rest n r = subst (λ x. Ends lang at x n r) (sym (append_assoc t u rest))

  pub ends_at : (at at' : ℕ) (rest : List ℕ) (n : Nest) (r : Answer) → at ≡ at' → Ends lang at rest n r → Ends lang at' rest n r
  ends_at at at' rest n r e = subst (λ p. Ends lang p rest n r) e

  -- a repeat in braces, after a unit
  brace_step : (at : ℕ) (u rest : List ℕ) (below : List Frame) (opener : Opener) (place : ℕ) (arms parts : List Tree) (f : Tree) (least : ℕ) (most : Option ℕ)
      (len : ℕ) → bounds_at (u ++ rest) ≡ Some (record { least = least; most = most; len = len }) → len ≡ suc (length u) →
      step lang at ((123 ∷ u) ++ rest) (at_piece below opener place arms parts (unit f)) ≡ goes (length (123 ∷ u)) (at_piece below opener place arms parts (repeated (rep f least most)))
  brace_step at u rest below opener place arms parts f least most len is takes =
      let n = at_piece below opener place arms parts (unit f) in
      ap (λ x. braces at x n) is ∙ ap (λ k. goes k (with_repeat (rep f least most) n)) takes

  pub repeat_step : {u : List ℕ} {least : ℕ} {most : Option ℕ} → IsRepeat u least most → (at : ℕ) (rest : List ℕ) (below : List Frame) (opener : Opener) (place : ℕ)
      (arms parts : List Tree) (f : Tree) → step lang at (u ++ rest) (at_piece below opener place arms parts (unit f))
      ≡ goes (length u) (at_piece below opener place arms parts (repeated (rep f least most)))
  repeat_step star at rest below opener place arms parts f = refl
  repeat_step plus at rest below opener place arms parts f = refl
  repeat_step maybe at rest below opener place arms parts f = refl
  repeat_step (exactly {t = t} {m = m} is) at rest below opener place arms parts f =
      brace_step at (t ++ 125 ∷ []) rest below opener place arms parts f m (Some m) (length t + 2) (bounds_exactly t rest m is)
      (omega (arith, length-append t (125 ∷ [])))
  repeat_step (at_least {t = t} {m = m} is) at rest below opener place arms parts f =
      brace_step at (t ++ 44 ∷ 125 ∷ []) rest below opener place arms parts f m None (length t + 3) (bounds_at_least t rest m is)
      (omega (arith, length-append t (44 ∷ 125 ∷ [])))
  repeat_step (between {t = t} {u = u} {m = m} {k = k} is are le) at rest below opener place arms parts f =
      brace_step at (t ++ 44 ∷ (u ++ 125 ∷ [])) rest below opener place arms parts f m (Some k) (length t + length u + 3) (bounds_between t u rest m k is are le)
      (omega (arith, length-append t (44 ∷ (u ++ 125 ∷ [])), length-append u (125 ∷ [])))

  -- a `!` that begins no capture
  bang_step : (at : ℕ) (after : List ℕ) (n : Nest) → ((x : List ℕ) → HasHead after x → ⊥) → step lang at (33 ∷ after) n ≡ goes 1 (with_unit (one (single 33)) n)
  bang_step at after n none = by (head_at after) refl
    where
      by : (found : Option (List ℕ)) → head_at after ≡ found → bangs at (head_at after) n ≡ goes 1 (with_unit (one (single 33)) n)
      by None e = ap (λ x. bangs at x n) e
      by (Some x) e = absurd (none x (head_is after x e))

  pub plain_step : {u after : List ℕ} {f : Tree} → IsPlain (alphabet_of lang) u f after → (at : ℕ) (n : Nest) → step lang at (u ++ after) n ≡ goes (length u) (with_unit f n)
  plain_step (literal {b = b} {after = after} ordinary) at n = literal_step at b after n ordinary
  plain_step (wide {b = b} {t = t} {after = after} big all ends) at n =
      wide_step at b (t ++ after) n big ∙ ap (λ x. widens b x n) (run_is is_tail t after all ends)
  plain_step (bang {after = after} none) at n = bang_step at after n none
  plain_step (dot {f = f} tree) at n = ap (λ y. goes 1 (with_unit y n)) (sym (set_tree_only lang speaks (dot_set (alphabet_of lang)) f (dot_full (alphabet_of lang)) (dot_in (alphabet_of lang)) tree))
  plain_step (escape {e = e} {after = after} x {f = f} is some tree) at n =
      ap (λ y. escapes lang at y n) (escape_in_read lang e x is after at)
      ∙ ap (λ b. if b then stops (Err (BadRange at)) else goes (suc (length e)) (with_unit (tree_in lang (elem_set x)) n)) (kind_full lang x some)
      ∙ ap (λ y. goes (suc (length e)) (with_unit y n)) (sym (set_tree_only lang speaks (elem_set x) f (kind_is_some lang x some) (escape_set_in (alphabet_of lang) e x is) tree))
  plain_step (class {t = t} {s = s} {f = f} is tree) at n =
      ap (λ x. classes lang x n) (class_read lang speaks is at) ∙
      ap (λ y. goes (suc (length t)) (with_unit y n)) (sym (set_tree_only lang speaks s f (full_of (alphabet_of lang) s is.1) (class_in is.0) tree))

  -- a token, and then the others
  pub ends_token : (at : ℕ) (u rest : List ℕ) (n m : Nest) (r : Answer) → step lang at (u ++ rest) n ≡ goes (length u) m →
      Ends lang (at + length u) rest m r → Ends lang at (u ++ rest) n r
  ends_token at u rest n m r is ends =
      ends_more lang speaks at (length u) (u ++ rest) n m r is (rw (after_token u rest) ends)

  mutual
    pub reads_alt : {room : ℕ} {t rest : List ℕ} {fs : List Tree} → SpellsAlt (alphabet_of lang) room t fs rest → (r : Answer) (at : ℕ)
        (below : List Frame) (opener : Opener) (place : ℕ) (arms : List Tree) → length below + room ≡ 100 →
        ((es ps : List Tree) (l : Last) → whole_alt es (whole_seq ps l) ≡ alt_tree (arms ++ fs) →
        Ends lang (at + length t) rest (at_piece below opener place es ps l) r) →
        Ends lang at (t ++ rest) (at_piece below opener place arms [] start) r
    reads_alt (lone_arm {after = rest} {fs = fs} s) r at below opener place arms deep next =
        reads_seq s r at below opener place arms [] start refl deep
        (λ ps l fresh is. next arms ps l (whole_alt_is arms _ ∙ ap (λ x. alt_tree (arms ++ x ∷ [])) (whole_seq_is ps l fresh ∙ ap seq_tree is)))
    reads_alt (more_arms {t = t} {u = u} {after = rest} {fs = fs} {gs = gs} s others) r at below opener place arms deep next =
        ends_split at t (124 ∷ u) rest _ r (reads_seq s r at below opener place arms [] start refl deep
        (λ ps l fresh is.
        ends_more lang speaks (at + length t) 1 (124 ∷ (u ++ rest)) (at_piece below opener place arms ps l) _ r refl
        (reads_alt others r (at + length t + 1) below opener place (arms ++ whole_seq ps l ∷ []) deep
        (λ es qs k same. ends_at (at + length (t ++ 124 ∷ u)) (at + length t + 1 + length u) rest _ r (omega (arith, length-append t (124 ∷ u)))
        (next es qs k (same ∙ ap alt_tree (append_assoc arms _ gs ∙ ap (λ x. arms ++ x ∷ gs) (whole_seq_is ps l fresh ∙ ap seq_tree is))))))))

    pub reads_seq : {room : ℕ} {t rest : List ℕ} {fs : List Tree} → SpellsSeq (alphabet_of lang) room t fs rest → (r : Answer) (at : ℕ)
        (below : List Frame) (opener : Opener) (place : ℕ) (arms parts : List Tree) (last : Last) → IsFresh parts last → length below + room ≡ 100 →
        ((ps : List Tree) (l : Last) → IsFresh ps l → held ps l ≡ held parts last ++ fs →
        Ends lang (at + length t) rest (at_piece below opener place arms ps l) r) →
        Ends lang at (t ++ rest) (at_piece below opener place arms parts last) r
    reads_seq (no_piece {after = rest}) r at below opener place arms parts last fresh deep next =
        ends_at (at + 0) at rest _ r (omega arith) (next parts last fresh (sym (append-nil _)))
    reads_seq (more_pieces {t = t} {u = u} {after = rest} {f = f} {fs = fs} p s) r at below opener place arms parts last fresh deep next =
        ends_split at t u rest _ r (reads_piece p r at below opener place arms parts last deep
        (λ ps l still is. reads_seq s r (at + length t) below opener place arms ps l still deep
        (λ qs k still' is'. ends_at (at + length (t ++ u)) (at + length t + length u) rest _ r (omega (arith, length-append t u))
        (next qs k still' (is' ∙ ap (λ x. x ++ fs) is ∙ append_assoc (held parts last) (f ∷ []) fs)))))

    pub reads_piece : {room : ℕ} {t rest : List ℕ} {f : Tree} → SpellsPiece (alphabet_of lang) room t f rest → (r : Answer) (at : ℕ)
        (below : List Frame) (opener : Opener) (place : ℕ) (arms parts : List Tree) (last : Last) → length below + room ≡ 100 →
        ((ps : List Tree) (l : Last) → IsFresh ps l → held ps l ≡ held parts last ++ f ∷ [] →
        Ends lang (at + length t) rest (at_piece below opener place arms ps l) r) →
        Ends lang at (t ++ rest) (at_piece below opener place arms parts last) r
    reads_piece (once {after = rest} {f = f} u) r at below opener place arms parts last deep next =
        reads_unit u r at (at_piece below opener place arms parts last) deep (next (held parts last) (unit f) tt refl)
    reads_piece (again {t = t} {u = v} {after = rest} {f = f} {least = least} {most = most} u sign) r at below opener place arms parts last deep next =
        ends_split at t v rest _ r (reads_unit u r at (at_piece below opener place arms parts last) deep
        (ends_token (at + length t) v rest _ (at_piece below opener place arms (held parts last) (repeated (rep f least most))) r
        (repeat_step sign (at + length t) rest below opener place arms (held parts last) f)
        (ends_at (at + length (t ++ v)) (at + length t + length v) rest _ r (omega (arith, length-append t v))
        (next (held parts last) (repeated (rep f least most)) tt refl))))

    pub reads_unit : {room : ℕ} {t rest : List ℕ} {f : Tree} → SpellsUnit (alphabet_of lang) room t f rest → (r : Answer) (at : ℕ) (n : Nest) →
        length n.below + room ≡ 100 → Ends lang (at + length t) rest (with_unit f n) r → Ends lang at (t ++ rest) n r
    reads_unit (plain {t = t} {after = rest} {f = f} p) r at n deep next = ends_token at t rest n (with_unit f n) r (plain_step p at n) next
    reads_unit (group_of {room = room} {t = t} {after = rest} {fs = fs} alt) r at n deep next =
        ends_more lang speaks at 1 (40 ∷ ((t ++ 41 ∷ []) ++ rest)) n _ r (open_step at ((t ++ 41 ∷ []) ++ rest) n (omega arith))
        (ends_split (at + 1) t (41 ∷ []) rest _ r
        (reads_alt alt r (at + 1) (settled n.top n.last ∷ n.below) group at [] (omega arith)
        (λ es ps l is. ends_more lang speaks (at + 1 + length t) 1 (41 ∷ rest) _ _ r refl
        (ends_at (at + length (40 ∷ (t ++ 41 ∷ []))) (at + 1 + length t + 1) rest _ r (omega (arith, length-append t (41 ∷ [])))
        (subst (λ x. Ends lang (at + length (40 ∷ (t ++ 41 ∷ []))) rest (with_unit x n) r) (sym is) next)))))
    reads_unit (capture_of {room = room} {x = x} {t = t} {after = rest} {fs = fs} variable alt) r at n deep next =
        let u = head_text x in
        let all = u ++ (t ++ 125 ∷ []) in
        ends_split at u (t ++ 125 ∷ []) rest n r
        (ends_token at u ((t ++ 125 ∷ []) ++ rest) n (opened (capture x) at n) r (head_step at x ((t ++ 125 ∷ []) ++ rest) n variable (omega arith))
        (ends_split (at + length u) t (125 ∷ []) rest _ r
        (reads_alt alt r (at + length u) (settled n.top n.last ∷ n.below) (capture x) at [] (omega arith)
        (λ es ps l is. ends_more lang speaks (at + length u + length t) 1 (125 ∷ rest) _ _ r refl
        (ends_at (at + length all) (at + length u + length t + 1) rest _ r (omega (arith, length-append u (t ++ 125 ∷ []), length-append t (125 ∷ [])))
        (subst (λ y. Ends lang (at + length all) rest (with_unit (cap x y) n) r) (sym is) next))))))

  -- What is spelled is read: the formula between the slashes, and the place after the closing one.
  pub reads_spelled : (t : List ℕ) (fs : List Tree) (tied : Bool) (after : List ℕ) (at place : ℕ) → SpellsAlt (alphabet_of lang) 100 t fs (given tied 36 ++ 47 ∷ after) →
      Ends lang at (t ++ (given tied 36 ++ 47 ∷ after)) (outermost place) (Ok ((alt_tree fs, tied), at + length t + end_len tied))
  reads_spelled t fs false after at place alt =
      reads_alt alt (Ok ((alt_tree fs, false), at + length t + 1)) at [] slash place [] refl
      (λ es ps l same. (0, (ap (λ x. stops (Ok (x, false))) same, refl)))
  reads_spelled t fs true after at place alt =
      reads_alt alt (Ok ((alt_tree fs, true), at + length t + 2)) at [] slash place [] refl
      (λ es ps l same. (0, (ap (λ x. stops (Ok (x, true))) same, refl)))
