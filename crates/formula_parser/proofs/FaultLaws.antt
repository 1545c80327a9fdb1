-- A fault is what reading answers.
use Rattle.std.proofs.Common.{◌≡◌, ℕ, suc, ◌+◌, ◌<◌, true, false, List, [], ◌∷◌, ◌++◌, length, drop, Option, Some, None, Ok, Err, ap, subst, sym, refl, ◌∙◌, arith, if◌then◌else◌}
use Rattle.std.proofs.lemmas.Bool.Decides.{nat_tests}
use Rattle.std.specs.Str.{bytes_eq}
use Rattle.spanner_model.specs.Tree.{Tree, rep, cap}
use Rattle.spanner_model.specs.WellBuilt.{none_word}
use Rattle.formula_parser.specs.declared.fault.FormulaFault.{FormulaFault}
use Rattle.formula_parser.specs.declared.fault.FormulaFault.TheVariants.{Unexpected, Unclosed, BadRange, BadRepeat, DoubleRepeat, Anchor, NameTooLong, ReservedName, TooDeep}
use Rattle.formula_parser.specs.Runs.{begins_with, StandsAt}
use Rattle.formula_parser.specs.Nest.{Frame, Last, start, unit, repeated, Nest, whole, with_unit, opened, next_arm, outermost}
use Rattle.formula_parser.specs.Step.{goes, stops, step, braces, opens, escapes, classes, bangs, tie_len, is_tied, start_at, Reading, Ends}
use Rattle.formula_parser.specs.Escapes.{elem_set}
use Rattle.formula_parser.specs.Names.{head_text}
use Rattle.formula_parser.specs.Repeats.{IsRepeat, IsSign, star_sign, plus_sign, maybe_sign, brace_sign}
use Rattle.formula_parser.specs.Tokens.{Bounds, bounds_at}
use Rattle.formula_parser.specs.Faults.{Mark, at_start, after_unit, after_repeat, Opener, slash, group, capture, Opening, innermost, Reads, slash_read, tie_read, unit_read, repeat_read, bar_read, open_read, head_read, close_read, brace_read, HasFaultOver, nothing_to_repeat, nothing_to_close, no_capture_to_close, no_class_to_close, capture_for_group, group_for_capture, slash_inside, text_ends, at_escape, empty_kind, in_class, no_repeat, repeat_twice, tie_late, tie_inside, tie_early, name_too_long, reserved_name, group_too_deep, capture_too_deep}
use Rattle.formula_parser.proofs.StepLaws.{Answer, ends_on}
use Rattle.formula_parser.proofs.ElemTokens.{escape_in_read, escape_fault_read}
use Rattle.formula_parser.proofs.SetTrees.{kind_empty}
use Rattle.formula_parser.proofs.HeadLaws as heads
use Rattle.formula_parser.proofs.RepeatLaws.{bounds_is}
use Rattle.formula_parser.proofs.ClassLaws.{class_fault_read}
use Rattle.formula_parser.proofs.ReadsSpelled.{at_piece, plain_step, repeat_step, open_step, head_step, head_bangs, variable_opens, name_word, long_no_name}
use Rattle.formula_parser.specs.Dialect.{Dialect, alphabet_of, tree_in, Speaks}

abbrev pub mark_of : Last → Mark
mark_of start = at_start
mark_of (unit f) = after_unit
mark_of (repeated f) = after_repeat

-- the openers of these frames
abbrev pub openings : List Frame → Opener → ℕ → List Opening
openings [] o p = []
openings (f ∷ fs) o p = (o, p) ∷ openings fs f.opener f.place

abbrev pub IsInner : Opener → Type 0
IsInner slash = ⊥
IsInner group = Unit {0}
IsInner (capture x) = Unit {0}

-- the outermost frame is that of the slash, and no other is
abbrev pub IsSound : ℕ → List Frame → Opener → ℕ → Type 0
IsSound from [] o p = (o ≡ slash) × (p ≡ from)
IsSound from (f ∷ fs) o p = IsInner o × IsSound from fs f.opener f.place

pub count_openings : (fs : List Frame) (o : Opener) (p : ℕ) → length (openings fs o p) ≡ length fs
count_openings [] o p = refl
count_openings (f ∷ fs) o p = ap suc (count_openings fs f.opener f.place)

pub plain_start : (text : List ℕ) (from : ℕ) → is_tied text from ≡ false → from + 1 ≡ start_at text from
plain_start text from e = let same : from + 1 ≡ from + 1 + 0 = omega arith in same ∙ ap (λ b. from + 1 + tie_len b) (sym e)

pub tied_start : (text : List ℕ) (from : ℕ) → is_tied text from ≡ true → from + 1 + 1 ≡ start_at text from
tied_start text from e = ap (λ b. from + 1 + tie_len b) (sym e)

pub place_is_innermost : (from : ℕ) (os : List Opening) (below : List Frame) (opener : Opener) (place : ℕ) →
    IsSound from below opener place → openings below opener place ≡ os → place ≡ innermost from os
place_is_innermost from [] [] opener place sound openers = sound.1
place_is_innermost from [] (f ∷ fs) opener place sound openers = absurd (cc)
place_is_innermost from (o ∷ os) [] opener place sound openers = absurd (cc)
place_is_innermost from (o ∷ os) (f ∷ fs) opener place sound openers = ap (λ (x : Opening). x.1) (let e : ◌≡◌ {A = Opening} (opener, place) o = cc in e)

module _ (lang : Dialect) (speaks : Speaks lang) where
  -- reading comes to the place p with these openers and this mark
  pub record Reaches (text : List ℕ) (from p : ℕ) (os : List Opening) (m : Mark) : Type 0 where
    pub nest : Nest
    pub sound : IsSound from nest.below nest.top.opener nest.top.place
    pub openers : openings nest.below nest.top.opener nest.top.place ≡ os
    pub mark : mark_of nest.last ≡ m
    pub goes_on : (r : Answer) → Ends lang p (drop p text) nest r → Reading lang text from r

  -- what a step leaves open
  pub record Goes (from p : ℕ) (here : List ℕ) (n : Nest) (len : ℕ) (os : List Opening) (m : Mark) : Type 0 where
    pub nest : Nest
    pub step_is : step lang p here n ≡ goes len nest
    pub sound : IsSound from nest.below nest.top.opener nest.top.place
    pub openers : openings nest.below nest.top.opener nest.top.place ≡ os
    pub mark : mark_of nest.last ≡ m

  -- one step more
  reaches_on : (text : List ℕ) (from p len : ℕ) (os os' : List Opening) (m m' : Mark) (here : List ℕ) (h : Reaches text from p os m) →
      drop p text ≡ here → Goes from p here h.nest len os' m' → Reaches text from (p + len) os' m'
  reaches_on text from p len os os' m m' here h stands g = record {
    nest = g.nest;
    sound = g.sound;
    openers = g.openers;
    mark = g.mark;
    goes_on = λ r ends. h.goes_on r (ends_on lang speaks p len text here h.nest g.nest r (sym stands) g.step_is ends);
  }

  -- the formula begins at this place
  reaches_first : (text : List ℕ) (from p : ℕ) → p ≡ start_at text from → Reaches text from p [] at_start
  reaches_first text from p is = record {
    nest = outermost from;
    sound = (refl, refl);
    openers = refl;
    mark = refl;
    goes_on = λ r ends. rw (← is) ends;
  }

  repeat_goes : {u : List ℕ} {least : ℕ} {most : Option ℕ} → IsRepeat u least most → (from p : ℕ) (rest : List ℕ) (below : List Frame) (opener : Opener) (place : ℕ)
      (arms parts : List Tree) (last : Last) → IsSound from below opener place → mark_of last ≡ after_unit →
      Goes from p (u ++ rest) (at_piece below opener place arms parts last) (length u) (openings below opener place) after_repeat
  repeat_goes sign from p rest below opener place arms parts start sound mark = absurd (cc)
  repeat_goes sign from p rest below opener place arms parts (unit f) sound mark = record {
    nest = at_piece below opener place arms parts (repeated (rep f _ _));
    step_is = repeat_step lang speaks sign p rest below opener place arms parts f;
    sound = sound;
    openers = refl;
    mark = refl;
  }
  repeat_goes sign from p rest below opener place arms parts (repeated f) sound mark = absurd (cc)

  close_goes : (from p q : ℕ) (os : List Opening) (rest : List ℕ) (below : List Frame) (opener : Opener) (place : ℕ)
      (arms parts : List Tree) (last : Last) → IsSound from below opener place → openings below opener place ≡ (group, q) ∷ os →
      Goes from p (41 ∷ rest) (at_piece below opener place arms parts last) 1 os after_unit
  close_goes from p q os rest [] opener place arms parts last sound openers = absurd (cc)
  close_goes from p q os rest (f ∷ fs) slash place arms parts last sound openers = absurd sound.0
  close_goes from p q os rest (f ∷ fs) (capture x) place arms parts last sound openers =
      let pair : ◌≡◌ {A = Opening} (capture x, place) (group, q) = cc in
      let e : capture x ≡ group = ap (λ (o : Opening). o.0) pair in absurd (cc)
  close_goes from p q os rest (f ∷ fs) group place arms parts last sound openers = record {
    nest = record { below = fs; top = f; last = unit (whole (at_piece (f ∷ fs) group place arms parts last)) };
    step_is = refl;
    sound = sound.1;
    openers = cc;
    mark = refl;
  }

  brace_goes : (from p q : ℕ) (x : List ℕ) (os : List Opening) (rest : List ℕ) (below : List Frame) (opener : Opener) (place : ℕ)
      (arms parts : List Tree) (last : Last) → IsSound from below opener place → openings below opener place ≡ (capture x, q) ∷ os →
      Goes from p (125 ∷ rest) (at_piece below opener place arms parts last) 1 os after_unit
  brace_goes from p q x os rest [] opener place arms parts last sound openers = absurd (cc)
  brace_goes from p q x os rest (f ∷ fs) slash place arms parts last sound openers = absurd sound.0
  brace_goes from p q x os rest (f ∷ fs) group place arms parts last sound openers =
      let pair : ◌≡◌ {A = Opening} (group, place) (capture x, q) = cc in
      let e : group ≡ capture x = ap (λ (o : Opening). o.0) pair in absurd (cc)
  brace_goes from p q x os rest (f ∷ fs) (capture y) place arms parts last sound openers = record {
    nest = record { below = fs; top = f; last = unit (cap y (whole (at_piece (f ∷ fs) (capture y) place arms parts last))) };
    step_is = refl;
    sound = sound.1;
    openers = cc;
    mark = refl;
  }

  -- where the relation says that reading comes, it comes
  pub reached : (text : List ℕ) (from : ℕ) {p : ℕ} {os : List Opening} {m : Mark} → Reads (alphabet_of lang) text from p os m → Reaches text from p os m
  reached text from (slash_read plain) = reaches_first text from (from + 1) (plain_start text from plain)
  reached text from (tie_read (rest, stands)) = reaches_first text from (from + 1 + 1) (tied_start text from (ap (begins_with 94) stands))
  reached text from (unit_read {p = p} {os = os} {m = m} {u = u} {after = after} {f = f} before stands is) =
      let h = reached text from before in
      reaches_on text from p (length u) os os m after_unit (u ++ after) h stands
      (record { nest = with_unit f h.nest; step_is = plain_step lang speaks is p h.nest; sound = h.sound; openers = h.openers; mark = refl })
  reached text from (repeat_read {p = p} {os = os} {u = u} before is (rest, stands)) =
      let h = reached text from before in
      reaches_on text from p (length u) os os after_unit after_repeat (u ++ rest) h stands
      (rw h.openers at (repeat_goes is from p rest h.nest.below h.nest.top.opener h.nest.top.place h.nest.top.arms h.nest.top.parts h.nest.last h.sound h.mark))
  reached text from (bar_read {p = p} {os = os} {m = m} before (rest, stands)) =
      let h = reached text from before in
      reaches_on text from p 1 os os m at_start (124 ∷ rest) h stands
      (record { nest = next_arm h.nest; step_is = refl; sound = h.sound; openers = h.openers; mark = refl })
  reached text from (open_read {p = p} {os = os} {m = m} before room (rest, stands)) =
      let h = reached text from before in
      let fits : length h.nest.below < 100 = omega (arith, count_openings h.nest.below h.nest.top.opener h.nest.top.place, ap length h.openers) in
      reaches_on text from p 1 os ((group, p) ∷ os) m at_start (40 ∷ rest) h stands
      (record { nest = opened group p h.nest; step_is = open_step lang speaks p rest h.nest fits; sound = (tt, h.sound); openers = ap (λ x. (group, p) ∷ x) h.openers; mark = refl })
  reached text from (head_read {p = p} {os = os} {m = m} {x = x} before room variable (rest, stands)) =
      let h = reached text from before in
      let fits : length h.nest.below < 100 = omega (arith, count_openings h.nest.below h.nest.top.opener h.nest.top.place, ap length h.openers) in
      reaches_on text from p (length (head_text x)) os ((capture x, p) ∷ os) m at_start (head_text x ++ rest) h stands
      (record {
        nest = opened (capture x) p h.nest;
        step_is = head_step lang speaks p x rest h.nest variable fits;
        sound = (tt, h.sound);
        openers = ap (λ y. (capture x, p) ∷ y) h.openers;
        mark = refl;
      })
  reached text from (close_read {p = p} {q = q} {os = os} {m = m} before (rest, stands)) =
      let h = reached text from before in
      reaches_on text from p 1 ((group, q) ∷ os) os m after_unit (41 ∷ rest) h stands
      (close_goes from p q os rest h.nest.below h.nest.top.opener h.nest.top.place h.nest.top.arms h.nest.top.parts h.nest.last h.sound h.openers)
  reached text from (brace_read {p = p} {q = q} {x = x} {os = os} {m = m} before (rest, stands)) =
      let h = reached text from before in
      reaches_on text from p 1 ((capture x, q) ∷ os) os m after_unit (125 ∷ rest) h stands
      (brace_goes from p q x os rest h.nest.below h.nest.top.opener h.nest.top.place h.nest.top.arms h.nest.top.parts h.nest.last h.sound h.openers)

  -- a fault that the step meets is the answer
  stops_here : (text : List ℕ) (from p : ℕ) (os : List Opening) (m : Mark) (here : List ℕ) (e : FormulaFault) (h : Reaches text from p os m) →
      drop p text ≡ here → step lang p here h.nest ≡ stops (Err e) → Reading lang text from (Err e)
  stops_here text from p os m here e h stands is = h.goes_on (Err e) (0, rw stands is)

  brace_at_start : (p : ℕ) (found : Option Bounds) (below : List Frame) (top : Frame) →
      braces p found (record { below = below; top = top; last = start }) ≡ stops (Err (Unexpected p))
  brace_at_start p None below top = refl
  brace_at_start p (Some b) below top = refl

  brace_again : (p : ℕ) (found : Option Bounds) (below : List Frame) (top : Frame) (f : Tree) →
      braces p found (record { below = below; top = top; last = repeated f }) ≡ stops (Err (DoubleRepeat p))
  brace_again p None below top f = refl
  brace_again p (Some b) below top f = refl

  sign_at_start : {c : ℕ} → IsSign c → (p : ℕ) (s : List ℕ) (below : List Frame) (top : Frame) (last : Last) → mark_of last ≡ at_start →
      step lang p (c ∷ s) (record { below = below; top = top; last = last }) ≡ stops (Err (Unexpected p))
  sign_at_start star_sign p s below top start mark = refl
  sign_at_start plus_sign p s below top start mark = refl
  sign_at_start maybe_sign p s below top start mark = refl
  sign_at_start brace_sign p s below top start mark = brace_at_start p (bounds_at s) below top
  sign_at_start sign p s below top (unit f) mark = absurd (cc)
  sign_at_start sign p s below top (repeated f) mark = absurd (cc)

  sign_again : {c : ℕ} → IsSign c → (p : ℕ) (s : List ℕ) (below : List Frame) (top : Frame) (last : Last) → mark_of last ≡ after_repeat →
      step lang p (c ∷ s) (record { below = below; top = top; last = last }) ≡ stops (Err (DoubleRepeat p))
  sign_again sign p s below top start mark = absurd (cc)
  sign_again sign p s below top (unit f) mark = absurd (cc)
  sign_again star_sign p s below top (repeated f) mark = refl
  sign_again plus_sign p s below top (repeated f) mark = refl
  sign_again maybe_sign p s below top (repeated f) mark = refl
  sign_again brace_sign p s below top (repeated f) mark = brace_again p (bounds_at s) below top f

  -- only the slash is open
  alone : (from : ℕ) (below : List Frame) (opener : Opener) (place : ℕ) → IsSound from below opener place → openings below opener place ≡ [] →
      opener ≡ slash
  alone from [] opener place sound openers = sound.0
  alone from (f ∷ fs) opener place sound openers = absurd (cc)

  -- the innermost opener
  inner : (from q : ℕ) (o : Opener) (os : List Opening) (below : List Frame) (opener : Opener) (place : ℕ) →
      IsSound from below opener place → openings below opener place ≡ (o, q) ∷ os → IsInner opener × (opener ≡ o) × (place ≡ q)
  inner from q o os [] opener place sound openers = absurd (cc)
  inner from q o os (f ∷ fs) opener place sound openers =
      let pair : ◌≡◌ {A = Opening} (opener, place) (o, q) = cc in
      (sound.0, ap (λ (x : Opening). x.0) pair, ap (λ (x : Opening). x.1) pair)

  abbrev with_opener : Opener → Nest → Nest
  with_opener o n = record n { top = record (n.top) { opener = o } }

  slash_stops : (p : ℕ) (below : List Frame) (t : List ℕ) (opener : Opener) (place : ℕ) (arms parts : List Tree) (last : Last) → IsInner opener →
      (step lang p (47 ∷ t) (at_piece below opener place arms parts last) ≡ stops (Err (Unclosed place)))
      × (step lang p (36 ∷ t) (at_piece below opener place arms parts last) ≡ stops (Err (Anchor p)))
  slash_stops p below t slash place arms parts last is = absurd is
  slash_stops p below t group place arms parts last is = (refl, refl)
  slash_stops p below t (capture x) place arms parts last is = (refl, refl)

  deep_opens : (inner : Opener) (p len : ℕ) (n : Nest) → length n.below ≡ 100 → opens inner p len n ≡ stops (Err (TooDeep p))
  deep_opens inner p len n deep = grind (arith, nat_tests)

  -- at a `{` that begins no repeat
  brace_after_unit : (p : ℕ) (below : List Frame) (top : Frame) (last : Last) → mark_of last ≡ after_unit →
      braces p None (record { below = below; top = top; last = last }) ≡ stops (Err (BadRepeat p))
  brace_after_unit p below top start mark = absurd (cc)
  brace_after_unit p below top (unit f) mark = refl
  brace_after_unit p below top (repeated f) mark = absurd (cc)

  brace_stops : (text : List ℕ) (from p : ℕ) (os : List Opening) (rest : List ℕ) (h : Reaches text from p os after_unit) → drop p text ≡ 123 ∷ rest →
      ((u : List ℕ) (least : ℕ) (most : Option ℕ) → IsRepeat u least most → StandsAt text p u → ⊥) → (found : Option Bounds) → bounds_at rest ≡ found →
      Reading lang text from (Err (BadRepeat p))
  brace_stops text from p os rest h stands never None is =
      stops_here text from p os after_unit (123 ∷ rest) (BadRepeat p) h stands
      (ap (λ x. braces p x h.nest) is ∙ brace_after_unit p h.nest.below h.nest.top h.nest.last h.mark)
  brace_stops text from p os rest h stands never (Some b) is =
      let g = bounds_is rest b is in
      absurd (never (123 ∷ g.text) b.least b.most g.is (g.rest, stands ∙ ap (λ y. 123 ∷ y) g.splits))

  long_bangs : (p : ℕ) (x : List ℕ) (n : Nest) → 32 < length x → bangs p (Some x) n ≡ stops (Err (NameTooLong p))
  long_bangs p x n long =
      ap (λ b. if b then (if bytes_eq x none_word then stops (Err (ReservedName p)) else opens (capture x) p (length x + 2) n) else stops (Err (NameTooLong p)))
      (long_no_name x long)

  -- A fault is the answer of reading.
  pub fault_ends : (text : List ℕ) (from : ℕ) {e : FormulaFault} → HasFaultOver (alphabet_of lang) text from e → Reading lang text from (Err e)
  fault_ends text from (nothing_to_repeat {p = p} {c = c} {os = os} reads sign (rest, stands)) =
      let h = reached text from reads in
      stops_here text from p os at_start (c ∷ rest) (Unexpected p) h stands (sign_at_start sign p rest h.nest.below h.nest.top h.nest.last h.mark)
  fault_ends text from (repeat_twice {p = p} {c = c} {os = os} reads sign (rest, stands)) =
      let h = reached text from reads in
      stops_here text from p os after_repeat (c ∷ rest) (DoubleRepeat p) h stands (sign_again sign p rest h.nest.below h.nest.top h.nest.last h.mark)
  fault_ends text from (nothing_to_close {p = p} {m = m} reads (rest, stands)) =
      let h = reached text from reads in
      let n = h.nest in
      let only = alone from n.below n.top.opener n.top.place h.sound h.openers in
      stops_here text from p [] m (41 ∷ rest) (Unexpected p) h stands
      (subst (λ o. step lang p (41 ∷ rest) (with_opener o n) ≡ stops (Err (Unexpected p))) (sym only) refl)
  fault_ends text from (no_capture_to_close {p = p} {m = m} reads (rest, stands)) =
      let h = reached text from reads in
      let n = h.nest in
      let only = alone from n.below n.top.opener n.top.place h.sound h.openers in
      stops_here text from p [] m (125 ∷ rest) (Unexpected p) h stands
      (subst (λ o. step lang p (125 ∷ rest) (with_opener o n) ≡ stops (Err (Unexpected p))) (sym only) refl)
  fault_ends text from (no_class_to_close {p = p} {os = os} {m = m} reads (rest, stands)) =
      stops_here text from p os m (93 ∷ rest) (Unexpected p) (reached text from reads) stands refl
  fault_ends text from (capture_for_group {p = p} {q = q} {x = x} {os = os} {m = m} reads (rest, stands)) =
      let h = reached text from reads in
      let n = h.nest in
      let i = inner from q (capture x) os n.below n.top.opener n.top.place h.sound h.openers in
      stops_here text from p ((capture x, q) ∷ os) m (41 ∷ rest) (Unclosed q) h stands
      (subst (λ o. step lang p (41 ∷ rest) (with_opener o n) ≡ stops (Err (Unclosed q))) (sym i.1) (ap (λ y. stops (Err (Unclosed y))) i.2))
  fault_ends text from (group_for_capture {p = p} {q = q} {os = os} {m = m} reads (rest, stands)) =
      let h = reached text from reads in
      let n = h.nest in
      let i = inner from q group os n.below n.top.opener n.top.place h.sound h.openers in
      stops_here text from p ((group, q) ∷ os) m (125 ∷ rest) (Unclosed q) h stands
      (subst (λ o. step lang p (125 ∷ rest) (with_opener o n) ≡ stops (Err (Unclosed q))) (sym i.1) (ap (λ y. stops (Err (Unclosed y))) i.2))
  fault_ends text from (slash_inside {p = p} {q = q} {o = o} {os = os} {m = m} reads (rest, stands)) =
      let h = reached text from reads in
      let n = h.nest in
      let i = inner from q o os n.below n.top.opener n.top.place h.sound h.openers in
      stops_here text from p ((o, q) ∷ os) m (47 ∷ rest) (Unclosed q) h stands
      ((slash_stops p n.below rest n.top.opener n.top.place n.top.arms n.top.parts n.last i.0).0 ∙ ap (λ y. stops (Err (Unclosed y))) i.2)
  fault_ends text from (text_ends {p = p} {os = os} {m = m} reads ended) =
      let h = reached text from reads in
      stops_here text from p os m [] (Unclosed (innermost from os)) h ended
      (ap (λ x. stops (Err (Unclosed x))) (place_is_innermost from os h.nest.below h.nest.top.opener h.nest.top.place h.sound h.openers))
  fault_ends text from (at_escape {p = p} {os = os} {m = m} {e = e} reads fault) =
      let h = reached text from reads in
      let (t, stands, is) = escape_fault_read lang text p fault in
      stops_here text from p os m (92 ∷ t) e h stands (ap (λ z. escapes lang p z h.nest) is)
  fault_ends text from (empty_kind {p = p} {os = os} {m = m} e x reads is (rest, stands) none) =
      let h = reached text from reads in
      stops_here text from p os m (92 ∷ (e ++ rest)) (BadRange p) h stands
      (ap (λ z. escapes lang p z h.nest) (escape_in_read lang e x is rest p)
      ∙ ap (λ b. if b then stops (Err (BadRange p)) else goes (suc (length e)) (with_unit (tree_in lang (elem_set x)) h.nest)) (kind_empty lang x none))
  fault_ends text from (in_class {p = p} {os = os} {m = m} {e = e} reads (rest, stands) fault) =
      let h = reached text from reads in
      stops_here text from p os m (91 ∷ rest) e h stands (ap (λ x. classes lang x h.nest) (class_fault_read lang speaks text p fault rest stands))
  fault_ends text from (no_repeat {p = p} {os = os} reads (rest, stands) never) =
      brace_stops text from p os rest (reached text from reads) stands never (bounds_at rest) refl
  fault_ends text from (tie_late {p = p} {os = os} {m = m} reads (rest, stands)) =
      stops_here text from p os m (94 ∷ rest) (Anchor p) (reached text from reads) stands refl
  fault_ends text from (tie_inside {p = p} {o = o} {os = os} {m = m} reads (rest, stands)) =
      let h = reached text from reads in
      let n = h.nest in
      let i = inner from o.1 o.0 os n.below n.top.opener n.top.place h.sound h.openers in
      stops_here text from p (o ∷ os) m (36 ∷ rest) (Anchor p) h stands
      (slash_stops p n.below rest n.top.opener n.top.place n.top.arms n.top.parts n.last i.0).1
  fault_ends text from (tie_early {p = p} {m = m} {after = after} reads stands early) =
      let h = reached text from reads in
      let n = h.nest in
      let only = alone from n.below n.top.opener n.top.place h.sound h.openers in
      stops_here text from p [] m (36 ∷ after) (Anchor p) h stands
      (subst (λ o. step lang p (36 ∷ after) (with_opener o n) ≡ stops (Err (Anchor p))) (sym only)
      (ap (λ b. if b then stops (Ok (whole n, true)) else stops (Err (Anchor p))) early))
  fault_ends text from (name_too_long {p = p} {os = os} {m = m} {after = after} reads stands x head long) =
      let h = reached text from reads in
      stops_here text from p os m (33 ∷ after) (NameTooLong p) h stands
      (ap (λ y. bangs p y h.nest) (heads.head_read after x head) ∙ long_bangs p x h.nest long)
  fault_ends text from (reserved_name {p = p} {os = os} {m = m} reads (rest, stands)) =
      let h = reached text from reads in
      stops_here text from p os m (head_text none_word ++ rest) (ReservedName p) h stands (head_bangs lang speaks p none_word rest h.nest refl)
  fault_ends text from (group_too_deep {p = p} {os = os} {m = m} reads deep (rest, stands)) =
      let h = reached text from reads in
      let all : length h.nest.below ≡ 100 = omega (arith, count_openings h.nest.below h.nest.top.opener h.nest.top.place, ap length h.openers) in
      stops_here text from p os m (40 ∷ rest) (TooDeep p) h stands (deep_opens group p 1 h.nest all)
  fault_ends text from (capture_too_deep {p = p} {os = os} {m = m} reads deep x variable (rest, stands)) =
      let h = reached text from reads in
      let all : length h.nest.below ≡ 100 = omega (arith, count_openings h.nest.below h.nest.top.opener h.nest.top.place, ap length h.openers) in
      stops_here text from p os m (head_text x ++ rest) (TooDeep p) h stands
      (head_bangs lang speaks p x rest h.nest (name_word x variable.0).0 ∙ variable_opens p x h.nest variable ∙ deep_opens (capture x) p (length x + 2) h.nest all)
