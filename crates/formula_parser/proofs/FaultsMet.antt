-- What reading answers is a fault.
use Rattle.std.proofs.Common.{◌≡◌, ℕ, zero, suc, ◌+◌, ◌<◌, ◌≤◌, Bool, true, false, List, [], ◌∷◌, ◌++◌, length, drop, drop-drop, Option, Some, None, Result, Ok, Err, ap, subst, sym, refl, ◌∙◌, arith, nat_lt, append_assoc, if◌then◌else◌}
use Rattle.std.specs.Str.{bytes_eq}
use Rattle.std.proofs.lemmas.Bool.Decides.{nat_tests}
use Rattle.std.proofs.lemmas.Slice.Eq.{bytes_eq-Decides}
use Rattle.span_core.specs.Names.{is_name}
use Rattle.spanner_model.specs.Tree.{Tree, one}
use Rattle.spanner_model.specs.WellBuilt.{none_word}
use Rattle.formula_parser.specs.declared.fault.FormulaFault.{FormulaFault}
use Rattle.formula_parser.specs.declared.fault.FormulaFault.TheVariants.{Unclosed, TooDeep}
use Rattle.formula_parser.specs.Runs.{begins_with, StandsAt}
use Rattle.formula_parser.specs.Nest.{Frame, Last, start, unit, repeated, Nest, with_unit, opened, outermost}
use Rattle.formula_parser.specs.Step.{Next, goes, stops, step, braces, repeats, opens, escapes, classes, bangs, ties, is_tied, start_at, Reading, EndsAfter}
use Rattle.formula_parser.specs.Sets.{Bytes, single}
use Rattle.formula_parser.specs.Alphabet.{dot_set}
use Rattle.formula_parser.specs.Escapes.{elem_set}
use Rattle.formula_parser.specs.Names.{head_text}
use Rattle.formula_parser.specs.Repeats.{IsRepeat, star, plus, maybe, exactly, at_least, between, IsSign, star_sign, plus_sign, maybe_sign, brace_sign}
use Rattle.formula_parser.specs.Tokens.{head_at, Bounds, bounds_at, tails}
use Rattle.formula_parser.specs.ClassStep.{class_at}
use Rattle.formula_parser.specs.Spells.{is_tail, bytes_tree, IsPlain, literal, wide, bang, dot, escape, class}
use Rattle.formula_parser.specs.Faults.{Mark, at_start, after_unit, after_repeat, Opener, slash, group, capture, Opening, Reads, slash_read, tie_read, unit_read, repeat_read, bar_read, open_read, head_read, close_read, brace_read, HasFaultOver, nothing_to_repeat, nothing_to_close, no_capture_to_close, no_class_to_close, capture_for_group, group_for_capture, slash_inside, text_ends, at_escape, empty_kind, in_class, no_repeat, repeat_twice, tie_late, tie_inside, tie_early, name_too_long, reserved_name, group_too_deep, capture_too_deep}
use Rattle.formula_parser.proofs.Bytes.{Byte, is_slash, is_open, is_close, is_bracket, is_bracket_close, is_brace, is_brace_close, is_bar, is_star, is_plus, is_maybe, is_dot, is_caret, is_dollar, is_bang, is_backslash, is_literal, is_wide, byte_of}
use Rattle.formula_parser.proofs.RunLaws.{run_of}
use Rattle.formula_parser.proofs.ElemTokens.{escape_in_is, escape_fault_is}
use Rattle.formula_parser.proofs.SetTrees.{set_tree_is, full_of, kind_is_full, kind_is_empty, class_in, escape_set_in, dot_in, dot_full}
use Rattle.formula_parser.proofs.HeadLaws as heads
use Rattle.formula_parser.proofs.HeadLaws.{byte_front}
use Rattle.formula_parser.proofs.RepeatLaws.{bounds_is, bounds_exactly, bounds_at_least, bounds_between}
use Rattle.formula_parser.proofs.ClassLaws.{class_is, class_fault_is}
use Rattle.formula_parser.proofs.ReadsSpelled.{at_piece, literal_step, wide_step, head_length, long_word}
use Rattle.formula_parser.proofs.SpelledRead.{variable_of}
use Rattle.formula_parser.proofs.FaultLaws.{mark_of, openings, IsInner, IsSound, count_openings, place_is_innermost, plain_start, tied_start}
use Rattle.formula_parser.specs.Dialect.{Dialect, alphabet_of, tree_in, Speaks, ElemToken, escape_in, is_empty_kind}

module _ (lang : Dialect) (speaks : Speaks lang) where
  -- what a step makes of a place that is read
  abbrev pub Meets : List ℕ → ℕ → ℕ → Next → Type 0
  Meets text from p (goes len n) =
      IsSound from n.below n.top.opener n.top.place × Reads (alphabet_of lang) text from (p + len) (openings n.below n.top.opener n.top.place) (mark_of n.last)
  Meets text from p (stops (Ok f)) = Unit {0}
  Meets text from p (stops (Err e)) = HasFaultOver (alphabet_of lang) text from e

  if_meets : (b : Bool) (x y : Next) (P : Next → Type 0) → (b ≡ true → P x) → (b ≡ false → P y) → P (if b then x else y)
  if_meets true x y P first second = first refl
  if_meets false x y P first second = second refl

  -- a unit without parts
  unit_meets : (text : List ℕ) (from p : ℕ) (g after : List ℕ) (len : ℕ) (f : Tree) (below : List Frame) (opener : Opener) (place : ℕ) (arms parts : List Tree) (last : Last) →
      drop p text ≡ g ++ after → len ≡ length g → IsPlain (alphabet_of lang) g f after → IsSound from below opener place →
      Reads (alphabet_of lang) text from p (openings below opener place) (mark_of last) →
      Meets text from p (goes len (with_unit f (at_piece below opener place arms parts last)))
  unit_meets text from p g after len f below opener place arms parts last stands takes is sound reads =
      (sound, rw takes (unit_read reads stands is))

  escape_meets : (text : List ℕ) (from p : ℕ) (s : List ℕ) (below : List Frame) (opener : Opener) (place : ℕ) (arms parts : List Tree) (last : Last)
      (found : ElemToken) → escape_in lang p s ≡ found → drop p text ≡ 92 ∷ s → IsSound from below opener place →
      Reads (alphabet_of lang) text from p (openings below opener place) (mark_of last) →
      Meets text from p (escapes lang p found (at_piece below opener place arms parts last))
  escape_meets text from p s below opener place arms parts last (Err f) is stands sound reads = at_escape reads (escape_fault_is lang text p s f stands is)
  escape_meets text from p s below opener place arms parts last (Ok x) is stands sound reads =
      let g = escape_in_is lang s p x is in
      let here : drop p text ≡ 92 ∷ (g.text ++ g.rest) = stands ∙ ap (λ y. 92 ∷ y) g.splits in
      let set = elem_set x.0 in
      if_meets (is_empty_kind lang x.0) _ _ (Meets text from p)
      (λ none. empty_kind g.text x.0 reads g.is (g.rest, here) (kind_is_empty lang x.0 none))
      (λ some.
      let full = kind_is_full lang x.0 some in
      unit_meets text from p (92 ∷ g.text) g.rest x.1 (tree_in lang set) below opener place arms parts last
      here g.takes (escape x.0 g.is full.0 (set_tree_is lang speaks set full.1 (escape_set_in (alphabet_of lang) g.text x.0 g.is))) sound reads)

  class_meets : (text : List ℕ) (from p : ℕ) (s : List ℕ) (below : List Frame) (opener : Opener) (place : ℕ) (arms parts : List Tree) (last : Last)
      (found : Result (Bytes × ℕ) FormulaFault) → class_at lang p s ≡ found → drop p text ≡ 91 ∷ s → IsSound from below opener place →
      Reads (alphabet_of lang) text from p (openings below opener place) (mark_of last) →
      Meets text from p (classes lang found (at_piece below opener place arms parts last))
  class_meets text from p s below opener place arms parts last (Err e) is stands sound reads =
      in_class reads (s, stands) (class_fault_is lang speaks text p e s stands is)
  class_meets text from p s below opener place arms parts last (Ok x) is stands sound reads =
      let g = class_is lang speaks p s x is in
      unit_meets text from p (91 ∷ g.text) g.rest x.1 (tree_in lang x.0) below opener place arms parts last
      (stands ∙ ap (λ y. 91 ∷ y) g.splits) g.takes
      (class g.is (set_tree_is lang speaks x.0 (full_of (alphabet_of lang) x.0 g.is.1) (class_in g.is.0))) sound reads

  -- a repeat
  repeat_meets : (text : List ℕ) (from p c : ℕ) (u after : List ℕ) (len least : ℕ) (most : Option ℕ) (below : List Frame) (opener : Opener) (place : ℕ) (arms parts : List Tree) (last : Last) →
      IsSign c → StandsAt text p (c ∷ []) → drop p text ≡ u ++ after → len ≡ length u → IsRepeat u least most → IsSound from below opener place →
      Reads (alphabet_of lang) text from p (openings below opener place) (mark_of last) →
      Meets text from p (repeats p len least most (at_piece below opener place arms parts last))
  repeat_meets text from p c u after len least most below opener place arms parts start sign here stands takes is sound reads = nothing_to_repeat reads sign here
  repeat_meets text from p c u after len least most below opener place arms parts (unit f) sign here stands takes is sound reads =
      (sound, rw takes (repeat_read reads is (after, stands)))
  repeat_meets text from p c u after len least most below opener place arms parts (repeated f) sign here stands takes is sound reads = repeat_twice reads sign here

  same_tail : (b : ℕ) (x y : List ℕ) → b ∷ x ≡ b ∷ y → x ≡ y
  same_tail b x y e = cc

  other_head : (b c : ℕ) (x y : List ℕ) → b ∷ x ≡ c ∷ y → b ≡ c
  other_head b c x y e = cc

  some_none : (x : Option Bounds) (b : Bounds) → x ≡ None → x ≡ Some b → ⊥
  some_none x b none some = absurd (cc)

  found_or_none : (t s : List ℕ) (b : Bounds) → 123 ∷ t ≡ 123 ∷ s → bounds_at t ≡ Some b → bounds_at s ≡ None → ⊥
  found_or_none t s b e found none = some_none (bounds_at s) b none (ap bounds_at (sym (same_tail 123 t s e)) ∙ found)

  -- a repeat in braces is found
  braces_found : {u : List ℕ} {least : ℕ} {most : Option ℕ} → IsRepeat u least most → (rest s : List ℕ) → u ++ rest ≡ 123 ∷ s → bounds_at s ≡ None → ⊥
  braces_found star rest s e none = let same = other_head 42 123 rest s e in absurd (omega arith)
  braces_found plus rest s e none = let same = other_head 43 123 rest s e in absurd (omega arith)
  braces_found maybe rest s e none = let same = other_head 63 123 rest s e in absurd (omega arith)
  braces_found (exactly {t = t} {m = m} is) rest s e none =
      found_or_none ((t ++ 125 ∷ []) ++ rest) s (record { least = m; most = Some m; len = length t + 2 }) e (bounds_exactly t rest m is) none
  braces_found (at_least {t = t} {m = m} is) rest s e none =
      found_or_none ((t ++ 44 ∷ 125 ∷ []) ++ rest) s (record { least = m; most = None; len = length t + 3 }) e (bounds_at_least t rest m is) none
  braces_found (between {t = t} {u = u} {m = m} {k = k} is are le) rest s e none =
      found_or_none ((t ++ 44 ∷ (u ++ 125 ∷ [])) ++ rest) s (record { least = m; most = Some k; len = length t + length u + 3 }) e
      (bounds_between t u rest m k is are le) none

  brace_meets : (text : List ℕ) (from p : ℕ) (s : List ℕ) (below : List Frame) (opener : Opener) (place : ℕ) (arms parts : List Tree) (last : Last)
      (found : Option Bounds) → bounds_at s ≡ found → drop p text ≡ 123 ∷ s → IsSound from below opener place →
      Reads (alphabet_of lang) text from p (openings below opener place) (mark_of last) →
      Meets text from p (braces p found (at_piece below opener place arms parts last))
  brace_meets text from p s below opener place arms parts start None is stands sound reads = nothing_to_repeat reads brace_sign (s, stands)
  brace_meets text from p s below opener place arms parts (unit f) None is stands sound reads =
      no_repeat reads (s, stands) (λ u least most an (rest, other). braces_found an rest s (sym other ∙ stands) is)
  brace_meets text from p s below opener place arms parts (repeated f) None is stands sound reads = repeat_twice reads brace_sign (s, stands)
  brace_meets text from p s below opener place arms parts last (Some b) is stands sound reads =
      let g = bounds_is s b is in
      repeat_meets text from p 123 (123 ∷ g.text) g.rest b.len b.least b.most below opener place arms parts last brace_sign (s, stands)
      (stands ∙ ap (λ y. 123 ∷ y) g.splits) g.takes g.is sound reads

  -- an opener
  opens_meets : (text : List ℕ) (from p len : ℕ) (inner : Opener) (below : List Frame) (opener : Opener) (place : ℕ) (arms parts : List Tree) (last : Last) →
      IsInner inner → length below ≤ 100 → IsSound from below opener place →
      (length (openings below opener place) < 100 → Reads (alphabet_of lang) text from (p + len) ((inner, p) ∷ openings below opener place) at_start) →
      (length (openings below opener place) ≡ 100 → HasFaultOver (alphabet_of lang) text from (TooDeep p)) →
      Meets text from p (opens inner p len (at_piece below opener place arms parts last))
  opens_meets text from p len inner below opener place arms parts last is few sound opens deep =
      let n = at_piece below opener place arms parts last in
      let same = count_openings below opener place in
      if_meets (nat_lt (length below) 100) (goes len (opened inner p n)) _ (Meets text from p)
      (λ less. let fits : length below < 100 = grind (arith, nat_tests) in ((is, sound), opens (omega (arith, same))))
      (λ full. let fits : 100 ≤ length below = grind (arith, nat_tests) in deep (omega (arith, same)))

  bang_meets : (text : List ℕ) (from p : ℕ) (s : List ℕ) (below : List Frame) (opener : Opener) (place : ℕ) (arms parts : List Tree) (last : Last)
      (found : Option (List ℕ)) → head_at s ≡ found → drop p text ≡ 33 ∷ s → length below ≤ 100 → IsSound from below opener place →
      Reads (alphabet_of lang) text from p (openings below opener place) (mark_of last) →
      Meets text from p (bangs p found (at_piece below opener place arms parts last))
  bang_meets text from p s below opener place arms parts last None is stands few sound reads =
      unit_meets text from p (33 ∷ []) s 1 (one (single 33)) below opener place arms parts last stands refl
      (bang (λ x h. let same = heads.head_read s x h in absurd (cc))) sound reads
  bang_meets text from p s below opener place arms parts last (Some x) is stands few sound reads =
      let h = heads.head_is s x is in
      let here : drop p text ≡ head_text x ++ h.0 = stands ∙ ap (λ y. 33 ∷ y) (h.1 ∙ sym (append_assoc x (123 ∷ []) h.0)) in
      if_meets (is_name x) _ _ (Meets text from p)
      (λ name. if_meets (bytes_eq x none_word) _ _ (Meets text from p)
      (λ none.
      let same : x ≡ none_word = (bytes_eq-Decides x none_word).0 none in
      reserved_name reads (h.0, here ∙ ap (λ y. head_text y ++ h.0) same))
      (λ other.
      let variable = variable_of x name other in
      opens_meets text from p (length x + 2) (capture x) below opener place arms parts last tt few sound
      (λ room. rw (← head_length x)
      (head_read reads room variable (h.0, here)))
      (λ deep. capture_too_deep reads deep x variable (h.0, here))))
      (λ long. name_too_long reads stands x h (long_word x h.2 long))

  tie_meets : (text : List ℕ) (from p : ℕ) (s : List ℕ) (below : List Frame) (opener : Opener) (place : ℕ) (arms parts : List Tree) (last : Last) →
      drop p text ≡ 36 ∷ s → IsSound from below opener place → Reads (alphabet_of lang) text from p (openings below opener place) (mark_of last) →
      Meets text from p (ties p s (at_piece below opener place arms parts last))
  tie_meets text from p s [] slash place arms parts last stands sound reads =
      if_meets (begins_with 47 s) _ _ (Meets text from p) (λ ends. tt) (λ early. tie_early reads stands early)
  tie_meets text from p s [] group place arms parts last stands sound reads = let e = sound.0 in absurd (cc)
  tie_meets text from p s [] (capture x) place arms parts last stands sound reads = let e = sound.0 in absurd (cc)
  tie_meets text from p s (f ∷ fs) slash place arms parts last stands sound reads = absurd sound.0
  tie_meets text from p s (f ∷ fs) group place arms parts last stands sound reads = tie_inside reads (s, stands)
  tie_meets text from p s (f ∷ fs) (capture x) place arms parts last stands sound reads = tie_inside reads (s, stands)

  -- no more than 100 are open
  pub meets : {c : ℕ} → Byte c → (text : List ℕ) (from p : ℕ) (s : List ℕ) (below : List Frame) (opener : Opener) (place : ℕ)
      (arms parts : List Tree) (last : Last) → drop p text ≡ c ∷ s → length below ≤ 100 → IsSound from below opener place →
      Reads (alphabet_of lang) text from p (openings below opener place) (mark_of last) →
      Meets text from p (step lang p (c ∷ s) (at_piece below opener place arms parts last))
  meets is_slash text from p s [] slash place arms parts last stands few sound reads = tt
  meets is_slash text from p s [] group place arms parts last stands few sound reads = let e = sound.0 in absurd (cc)
  meets is_slash text from p s [] (capture x) place arms parts last stands few sound reads = let e = sound.0 in absurd (cc)
  meets is_slash text from p s (f ∷ fs) slash place arms parts last stands few sound reads = tt
  meets is_slash text from p s (f ∷ fs) group place arms parts last stands few sound reads = slash_inside reads (s, stands)
  meets is_slash text from p s (f ∷ fs) (capture x) place arms parts last stands few sound reads = slash_inside reads (s, stands)
  meets is_open text from p s below opener place arms parts last stands few sound reads =
      opens_meets text from p 1 group below opener place arms parts last tt few sound
      (λ room. open_read reads room (s, stands)) (λ deep. group_too_deep reads deep (s, stands))
  meets is_close text from p s [] slash place arms parts last stands few sound reads = nothing_to_close reads (s, stands)
  meets is_close text from p s [] group place arms parts last stands few sound reads = let e = sound.0 in absurd (cc)
  meets is_close text from p s [] (capture x) place arms parts last stands few sound reads = let e = sound.0 in absurd (cc)
  meets is_close text from p s (f ∷ fs) group place arms parts last stands few sound reads = (sound.1, close_read reads (s, stands))
  meets is_close text from p s (f ∷ fs) slash place arms parts last stands few sound reads = absurd sound.0
  meets is_close text from p s (f ∷ fs) (capture x) place arms parts last stands few sound reads = capture_for_group reads (s, stands)
  meets is_bracket text from p s below opener place arms parts last stands few sound reads =
      class_meets text from p s below opener place arms parts last (class_at lang p s) refl stands sound reads
  meets is_bracket_close text from p s below opener place arms parts last stands few sound reads = no_class_to_close reads (s, stands)
  meets is_brace text from p s below opener place arms parts last stands few sound reads =
      brace_meets text from p s below opener place arms parts last (bounds_at s) refl stands sound reads
  meets is_brace_close text from p s [] slash place arms parts last stands few sound reads = no_capture_to_close reads (s, stands)
  meets is_brace_close text from p s [] group place arms parts last stands few sound reads = let e = sound.0 in absurd (cc)
  meets is_brace_close text from p s [] (capture x) place arms parts last stands few sound reads = let e = sound.0 in absurd (cc)
  meets is_brace_close text from p s (f ∷ fs) group place arms parts last stands few sound reads = group_for_capture reads (s, stands)
  meets is_brace_close text from p s (f ∷ fs) slash place arms parts last stands few sound reads = absurd sound.0
  meets is_brace_close text from p s (f ∷ fs) (capture x) place arms parts last stands few sound reads = (sound.1, brace_read reads (s, stands))
  meets is_bar text from p s below opener place arms parts last stands few sound reads = (sound, bar_read reads (s, stands))
  meets is_star text from p s below opener place arms parts last stands few sound reads =
      repeat_meets text from p 42 (42 ∷ []) s 1 0 None below opener place arms parts last star_sign (s, stands) stands refl star sound reads
  meets is_plus text from p s below opener place arms parts last stands few sound reads =
      repeat_meets text from p 43 (43 ∷ []) s 1 1 None below opener place arms parts last plus_sign (s, stands) stands refl plus sound reads
  meets is_maybe text from p s below opener place arms parts last stands few sound reads =
      repeat_meets text from p 63 (63 ∷ []) s 1 0 (Some 1) below opener place arms parts last maybe_sign (s, stands) stands refl maybe sound reads
  meets is_dot text from p s below opener place arms parts last stands few sound reads =
      unit_meets text from p (46 ∷ []) s 1 (tree_in lang (dot_set (alphabet_of lang))) below opener place arms parts last stands refl
      (dot (set_tree_is lang speaks (dot_set (alphabet_of lang)) (dot_full (alphabet_of lang)) (dot_in (alphabet_of lang)))) sound reads
  meets is_caret text from p s below opener place arms parts last stands few sound reads = tie_late reads (s, stands)
  meets is_dollar text from p s below opener place arms parts last stands few sound reads =
      tie_meets text from p s below opener place arms parts last stands sound reads
  meets is_bang text from p s below opener place arms parts last stands few sound reads =
      bang_meets text from p s below opener place arms parts last (head_at s) refl stands few sound reads
  meets is_backslash text from p s below opener place arms parts last stands few sound reads =
      escape_meets text from p s below opener place arms parts last (escape_in lang p s) refl stands sound reads
  meets (is_literal {b = b} ordinary) text from p s below opener place arms parts last stands few sound reads =
      let n = at_piece below opener place arms parts last in
      subst (Meets text from p) (sym (literal_step lang speaks p b s n ordinary))
      (unit_meets text from p (b ∷ []) s 1 (one (single b)) below opener place arms parts last stands refl (literal ordinary) sound reads)
  meets (is_wide {b = b} big) text from p s below opener place arms parts last stands few sound reads =
      let n = at_piece below opener place arms parts last in
      let r = run_of is_tail s in
      subst (Meets text from p) (sym (wide_step lang speaks p b s n big.1))
      (unit_meets text from p (b ∷ tails s) r.rest (suc (length (tails s))) (bytes_tree (b ∷ tails s)) below opener place arms parts last
      (stands ∙ ap (λ y. b ∷ y) r.splits) refl (wide big.1 r.all r.stops) sound reads)

  reads_few : (text : List ℕ) (from : ℕ) {p : ℕ} {os : List Opening} {m : Mark} → Reads (alphabet_of lang) text from p os m → length os ≤ 100
  reads_few text from (slash_read plain) = omega arith
  reads_few text from (tie_read stands) = omega arith
  reads_few text from (unit_read before stands is) = reads_few text from before
  reads_few text from (repeat_read before is stands) = reads_few text from before
  reads_few text from (bar_read before stands) = reads_few text from before
  reads_few text from (open_read before room stands) = omega arith
  reads_few text from (head_read before room variable stands) = omega arith
  reads_few text from (close_read before stands) = omega (arith, reads_few text from before)
  reads_few text from (brace_read before stands) = omega (arith, reads_few text from before)

  pub meets_here : (text : List ℕ) (from p : ℕ) (rest : List ℕ) (n : Nest) → drop p text ≡ rest → IsSound from n.below n.top.opener n.top.place →
      Reads (alphabet_of lang) text from p (openings n.below n.top.opener n.top.place) (mark_of n.last) → Meets text from p (step lang p rest n)
  meets_here text from p [] n stands sound reads =
      rw (place_is_innermost from _ n.below n.top.opener n.top.place sound refl) (text_ends reads stands)
  meets_here text from p (c ∷ s) n stands sound reads =
      meets (byte_of c) text from p s n.below n.top.opener n.top.place n.top.arms n.top.parts n.last stands
      (omega (arith, count_openings n.below n.top.opener n.top.place, reads_few text from reads)) sound reads

  fault_from : (k : ℕ) (text : List ℕ) (from p : ℕ) (n : Nest) (e : FormulaFault) → IsSound from n.below n.top.opener n.top.place →
      Reads (alphabet_of lang) text from p (openings n.below n.top.opener n.top.place) (mark_of n.last) → EndsAfter lang k p (drop p text) n (Err e) → HasFaultOver (alphabet_of lang) text from e
  fault_from zero text from p n e sound reads ends =
      subst (Meets text from p) ends (meets_here text from p (drop p text) n refl sound reads)
  fault_from (suc k) text from p n e sound reads (len, m, is, ends) =
      let g : Meets text from p (goes len m) = subst (Meets text from p) is (meets_here text from p (drop p text) n refl sound reads) in
      fault_from k text from (p + len) m e g.0 g.1 (rw (← drop-drop len p text) ends)

  -- reading begins at the formula's first byte
  first_read : (text : List ℕ) (from : ℕ) (tied : Bool) → is_tied text from ≡ tied → Reads (alphabet_of lang) text from (start_at text from) [] at_start
  first_read text from false e = rw (← plain_start text from e) (slash_read e)
  first_read text from true e = rw (← tied_start text from e) (tie_read (byte_front 94 (drop (from + 1) text) e))

  -- What reading answers is a fault.
  pub ends_fault : (text : List ℕ) (from : ℕ) (e : FormulaFault) → Reading lang text from (Err e) → HasFaultOver (alphabet_of lang) text from e
  ends_fault text from e (k, ends) =
      fault_from k text from (start_at text from) (outermost from) e (refl, refl) (first_read text from (is_tied text from) refl) ends
