-- Each text has a tree or a fault.
use Rattle.std.proofs.Common.{◌≡◌, ℕ, zero, suc, ◌+◌, ◌<◌, ◌≤◌, ◌⊎◌, inl, inr, Bool, true, false, List, [], ◌∷◌, length, drop, length-drop, Option, Some, None, Result, Ok, Err, ap, subst, sym, refl, arith, length-append, nat_lt, if◌then◌else◌}
use Rattle.std.specs.Str.{bytes_eq}
use Rattle.span_core.specs.Names.{is_name}
use Rattle.spanner_model.specs.Tree.{Tree}
use Rattle.spanner_model.specs.WellBuilt.{none_word}
use Rattle.spanner_model.specs.Expression.{AtomTree}
use Rattle.formula_parser.specs.declared.fault.FormulaFault.{FormulaFault}
use Rattle.formula_parser.specs.Runs.{begins_with}
use Rattle.formula_parser.specs.Faults.{Opener, slash, group, capture, HasFaultOver}
use Rattle.formula_parser.specs.Nest.{Frame, Last, start, unit, repeated, Nest, outermost}
use Rattle.formula_parser.specs.Sets.{Bytes}
use Rattle.formula_parser.specs.Tokens.{head_at, Bounds, bounds_at, tails}
use Rattle.formula_parser.specs.ClassStep.{class_at}
use Rattle.formula_parser.specs.Spells.{is_tail, IsAtomOver}
use Rattle.formula_parser.specs.Step.{Next, goes, stops, step, repeats, braces, escapes, classes, bangs, ties, end_len, atom_read, is_tied, start_at, Reading, Ends}
use Rattle.formula_parser.proofs.Bytes.{Byte, is_slash, is_open, is_close, is_bracket, is_bracket_close, is_brace, is_brace_close, is_bar, is_star, is_plus, is_maybe, is_dot, is_caret, is_dollar, is_bang, is_backslash, is_literal, is_wide, byte_of}
use Rattle.formula_parser.proofs.RunLaws.{run_of}
use Rattle.formula_parser.proofs.ElemTokens.{escape_in_is}
use Rattle.formula_parser.proofs.HeadLaws.{head_is}
use Rattle.formula_parser.proofs.RepeatLaws.{bounds_is}
use Rattle.formula_parser.proofs.ClassLaws.{class_is}
use Rattle.formula_parser.proofs.StepLaws.{Answer, ends_more}
use Rattle.formula_parser.proofs.ReadsSpelled.{at_piece, literal_step, wide_step}
use Rattle.formula_parser.proofs.FaultsMet.{ends_fault}
use Rattle.formula_parser.proofs.GrammarLaws.{ends_atom}
use Rattle.formula_parser.specs.Dialect.{Dialect, alphabet_of, Speaks, ElemToken, escape_in, is_empty_kind}

-- a step takes a byte or more, and no more than there are
abbrev pub IsWithin : ℕ → Next → Type 0
IsWithin len (goes n m) = (0 < n) × (n ≤ len)
IsWithin len (stops r) = Unit {0}

if_both : (b : Bool) (x y : Next) (P : Next → Type 0) → P x → P y → P (if b then x else y)
if_both true x y P first second = first
if_both false x y P first second = second

module _ (lang : Dialect) (speaks : Speaks lang) where
  escape_within : (at : ℕ) (s : List ℕ) (n : Nest) (found : ElemToken) → escape_in lang at s ≡ found → IsWithin (suc (length s)) (escapes lang at found n)
  escape_within at s n (Err f) e = tt
  escape_within at s n (Ok x) e =
      let g = escape_in_is lang s at x e in
      if_both (is_empty_kind lang x.0) _ _ (IsWithin (suc (length s))) tt
      (omega (arith, g.takes), omega (arith, g.takes, ap length g.splits, length-append g.text g.rest))

  class_within : (at : ℕ) (s : List ℕ) (n : Nest) (found : Result (Bytes × ℕ) FormulaFault) → class_at lang at s ≡ found → IsWithin (suc (length s)) (classes lang found n)
  class_within at s n (Err f) e = tt
  class_within at s n (Ok x) e =
      let g = class_is lang speaks at s x e in
      (omega (arith, g.takes), omega (arith, g.takes, ap length g.splits, length-append g.text g.rest))

  repeat_within : (at len least : ℕ) (most : Option ℕ) (s : List ℕ) (below : List Frame) (top : Frame) (last : Last) → 0 < len → len ≤ suc (length s) →
      IsWithin (suc (length s)) (repeats at len least most (record { below = below; top = top; last = last }))
  repeat_within at len least most s below top start some few = tt
  repeat_within at len least most s below top (unit f) some few = (some, few)
  repeat_within at len least most s below top (repeated f) some few = tt

  brace_within : (at : ℕ) (s : List ℕ) (below : List Frame) (top : Frame) (last : Last) (found : Option Bounds) → bounds_at s ≡ found →
      IsWithin (suc (length s)) (braces at found (record { below = below; top = top; last = last }))
  brace_within at s below top start None e = tt
  brace_within at s below top (unit f) None e = tt
  brace_within at s below top (repeated f) None e = tt
  brace_within at s below top last (Some b) e =
      let g = bounds_is s b e in
      repeat_within at b.len b.least b.most s below top last (omega (arith, g.takes)) (omega (arith, g.takes, ap length g.splits, length-append g.text g.rest))

  bang_within : (at : ℕ) (s : List ℕ) (n : Nest) (found : Option (List ℕ)) → head_at s ≡ found → IsWithin (suc (length s)) (bangs at found n)
  bang_within at s n None e = (omega arith, omega arith)
  bang_within at s n (Some x) e =
      let h = head_is s x e in
      if_both (is_name x) _ _ (IsWithin (suc (length s)))
      (if_both (bytes_eq x none_word) _ _ (IsWithin (suc (length s))) tt
      (if_both (nat_lt (length n.below) 100) _ _ (IsWithin (suc (length s)))
      (omega arith, omega (arith, ap length h.1, length-append x (123 ∷ h.0))) tt))
      tt

  tie_within : (at : ℕ) (s : List ℕ) (below : List Frame) (opener : Opener) (place : ℕ) (arms parts : List Tree) (last : Last) →
      IsWithin (suc (length s)) (ties at s (at_piece below opener place arms parts last))
  tie_within at s below slash place arms parts last = if_both (begins_with 47 s) _ _ (IsWithin (suc (length s))) tt tt
  tie_within at s below group place arms parts last = tt
  tie_within at s below (capture x) place arms parts last = tt

  pub within : {c : ℕ} → Byte c → (at : ℕ) (s : List ℕ) (below : List Frame) (opener : Opener) (place : ℕ) (arms parts : List Tree) (last : Last) →
      IsWithin (suc (length s)) (step lang at (c ∷ s) (at_piece below opener place arms parts last))
  within is_slash at s below slash place arms parts last = tt
  within is_slash at s below group place arms parts last = tt
  within is_slash at s below (capture x) place arms parts last = tt
  within is_open at s below opener place arms parts last =
      if_both (nat_lt (length below) 100) _ _ (IsWithin (suc (length s))) (omega arith, omega arith) tt
  within is_close at s below slash place arms parts last = tt
  within is_close at s [] group place arms parts last = tt
  within is_close at s (f ∷ below) group place arms parts last = (omega arith, omega arith)
  within is_close at s below (capture x) place arms parts last = tt
  within is_bracket at s below opener place arms parts last = class_within at s (at_piece below opener place arms parts last) (class_at lang at s) refl
  within is_bracket_close at s below opener place arms parts last = tt
  within is_brace at s below opener place arms parts last =
      brace_within at s below (record { opener = opener; place = place; arms = arms; parts = parts }) last (bounds_at s) refl
  within is_brace_close at s below slash place arms parts last = tt
  within is_brace_close at s below group place arms parts last = tt
  within is_brace_close at s [] (capture x) place arms parts last = tt
  within is_brace_close at s (f ∷ below) (capture x) place arms parts last = (omega arith, omega arith)
  within is_bar at s below opener place arms parts last = (omega arith, omega arith)
  within is_star at s below opener place arms parts last =
      repeat_within at 1 0 None s below (record { opener = opener; place = place; arms = arms; parts = parts }) last (omega arith) (omega arith)
  within is_plus at s below opener place arms parts last =
      repeat_within at 1 1 None s below (record { opener = opener; place = place; arms = arms; parts = parts }) last (omega arith) (omega arith)
  within is_maybe at s below opener place arms parts last =
      repeat_within at 1 0 (Some 1) s below (record { opener = opener; place = place; arms = arms; parts = parts }) last (omega arith) (omega arith)
  within is_dot at s below opener place arms parts last = (omega arith, omega arith)
  within is_caret at s below opener place arms parts last = tt
  within is_dollar at s below opener place arms parts last = tie_within at s below opener place arms parts last
  within is_bang at s below opener place arms parts last = bang_within at s (at_piece below opener place arms parts last) (head_at s) refl
  within is_backslash at s below opener place arms parts last = escape_within at s (at_piece below opener place arms parts last) (escape_in lang at s) refl
  within (is_literal {b = b} ordinary) at s below opener place arms parts last =
      subst (IsWithin (suc (length s))) (sym (literal_step lang speaks at b s (at_piece below opener place arms parts last) ordinary)) (omega arith, omega arith)
  within (is_wide {b = b} big) at s below opener place arms parts last =
      let r = run_of is_tail s in
      subst (IsWithin (suc (length s))) (sym (wide_step lang speaks at b s (at_piece below opener place arms parts last) big.1))
      (omega arith, omega (arith, ap length r.splits, length-append (tails s) r.rest))

  pub within_here : (at : ℕ) (rest : List ℕ) (n : Nest) → IsWithin (length rest) (step lang at rest n)
  within_here at [] n = tt
  within_here at (c ∷ s) n = within (byte_of c) at s n.below n.top.opener n.top.place n.top.arms n.top.parts n.last

  some_end : (fuel at : ℕ) (rest : List ℕ) (n : Nest) → length rest < fuel → (r : Answer) × Ends lang at rest n r
  some_end zero at rest n h = absurd (omega arith)
  some_end (suc fuel) at rest n h = by (step lang at rest n) refl (within_here at rest n) (some_end fuel)
    where
      by : (next : Next) → step lang at rest n ≡ next → IsWithin (length rest) next →
          ((at' : ℕ) (rest' : List ℕ) (n' : Nest) → length rest' < fuel → (r : Answer) × Ends lang at' rest' n' r) → (r : Answer) × Ends lang at rest n r
      by (goes len m) is w again =
          let r = again (at + len) (drop len rest) m (omega (arith, length-drop len rest)) in
          (r.0, ends_more lang speaks at len rest n m r.0 is r.1)
      by (stops (Ok b)) is w again = (Ok (b, at + end_len b.1), (0, (is, refl)))
      by (stops (Err e)) is w again = (Err e, (0, is))

  pub each_text_over : (text : List ℕ) (from : ℕ) →
      ((x : AtomTree × ℕ) × IsAtomOver (alphabet_of lang) text from x) ⊎ ((e : FormulaFault) × HasFaultOver (alphabet_of lang) text from e)
  each_text_over text from =
      by (some_end (suc (length (drop (start_at text from) text))) (start_at text from) (drop (start_at text from) text) (outermost from) (omega arith))
    where
      by : ((r : Answer) × Reading lang text from r) →
          ((x : AtomTree × ℕ) × IsAtomOver (alphabet_of lang) text from x) ⊎ ((e : FormulaFault) × HasFaultOver (alphabet_of lang) text from e)
      by (Ok r, ends) = inl ((atom_read (is_tied text from) r.0, r.1), ends_atom lang speaks text from r ends)
      by (Err e, ends) = inr (e, ends_fault lang speaks text from e ends)
