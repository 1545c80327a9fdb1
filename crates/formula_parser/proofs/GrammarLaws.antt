-- The relations of the grammar and of the faults, by what reading answers.
use Rattle.std.proofs.Common.{◌≡◌, ℕ, zero, suc, ◌+◌, Bool, true, false, List, ◌∷◌, ◌++◌, length, drop, drop-drop, Ok, Err, sym, subst, ◌∙◌, ap, arith, refl, append_assoc, length-append}
use Rattle.spanner_model.specs.Tree.{Tree}
use Rattle.spanner_model.specs.Expression.{AtomTree}
use Rattle.formula_parser.specs.Runs.{begins_with}
use Rattle.formula_parser.specs.Nest.{Nest, outermost}
use Rattle.formula_parser.specs.Step.{Body, atom_read, tie_len, end_len, is_tied, start_at, Reading, Ends, EndsAfter}
use Rattle.formula_parser.specs.Spells.{alt_tree, SpellsAlt, given, IsAtomOver}
use Rattle.formula_parser.specs.declared.fault.FormulaFault.{FormulaFault}
use Rattle.formula_parser.specs.Faults.{HasFaultOver}
use Rattle.formula_parser.proofs.HeadLaws.{byte_front}
use Rattle.formula_parser.proofs.StepLaws.{Answer, one_end}
use Rattle.formula_parser.proofs.ReadsSpelled.{reads_spelled}
use Rattle.formula_parser.proofs.SpelledRead.{spelled_read}
use Rattle.formula_parser.proofs.FaultLaws.{plain_start, tied_start, fault_ends}
use Rattle.formula_parser.specs.Dialect.{Dialect, alphabet_of, Speaks}

given_len : (b : Bool) (c : ℕ) → length (given b c) ≡ tie_len b
given_len true c = refl
given_len false c = refl

end_is : (b : Bool) → end_len b ≡ tie_len b + 1
end_is true = refl
end_is false = refl

-- what stands between the slash and the formula
tie_splits : (text : List ℕ) (from : ℕ) (tied : Bool) → is_tied text from ≡ tied → drop (from + 1) text ≡ given tied 94 ++ drop (start_at text from) text
tie_splits text from false e = ap (λ p. drop p text) (plain_start text from e)
tie_splits text from true e =
    let front = byte_front 94 (drop (from + 1) text) e in
    let others : drop (from + 1 + 1) text ≡ front.0 = sym (drop-drop 1 (from + 1) text) ∙ ap (drop 1) front.1 in
    front.1 ∙ ap (λ y. 94 ∷ y) (sym others ∙ ap (λ p. drop p text) (tied_start text from e))

same_rest : (b : Bool) (x y : List ℕ) → given b 94 ++ x ≡ given b 94 ++ y → x ≡ y
same_rest false x y e = e
same_rest true x y e = cc

-- an atom, from what is read
pub same_atom : (x y : AtomTree × ℕ) → x.0.from_start ≡ y.0.from_start → x.0.to_end ≡ y.0.to_end → x.0.formula ≡ y.0.formula → x.1 ≡ y.1 → x ≡ y
same_atom x y a b c d =
    let make : Bool → Bool → Tree → ℕ → AtomTree × ℕ = λ s e f k. (record { from_start = s; to_end = e; formula = f }, k) in
    ap (λ s. make s x.0.to_end x.0.formula x.1) a ∙ ap (λ e. make y.0.from_start e x.0.formula x.1) b
    ∙ ap (λ f. make y.0.from_start y.0.to_end f x.1) c ∙ ap (make y.0.from_start y.0.to_end y.0.formula) d

module _ (lang : Dialect) (speaks : Speaks lang) where
  -- a `^` begins no formula
  caret_ends : (k at : ℕ) (s : List ℕ) (n : Nest) (r : Body × ℕ) → EndsAfter lang k at (94 ∷ s) n (Ok r) → ⊥
  caret_ends zero at s n r ends = let e = ends.0 in absurd (cc)
  caret_ends (suc k) at s n r (len, m, is, ends) = absurd (cc)

  -- whether it is tied, by what follows the slash
  tied_is : (text : List ℕ) (from : ℕ) (s e : Bool) (t : List ℕ) (fs : List Tree) (v : List ℕ) →
      drop (from + 1) text ≡ given s 94 ++ (t ++ (given e 36 ++ 47 ∷ v)) → SpellsAlt (alphabet_of lang) 100 t fs (given e 36 ++ 47 ∷ v) → is_tied text from ≡ s
  tied_is text from true e t fs v stands alt = ap (begins_with 94) stands
  tied_is text from false e t fs v stands alt = by (is_tied text from) refl
    where
      by : (b : Bool) → is_tied text from ≡ b → is_tied text from ≡ false
      by false is = is
      by true is =
          let front = byte_front 94 (drop (from + 1) text) is in
          let ends = reads_spelled lang speaks t fs e v (from + 1) from alt in
          let same : t ++ (given e 36 ++ 47 ∷ v) ≡ 94 ∷ front.0 = sym stands ∙ front.1 in
          absurd (caret_ends ends.0 (from + 1) front.0 (outermost from) ((alt_tree fs, e), from + 1 + length t + end_len e)
          (subst (λ y. EndsAfter lang ends.0 (from + 1) y (outermost from) (Ok ((alt_tree fs, e), from + 1 + length t + end_len e))) same ends.1))

  -- what the slash at `from` begins is read
  pub atom_ends : (text : List ℕ) (from : ℕ) (x : AtomTree × ℕ) → IsAtomOver (alphabet_of lang) text from x →
      (r : Body × ℕ) × Reading lang text from (Ok r) × (x ≡ (atom_read (is_tied text from) r.0, r.1))
  atom_ends text from x (u, v, stands, (t, fs, text_is, alt, tree), after) =
      let s = x.0.from_start in
      let e = x.0.to_end in
      let here : drop (from + 1) text ≡ given s 94 ++ (t ++ (given e 36 ++ 47 ∷ v)) = stands ∙ ap (λ y. y ++ 47 ∷ v) text_is ∙ simp append_assoc in
      let tied = tied_is text from s e t fs v here alt in
      let begin = start_at text from in
      let rest : drop begin text ≡ t ++ (given e 36 ++ 47 ∷ v) = same_rest s _ _ (sym (tie_splits text from s tied) ∙ here) in
      let place = begin + length t + end_len e in
      let ends = reads_spelled lang speaks t fs e v begin from alt in (
        ((alt_tree fs, e), place),
        rw rest ends,
        same_atom x (atom_read (is_tied text from) (alt_tree fs, e), place) (sym tied) refl tree
            (omega (arith, after, ap length text_is, length-append (given s 94) (t ++ given e 36), length-append t (given e 36), given_len s 94, given_len e 36, end_is e, ap tie_len tied)),
      )

  pub ends_atom : (text : List ℕ) (from : ℕ) (r : Body × ℕ) → Reading lang text from (Ok r) → IsAtomOver (alphabet_of lang) text from (atom_read (is_tied text from) r.0, r.1)
  ends_atom text from r ends =
      let s = is_tied text from in
      let begin = start_at text from in
      let (u, v, split, (fs, alt, tree), place) = spelled_read lang speaks begin from (drop begin text) r ends in
      let e = r.0.1 in
      let text_of = given s 94 ++ (u ++ given e 36) in (
        text_of,
        v,
        tie_splits text from s refl ∙ ap (λ y. given s 94 ++ y) split ∙ simp append_assoc,
        (u, fs, refl, alt, tree),
        omega (arith, place, length-append (given s 94) (u ++ given e 36), length-append u (given e 36), given_len s 94, given_len e 36, end_is e),
      )

  -- two answers are one
  pub same_answer : (text : List ℕ) (from : ℕ) (r s : Answer) → Reading lang text from r → Reading lang text from s → r ≡ s
  same_answer text from r s (k, a) (l, b) = one_end lang speaks k l (start_at text from) (drop (start_at text from) text) (outermost from) r s a b

  pub one_tree_over : (text : List ℕ) (from : ℕ) (x y : AtomTree × ℕ) → IsAtomOver (alphabet_of lang) text from x → IsAtomOver (alphabet_of lang) text from y → x ≡ y
  one_tree_over text from x y a b =
      let p = atom_ends text from x a in
      let q = atom_ends text from y b in
      let e = same_answer text from (Ok p.0) (Ok q.0) p.1 q.1 in
      let same : p.0 ≡ q.0 = cc in
      p.2 ∙ ap (λ r. (atom_read (is_tied text from) r.0, r.1)) same ∙ sym q.2

  pub no_tree_with_fault_over : (text : List ℕ) (from : ℕ) (x : AtomTree × ℕ) (e : FormulaFault) → IsAtomOver (alphabet_of lang) text from x →
      HasFaultOver (alphabet_of lang) text from e → ⊥
  no_tree_with_fault_over text from x e a b =
      let p = atom_ends text from x a in
      let d = same_answer text from (Ok p.0) (Err e) p.1 (fault_ends lang speaks text from b) in absurd (cc)

  pub one_fault_over : (text : List ℕ) (from : ℕ) (e f : FormulaFault) → HasFaultOver (alphabet_of lang) text from e → HasFaultOver (alphabet_of lang) text from f → e ≡ f
  one_fault_over text from e f a b =
      let s = same_answer text from (Err e) (Err f) (fault_ends lang speaks text from a) (fault_ends lang speaks text from b) in cc
