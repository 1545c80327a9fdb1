-- What the automaton of a query accepts.
use Rattle.std.proofs.Common.{◌≡◌, ℕ, zero, suc, ◌<◌, ◌≤◌, ◌⊎◌, Bool, true, false, List, [], ◌∷◌, length, Option, Some, None, inl, inr, refl, sym, arith, ◌∙◌}
use Rattle.std.specs.Prelude.{slice_get, nat_eq, MatchBool, if◌then◌else◌}
use Rattle.std.specs.Option.{IsSomeAnd, ForSome}
use Rattle.std.proofs.lemmas.Bool.{eqb-false, cases_lt}
use Rattle.span_core.specs.NameSets.{Ascending}
use Rattle.spanner_model.specs.Captures.{VarName, Mapping}
use Rattle.spanner_model.specs.Sequential.{HasVar, IsSequential}
use Rattle.spanner_model.specs.WellBuilt.{IsWellBuilt}
use Rattle.spanner_model.specs.Expression.{AtomTree, ExprTree, QueryTree, atom, named, union_end, union, join_end, join, project, minus}
use Rattle.spanner_model.specs.Answer.{VarOf, IsRestriction, FitsSomewhere, Answer, vars_of_lets, answers_of_lets, IsResultVar, IsAnswer}
use Rattle.spanner_model.specs.Sound.{IsSound, IsSoundUnder, IsSoundExpr, AreUnited, AreJoined, sure_of_lets}
use Rattle.spanner_model.proofs.AnswerLaws.{answer_absent}
use Rattle.spanner_model.proofs.Deciding.{Told, told_of, told_lets, told_either}
use Rattle.spanner_model.proofs.Ends.{answer_ends}
use Rattle.spanner_model.proofs.NameLaws.{ascending-distinct}
use Rattle.marked_automaton.specs.Automaton.{Marked}
use Rattle.place_automaton.specs.Atom.{AreBytes}
use Rattle.place_automaton.proofs.RowBlocks.{atom_row_law}
use Rattle.place_automaton.proofs.BuiltRepeats.{ordered_repeats}
use Rattle.place_automaton.proofs.WholeLaws.{whole_law}
use Rattle.marked_automaton.specs.Reduct.{ReducesMarked}
use Rattle.marked_automaton.proofs.ReductWords.{reduct_accepts}
use Rattle.query_automaton.specs.Laws.{AcceptsAnswersOf, QueryWords}
use Rattle.place_automaton.specs.Variables.{with_vars}
use Rattle.query_automaton.specs.QueryAutomaton.{of_atom, of_union, of_join, automaton_of, united, together, of_lets, of_one_let, of_query}
use Rattle.place_automaton.proofs.NameLists.{list_ascends, vars_are}
use Rattle.query_automaton.proofs.Words.{IsFor, for_minus, for_same, for_union, for_projection, Together, for_join}
use Rattle.query_automaton.proofs.Assoc.{together_assoc}

-- ---- atoms

pub for_atom : (d : List ℕ) → AreBytes d → (a : AtomTree) → IsWellBuilt a.formula → IsSequential a.formula → IsFor d (HasVar a.formula) (FitsSomewhere a d) (of_atom a)
for_atom d bytes a built sequential = record {
  whole = whole_law (with_vars [] a.formula) a;
  ascending = ascending;
  names = vars_are a.formula;
  absent = λ m h x out. answer_absent (λ k x. ⊥) (λ k m. ⊥) d (λ k m h x out. absurd h) (atom a) m h x out;
  ends = λ m h. answer_ends (λ k x. ⊥) (λ k m. ⊥) d (λ k m h. absurd h) (atom a) m h;
  respects = λ m n same h. (h.0, h.1, h.2, h.3, h.4, h.5, h.6, λ x. sym (same x) ∙ h.7 x);
  words = atom_row_law (with_vars [] a.formula) a (ascending-distinct (with_vars [] a.formula) ascending) (λ x h. (vars_are a.formula x).1 h)
      sequential (ordered_repeats a.formula built) d bytes;
}
  where
    ascending : Ascending (with_vars [] a.formula)
    ascending = list_ascends a.formula

-- ---- expressions

module _ (d : List ℕ) (bytes : AreBytes d) (n : ℕ) (V S : ℕ → VarName → Type 0) (A : ℕ → Mapping → Type 0)
    (L : ℕ → Marked) (lets : (k : ℕ) → k < n → IsFor d (V k) (A k) (L k)) (told : (k : ℕ) (x : VarName) → Told (V k x)) where
  -- a join with no part that follows
  last_join : (P : VarName → Type 0) (B : Mapping → Type 0) (M : Marked) → ((x : VarName) → Told (P x)) → IsFor d P B M →
      IsFor d (λ x. P x ⊎ VarOf V join_end x) (Together P B (VarOf V join_end) (Answer V A d join_end)) M
  last_join P B M told_p h =
      for_same d P (λ x. P x ⊎ VarOf V join_end x) B (Together P B (VarOf V join_end) (Answer V A d join_end)) M
      (λ x. (λ p. inl p, λ g. elim g [ inl p ↦ p | inr v ↦ absurd v ])) (λ m. (alone m, back m)) h
    where
      alone : (m : Mapping) → B m → Together P B (VarOf V join_end) (Answer V A d join_end) m
      alone m b = (
        m,
        λ x. None,
        λ x. (λ p. refl, λ out. h.absent m b x out),
        b,
        λ x. (λ v. absurd v, λ out. refl),
        λ x. refl,
        λ x out. h.absent m b x (λ p. out (inl p)),
      )

      same_at : (m n : Mapping) → IsRestriction P m n → ((x : VarName) → (P x ⊎ VarOf V join_end x → ⊥) → m x ≡ None) → (x : VarName) → Told (P x) → n x ≡ m x
      same_at m n r out x (inl p) = (r x).0 p
      same_at m n r out x (inr np) = (r x).1 np ∙ sym (out x (λ g. elim g [ inl p ↦ np p | inr v ↦ v ]))

      back : (m : Mapping) → Together P B (VarOf V join_end) (Answer V A d join_end) m → B m
      back m g = h.respects g.0 m (λ x. same_at m g.0 g.2 g.6 x (told_p x)) g.3

  -- what is shown of an expression: as it is, as the parts of a union that follow, and as those of a join
  record AllFor (e : ExprTree) : Type 1 where
    whole : IsSoundExpr V S n e → IsFor d (VarOf V e) (Answer V A d e) (automaton_of L e)
    united_parts : (P : VarName → Type 0) (B : Mapping → Type 0) (M : Marked) → AreUnited V S n e → IsFor d P B M →
        IsFor d (λ x. P x ⊎ VarOf V e x) (λ m. B m ⊎ Answer V A d e m) (united L M e)
    joined_parts : (P : VarName → Type 0) (B : Mapping → Type 0) (M : Marked) → AreJoined V S n e → ((x : VarName) → Told (P x)) →
        IsFor d P B M → IsFor d (λ x. P x ⊎ VarOf V e x) (Together P B (VarOf V e) (Answer V A d e)) (together L M e)

  -- a part that follows, in front of others
  next_united : (e rest : ExprTree) → AllFor e → AllFor rest → (P : VarName → Type 0) (B : Mapping → Type 0) (M : Marked) →
      AreUnited V S n (union e rest) → IsFor d P B M →
      IsFor d (λ x. P x ⊎ VarOf V (union e rest) x) (λ m. B m ⊎ Answer V A d (union e rest) m) (united L M (union e rest))
  next_united e rest first others P B M h b =
      let more = others.united_parts (λ x. P x ⊎ VarOf V e x) (λ m. B m ⊎ Answer V A d e m) (of_union M (automaton_of L e)) h.1
      (for_union d P (VarOf V e) B (Answer V A d e) M (automaton_of L e) b (first.whole h.0)) in
      for_same d (λ x. (P x ⊎ VarOf V e x) ⊎ VarOf V rest x) (λ x. P x ⊎ VarOf V (union e rest) x)
      (λ m. (B m ⊎ Answer V A d e m) ⊎ Answer V A d rest m) (λ m. B m ⊎ Answer V A d (union e rest) m) (united L M (union e rest))
      (λ x. (
        λ a. elim a [ inl c ↦ elim c [ inl s ↦ inl s | inr s ↦ inr (inl s) ] | inr c ↦ inr (inr c) ],
        λ a. elim a [ inl c ↦ inl (inl c) | inr c ↦ elim c [ inl s ↦ inl (inr s) | inr s ↦ inr s ] ],
      ))
      (λ m. (
        λ a. elim a [ inl c ↦ elim c [ inl s ↦ inl s | inr s ↦ inr (inl s) ] | inr c ↦ inr (inr c) ],
        λ a. elim a [ inl c ↦ inl (inl c) | inr c ↦ elim c [ inl s ↦ inl (inr s) | inr s ↦ inr s ] ],
      )) more

  next_joined : (e rest : ExprTree) → AllFor e → AllFor rest → (P : VarName → Type 0) (B : Mapping → Type 0) (M : Marked) →
      AreJoined V S n (join e rest) → ((x : VarName) → Told (P x)) → IsFor d P B M →
      IsFor d (λ x. P x ⊎ VarOf V (join e rest) x) (Together P B (VarOf V (join e rest)) (Answer V A d (join e rest))) (together L M (join e rest))
  next_joined e rest first others P B M h told_p b =
      let Q : VarName → Type 0 = VarOf V e in
      let R : VarName → Type 0 = VarOf V rest in
      let more = others.joined_parts (λ x. P x ⊎ Q x) (Together P B Q (Answer V A d e)) (of_join M (automaton_of L e)) h.1
      (λ x. told_either (told_p x) (told_of V told e x)) (for_join d P Q B (Answer V A d e) M (automaton_of L e) b (first.whole h.0)) in
      for_same d (λ x. (P x ⊎ Q x) ⊎ R x) (λ x. P x ⊎ VarOf V (join e rest) x)
      (Together (λ x. P x ⊎ Q x) (Together P B Q (Answer V A d e)) R (Answer V A d rest)) (Together P B (VarOf V (join e rest)) (Answer V A d (join e rest)))
      (together L M (join e rest))
      (λ x. (
        λ a. elim a [ inl c ↦ elim c [ inl s ↦ inl s | inr s ↦ inr (inl s) ] | inr c ↦ inr (inr c) ],
        λ a. elim a [ inl c ↦ inl (inl c) | inr c ↦ elim c [ inl s ↦ inl (inr s) | inr s ↦ inr s ] ],
      ))
      (together_assoc P Q R B (Answer V A d e) (Answer V A d rest) told_p (told_of V told e) (told_of V told rest)) more

  -- none follows
  no_united : (P : VarName → Type 0) (B : Mapping → Type 0) (M : Marked) → IsFor d P B M →
      IsFor d (λ x. P x ⊎ VarOf V union_end x) (λ m. B m ⊎ Answer V A d union_end m) M
  no_united P B M b =
      for_same d P (λ x. P x ⊎ VarOf V union_end x) B (λ m. B m ⊎ Answer V A d union_end m) M
      (λ x. (λ p. inl p, λ p. elim p [ inl c ↦ c | inr c ↦ absurd c ])) (λ m. (λ a. inl a, λ a. elim a [ inl c ↦ c | inr c ↦ absurd c ])) b

  one_union : (e rest : ExprTree) → AllFor e → AllFor rest → IsSoundExpr V S n (union e rest) →
      IsFor d (VarOf V (union e rest)) (Answer V A d (union e rest)) (automaton_of L (union e rest))
  one_union e rest first others h = others.united_parts (VarOf V e) (Answer V A d e) (automaton_of L e) h.1 (first.whole h.0)

  one_join : (e rest : ExprTree) → AllFor e → AllFor rest → IsSoundExpr V S n (join e rest) →
      IsFor d (VarOf V (join e rest)) (Answer V A d (join e rest)) (automaton_of L (join e rest))
  one_join e rest first others h =
      for_same d (λ x. VarOf V e x ⊎ VarOf V rest x) (VarOf V (join e rest)) (Together (VarOf V e) (Answer V A d e) (VarOf V rest) (Answer V A d rest))
      (Answer V A d (join e rest)) (together L (automaton_of L e) rest) (λ x. (λ v. v, λ v. v)) (λ m. (λ a. a, λ a. a))
      (others.joined_parts (VarOf V e) (Answer V A d e) (automaton_of L e) h.1 (told_of V told e) (first.whole h.0))

  all_for : (e : ExprTree) → AllFor e
  all_for (atom a) = record {
    whole = λ h. for_atom d bytes a h.0 h.1;
    united_parts = λ P B M h b. absurd h;
    joined_parts = λ P B M h v b. absurd h;
  }
  all_for (named k) = record { whole = λ h. lets k h; united_parts = λ P B M h b. absurd h; joined_parts = λ P B M h v b. absurd h }
  all_for union_end = record { whole = λ h. absurd h; united_parts = λ P B M h b. no_united P B M b; joined_parts = λ P B M h v b. absurd h }
  all_for (union e rest) = record {
    whole = one_union e rest (all_for e) (all_for rest);
    united_parts = next_united e rest (all_for e) (all_for rest);
    joined_parts = λ P B M h v b. absurd h;
  }
  all_for join_end = record { whole = λ h. absurd h; united_parts = λ P B M h b. absurd h; joined_parts = λ P B M h v b. last_join P B M v b }
  all_for (join e rest) = record {
    whole = one_join e rest (all_for e) (all_for rest);
    united_parts = λ P B M h b. absurd h;
    joined_parts = next_joined e rest (all_for e) (all_for rest);
  }
  all_for (project names e) = record {
    whole = λ h. for_projection d (VarOf V e) (Answer V A d e) names (automaton_of L e) h.2 (λ x k. (h.1 x k).0) ((all_for e).whole h.0);
    united_parts = λ P B M h b. absurd h;
    joined_parts = λ P B M h v b. absurd h;
  }
  all_for (minus e g) = record {
    whole = λ h. for_minus d (VarOf V e) (VarOf V g) (Answer V A d e) (Answer V A d g) (automaton_of L e) (automaton_of L g) h.2 ((all_for e).whole h.0) ((all_for g).whole h.1);
    united_parts = λ P B M h b. absurd h;
    joined_parts = λ P B M h v b. absurd h;
  }

  pub expr_for : (e : ExprTree) → IsSoundExpr V S n e → IsFor d (VarOf V e) (Answer V A d e) (automaton_of L e)
  expr_for e = (all_for e).whole

-- ---- lets and queries

some_there : {X : Type 0} (xs : List X) (n : ℕ) → n < length xs → slice_get xs n ≡ None → ⊥
some_there [] n l e = omega (arith, l)
some_there (x ∷ xs) zero l e = cc
some_there (x ∷ xs) (suc n) l e = some_there xs n (omega (arith, l)) e

module _ (d : List ℕ) (bytes : AreBytes d) (lets : List (VarName × ExprTree))
    (sound : (k : ℕ) → ForSome (slice_get lets k) (λ l. IsSoundUnder lets k l.1))
    (most : ℕ) (within : most ≤ length lets) where
  abbrev LetFor : ℕ → ℕ → Type 0
  LetFor n k = IsFor d (vars_of_lets lets n k) (answers_of_lets lets d n k) (of_lets lets n k)

  -- the let n, under those before it
  this_let : (n : ℕ) → ((k : ℕ) → k < n → LetFor n k) → n < most → (o : Option (VarName × ExprTree)) → slice_get lets n ≡ o →
      IsFor d (λ x. IsSomeAnd o (λ l. VarOf (vars_of_lets lets n) l.1 x)) (λ m. IsSomeAnd o (λ l. Answer (vars_of_lets lets n) (answers_of_lets lets d n) d l.1 m))
      (of_one_let (of_lets lets n) o)
  this_let n before l None at = absurd (some_there lets n (omega (arith, l, within)) at)
  this_let n before l (Some e) at =
      expr_for d bytes n (vars_of_lets lets n) (sure_of_lets lets n) (answers_of_lets lets d n) (of_lets lets n) before (told_lets lets n) e.1
      (sound n e at).0

  next_let : (n : ℕ) → ((k : ℕ) → k < n → LetFor n k) → n < most → (k : ℕ) → k < suc n → (b : Bool) → nat_eq k n ≡ b →
      IsFor d (λ x. MatchBool b (IsSomeAnd (slice_get lets n) (λ l. VarOf (vars_of_lets lets n) l.1 x)) (vars_of_lets lets n k x))
      (λ m. MatchBool b (IsSomeAnd (slice_get lets n) (λ l. Answer (vars_of_lets lets n) (answers_of_lets lets d n) d l.1 m)) (answers_of_lets lets d n k m))
      (if b then of_one_let (of_lets lets n) (slice_get lets n) else of_lets lets n k)
  next_let n before l k below true at = this_let n before l (slice_get lets n) refl
  next_let n before l k below false at =
      elim (cases_lt k n) [ inl less ↦ before k less | inr le ↦ absurd (eqb-false k n at (omega (arith, below, le))) ]

  pub lets_for : (n : ℕ) → n ≤ most → (k : ℕ) → k < n → LetFor n k
  lets_for zero l k below = absurd (omega (arith, below))
  lets_for (suc n) l k below = next_let n (lets_for n (omega (arith, l))) (omega (arith, l)) k below (nat_eq k n) refl

-- the automaton of a query accepts the words of the rows of its answers, and no others
pub query_for : (q : QueryTree) → IsSound q → (d : List ℕ) → AreBytes d → IsFor d (IsResultVar q) (IsAnswer q d) (of_query q)
query_for q s d bytes =
    expr_for d bytes (length q.lets) (vars_of_lets q.lets (length q.lets)) (sure_of_lets q.lets (length q.lets)) (answers_of_lets q.lets d (length q.lets)) (of_lets q.lets (length q.lets))
    (lets_for d bytes q.lets s.sound_lets (length q.lets) (omega arith) (length q.lets) (omega arith)) (told_lets q.lets (length q.lets)) q.body s.sound_body.0

pub query_words : QueryWords
query_words q s =
    let some = query_for q s [] (λ i b e. absurd (cc)) in
    (((some.ascending, some.names), λ d bytes. (query_for q s d bytes).words), some.whole)

-- and so does what reduces it
pub words_of_reduct : (q : QueryTree) → IsSound q → (A : Marked) → ReducesMarked A (of_query q) → AcceptsAnswersOf q A
words_of_reduct q s A r =
    let B = of_query q in
    let of = (query_words q s).0 in
    let names : B.names ≡ A.names = sym r.0 in
    let same : AcceptsAnswersOf q (record { names = A.names; graph = B.graph }) = rw (← names) of in (
      same.0,
      λ d bytes w. (
        λ h. (same.1 d bytes w).0 ((reduct_accepts A.graph B.graph r.1 d w).0 h),
        λ h. (reduct_accepts A.graph B.graph r.1 d w).1 ((same.1 d bytes w).1 h),
      ),
    )
