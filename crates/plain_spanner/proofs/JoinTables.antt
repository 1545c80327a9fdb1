-- Tables of unions, of joins, and of lets.
use Rattle.std.proofs.Common.{◌≡◌, ℕ, suc, ◌+◌, ◌<◌, ◌⊎◌, ◌↔◌, Bool, true, false, List, [], ◌∷◌, ◌++◌, length, length-append, take, Option, Some, None, inl, inr, refl, sym, ap, ◌∙◌, arith}
use Rattle.std.specs.Prelude.{slice_get, nat_eq, MatchBool, if◌then◌else◌}
use Rattle.std.specs.Option.{IsSomeAnd}
use Rattle.std.proofs.lemmas.Bool.{false≢true, cases_lt}
use Rattle.std.proofs.lemmas.Bool.Decides.{nat_tests}
use Rattle.std.proofs.lemmas.Option.{slice_get_within}
use Rattle.span_core.specs.NameSets.{Ascending, has_name}
use Rattle.span_core.proofs.NameSetLaws.{none_are_variables}
use Rattle.span_core.specs.Lists.{Has}
use Rattle.spanner_model.specs.Captures.{VarName, Mapping}
use Rattle.spanner_model.specs.Expression.{ExprTree, QueryTree, minus, union_all, join_all}
use Rattle.spanner_model.specs.Answer.{VarOf, IsRestriction, Answer, vars_of_lets, answers_of_lets}
use Rattle.std.specs.List.{AllByRecursion}
use Rattle.std.specs.List.Sorted.{IsStrictlySortedBy}
use Rattle.std.specs.declared.cmp.Ordering.{Ordering}
use Rattle.std.specs.declared.cmp.Ordering.TheVariants.{Less}
use Rattle.span_core.specs.Order.{StandsBefore, IsOrderOf}
use Rattle.span_core.specs.Comparison.{row_cmp}
use Rattle.span_core.specs.ComparisonLaws.{row_cmp_is}
use Rattle.spanner_model.specs.Sound.{IsSoundExpr, sure_of_lets, IsSound}
use Rattle.spanner_model.specs.Answers.{SpanRow, AreInBlockOrder, AreResultNames, AreAnswers}
use Rattle.spanner_model.proofs.NameLaws.{same_names}
use Rattle.spanner_model.specs.Gathered.{Adds}
use Rattle.span_core.proofs.HasLaws.{Has-append_cases, Has-append_left, Has-append_right}
use Rattle.spanner_model.proofs.TreeLaws.{take_at_more}
use Rattle.spanner_model.proofs.AnswerLaws.{answer_absent, lets_absent}
use Rattle.spanner_model.proofs.ExprLaws.{join_part_var, union_vars, let_named, slice_get_push}
use Rattle.spanner_model.proofs.GatheredLaws.{in_more, exprs_in_turn}
use Rattle.spanner_model.proofs.PartLaws.{union_some, some_union, join_outside, join_each, each_join, told_under}
use Rattle.plain_spanner.specs.Listed.{Tells}
use Rattle.plain_spanner.specs.declared.table.Table.{Table}
use Rattle.plain_spanner.specs.Tables.{IsRowOf, IsTable, IsTableOf, IsAsked, AreTables, IsLeft, IsUnited, IsJoined}
use Rattle.spanner_model.proofs.RowLaws.{row_length}
use Rattle.plain_spanner.proofs.TellsLaws.{tells_same}
use Rattle.plain_spanner.proofs.JoinLaws.{JoinOf, join_listed}
use Rattle.plain_spanner.proofs.TableLaws.{left_listed, restricts, union_listed}

module _ (q : QueryTree) (d : List ℕ) (n : ℕ) where
  abbrev V : ℕ → VarName → Type 0
  V = vars_of_lets q.lets n

  abbrev A : ℕ → Mapping → Type 0
  A = answers_of_lets q.lets d n

  pub unit_table : IsTableOf q d n (join_all []) [] ([] ∷ [])
  unit_table = record {
    ascending = none_are_variables.ascending;
    named = λ x. (λ h. h, λ h. h);
    listed = record {
      each_so = λ r h. (λ x. None, λ x. refl, elim h as (λ _. r ≡ []) [ inl e ↦ sym e | inr no_more ↦ absurd no_more ]);
      all_there = λ r h. inl (sym h.2);
    };
  }

  pub none_table : IsTableOf q d n (union_all []) [] []
  none_table = record {
    ascending = none_are_variables.ascending;
    named = λ x. (λ h. h, λ h. h);
    listed = record { each_so = λ r h. absurd h; all_there = λ r h. h.1 };
  }

  out_of : (e : ExprTree) (names : List VarName) → ((x : VarName) → Has names x ↔ VarOf V e x) → (m : Mapping) → Answer V A d e m → (x : VarName) → (Has names x → ⊥) → m x ≡ None
  out_of e names named m h x out = answer_absent V A d (lets_absent q.lets d n) e m h x (λ v. out ((named x).1 v))

  -- a difference
  pub left_table : (e g : ExprTree) (names others : List VarName) (lefts rights rows : List SpanRow) → IsTableOf q d n e names lefts → IsTableOf q d n g others rights →
      ((x : VarName) → VarOf V e x ↔ VarOf V g x) → Tells (Has rows) (IsLeft lefts rights) → IsTableOf q d n (minus e g) names rows
  left_table e g names others lefts rights rows t u same all =
      let is : others ≡ names =
      same_names others names u.ascending t.ascending (λ x h. (t.named x).1 ((same x).1 ((u.named x).0 h))) (λ x h. (u.named x).1 ((same x).0 ((t.named x).0 h))) in
      let right : Tells (Has rights) (IsRowOf (Answer V A d g) names) = rw (← is) u.listed in
      record {
        ascending = t.ascending;
        named = t.named;
        listed = left_listed names (Answer V A d e) (Answer V A d g) (out_of e names t.named)
            (λ m b x out. answer_absent V A d (lets_absent q.lets d n) g m b x (λ v. out ((t.named x).1 ((same x).1 v)))) lefts rights (Has rows) t.listed right all;
      }

  restricted : (P Q : VarName → Type 0) (m r : Mapping) → ((x : VarName) → P x ↔ Q x) → IsRestriction P m r → IsRestriction Q m r
  restricted P Q m r same h x = (λ v. (h x).0 ((same x).1 v), λ out. (h x).1 (λ p. out ((same x).0 p)))

  -- the union of the parts so far with one more
  module _ (es : List ExprTree) (e : ExprTree) (left right : List VarName) (left_named : (x : VarName) → Has left x ↔ VarOf V (union_all es) x)
      (right_named : (x : VarName) → Has right x ↔ VarOf V e x) where
    some_vars_more : (x : VarName) → VarOf V (union_all (es ++ e ∷ [])) x ↔ (VarOf V (union_all es) x ⊎ VarOf V e x)
    some_vars_more x =
        let more = in_more (VarOf V) (λ gs. VarOf V (join_all gs)) (exprs_in_turn V) es e x in (
          λ v. elim (more.0 ((union_vars V (es ++ e ∷ []) x).1 v)) as (λ _. VarOf V (union_all es) x ⊎ VarOf V e x) [ inl a ↦ inl ((union_vars V es x).0 a) | inr b ↦ inr b ],
          λ h. (union_vars V (es ++ e ∷ []) x).0 (more.1 (elim h as (λ _. VarOf V (join_all es) x ⊎ VarOf V e x) [ inl a ↦ inl ((union_vars V es x).1 a) | inr b ↦ inr b ])),
        )

    to_some : (m : Mapping) → Answer V A d (union_all es) m ⊎ Answer V A d e m → Answer V A d (union_all (es ++ e ∷ [])) m
    to_some m h = elim h as (λ _. Answer V A d (union_all (es ++ e ∷ [])) m) [
      | inl a ↦ (let p = union_some V A d es m a in some_union V A d (es ++ e ∷ []) m p.0 (Has-append_left es (e ∷ []) p.0 p.1) p.2)
      | inr b ↦ some_union V A d (es ++ e ∷ []) m e (Has-append_right es (e ∷ []) e (inl refl)) b
    ]

    of_some : (m : Mapping) → Answer V A d (union_all (es ++ e ∷ [])) m → Answer V A d (union_all es) m ⊎ Answer V A d e m
    of_some m h =
        let p = union_some V A d (es ++ e ∷ []) m h in
        elim (Has-append_cases es (e ∷ []) p.0 p.1) as (λ _. Answer V A d (union_all es) m ⊎ Answer V A d e m) [
          | inl a ↦ inl (some_union V A d es m p.0 a p.2)
          | inr b ↦ elim b as (λ _. Answer V A d (union_all es) m ⊎ Answer V A d e m) [
            | inl i ↦ inr (rw i p.2)
            | inr no_more ↦ absurd no_more
          ]
        ]

    pub union_more : (names : List VarName) (lefts rights rows : List SpanRow) → IsTableOf q d n (union_all es) left lefts →
        IsTableOf q d n e right rights → Ascending names → Adds left (Has right) names →
        Tells (Has rows) (IsUnited names left right lefts rights) → IsTableOf q d n (union_all (es ++ e ∷ [])) names rows
    union_more names lefts rights rows t u up named all =
        let B = Answer V A d (union_all es) in
        let C = Answer V A d e in
        let listed = union_listed left right names B C (out_of (union_all es) left left_named) (out_of e right right_named) lefts rights (Has rows) t.listed u.listed all in
        record {
          ascending = up;
          named = λ x. (
            λ h. (some_vars_more x).1 (elim ((named x).0 h) as (λ _. VarOf V (union_all es) x ⊎ VarOf V e x) [ inl a ↦ inl ((left_named x).0 a) | inr b ↦ inr ((right_named x).0 b) ]),
            λ v. (named x).1 (elim ((some_vars_more x).0 v) as (λ _. Has left x ⊎ Has right x) [ inl a ↦ inl ((left_named x).1 a) | inr b ↦ inr ((right_named x).1 b) ]),
          );
          listed = tells_same (Has rows) (IsRowOf (λ m. B m ⊎ C m) names) (IsRowOf (Answer V A d (union_all (es ++ e ∷ []))) names)
              (λ r h. (h.0, to_some h.0 h.1, h.2)) (λ r h. (h.0, of_some h.0 h.1, h.2)) listed;
        }

  -- the join of the parts so far with one more
  module _ (es : List ExprTree) (e : ExprTree) (left right : List VarName) (left_named : (x : VarName) → Has left x ↔ VarOf V (join_all es) x)
      (right_named : (x : VarName) → Has right x ↔ VarOf V e x) where
    vars_more : (x : VarName) → VarOf V (join_all (es ++ e ∷ [])) x ↔ (VarOf V (join_all es) x ⊎ VarOf V e x)
    vars_more x = in_more (VarOf V) (λ gs. VarOf V (join_all gs)) (exprs_in_turn V) es e x

    to_all : (m : Mapping) → JoinOf left (Answer V A d (join_all es)) right (Answer V A d e) m → Answer V A d (join_all (es ++ e ∷ [])) m
    to_all m h =
        let n1 = h.0 in
        let n2 = h.1 in
        let whole = restricted (Has left) (VarOf V (join_all es)) m n1 left_named h.2 in
        each_join V A d (told_under q.lets n) (es ++ e ∷ []) m
        (λ x out. h.6 x (λ b. out ((vars_more x).1 (elim b as (λ _. VarOf V (join_all es) x ⊎ VarOf V e x) [ inl a ↦ inl ((left_named x).0 a) | inr c ↦ inr ((right_named x).0 c) ]))))
        (λ g has. elim (Has-append_cases es (e ∷ []) g has) as (λ _. (r : Mapping) × IsRestriction (VarOf V g) m r × Answer V A d g r) [
          | inl a ↦
              let p = join_each V A d es n1 h.3 g a in
              (p.0, λ x. (λ v. (p.1 x).0 v ∙ (whole x).0 (join_part_var V es g x a v), (p.1 x).1), p.2)
          | inr b ↦ elim b as (λ _. (r : Mapping) × IsRestriction (VarOf V g) m r × Answer V A d g r) [
            | inl i ↦ rw (← i) (n2, restricted (Has right) (VarOf V e) m n2 right_named h.4, h.5)
            | inr no_more ↦ absurd no_more
          ]
        ])

    of_all : (m : Mapping) → Answer V A d (join_all (es ++ e ∷ [])) m → JoinOf left (Answer V A d (join_all es)) right (Answer V A d e) m
    of_all m h =
        let gs = es ++ e ∷ [] in
        let n1 : Mapping = λ x. if has_name left x then m x else None in
        let is = restricts left m in
        let whole = restricted (Has left) (VarOf V (join_all es)) m n1 left_named is in
        let last = join_each V A d gs m h e (Has-append_right es (e ∷ []) e (inl refl)) in
        let firsts = each_join V A d (told_under q.lets n) es n1 (λ x out. (whole x).1 out) (λ g has.
        let p = join_each V A d gs m h g (Has-append_left es (e ∷ []) g has) in
        (p.0, λ x. (λ v. (p.1 x).0 v ∙ sym ((whole x).0 (join_part_var V es g x has v)), (p.1 x).1), p.2)) in (
          n1,
          last.0,
          is,
          firsts,
          restricted (VarOf V e) (Has right) m last.0 (λ x. ((right_named x).1, (right_named x).0)) last.1,
          last.2,
          λ x out. join_outside V A d gs m h x (λ v. out (elim ((vars_more x).0 v) as (λ _. Has left x ⊎ Has right x) [ inl a ↦ inl ((left_named x).1 a) | inr b ↦ inr ((right_named x).1 b) ])),
        )

    pub join_more : (names : List VarName) (lefts rights rows : List SpanRow) → IsTableOf q d n (join_all es) left lefts →
        IsTableOf q d n e right rights → Ascending names → Adds left (Has right) names →
        Tells (Has rows) (IsJoined names left right lefts rights) → IsTableOf q d n (join_all (es ++ e ∷ [])) names rows
    join_more names lefts rights rows t u up named all =
        let J = JoinOf left (Answer V A d (join_all es)) right (Answer V A d e) in
        let listed = join_listed left right names (Answer V A d (join_all es)) (Answer V A d e) (out_of (join_all es) left left_named)
        (out_of e right right_named) named lefts rights (Has rows) t.listed u.listed all in
        record {
          ascending = up;
          named = λ x. (
            λ h. (vars_more x).1 (elim ((named x).0 h) as (λ _. VarOf V (join_all es) x ⊎ VarOf V e x) [ inl a ↦ inl ((left_named x).0 a) | inr b ↦ inr ((right_named x).0 b) ]),
            λ v. (named x).1 (elim ((vars_more x).0 v) as (λ _. Has left x ⊎ Has right x) [ inl a ↦ inl ((left_named x).1 a) | inr b ↦ inr ((right_named x).1 b) ]),
          );
          listed = tells_same (Has rows) (IsRowOf J names) (IsRowOf (Answer V A d (join_all (es ++ e ∷ []))) names) (λ r h. (h.0, to_all h.0 h.1, h.2)) (λ r h. (h.0, of_all h.0 h.1, h.2)) listed;
        }

pub union_next : (q : QueryTree) (d : List ℕ) (n : ℕ) (es : List ExprTree) (k : ℕ) (e : ExprTree) (left right names : List VarName) (lefts rights rows : List SpanRow) → slice_get es k ≡ Some e →
    IsTableOf q d n (union_all (take k es)) left lefts → IsTableOf q d n e right rights → Ascending names → Adds left (Has right) names → Tells (Has rows) (IsUnited names left right lefts rights) →
    IsTableOf q d n (union_all (take (k + 1) es)) names rows
union_next q d n es k e left right names lefts rights rows at t u up named all =
    rw (take_at_more es k e at)
    (union_more q d n (take k es) e left right t.named u.named names lefts rights rows t u up named all)

pub join_next : (q : QueryTree) (d : List ℕ) (n : ℕ) (es : List ExprTree) (k : ℕ) (e : ExprTree) (left right names : List VarName) (lefts rights rows : List SpanRow) → slice_get es k ≡ Some e →
    IsTableOf q d n (join_all (take k es)) left lefts → IsTableOf q d n e right rights → Ascending names → Adds left (Has right) names → Tells (Has rows) (IsJoined names left right lefts rights) →
    IsTableOf q d n (join_all (take (k + 1) es)) names rows
join_next q d n es k e left right names lefts rights rows at t u up named all =
    rw (take_at_more es k e at)
    (join_more q d n (take k es) e left right t.named u.named names lefts rights rows t u up named all)

-- ---- lets

other : (b : Bool) (Q W : VarName → Type 0) (B C : Mapping → Type 0) (names : List VarName) (rows : List SpanRow) → b ≡ false →
    IsTable W C names rows → IsTable (λ x. MatchBool b (Q x) (W x)) (λ m. MatchBool b (B m) (C m)) names rows
other true Q W B C names rows e t = absurd (false≢true (sym e))
other false Q W B C names rows e t = t

this : (b : Bool) (Q W : VarName → Type 0) (B C : Mapping → Type 0) (names : List VarName) (rows : List SpanRow) → b ≡ true → IsTable Q B names rows →
    IsTable (λ x. MatchBool b (Q x) (W x)) (λ m. MatchBool b (B m) (C m)) names rows
this true Q W B C names rows e t = t
this false Q W B C names rows e t = absurd (false≢true e)

there : (o : Option (VarName × ExprTree)) (l : VarName × ExprTree) (W : ExprTree → VarName → Type 0) (C : ExprTree → Mapping →
    Type 0) (names : List VarName) (rows : List SpanRow) → o ≡ Some l → IsTable (W l.1) (C l.1) names rows →
    IsTable (λ x. IsSomeAnd o (λ l. W l.1 x)) (λ m. IsSomeAnd o (λ l. C l.1 m)) names rows
there o l W C names rows e t = rw e t

number_other : (j k : ℕ) → j < k → nat_eq j k ≡ false
number_other j k h = grind (arith, nat_tests)

number_same : (j k : ℕ) → j ≡ k → nat_eq j k ≡ true
number_same j k h = grind (arith, nat_tests)

pub tables_none : (q : QueryTree) (d : List ℕ) (tables : List Table) → tables ≡ [] → AreTables q d tables
tables_none q d tables none k t at = absurd (no_place k t (ap (λ (ts : List Table). slice_get ts k) (sym none) ∙ at))
  where
    no_place : (k : ℕ) (t : Table) → slice_get [] k ≡ Some t → ⊥
    no_place k t e = cc

pub tables_more : (q : QueryTree) (d : List ℕ) (tables grown : List Table) (l : VarName × ExprTree) (t : Table) →
    slice_get q.lets (length tables) ≡ Some l → AreTables q d tables → IsTableOf q d (length tables) l.1 t.names t.rows.items → grown ≡ tables ++ t ∷ [] → AreTables q d grown
tables_more q d tables grown l t at known one is j u place =
    let n = length tables in
    let long : length grown ≡ suc n = ap length is ∙ omega (arith, length-append tables (t ∷ [])) in
    let here = ap (λ (ts : List Table). slice_get ts j) (sym is) ∙ place in
    let within = slice_get_within (tables ++ t ∷ []) j u here in
    rw long
    (elim (cases_lt j n) as (λ _. IsTable (vars_of_lets q.lets (suc n) j) (answers_of_lets q.lets d (suc n) j) u.names u.rows.items) [
      | inl before ↦
          let b = number_other j n before in
          let at_j : slice_get tables j ≡ Some u = sym (slice_get_push tables t j ∙ ap (λ (c : Bool). if c then Some t else slice_get tables j) b) ∙ here in
          other (nat_eq j n) (λ x. IsSomeAnd (slice_get q.lets n) (λ l. VarOf (vars_of_lets q.lets n) l.1 x)) (vars_of_lets q.lets n j)
          (λ m. IsSomeAnd (slice_get q.lets n) (λ l. Answer (vars_of_lets q.lets n) (answers_of_lets q.lets d n) d l.1 m)) (answers_of_lets q.lets d n j) u.names u.rows.items b (known j u at_j)
      | inr after ↦
          let e : j ≡ n = omega (arith, within, length-append tables (t ∷ [])) in
          let b = number_same j n e in
          let at_j : Some t ≡ Some u = sym (slice_get_push tables t j ∙ ap (λ (c : Bool). if c then Some t else slice_get tables j) b) ∙ here in
          let same : t ≡ u = table_is t u at_j in
          this (nat_eq j n) (λ x. IsSomeAnd (slice_get q.lets n) (λ l. VarOf (vars_of_lets q.lets n) l.1 x)) (vars_of_lets q.lets n j)
          (λ m. IsSomeAnd (slice_get q.lets n) (λ l. Answer (vars_of_lets q.lets n) (answers_of_lets q.lets d n) d l.1 m)) (answers_of_lets q.lets d n j) u.names u.rows.items b
          (there (slice_get q.lets n) l (λ e. VarOf (vars_of_lets q.lets n) e) (λ e. Answer (vars_of_lets q.lets n) (answers_of_lets q.lets d n) d e) u.names u.rows.items at
          (rw (← same) one))
    ])
  where
    table_is : (x y : Table) → Some x ≡ Some y → x ≡ y
    table_is x y e = cc

-- ---- all answers

pub asked_let : (q : QueryTree) (n k : ℕ) (l : VarName × ExprTree) → IsSound q → n ≡ k → slice_get q.lets k ≡ Some l → IsAsked q n l.1
asked_let q n k l s e at = record {
  sound = s;
  sound_expr = rw e (s.sound_lets k l at).0;
  named = λ x h. inl (let_named q.lets k l x at h);
}

pub asked_body : (q : QueryTree) (n : ℕ) → IsSound q → n ≡ length q.lets → IsAsked q n q.body
asked_body q n s e = record {
  sound = s;
  sound_expr = rw e s.sound_body.0;
  named = λ x h. inr h;
}

-- rows of one length in order are in block order
before_of : (a b : SpanRow) → length a ≡ length b → row_cmp a b ≡ Less → StandsBefore a b
before_of a b same e =
    elim (rw e at (row_cmp_is a b)) as (λ _. StandsBefore a b) [ inl l ↦ absurd (omega (arith, l, same)) | inr p ↦ p.1 ]

all_before : (a : SpanRow) (rows : List SpanRow) → ((r : SpanRow) → Has rows r → length a ≡ length r) → AllByRecursion (λ b. row_cmp a b ≡ Less) rows → AllByRecursion (StandsBefore a) rows
all_before a [] long h = tt
all_before a (b ∷ rows) long h = (before_of a b (long b (inl refl)) h.0, all_before a rows (λ r k. long r (inr k)) h.1)

in_block_order : (n : ℕ) (rows : List SpanRow) → ((r : SpanRow) → Has rows r → length r ≡ n) → IsStrictlySortedBy row_cmp rows → AreInBlockOrder rows
unfolding IsStrictlySortedBy
in_block_order n [] long h = tt
in_block_order n (a ∷ rows) long h = (all_before a rows (λ r k. long a (inl refl) ∙ sym (long r (inr k))) h.0, in_block_order n rows (λ r k. long r (inr k)) h.1)

pub are_answers : (q : QueryTree) (d : List ℕ) (n : ℕ) (found : List VarName) (rows sorted : List SpanRow) → n ≡ length q.lets → IsTableOf q d n q.body found rows → IsStrictlySortedBy row_cmp sorted →
    ((r : SpanRow) → Has rows r → Has sorted r) → ((r : SpanRow) → Has sorted r → Has rows r) → (names : List VarName) → AreResultNames q names → AreAnswers q d names sorted
are_answers q d n found rows sorted e t up keeps adds_none names result =
    let u = rw e at t in
    let same : found ≡ names = same_names found names u.ascending result.0 (λ x h. (result.1 x).1 ((u.named x).0 h)) (λ x h. (u.named x).1 ((result.1 x).0 h)) in
    let v = rw same at u in
    record {
      in_order = in_block_order (length names) sorted (λ r h. let s = v.listed.each_so r (adds_none r h) in ap length s.2 ∙ row_length names s.0) up;
      each_answers = λ r h. v.listed.each_so r (adds_none r h);
      all_there = λ r h. keeps r (v.listed.all_there r h);
    }
