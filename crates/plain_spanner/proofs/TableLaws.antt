-- Tables of expressions.
use Rattle.std.proofs.Common.{◌≡◌, ℕ, ◌⊎◌, Bool, true, false, List, length, take, None, inl, inr, refl, sym, ap, subst, ◌∙◌}
use Rattle.std.proofs.lemmas.Bool.{false≢true}
use Rattle.std.specs.Prelude.{if◌then◌else◌}
use Rattle.span_core.specs.Lists.{Has}
use Rattle.spanner_model.specs.Captures.{VarName, Mapping, row_of, mapping_of}
use Rattle.spanner_model.specs.Expression.{ExprTree, QueryTree, project, union_all, join_all}
use Rattle.spanner_model.specs.Answer.{VarOf, IsRestriction, vars_of_lets}
use Rattle.spanner_model.specs.Answers.{SpanRow}
use Rattle.spanner_model.specs.Gathered.{HaveRoom}
use Rattle.spanner_model.specs.Sound.{sure_of_lets, NameOf, IsSound}
use Rattle.span_core.proofs.HasLaws.{Has-take}
use Rattle.span_core.specs.NameSets.{has_name}
use Rattle.spanner_model.proofs.NameLaws.{list_any-Has, Has-list_any}
use Rattle.spanner_model.proofs.ExprLaws.{var_named, lets_named, union_part, join_part, join_var_part, union_vars, union_named, join_named}
use Rattle.spanner_model.proofs.CapturesLaws.{row_same, row_same_on}
use Rattle.plain_spanner.specs.Listed.{Tells, FromSome}
use Rattle.plain_spanner.specs.Tables.{IsRowOf, IsTable, IsAsked, row_over, IsLeft, IsRowOver, IsUnited}
use Rattle.spanner_model.proofs.RowLaws.{row_length, mapping_of-outside}
use Rattle.plain_spanner.proofs.RowLaws.{mapping_of-row_of, row_over-row_of}

-- ---- what is asked

pub asked_united : (q : QueryTree) (n : ℕ) (es : List ExprTree) (e : ExprTree) → Has es e → IsAsked q n (union_all es) → IsAsked q n e
asked_united q n es e has a = record {
  sound = a.sound;
  sound_expr = union_part (vars_of_lets q.lets n) (sure_of_lets q.lets n) n es e a.sound_expr
      has;
  named = λ x h. a.named x (union_named es e x has h);
}

pub asked_joined : (q : QueryTree) (n : ℕ) (es : List ExprTree) (e : ExprTree) → Has es e → IsAsked q n (join_all es) → IsAsked q n e
asked_joined q n es e has a = record {
  sound = a.sound;
  sound_expr = join_part (vars_of_lets q.lets n) (sure_of_lets q.lets n) n es e a.sound_expr
      has;
  named = λ x h. a.named x (join_named es e x has h);
}

pub asked_sub : (q : QueryTree) (n : ℕ) (names : List VarName) (e : ExprTree) → IsAsked q n (project names e) → IsAsked q n e
asked_sub q n names e a = record { sound = a.sound; sound_expr = a.sound_expr.0; named = a.named }

-- the variables of what is asked are names of the query
pub asked_var : (q : QueryTree) (n : ℕ) (e : ExprTree) (x : VarName) → IsAsked q n e → VarOf (vars_of_lets q.lets n) e x → NameOf q x
asked_var q n e x a v =
    elim (var_named (vars_of_lets q.lets n) (sure_of_lets q.lets n) (λ y. NameOf q y) (λ k y h. inl (lets_named q.lets a.sound.sound_lets n k y h)) n
    e x a.sound_expr v) as (λ _. NameOf q x) [ inl b ↦ a.named x b | inr b ↦ b ]

pub room_of : (q : QueryTree) (P : VarName → Type 0) (old : List VarName) → IsSound q → ((x : VarName) → Has old x → NameOf q x) → ((x : VarName) → P x → NameOf q x) → HaveRoom old P
room_of q P old s a b = (s.few.0, s.few.1, λ x h. s.few.2 x (elim h as (λ _. NameOf q x) [ inl o ↦ a x o | inr p ↦ b x p ]))

pub united_var : (q : QueryTree) (n k : ℕ) (es : List ExprTree) (x : VarName) → IsAsked q n (union_all es) → VarOf (vars_of_lets q.lets n) (union_all (take k es)) x → NameOf q x
united_var q n k es x a v =
    let V = vars_of_lets q.lets n in
    let p = join_var_part V (take k es) x ((union_vars V (take k es) x).1 v) in
    asked_var q n p.0 x (asked_united q n es p.0 (Has-take es k p.0 p.1) a) p.2

pub joined_var : (q : QueryTree) (n k : ℕ) (es : List ExprTree) (x : VarName) → IsAsked q n (join_all es) → VarOf (vars_of_lets q.lets n) (join_all (take k es)) x → NameOf q x
joined_var q n k es x a v =
    let p = join_var_part (vars_of_lets q.lets n) (take k es) x v in
    asked_var q n p.0 x (asked_joined q n es p.0 (Has-take es k p.0 p.1) a) p.2

-- ---- rows

pub rows_of_table : (V : VarName → Type 0) (A : Mapping → Type 0) (names : List VarName) (rows : List SpanRow) → IsTable V A names rows → (r : SpanRow) → Has rows r → length r ≡ length names
rows_of_table V A names rows t r h = let s = t.listed.each_so r h in ap length s.2 ∙ row_length names s.0

-- ---- projections

pub restricts : (names : List VarName) (n : Mapping) → IsRestriction (Has names) n (λ x. if has_name names x then n x else None)
restricts names n x =
    (λ h. ap (λ (b : Bool). if b then n x else None) (list_any-Has names x h), λ out. by (has_name names x) refl out)
  where
    by : (b : Bool) → has_name names x ≡ b → (Has names x → ⊥) → (if b then n x else None) ≡ None
    by true e out = absurd (out (Has-list_any names x e))
    by false e out = refl

module _ (A : Mapping → Type 0) (names keep : List VarName) (rows : List SpanRow) (H : SpanRow → Type 0) (in_names : (x : VarName) → Has keep x → Has names x) where
  pub kept_listed : Tells (Has rows) (IsRowOf A names) → Tells H (FromSome (IsRowOver names keep) rows) →
      Tells H (IsRowOf (λ m. (n : Mapping) × A n × IsRestriction (Has keep) n m) keep)
  kept_listed all out = record {
    each_so = λ r h.
        let s = out.each_so r h in
        let t = all.each_so s.0 s.1 in
        let n = t.0 in
        let m : Mapping = λ x. if has_name keep x then n x else None in
        let is = restricts keep n in
        (m, (n, t.1, is), s.2 ∙ ap (λ (a : SpanRow). row_over names keep a) t.2 ∙ row_over-row_of names keep n in_names ∙ row_same_on keep n m (λ x h. sym ((is x).0 h)));
    all_there = λ r h.
        let n = h.1.0 in
        out.all_there r (row_of names n, all.all_there (row_of names n) (n, h.1.1, refl), h.2 ∙ row_same_on keep h.0 n (λ x k. (h.1.2 x).0 k) ∙ sym (row_over-row_of names keep n in_names));
  }

pub kept_all : (A : Mapping → Type 0) (names : List VarName) (rows : List SpanRow) (H : SpanRow → Type 0) → Tells (Has rows) (IsRowOf A names) → Tells H (FromSome (IsRowOver names names) rows) →
    Tells H (IsRowOf A names)
kept_all A names rows H all out = record {
  each_so = λ r h.
      let s = out.each_so r h in
      let t = all.each_so s.0 s.1 in
      (t.0, t.1, s.2 ∙ ap (λ (a : SpanRow). row_over names names a) t.2 ∙ row_over-row_of names names t.0 (λ x k. k));
  all_there = λ r h. out.all_there r (row_of names h.0, all.all_there (row_of names h.0) (h.0, h.1, refl), h.2 ∙ sym (row_over-row_of names names h.0 (λ x k. k)));
}

-- ---- unions

-- a row over more names, of a mapping that is absent outside the names that it had
widened : (V names : List VarName) (m : Mapping) → ((x : VarName) → (Has V x → ⊥) → m x ≡ None) → row_over V names (row_of V m) ≡ row_of names m
widened V names m out = row_same names (mapping_of V (row_of V m)) m (λ x. by x (has_name V x) refl)
  where
    by : (x : VarName) (b : Bool) → has_name V x ≡ b → mapping_of V (row_of V m) x ≡ m x
    by x true e = mapping_of-row_of V m x (Has-list_any V x e)
    by x false e =
        let no = λ (h : Has V x). false≢true (sym e ∙ list_any-Has V x h) in mapping_of-outside V (row_of V m) x no ∙ sym (out x no)

-- the rows of the mappings of which A or B is true
module _ (V W names : List VarName) (A B : Mapping → Type 0) (a_out : (m : Mapping) → A m → (x : VarName) → (Has V x → ⊥) → m x ≡ None)
    (b_out : (m : Mapping) → B m → (x : VarName) → (Has W x → ⊥) → m x ≡ None) where
  pub union_listed : (lefts rights : List SpanRow) (H : SpanRow → Type 0) → Tells (Has lefts) (IsRowOf A V) → Tells (Has rights) (IsRowOf B W) →
      Tells H (IsUnited names V W lefts rights) → Tells H (IsRowOf (λ m. A m ⊎ B m) names)
  union_listed lefts rights H left right all = record {
    each_so = λ r h. elim (all.each_so r h) as (λ _. IsRowOf (λ m. A m ⊎ B m) names r) [
      | inl a ↦ (let s = left.each_so a.0 a.1 in (s.0, inl s.1, a.2 ∙ ap (λ (l : SpanRow). row_over V names l) s.2 ∙ widened V names s.0 (a_out s.0 s.1)))
      | inr b ↦ (let s = right.each_so b.0 b.1 in (s.0, inr s.1, b.2 ∙ ap (λ (l : SpanRow). row_over W names l) s.2 ∙ widened W names s.0 (b_out s.0 s.1)))
    ];
    all_there = λ r h. all.all_there r (elim h.1 as (λ _. IsUnited names V W lefts rights r) [
      | inl a ↦ inl (row_of V h.0, left.all_there (row_of V h.0) (h.0, a, refl), h.2 ∙ sym (widened V names h.0 (a_out h.0 a)))
      | inr b ↦ inr (row_of W h.0, right.all_there (row_of W h.0) (h.0, b, refl), h.2 ∙ sym (widened W names h.0 (b_out h.0 b)))
    ]);
  }

-- ---- differences

-- the rows of the mappings of which A is true and B is not
module _ (names : List VarName) (A B : Mapping → Type 0) (a_out : (m : Mapping) → A m → (x : VarName) → (Has names x → ⊥) → m x ≡ None)
    (b_out : (m : Mapping) → B m → (x : VarName) → (Has names x → ⊥) → m x ≡ None) where
  told : (m : Mapping) → ((x : VarName) → (Has names x → ⊥) → m x ≡ None) → (x : VarName) → mapping_of names (row_of names m) x ≡ m x
  told m out x = by (has_name names x) refl
    where
      by : (b : Bool) → has_name names x ≡ b → mapping_of names (row_of names m) x ≡ m x
      by true e = mapping_of-row_of names m x (Has-list_any names x e)
      by false e =
          let none = λ (h : Has names x). false≢true (sym e ∙ list_any-Has names x h) in mapping_of-outside names (row_of names m) x none ∙ sym (out x none)

  one_row : (m n : Mapping) → A m → B n → row_of names m ≡ row_of names n → n ≡ m
  one_row m n a b e = λ i x. path x i
    where
      path : (x : VarName) → n x ≡ m x
      path x = sym (told n (b_out n b) x) ∙ (ap (λ (r : SpanRow). mapping_of names r x) (sym e) ∙ told m (a_out m a) x)

  pub left_listed : (lefts rights : List SpanRow) (H : SpanRow → Type 0) → Tells (Has lefts) (IsRowOf A names) →
      Tells (Has rights) (IsRowOf B names) → Tells H (IsLeft lefts rights) → Tells H (IsRowOf (λ m. A m × ¬ B m) names)
  left_listed lefts rights H left right all = record {
    each_so = λ r h.
        let s = all.each_so r h in
        let t = left.each_so r s.0 in
        (t.0, (t.1, λ b. s.1 (right.all_there r (t.0, b, t.2))), t.2);
    all_there = λ r h.
        all.all_there r (left.all_there r (h.0, h.1.0, h.2), λ k. let u = right.each_so r k in h.1.1 (subst B (one_row h.0 u.0 h.1.0 u.1 (sym h.2 ∙ u.2)) u.1));
  }

-- rows of a table are over its names
pub whole_rows : (V : VarName → Type 0) (A : Mapping → Type 0) (names : List VarName) (rows : List SpanRow) → IsTable V A names rows → (r : SpanRow) → Has rows r → row_over names names r ≡ r
whole_rows V A names rows t r h =
    let s = t.listed.each_so r h in ap (row_over names names) s.2 ∙ (row_over-row_of names names s.0 (λ x k. k) ∙ sym s.2)
