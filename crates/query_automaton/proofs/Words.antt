-- What the automaton of an expression accepts, operation by operation.
use Rattle.std.proofs.Common.{◌≡◌, ℕ, ◌≤◌, ◌⊎◌, ◌↔◌, Bool, true, false, List, length, Option, Some, None, inl, inr, refl, sym, ap, subst, arith, ◌∙◌}
use Rattle.std.specs.Prelude.{if◌then◌else◌, IsTrue}
use Rattle.std.proofs.lemmas.Bool.{cases_lt}
use Rattle.std.specs.Option.{ForSome}
use Rattle.span_core.specs.declared.span.Span.{Span}
use Rattle.span_core.specs.Block.{block}
use Rattle.span_core.specs.NameSets.{Ascending, has_name}
use Rattle.span_core.specs.Lists.{Has}
use Rattle.spanner_model.specs.Captures.{VarName, Mapping, row_of}
use Rattle.spanner_model.specs.Answer.{IsRestriction}
use Rattle.spanner_model.proofs.CapturesLaws.{row_same_on}
use Rattle.spanner_model.proofs.Ends.{EndsBy}
use Rattle.spanner_model.proofs.NameLaws.{Has-list_any, ascending-distinct, list_any-Has, same_names}
use Rattle.marked_automaton.specs.Automaton.{Accepts, IsWhole, Marked}
use Rattle.marked_automaton.specs.Marks.{left_of}
use Rattle.marked_automaton.proofs.Erasing.{erasing_law}
use Rattle.marked_automaton.proofs.Projections.{projection_law}
use Rattle.place_automaton.specs.Words.{IsWordOf}
use Rattle.algebra.specs.JoinedMarks.{agree_on, joined}
use Rattle.algebra.specs.JoinedNames.{all_names}
use Rattle.algebra.specs.Uniting.{IsAcceptedOver}
use Rattle.algebra.proofs.Alike.{remarked_whole}
use Rattle.algebra.proofs.RowLaws.{blocks_agree, blocks_are_joined}
use Rattle.algebra.proofs.UnionsOver.{union_over_law, union_over_whole}
use Rattle.algebra.proofs.Joins.{join_law}
use Rattle.algebra.proofs.Whole.{join_whole}
use Rattle.algebra.specs.Rows.{LiesWithin, merged}
use Rattle.algebra.proofs.NamesLaws.{all_ascend, all_are}
use Rattle.algebra_minus.specs.Difference.{IsDifference}
use Rattle.algebra_minus.specs.DifferenceOf.{difference_of}
use Rattle.algebra_minus.proofs.DifferenceMade.{difference_made}
use Rattle.algebra_minus.proofs.Words.{difference_law}
use Rattle.query_automaton.specs.QueryAutomaton.{of_union, of_join, of_minus, of_projection}

-- M is an automaton for these answers, which give spans to the variables of P alone
pub record IsFor (d : List ℕ) (P : VarName → Type 0) (A : Mapping → Type 0) (M : Marked) : Type 0 where
  pub whole : IsWhole M.graph
  pub ascending : Ascending M.names
  pub names : (x : VarName) → Has M.names x ↔ P x
  pub absent : (m : Mapping) → A m → (x : VarName) → (P x → ⊥) → m x ≡ None
  pub ends : (m : Mapping) → A m → EndsBy (length d) m
  pub respects : (m n : Mapping) → ((x : VarName) → m x ≡ n x) → A m → A n
  pub words : (w : ℕ → ℕ) → Accepts M.graph d w ↔ ((m : Mapping) × A m × IsWordOf (row_of M.names m) d w)

pub for_same : (d : List ℕ) (P Q : VarName → Type 0) (A B : Mapping → Type 0) (M : Marked) →
    ((x : VarName) → P x ↔ Q x) → ((m : Mapping) → A m ↔ B m) → IsFor d P A M → IsFor d Q B M
for_same d P Q A B M vars answers h = record {
  whole = h.whole;
  ascending = h.ascending;
  names = λ x. (λ a. (vars x).0 ((h.names x).0 a), λ a. (h.names x).1 ((vars x).1 a));
  absent = λ m b x out. h.absent m ((answers m).1 b) x (λ p. out ((vars x).0 p));
  ends = λ m b. h.ends m ((answers m).1 b);
  respects = λ m n same b. (answers n).0 (h.respects m n same ((answers m).1 b));
  words = λ w. (
    λ a. let r = (h.words w).0 a in (r.0, (answers r.0).0 r.1, r.2),
    λ r. (h.words w).1 (r.0, (answers r.0).1 r.1, r.2),
  );
}

restriction_same : (R : VarName → Type 0) (n m k : Mapping) → ((x : VarName) → m x ≡ k x) → IsRestriction R n m → IsRestriction R n k
restriction_same R n m k e h x = (λ r. sym (e x) ∙ (h x).0 r, λ out. sym (e x) ∙ (h x).1 out)

restriction_of_same : (R : VarName → Type 0) (m k n : Mapping) → ((x : VarName) → m x ≡ k x) → IsRestriction R m n → IsRestriction R k n
restriction_of_same R m k n e h x = (λ r. (h x).0 r ∙ e x, (h x).1)

-- ---- union

module _ (d : List ℕ) (P : VarName → Type 0) (A : Mapping → Type 0) (M : Marked) (a : IsFor d P A M) (all : List VarName) where
  -- over any names, the block of an answer is what is left of its block
  left_over : (m : Mapping) → A m → (p : ℕ) → left_of M.names all (block (row_of M.names m) p) ≡ block (row_of all m) p
  left_over m h p = erasing_law M.names all m (λ x k. here x (has_name M.names x) refl) p
    where
      here : (x : VarName) → (b : Bool) → has_name M.names x ≡ b → Has M.names x ⊎ (m x ≡ None)
      here x true at = inl (Has-list_any M.names x at)
      here x false at = inr (a.absent m h x (λ p. let e : true ≡ false = sym (list_any-Has M.names x ((a.names x).1 p)) ∙ at in absurd (cc)))

  over_there : (w : ℕ → ℕ) → IsAcceptedOver all M d w → (m : Mapping) × A m × IsWordOf (row_of all m) d w
  over_there w h =
      let r = (a.words h.0).0 h.1 in
      (r.0, r.1, λ p l. h.2 p l ∙ (ap (left_of M.names all) (r.2 p l) ∙ left_over r.0 r.1 p))

  over_back : (w : ℕ → ℕ) → (m : Mapping) × A m × IsWordOf (row_of all m) d w → IsAcceptedOver all M d w
  over_back w h =
      let v : ℕ → ℕ = block (row_of M.names h.0) in
      (v, (a.words v).1 (h.0, h.1, λ p l. refl), λ p l. h.2 p l ∙ sym (left_over h.0 h.1 p))

pub for_union : (d : List ℕ) (P Q : VarName → Type 0) (A B : Mapping → Type 0) (M N : Marked) →
    IsFor d P A M → IsFor d Q B N → IsFor d (λ x. P x ⊎ Q x) (λ m. A m ⊎ B m) (of_union M N)
for_union d P Q A B M N a b = record {
  whole = union_over_whole M N all a.whole b.whole;
  ascending = all_ascend N.names M.names a.ascending;
  names = λ x. (
    λ h. elim ((all_are M.names N.names x).0 h) [ inl f ↦ inl ((a.names x).0 f) | inr s ↦ inr ((b.names x).0 s) ],
    λ h. (all_are M.names N.names x).1 (elim h [ inl f ↦ inl ((a.names x).1 f) | inr s ↦ inr ((b.names x).1 s) ]),
  );
  absent = λ m h x out. elim h [ inl g ↦ a.absent m g x (λ p. out (inl p)) | inr g ↦ b.absent m g x (λ q. out (inr q)) ];
  ends = λ m h. elim h [ inl g ↦ a.ends m g | inr g ↦ b.ends m g ];
  respects = λ m n e h. elim h [ inl g ↦ inl (a.respects m n e g) | inr g ↦ inr (b.respects m n e g) ];
  words = λ w. (
    λ h. elim ((union_over_law M N all a.whole b.whole d w).0 h) [
      | inl g ↦ let r = over_there d P A M a all w g in (r.0, inl r.1, r.2)
      | inr g ↦ let r = over_there d Q B N b all w g in (r.0, inr r.1, r.2)
    ],
    λ h. (union_over_law M N all a.whole b.whole d w).1 (elim h.1 [
      | inl g ↦ inl (over_back d P A M a all w (h.0, g, h.2))
      | inr g ↦ inr (over_back d Q B N b all w (h.0, g, h.2))
    ]),
  );
}
  where
    all : List VarName
    all = all_names M.names N.names

-- ---- projection

pub for_projection : (d : List ℕ) (P : VarName → Type 0) (A : Mapping → Type 0) (names : List VarName) (M : Marked) →
    Ascending names → ((x : VarName) → Has names x → P x) → IsFor d P A M →
    IsFor d (Has names) (λ m. (n : Mapping) × A n × IsRestriction (Has names) n m) (of_projection names M)
for_projection d P A names M up sub a = record {
  whole = remarked_whole (left_of M.names names) M.graph a.whole;
  ascending = up;
  names = λ x. (λ h. h, λ h. h);
  absent = λ m h x out. (h.2 x).1 out;
  ends = λ m h x s is. ends m h x s is (has_name names x) refl;
  respects = λ m n e h. (h.0, h.1, restriction_same (Has names) h.0 m n e h.2);
  words = λ w. (there w, back w);
}
  where
    ends : (m : Mapping) → (n : Mapping) × A n × IsRestriction (Has names) n m → (x : VarName) (s : Span) → m x ≡ Some s → (b : Bool) → has_name names x ≡ b → s.end ≤ length d
    ends m h x s is true at = a.ends h.0 h.1 x s (sym ((h.2 x).0 (Has-list_any names x at)) ∙ is)
    ends m h x s is false at =
        let none : m x ≡ None = (h.2 x).1 (λ g. let e : true ≡ false = sym (list_any-Has names x g) ∙ at in absurd (cc)) in
        let both : Some s ≡ None = sym is ∙ none in absurd (cc)

    kept_of : Mapping → Mapping
    kept_of n x = if has_name names x then n x else None

    apart : (n : Mapping) (x : VarName) → (Has names x → ⊥) → (b : Bool) → has_name names x ≡ b → (if b then n x else None) ≡ None
    apart n x out true at = absurd (out (Has-list_any names x at))
    apart n x out false at = refl

    kept_is : (n : Mapping) → IsRestriction (Has names) n (kept_of n)
    kept_is n x = (
      λ h. ap (λ b. if b then n x else None) (list_any-Has names x h),
      λ out. apart n x out (has_name names x) refl,
    )

    erased : (n : Mapping) (p : ℕ) → left_of M.names names (block (row_of M.names n) p) ≡ block (row_of names n) p
    erased n p = erasing_law M.names names n (λ x h. inl ((a.names x).1 (sub x h))) p

    there : (w : ℕ → ℕ) → Accepts (of_projection names M).graph d w → (m : Mapping) × ((n : Mapping) × A n × IsRestriction (Has names) n m) × IsWordOf (row_of names m) d w
    there w h =
        let v = (projection_law M.graph (left_of M.names names) d w).0 h in
        let r = (a.words v.0).0 v.1 in
        let rows : row_of names r.0 ≡ row_of names (kept_of r.0) = row_same_on names r.0 (kept_of r.0) (λ x g. sym ((kept_is r.0 x).0 g)) in (
          kept_of r.0,
          (r.0, r.1, kept_is r.0),
          λ p l. v.2 p l ∙ (ap (left_of M.names names) (r.2 p l) ∙ (erased r.0 p ∙ ap (λ (row : List (Option Span)). block row p) rows)),
        )

    back : (w : ℕ → ℕ) → (m : Mapping) × ((n : Mapping) × A n × IsRestriction (Has names) n m) × IsWordOf (row_of names m) d w → Accepts (of_projection names M).graph d w
    back w h =
        let n = h.1.0 in
        let v : ℕ → ℕ = block (row_of M.names n) in
        let rows : row_of names h.0 ≡ row_of names n = row_same_on names h.0 n (λ x g. (h.1.2 x).0 g) in
        (projection_law M.graph (left_of M.names names) d w).1 (
          v,
          (a.words v).1 (n, h.1.1, λ p l. refl),
          λ p l. h.2 p l ∙ (ap (λ (row : List (Option Span)). block row p) rows ∙ sym (erased n p)),
        )

-- ---- join

-- answers of both parts that agree, put together
abbrev pub Together : (VarName → Type 0) → (Mapping → Type 0) → (VarName → Type 0) → (Mapping → Type 0) → Mapping → Type 0
Together P A Q B m =
    (n1 : Mapping) × (n2 : Mapping) × IsRestriction P m n1 × A n1 × IsRestriction Q m n2 × B n2
    × ((x : VarName) → (P x ⊎ Q x → ⊥) → m x ≡ None)

module _ (d : List ℕ) (P Q : VarName → Type 0) (A B : Mapping → Type 0) (M N : Marked)
    (a : IsFor d P A M) (b : IsFor d Q B N) where
  abbrev All : List VarName
  All = all_names M.names N.names

  all_have : (x : VarName) → Has All x ↔ (Has M.names x ⊎ Has N.names x)
  all_have x = all_are M.names N.names x

  within : (R : VarName → Type 0) (C : Mapping → Type 0) (X : Marked) → IsFor d R C X → (m : Mapping) → C m → LiesWithin (length d) X.names m
  within R C X h m c x g = go (m x) refl
    where
      go : (o : Option Span) → m x ≡ o → ForSome o (λ (s : Span). s.end ≤ length d)
      go None at = λ s e. absurd (cc)
      go (Some s) at = λ t e. let same : s ≡ t = cc in rw (← same) (h.ends m c x s at)

  -- what the words of the parts are together
  joined_row : (n1 n2 : Mapping) (p : ℕ) →
      joined M.names N.names All (block (row_of M.names n1) p) (block (row_of N.names n2) p) ≡ block (row_of All (merged M.names n1 n2)) p
  joined_row n1 n2 p = blocks_are_joined M.names N.names All (ascending-distinct M.names a.ascending) (ascending-distinct N.names b.ascending) all_have n1 n2 p

  agree_where : (n1 n2 : Mapping) → A n1 → B n2 →
      ((p : ℕ) → p ≤ length d → IsTrue (agree_on M.names N.names All (block (row_of M.names n1) p) (block (row_of N.names n2) p)))
      ↔ ((x : VarName) → Has M.names x → Has N.names x → n1 x ≡ n2 x)
  agree_where n1 n2 h g =
      blocks_agree M.names N.names All (ascending-distinct M.names a.ascending) (ascending-distinct N.names b.ascending) all_have n1 n2 (length d)
      (within P A M a n1 h) (within Q B N b n2 g)

  -- a merged mapping, restricted
  merged_first : (n1 n2 : Mapping) → A n1 → IsRestriction P (merged M.names n1 n2) n1
  merged_first n1 n2 h x = (
    λ p. sym (ap (λ c. if c then n1 x else n2 x) (list_any-Has M.names x ((a.names x).1 p))),
    λ out. a.absent n1 h x out,
  )

  merged_second : (n1 n2 : Mapping) → B n2 → ((x : VarName) → Has M.names x → Has N.names x → n1 x ≡ n2 x) → IsRestriction Q (merged M.names n1 n2) n2
  merged_second n1 n2 g shared x = (λ q. by (has_name M.names x) refl q, λ out. b.absent n2 g x out)
    where
      by : (c : Bool) → has_name M.names x ≡ c → Q x → n2 x ≡ (if has_name M.names x then n1 x else n2 x)
      by true at q = sym (shared x (Has-list_any M.names x at) ((b.names x).1 q)) ∙ sym (ap (λ c. if c then n1 x else n2 x) at)
      by false at q = sym (ap (λ c. if c then n1 x else n2 x) at)

  merged_outside : (n1 n2 : Mapping) → B n2 → (x : VarName) → (P x ⊎ Q x → ⊥) → merged M.names n1 n2 x ≡ None
  merged_outside n1 n2 g x out = by (has_name M.names x) refl
    where
      by : (c : Bool) → has_name M.names x ≡ c → (if has_name M.names x then n1 x else n2 x) ≡ None
      by true at = absurd (out (inl ((a.names x).0 (Has-list_any M.names x at))))
      by false at = ap (λ c. if c then n1 x else n2 x) at ∙ b.absent n2 g x (λ q. out (inr q))

  -- the row of a mapping is that of its merged restrictions
  row_merged : (m n1 n2 : Mapping) → IsRestriction P m n1 → IsRestriction Q m n2 → row_of All m ≡ row_of All (merged M.names n1 n2)
  row_merged m n1 n2 h g = row_same_on All m (merged M.names n1 n2) (λ x i. by x i (has_name M.names x) refl)
    where
      by : (x : VarName) → Has All x → (c : Bool) → has_name M.names x ≡ c → m x ≡ (if has_name M.names x then n1 x else n2 x)
      by x i true at = sym ((h x).0 ((a.names x).0 (Has-list_any M.names x at))) ∙ sym (ap (λ c. if c then n1 x else n2 x) at)
      by x i false at =
          elim ((all_have x).0 i) [
            | inl f ↦ let e : true ≡ false = sym (list_any-Has M.names x f) ∙ at in absurd (cc)
            | inr s ↦ sym ((g x).0 ((b.names x).0 s)) ∙ sym (ap (λ c. if c then n1 x else n2 x) at)
          ]

  abbrev Words : (ℕ → ℕ) → Type 0
  Words w = (m : Mapping) × Together P A Q B m × IsWordOf (row_of All m) d w

  there : (w : ℕ → ℕ) → Accepts (of_join M N).graph d w → Words w
  there w h =
      let r = (join_law (agree_on M.names N.names All) (joined M.names N.names All) M.graph N.graph a.whole b.whole d w).0 h in
      let u = (a.words r.0).0 r.2 in
      let v = (b.words r.1).0 r.3 in
      let agreeing : (p : ℕ) → p ≤ length d → IsTrue (agree_on M.names N.names All (block (row_of M.names u.0) p) (block (row_of N.names v.0) p)) =
      λ p l. rw (← v.2 p l)
      (rw (← u.2 p l) (r.4 p l).0) in
      let shared = (agree_where u.0 v.0 u.1 v.1).0 agreeing in (
        merged M.names u.0 v.0,
        (u.0, v.0, merged_first u.0 v.0 u.1, u.1, merged_second u.0 v.0 v.1 shared, v.1, merged_outside u.0 v.0 v.1),
        λ p l. (r.4 p l).1
            ∙ (ap (λ k. joined M.names N.names All k (r.1 p)) (u.2 p l)
            ∙ (ap (joined M.names N.names All (block (row_of M.names u.0) p)) (v.2 p l) ∙ joined_row u.0 v.0 p)),
      )

  back : (w : ℕ → ℕ) → Words w → Accepts (of_join M N).graph d w
  back w h =
      let t = h.1 in
      let u : ℕ → ℕ = block (row_of M.names t.0) in
      let v : ℕ → ℕ = block (row_of N.names t.1) in
      let shared : (x : VarName) → Has M.names x → Has N.names x → t.0 x ≡ t.1 x =
      λ x f s. (t.2 x).0 ((a.names x).0 f) ∙ sym ((t.4 x).0 ((b.names x).0 s)) in
      (join_law (agree_on M.names N.names All) (joined M.names N.names All) M.graph N.graph a.whole b.whole d w).1 (
        u,
        v,
        (a.words u).1 (t.0, t.3, λ p l. refl),
        (b.words v).1 (t.1, t.5, λ p l. refl),
        λ p l. (
          (agree_where t.0 t.1 t.3 t.5).1 shared p l,
          h.2 p l ∙ (ap (λ (row : List (Option Span)). block row p) (row_merged h.0 t.0 t.1 t.2 t.4) ∙ sym (joined_row t.0 t.1 p)),
        ),
      )

  pub for_join : IsFor d (λ x. P x ⊎ Q x) (Together P A Q B) (of_join M N)
  for_join = record {
    whole = join_whole M.graph N.graph a.whole b.whole (agree_on M.names N.names All) (joined M.names N.names All);
    ascending = all_ascend N.names M.names a.ascending;
    names = λ x. (
      λ h. elim ((all_have x).0 h) [ inl f ↦ inl ((a.names x).0 f) | inr s ↦ inr ((b.names x).0 s) ],
      λ h. (all_have x).1 (elim h [ inl f ↦ inl ((a.names x).1 f) | inr s ↦ inr ((b.names x).1 s) ]),
    );
    absent = λ m h x out. h.6 x out;
    ends = ends;
    respects = λ m n e h. (
      h.0,
      h.1,
      restriction_of_same P m n h.0 e h.2,
      h.3,
      restriction_of_same Q m n h.1 e h.4,
      h.5,
      λ x out. sym (e x) ∙ h.6 x out,
    );
    words = λ w. (there w, back w);
  }
    where
      outside : (m : Mapping) → Together P A Q B m → (x : VarName) (s : Span) → m x ≡ Some s → (s.end ≤ length d → ⊥) → P x ⊎ Q x → ⊥
      outside m h x s is never (inl p) = never (a.ends h.0 h.3 x s ((h.2 x).0 p ∙ is))
      outside m h x s is never (inr q) = never (b.ends h.1 h.5 x s ((h.4 x).0 q ∙ is))

      ends : (m : Mapping) → Together P A Q B m → EndsBy (length d) m
      ends m h x s is =
          elim (cases_lt (length d) s.end) [
            | inr le ↦ le
            | inl past ↦
                let none : m x ≡ None = h.6 x (outside m h x s is (λ le. omega (arith, le, past))) in
                let both : Some s ≡ None = sym is ∙ none in absurd (cc)
          ]

-- ---- difference

module _ (d : List ℕ) (P Q : VarName → Type 0) (A B : Mapping → Type 0) (M N : Marked) (same : (x : VarName) → P x ↔ Q x)
    (a : IsFor d P A M) (b : IsFor d Q B N) where
  names_same : M.names ≡ N.names
  names_same =
      same_names M.names N.names a.ascending b.ascending (λ x h. (b.names x).1 ((same x).0 ((a.names x).0 h))) (λ x h. (a.names x).1 ((same x).1 ((b.names x).0 h)))

  -- answers that have the same word are the same
  one_answer : (w : ℕ → ℕ) (m n : Mapping) → A m → B n → IsWordOf (row_of M.names m) d w → IsWordOf (row_of N.names n) d w → (x : VarName) → n x ≡ m x
  one_answer w m n g h u v x = by (has_name M.names x) refl
    where
      agreeing : (p : ℕ) → p ≤ length d → IsTrue (agree_on M.names N.names (all_names M.names N.names) (block (row_of M.names m) p) (block (row_of N.names n) p))
      agreeing p l =
          let itself = (agree_where d P P A A M M a a m m g g).1 (λ y i j. refl) p l in
          let blocks : block (row_of M.names m) p ≡ block (row_of N.names n) p = sym (u p l) ∙ v p l in
          subst (λ (ns : List VarName). IsTrue (agree_on M.names ns (all_names M.names ns) (block (row_of M.names m) p) (block (row_of N.names n) p))) names_same
          (subst (λ k. IsTrue (agree_on M.names M.names (all_names M.names M.names) (block (row_of M.names m) p) k)) blocks itself)

      by : (c : Bool) → has_name M.names x ≡ c → n x ≡ m x
      by true at =
          let i = Has-list_any M.names x at in
          sym ((agree_where d P Q A B M N a b m n g h).0 agreeing x i (rw (← names_same) i))
      by false at =
          let out : P x → ⊥ = λ p. let e : true ≡ false = sym (list_any-Has M.names x ((a.names x).1 p)) ∙ at in absurd (cc) in
          b.absent n h x (λ q. out ((same x).1 q)) ∙ sym (a.absent m g x out)

  made : IsDifference M.graph N.graph (difference_of M.graph N.graph)
  made = difference_made M.graph N.graph a.whole b.whole

  minus_there : (w : ℕ → ℕ) → Accepts (difference_of M.graph N.graph) d w → (m : Mapping) × (A m × ¬ B m) × IsWordOf (row_of M.names m) d w
  minus_there w h =
      let t = (difference_law M.graph N.graph (difference_of M.graph N.graph) made d w).0 h in
      let r = (a.words w).0 t.0 in
      (r.0, (r.1, λ k. t.1 ((b.words w).1 (r.0, k, subst (λ (ns : List VarName). IsWordOf (row_of ns r.0) d w) names_same r.2))), r.2)

  minus_back : (w : ℕ → ℕ) → (m : Mapping) × (A m × ¬ B m) × IsWordOf (row_of M.names m) d w → Accepts (difference_of M.graph N.graph) d w
  minus_back w h =
      (difference_law M.graph N.graph (difference_of M.graph N.graph) made d w).1
      ((a.words w).1 (h.0, h.1.0, h.2), λ accepted. let s = (b.words w).0 accepted in h.1.1 (b.respects s.0 h.0 (one_answer w h.0 s.0 h.1.0 s.1 h.2 s.2) s.1))

  pub for_minus : IsFor d P (λ m. A m × ¬ B m) (of_minus M N)
  for_minus = record {
    whole = made.4.whole;
    ascending = a.ascending;
    names = a.names;
    absent = λ m h. a.absent m h.0;
    ends = λ m h. a.ends m h.0;
    respects = λ m n e h. (a.respects m n e h.0, λ k. h.1 (b.respects n m (λ x. sym (e x)) k));
    words = λ w. (minus_there w, minus_back w);
  }
