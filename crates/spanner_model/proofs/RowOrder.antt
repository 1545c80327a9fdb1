-- Lists in order, pages, and that both are determined.
use Rattle.std.proofs.Common.{◌≡◌, ℕ, zero, suc, ◌+◌, ◌-◌, ◌<◌, Bool, true, false, List, [], ◌∷◌, ◌++◌, length, take, drop, Option, Some, None, IsTrue, inl, inr, refl, sym, ap, ◌∙◌, subst, arith, append_assoc, length-drop}
use Rattle.std.proofs.Math.Seq.{take-add}
use Rattle.std.proofs.lemmas.Bool.{cases_lt}
use Rattle.std.proofs.lemmas.List.{take-append-drop}
use Rattle.span_core.specs.Block.{block}
use Rattle.span_core.specs.Order.{StandsBefore}
use Rattle.span_core.specs.Lists.{Has, IsInOrder}
use Rattle.spanner_model.specs.Captures.{VarName}
use Rattle.spanner_model.specs.Expression.{QueryTree}
use Rattle.spanner_model.specs.Answers.{SpanRow, AreInBlockOrder, AreAnswers, IsRest, IsPage, page_end}
use Rattle.span_core.proofs.HasLaws.{Has-append_right, Has-append_cases}
use Rattle.span_core.proofs.ListLaws.{all_has, same_in_order}

-- ---- of two rows one stands before the other at most

pub not_both : (a b : SpanRow) → StandsBefore a b → StandsBefore b a → ⊥
not_both a b h g =
    elim (cases_lt h.at g.at) [
      | inl lt ↦ (let e = g.same_below h.at lt in omega (arith, e, h.greater))
      | inr ge ↦ elim (cases_lt g.at h.at) [
        | inl lt ↦ (let e = h.same_below g.at lt in omega (arith, e, g.greater))
        | inr ge' ↦ (let e : h.at ≡ g.at = omega arith in let f = subst (λ (p : ℕ). block b p < block a p) e h.greater in omega (arith, f, g.greater))
      ]
    ]

-- ---- lists in an order

module _ {X : Type 0} (Before : X → X → Type 0) (apart : (x y : X) → Before x y → Before y x → ⊥) where
  -- what is in the front stands before what is behind
  pub front_before : (xs ys : List X) (x y : X) → IsInOrder Before (xs ++ ys) → Has xs x → Has ys y → Before x y
  front_before [] ys x y up h g = absurd h
  front_before (z ∷ xs) ys x y up (inl e) g = subst (λ w. Before w y) e (all_has (Before z) (xs ++ ys) y up.0 (Has-append_right xs ys y g))
  front_before (z ∷ xs) ys x y up (inr h) g = front_before xs ys x y up.1 h g

-- a list is cut in one way where P is of what is behind, and not of what is in front
pub cut_once : {X : Type 0} (P : X → Type 0) (f g r s : List X) → f ++ r ≡ g ++ s → ((x : X) → Has f x → P x → ⊥) → ((x : X) → Has r x → P x) →
    ((x : X) → Has g x → P x → ⊥) → ((x : X) → Has s x → P x) → r ≡ s
cut_once P [] [] r s e nf ar ng as_ = e
cut_once {X} P [] (y ∷ g) r s e nf ar ng as_ = absurd (ng y (inl refl) (ar y (subst (λ (xs : List X). Has xs y) (sym e) (inl refl))))
cut_once {X} P (x ∷ f) [] r s e nf ar ng as_ = absurd (nf x (inl refl) (as_ x (subst (λ (xs : List X). Has xs x) e (inl refl))))
cut_once P (x ∷ f) (y ∷ g) r s e nf ar ng as_ = cut_once P f g r s (let t : f ++ r ≡ g ++ s = cc in t) (λ z h. nf z (inr h)) ar (λ z h. ng z (inr h)) as_

-- ---- answers and pages

pub answers_one : (q : QueryTree) (d : List ℕ) (names : List VarName) (rows others : List SpanRow) → AreAnswers q d names rows → AreAnswers q d names others → rows ≡ others
answers_one q d names rows others a b =
    same_in_order StandsBefore not_both rows others a.in_order b.in_order (λ r h. b.all_there r (a.each_answers r h)) (λ r h. a.all_there r (b.each_answers r h))

pub rest_one : (after : Option SpanRow) (rows rest other : List SpanRow) → IsRest after rows rest → IsRest after rows other → rest ≡ other
rest_one None rows rest other h g = h ∙ sym g
rest_one (Some after) rows rest other h g = cut_once (StandsBefore after) h.0 g.0 rest other (sym h.1 ∙ g.1) h.2 h.3 g.2 g.3

pub rest_front : (after : Option SpanRow) (rows rest : List SpanRow) → IsRest after rows rest → (front : List SpanRow) × (rows ≡ front ++ rest)
rest_front None rows rest h = ([], sym h)
rest_front (Some after) rows rest h = (h.0, h.1)

same_bool : (a b : Bool) → (IsTrue a → IsTrue b) → (IsTrue b → IsTrue a) → a ≡ b
same_bool true true f g = refl
same_bool true false f g = sym (f refl)
same_bool false true f g = g refl
same_bool false false f g = refl

pub pages_one : (q : QueryTree) (d : List ℕ) (names : List VarName) (after : Option SpanRow) (limit : ℕ) (page other : List SpanRow) (more more' : Bool) →
    IsPage q d names after limit page more → IsPage q d names after limit other more' → (page ≡ other) × (more ≡ more')
pages_one q d names after limit page other more more' h g =
    let rows = answers_one q d names h.0 g.0 h.2 g.2 in
    let rest = rest_one after g.0 h.1 g.1 (subst (λ (rs : List SpanRow). IsRest after rs h.1) rows h.3) g.3 in (
      h.4 ∙ ap (take limit) rest ∙ sym g.4,
      same_bool more more' (λ t. g.5.1 (subst (λ (rs : List SpanRow). limit < length rs) rest (h.5.0 t))) (λ t. h.5.1 (subst (λ (rs : List SpanRow). limit < length rs) (sym rest) (g.5.0 t))),
    )

-- the last row of a page that is not empty
last_split : (r : SpanRow) (page : List SpanRow) (after : Option SpanRow) → (front : List SpanRow) × (last : SpanRow) × (r ∷ page ≡ front ++ last ∷ []) × (page_end (r ∷ page) after ≡ Some last)
last_split r [] after = ([], r, refl, refl)
last_split r (s ∷ page) after = let l = last_split s page (Some r) in (r ∷ l.0, l.1, ap (λ xs. r ∷ xs) l.2, l.3)

drop_of_none : (a : ℕ) (rest : List SpanRow) → take a rest ≡ [] → drop a rest ≡ rest
drop_of_none zero rest e = refl
drop_of_none (suc a) [] e = refl
drop_of_none (suc a) (r ∷ rest) e = absurd (cc)

-- after a page that is not empty there is what it leaves
rest_after : (rows front page left : List SpanRow) (last : SpanRow) → AreInBlockOrder rows → rows ≡ (front ++ last ∷ []) ++ left → IsRest (Some last) rows left
rest_after rows front page left last up e =
    let up' : AreInBlockOrder ((front ++ last ∷ []) ++ left) = subst AreInBlockOrder e up in
    let up'' : AreInBlockOrder (front ++ (last ∷ [] ++ left)) = subst AreInBlockOrder (append_assoc front (last ∷ []) left) up' in (
      front ++ last ∷ [],
      e,
      λ r h b. elim (Has-append_cases front (last ∷ []) r h) [
        | inl a ↦ not_both r last (front_before StandsBefore not_both front (last ∷ [] ++ left) r last up'' a (inl refl)) b
        | inr a ↦ elim a [ inl is ↦ (let c = subst (StandsBefore last) (sym is) b in not_both last last c c) | inr no_more ↦ absurd no_more ]
      ],
      λ r h. front_before StandsBefore not_both (front ++ last ∷ []) left last r up' (Has-append_right front (last ∷ []) last (inl refl)) h,
    )

-- what a page leaves is what stands after its end
page_leaves_by : (page left : List SpanRow) (after : Option SpanRow) (rows rest front : List SpanRow) → AreInBlockOrder rows → IsRest after rows rest → rows ≡ front ++ rest →
    rest ≡ page ++ left → (page ≡ [] → left ≡ rest) → IsRest (page_end page after) rows left
page_leaves_by [] left after rows rest front up h is e none = subst (λ (rs : List SpanRow). IsRest after rows rs) (sym (none refl)) h
page_leaves_by (r ∷ page) left after rows rest front up h is e none =
    let l = last_split r page after in
    let whole : rows ≡ ((front ++ l.0) ++ l.1 ∷ []) ++ left =
    is ∙ ap (λ xs. front ++ xs) (e ∙ ap (λ xs. xs ++ left) l.2) ∙ sym (append_assoc front (l.0 ++ l.1 ∷ []) left) ∙ ap (λ xs. xs ++ left) (sym (append_assoc front l.0 (l.1 ∷ []))) in
    subst (λ (o : Option SpanRow). IsRest o rows left) (sym l.3) (rest_after rows (front ++ l.0) page left l.1 up whole)

pub page_leaves : (a : ℕ) (after : Option SpanRow) (rows rest : List SpanRow) → AreInBlockOrder rows → IsRest after rows rest → IsRest (page_end (take a rest) after) rows (drop a rest)
page_leaves a after rows rest up h =
    let f = rest_front after rows rest h in
    page_leaves_by (take a rest) (drop a rest) after rows rest f.0 up h f.1 (sym (take-append-drop a rest)) (drop_of_none a rest)

pub take_both : (a b : ℕ) (rest : List SpanRow) → take a rest ++ take b (drop a rest) ≡ take (a + b) rest
take_both a b rest = sym (take-add a b rest)

pub pages_join : (q : QueryTree) (d : List ℕ) (names : List VarName) (after : Option SpanRow) (a b : ℕ) (page next : List SpanRow) (more more' : Bool) →
    IsPage q d names after a page more → IsPage q d names (page_end page after) b next more' → IsPage q d names after (a + b) (page ++ next) more'
pages_join q d names after a b page next more more' h g =
    let rows = answers_one q d names g.0 h.0 g.2 h.2 in
    let ends = ap (λ (p : List SpanRow). page_end p after) h.4 in
    let g3 : IsRest (page_end (take a h.1) after) h.0 g.1 = subst (λ (o : Option SpanRow). IsRest o h.0 g.1) ends (subst (λ (rs : List SpanRow). IsRest (page_end page after) rs g.1) rows g.3) in
    let left : g.1 ≡ drop a h.1 = rest_one (page_end (take a h.1) after) h.0 g.1 (drop a h.1) g3 (page_leaves a after h.0 h.1 h.2.in_order h.3) in
    let count : length g.1 ≡ length h.1 - a = ap length left ∙ length-drop a h.1 in (
      h.0,
      h.1,
      h.2,
      h.3,
      ap (λ p. p ++ next) h.4 ∙ ap (λ p. take a h.1 ++ p) (g.4 ∙ ap (take b) left) ∙ take_both a b h.1,
      (λ t. omega (arith, g.5.0 t, count), λ t. g.5.1 (omega (arith, t, count))),
    )
