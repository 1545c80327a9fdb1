-- What numbers in order are cut into: for each of the marks the targets.
use Rattle.std.proofs.Common.{◌≡◌, ℕ, ◌^◌, ◌<◌, ◌≤◌, Bool, true, false, List, [], ◌∷◌, map, inl, inr, refl, sym, ap, subst, arith, ◌∙◌}
use Rattle.std.specs.Prelude.{if◌then◌else◌, nat_eq}
use Rattle.std.specs.List.{filter}
use Rattle.std.proofs.lemmas.Bool.{eqb-true, eqb-false, eq-eqb, cases_lt}
use Rattle.span_core.specs.Lists.{Has, IsInOrder}
use Rattle.span_core.proofs.HasLaws.{Has-map, Has-map_cases}
use Rattle.span_core.proofs.ListLaws.{all_has}
use Rattle.marked_automaton.specs.declared.way.Way.{Way}
use Rattle.automaton_reading.specs.Reading.{Reach, reach_with, set_of, blocks_down}
use Rattle.automaton_reading.proofs.Determined.{set_has, has_set}
use Rattle.marked_automaton.proofs.Passing.{filter_cases, has_filter}
use Rattle.set_table.specs.Cut.{code, code_of, marks_of, to_of, one_reach, join, cut}
use Rattle.automaton_reading.proofs.Ascending.{has_all, Above, set_is, blocks_are, set_in_order}

abbrev pub marks_in : List Reach → List ℕ
marks_in es = map (λ (e : Reach). e.marks) es

-- the numbers of ways
pub marks_of_code : (m t : ℕ) → m < 2 ^ 64 → t < 2 ^ 32 → marks_of (code m t) ≡ m
marks_of_code m t l h = omega arith

pub to_of_code : (m t : ℕ) → t < 2 ^ 32 → to_of (code m t) ≡ t
to_of_code m t h = omega arith

marks_fall : (n k : ℕ) → n < k → marks_of k ≤ marks_of n
marks_fall n k l = omega arith

targets_rise : (n k : ℕ) → n < k → k < 2 ^ 96 → marks_of n ≡ marks_of k → to_of n < to_of k
targets_rise n k l h e = omega arith

-- what a number is put before, by the marks of what comes first
pub join_same : (n : ℕ) (e : Reach) (es : List Reach) → marks_of n ≡ e.marks → join n (e ∷ es) ≡ record { marks = e.marks; to = to_of n ∷ e.to } ∷ es
join_same n e es h = ap (λ (b : Bool). if b then record { marks = e.marks; to = to_of n ∷ e.to } ∷ es else one_reach n ∷ e ∷ es) (eq-eqb (marks_of n) e.marks h)

pub join_other : (n : ℕ) (e : Reach) (es : List Reach) → nat_eq (marks_of n) e.marks ≡ false → join n (e ∷ es) ≡ one_reach n ∷ e ∷ es
join_other n e es h = ap (λ (b : Bool). if b then record { marks = e.marks; to = to_of n ∷ e.to } ∷ es else one_reach n ∷ e ∷ es) h

-- what is in a list with one number more
pub data Joined (n : ℕ) (es : List Reach) (f : Reach) : Type 0 where
  alone : f ≡ one_reach n → Joined n es f
  longer : (e : Reach) → Has es e → marks_of n ≡ e.marks → f ≡ record { marks = e.marks; to = to_of n ∷ e.to } → Joined n es f
  there : Has es f → Joined n es f

joined : (n : ℕ) (es : List Reach) (f : Reach) → Has (join n es) f → Joined n es f
joined n [] f (inl h) = alone (sym h)
joined n [] f (inr h) = absurd h
joined n (e ∷ es) f h = go (nat_eq (marks_of n) e.marks) refl h
  where
    go : (b : Bool) → nat_eq (marks_of n) e.marks ≡ b → Has (if b then record { marks = e.marks; to = to_of n ∷ e.to } ∷ es else one_reach n ∷ e ∷ es) f → Joined n (e ∷ es) f
    go true t (inl g) = longer e (inl refl) (eqb-true (marks_of n) e.marks t) (sym g)
    go true t (inr g) = there (inr g)
    go false t (inl g) = alone (sym g)
    go false t (inr g) = there g

-- some element has the number's marks and target
join_has : (n : ℕ) (es : List Reach) → (f : Reach) × Has (join n es) f × (f.marks ≡ marks_of n) × Has f.to (to_of n)
join_has n [] = (one_reach n, inl refl, refl, inl refl)
join_has n (e ∷ es) = go (nat_eq (marks_of n) e.marks) refl
  where
    go : (b : Bool) → nat_eq (marks_of n) e.marks ≡ b →
        (f : Reach) × Has (if b then record { marks = e.marks; to = to_of n ∷ e.to } ∷ es else one_reach n ∷ e ∷ es) f × (f.marks ≡ marks_of n) × Has f.to (to_of n)
    go true t = (record { marks = e.marks; to = to_of n ∷ e.to }, inl refl, sym (eqb-true (marks_of n) e.marks t), inl refl)
    go false t = (one_reach n, inl refl, refl, inl refl)

-- what was there is there, perhaps with one target more
join_keeps : (n : ℕ) (es : List Reach) (e : Reach) → Has es e → (f : Reach) × Has (join n es) f × (f.marks ≡ e.marks) × ((q : ℕ) → Has e.to q → Has f.to q)
join_keeps n [] e h = absurd h
join_keeps n (x ∷ es) e h = go (nat_eq (marks_of n) x.marks) refl h
  where
    go : (b : Bool) → nat_eq (marks_of n) x.marks ≡ b → Has (x ∷ es) e →
        (f : Reach) × Has (if b then record { marks = x.marks; to = to_of n ∷ x.to } ∷ es else one_reach n ∷ x ∷ es) f × (f.marks ≡ e.marks) × ((q : ℕ) → Has e.to q → Has f.to q)
    go true t (inl g) = (record { marks = x.marks; to = to_of n ∷ x.to }, inl refl, ap (λ (r : Reach). r.marks) g, λ q k. inr (subst (λ (r : Reach). Has r.to q) (sym g) k))
    go true t (inr g) = (e, inr g, refl, λ q k. k)
    go false t g = (e, inr g, refl, λ q k. k)

-- each number has its element
pub cut_has : (ns : List ℕ) (n : ℕ) → Has ns n → (e : Reach) × Has (cut ns) e × (e.marks ≡ marks_of n) × Has e.to (to_of n)
cut_has [] n h = absurd h
cut_has (k ∷ ns) n (inl h) =
    let r = join_has k (cut ns) in
    (r.0, r.1, r.2 ∙ ap marks_of h, subst (Has r.0.to) (ap to_of h) r.3)
cut_has (k ∷ ns) n (inr h) =
    let r = cut_has ns n h in
    let j = join_keeps k (cut ns) r.0 r.1 in
    (j.0, j.1, j.2 ∙ r.2, j.3 (to_of n) r.3)

-- each target of an element is of a number
pub has_cut : (ns : List ℕ) (e : Reach) (q : ℕ) → Has (cut ns) e → Has e.to q → (n : ℕ) × Has ns n × (marks_of n ≡ e.marks) × (to_of n ≡ q)
has_cut [] e q h k = absurd h
has_cut (x ∷ ns) e q h k = go (λ f m l. has_cut ns f q m l) (joined x (cut ns) e h)
  where
    go : ((f : Reach) → Has (cut ns) f → Has f.to q → (n : ℕ) × Has ns n × (marks_of n ≡ f.marks) × (to_of n ≡ q)) →
        Joined x (cut ns) e → (n : ℕ) × Has (x ∷ ns) n × (marks_of n ≡ e.marks) × (to_of n ≡ q)
    go rest (alone is) = elim (subst (λ (r : Reach). Has r.to q) is k) as (λ _. (n : ℕ) × Has (x ∷ ns) n × (marks_of n ≡ e.marks) × (to_of n ≡ q)) [
      | inl t ↦ (x, inl refl, sym (ap (λ (r : Reach). r.marks) is), t)
      | inr t ↦ absurd t
    ]
    go rest (longer f m same is) = elim (subst (λ (r : Reach). Has r.to q) is k) as (λ _. (n : ℕ) × Has (x ∷ ns) n × (marks_of n ≡ e.marks) × (to_of n ≡ q)) [
      | inl t ↦ (x, inl refl, same ∙ sym (ap (λ (r : Reach). r.marks) is), t)
      | inr t ↦ let r = rest f m t in (r.0, inr r.1, r.2 ∙ sym (ap (λ (r : Reach). r.marks) is), r.3)
    ]
    go rest (there m) = let r = rest e m k in (r.0, inr r.1, r.2, r.3)

-- each element is of some number
cut_some : (ns : List ℕ) (e : Reach) → Has (cut ns) e → (n : ℕ) × Has ns n × (marks_of n ≡ e.marks)
cut_some [] e h = absurd h
cut_some (x ∷ ns) e h = go (cut_some ns e) (joined x (cut ns) e h)
  where
    go : (Has (cut ns) e → (n : ℕ) × Has ns n × (marks_of n ≡ e.marks)) → Joined x (cut ns) e → (n : ℕ) × Has (x ∷ ns) n × (marks_of n ≡ e.marks)
    go rest (alone is) = (x, inl refl, sym (ap (λ (r : Reach). r.marks) is))
    go rest (longer f m same is) = (x, inl refl, same ∙ sym (ap (λ (r : Reach). r.marks) is))
    go rest (there m) = let r = rest m in (r.0, inr r.1, r.2)

-- marks descend
pub cut_down : (ns : List ℕ) → IsInOrder ◌<◌ ns → IsInOrder Above (marks_in (cut ns))
cut_down [] h = tt
cut_down (n ∷ ns) h = go (cut ns) (cut_down ns h.1) (λ e m. let r = cut_some ns e m in omega (arith, marks_fall n r.0 (all_has (λ y. n < y) ns r.0 h.0 r.1), r.2))
  where
    go : (es : List Reach) → IsInOrder Above (marks_in es) → ((e : Reach) → Has es e → e.marks ≤ marks_of n) → IsInOrder Above (marks_in (join n es))
    go [] down low = (tt, tt)
    go (e ∷ es) down low = by (nat_eq (marks_of n) e.marks) refl
      where
        by : (b : Bool) → nat_eq (marks_of n) e.marks ≡ b → IsInOrder Above (marks_in (if b then record { marks = e.marks; to = to_of n ∷ e.to } ∷ es else one_reach n ∷ e ∷ es))
        by true t = down
        by false t =
            let other : marks_of n ≡ e.marks → ⊥ = eqb-false (marks_of n) e.marks t in
            let less : e.marks < marks_of n = below (low e (inl refl)) other in (
              has_all (λ m. m < marks_of n) (e.marks ∷ marks_in es) (λ m k. elim k as (λ _. m < marks_of n) [
                | inl f ↦ omega (arith, f, less)
                | inr g ↦ omega (arith, less, all_has (λ y. y < e.marks) (marks_in es) m down.0 g)
              ]),
              down,
            )
          where
            below : {a b : ℕ} → a ≤ b → (b ≡ a → ⊥) → a < b
            below {a} {b} l o = elim (cases_lt a b) as (λ _. a < b) [ inl k ↦ k | inr k ↦ absurd (o (omega (arith, l, k))) ]

-- targets ascend
pub cut_up : (ns : List ℕ) → IsInOrder ◌<◌ ns → ((n : ℕ) → Has ns n → n < 2 ^ 96) → (e : Reach) → Has (cut ns) e → IsInOrder ◌<◌ e.to
cut_up [] h small e m = absurd m
cut_up (x ∷ ns) h small e m = go (λ f k. cut_up ns h.1 (λ n g. small n (inr g)) f k) (joined x (cut ns) e m)
  where
    go : ((f : Reach) → Has (cut ns) f → IsInOrder ◌<◌ f.to) → Joined x (cut ns) e → IsInOrder ◌<◌ e.to
    go rest (alone is) = subst (λ (r : Reach). IsInOrder ◌<◌ r.to) (sym is) (tt, tt)
    go rest (longer f k same is) = subst (λ (r : Reach). IsInOrder ◌<◌ r.to) (sym is) (
      has_all (λ q. to_of x < q) f.to (λ q l. let r = has_cut ns f q k l in
          omega (arith, targets_rise x r.0 (all_has (λ y. x < y) ns r.0 h.0 r.1) (small r.0 (inr r.1)) (same ∙ sym r.2), r.3)),
      rest f k,
    )
    go rest (there k) = rest e k

-- in a list whose marks descend, marks tell elements
pub told_by_marks : (es : List Reach) → IsInOrder Above (marks_in es) → (e f : Reach) → Has es e → Has es f → e.marks ≡ f.marks → e ≡ f
told_by_marks [] down e f h k same = absurd h
told_by_marks (x ∷ es) down e f (inl h) (inl k) same = sym h ∙ k
told_by_marks (x ∷ es) down e f (inl h) (inr k) same =
    let l = all_has (λ y. y < x.marks) (marks_in es) f.marks down.0 (Has-map (λ (r : Reach). r.marks) es f k) in
    absurd (omega (arith, l, same, ap (λ (r : Reach). r.marks) h))
told_by_marks (x ∷ es) down e f (inr h) (inl k) same =
    let l = all_has (λ y. y < x.marks) (marks_in es) e.marks down.0 (Has-map (λ (r : Reach). r.marks) es e h) in
    absurd (omega (arith, l, same, ap (λ (r : Reach). r.marks) k))
told_by_marks (x ∷ es) down e f (inr h) (inr k) same = told_by_marks es down.1 e f h k same

-- a list whose elements are told by their marks
pub all_told : (f : ℕ → Reach) (es : List Reach) → ((e : Reach) → Has es e → e ≡ f e.marks) → es ≡ map f (marks_in es)
all_told f [] h = refl
all_told f (e ∷ es) h = let rest = all_told f es (λ x k. h x (inr k)) in (λ i. h e (inl refl) i ∷ rest i)

-- ways of which a number has room for marks and target
abbrev pub AreNarrow : List Way → Type 0
AreNarrow ways = (y : Way) → Has ways y → (y.marks < 2 ^ 64) × (y.to < 2 ^ 32)

module _ (ways : List Way) (narrow : AreNarrow ways) where
  abbrev Codes : List ℕ
  Codes = set_of (map code_of ways)

  code_there : (y : Way) → Has ways y → Has Codes (code_of y)
  code_there y h = set_has (map code_of ways) (code_of y) (Has-map code_of ways y h)

  way_there : (n : ℕ) → Has Codes n → (y : Way) × Has ways y × (code_of y ≡ n)
  way_there n h = Has-map_cases code_of ways n (has_set (map code_of ways) n h)

  code_marks : (y : Way) → Has ways y → marks_of (code_of y) ≡ y.marks
  code_marks y h = let l = narrow y h in marks_of_code y.marks y.to l.0 l.1

  code_to : (y : Way) → Has ways y → to_of (code_of y) ≡ y.to
  code_to y h = let l = narrow y h in to_of_code y.marks y.to l.1

  code_small : (n : ℕ) → Has Codes n → n < 2 ^ 96
  code_small n h = let y = way_there n h in let l = narrow y.0 y.1 in omega (arith, y.2, l.1)

  down : IsInOrder Above (marks_in (cut Codes))
  down = cut_down Codes (set_in_order (map code_of ways))

  marks_are : marks_in (cut Codes) ≡ blocks_down (map (λ (y : Way). y.marks) ways)
  marks_are =
      blocks_are (map (λ (y : Way). y.marks) ways) (marks_in (cut Codes)) down
      (λ m h.
      let e = Has-map_cases (λ (r : Reach). r.marks) (cut Codes) m h in
      let n = cut_some Codes e.0 e.1 in
      let y = way_there n.0 n.1 in
      subst (Has (map (λ (y : Way). y.marks) ways)) (sym (code_marks y.0 y.1) ∙ (ap marks_of y.2 ∙ (n.2 ∙ e.2))) (Has-map (λ (y : Way). y.marks) ways y.0 y.1))
      (λ m h.
      let y = Has-map_cases (λ (y : Way). y.marks) ways m h in
      let e = cut_has Codes (code_of y.0) (code_there y.0 y.1) in
      subst (Has (marks_in (cut Codes))) (e.2 ∙ (code_marks y.0 y.1 ∙ y.2)) (Has-map (λ (r : Reach). r.marks) (cut Codes) e.0 e.1))

  reach_is : (e : Reach) → Has (cut Codes) e → e ≡ reach_with ways e.marks
  reach_is e h =
      let to = set_is (map (λ (y : Way). y.to) (filter (λ (y : Way). nat_eq y.marks e.marks) ways)) e.to (cut_up Codes (set_in_order (map code_of ways)) code_small e h)
      (λ q k.
      let n = has_cut Codes e q h k in
      let y = way_there n.0 n.1 in
      subst (Has (map (λ (y : Way). y.to) (filter (λ (y : Way). nat_eq y.marks e.marks) ways))) (sym (code_to y.0 y.1) ∙ (ap to_of y.2 ∙ n.3))
      (Has-map (λ (y : Way). y.to) (filter (λ (y : Way). nat_eq y.marks e.marks) ways) y.0
      (has_filter (λ (y : Way). nat_eq y.marks e.marks) ways y.0 y.1 (eq-eqb y.0.marks e.marks (sym (code_marks y.0 y.1) ∙ (ap marks_of y.2 ∙ n.2))))))
      (λ q k.
      let y = Has-map_cases (λ (y : Way). y.to) (filter (λ (y : Way). nat_eq y.marks e.marks) ways) q k in
      let f = filter_cases (λ (y : Way). nat_eq y.marks e.marks) ways y.0 y.1 in
      let r = cut_has Codes (code_of y.0) (code_there y.0 f.0) in
      let same : r.0 ≡ e = told_by_marks (cut Codes) down r.0 e r.1 h (r.2 ∙ (code_marks y.0 f.0 ∙ eqb-true y.0.marks e.marks f.1)) in
      subst (λ (x : Reach). Has x.to q) same (subst (Has r.0.to) (code_to y.0 f.0 ∙ y.2) r.3)) in
      (λ i. let r : Reach = record { marks = e.marks; to = to i } in r)

  -- what the numbers of ways are cut into
  pub cut_is : cut Codes ≡ map (reach_with ways) (blocks_down (map (λ (y : Way). y.marks) ways))
  cut_is = all_told (reach_with ways) (cut Codes) reach_is ∙ ap (map (reach_with ways)) marks_are
