-- Bytes on which a set of states stays, gathered from the ways of its members.
use Rattle.std.proofs.Common.{◌≡◌, ℕ, zero, suc, ◌+◌, ◌<◌, ◌≤◌, ◌⊎◌, Bool, true, false, List, [], ◌∷◌, ◌++◌, length, map, get_or, set as put, Result, Ok, Err, inl, inr, refl, sym, ap, subst, arith, ◌∙◌, take, append_assoc, not}
use Rattle.std.specs.Prelude.{nat_eq, ◌||◌, ◌&&◌, IsTrue, ◌↔◌, cond, IfNone}
use Rattle.std.specs.Ordering.{nat_cmp}
use Rattle.std.specs.Cmp.{nat_cmp_total}
use Rattle.std.specs.List.{filter, flat_map}
use Rattle.std.specs.Result.{MatchResult, result_ok}
use Rattle.std.specs.FinSet.{contains-union, contains-intersection, contains-difference, contains-empty}
use Rattle.std.specs.FinSet as bytes
use Rattle.std.proofs.lemmas.Bool.{eqb-true, eq-eqb, cases_lt}
use Rattle.std.proofs.lemmas.List.{append-nil, get_or_read, take_more, flat_map_more, get_or-set_same, get_or-set_other}
use Rattle.std.proofs.lemmas.List.Elements.{filter_more}
use Rattle.span_core.specs.Lists.{Has, IsInOrder}
use Rattle.span_core.proofs.HasLaws.{Has-map, Has-map_cases, Has-append_cases, Has-append_left, Has-append_right, Has-get_or}
use Rattle.span_core.proofs.ListLaws.{all_has}
use Rattle.marked_automaton.specs.declared.way.Way.{Way}
use Rattle.marked_automaton.specs.Automaton.{Automaton, ByteClass, ways_from}
use Rattle.marked_automaton.proofs.Listed.{same_or_not}
use Rattle.marked_automaton.proofs.Passing.{filter_cases, has_filter, has_flat_map, flat_map_cases, both_true, left_true, right_true, or_left, or_right}
use Rattle.automaton_reading.specs.Reading.{Reach, is_among, set_of, ways_taken, reach_with, blocks_down}
use Rattle.automaton_reading.proofs.Determined.{among_has, has_among, edge_way, way_edge, has_block}
use Rattle.set_table.specs.declared.staying.Leading.{Leading}
use Rattle.set_table.specs.Runs.{Bounds}
use Rattle.set_table.specs.Staying.{AreGathered, GoesElsewhere, GoesTo, IsInside, LeadsBackOn}
use Rattle.set_table.specs.Tabled.{StaysOn}
use Rattle.automaton_reading.proofs.Ascending.{blocks_are, set_is}

abbrev pub Sets : Type 0
Sets = List (bytes.FinSet nat_cmp)

-- ---- members

rises : (xs : List ℕ) → IsInOrder ◌<◌ xs → (i j : ℕ) → i < j → j < length xs → get_or xs i 0 < get_or xs j 0
rises [] h i j l m = absurd (omega (arith, m))
rises (x ∷ xs) h zero zero l m = absurd (omega (arith, l))
rises (x ∷ xs) h zero (suc j) l m = all_has (λ y. x < y) xs (get_or xs j 0) h.0 (Has-get_or xs j 0 (omega (arith, m)))
rises (x ∷ xs) h (suc i) zero l m = absurd (omega (arith, l))
rises (x ∷ xs) h (suc i) (suc j) l m = rises xs h.1 i j (omega (arith, l)) (omega (arith, m))

-- no member stands twice
one_place : (xs : List ℕ) → IsInOrder ◌<◌ xs → (i j : ℕ) → i < length xs → j < length xs → get_or xs i 0 ≡ get_or xs j 0 → i ≡ j
one_place xs up i j l m e = elim (cases_lt i j) as (λ _. i ≡ j) [
  | inl less ↦ absurd (omega (arith, rises xs up i j less m, e))
  | inr more ↦ elim (cases_lt j i) as (λ _. i ≡ j) [ inl less ↦ absurd (omega (arith, rises xs up j i less l, e)) | inr le ↦ omega (arith, more, le) ]
]

-- a member stands somewhere
some_place : (xs : List ℕ) (q : ℕ) → Has xs q → (k : ℕ) × (k < length xs) × (get_or xs k 0 ≡ q)
some_place [] q h = absurd h
some_place (x ∷ xs) q (inl e) = (zero, omega (arith), e)
some_place (x ∷ xs) q (inr h) = let r = some_place xs q h in (suc r.0, omega (arith, r.1), r.2)

inside_or : (members : List ℕ) (y : Way) → IsInside members y ⊎ (IsInside members y → ⊥)
inside_or members y = go (nat_eq y.marks 0) refl (is_among members y.to) refl
  where
    differ : false ≡ true → ⊥
    differ e = cc

    go : (a : Bool) → nat_eq y.marks 0 ≡ a → (b : Bool) → is_among members y.to ≡ b → IsInside members y ⊎ (IsInside members y → ⊥)
    go true e true f = inl (eqb-true y.marks 0 e, among_has members y.to f)
    go true e false f = inr (λ h. differ (sym f ∙ has_among members y.to h.1))
    go false e b f = inr (λ h. differ (sym e ∙ eq-eqb y.marks 0 h.0))

-- ---- a way more

module _ (members : List ℕ) (ways : List Way) (y : Way) where
  to_more : (q b : ℕ) → GoesTo (ways ++ y ∷ []) q b → GoesTo ways q b ⊎ (IsTrue (bytes.contains y.bytes b) × (y.marks ≡ 0) × (y.to ≡ q))
  to_more q b h = by (Has-append_cases ways (y ∷ []) h.0 h.1)
    where
      by : Has ways h.0 ⊎ Has (y ∷ []) h.0 → GoesTo ways q b ⊎ (IsTrue (bytes.contains y.bytes b) × (y.marks ≡ 0) × (y.to ≡ q))
      by (inl m) = inl (h.0, m, h.2, h.3, h.4)
      by (inr (inl e)) = inr (subst (λ (z : Way). IsTrue (bytes.contains z.bytes b)) (sym e) h.2, ap (λ (z : Way). z.marks) e ∙ h.3, ap (λ (z : Way). z.to) e ∙ h.4)
      by (inr (inr m)) = absurd m

  to_before : (q b : ℕ) → GoesTo ways q b → GoesTo (ways ++ y ∷ []) q b
  to_before q b h = (h.0, Has-append_left ways (y ∷ []) h.0 h.1, h.2, h.3, h.4)

  to_here : (q b : ℕ) → IsTrue (bytes.contains y.bytes b) → y.marks ≡ 0 → y.to ≡ q → GoesTo (ways ++ y ∷ []) q b
  to_here q b byte marks to = (y, Has-append_right ways (y ∷ []) y (inl refl), byte, marks, to)

  else_more : (b : ℕ) → GoesElsewhere (ways ++ y ∷ []) members b → GoesElsewhere ways members b ⊎ (IsTrue (bytes.contains y.bytes b) × (IsInside members y → ⊥))
  else_more b h = by (Has-append_cases ways (y ∷ []) h.0 h.1)
    where
      by : Has ways h.0 ⊎ Has (y ∷ []) h.0 → GoesElsewhere ways members b ⊎ (IsTrue (bytes.contains y.bytes b) × (IsInside members y → ⊥))
      by (inl m) = inl (h.0, m, h.2, h.3)
      by (inr (inl e)) = inr (subst (λ (z : Way). IsTrue (bytes.contains z.bytes b)) (sym e) h.2, subst (λ (z : Way). IsInside members z → ⊥) (sym e) h.3)
      by (inr (inr m)) = absurd m

  else_before : (b : ℕ) → GoesElsewhere ways members b → GoesElsewhere (ways ++ y ∷ []) members b
  else_before b h = (h.0, Has-append_left ways (y ∷ []) h.0 h.1, h.2, h.3)

  else_here : (b : ℕ) → IsTrue (bytes.contains y.bytes b) → (IsInside members y → ⊥) → GoesElsewhere (ways ++ y ∷ []) members b
  else_here b byte out = (y, Has-append_right ways (y ∷ []) y (inl refl), byte, out)

in_union : (s t : bytes.FinSet nat_cmp) (b : ℕ) → IsTrue (bytes.contains (bytes.union s t) b) ↔ (IsTrue (bytes.contains s b) ⊎ IsTrue (bytes.contains t b))
in_union s t b = (
  (λ h. by (bytes.contains s b) refl (sym (contains-union nat_cmp_total s t b) ∙ h)),
  (λ h. contains-union nat_cmp_total s t b ∙ elim h as (λ _. (bytes.contains s b || bytes.contains t b) ≡ true) [
    | inl f ↦ or_left (bytes.contains s b) (bytes.contains t b) f
    | inr f ↦ or_right (bytes.contains s b) (bytes.contains t b) f
  ]),
)
  where
    by : (v : Bool) → bytes.contains s b ≡ v → (v || bytes.contains t b) ≡ true → IsTrue (bytes.contains s b) ⊎ IsTrue (bytes.contains t b)
    by true e f = inl e
    by false e f = inr f

-- it leads to the member at k
pub gathered_at : (members : List ℕ) (y : Way) (old new : Leading) (k : ℕ) (s u : bytes.FinSet nat_cmp) → IsInOrder ◌<◌ members → k < length members → get_or members k 0 ≡ y.to → y.marks ≡ 0 →
    s ≡ get_or old.to_members.items k s → u ≡ bytes.union s y.bytes → new.to_members.items ≡ put old.to_members.items k u →
    new.elsewhere ≡ old.elsewhere → length new.to_members.items ≡ length old.to_members.items →
    (ways : List Way) → AreGathered members ways old → AreGathered members (ways ++ y ∷ []) new
gathered_at members y old new k s u up within at marks read union is same_else same_count ways g = record {
  count = same_count ∙ g.count;
  to_members = λ j b l clear. each j b l (λ h. clear (else_before members ways y b h)) (same_or_not j k);
  elsewhere = λ b. (
    (λ t. else_before members ways y b ((g.elsewhere b).0 (sym (ap (λ v. bytes.contains v b) same_else) ∙ t))),
    (λ h. ap (λ v. bytes.contains v b) same_else ∙ elim (else_more members ways y b h) as (λ _. IsTrue (bytes.contains old.elsewhere b)) [
      | inl f ↦ (g.elsewhere b).1 f
      | inr f ↦ absurd (f.1 (marks, subst (Has members) at (Has-get_or members k 0 within)))
    ]),
  );
}
  where
    within_old : k < length old.to_members.items
    within_old = omega (arith, within, g.count)

    each : (j b : ℕ) → j < length members → ¬ GoesElsewhere ways members b → (j ≡ k) ⊎ (j ≡ k → ⊥) →
        IsTrue (bytes.contains (get_or new.to_members.items j bytes.empty) b) ↔ GoesTo (ways ++ y ∷ []) (get_or members j 0) b
    each j b l clear (inl e) =
        let here : get_or new.to_members.items j bytes.empty ≡ bytes.union s y.bytes =
        ap (λ v. get_or new.to_members.items v bytes.empty) e ∙ (ap (λ v. get_or v k bytes.empty) is ∙ (get_or-set_same old.to_members.items k u bytes.empty within_old ∙ union)) in
        let before : get_or old.to_members.items j bytes.empty ≡ s = ap (λ v. get_or old.to_members.items v bytes.empty) e ∙ sym (get_or_read old.to_members.items k s within_old read bytes.empty) in
        let to : y.to ≡ get_or members j 0 = sym at ∙ ap (λ v. get_or members v 0) (sym e) in (
          (λ t. elim ((in_union s y.bytes b).0 (sym (ap (λ v. bytes.contains v b) here) ∙ t)) as (λ _. GoesTo (ways ++ y ∷ []) (get_or members j 0) b) [
            | inl f ↦ to_before members ways y (get_or members j 0) b ((g.to_members j b l clear).0 (ap (λ v. bytes.contains v b) before ∙ f))
            | inr f ↦ to_here members ways y (get_or members j 0) b f marks to
          ]),
          (λ h. ap (λ v. bytes.contains v b) here ∙
              (in_union s y.bytes b).1 (elim (to_more members ways y (get_or members j 0) b h) as (λ _. IsTrue (bytes.contains s b) ⊎ IsTrue (bytes.contains y.bytes b)) [
                | inl f ↦ inl (sym (ap (λ v. bytes.contains v b) before) ∙ (g.to_members j b l clear).1 f)
                | inr f ↦ inr f.0
              ])),
        )
    each j b l clear (inr other) =
        let same : get_or new.to_members.items j bytes.empty ≡ get_or old.to_members.items j bytes.empty = ap (λ v. get_or v j bytes.empty) is ∙
        get_or-set_other old.to_members.items k j u bytes.empty other in (
          (λ t. to_before members ways y (get_or members j 0) b ((g.to_members j b l clear).0 (sym (ap (λ v. bytes.contains v b) same) ∙ t))),
          (λ h. ap (λ v. bytes.contains v b) same ∙ elim (to_more members ways y (get_or members j 0) b h) as (λ _. IsTrue (bytes.contains (get_or old.to_members.items j bytes.empty) b)) [
            | inl f ↦ (g.to_members j b l clear).1 f
            | inr f ↦ absurd (other (one_place members up j k l within (sym f.2 ∙ sym at)))
          ]),
        )

-- it leads elsewhere
pub gathered_elsewhere : (members : List ℕ) (y : Way) (old new : Leading) → (IsInside members y → ⊥) → new.to_members.items ≡ old.to_members.items → new.elsewhere ≡ bytes.union old.elsewhere y.bytes →
    (ways : List Way) → AreGathered members ways old → AreGathered members (ways ++ y ∷ []) new
gathered_elsewhere members y old new out is union ways g = record {
  count = ap length is ∙ g.count;
  to_members = λ j b l clear.
      let clear_before : ¬ GoesElsewhere ways members b = λ h. clear (else_before members ways y b h) in
      let same : bytes.contains (get_or new.to_members.items j bytes.empty) b ≡ bytes.contains (get_or old.to_members.items j bytes.empty) b =
      ap (λ v. bytes.contains (get_or v j bytes.empty) b) is in (
        (λ t. to_before members ways y (get_or members j 0) b ((g.to_members j b l clear_before).0 (sym same ∙ t))),
        (λ h. same ∙ elim (to_more members ways y (get_or members j 0) b h) as (λ _. IsTrue (bytes.contains (get_or old.to_members.items j bytes.empty) b)) [
          | inl f ↦ (g.to_members j b l clear_before).1 f
          | inr f ↦ absurd (out (f.1, subst (Has members) (sym f.2) (Has-get_or members j 0 l)))
        ]),
      );
  elsewhere = λ b. (
    (λ t. elim ((in_union old.elsewhere y.bytes b).0 (sym (ap (λ v. bytes.contains v b) union) ∙ t)) as (λ _. GoesElsewhere (ways ++ y ∷ []) members b) [
      | inl f ↦ else_before members ways y b ((g.elsewhere b).0 f)
      | inr f ↦ else_here members ways y b f out
    ]),
    (λ h. ap (λ v. bytes.contains v b) union ∙
        (in_union old.elsewhere y.bytes b).1 (elim (else_more members ways y b h) as (λ _. IsTrue (bytes.contains old.elsewhere b) ⊎ IsTrue (bytes.contains y.bytes b)) [
          | inl f ↦ inl ((g.elsewhere b).1 f)
          | inr f ↦ inr f.0
        ])),
  );
}

-- no way
pub gathered_none : (members : List ℕ) (x : Leading) → length x.to_members.items ≡ length members →
    ((k : ℕ) → get_or x.to_members.items k bytes.empty ≡ bytes.empty) → x.elsewhere ≡ bytes.empty → AreGathered members [] x
gathered_none members x count none nowhere = record {
  count = count;
  to_members = λ k b l clear. ((λ t. absurd (differ (sym (ap (λ v. bytes.contains v b) (none k) ∙ contains-empty nat_cmp b) ∙ t))), (λ h. absurd h.1));
  elsewhere = λ b. ((λ t. absurd (differ (sym (ap (λ v. bytes.contains v b) nowhere ∙ contains-empty nat_cmp b) ∙ t))), (λ h. absurd h.1));
}
  where
    differ : false ≡ true → ⊥
    differ e = cc

-- ---- the bytes that lead to each member, and nowhere else

-- in the first and in those before n
abbrev pub AreMet : Sets → ℕ → bytes.FinSet nat_cmp → Type 0
AreMet xs n s = (b : ℕ) → IsTrue (bytes.contains s b) ↔ (IsTrue (bytes.contains (get_or xs 0 bytes.empty) b) × ((k : ℕ) → k < n → IsTrue (bytes.contains (get_or xs k bytes.empty) b)))

-- ---- what is gathered of all ways of members tells on which bytes they stay

module _ (A : Automaton) (members : List ℕ) (ways : List Way) (x : Leading) (up : IsInOrder ◌<◌ members) (some : 0 < length members) (g : AreGathered members ways x)
    (are : (y : Way) → Has ways y ↔ (Has A.ways y × Has members y.from)) (b : ℕ) where
  abbrev taken : List Way
  taken = ways_taken A members b

  abbrev unmarked : List Way
  unmarked = filter (λ (y : Way). nat_eq y.marks 0) taken

  abbrev back : Reach
  back = record { marks = 0; to = members }

  taken_way : (y : Way) → Has taken y → Has ways y × IsTrue (bytes.contains y.bytes b)
  taken_way y h =
      let t = filter_cases (λ z. is_among members z.from && bytes.contains z.bytes b) A.ways y h in
      ((are y).1 (t.0, among_has members y.from (left_true (is_among members y.from) (bytes.contains y.bytes b) t.1)), right_true (is_among members y.from) (bytes.contains y.bytes b) t.1)

  way_taken : (y : Way) → Has ways y → IsTrue (bytes.contains y.bytes b) → Has taken y
  way_taken y h byte =
      let r = (are y).0 h in
      has_filter (λ z. is_among members z.from && bytes.contains z.bytes b) A.ways y r.0 (both_true (is_among members y.from) (bytes.contains y.bytes b) (has_among members y.from r.1) byte)

  pub gathered_stays : LeadsBackOn x b → StaysOn A members b
  gathered_stays back_on = ap (map (reach_with taken)) (sym no_marks) ∙ ap (λ (s : List ℕ). let r : Reach = record { marks = 0; to = s } in r ∷ []) (sym to_members)
    where
      inside : (y : Way) → Has taken y → IsInside members y
      inside y h =
          let w = taken_way y h in
          elim (inside_or members y) as (λ _. IsInside members y) [ inl i ↦ i | inr out ↦ absurd (back_on.nowhere_else ((g.elsewhere b).1 (y, w.0, w.1, out))) ]

      led : (q : ℕ) → Has members q → (y : Way) × Has taken y × (y.marks ≡ 0) × (y.to ≡ q)
      led q h =
          let k = some_place members q h in
          let y = (g.to_members k.0 b k.1 (λ e. back_on.nowhere_else ((g.elsewhere b).1 e))).0 (back_on.to_each k.0 (omega (arith, k.1, g.count))) in
          (y.0, way_taken y.0 y.1 y.2, y.3, y.4 ∙ k.2)

      no_marks : 0 ∷ [] ≡ blocks_down (map (λ (y : Way). y.marks) taken)
      no_marks =
          blocks_are (map (λ (y : Way). y.marks) taken) (0 ∷ []) (tt, tt)
          (λ m h.
          let y = led (get_or members 0 0) (Has-get_or members 0 0 some) in
          subst (Has (map (λ (y : Way). y.marks) taken)) (y.2 ∙ only m h) (Has-map (λ (y : Way). y.marks) taken y.0 y.1))
          (λ m h.
          let y = Has-map_cases (λ (y : Way). y.marks) taken m h in
          inl (sym (inside y.0 y.1).0 ∙ y.2))
        where
          only : (m : ℕ) → Has (0 ∷ []) m → 0 ≡ m
          only m (inl e) = e
          only m (inr h) = absurd h

      to_members : members ≡ set_of (map (λ (y : Way). y.to) unmarked)
      to_members =
          set_is (map (λ (y : Way). y.to) unmarked) members up
          (λ q h.
          let y = led q h in
          subst (Has (map (λ (y : Way). y.to) unmarked)) y.3 (Has-map (λ (y : Way). y.to) unmarked y.0 (has_filter (λ (y : Way). nat_eq y.marks 0) taken y.0 y.1 (eq-eqb y.0.marks 0 y.2))))
          (λ q h.
          let y = Has-map_cases (λ (y : Way). y.to) unmarked q h in
          subst (Has members) y.2 (inside y.0 (filter_cases (λ (y : Way). nat_eq y.marks 0) taken y.0 y.1).0).1)

  pub stays_gathered : StaysOn A members b → LeadsBackOn x b
  stays_gathered h = record { to_each = all; nowhere_else = nowhere }
    where
      only : (e : Reach) → Has (back ∷ []) e → back ≡ e
      only e (inl f) = f
      only e (inr m) = absurd m

      nowhere : IsTrue (bytes.contains x.elsewhere b) → ⊥
      nowhere t =
          let y = (g.elsewhere b).0 t in
          let r = (are y.0).0 y.1 in
          let e = way_edge A members b y.0 r.0 r.1 y.2 in
          let f = only e.0 (subst (λ (es : List Reach). Has es e.0) h e.1) in
          y.3 (sym e.2 ∙ sym (ap (λ (r : Reach). r.marks) f), subst (λ (r : Reach). Has r.to y.0.to) (sym f) e.3)

      all : (k : ℕ) → k < length x.to_members.items → IsTrue (bytes.contains (get_or x.to_members.items k bytes.empty) b)
      all k l =
          let within : k < length members = omega (arith, l, g.count) in
          let q = get_or members k 0 in
          let y = edge_way A members b back q (subst (λ (es : List Reach). Has es back) (sym h) (inl refl)) (Has-get_or members k 0 within) in
          (g.to_members k b within (λ e. nowhere ((g.elsewhere b).1 e))).1 (y.0, (are y.0).1 (y.1, y.2), y.3, y.4, y.5)

-- no state stays on no byte
pub none_stays : (A : Automaton) (b : ℕ) → StaysOn A [] b → ⊥
none_stays A b h =
    let m = Has-map_cases (reach_with (ways_taken A [] b)) (blocks_down (map (λ (y : Way). y.marks) (ways_taken A [] b))) (record { marks = 0; to = [] })
    (subst (λ (es : List Reach). Has es (record { marks = 0; to = [] })) (sym h) (inl refl)) in
    let y = Has-map_cases (λ (y : Way). y.marks) (ways_taken A [] b) m.0 (has_block (map (λ (y : Way). y.marks) (ways_taken A [] b)) m.0 m.1) in
    let t = filter_cases (λ z. is_among [] z.from && bytes.contains z.bytes b) A.ways y.0 y.1 in
    differ t.1
  where
    differ : false ≡ true → ⊥
    differ e = cc

-- the ways from members, member by member and among all
pub from_each : (A : Automaton) (members : List ℕ) (y : Way) → Has (flat_map (ways_from A.ways) members) y ↔ (Has A.ways y × Has members y.from)
from_each A members y = (
  (λ h.
      let p = flat_map_cases (ways_from A.ways) members y h in
      let f = filter_cases (λ (z : Way). nat_eq z.from p.0) A.ways y p.2 in
      (f.0, subst (Has members) (sym (eqb-true y.from p.0 f.1)) p.1)),
  (λ h. has_flat_map (ways_from A.ways) members y.from y h.1 (has_filter (λ (z : Way). nat_eq z.from y.from) A.ways y h.0 (eq-eqb y.from y.from refl))),
)

pub from_all : (A : Automaton) (members : List ℕ) (y : Way) → Has (filter (λ (z : Way). is_among members z.from) A.ways) y ↔ (Has A.ways y × Has members y.from)
from_all A members y = (
  (λ h. let f = filter_cases (λ (z : Way). is_among members z.from) A.ways y h in (f.0, among_has members y.from f.1)),
  (λ h. has_filter (λ (z : Way). is_among members z.from) A.ways y h.0 (has_among members y.from h.1)),
)

-- a search for the state that a way leads to
pub none_at : (members : List ℕ) (y : Way) (r : Result ℕ ℕ) →
    MatchResult r (λ i. (i < length members) × (get_or members i 0 ≡ y.to)) (λ _. Has members y.to → ⊥) → IfNone (result_ok r) (IsInside members y → ⊥)
none_at members y (Ok i) h = tt
none_at members y (Err i) h = λ inside. h inside.1

-- ways that were gathered one by one
pub gathered_more : (members : List ℕ) (ways before : List Way) (i : ℕ) (y : Way) (x : Leading) → i < length ways → y ≡ get_or ways i y →
    AreGathered members ((before ++ take i ways) ++ y ∷ []) x → AreGathered members (before ++ take (i + 1) ways) x
gathered_more members ways before i y x l at =
    subst (λ (zs : List Way). AreGathered members zs x) (append_assoc before (take i ways) (y ∷ []) ∙ ap (λ zs. before ++ zs) (ap (λ z. take i ways ++ z ∷ []) at ∙ sym (take_more ways i y l)))

pub gathered_from : (A : Automaton) (members : List ℕ) (i q : ℕ) (x : Leading) → i < length members → q ≡ get_or members i 0 →
    AreGathered members (flat_map (ways_from A.ways) (take i members) ++ ways_from A.ways q) x → AreGathered members (flat_map (ways_from A.ways) (take (i + 1) members)) x
gathered_from A members i q x l at =
    subst (λ (zs : List Way). AreGathered members zs x) (ap (λ p. flat_map (ways_from A.ways) (take i members) ++ ways_from A.ways p) at ∙
    (flat_map_more (ways_from A.ways) [] (take i members) (get_or members i 0) ∙ ap (flat_map (ways_from A.ways)) (sym (take_more members i 0 l))))

abbrev from_member : List ℕ → Way → Bool
from_member members y = is_among members y.from

pub gathered_among : (members : List ℕ) (ways : List Way) (i : ℕ) (y : Way) (x : Leading) → i < length ways → y ≡ get_or ways i y → is_among members y.from ≡ true →
    AreGathered members (filter (λ (y : Way). is_among members y.from) (take i ways) ++ y ∷ []) x → AreGathered members (filter (λ (y : Way). is_among members y.from) (take (i + 1) ways)) x
gathered_among members ways i y x l at is =
    subst (λ (zs : List Way). AreGathered members zs x)
    (ap (λ z. filter (from_member members) (take i ways) ++ z ∷ []) at
    ∙ sym (filter_more (from_member members) ways i y l ∙ ap (λ b. filter (from_member members) (take i ways) ++ cond b (get_or ways i y ∷ []) []) (ap (from_member members) (sym at) ∙ is)))

pub passed_among : (members : List ℕ) (ways : List Way) (i : ℕ) (y : Way) (x : Leading) → i < length ways → y ≡ get_or ways i y → is_among members y.from ≡ false →
    AreGathered members (filter (λ (y : Way). is_among members y.from) (take i ways)) x → AreGathered members (filter (λ (y : Way). is_among members y.from) (take (i + 1) ways)) x
passed_among members ways i y x l at is =
    subst (λ (zs : List Way). AreGathered members zs x)
    (sym (filter_more (from_member members) ways i y l ∙
    (ap (λ b. filter (from_member members) (take i ways) ++ cond b (get_or ways i y ∷ []) []) (ap (from_member members) (sym at) ∙ is) ∙ append-nil (filter (from_member members) (take i ways)))))

-- the meet of sets, one by one
pub met_more : (xs : Sets) (n : ℕ) (x s t : bytes.FinSet nat_cmp) → n < length xs → x ≡ get_or xs n x → t ≡ bytes.intersection s x → AreMet xs n s → AreMet xs (n + 1) t
met_more xs n x s t l read meet h b = (there, back)
  where
    both : bytes.contains t b ≡ (bytes.contains s b && bytes.contains x b)
    both = ap (λ v. bytes.contains v b) meet ∙ contains-intersection nat_cmp_total s x b

    here : x ≡ get_or xs n bytes.empty
    here = get_or_read xs n x l read bytes.empty

    there : IsTrue (bytes.contains t b) → IsTrue (bytes.contains (get_or xs 0 bytes.empty) b) × ((k : ℕ) → k < n + 1 → IsTrue (bytes.contains (get_or xs k bytes.empty) b))
    there i =
        let j = sym both ∙ i in
        let before = (h b).0 (left_true (bytes.contains s b) (bytes.contains x b) j) in (
          before.0,
          λ k m. elim (cases_lt k n) as (λ _. IsTrue (bytes.contains (get_or xs k bytes.empty) b)) [
            | inl less ↦ before.1 k less
            | inr more ↦ subst (λ v. IsTrue (bytes.contains (get_or xs v bytes.empty) b)) (at k m more) (sym (ap (λ v. bytes.contains v b) here) ∙
                right_true (bytes.contains s b) (bytes.contains x b) j)
          ],
        )
      where
        at : (k : ℕ) → k < n + 1 → n ≤ k → n ≡ k
        at k m more = omega (arith, m, more)

    back : IsTrue (bytes.contains (get_or xs 0 bytes.empty) b) × ((k : ℕ) → k < n + 1 → IsTrue (bytes.contains (get_or xs k bytes.empty) b)) → IsTrue (bytes.contains t b)
    back g = both ∙ both_true (bytes.contains s b) (bytes.contains x b) ((h b).1 (g.0, λ k m. g.1 k (omega (arith, m)))) (ap (λ v. bytes.contains v b) here ∙ g.1 n (omega (arith)))

-- what is left of a set without another
pub in_difference : (s e t : bytes.FinSet nat_cmp) (b : ℕ) → t ≡ bytes.difference s e → IsTrue (bytes.contains t b) ↔ (IsTrue (bytes.contains s b) × (IsTrue (bytes.contains e b) → ⊥))
in_difference s e t b is = (
  (λ h. let j = sym told ∙ h in (left_true (bytes.contains s b) (not (bytes.contains e b)) j, λ f. differ (ap not (sym f) ∙ right_true (bytes.contains s b) (not (bytes.contains e b)) j))),
  (λ h. told ∙ both_true (bytes.contains s b) (not (bytes.contains e b)) h.0 (by (bytes.contains e b) refl h.1)),
)
  where
    told : bytes.contains t b ≡ (bytes.contains s b && not (bytes.contains e b))
    told = ap (λ v. bytes.contains v b) is ∙ contains-difference nat_cmp_total s e b

    differ : false ≡ true → ⊥
    differ e = cc

    by : (v : Bool) → bytes.contains e b ≡ v → (IsTrue (bytes.contains e b) → ⊥) → not v ≡ true
    by true f n = absurd (n f)
    by false f n = refl

-- a run of ways whose bytes lead elsewhere already may be passed over
pub gathered_skipped : (members : List ℕ) (before run : List Way) (bound : ByteClass) (x : Leading) → Bounds bound run →
    bytes.difference bound x.elsewhere ≡ bytes.empty → AreGathered members before x →
    AreGathered members (before ++ run) x
gathered_skipped members before run bound x bounds none g = record {
  count = g.count;
  to_members = λ k b l clear.
      let clear_before : ¬ GoesElsewhere before members b = λ h. clear (h.0, Has-append_left before run h.0 h.1, h.2, h.3) in (
        (λ t. let y = (g.to_members k b l clear_before).0 t in (y.0, Has-append_left before run y.0 y.1, y.2, y.3, y.4)),
        (λ y. elim (Has-append_cases before run y.0 y.1) as (λ _. IsTrue (bytes.contains (get_or x.to_members.items k bytes.empty) b)) [
          | inl m ↦ (g.to_members k b l clear_before).1 (y.0, m, y.2, y.3, y.4)
          | inr m ↦ absurd (clear_before ((g.elsewhere b).0 (already y.0 b m y.2)))
        ]),
      );
  elsewhere = λ b. (
    (λ t. let y = (g.elsewhere b).0 t in (y.0, Has-append_left before run y.0 y.1, y.2, y.3)),
    (λ y. elim (Has-append_cases before run y.0 y.1) as (λ _. IsTrue (bytes.contains x.elsewhere b)) [
      | inl m ↦ (g.elsewhere b).1 (y.0, m, y.2, y.3)
      | inr m ↦ already y.0 b m y.2
    ]),
  );
}
  where
    differ : false ≡ true → ⊥
    differ e = cc

    already : (y : Way) (b : ℕ) → Has run y → IsTrue (bytes.contains y.bytes b) → IsTrue (bytes.contains x.elsewhere b)
    already y b m byte = by (bytes.contains x.elsewhere b) refl
      where
        by : (v : Bool) → bytes.contains x.elsewhere b ≡ v → IsTrue (bytes.contains x.elsewhere b)
        by true e = e
        by false e =
            let left = (in_difference bound x.elsewhere (bytes.difference bound x.elsewhere) b refl).1 (bounds y b m byte, λ t. differ (sym e ∙ t)) in
            absurd (differ (sym (ap (λ v. bytes.contains v b) none ∙ contains-empty nat_cmp b) ∙ left))

-- and what is left of all of them without another set
pub met_told : (x : Leading) (n : ℕ) (s t : bytes.FinSet nat_cmp) → 0 < length x.to_members.items → n ≡ length x.to_members.items → AreMet x.to_members.items n s → t ≡ bytes.difference s x.elsewhere →
    (b : ℕ) → IsTrue (bytes.contains t b) ↔ LeadsBackOn x b
met_told x n s t some all met is b = (
  (λ h. let r = (in_difference s x.elsewhere t b is).0 h in record { to_each = λ k l. ((met b).0 r.0).1 k (omega (arith, l, all)); nowhere_else = r.1 }),
  (λ h. (in_difference s x.elsewhere t b is).1 ((met b).1 (h.to_each 0 some, λ k l. h.to_each k (omega (arith, l, all))), h.nowhere_else)),
)

-- of no members nothing is told, and of some what is gathered
pub stays_nowhere : (A : Automaton) (members : List ℕ) (s : bytes.FinSet nat_cmp) → length members ≡ 0 → s ≡ bytes.empty → (b : ℕ) → IsTrue (bytes.contains s b) ↔ StaysOn A members b
stays_nowhere A [] s none is b = ((λ t. absurd (differ (sym (ap (λ v. bytes.contains v b) is ∙ contains-empty nat_cmp b) ∙ t))), (λ h. absurd (none_stays A b h)))
  where
    differ : false ≡ true → ⊥
    differ e = cc
stays_nowhere A (p ∷ members) s none is b = absurd (omega (arith, none))

pub stays_told : (A : Automaton) (members : List ℕ) (ways : List Way) (x : Leading) (s : bytes.FinSet nat_cmp) → IsInOrder ◌<◌ members → 0 < length members → AreGathered members ways x →
    ((y : Way) → Has ways y ↔ (Has A.ways y × Has members y.from)) →
    ((b : ℕ) → IsTrue (bytes.contains s b) ↔ LeadsBackOn x b) → (b : ℕ) → IsTrue (bytes.contains s b) ↔ StaysOn A members b
stays_told A members ways x s up some g are told b = (
  (λ t. gathered_stays A members ways x up some g are b ((told b).0 t)),
  (λ h. (told b).1 (stays_gathered A members ways x up some g are b h)),
)
