-- Places that show a piece: they read exactly the parts that it fits, with the blocks of its captures.
use Rattle.std.proofs.Common.{◌≡◌, ℕ, zero, suc, ◌+◌, ◌<◌, ◌≤◌, ◌⊎◌, List, [], ◌∷◌, ◌++◌, Bool, inl, inr, refl, sym, ap, subst, arith, ◌∙◌}
use Rattle.std.specs.Prelude.{map, nat_eq, if◌then◌else◌, true, false, ◌||◌}
use Rattle.std.specs.List.{list_any}
use Rattle.std.proofs.lemmas.Bool.{eqb-true}
use Rattle.span_core.specs.declared.span.Span.{Span}
use Rattle.spanner_model.specs.Captures.{VarName, Captures, Captured, AreApart}
use Rattle.spanner_model.specs.Fit.{Piece, Then, Nothing, Times, Fit}
use Rattle.span_core.specs.Lists.{Has}
use Rattle.spanner_model.specs.Tree.{one}
use Rattle.marked_automaton.specs.declared.way.Stop.{Stop}
use Rattle.marked_automaton.specs.Automaton.{ByteClass, ReadsByte}
use Rattle.place_automaton.specs.declared.fragment.Entry.{Entry}
use Rattle.place_automaton.specs.Places.{Places, add_once, either_once, sums, nothing_placed, never_placed, one_placed, cat_places, alt_places, opt_places, plus_places, cap_places}
use Rattle.place_automaton.specs.Reads.{Reads, Shown, blocks}
use Rattle.place_automaton.proofs.Blocks.{bit_here, bit_apart, cap_block, blocks_append, IsEmptyOutside, DoesNotEndBefore}
use Rattle.span_core.proofs.HasLaws.{Has-map, Has-map_cases}
use Rattle.marked_automaton.proofs.Passing.{has_flat_map, flat_map_cases}
use Rattle.marked_automaton.proofs.Listed.{compared}
use Rattle.place_automaton.proofs.PlaceReads.{reads_same, reads_after_null, reads_before_null, reads_across, reads_of_cat, reads_once, reads_again, reads_of_plus, reads_in_cap, reads_of_cap, reads_in_left, reads_in_right, reads_of_alt}
use Rattle.place_automaton.proofs.Ranges.{LiesFrom}

has_sums : (ms ns : List ℕ) (m n : ℕ) → Has ms m → Has ns n → Has (sums ms ns) (m + n)
has_sums ms ns m n a b = has_flat_map (λ m. map (◌+◌ m) ns) ms m (m + n) a (Has-map (◌+◌ m) ns n b)

pub sums_cases : (ms ns : List ℕ) (k : ℕ) → Has (sums ms ns) k → (m : ℕ) × (n : ℕ) × Has ms m × Has ns n × (m + n ≡ k)
sums_cases ms ns k h =
    let a = flat_map_cases (λ m. map (◌+◌ m) ns) ms k h in
    let b = Has-map_cases (◌+◌ a.0) ns k a.2 in
    (a.0, b.0, a.1, b.1, b.2)

only_one : {X : Type 0} (x y : X) → Has (x ∷ []) y → x ≡ y
only_one x y (inl e) = e
only_one x y (inr h) = absurd h

pub once_kept : (n : ℕ) (ms : List ℕ) (m : ℕ) → Has ms m → Has (add_once n ms) m
once_kept n ms m h = go (list_any (nat_eq n) ms)
  where
    go : (b : Bool) → Has (if b then ms else n ∷ ms) m
    go true = h
    go false = inr h

pub any_has : (n : ℕ) (ms : List ℕ) → list_any (nat_eq n) ms ≡ true → Has ms n
any_has n [] e = absurd (cc)
any_has n (m ∷ ms) e = go (any_has n ms) (nat_eq n m) refl e
  where
    go : (list_any (nat_eq n) ms ≡ true → Has ms n) → (b : Bool) → nat_eq n m ≡ b → (b || list_any (nat_eq n) ms) ≡ true → Has (m ∷ ms) n
    go rest true at f = inl (sym (eqb-true n m at))
    go rest false at f = inr (rest f)

once_there : (n m : ℕ) (ms : List ℕ) → n ≡ m → Has (add_once n ms) m
once_there n m ms e = go (list_any (nat_eq n) ms) refl
  where
    go : (b : Bool) → list_any (nat_eq n) ms ≡ b → Has (if b then ms else n ∷ ms) m
    go true at = subst (Has ms) e (any_has n ms at)
    go false at = inl e

pub once_cases : (n : ℕ) (ms : List ℕ) (m : ℕ) → Has (add_once n ms) m → (n ≡ m) ⊎ Has ms m
once_cases n ms m = go (list_any (nat_eq n) ms)
  where
    go : (b : Bool) → Has (if b then ms else n ∷ ms) m → (n ≡ m) ⊎ Has ms m
    go true h = inr h
    go false h = h

pub either_left : (ms ns : List ℕ) (m : ℕ) → Has ms m → Has (either_once ms ns) m
either_left (n ∷ ms) ns m (inl e) = once_there n m (either_once ms ns) e
either_left (n ∷ ms) ns m (inr h) = once_kept n (either_once ms ns) m (either_left ms ns m h)
either_left [] ns m h = absurd h

pub either_right : (ms ns : List ℕ) (m : ℕ) → Has ns m → Has (either_once ms ns) m
either_right [] ns m h = h
either_right (n ∷ ms) ns m h = once_kept n (either_once ms ns) m (either_right ms ns m h)

pub either_cases : (ms ns : List ℕ) (m : ℕ) → Has (either_once ms ns) m → Has ms m ⊎ Has ns m
either_cases [] ns m h = inr h
either_cases (n ∷ ms) ns m h =
    elim (once_cases n (either_once ms ns) m h) [
      | inl e ↦ inl (inl e)
      | inr r ↦ elim (either_cases ms ns m r) [ inl a ↦ inl (inr a) | inr b ↦ inr b ]
    ]

module _ (opening closing : VarName → ℕ) (d : List ℕ) where
  abbrev pub B : Captures → ℕ → ℕ
  B = blocks opening closing

  -- the piece fits from i on through n + 1 bytes, with these blocks
  abbrev pub HasBlocks : Piece → ℕ → ℕ → ℕ → (ℕ → ℕ) → ℕ → Type 0
  HasBlocks X i n a w z =
      (c : Captures) × X i (suc (i + n)) c × (B c i ≡ a) × (B c (suc (i + n)) ≡ z)
      × ((p : ℕ) → i < p → p ≤ i + n → B c p ≡ w p)

  pub record Shows (P : Places) (X : Piece) : Type 0 where
    pub shown : (i j : ℕ) (c : Captures) → X i j c → Shown P d i j (B c)
    pub null : (i m : ℕ) → Has P.null m → (c : Captures) × X i i c × (B c i ≡ m)
    pub reads : (i n a : ℕ) (w : ℕ → ℕ) (z : ℕ) → Reads P d i n a w z → HasBlocks X i n a w z

  -- the captures of the one and of the other may be joined
  abbrev pub CanJoin : Piece → Piece → Type 0
  CanJoin X Y = (i k j : ℕ) (m n : Captures) → X i k m → Y k j n → AreApart m n

  pub shows_nothing : (k : ℕ) → Shows (nothing_placed k) Nothing
  shows_nothing k = record {
    shown = λ i j c h. inl (h.0, inl (sym (ap (λ c. B c i) h.1)));
    null = λ i m h. elim h [ inl e ↦ ([], (refl, refl), e) | inr b ↦ absurd b ];
    reads = λ i n a w z h. absurd h.2;
  }

  pub shows_never : (k : ℕ) → Shows (never_placed k) (λ i j c. ⊥)
  shows_never k = record { shown = λ i j c h. absurd h; null = λ i m h. absurd h; reads = λ i n a w z h. absurd h.2 }

  pub shows_one : (set : ByteClass) (k : ℕ) → Shows (one_placed set k) (Fit (one set) d)
  shows_one set k = record {
    shown = λ i j c h.
        inr (
          0,
          omega (arith, h.3),
          (
            record { marks = 0; bytes = set; to = k },
            record { state = k; marks = 0 },
            inl refl,
            inl refl,
            sym (ap (λ c. B c i) h.4),
            (h.0, h.1, h.2),
            refl,
            sym (ap (λ c. B c j) h.4),
          ),
        );
    null = λ i m h. absurd h;
    reads = reads;
  }
    where
      reads : (i n a : ℕ) (w : ℕ → ℕ) (z : ℕ) → Reads (one_placed set k) d i n a w z → HasBlocks (Fit (one set) d) i n a w z
      reads i zero a w z h =
          let f = only_one (record { marks = 0; bytes = set; to = k }) h.0 h.2 in
          let l = only_one (record { state = k; marks = 0 }) h.1 h.3 in
          let byte : ReadsByte d i set = rw (← f) at h.5 in (
            [],
            (byte.0, byte.1, byte.2, omega arith, refl),
            ap (λ (g : Entry). g.marks) f ∙ h.4,
            ap (λ (g : Stop). g.marks) l ∙ h.7,
            λ p l u. absurd (omega (arith, l, u)),
          )
      reads i (suc n) a w z h = absurd h.6.1

  pub shows_then : (P Q : Places) (X Y : Piece) (k : ℕ) → LiesFrom k P → LiesFrom (k + P.count) Q →
      DoesNotEndBefore opening closing X → DoesNotEndBefore opening closing Y → IsEmptyOutside opening closing X → IsEmptyOutside opening closing Y → CanJoin X Y →
      Shows P X → Shows Q Y → Shows (cat_places P Q) (Then X Y)
  shows_then P Q X Y k p q lx ly ox oy join sx sy = record { shown = shown; null = null; reads = reads }
    where
      shown : (i j : ℕ) (c : Captures) → Then X Y i j c → Shown (cat_places P Q) d i j (B c)
      shown i j c h = go (sx.shown i h.0 h.1 h.3) (sy.shown h.0 j h.2 h.4)
        where
          s : (p : ℕ) → B c p ≡ B h.1 p + B h.2 p
          s p = ap (λ c. B c p) h.6 ∙ blocks_append opening closing h.1 h.2 p

          go : Shown P d i h.0 (B h.1) → Shown Q d h.0 j (B h.2) → Shown (cat_places P Q) d i j (B c)
          go (inl a) (inl b) =
              inl (
                a.0 ∙ b.0,
                subst (Has (sums P.null Q.null)) (sym (s i))
                    (has_sums P.null Q.null (B h.1 i) (B h.2 i) a.1 (rw a.0 b.1)),
              )
          go (inl a) (inr b) =
              let r : Reads Q d i b.0 (B h.2 i) (B h.2) (B h.2 j) = rw a.0 b.2 in
              inr (
                b.0,
                omega (arith, a.0, b.1),
                reads_same (cat_places P Q) d i b.0 (B h.1 i + B h.2 i) (B c i) (B h.2) (B c) (B h.2 j) (B c j) (sym (s i))
                    (omega (arith, s j, ox i h.0 h.1 h.3 j (inr (omega (arith, a.0, b.1)))))
                    (λ p l u. omega (arith, s p, ox i h.0 h.1 h.3 p (inr (omega (arith, a.0, l)))))
                    (reads_after_null P Q d i b.0 (B h.1 i) (B h.2 i) (B h.2) (B h.2 j) a.1 r),
              )
          go (inr a) (inl b) =
              let nul : Has Q.null (B h.2 j) = rw (← b.0) b.1 in
              let r : Reads P d i a.0 (B h.1 i) (B h.1) (B h.1 j) = rw (← b.0) a.2 in
              inr (
                a.0,
                omega (arith, a.1, b.0),
                reads_same (cat_places P Q) d i a.0 (B h.1 i) (B c i) (B h.1) (B c) (B h.1 j + B h.2 j) (B c j)
                    (omega (arith, s i, oy h.0 j h.2 h.4 i (inl (omega (arith, a.1)))))
                    (sym (s j))
                    (λ p l u. omega (arith, s p, oy h.0 j h.2 h.4 p (inl (omega (arith, a.1, u)))))
                    (reads_before_null P Q d i a.0 (B h.1 i) (B h.1) (B h.1 j) (B h.2 j) r nul),
              )
          go (inr a) (inr b) =
              let r : Reads Q d (suc (i + a.0)) b.0 (B h.2 (suc (i + a.0))) (B h.2) (B h.2 j) =
              rw (← a.1) b.2 in
              let t : Reads P d i a.0 (B h.1 i) (B h.1) (B h.1 (suc (i + a.0))) =
              rw (← a.1) a.2 in
              let sm = s (suc (i + a.0)) in
              inr (
                a.0 + suc b.0,
                omega (arith, a.1, b.1),
                reads_across P Q d i a.0 b.0 (B c i) (B c) (B h.1 (suc (i + a.0))) (B h.2 (suc (i + a.0))) (B c j)
                    (reads_same P d i a.0 (B h.1 i) (B c i) (B h.1) (B c) (B h.1 (suc (i + a.0))) (B h.1 (suc (i + a.0)))
                    (omega (arith, s i, oy h.0 j h.2 h.4 i (inl (omega (arith, a.1))))) refl
                    (λ p l u. omega (arith, s p, oy h.0 j h.2 h.4 p (inl (omega (arith, a.1, u))))) t)
                    (reads_same Q d (suc (i + a.0)) b.0 (B h.2 (suc (i + a.0))) (B h.2 (suc (i + a.0))) (B h.2) (B c) (B h.2 j) (B c j)
                    refl (omega (arith, s j, ox i h.0 h.1 h.3 j (inr (omega (arith, a.1, b.1)))))
                    (λ p l u. omega (arith, s p, ox i h.0 h.1 h.3 p (inr (omega (arith, a.1, l))))) r)
                    (sym sm),
              )

      null : (i m : ℕ) → Has (sums P.null Q.null) m → (c : Captures) × Then X Y i i c × (B c i ≡ m)
      null i m h =
          let r = sums_cases P.null Q.null m h in
          let x = sx.null i r.0 r.2 in
          let y = sy.null i r.1 r.3 in (
            x.0 ++ y.0,
            (i, x.0, y.0, x.1, y.1, join i i i x.0 y.0 x.1 y.1, refl),
            omega (arith, blocks_append opening closing x.0 y.0 i, x.2, y.2, r.4),
          )

      reads : (i n a : ℕ) (w : ℕ → ℕ) (z : ℕ) → Reads (cat_places P Q) d i n a w z → HasBlocks (Then X Y) i n a w z
      reads i n a w z h =
          elim (reads_of_cat P Q d k p q i n a w z h) [
            | inl r ↦
                let x = sx.null i r.0 r.2 in
                let y = sy.reads i n r.1 w z r.3 in
                let s = blocks_append opening closing x.0 y.0 in (
                  x.0 ++ y.0,
                  (i, x.0, y.0, x.1, y.1, join i i (suc (i + n)) x.0 y.0 x.1 y.1, refl),
                  omega (arith, s i, x.2, y.2, r.4),
                  omega (arith, s (suc (i + n)), y.3, ox i i x.0 x.1 (suc (i + n)) (inr (omega arith))),
                  λ t l u. omega (arith, s t, y.4 t l u, ox i i x.0 x.1 t (inr l)),
                )
            | inr rest ↦ elim rest [
              | inl r ↦
                  let x = sx.reads i n a w r.0 r.2 in
                  let y = sy.null (suc (i + n)) r.1 r.3 in
                  let s = blocks_append opening closing x.0 y.0 in (
                    x.0 ++ y.0,
                    (suc (i + n), x.0, y.0, x.1, y.1, join i (suc (i + n)) (suc (i + n)) x.0 y.0 x.1 y.1, refl),
                    omega (arith, s i, x.2, oy (suc (i + n)) (suc (i + n)) y.0 y.1 i (inl (omega arith))),
                    omega (arith, s (suc (i + n)), x.3, y.2, r.4),
                    λ t l u. omega (arith, s t, x.4 t l u, oy (suc (i + n)) (suc (i + n)) y.0 y.1 t (inl (omega (arith, u)))),
                  )
              | inr r ↦
                  let x = sx.reads i r.0 a w r.2 r.5 in
                  let y = sy.reads (suc (i + r.0)) r.1 r.3 w z r.6 in
                  let s = blocks_append opening closing x.0 y.0 in
                  let e : suc (suc (i + r.0) + r.1) ≡ suc (i + n) = omega (arith, r.4) in
                  let fits : Y (suc (i + r.0)) (suc (i + n)) y.0 = rw (← e) y.1 in
                  let at_end : B y.0 (suc (i + n)) ≡ z = sym (ap (B y.0) e) ∙ y.3 in (
                    x.0 ++ y.0,
                    (suc (i + r.0), x.0, y.0, x.1, fits, join i (suc (i + r.0)) (suc (i + n)) x.0 y.0 x.1 fits, refl),
                    omega (arith, s i, x.2, oy (suc (i + r.0)) (suc (i + n)) y.0 fits i (inl (omega arith))),
                    omega (arith, s (suc (i + n)), at_end, ox i (suc (i + r.0)) x.0 x.1 (suc (i + n)) (inr (omega (arith, e)))),
                    λ t l u. elim (compared t (suc (i + r.0))) [
                      | inl b ↦ omega (arith, s t, x.4 t l (omega (arith, b)), oy (suc (i + r.0)) (suc (i + n)) y.0 fits t (inl b))
                      | inr c ↦ elim c [
                        | inl at ↦ omega (arith, s t, ap (B x.0) at, ap (B y.0) at, ap w at, x.3, y.2, r.7)
                        | inr g ↦ omega (arith, s t, y.4 t g (omega (arith, e, u)), ox i (suc (i + r.0)) x.0 x.1 t (inr g))
                      ]
                    ],
                  )
            ]
          ]

  -- one piece or the other
  abbrev pub Either : Piece → Piece → Piece
  Either X Y i j m = X i j m ⊎ Y i j m

  pub shows_either : (P Q : Places) (X Y : Piece) (k : ℕ) → LiesFrom k P → LiesFrom (k + P.count) Q → Shows P X → Shows Q Y → Shows (alt_places P Q) (Either X Y)
  shows_either P Q X Y k p q sx sy = record {
    shown = λ i j c h. elim h [ inl x ↦ from_x i j c (sx.shown i j c x) | inr y ↦ from_y i j c (sy.shown i j c y) ];
    null = λ i m h. elim (either_cases P.null Q.null m h) [
      | inl a ↦ let r = sx.null i m a in (r.0, inl r.1, r.2)
      | inr b ↦ let r = sy.null i m b in (r.0, inr r.1, r.2)
    ];
    reads = λ i n a w z h. elim (reads_of_alt P Q d k p q i n a w z h) [
      | inl x ↦ let r = sx.reads i n a w z x in (r.0, inl r.1, r.2, r.3, r.4)
      | inr y ↦ let r = sy.reads i n a w z y in (r.0, inr r.1, r.2, r.3, r.4)
    ];
  }
    where
      from_x : (i j : ℕ) (c : Captures) → Shown P d i j (B c) → Shown (alt_places P Q) d i j (B c)
      from_x i j c (inl h) = inl (h.0, either_left P.null Q.null (B c i) h.1)
      from_x i j c (inr h) = inr (h.0, h.1, reads_in_left P Q d i h.0 (B c i) (B c) (B c j) h.2)

      from_y : (i j : ℕ) (c : Captures) → Shown Q d i j (B c) → Shown (alt_places P Q) d i j (B c)
      from_y i j c (inl h) = inl (h.0, either_right P.null Q.null (B c i) h.1)
      from_y i j c (inr h) = inr (h.0, h.1, reads_in_right P Q d i h.0 (B c i) (B c) (B c j) h.2)

  pub shows_optional : (P : Places) (X : Piece) → Shows P X → Shows (opt_places P) (Either Nothing X)
  shows_optional P X sx = record {
    shown = λ i j c h. elim h [
      | inl x ↦ inl (x.0, once_there 0 (B c i) P.null (sym (ap (λ c. B c i) x.1)))
      | inr y ↦ from_x i j c (sx.shown i j c y)
    ];
    null = λ i m h. elim (once_cases 0 P.null m h) [
      | inl e ↦ ([], inl (refl, refl), e)
      | inr b ↦ let r = sx.null i m b in (r.0, inr r.1, r.2)
    ];
    reads = λ i n a w z h. let r = sx.reads i n a w z h in (r.0, inr r.1, r.2, r.3, r.4);
  }
    where
      from_x : (i j : ℕ) (c : Captures) → Shown P d i j (B c) → Shown (opt_places P) d i j (B c)
      from_x i j c (inl h) = inl (h.0, once_kept 0 P.null (B c i) h.1)
      from_x i j c (inr h) = inr h

  -- the piece captures nothing
  abbrev pub IsBlank : Piece → Type 0
  IsBlank X = (i j : ℕ) (m : Captures) → X i j m → m ≡ []

  -- so many pieces at least
  abbrev pub AtLeast : Piece → ℕ → Piece
  AtLeast X n i j m = (c : ℕ) × (n ≤ c) × Times X c i j m

  abbrev pub AtMost : Piece → ℕ → Piece
  AtMost X n i j m = (c : ℕ) × (c ≤ n) × Times X c i j m

  pub no_captures : (m : Captures) → AreApart [] m
  no_captures m x a b = a

  pub times_blank : (X : Piece) → IsBlank X → (c : ℕ) → IsBlank (Times X c)
  times_blank X blank zero i j m h = h.1
  times_blank X blank (suc c) i j m h =
      let e1 = blank i h.0 h.1 h.3 in
      let e2 = times_blank X blank c h.0 j h.2 h.4 in
      h.6 ∙ (ap (λ x. x ++ h.2) e1 ∙ e2)

  -- a piece without captures, and so many more
  then_times : (X : Piece) (c i k j : ℕ) → X i k [] → Times X c k j [] → Times X (suc c) i j []
  then_times X c i k j x y = (k, [], [], x, y, no_captures [], refl)

  module _ (P : Places) (X : Piece) (blank : IsBlank X) (sx : Shows P X) where
    plus_shown : (c i j : ℕ) → Times X (suc c) i j [] → Shown (plus_places P) d i j (B [])
    plus_shown zero i j h =
        let x : X i j [] = rw (← h.4.0) (subst (X i h.0) (blank i h.0 h.1 h.3) h.3) in
        go (sx.shown i j [] x)
      where
        go : Shown P d i j (B []) → Shown (plus_places P) d i j (B [])
        go (inl a) = inl a
        go (inr a) = inr (a.0, a.1, reads_once P d i a.0 0 (B []) 0 a.2)
    plus_shown (suc c) i j h =
        let x : X i h.0 [] = subst (X i h.0) (blank i h.0 h.1 h.3) h.3 in
        let y : Times X (suc c) h.0 j [] = subst (Times X (suc c) h.0 j) (times_blank X blank (suc c) h.0 j h.2 h.4) h.4 in
        go (sx.shown i h.0 [] x) (plus_shown c h.0 j y)
      where
        go : Shown P d i h.0 (B []) → Shown (plus_places P) d h.0 j (B []) → Shown (plus_places P) d i j (B [])
        go (inl a) r = rw a.0 r
        go (inr a) (inl b) =
            inr (a.0, omega (arith, a.1, b.0), reads_once P d i a.0 0 (B []) 0 a.2)
        go (inr a) (inr b) =
            inr (
              a.0 + suc b.0,
              omega (arith, a.1, b.1),
              reads_again P d i a.0 b.0 0 (B []) 0 0 0 a.2 (rw (← a.1) b.2) refl,
            )

    -- what is read again and again is so many pieces, without marks
    PlusFits : ℕ → ℕ → ℕ → (ℕ → ℕ) → ℕ → Type 0
    PlusFits i n a w z =
        (c : ℕ) × Times X (suc c) i (suc (i + n)) [] × (0 ≡ a) × (0 ≡ z) × ((p : ℕ) → i < p → p ≤ i + n → 0 ≡ w p)

    plus_fits : (fuel i n a : ℕ) (w : ℕ → ℕ) (z : ℕ) → n < fuel → Reads (plus_places P) d i n a w z → PlusFits i n a w z
    unfolding PlusFits
    plus_fits zero i n a w z l h = absurd (omega (arith, l))
    plus_fits (suc fuel) i n a w z l h =
        elim (reads_of_plus P d i n a w z h) [
          | inl r ↦
              let x = sx.reads i n a w z r in
              let e = blank i (suc (i + n)) x.0 x.1 in (
                0,
                then_times X 0 i (suc (i + n)) (suc (i + n)) (subst (X i (suc (i + n))) e x.1) (refl, refl),
                sym (ap (λ c. B c i) e) ∙ x.2,
                sym (ap (λ c. B c (suc (i + n))) e) ∙ x.3,
                λ p l u. sym (ap (λ c. B c p) e) ∙ x.4 p l u,
              )
          | inr r ↦
              let x = sx.reads i r.0 a w r.2 r.5 in
              let e = blank i (suc (i + r.0)) x.0 x.1 in
              let y = plus_fits fuel (suc (i + r.0)) r.1 r.3 w z (omega (arith, l, r.4)) r.6 in
              let f : suc (suc (i + r.0) + r.1) ≡ suc (i + n) = omega (arith, r.4) in (
                suc y.0,
                then_times X (suc y.0) i (suc (i + r.0)) (suc (i + n)) (subst (X i (suc (i + r.0))) e x.1)
                    (rw f at y.1),
                sym (ap (λ c. B c i) e) ∙ x.2,
                y.3,
                λ p l u. elim (compared p (suc (i + r.0))) [
                  | inl b ↦ sym (ap (λ c. B c p) e) ∙ x.4 p l (omega (arith, b))
                  | inr c ↦ elim c [
                    | inl at ↦ omega (arith, ap w at, r.7, y.2, x.3, ap (λ c. B c (suc (i + r.0))) e)
                    | inr g ↦ y.4 p g (omega (arith, f, u))
                  ]
                ],
              )
        ]

    pub shows_plus : Shows (plus_places P) (AtLeast X 1)
    unfolding PlusFits
    shows_plus = record {
      shown = λ i j m h. go i j m h.0 h.1 h.2;
      null = λ i m h.
          let r = sx.null i m h in
          let e = blank i i r.0 r.1 in
          ([], (1, omega arith, then_times X 0 i i i (subst (X i i) e r.1) (refl, refl)), sym (ap (λ c. B c i) e) ∙ r.2);
      reads = λ i n a w z h.
          let r = plus_fits (suc n) i n a w z (omega arith) h in
          ([], (suc r.0, omega arith, r.1), r.2, r.3, r.4);
    }
      where
        go : (i j : ℕ) (m : Captures) (c : ℕ) → 1 ≤ c → Times X c i j m → Shown (plus_places P) d i j (B m)
        go i j m zero l h = absurd (omega (arith, l))
        go i j m (suc c) l h =
            let e = times_blank X blank (suc c) i j m h in
            rw e (plus_shown c i j (subst (Times X (suc c) i j) e h))

  pub shows_same : (P : Places) (X Y : Piece) → ((i j : ℕ) (m : Captures) → X i j m → Y i j m) → ((i j : ℕ) (m : Captures) → Y i j m → X i j m) →
      Shows P X → Shows P Y
  shows_same P X Y there back sx = record {
    shown = λ i j m h. sx.shown i j m (back i j m h);
    null = λ i m h. let r = sx.null i m h in (r.0, there i i r.0 r.1, r.2);
    reads = λ i n a w z h. let r = sx.reads i n a w z h in (r.0, there i (suc (i + n)) r.0 r.1, r.2, r.3, r.4);
  }

  -- a capture of what the piece fits
  abbrev pub Capturing : VarName → Piece → Piece
  Capturing x X i j m = (s : Span) × (n : Captures) × (s.start ≡ i) × (s.end ≡ j) × X i j n × (Captured n x → ⊥) × (m ≡ (x, s) ∷ n)

  pub shows_capture : (P : Places) (X : Piece) (x : VarName) → ((i j : ℕ) (m : Captures) → X i j m → Captured m x → ⊥) →
      Shows P X → Shows (cap_places (opening x) (closing x) P) (Capturing x X)
  shows_capture P X x free sx = record { shown = shown; null = null; reads = reads }
    where
      shown : (i j : ℕ) (m : Captures) → Capturing x X i j m → Shown (cap_places (opening x) (closing x) P) d i j (B m)
      shown i j m h = go (sx.shown i j h.1 h.4)
        where
          s : (p : ℕ) → B m p ≡ (if nat_eq i p then opening x else 0) + (if nat_eq j p then closing x else 0) + B h.1 p
          s p = cap_block opening closing x h.0 i j h.2 h.3 h.1 m p h.6

          go : Shown P d i j (B h.1) → Shown (cap_places (opening x) (closing x) P) d i j (B m)
          go (inl a) =
              let e : opening x + closing x + B h.1 i ≡ B m i =
              omega (arith, s i, bit_here i i (opening x) refl, bit_here j i (closing x) (sym a.0)) in
              inl (a.0, subst (Has (map (◌+◌ (opening x + closing x)) P.null)) e (Has-map (◌+◌ (opening x + closing x)) P.null (B h.1 i) a.1))
          go (inr a) =
              inr (
                a.0,
                a.1,
                reads_same (cap_places (opening x) (closing x) P) d i a.0
                    (opening x + B h.1 i) (B m i) (B h.1) (B m) (B h.1 j + closing x) (B m j)
                    (omega (arith, s i, bit_here i i (opening x) refl, bit_apart j i (closing x) (λ e. omega (arith, e, a.1))))
                    (omega (arith, s j, bit_here j j (closing x) refl, bit_apart i j (opening x) (λ e. omega (arith, e, a.1))))
                    (λ p l u. omega (arith, s p, bit_apart i p (opening x) (λ e. omega (arith, e, l)), bit_apart j p (closing x) (λ e. omega (arith, e, a.1, u))))
                    (reads_in_cap (opening x) (closing x) P d i a.0 (B h.1 i) (B h.1) (B h.1 j) a.2),
              )

      null : (i m : ℕ) → Has (map (◌+◌ (opening x + closing x)) P.null) m → (c : Captures) × Capturing x X i i c × (B c i ≡ m)
      null i m h =
          let a = Has-map_cases (◌+◌ (opening x + closing x)) P.null m h in
          let r = sx.null i a.0 a.1 in (
            (x, record { start = i; end = i; ordered = omega arith }) ∷ r.0,
            (record { start = i; end = i; ordered = omega arith }, r.0, refl, refl, r.1, free i i r.0 r.1, refl),
            omega (arith, bit_here i i (opening x) refl, bit_here i i (closing x) refl, r.2, a.2),
          )

      reads : (i n a : ℕ) (w : ℕ → ℕ) (z : ℕ) → Reads (cap_places (opening x) (closing x) P) d i n a w z → HasBlocks (Capturing x X) i n a w z
      reads i n a w z h =
          let b = reads_of_cap (opening x) (closing x) P d i n a w z h in
          let r = sx.reads i n b.0 w b.1 b.2 in (
            (x, record { start = i; end = suc (i + n); ordered = omega arith }) ∷ r.0,
            (record { start = i; end = suc (i + n); ordered = omega arith }, r.0, refl, refl, r.1, free i (suc (i + n)) r.0 r.1, refl),
            omega (arith, bit_here i i (opening x) refl, bit_apart (suc (i + n)) i (closing x) (λ e. omega (arith, e)), r.2, b.3),
            omega (arith, bit_here (suc (i + n)) (suc (i + n)) (closing x) refl, bit_apart i (suc (i + n)) (opening x) (λ e. omega (arith, e)), r.3, b.4),
            λ p l u. omega (arith, bit_apart i p (opening x) (λ e. omega (arith, e, l)), bit_apart (suc (i + n)) p (closing x) (λ e. omega (arith, e, u)), r.4 p l u),
          )
