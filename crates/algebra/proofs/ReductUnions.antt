-- The union of reducts reduces the union.
use Rattle.std.proofs.Common.{◌≡◌, ℕ, zero, suc, ◌+◌, ◌-◌, ◌<◌, ◌⊎◌, ◌↔◌, List, [], ◌∷◌, ◌++◌, Option, Some, None, length, inl, inr, refl, sym, ap, subst, arith, ◌∙◌}
use Rattle.std.specs.Prelude.{slice_get, map, nat_lt, if◌then◌else◌}
use Rattle.std.specs.Option.{option_map}
use Rattle.std.proofs.lemmas.Bool.{lt-ltb, le-ltb, cases_lt}
use Rattle.std.proofs.lemmas.Option.{slice_get_within}
use Rattle.marked_automaton.specs.Automaton.{HasByte}
use Rattle.span_core.specs.Lists.{Has}
use Rattle.marked_automaton.specs.declared.way.Way.{Way}
use Rattle.marked_automaton.specs.declared.way.Stop.{Stop}
use Rattle.marked_automaton.specs.Automaton.{Automaton}
use Rattle.marked_automaton.specs.Automaton.{IsWhole}
use Rattle.algebra.specs.Operations.{moved_way, moved_stop, union_of}
use Rattle.marked_automaton.specs.Reduct.{IsReachedIn, IsReached, HasEnd, Knows, IsReduct}
use Rattle.algebra.specs.Laws.{ReductOfUnion}
use Rattle.span_core.proofs.HasLaws.{Has-append_left, Has-append_right, Has-append_cases, Has-map, Has-map_cases}
use Rattle.span_core.proofs.ListLaws.{get_left}
use Rattle.marked_automaton.proofs.Listed.{get_map_cases, get_map}
use Rattle.marked_automaton.proofs.Listed.{some_same, place_has}

-- f1 below n, and f2 behind it, with its values moved by k
abbrev pub sum_map : ℕ → ℕ → (ℕ → Option ℕ) → (ℕ → Option ℕ) → ℕ → Option ℕ
sum_map n k f1 f2 b = if nat_lt b n then f1 b else option_map (λ a. k + a) (f2 (b - n))

sum_first : (n k : ℕ) (f1 f2 : ℕ → Option ℕ) (b : ℕ) → b < n → sum_map n k f1 f2 b ≡ f1 b
sum_first n k f1 f2 b l = ap (λ t. if t then f1 b else option_map (λ a. k + a) (f2 (b - n))) (lt-ltb b n l)

sum_second : (n k : ℕ) (f1 f2 : ℕ → Option ℕ) (b c : ℕ) → b ≡ n + c → sum_map n k f1 f2 b ≡ option_map (λ a. k + a) (f2 c)
sum_second n k f1 f2 b c e =
    let m : b - n ≡ c = omega (arith, e) in
    ap (λ t. if t then f1 b else option_map (λ a. k + a) (f2 (b - n))) (le-ltb b n (omega (arith, e))) ∙ ap (λ c. option_map (λ a. k + a) (f2 c)) m

moved_some : (k : ℕ) (o : Option ℕ) (a : ℕ) → option_map (λ a. k + a) o ≡ Some a → (c : ℕ) × (o ≡ Some c) × (k + c ≡ a)
moved_some k None a e = absurd (cc)
moved_some k (Some c) a e = (c, refl, some_same (k + c) a e)

sum_left : (n k : ℕ) (f1 f2 : ℕ → Option ℕ) (b a : ℕ) → b < n → f1 b ≡ Some a → sum_map n k f1 f2 b ≡ Some a
sum_left n k f1 f2 b a l e = sum_first n k f1 f2 b l ∙ e

sum_right : (n k : ℕ) (f1 f2 : ℕ → Option ℕ) (b a c : ℕ) → b ≡ n + c → f2 c ≡ Some a → sum_map n k f1 f2 b ≡ Some (k + a)
sum_right n k f1 f2 b a c at e = sum_second n k f1 f2 b c at ∙ ap (option_map (λ a. k + a)) e

pub get_right : {X : Type 0} (xs ys : List X) (k j : ℕ) (x : X) → k ≡ length xs + j → slice_get ys j ≡ Some x → slice_get (xs ++ ys) k ≡ Some x
get_right [] ys k j x at e = let f : j ≡ k = omega (arith, at) in rw (← f) e
get_right (y ∷ xs) ys zero j x at e = absurd (omega (arith, at))
get_right (y ∷ xs) ys (suc k) j x at e = get_right xs ys k j x (omega (arith, at)) e

pub get_append_cases : {X : Type 0} (xs ys : List X) (k : ℕ) (x : X) → slice_get (xs ++ ys) k ≡ Some x →
    ((k < length xs) × (slice_get xs k ≡ Some x)) ⊎ ((j : ℕ) × (k ≡ length xs + j) × (slice_get ys j ≡ Some x))
get_append_cases [] ys k x e = inr (k, omega arith, e)
get_append_cases (y ∷ xs) ys zero x e = inl (omega arith, e)
get_append_cases (y ∷ xs) ys (suc k) x e =
    elim (get_append_cases xs ys k x e) [
      | inl r ↦ inl (omega (arith, r.0), r.1)
      | inr r ↦ inr (r.0, omega (arith, r.1), r.2)
    ]

-- an end among moved ones
moved_end : (k p m : ℕ) (xs : List Stop) → Has xs (record { state = p; marks = m }) → Has (map (moved_stop k) xs) (record { state = k + p; marks = m })
moved_end k p m xs h = Has-map (moved_stop k) xs (record { state = p; marks = m }) h

end_moved : (k q p m : ℕ) (xs : List Stop) → q ≡ k + p → Has (map (moved_stop k) xs) (record { state = q; marks = m }) → Has xs (record { state = p; marks = m })
end_moved k q p m xs at h =
    let x = Has-map_cases (moved_stop k) xs (record { state = q; marks = m }) h in
    let s : x.0.state ≡ p = omega (arith, ap (λ (g : Stop). g.state) x.2, at) in
    let t : x.0.marks ≡ m = ap (λ (g : Stop). g.marks) x.2 in
    subst (Has xs) (λ i. record { state = s i; marks = t i }) x.1

module _ (A1 B1 A2 B2 : Automaton) (wa1 : IsWhole A1) (wb1 : IsWhole B1) (wa2 : IsWhole A2) (wb2 : IsWhole B2) where
  abbrev A : Automaton
  A = union_of A1 A2

  abbrev B : Automaton
  B = union_of B1 B2

  -- what is reached in the union is reached in a part
  reached_first : (n p : ℕ) → p < B1.states → IsReachedIn B n p → IsReachedIn B1 n p
  reached_first zero p l h =
      elim (Has-append_cases B1.starts (map (◌+◌ B1.states) B2.starts) p h) [
        | inl s ↦ s
        | inr s ↦ let x = Has-map_cases (◌+◌ B1.states) B2.starts p s in absurd (omega (arith, x.2, l))
      ]
  reached_first (suc n) p l h =
      elim (Has-append_cases B1.ways (map (moved_way B1.states) B2.ways) h.0 h.1) [
        | inl y ↦ (h.0, y, reached_first n h.0.from (wb1.froms h.0 y) h.2, h.3)
        | inr y ↦ let x = Has-map_cases (moved_way B1.states) B2.ways h.0 y in absurd (omega (arith, ap (λ (g : Way). g.to) x.2, h.3, l))
      ]

  reached_second : (n q p : ℕ) → q ≡ B1.states + p → IsReachedIn B n q → IsReachedIn B2 n p
  reached_second zero q p at h =
      elim (Has-append_cases B1.starts (map (◌+◌ B1.states) B2.starts) q h) [
        | inl s ↦ absurd (omega (arith, wb1.starts q s, at))
        | inr s ↦
            let x = Has-map_cases (◌+◌ B1.states) B2.starts q s in
            let e : x.0 ≡ p = omega (arith, x.2, at) in
            subst (Has B2.starts) e x.1
      ]
  reached_second (suc n) q p at h =
      elim (Has-append_cases B1.ways (map (moved_way B1.states) B2.ways) h.0 h.1) [
        | inl y ↦ absurd (omega (arith, wb1.tos h.0 y, h.3, at))
        | inr y ↦
            let x = Has-map_cases (moved_way B1.states) B2.ways h.0 y in (
              x.0,
              x.1,
              reached_second n h.0.from x.0.from (sym (ap (λ (g : Way). g.from) x.2)) h.2,
              omega (arith, ap (λ (g : Way). g.to) x.2, h.3, at),
            )
      ]

  module _ (f1 g1 f2 g2 : ℕ → Option ℕ) (e1 e2 : ℕ → ℕ → ℕ) (red1 : IsReduct A1 B1 f1 g1 e1) (red2 : IsReduct A2 B2 f2 g2 e2) where
    abbrev f : ℕ → Option ℕ
    f = sum_map B1.states A1.states f1 f2

    abbrev g : ℕ → Option ℕ
    g = sum_map (length B1.ways) (length A1.ways) g1 g2

    abbrev e : ℕ → ℕ → ℕ
    e b k = if nat_lt b B1.states then e1 b k else length B1.stops + e2 (b - B1.states) (k - length A1.stops)

    known_left : (b : ℕ) → b < B1.states → Knows f1 b → Knows f b
    known_left b l h = (h.0, sum_left B1.states A1.states f1 f2 b h.0 l h.1)

    known_right : (b c : ℕ) → b ≡ B1.states + c → Knows f2 c → Knows f b
    known_right b c at h = (A1.states + h.0, sum_right B1.states A1.states f1 f2 b h.0 c at h.1)

    left_known : (b : ℕ) → b < B1.states → Knows f b → Knows f1 b
    left_known b l h = (h.0, sym (sum_first B1.states A1.states f1 f2 b l) ∙ h.1)

    right_known : (b c : ℕ) → b ≡ B1.states + c → Knows f b → Knows f2 c
    right_known b c at h =
        let r = moved_some A1.states (f2 c) h.0 (sym (sum_second B1.states A1.states f1 f2 b c at) ∙ h.1) in (r.0, r.1)

    value_left : (b a : ℕ) → b < B1.states → f b ≡ Some a → f1 b ≡ Some a
    value_left b a l h = sym (sum_first B1.states A1.states f1 f2 b l) ∙ h

    value_right : (b c a : ℕ) → b ≡ B1.states + c → f b ≡ Some a → (x : ℕ) × (f2 c ≡ Some x) × (A1.states + x ≡ a)
    value_right b c a at h = moved_some A1.states (f2 c) a (sym (sum_second B1.states A1.states f1 f2 b c at) ∙ h)

    -- a state of the union is one of the first, or of the second
    side : (b : ℕ) → (b < B1.states) ⊎ ((c : ℕ) × (b ≡ B1.states + c))
    side b = elim (cases_lt b B1.states) [ inl l ↦ inl l | inr h ↦ inr (b - B1.states, omega (arith, h)) ]

    from_states : (b : ℕ) → Knows f b → b < B1.states + B2.states
    from_states b h =
        elim (side b) [
          | inl l ↦ omega (arith, l)
          | inr c ↦ omega (arith, c.1, red2.from_states c.0 (right_known b c.0 c.1 h))
        ]

    to_states : (b a : ℕ) → f b ≡ Some a → a < A1.states + A2.states
    to_states b a h =
        elim (side b) [
          | inl l ↦ omega (arith, red1.to_states b a (value_left b a l h))
          | inr c ↦ let x = value_right b c.0 a c.1 h in omega (arith, x.2, red2.to_states c.0 x.0 x.1)
        ]

    onto : (a : ℕ) → a < A1.states + A2.states → (b : ℕ) × (f b ≡ Some a)
    onto a l =
        elim (cases_lt a A1.states) [
          | inl m ↦ let b = red1.onto a m in (b.0, sum_left B1.states A1.states f1 f2 b.0 a (red1.from_states b.0 (a, b.1)) b.1)
          | inr m ↦
              let b = red2.onto (a - A1.states) (omega (arith, l, m)) in
              let k : A1.states + (a - A1.states) ≡ a = omega (arith, m) in
              (B1.states + b.0, sum_right B1.states A1.states f1 f2 (B1.states + b.0) (a - A1.states) b.0 refl b.1 ∙ ap Some k)
        ]

    starts_there : (b a : ℕ) → Has B.starts b → f b ≡ Some a → Has A.starts a
    starts_there b a h at =
        elim (Has-append_cases B1.starts (map (◌+◌ B1.states) B2.starts) b h) [
          | inl s ↦ Has-append_left A1.starts (map (◌+◌ A1.states) A2.starts) a (red1.starts_there b a s (value_left b a (wb1.starts b s) at))
          | inr s ↦
              let x = Has-map_cases (◌+◌ B1.states) B2.starts b s in
              let v = value_right b x.0 a (sym x.2) at in
              Has-append_right A1.starts (map (◌+◌ A1.states) A2.starts) a
              (subst (Has (map (◌+◌ A1.states) A2.starts)) v.2 (Has-map (◌+◌ A1.states) A2.starts v.0 (red2.starts_there x.0 v.0 x.1 v.1)))
        ]

    starts_back : (a : ℕ) → Has A.starts a → (b : ℕ) × Has B.starts b × (f b ≡ Some a)
    starts_back a h =
        elim (Has-append_cases A1.starts (map (◌+◌ A1.states) A2.starts) a h) [
          | inl s ↦ let b = red1.starts_back a s in
              (b.0, Has-append_left B1.starts (map (◌+◌ B1.states) B2.starts) b.0 b.1, sum_left B1.states A1.states f1 f2 b.0 a (wb1.starts b.0 b.1) b.2)
          | inr s ↦
              let x = Has-map_cases (◌+◌ A1.states) A2.starts a s in
              let b = red2.starts_back x.0 x.1 in (
                B1.states + b.0,
                Has-append_right B1.starts (map (◌+◌ B1.states) B2.starts) (B1.states + b.0) (Has-map (◌+◌ B1.states) B2.starts b.0 b.1),
                sum_right B1.states A1.states f1 f2 (B1.states + b.0) x.0 b.0 refl b.2 ∙ ap Some x.2,
              )
        ]

    knows_ends : (b m : ℕ) → IsReached B b → HasEnd B b m → Knows f b
    knows_ends b m way h =
        elim (Has-append_cases B1.stops (map (moved_stop B1.states) B2.stops) (record { state = b; marks = m }) h) [
          | inl s ↦
              let l = wb1.stops (record { state = b; marks = m }) s in
              known_left b l (red1.knows_ends b m (way.0, reached_first way.0 b l way.1) s)
          | inr s ↦
              let x = Has-map_cases (moved_stop B1.states) B2.stops (record { state = b; marks = m }) s in
              let at : b ≡ B1.states + x.0.state = sym (ap (λ (g : Stop). g.state) x.2) in
              known_right b x.0.state at (red2.knows_ends x.0.state m (way.0, reached_second way.0 b x.0.state at way.1) (end_moved B1.states b x.0.state m B2.stops at s))
        ]

    knows_before : (y : Way) → Has B.ways y → IsReached B y.from → Knows f y.to → Knows f y.from
    knows_before y h way to =
        elim (Has-append_cases B1.ways (map (moved_way B1.states) B2.ways) y h) [
          | inl s ↦ known_left y.from (wb1.froms y s)
              (red1.knows_before y s (way.0, reached_first way.0 y.from (wb1.froms y s) way.1) (left_known y.to (wb1.tos y s) to))
          | inr s ↦
              let x = Has-map_cases (moved_way B1.states) B2.ways y s in
              let from : y.from ≡ B1.states + x.0.from = sym (ap (λ (g : Way). g.from) x.2) in
              let end : y.to ≡ B1.states + x.0.to = sym (ap (λ (g : Way). g.to) x.2) in
              known_right y.from x.0.from from
              (red2.knows_before x.0 x.1 (way.0, reached_second way.0 y.from x.0.from from way.1) (right_known y.to x.0.to end to))
        ]

    ways_known : (k : ℕ) (y : Way) → slice_get B.ways k ≡ Some y → Knows g k ↔ (Knows f y.from × Knows f y.to)
    ways_known k y at =
        elim (get_append_cases B1.ways (map (moved_way B1.states) B2.ways) k y at) [
          | inl s ↦
              let h = place_has B1.ways k y s.1 in
              let iff = red1.ways_known k y s.1 in (
                (λ known. let v = iff.0 (known.0, sym (sum_first (length B1.ways) (length A1.ways) g1 g2 k s.0) ∙ known.1) in
                    (known_left y.from (wb1.froms y h) v.0, known_left y.to (wb1.tos y h) v.1)),
                (λ known. let v = iff.1 (left_known y.from (wb1.froms y h) known.0, left_known y.to (wb1.tos y h) known.1) in
                    (v.0, sum_left (length B1.ways) (length A1.ways) g1 g2 k v.0 s.0 v.1)),
              )
          | inr s ↦
              let x = get_map_cases (moved_way B1.states) B2.ways s.0 y s.2 in
              let from : y.from ≡ B1.states + x.0.from = sym (ap (λ (g : Way). g.from) x.2) in
              let end : y.to ≡ B1.states + x.0.to = sym (ap (λ (g : Way). g.to) x.2) in
              let iff = red2.ways_known s.0 x.0 x.1 in (
                (λ known. let m = moved_some (length A1.ways) (g2 s.0) known.0 (sym (sum_second (length B1.ways) (length A1.ways) g1 g2 k s.0 s.1) ∙ known.1) in
                    let v = iff.0 (m.0, m.1) in
                    (known_right y.from x.0.from from v.0, known_right y.to x.0.to end v.1)),
                (λ known. let v = iff.1 (right_known y.from x.0.from from known.0, right_known y.to x.0.to end known.1) in
                    (length A1.ways + v.0, sum_right (length B1.ways) (length A1.ways) g1 g2 k v.0 s.0 s.1 v.1)),
              )
        ]

    ways_there : (k : ℕ) (y : Way) (h : ℕ) → slice_get B.ways k ≡ Some y → g k ≡ Some h →
        (x : Way) × (slice_get A.ways h ≡ Some x) × (x.marks ≡ y.marks) × (f y.from ≡ Some x.from) × (f y.to ≡ Some x.to)
        × ((c : ℕ) → HasByte y.bytes c → HasByte x.bytes c)
    ways_there k y h at known =
        elim (get_append_cases B1.ways (map (moved_way B1.states) B2.ways) k y at) [
          | inl s ↦
              let u = place_has B1.ways k y s.1 in
              let x = red1.ways_there k y h s.1 (sym (sum_first (length B1.ways) (length A1.ways) g1 g2 k s.0) ∙ known) in (
                x.0,
                get_left A1.ways (map (moved_way A1.states) A2.ways) h x.0 x.1,
                x.2,
                sum_left B1.states A1.states f1 f2 y.from x.0.from (wb1.froms y u) x.3,
                sum_left B1.states A1.states f1 f2 y.to x.0.to (wb1.tos y u) x.4,
                x.5,
              )
          | inr s ↦
              let z = get_map_cases (moved_way B1.states) B2.ways s.0 y s.2 in
              let from : y.from ≡ B1.states + z.0.from = sym (ap (λ (g : Way). g.from) z.2) in
              let end : y.to ≡ B1.states + z.0.to = sym (ap (λ (g : Way). g.to) z.2) in
              let m = moved_some (length A1.ways) (g2 s.0) h (sym (sum_second (length B1.ways) (length A1.ways) g1 g2 k s.0 s.1) ∙ known) in
              let x = red2.ways_there s.0 z.0 m.0 z.1 m.1 in (
                moved_way A1.states x.0,
                get_right A1.ways (map (moved_way A1.states) A2.ways) h m.0 (moved_way A1.states x.0) (sym m.2) (get_map (moved_way A1.states) A2.ways m.0 x.0 x.1),
                x.2 ∙ ap (λ (g : Way). g.marks) z.2,
                sum_right B1.states A1.states f1 f2 y.from x.0.from z.0.from from x.3,
                sum_right B1.states A1.states f1 f2 y.to x.0.to z.0.to end x.4,
                λ c has. x.5 c (rw (← z.2) at has),
              )
        ]

    ways_back : (b h c : ℕ) (x : Way) → slice_get A.ways h ≡ Some x → f b ≡ Some x.from → HasByte x.bytes c →
        (k : ℕ) × (y : Way) × (slice_get B.ways k ≡ Some y) × (y.from ≡ b) × HasByte y.bytes c × (g k ≡ Some h)
    ways_back b h c x at image has =
        elim (get_append_cases A1.ways (map (moved_way A1.states) A2.ways) h x at) [
          | inl s ↦ elim (side b) [
            | inl l ↦
                let y = red1.ways_back b h c x s.1 (value_left b x.from l image) has in (
                  y.0,
                  y.1,
                  get_left B1.ways (map (moved_way B1.states) B2.ways) y.0 y.1 y.2,
                  y.3,
                  y.4,
                  sum_left (length B1.ways) (length A1.ways) g1 g2 y.0 h (slice_get_within B1.ways y.0 y.1 y.2) y.5,
                )
            | inr d ↦ let v = value_right b d.0 x.from d.1 image in absurd (omega (arith, wa1.froms x (place_has A1.ways h x s.1), v.2))
          ]
          | inr s ↦
              let z = get_map_cases (moved_way A1.states) A2.ways s.0 x s.2 in
              elim (side b) [
                | inl l ↦ absurd (omega (arith, red1.to_states b x.from (value_left b x.from l image), ap (λ (g : Way). g.from) z.2))
                | inr d ↦
                    let v = value_right b d.0 x.from d.1 image in
                    let same : v.0 ≡ z.0.from = omega (arith, v.2, ap (λ (g : Way). g.from) z.2) in
                    let y = red2.ways_back d.0 s.0 c z.0 z.1 (v.1 ∙ ap Some same) (rw (← z.2) at has) in (
                      length B1.ways + y.0,
                      moved_way B1.states y.1,
                      get_right B1.ways (map (moved_way B1.states) B2.ways) (length B1.ways + y.0) y.0 (moved_way B1.states y.1) refl (get_map (moved_way B1.states) B2.ways y.0 y.1 y.2),
                      omega (arith, y.3, d.1),
                      y.4,
                      sum_right (length B1.ways) (length A1.ways) g1 g2 (length B1.ways + y.0) s.0 y.0 refl y.5 ∙ ap Some (sym s.1),
                    )
              ]
        ]

    ends_back : (b a m : ℕ) → f b ≡ Some a → HasEnd B b m → HasEnd A a m
    ends_back b a m at h =
        elim (Has-append_cases B1.stops (map (moved_stop B1.states) B2.stops) (record { state = b; marks = m }) h) [
          | inl s ↦ Has-append_left A1.stops (map (moved_stop A1.states) A2.stops) (record { state = a; marks = m })
              (red1.ends_back b a m (value_left b a (wb1.stops (record { state = b; marks = m }) s) at) s)
          | inr s ↦
              let x = Has-map_cases (moved_stop B1.states) B2.stops (record { state = b; marks = m }) s in
              let here : b ≡ B1.states + x.0.state = sym (ap (λ (g : Stop). g.state) x.2) in
              let v = value_right b x.0.state a here at in
              let old = red2.ends_back x.0.state v.0 m v.1 (end_moved B1.states b x.0.state m B2.stops here s) in
              Has-append_right A1.stops (map (moved_stop A1.states) A2.stops) (record { state = a; marks = m })
              (rw (← v.2) (moved_end A1.states v.0 m A2.stops old))
        ]

    e_left : (b k : ℕ) → b < B1.states → e b k ≡ e1 b k
    e_left b k l = ap (λ t. if t then e1 b k else length B1.stops + e2 (b - B1.states) (k - length A1.stops)) (lt-ltb b B1.states l)

    e_right : (b c k j : ℕ) → b ≡ B1.states + c → k ≡ length A1.stops + j → e b k ≡ length B1.stops + e2 c j
    e_right b c k j at kj =
        let x : b - B1.states ≡ c = omega (arith, at) in
        let y : k - length A1.stops ≡ j = omega (arith, kj) in
        ap (λ t. if t then e1 b k else length B1.stops + e2 (b - B1.states) (k - length A1.stops)) (le-ltb b B1.states (omega (arith, at)))
        ∙ (ap (λ v. length B1.stops + e2 v (k - length A1.stops)) x ∙ ap (λ v. length B1.stops + e2 c v) y)

    -- an end of the union at an image is one of the part that the state is of
    stop_left : (b a k : ℕ) (x : Stop) → b < B1.states → f b ≡ Some a → slice_get A.stops k ≡ Some x → x.state ≡ a → slice_get A1.stops k ≡ Some x
    stop_left b a k x l at get end =
        elim (get_append_cases A1.stops (map (moved_stop A1.states) A2.stops) k x get) [
          | inl s ↦ s.1
          | inr s ↦
              let z = get_map_cases (moved_stop A1.states) A2.stops s.0 x s.2 in
              absurd (omega (arith, red1.to_states b a (value_left b a l at), ap (λ (g : Stop). g.state) z.2, end))
        ]

    stop_right : (b c a k : ℕ) (x : Stop) (v : ℕ) → A1.states + v ≡ a → slice_get A.stops k ≡ Some x → x.state ≡ a →
        (j : ℕ) × (z : Stop) × (k ≡ length A1.stops + j) × (slice_get A2.stops j ≡ Some z) × (z.state ≡ v) × (z.marks ≡ x.marks)
    stop_right b c a k x v av get end =
        elim (get_append_cases A1.stops (map (moved_stop A1.states) A2.stops) k x get) [
          | inl s ↦ absurd (omega (arith, wa1.stops x (place_has A1.stops k x s.1), end, av))
          | inr s ↦
              let z = get_map_cases (moved_stop A1.states) A2.stops s.0 x s.2 in
              (s.0, z.0, s.1, z.1, omega (arith, ap (λ (g : Stop). g.state) z.2, end, av), ap (λ (g : Stop). g.marks) z.2)
        ]

    ends_there : (b a k : ℕ) (x : Stop) → f b ≡ Some a → slice_get A.stops k ≡ Some x → x.state ≡ a →
        (y : Stop) × (slice_get B.stops (e b k) ≡ Some y) × (y.state ≡ b) × (y.marks ≡ x.marks)
    ends_there b a k x at get end =
        elim (side b) [
          | inl l ↦
              let y = red1.ends_there b a k x (value_left b a l at) (stop_left b a k x l at get end) end in
              (y.0, ap (slice_get B.stops) (e_left b k l) ∙ get_left B1.stops (map (moved_stop B1.states) B2.stops) (e1 b k) y.0 y.1, y.2, y.3)
          | inr c ↦
              let v = value_right b c.0 a c.1 at in
              let z = stop_right b c.0 a k x v.0 v.2 get end in
              let y = red2.ends_there c.0 v.0 z.0 z.1 v.1 z.3 z.4 in (
                moved_stop B1.states y.0,
                get_right B1.stops (map (moved_stop B1.states) B2.stops) (e b k) (e2 c.0 z.0) (moved_stop B1.states y.0) (e_right b c.0 k z.0 c.1 z.2)
                    (get_map (moved_stop B1.states) B2.stops (e2 c.0 z.0) y.0 y.1),
                omega (arith, y.2, c.1),
                y.3 ∙ z.5,
              )
        ]

    ends_apart : (b a k l : ℕ) (x y : Stop) → f b ≡ Some a → slice_get A.stops k ≡ Some x → x.state ≡ a →
        slice_get A.stops l ≡ Some y → y.state ≡ a → e b k ≡ e b l → k ≡ l
    ends_apart b a k l x y at getx endx gety endy same =
        elim (side b) [
          | inl s ↦ red1.ends_apart b a k l x y (value_left b a s at) (stop_left b a k x s at getx endx) endx (stop_left b a l y s at gety endy) endy
              (sym (e_left b k s) ∙ (same ∙ e_left b l s))
          | inr c ↦
              let v = value_right b c.0 a c.1 at in
              let p = stop_right b c.0 a k x v.0 v.2 getx endx in
              let q = stop_right b c.0 a l y v.0 v.2 gety endy in
              let inner : e2 c.0 p.0 ≡ e2 c.0 q.0 = omega (arith, e_right b c.0 k p.0 c.1 p.2, e_right b c.0 l q.0 c.1 q.2, same) in
              omega (arith, p.2, q.2, red2.ends_apart c.0 v.0 p.0 q.0 p.1 q.1 v.1 p.3 p.4 q.3 q.4 inner)
        ]

    idles : (b a : ℕ) → f b ≡ Some a → Has A.idle a ↔ Has B.idle b
    idles b a at =
        elim (side b) [
          | inl l ↦
              let v = value_left b a l at in (
                (λ h. elim (Has-append_cases A1.idle (map (◌+◌ A1.states) A2.idle) a h) [
                  | inl s ↦ Has-append_left B1.idle (map (◌+◌ B1.states) B2.idle) b ((red1.idles b a v).0 s)
                  | inr s ↦ let x = Has-map_cases (◌+◌ A1.states) A2.idle a s in absurd (omega (arith, x.2, red1.to_states b a v))
                ]),
                (λ h. elim (Has-append_cases B1.idle (map (◌+◌ B1.states) B2.idle) b h) [
                  | inl s ↦ Has-append_left A1.idle (map (◌+◌ A1.states) A2.idle) a ((red1.idles b a v).1 s)
                  | inr s ↦ let x = Has-map_cases (◌+◌ B1.states) B2.idle b s in absurd (omega (arith, x.2, l))
                ]),
              )
          | inr c ↦
              let v = value_right b c.0 a c.1 at in (
                (λ h. elim (Has-append_cases A1.idle (map (◌+◌ A1.states) A2.idle) a h) [
                  | inl s ↦ absurd (omega (arith, wa1.idles a s, v.2))
                  | inr s ↦
                      let x = Has-map_cases (◌+◌ A1.states) A2.idle a s in
                      let same : x.0 ≡ v.0 = omega (arith, x.2, v.2) in
                      let old = (red2.idles c.0 v.0 v.1).0 (subst (Has A2.idle) same x.1) in
                      Has-append_right B1.idle (map (◌+◌ B1.states) B2.idle) b (subst (Has (map (◌+◌ B1.states) B2.idle)) (sym c.1) (Has-map (◌+◌ B1.states) B2.idle c.0 old))
                ]),
                (λ h. elim (Has-append_cases B1.idle (map (◌+◌ B1.states) B2.idle) b h) [
                  | inl s ↦ absurd (omega (arith, wb1.idles b s, c.1))
                  | inr s ↦
                      let x = Has-map_cases (◌+◌ B1.states) B2.idle b s in
                      let same : x.0 ≡ c.0 = omega (arith, x.2, c.1) in
                      let old = (red2.idles c.0 v.0 v.1).1 (subst (Has B2.idle) same x.1) in
                      Has-append_right A1.idle (map (◌+◌ A1.states) A2.idle) a (subst (Has (map (◌+◌ A1.states) A2.idle)) v.2 (Has-map (◌+◌ A1.states) A2.idle v.0 old))
                ]),
              )
        ]

    pub united : IsReduct A B f g e
    united = record {
      from_states = from_states;
      to_states = to_states;
      onto = onto;
      starts_there = starts_there;
      starts_back = starts_back;
      knows_ends = knows_ends;
      knows_before = knows_before;
      ways_known = ways_known;
      ways_there = ways_there;
      ways_back = ways_back;
      ends_back = ends_back;
      ends_there = ends_there;
      ends_apart = ends_apart;
      idles = idles;
    }

pub reduct_of_union : ReductOfUnion
reduct_of_union A1 B1 A2 B2 wa1 wb1 wa2 wb2 red1 red2 = (
  sum_map B1.states A1.states red1.0 red2.0,
  sum_map (length B1.ways) (length A1.ways) red1.1 red2.1,
  λ b k. if nat_lt b B1.states then red1.2 b k else length B1.stops + red2.2 (b - B1.states) (k - length A1.stops),
  united A1 B1 A2 B2 wa1 wb1 wa2 wb2 red1.0 red1.1 red2.0 red2.1 red1.2 red2.2 red1.3 red2.3,
)
