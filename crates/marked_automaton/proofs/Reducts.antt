-- A reduct of a reduct is a reduct.
use Rattle.std.proofs.Common.{◌≡◌, ℕ, zero, suc, ◌↔◌, Option, Some, None, refl, sym, ap, subst, ◌∙◌}
use Rattle.std.specs.Option.{unwrap_or}
use Rattle.std.specs.Prelude.{slice_get}
use Rattle.span_core.specs.Lists.{Has}
use Rattle.marked_automaton.specs.declared.way.Way.{Way}
use Rattle.marked_automaton.specs.Automaton.{Automaton}
use Rattle.marked_automaton.specs.Laws.{ReductOfReduct}
use Rattle.marked_automaton.proofs.Listed.{some_same, has_place, place_has}
use Rattle.marked_automaton.specs.Reduct.{IsReachedIn, IsReached, Knows, IsReduct, bind_option, after_map}

-- what the map after another gives
pub bind_cases : (o : Option ℕ) (f : ℕ → Option ℕ) (a : ℕ) → bind_option o f ≡ Some a → (b : ℕ) × (o ≡ Some b) × (f b ≡ Some a)
bind_cases None f a e = absurd (cc)
bind_cases (Some b) f a e = (b, refl, e)

bind_some : (o : Option ℕ) (f : ℕ → Option ℕ) (b a : ℕ) → o ≡ Some b → f b ≡ Some a → bind_option o f ≡ Some a
bind_some o f b a e h = ap (λ o. bind_option o f) e ∙ h

-- the end of c for an end of what is reached by both maps
abbrev pub after_ends : (ℕ → ℕ → ℕ) → (ℕ → Option ℕ) → (ℕ → ℕ → ℕ) → ℕ → ℕ → ℕ
after_ends e f1 e1 c k = e1 c (e (unwrap_or (f1 c) 0) k)

module _ (A B C : Automaton) (f g f1 g1 : ℕ → Option ℕ) (e e1 : ℕ → ℕ → ℕ) (r : IsReduct A B f g e) (s : IsReduct B C f1 g1 e1) where
  -- what f1 knows, and is reached, has an image that is reached
  reached : (n c b : ℕ) → IsReachedIn C n c → f1 c ≡ Some b → IsReachedIn B n b
  reached zero c b h e = s.starts_there c b h e
  reached (suc n) c b h e =
      let y = h.0 in
      let to : Knows f1 y.to = (b, ap f1 h.3 ∙ e) in
      let from = s.knows_before y h.1 (n, h.2) to in
      let k = has_place C.ways y h.1 in
      let g_knows = (s.ways_known k.0 y k.1).1 (from, to) in
      let x = s.ways_there k.0 y g_knows.0 k.1 g_knows.1 in
      let back = reached n y.from from.0 h.2 from.1 in (
        x.0,
        place_has B.ways g_knows.0 x.0 x.1,
        subst (λ v. IsReachedIn B n v) (some_same from.0 x.0.from (sym from.1 ∙ x.3)) back,
        some_same x.0.to b (sym x.4 ∙ to.1),
      )

  known_there : (c b a : ℕ) → f1 c ≡ Some b → f b ≡ Some a → Knows (after_map f f1) c
  known_there c b a e h = (a, bind_some (f1 c) f b a e h)

  pub composed : IsReduct A C (after_map f f1) (after_map g g1) (after_ends e f1 e1)
  composed = record {
    from_states = λ c h. let x = bind_cases (f1 c) f h.0 h.1 in s.from_states c (x.0, x.1);
    to_states = λ c a h. let x = bind_cases (f1 c) f a h in r.to_states x.0 a x.2;
    onto = λ a l.
        let b = r.onto a l in
        let c = s.onto b.0 (r.from_states b.0 (a, b.1)) in
        (c.0, bind_some (f1 c.0) f b.0 a c.1 b.1);
    starts_there = λ c a h e. let x = bind_cases (f1 c) f a e in r.starts_there x.0 a (s.starts_there c x.0 h x.1) x.2;
    starts_back = λ a h.
        let b = r.starts_back a h in
        let c = s.starts_back b.0 b.1 in
        (c.0, c.1, bind_some (f1 c.0) f b.0 a c.2 b.2);
    knows_ends = λ c m h end.
        let b = s.knows_ends c m h end in
        let a = r.knows_ends b.0 m (h.0, reached h.0 c b.0 h.1 b.1) (s.ends_back c b.0 m b.1 end) in
        known_there c b.0 a.0 b.1 a.1;
    knows_before = knows_before;
    ways_known = ways_known;
    ways_there = λ k y h at e.
        let v = bind_cases (g1 k) g h e in
        let x = s.ways_there k y v.0 at v.1 in
        let u = r.ways_there v.0 x.0 h x.1 v.2 in (
          u.0,
          u.1,
          u.2 ∙ x.2,
          bind_some (f1 y.from) f x.0.from u.0.from x.3 u.3,
          bind_some (f1 y.to) f x.0.to u.0.to x.4 u.4,
          λ c m. u.5 c (x.5 c m),
        );
    ways_back = λ c h byte x at e m.
        let b = bind_cases (f1 c) f x.from e in
        let y = r.ways_back b.0 h byte x at b.2 m in
        let z = s.ways_back c y.0 byte y.1 y.2 (b.1 ∙ ap Some (sym y.3)) y.4 in
        (z.0, z.1, z.2, z.3, z.4, bind_some (g1 z.0) g y.0 h z.5 y.5);
    ends_back = λ c a m at h.
        let b = bind_cases (f1 c) f a at in
        r.ends_back b.0 a m b.2 (s.ends_back c b.0 m b.1 h);
    ends_there = λ c a k x at get end.
        let b = bind_cases (f1 c) f a at in
        let y = r.ends_there b.0 a k x b.2 get end in
        let z = s.ends_there c b.0 (e b.0 k) y.0 b.1 y.1 y.2 in
        let there : slice_get C.stops (after_ends e f1 e1 c k) ≡ Some z.0 =
        ap (λ o. slice_get C.stops (e1 c (e (unwrap_or o 0) k))) b.1 ∙ z.1 in
        (z.0, there, z.2, z.3 ∙ y.3);
    ends_apart = λ c a k l x y at getx endx gety endy same.
        let b = bind_cases (f1 c) f a at in
        let xb = r.ends_there b.0 a k x b.2 getx endx in
        let yb = r.ends_there b.0 a l y b.2 gety endy in
        let same_here : e1 c (e b.0 k) ≡ e1 c (e b.0 l) =
        subst (λ o. e1 c (e (unwrap_or o 0) k) ≡ e1 c (e (unwrap_or o 0) l)) b.1 same in
        r.ends_apart b.0 a k l x y b.2 getx endx gety endy
        (s.ends_apart c b.0 (e b.0 k) (e b.0 l) xb.0 yb.0 b.1 xb.1 xb.2 yb.1 yb.2 same_here);
    idles = λ c a e.
        let b = bind_cases (f1 c) f a e in
        ((λ h. (s.idles c b.0 b.1).0 ((r.idles b.0 a b.2).0 h)), (λ h. (r.idles b.0 a b.2).1 ((s.idles c b.0 b.1).1 h)));
  }
    where
      knows_before : (y : Way) → Has C.ways y → IsReached C y.from → Knows (after_map f f1) y.to → Knows (after_map f f1) y.from
      knows_before y h way to =
          let t = bind_cases (f1 y.to) f to.0 to.1 in
          let from = s.knows_before y h way (t.0, t.1) in
          let k = has_place C.ways y h in
          let g_knows = (s.ways_known k.0 y k.1).1 (from, (t.0, t.1)) in
          let x = s.ways_there k.0 y g_knows.0 k.1 g_knows.1 in
          let same : from.0 ≡ x.0.from = some_same from.0 x.0.from (sym from.1 ∙ x.3) in
          let same_to : t.0 ≡ x.0.to = some_same t.0 x.0.to (sym t.1 ∙ x.4) in
          let a = r.knows_before x.0 (place_has B.ways g_knows.0 x.0 x.1)
          (way.0, subst (λ v. IsReachedIn B way.0 v) same (reached way.0 y.from from.0 way.1 from.1))
          (to.0, ap f (sym same_to) ∙ t.2) in
          known_there y.from x.0.from a.0 x.3 a.1

      ways_known : (k : ℕ) (y : Way) → slice_get C.ways k ≡ Some y → Knows (after_map g g1) k ↔ (Knows (after_map f f1) y.from × Knows (after_map f f1) y.to)
      ways_known k y at = (there, back)
        where
          there : Knows (after_map g g1) k → Knows (after_map f f1) y.from × Knows (after_map f f1) y.to
          there h =
              let v = bind_cases (g1 k) g h.0 h.1 in
              let x = s.ways_there k y v.0 at v.1 in
              let u = (r.ways_known v.0 x.0 x.1).0 (h.0, v.2) in
              (known_there y.from x.0.from u.0.0 x.3 u.0.1, known_there y.to x.0.to u.1.0 x.4 u.1.1)

          back : Knows (after_map f f1) y.from × Knows (after_map f f1) y.to → Knows (after_map g g1) k
          back h =
              let p = bind_cases (f1 y.from) f h.0.0 h.0.1 in
              let q = bind_cases (f1 y.to) f h.1.0 h.1.1 in
              let v = (s.ways_known k y at).1 ((p.0, p.1), (q.0, q.1)) in
              let x = s.ways_there k y v.0 at v.1 in
              let same : p.0 ≡ x.0.from = some_same p.0 x.0.from (sym p.1 ∙ x.3) in
              let same_to : q.0 ≡ x.0.to = some_same q.0 x.0.to (sym q.1 ∙ x.4) in
              let u = (r.ways_known v.0 x.0 x.1).1 ((h.0.0, ap f (sym same) ∙ p.2), (h.1.0, ap f (sym same_to) ∙ q.2)) in
              (u.0, bind_some (g1 k) g v.0 u.0 v.1 u.1)

pub reduct_of_reduct : ReductOfReduct
reduct_of_reduct A B C r s =
    (after_map r.0 s.0, after_map r.1 s.1, after_ends r.2 s.0 s.2, composed A B C r.0 r.1 s.0 s.1 r.2 s.2 r.3 s.3)
