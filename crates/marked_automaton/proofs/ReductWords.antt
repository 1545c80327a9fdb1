-- A reduct accepts what it reduces accepts, and its sets are images.
use Rattle.std.proofs.Common.{◌≡◌, ℕ, zero, suc, ◌↔◌, List, Option, Some, length, refl, sym, ap, subst, ◌∙◌}
use Rattle.span_core.specs.Lists.{Has}
use Rattle.marked_automaton.specs.declared.way.Way.{Way}
use Rattle.marked_automaton.specs.Automaton.{Automaton, Walk, Accepts, HasByte}
use Rattle.marked_automaton.specs.Reduct.{IsReachedIn, HasEnd, Knows, IsReduct}
use Rattle.marked_automaton.specs.Images.{IsImage, AllAreReached, LeadsTo, ImageLaw}
use Rattle.marked_automaton.specs.Laws.{ReductAccepts}
use Rattle.marked_automaton.proofs.Listed.{some_same, has_place, place_has}

module _ (A B : Automaton) (f g : ℕ → Option ℕ) (e : ℕ → ℕ → ℕ) (r : IsReduct A B f g e) where
  -- a way from an image is the image of a way
  pub way_back : (b c : ℕ) (x : Way) → Has A.ways x → f b ≡ Some x.from → HasByte x.bytes c →
      (y : Way) × Has B.ways y × (y.from ≡ b) × HasByte y.bytes c × (y.marks ≡ x.marks) × (f y.to ≡ Some x.to)
  way_back b c x h at byte =
      let k = has_place A.ways x h in
      let y = r.ways_back b k.0 c x k.1 at byte in
      let z = r.ways_there y.0 y.1 k.0 y.2 y.5 in
      let same : z.0 ≡ x = some_same z.0 x (sym z.1 ∙ k.1) in
      (y.1, place_has B.ways y.0 y.1 y.2, y.3, y.4, sym z.2 ∙ ap (λ (g : Way). g.marks) same, z.4 ∙ ap (λ (g : Way). Some g.to) same)

  -- a way between known states has an image
  pub way_there : (y : Way) → Has B.ways y → Knows f y.from → Knows f y.to →
      (x : Way) × Has A.ways x × (x.marks ≡ y.marks) × (f y.from ≡ Some x.from) × (f y.to ≡ Some x.to) × ((c : ℕ) → HasByte y.bytes c → HasByte x.bytes c)
  way_there y h from to =
      let k = has_place B.ways y h in
      let v = (r.ways_known k.0 y k.1).1 (from, to) in
      let x = r.ways_there k.0 y v.0 k.1 v.1 in
      (x.0, place_has A.ways v.0 x.0 x.1, x.2, x.3, x.4, x.5)

  pub end_back : (b a m : ℕ) → f b ≡ Some a → HasEnd A a m → HasEnd B b m
  end_back b a m at h =
      let k = has_place A.stops (record { state = a; marks = m }) h in
      let y = r.ends_there b a k.0 (record { state = a; marks = m }) at k.1 refl in
      let same : y.0 ≡ record { state = b; marks = m } = λ i. record { state = y.2 i; marks = y.3 i } in
      subst (Has B.stops) same (place_has B.stops (e b k.0) y.0 y.1)

  module _ (d : List ℕ) (w : ℕ → ℕ) where
    walk_back : (n i b a q : ℕ) → f b ≡ Some a → Walk A.ways d w i n a q → (p : ℕ) × Walk B.ways d w i n b p × (f p ≡ Some q)
    walk_back zero i b a q at h = (b, refl, at ∙ ap Some h)
    walk_back (suc n) i b a q at h =
        let y = way_back b h.4.0 h.0 h.1 (at ∙ ap Some (sym h.2)) h.4.2 in
        let rest = walk_back n (suc i) y.0.to h.0.to q y.5 h.5 in
        (rest.0, (y.0, y.1, y.2, y.4 ∙ h.3, (h.4.0, h.4.1, y.3), rest.1), rest.2)

    walk_there : (n i k b p m : ℕ) → IsReachedIn B k b → HasEnd B p m → Walk B.ways d w i n b p →
        (a : ℕ) × (q : ℕ) × (f b ≡ Some a) × (f p ≡ Some q) × Walk A.ways d w i n a q
    walk_there zero i k b p m reached end h =
        let v = r.knows_ends p m (k, subst (IsReachedIn B k) h reached) end in
        (v.0, v.0, ap f h ∙ v.1, v.1, refl)
    walk_there (suc n) i k b p m reached end h =
        let here : IsReachedIn B k h.0.from = subst (IsReachedIn B k) (sym h.2) reached in
        let rest = walk_there n (suc i) (suc k) h.0.to p m (h.0, h.1, here, refl) end h.5 in
        let from = r.knows_before h.0 h.1 (k, here) (rest.0, rest.2) in
        let x = way_there h.0 h.1 from (rest.0, rest.2) in
        let same : rest.0 ≡ x.0.to = some_same rest.0 x.0.to (sym rest.2 ∙ x.4) in (
          x.0.from,
          rest.1,
          ap f (sym h.2) ∙ x.3,
          rest.3,
          (x.0, x.1, refl, x.2 ∙ h.3, (h.4.0, h.4.1, x.5 h.4.0 h.4.2), subst (λ v. Walk A.ways d w (suc i) n v rest.1) same rest.4),
        )

    pub accepts_back : Accepts A d w → Accepts B d w
    accepts_back h =
        let s = r.starts_back h.0 h.2 in
        let p = walk_back (length d) 0 s.0 h.0 h.1.state s.2 h.4 in
        (s.0, record { state = p.0; marks = h.1.marks }, s.1, end_back p.0 h.1.state h.1.marks p.2 h.3, p.1, h.5)

    pub accepts_there : Accepts B d w → Accepts A d w
    accepts_there h =
        let v = walk_there (length d) 0 0 h.0 h.1.state h.1.marks h.2 h.3 h.4 in
        (v.0, record { state = v.1; marks = h.1.marks }, r.starts_there h.0 v.0 h.2 v.2, r.ends_back h.1.state v.1 h.1.marks v.3 h.3, v.4, h.5)

  module _ (SB SA : List ℕ) (reached : AllAreReached B SB) (image : IsImage f SB SA) where
    leads_back : (c m q : ℕ) → LeadsTo A SA c m q → (b : ℕ) × LeadsTo B SB c m b × (f b ≡ Some q)
    leads_back c m q h =
        let b = (image h.0.from).0 h.2 in
        let y = way_back b.0 c h.0 h.1 b.2 h.3 in
        (y.0.to, (y.0, y.1, subst (Has SB) (sym y.2) b.1, y.3, y.4 ∙ h.4, refl), y.5 ∙ ap Some h.5)

    leads_there : (c m q : ℕ) → (b : ℕ) × LeadsTo B SB c m b × (f b ≡ Some q) → LeadsTo A SA c m q
    leads_there c m q h =
        let y = h.1 in
        let to : Knows f y.0.to = (q, ap f y.5 ∙ h.2) in
        let from = r.knows_before y.0 y.1 (reached y.0.from y.2) to in
        let x = way_there y.0 y.1 from to in
        (x.0, x.1, (image x.0.from).1 (y.0.from, y.2, x.3), x.5 c y.3, x.2 ∙ y.4, some_same x.0.to q (sym x.4 ∙ to.1))

    ends_here : (m : ℕ) → ((a : ℕ) × Has SA a × HasEnd A a m) ↔ ((b : ℕ) × Has SB b × HasEnd B b m)
    ends_here m = (
      (λ h. let b = (image h.0).0 h.1 in (b.0, b.1, end_back b.0 h.0 m b.2 h.2)),
      (λ h. let a = r.knows_ends h.0 m (reached h.0 h.1) h.2 in (a.0, (image a.0).1 (h.0, h.1, a.1), r.ends_back h.0 a.0 m a.1 h.2)),
    )

    idle_here : (a : ℕ) → (Has SA a × Has A.idle a) ↔ ((b : ℕ) × Has SB b × Has B.idle b × (f b ≡ Some a))
    idle_here a = (
      (λ h. let b = (image a).0 h.0 in (b.0, b.1, (r.idles b.0 a b.2).0 h.1, b.2)),
      (λ h. ((image a).1 (h.0, h.1, h.3), (r.idles h.0 a h.3).1 h.2)),
    )

pub reduct_accepts : ReductAccepts
reduct_accepts A B r d w = (accepts_back A B r.0 r.1 r.2 r.3 d w, accepts_there A B r.0 r.1 r.2 r.3 d w)

pub image_law : ImageLaw
image_law A B f g e r SB SA reached image = (
  (λ c m q. (leads_back A B f g e r SB SA reached image c m q, leads_there A B f g e r SB SA reached image c m q)),
  ends_here A B f g e r SB SA reached image,
  idle_here A B f g e r SB SA reached image,
)
