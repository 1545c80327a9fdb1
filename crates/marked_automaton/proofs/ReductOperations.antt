-- The operations of reducts give reducts of the operations.
use Rattle.std.proofs.Common.{◌≡◌, ℕ, zero, suc, ◌↔◌, Option, Some, sym, ap, subst, ◌∙◌}
use Rattle.span_core.specs.Lists.{Has}
use Rattle.marked_automaton.specs.declared.way.Way.{Way}
use Rattle.marked_automaton.specs.declared.way.Stop.{Stop}
use Rattle.marked_automaton.specs.Automaton.{Automaton, HasByte}
use Rattle.marked_automaton.specs.Marks.{remarked_way, remarked_stop, remarked}
use Rattle.marked_automaton.specs.Reduct.{IsReachedIn, HasEnd, Knows, IsReduct}
use Rattle.marked_automaton.specs.Laws.{ReductOfProjection}
use Rattle.span_core.proofs.HasLaws.{Has-map, Has-map_cases}
use Rattle.marked_automaton.proofs.Listed.{get_map, get_map_cases}

module _ (m : ℕ → ℕ) where
  reached_remarked : (A : Automaton) (n p : ℕ) → IsReachedIn (remarked m A) n p → IsReachedIn A n p
  reached_remarked A zero p h = h
  reached_remarked A (suc n) p h =
      let y = Has-map_cases (remarked_way m) A.ways h.0 h.1 in (
        y.0,
        y.1,
        subst (λ q. IsReachedIn A n q) (sym (ap (λ (g : Way). g.from) y.2)) (reached_remarked A n h.0.from h.2),
        ap (λ (g : Way). g.to) y.2 ∙ h.3,
      )

  -- an end with what is left of its block
  end_of : (A : Automaton) (p k : ℕ) → HasEnd (remarked m A) p k → (j : ℕ) × HasEnd A p j × (m j ≡ k)
  end_of A p k h =
      let x = Has-map_cases (remarked_stop m) A.stops (record { state = p; marks = k }) h in
      let to : ℕ → Stop = λ q. record { state = q; marks = x.0.marks } in
      (x.0.marks, subst (Has A.stops) (ap to (ap (λ (g : Stop). g.state) x.2)) x.1, ap (λ (g : Stop). g.marks) x.2)

  remarked_end : (A : Automaton) (p j k : ℕ) → m j ≡ k → HasEnd A p j → HasEnd (remarked m A) p k
  remarked_end A p j k e h =
      let to : ℕ → Stop = λ q. record { state = p; marks = q } in
      subst (Has (remarked m A).stops) (ap to e) (Has-map (remarked_stop m) A.stops (record { state = p; marks = j }) h)

  module _ (A B : Automaton) (f g : ℕ → Option ℕ) (e : ℕ → ℕ → ℕ) (r : IsReduct A B f g e) where
    projected : IsReduct (remarked m A) (remarked m B) f g e
    projected = record {
      from_states = r.from_states;
      to_states = r.to_states;
      onto = r.onto;
      starts_there = r.starts_there;
      starts_back = r.starts_back;
      knows_ends = λ b k way h. let x = end_of B b k h in r.knows_ends b x.0 (way.0, reached_remarked B way.0 b way.1) x.1;
      knows_before = λ y h way to.
          let x = Has-map_cases (remarked_way m) B.ways y h in
          let from = ap (λ (g : Way). g.from) x.2 in
          subst (Knows f) from (r.knows_before x.0 x.1
          (way.0, subst (λ q. IsReachedIn B way.0 q) (sym from) (reached_remarked B way.0 y.from way.1))
          (subst (Knows f) (sym (ap (λ (g : Way). g.to) x.2)) to));
      ways_known = λ k y at.
          let x = get_map_cases (remarked_way m) B.ways k y at in
          subst (λ (y : Way). Knows g k ↔ (Knows f y.from × Knows f y.to)) x.2 (r.ways_known k x.0 x.1);
      ways_there = λ k y h at known.
          let x = get_map_cases (remarked_way m) B.ways k y at in
          let z = r.ways_there k x.0 h x.1 known in (
            remarked_way m z.0,
            get_map (remarked_way m) A.ways h z.0 z.1,
            ap m z.2 ∙ ap (λ (g : Way). g.marks) x.2,
            ap f (sym (ap (λ (g : Way). g.from) x.2)) ∙ z.3,
            ap f (sym (ap (λ (g : Way). g.to) x.2)) ∙ z.4,
            λ c has. z.5 c (subst (λ (y : Way). HasByte y.bytes c) (sym x.2) has),
          );
      ways_back = λ b h c x at image has.
          let y = get_map_cases (remarked_way m) A.ways h x at in
          let z = r.ways_back b h c y.0 y.1 (image ∙ ap (λ (g : Way). Some g.from) (sym y.2)) (subst (λ (g : Way). HasByte g.bytes c) (sym y.2) has) in
          (z.0, remarked_way m z.1, get_map (remarked_way m) B.ways z.0 z.1 z.2, z.3, z.4, z.5);
      ends_back = λ b a k at h.
          let x = end_of B b k h in
          remarked_end A a x.0 k x.2 (r.ends_back b a x.0 at x.1);
      ends_there = λ b a k x at get end.
          let y = get_map_cases (remarked_stop m) A.stops k x get in
          let z = r.ends_there b a k y.0 at y.1 (ap (λ (g : Stop). g.state) y.2 ∙ end) in
          (remarked_stop m z.0, get_map (remarked_stop m) B.stops (e b k) z.0 z.1, z.2, ap m z.3 ∙ ap (λ (g : Stop). g.marks) y.2);
      ends_apart = λ b a k l x y at getx endx gety endy same.
          let u = get_map_cases (remarked_stop m) A.stops k x getx in
          let v = get_map_cases (remarked_stop m) A.stops l y gety in
          r.ends_apart b a k l u.0 v.0 at u.1 (ap (λ (g : Stop). g.state) u.2 ∙ endx) v.1 (ap (λ (g : Stop). g.state) v.2 ∙ endy) same;
      idles = r.idles;
    }

pub reduct_of_projection : ReductOfProjection
reduct_of_projection A B m r = (r.0, r.1, r.2, projected m A B r.0 r.1 r.2 r.3)
