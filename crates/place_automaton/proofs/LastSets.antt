-- The ends of a sequential formula's places: none is there twice.
use Rattle.std.proofs.Common.{◌≡◌, ◌<◌, Bool, true, false, ℕ, zero, suc, ◌+◌, ◌-◌, ◌≤◌, ◌⊎◌, List, [], ◌∷◌, ◌++◌, map, Option, Some, None, inl, inr, refl, sym, ap, ◌∙◌, subst, arith}
use Rattle.std.specs.List.{flat_map}
use Rattle.std.specs.Option.{ForSome}
use Rattle.spanner_model.specs.Captures.{VarName}
use Rattle.span_core.specs.Lists.{Has, AreDistinct}
use Rattle.spanner_model.specs.Tree.{Tree, empty, one, cat_end, cat, alt_end, alt, rep, cap}
use Rattle.spanner_model.specs.Expression.{AtomTree}
use Rattle.span_core.proofs.HasLaws.{Has-append_cases, Has-map_cases, distinct_append}
use Rattle.marked_automaton.specs.declared.way.Stop.{Stop}
use Rattle.place_automaton.specs.Atom.{place_stops, stop_before, unless}
use Rattle.place_automaton.specs.Places.{Places, Placed, stop_with, cat_places, nothing_placed, plus_placed, copies_then, at_most, repeated, placed}
use Rattle.spanner_model.specs.Sequential.{IsSequential, HasNoVar}
use Rattle.place_automaton.specs.Repeats.{HasOrderedRepeats}
use Rattle.place_automaton.specs.Words.{opening_of, closing_of, atom_automaton}
use Rattle.place_automaton.proofs.FineLaws.{Bits, Within, Apart, VarBits, AreNamed, vars_apart, mark_apart, sum_within, zero_within}
use Rattle.place_automaton.proofs.MarkBits.{HasBit}
use Rattle.place_automaton.proofs.Ranges.{LiesFrom, LieInPlace, stops_of, places_lie, copies_lie, at_most_lie, nothing_lies}
use Rattle.place_automaton.proofs.NullSets.{NullSet, sum_left, set_zero, null_set, set_copies, set_at_most}

stop_same : (s t : Stop) → s.state ≡ t.state → s.marks ≡ t.marks → s ≡ t
stop_same s t e f =
    let one : s ≡ record { state = t.state; marks = s.marks } = ap (λ n. let r : Stop = record { state = n; marks = s.marks } in r) e in
    one ∙ ap (λ m. let r : Stop = record { state = t.state; marks = m } in r) f

-- the marks of the ends are of B, and no end is there twice
pub record LastSet (B : Bits) (last : List Stop) : Type 0 where
  pub distinct : AreDistinct last
  pub within : (s : Stop) → Has last s → Within B s.marks

last_more : (B C : Bits) (last : List Stop) → ((i : ℕ) → B i → C i) → LastSet B last → LastSet C last
last_more B C last sub s = record { distinct = s.distinct; within = λ x h i b. sub i (s.within x h i b) }

last_none : (B : Bits) → LastSet B []
last_none B = record { distinct = tt; within = λ s h. absurd h }

same_marks : (m : ℕ) (s t : Stop) → stop_with m s ≡ stop_with m t → s ≡ t
same_marks m s t e =
    let f : s.marks + m ≡ t.marks + m = ap (λ (x : Stop). x.marks) e in
    stop_same s t (ap (λ (x : Stop). x.state) e) (omega (arith, f))

with_distinct : (m : ℕ) (last : List Stop) → AreDistinct last → AreDistinct (map (stop_with m) last)
with_distinct m [] d = tt
with_distinct m (s ∷ last) d =
    ((λ h. let r = Has-map_cases (stop_with m) last (stop_with m s) h in d.0 (subst (Has last) (same_marks m r.0 s r.2) r.1)), with_distinct m last d.1)

module _ (B C : Bits) (apart : Apart B C) where
  across_distinct : (last : List Stop) (ns : List ℕ) → LastSet B last → NullSet C ns → AreDistinct (flat_map (λ m. map (stop_with m) last) ns)
  across_distinct last [] s t = tt
  across_distinct last (n ∷ ns) s t =
      distinct_append (map (stop_with n) last) (flat_map (λ m. map (stop_with m) last) ns) (with_distinct n last s.distinct)
      (across_distinct last ns s (record { distinct = t.distinct.1; within = λ m h. t.within m (inr h) }))
      (λ x a b.
      let p = Has-map_cases (stop_with n) last x a in
      let q = stops_of ns last x b in
      let e : stop_with n p.0 ≡ stop_with q.0 q.1 = p.2 ∙ sym q.4 in
      let f : p.0.marks + n ≡ q.1.marks + q.0 = ap (λ (z : Stop). z.marks) e in
      let g : p.0.marks ≡ q.1.marks = sum_left B C apart p.0.marks q.1.marks n q.0 (s.within p.0 p.1) (s.within q.1 q.3) (t.within n (inl refl)) (t.within q.0 (inr q.2)) f in
      t.distinct.0 (subst (Has ns) (let k : q.0 ≡ n = omega (arith, f, g) in k) q.2))

  last_cat : (k : ℕ) (P Q : Places) → LiesFrom k P → LiesFrom (k + P.count) Q → LastSet B P.last → LastSet C Q.last → NullSet C Q.null →
      LastSet (λ i. B i ⊎ C i) (cat_places P Q).last
  last_cat k P Q lp lq p q t = record {
    distinct = distinct_append Q.last (flat_map (λ m. map (stop_with m) P.last) Q.null) q.distinct (across_distinct P.last Q.null p t) (λ x a b.
        let r = stops_of Q.null P.last x b in omega (arith, (lq.lasts x a).0, (lp.lasts r.1 r.3).1, ap (λ (z : Stop). z.state) r.4));
    within = λ x h. elim (Has-append_cases Q.last (flat_map (λ m. map (stop_with m) P.last) Q.null) x h) [
      | inl a ↦ λ i b. inr (q.within x a i b)
      | inr a ↦ let r = stops_of Q.null P.last x a in
          sum_within B C r.1.marks r.0 x.marks apart (p.within r.1 r.3) (t.within r.0 r.2) (ap (λ (z : Stop). z.marks) r.4)
    ];
  }

last_alt_any : (B C : Bits) (k : ℕ) (P Q : Places) → LiesFrom k P → LiesFrom (k + P.count) Q → LastSet B P.last → LastSet C Q.last → LastSet (λ i. B i ⊎ C i) (P.last ++ Q.last)
last_alt_any B C k P Q lp lq p q = record {
  distinct = distinct_append P.last Q.last p.distinct q.distinct (λ x a b. omega (arith, (lp.lasts x a).1, (lq.lasts x b).0));
  within = λ x h. elim (Has-append_cases P.last Q.last x h) [ inl a ↦ λ i b. inl (p.within x a i b) | inr a ↦ λ i b. inr (q.within x a i b) ];
}

abbrev AreLastSets : Bits → Placed → Type 0
AreLastSets B F = (k : ℕ) → LastSet B (F k).last

abbrev AreNullSets : Bits → Placed → Type 0
AreNullSets B F = (k : ℕ) → NullSet B (F k).null

-- with nothing behind
last_then_nothing : (B : Bits) (k : ℕ) (P : Places) → LiesFrom k P → LastSet B P.last → LastSet B (cat_places P (nothing_placed (k + P.count))).last
last_then_nothing B k P lp p =
    last_more (λ i. B i ⊎ ⊥) B (cat_places P (nothing_placed (k + P.count))).last (λ i h. elim h [ inl b ↦ b | inr n ↦ absurd n ])
    (last_cat B (λ i. ⊥) (λ i b n. n) k P (nothing_placed (k + P.count)) lp (nothing_lies (k + P.count)) p (last_none (λ i. ⊥)) (set_zero (λ i. ⊥)))

module _ (B : Bits) (none : (i : ℕ) → B i → ⊥) where
  last_twice : (k : ℕ) (P Q : Places) → LiesFrom k P → LiesFrom (k + P.count) Q → LastSet B P.last → LastSet B Q.last → NullSet B Q.null → LastSet B (cat_places P Q).last
  last_twice k P Q lp lq p q t =
      last_more (λ i. B i ⊎ B i) B (cat_places P Q).last (λ i h. elim h [ inl b ↦ b | inr b ↦ b ]) (last_cat B B (λ i b c. none i b) k P Q lp lq p q t)

  last_copies : (n : ℕ) (F G : Placed) → LieInPlace F → LieInPlace G → AreNullSets B F → AreNullSets B G → AreLastSets B F → AreLastSets B G → AreLastSets B (copies_then n F G)
  last_copies zero F G lf lg sf sg f g = g
  last_copies (suc n) F G lf lg sf sg f g = λ k.
      let k' = k + (F k).count in
      last_twice k (F k) (copies_then n F G k') (lf k) (copies_lie n F G lf lg k') (f k) (last_copies n F G lf lg sf sg f g k') (set_copies B none n F G sf sg k')

  last_at_most : (n : ℕ) (F : Placed) → LieInPlace F → AreNullSets B F → AreLastSets B F → AreLastSets B (at_most n F)
  last_at_most zero F lf sf f = λ k. last_none B
  last_at_most (suc n) F lf sf f = λ k.
      let k' = k + (F k).count in
      last_twice k (F k) (at_most n F k') (lf k) (at_most_lie n F lf k') (f k) (last_at_most n F lf sf f k') (set_at_most B none n F sf k')

  last_repeated : (n : ℕ) (most : Option ℕ) (F : Placed) → LieInPlace F → LieInPlace (plus_placed F) → AreNullSets B F → AreLastSets B F → AreLastSets B (repeated n most F)
  last_repeated zero None F lf lp sf f = f
  last_repeated (suc n) None F lf lp sf f = last_copies n F (plus_placed F) lf lp sf sf f f
  last_repeated zero (Some most) F lf lp sf f = last_at_most (most - zero) F lf sf f
  last_repeated (suc n) (Some most) F lf lp sf f =
      last_copies (suc n) F (at_most (most - suc n) F) lf (at_most_lie (most - suc n) F lf) sf (set_at_most B none (most - suc n) F sf) f (last_at_most (most - suc n) F lf sf f)

last_once : (B : Bits) (n : ℕ) (F : Placed) → n ≤ 1 → LieInPlace F → AreLastSets B F → AreLastSets B (repeated n (Some 1) F)
last_once B zero F le lf f = λ k. last_then_nothing B k (F k) (lf k) (f k)
last_once B (suc zero) F le lf f = λ k. last_then_nothing B k (F k) (lf k) (f k)
last_once B (suc (suc n)) F le lf f = absurd (omega (arith, le))

module _ (names : List VarName) where
  abbrev P : Tree → Placed
  P = placed (opening_of names) (closing_of names)

  lie : (f : Tree) → LieInPlace (P f)
  lie f = places_lie (opening_of names) (closing_of names) f

  pub last_set : (f : Tree) → IsSequential f → HasOrderedRepeats f → AreNamed names f → AreLastSets (VarBits names f) (P f)
  last_set empty ok ord vars k = last_none (VarBits names empty)
  last_set (one set) ok ord vars k =
      record { distinct = ((λ h. h), tt); within = λ s h. elim h [ inl e ↦ zero_within (VarBits names (one set)) s.marks (ap (λ (z : Stop). z.marks) e) | inr b ↦ absurd b ] }
  last_set cat_end ok ord vars k = last_none (VarBits names cat_end)
  last_set (cat f rest) ok ord vars k =
      let nf : AreNamed names f = λ x h. vars x (inl h) in
      let nr : AreNamed names rest = λ x h. vars x (inr h) in
      let k' = k + (P f k).count in
      last_more (λ i. VarBits names f i ⊎ VarBits names rest i) (VarBits names (cat f rest)) (cat_places (P f k) (P rest k')).last
      (λ i h. elim h as (λ _. VarBits names (cat f rest) i) [ inl b ↦ (b.0, inl b.1, b.2) | inr b ↦ (b.0, inr b.1, b.2) ])
      (last_cat (VarBits names f) (VarBits names rest) (vars_apart names f rest nf nr ok.2) k (P f k) (P rest k') (lie f k) (lie rest k')
      (last_set f ok.0 ord.0 nf k) (last_set rest ok.1 ord.1 nr k') (null_set names rest ok.1 ord.1 nr k'))
  last_set alt_end ok ord vars k = last_none (VarBits names alt_end)
  last_set (alt f rest) ok ord vars k =
      let k' = k + (P f k).count in
      let both : LastSet (λ i. VarBits names f i ⊎ VarBits names rest i) ((P f k).last ++ (P rest k').last) =
      last_alt_any (VarBits names f) (VarBits names rest) k (P f k) (P rest k') (lie f k) (lie rest k')
      (last_set f ok.0 ord.0 (λ x h. vars x (inl h)) k) (last_set rest ok.1 ord.1 (λ x h. vars x (inr h)) k') in
      last_more (λ i. VarBits names f i ⊎ VarBits names rest i) (VarBits names (alt f rest)) ((P f k).last ++ (P rest k').last)
      (λ i h. elim h as (λ _. VarBits names (alt f rest) i) [ inl b ↦ (b.0, inl b.1, b.2) | inr b ↦ (b.0, inr b.1, b.2) ]) both
  last_set (rep f least most) ok ord vars k = by least most ok.1 ord.1 (null_set names f ok.0 ord.0 vars) (last_set f ok.0 ord.0 vars)
    where
      plus : LieInPlace (plus_placed (P f))
      plus k = record { firsts = (lie f k).firsts; lasts = (lie f k).lasts; froms = (lie (rep f 1 None) k).froms; tos = (lie (rep f 1 None) k).tos }

      by : (n : ℕ) (o : Option ℕ) → HasNoVar f ⊎ (o ≡ Some 1) → ForSome o (λ b. n ≤ b) → AreNullSets (VarBits names f) (P f) → AreLastSets (VarBits names f) (P f) →
          LastSet (VarBits names f) (repeated n o (P f) k).last
      by n o (inl none) le s f' = last_repeated (VarBits names f) (λ i b. none b.0 b.1) n o (P f) (lie f) plus s f' k
      by n o (inr e) le s f' =
          rw e (last_once (VarBits names f) n (P f) (le 1 e) (lie f) f' k)
  last_set (cap x f) ok ord vars k =
      let c = closing_of names x in
      let nf : AreNamed names f = λ y h. vars y (inr h) in
      let has : Has names x = vars x (inl refl) in
      let ac = mark_apart names x f c has nf ok.1 (λ i b. inr b) in
      let s = last_set f ok.0 ord nf k in
      record {
        distinct = with_distinct c (P f k).last s.distinct;
        within = λ t h.
            let r = Has-map_cases (stop_with c) (P f k).last t h in
            λ i b. elim (sum_within (VarBits names f) (HasBit c) r.0.marks c t.marks (λ i x y. ac i y x) (s.within r.0 r.1) (λ i b. b)
            (ap (λ (z : Stop). z.marks) r.2) i b) as (λ _. VarBits names (cap x f) i) [
              | inl y ↦ (y.0, inr y.1, y.2)
              | inr y ↦ (x, inl refl, inr y)
            ];
      }

-- ---- with the ends of Before and After

before_distinct : (ns : List ℕ) → AreDistinct ns → AreDistinct (map stop_before ns)
before_distinct [] d = tt
before_distinct (n ∷ ns) d = (
  (λ h. let r = Has-map_cases stop_before ns (stop_before n) h in d.0 (subst (Has ns) (ap (λ (z : Stop). z.marks) r.2) r.1)),
  before_distinct ns d.1,
)

module _ (F : Places) (lies : LiesFrom 1 F) where
  abbrev After : Stop
  After = record { state = suc F.count; marks = 0 }

  places_distinct : AreDistinct F.last → AreDistinct F.null → AreDistinct (place_stops F)
  places_distinct dl dn =
      distinct_append F.last (map stop_before F.null) dl (before_distinct F.null dn) (λ x a b.
      let r = Has-map_cases stop_before F.null x b in omega (arith, (lies.lasts x a).0, ap (λ (z : Stop). z.state) r.2))

  not_after : (x : Stop) → Has (place_stops F) x → x.state < suc F.count
  not_after x h = elim (Has-append_cases F.last (map stop_before F.null) x h) [
    | inl a ↦ omega (arith, (lies.lasts x a).1)
    | inr b ↦ let r = Has-map_cases stop_before F.null x b in omega (arith, ap (λ (z : Stop). z.state) r.2)
  ]

  stops_distinct : (t : Bool) → AreDistinct F.last → AreDistinct F.null → AreDistinct (place_stops F ++ unless t (After ∷ []))
  stops_distinct t dl dn = distinct_append (place_stops F) (unless t (After ∷ [])) (places_distinct dl dn) (alone t) (apart t)
    where
      alone : (t : Bool) → AreDistinct (unless t (After ∷ []))
      alone true = tt
      alone false = ((λ h. h), tt)

      apart : (t : Bool) (x : Stop) → Has (place_stops F) x → Has (unless t (After ∷ [])) x → ⊥
      apart true x a b = b
      apart false x a b = elim b [ inl e ↦ omega (arith, not_after x a, ap (λ (z : Stop). z.state) e) | inr n ↦ n ]

-- no state of the automaton has an end twice
pub stops_once : (names : List VarName) (a : AtomTree) → AreNamed names a.formula → IsSequential a.formula → HasOrderedRepeats a.formula → AreDistinct (atom_automaton names a).stops
stops_once names a vars seq ord =
    let f = a.formula in
    stops_distinct (P names f 1) (lie names f 1) a.to_end (last_set names f seq ord vars 1).distinct (null_set names f seq ord vars 1).distinct
