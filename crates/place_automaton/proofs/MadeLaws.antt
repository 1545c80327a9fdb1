-- What the automaton of an atom is made of is of its states, its markers and some bytes.
use Rattle.std.proofs.Common.{◌≡◌, ℕ, zero, suc, ◌+◌, ◌*◌, ◌^◌, ◌<◌, ◌↔◌, Bool, false, List, [], ◌∷◌, ◌++◌, length, map, inl, inr, refl, sym, ap, ◌∙◌, subst, arith}
use Rattle.std.specs.FinSet as set
use Rattle.std.specs.Ordering.{nat_cmp}
use Rattle.std.proofs.Math.Nat.{one-le-pow}
use Rattle.std.proofs.lemmas.Bool.{false≢true}
use Rattle.std.specs.FinSet.{contains-empty}
use Rattle.span_core.proofs.ByteSetLaws.{all_contain}
use Rattle.spanner_model.specs.Captures.{VarName}
use Rattle.span_core.specs.Lists.{Has}
use Rattle.spanner_model.specs.Tree.{Tree}
use Rattle.spanner_model.specs.Expression.{AtomTree}
use Rattle.marked_automaton.specs.declared.way.Way.{Way}
use Rattle.marked_automaton.specs.declared.way.Stop.{Stop}
use Rattle.marked_automaton.specs.Automaton.{Automaton, IsWayOf, all_bytes, idle_way}
use Rattle.marked_automaton.specs.Reduct.{IsReachedIn, IsReached, IsReduct, Rearranges, same_below}
use Rattle.place_automaton.specs.Atom.{way_from_first, way_after, stop_before, unless, place_stops, after_ways, automaton_of_places}
use Rattle.place_automaton.specs.Drafts.{AreNamed, places_of}
use Rattle.place_automaton.specs.Sides.{Sides, sides_of}
use Rattle.place_automaton.specs.Made.{end_stops, outer_ways}
use Rattle.place_automaton.specs.Places.{Places}
use Rattle.spanner_model.specs.Sequential.{IsSequential}
use Rattle.place_automaton.specs.Repeats.{HasOrderedRepeats}
use Rattle.place_automaton.specs.Words.{atom_automaton}
use Rattle.place_automaton.proofs.FineLaws.{Within, SomeByte, IsFine, HasClasses, VarBits, fine_places}
use Rattle.span_core.proofs.HasLaws.{Has-append_left, Has-append_right, Has-append_cases, Has-map_cases}
use Rattle.place_automaton.proofs.MarkBits.{below_power, bit_below}
use Rattle.place_automaton.proofs.WholeLaws.{whole_law, unless_cases}
use Rattle.place_automaton.proofs.AtomRuns.{unless_has}

-- the ways that came are those of the automaton
pub made_ways : (s t : Bool) (P : Places) (after : ℕ) (E : Sides) (none own all : List Way) → none ≡ [] → own ≡ none ++ P.follow → after ≡ 1 + P.count → E ≡ sides_of P →
    all ≡ own ++ outer_ways s t after E → all ≡ (automaton_of_places s t P).ways
made_ways s t P after E none own all a b c d e =
    e ∙ (ap (λ (ws : List Way). ws ++ outer_ways s t after E) (b ∙ ap (λ (ws : List Way). ws ++ P.follow) a)
    ∙ (ap (λ (n : ℕ). P.follow ++ outer_ways s t n E) (c ∙ (let f : 1 + P.count ≡ suc P.count = omega arith in f)) ∙ ap (λ (E : Sides). P.follow ++ outer_ways s t (suc P.count) E) d))

all_some : SomeByte all_bytes
all_some e = false≢true (sym (ap (λ (b : set.FinSet nat_cmp). set.contains b 0) e ∙ contains-empty nat_cmp 0) ∙ all_contain 0 (omega arith))

module _ (names : List VarName) (a : AtomTree) where
  abbrev s : Bool
  s = a.from_start

  abbrev t : Bool
  t = a.to_end

  abbrev f : Tree
  f = a.formula

  abbrev pub A : Automaton
  A = atom_automaton names a

  abbrev pub P : Places
  P = places_of names f 1

  abbrev outs : List Way
  outs = unless t (after_ways (suc P.count) P)

  pub before_way : s ≡ false → Has A.ways (idle_way 0)
  before_way e =
      Has-append_right P.follow (map way_from_first P.first ++ (unless s (idle_way 0 ∷ []) ++ outs)) (idle_way 0)
      (Has-append_right (map way_from_first P.first) (unless s (idle_way 0 ∷ []) ++ outs) (idle_way 0)
      (Has-append_left (unless s (idle_way 0 ∷ [])) outs (idle_way 0) (unless_has s (idle_way 0 ∷ []) (idle_way 0) e (inl refl))))

  pub after_way : (n : ℕ) → n ≡ 1 + P.count → t ≡ false → Has A.ways (idle_way n)
  after_way n at e =
      let same : suc P.count ≡ n = omega (arith, at) in
      rw (← same)
      (Has-append_right P.follow (map way_from_first P.first ++ (unless s (idle_way 0 ∷ []) ++ outs)) (idle_way (suc P.count))
      (Has-append_right (map way_from_first P.first) (unless s (idle_way 0 ∷ []) ++ outs) (idle_way (suc P.count))
      (Has-append_right (unless s (idle_way 0 ∷ [])) outs (idle_way (suc P.count)) (unless_has t (after_ways (suc P.count) P) (idle_way (suc P.count)) e (inl refl)))))

  -- an end of a place, or of Before, is one of the automaton
  pub stop_there : (E : Sides) (x : Stop) → E ≡ sides_of P → Has (end_stops E) x → Has A.stops x
  stop_there E x is h =
      Has-append_left (place_stops P) (unless t (record { state = suc P.count; marks = 0 } ∷ [])) x (rw is at h)

  module _ (ok : IsSequential f) (ord : HasOrderedRepeats f) (cl : HasClasses f) (vars : AreNamed names f) where
    fine : IsFine (VarBits names f) P
    fine = fine_places names f ok ord cl vars 1

    abbrev limit : ℕ
    limit = 2 ^ (2 * length names)

    small : (m : ℕ) → Within (VarBits names f) m → m < limit
    small m w = below_power m (2 * length names) (λ i h. let b = w i h in bit_below names b.0 i (vars b.0 b.1) b.2)

    none : 0 < limit
    none = omega (arith, one-le-pow (2 * length names) 2 (omega arith))

    place_stop : (x : Stop) → Has (place_stops P) x → x.marks < limit
    place_stop x h =
        elim (Has-append_cases P.last (map stop_before P.null) x h) [
          | inl a ↦ small x.marks (fine.lasts x a)
          | inr b ↦ let r = Has-map_cases stop_before P.null x b in
              let e = ap (λ (x : Stop). x.marks) r.2 in
              omega (arith, e, small r.0 (fine.nulls r.0 r.1))
        ]

    pub stop_marks : (x : Stop) → Has A.stops x → x.marks < limit
    stop_marks x h =
        elim (Has-append_cases (place_stops P) (unless t (record { state = suc P.count; marks = 0 } ∷ [])) x h) [
          | inl a ↦ place_stop x a
          | inr b ↦ elim (unless_cases t (record { state = suc P.count; marks = 0 } ∷ []) x b).1 [
            | inl e ↦ omega (arith, ap (λ (x : Stop). x.marks) e, none)
            | inr c ↦ absurd c
          ]
        ]

    abbrev Fits : Way → Type 0
    Fits y = (y.marks < limit) × SomeByte y.bytes

    way_fits : (y : Way) → Has A.ways y → Fits y
    way_fits y h =
        elim (Has-append_cases P.follow (map way_from_first P.first ++ (unless s (idle_way 0 ∷ []) ++ outs)) y h) [
          | inl a ↦ (small y.marks (fine.ways y a), fine.way_bytes y a)
          | inr b ↦ elim (Has-append_cases (map way_from_first P.first) (unless s (idle_way 0 ∷ []) ++ outs) y b) [
            | inl a ↦ let r = Has-map_cases way_from_first P.first y a in
                subst Fits r.2 (small r.0.marks (fine.firsts r.0 r.1), fine.first_bytes r.0 r.1)
            | inr c ↦ elim (Has-append_cases (unless s (idle_way 0 ∷ [])) outs y c) [
              | inl a ↦ elim (unless_cases s (idle_way 0 ∷ []) y a).1 [ inl e ↦ subst Fits e (none, all_some) | inr d ↦ absurd d ]
              | inr u ↦ elim (unless_cases t (after_ways (suc P.count) P) y u).1 [
                | inl e ↦ subst Fits e (none, all_some)
                | inr m ↦ let r = Has-map_cases (way_after (suc P.count)) (place_stops P) y m in
                    subst Fits r.2 (place_stop r.0 r.1, all_some)
              ]
            ]
          ]
        ]

    pub is_way : (n : ℕ) (y : Way) → n ≡ A.states → Has A.ways y → IsWayOf n (length names) y
    is_way n y at h =
        let whole = whole_law names a in
        let fits = way_fits y h in
        record { from = omega (arith, whole.froms y h, at); to = omega (arith, whole.tos y h, at); marks = fits.0; bytes = fits.1 }

-- what rearranges an automaton rearranges those with the same graph and the same idle states
reached_same : (B C : Automaton) → B.starts ≡ C.starts → B.ways ≡ C.ways → (n p : ℕ) → IsReachedIn C n p → IsReachedIn B n p
reached_same B C st wy zero p h = rw st h
reached_same B C st wy (suc n) p h = (h.0, rw wy h.1, reached_same B C st wy n h.0.from h.2, h.3)

pub rearranges_like : (A B C : Automaton) → Rearranges A B → C.states ≡ B.states → C.starts ≡ B.starts → C.ways ≡ B.ways → C.stops ≡ B.stops →
    ((p : ℕ) → Has B.idle p ↔ Has C.idle p) → Rearranges A C
rearranges_like A B C r e0 e1 e2 e3 idle = rw (← same) (r.0, reduct)
  where
    D : Automaton
    D = record { states = B.states; starts = B.starts; ways = B.ways; stops = B.stops; idle = C.idle }

    same : record { states = B.states; starts = B.starts; ways = B.ways; stops = B.stops; idle = C.idle } ≡ C
    same = λ i. record { states = sym e0 i; starts = sym e1 i; ways = sym e2 i; stops = sym e3 i; idle = C.idle }

    reduct : IsReduct A (record { states = B.states; starts = B.starts; ways = B.ways; stops = B.stops; idle = C.idle }) (same_below B.states) r.0 (λ b k. k)
    reduct =
        let q = r.1 in
        let reach : (p : ℕ) → IsReached (record { states = B.states; starts = B.starts; ways = B.ways; stops = B.stops; idle = C.idle }) p → IsReached B p = λ p h.
        (h.0, reached_same B (record { states = B.states; starts = B.starts; ways = B.ways; stops = B.stops; idle = C.idle }) refl refl h.0 p h.1) in
        record {
          from_states = q.from_states;
          to_states = q.to_states;
          onto = q.onto;
          starts_there = q.starts_there;
          starts_back = q.starts_back;
          knows_ends = λ b m h e. q.knows_ends b m (reach b h) e;
          knows_before = λ y h g k. q.knows_before y h (reach y.from g) k;
          ways_known = q.ways_known;
          ways_there = q.ways_there;
          ways_back = q.ways_back;
          ends_back = q.ends_back;
          ends_there = q.ends_there;
          ends_apart = q.ends_apart;
          idles = λ b a e. let i = q.idles b a e in ((λ h. (idle b).0 (i.0 h)), (λ h. i.1 ((idle b).1 h)));
        }
