-- Which markers and bytes stand in the places of a formula: markers of its variables alone, and some byte.
use Rattle.std.proofs.Common.{◌≡◌, ℕ, zero, suc, ◌+◌, ◌-◌, ◌⊎◌, List, ◌++◌, map, Option, Some, None, inl, inr, refl, sym, ap, ◌∙◌, subst}
use Rattle.std.specs.Prelude.{Bool, true, false, ◌==◌, ◌≤◌, if◌then◌else◌}
use Rattle.std.specs.Option.{ForSome}
use Rattle.std.specs.List.{flat_map}
use Rattle.std.specs.Int.{bit_at}
use Rattle.std.specs.FinSet as set
use Rattle.spanner_model.specs.Captures.{VarName}
use Rattle.spanner_model.specs.Sequential.{HasVar, HaveApartVars, HasNoVar, IsSequential}
use Rattle.span_core.specs.Lists.{Has}
use Rattle.spanner_model.specs.Tree.{Tree, empty, one, cat_end, cat, alt_end, alt, rep, cap}
use Rattle.spanner_model.specs.WellBuilt.{IsBuilt, AreParts, AreArms}
use Rattle.marked_automaton.specs.declared.way.Way.{Way}
use Rattle.marked_automaton.specs.declared.way.Stop.{Stop}
use Rattle.marked_automaton.specs.Automaton.{ByteClass}
use Rattle.place_automaton.specs.declared.fragment.Entry.{Entry}
use Rattle.place_automaton.specs.Sides.{sides_of, MarkOf, JoinAsSums, IsUnmarked}
use Rattle.place_automaton.specs.Places.{Places, Placed, ways_between, entry_with, stop_with, nothing_placed, never_placed, one_placed, cat_places, alt_places, opt_places, plus_places, cap_places, plus_placed, copies_then, at_most, repeated, placed}
use Rattle.place_automaton.specs.Repeats.{HasOrderedRepeats}
use Rattle.place_automaton.specs.Words.{opening_of, closing_of}
use Rattle.span_core.proofs.HasLaws.{Has-append_cases, Has-map_cases}
use Rattle.place_automaton.proofs.MarkBits.{HasBit, NoBitInCommon, zero_bit, no_bits, apart_sum, sum_bit, IsBitOf, own_apart, bit_tells}
use Rattle.place_automaton.proofs.OncePlaces.{once_is}
use Rattle.place_automaton.proofs.Ranges.{entries_of, stops_of, ways_of}
use Rattle.place_automaton.proofs.Shows.{sums_cases, once_cases, either_cases}

abbrev pub Bits : Type 1
Bits = ℕ → Type 0

-- all its bits are of these
abbrev pub Within : Bits → ℕ → Type 0
Within B m = (i : ℕ) → HasBit m i → B i

abbrev pub SomeByte : ByteClass → Type 0
SomeByte bytes = bytes ≡ set.empty → ⊥

abbrev pub Apart : Bits → Bits → Type 0
Apart B C = (i : ℕ) → B i → C i → ⊥

pub record IsFine (B : Bits) (P : Places) : Type 0 where
  pub nulls : (m : ℕ) → Has P.null m → Within B m
  pub firsts : (e : Entry) → Has P.first e → Within B e.marks
  pub lasts : (s : Stop) → Has P.last s → Within B s.marks
  pub ways : (y : Way) → Has P.follow y → Within B y.marks
  pub first_bytes : (e : Entry) → Has P.first e → SomeByte e.bytes
  pub way_bytes : (y : Way) → Has P.follow y → SomeByte y.bytes

pub fine_more : (B C : Bits) (P : Places) → ((i : ℕ) → B i → C i) → IsFine B P → IsFine C P
fine_more B C P sub p = record {
  nulls = λ m h i b. sub i (p.nulls m h i b);
  firsts = λ e h i b. sub i (p.firsts e h i b);
  lasts = λ s h i b. sub i (p.lasts s h i b);
  ways = λ y h i b. sub i (p.ways y h i b);
  first_bytes = p.first_bytes;
  way_bytes = p.way_bytes;
}

pub sum_within : (B C : Bits) (a b c : ℕ) → Apart B C → Within B a → Within C b → a + b ≡ c → Within (λ i. B i ⊎ C i) c
sum_within B C a b c apart wa wb e i h =
    elim (sum_bit a b i (λ j x y. apart j (wa j x) (wb j y)) (ap (λ m. bit_at m i) e ∙ h)) [ inl x ↦ inl (wa i x) | inr y ↦ inr (wb i y) ]

module _ (B C : Bits) (apart : Apart B C) (P Q : Places) (p : IsFine B P) (q : IsFine C Q) where
  abbrev D : Bits
  D i = B i ⊎ C i

  left : (m : ℕ) → Within B m → Within D m
  left m w i h = inl (w i h)

  right : (m : ℕ) → Within C m → Within D m
  right m w i h = inr (w i h)

  pub fine_cat : IsFine D (cat_places P Q)
  fine_cat = record {
    nulls = λ m h. let r = sums_cases P.null Q.null m h in sum_within B C r.0 r.1 m apart (p.nulls r.0 r.2) (q.nulls r.1 r.3) r.4;
    firsts = λ e h. elim (Has-append_cases P.first (flat_map (λ m. map (entry_with m) Q.first) P.null) e h) [
      | inl a ↦ left e.marks (p.firsts e a)
      | inr b ↦ let r = entries_of P.null Q.first e b in
          sum_within B C r.0 r.1.marks e.marks apart (p.nulls r.0 r.2) (q.firsts r.1 r.3) (ap (λ (e : Entry). e.marks) r.4)
    ];
    lasts = λ s h. elim (Has-append_cases Q.last (flat_map (λ m. map (stop_with m) P.last) Q.null) s h) [
      | inl a ↦ right s.marks (q.lasts s a)
      | inr b ↦ let r = stops_of Q.null P.last s b in
          sum_within B C r.1.marks r.0 s.marks apart (p.lasts r.1 r.3) (q.nulls r.0 r.2) (ap (λ (s : Stop). s.marks) r.4)
    ];
    ways = λ y h. elim (Has-append_cases P.follow (Q.follow ++ ways_between P.last Q.first) y h) [
      | inl a ↦ left y.marks (p.ways y a)
      | inr b ↦ elim (Has-append_cases Q.follow (ways_between P.last Q.first) y b) [
        | inl a ↦ right y.marks (q.ways y a)
        | inr c ↦ let r = ways_of P.last Q.first y c in
            sum_within B C r.0.marks r.1.marks y.marks apart (p.lasts r.0 r.2) (q.firsts r.1 r.3) (ap (λ (y : Way). y.marks) r.4)
      ]
    ];
    first_bytes = λ e h. elim (Has-append_cases P.first (flat_map (λ m. map (entry_with m) Q.first) P.null) e h) [
      | inl a ↦ p.first_bytes e a
      | inr b ↦ let r = entries_of P.null Q.first e b in rw (← r.4) (q.first_bytes r.1 r.3)
    ];
    way_bytes = λ y h. elim (Has-append_cases P.follow (Q.follow ++ ways_between P.last Q.first) y h) [
      | inl a ↦ p.way_bytes y a
      | inr b ↦ elim (Has-append_cases Q.follow (ways_between P.last Q.first) y b) [
        | inl a ↦ q.way_bytes y a
        | inr c ↦ let r = ways_of P.last Q.first y c in rw (← r.4) (q.first_bytes r.1 r.3)
      ]
    ];
  }

  -- what joins them is a sum
  pub fine_joins : JoinAsSums (sides_of P) (sides_of Q)
  fine_joins m n hm hn = apart_sum m n (λ i a b. apart i (of_left m hm i a) (of_right n hn i b))
    where
      of_left : (m : ℕ) → MarkOf (sides_of P) m → Within B m
      of_left m (inl h) = p.nulls m h
      of_left m (inr (inl h)) = subst (Within B) h.2 (p.firsts h.0 h.1)
      of_left m (inr (inr h)) = subst (Within B) h.2 (p.lasts h.0 h.1)

      of_right : (m : ℕ) → MarkOf (sides_of Q) m → Within C m
      of_right m (inl h) = q.nulls m h
      of_right m (inr (inl h)) = subst (Within C) h.2 (q.firsts h.0 h.1)
      of_right m (inr (inr h)) = subst (Within C) h.2 (q.lasts h.0 h.1)

fine_alt : (B C : Bits) (P Q : Places) → IsFine B P → IsFine C Q → IsFine (λ i. B i ⊎ C i) (alt_places P Q)
fine_alt B C P Q p q = record {
  nulls = λ m h i b. elim (either_cases P.null Q.null m h) [ inl a ↦ inl (p.nulls m a i b) | inr a ↦ inr (q.nulls m a i b) ];
  firsts = λ e h i b. elim (Has-append_cases P.first Q.first e h) [ inl a ↦ inl (p.firsts e a i b) | inr a ↦ inr (q.firsts e a i b) ];
  lasts = λ s h i b. elim (Has-append_cases P.last Q.last s h) [ inl a ↦ inl (p.lasts s a i b) | inr a ↦ inr (q.lasts s a i b) ];
  ways = λ y h i b. elim (Has-append_cases P.follow Q.follow y h) [ inl a ↦ inl (p.ways y a i b) | inr a ↦ inr (q.ways y a i b) ];
  first_bytes = λ e h. elim (Has-append_cases P.first Q.first e h) [ inl a ↦ p.first_bytes e a | inr a ↦ q.first_bytes e a ];
  way_bytes = λ y h. elim (Has-append_cases P.follow Q.follow y h) [ inl a ↦ p.way_bytes y a | inr a ↦ q.way_bytes y a ];
}

pub zero_within : (B : Bits) (m : ℕ) → 0 ≡ m → Within B m
zero_within B m e i h = absurd (zero_bit i (ap (λ n. bit_at n i) e ∙ h))

fine_opt : (B : Bits) (P : Places) → IsFine B P → IsFine B (opt_places P)
fine_opt B P p = record {
  nulls = λ m h. elim (once_cases 0 P.null m h) [ inl e ↦ zero_within B m e | inr a ↦ p.nulls m a ];
  firsts = p.firsts;
  lasts = p.lasts;
  ways = p.ways;
  first_bytes = p.first_bytes;
  way_bytes = p.way_bytes;
}

fine_nothing : (B : Bits) (k : ℕ) → IsFine B (nothing_placed k)
fine_nothing B k = record {
  nulls = λ m h. elim h [ inl e ↦ zero_within B m e | inr b ↦ absurd b ];
  firsts = λ e h. absurd h;
  lasts = λ s h. absurd h;
  ways = λ y h. absurd h;
  first_bytes = λ e h. absurd h;
  way_bytes = λ y h. absurd h;
}

fine_never : (B : Bits) (k : ℕ) → IsFine B (never_placed k)
fine_never B k = record {
  nulls = λ m h. absurd h;
  firsts = λ e h. absurd h;
  lasts = λ s h. absurd h;
  ways = λ y h. absurd h;
  first_bytes = λ e h. absurd h;
  way_bytes = λ y h. absurd h;
}

fine_one : (B : Bits) (bytes : ByteClass) (k : ℕ) → SomeByte bytes → IsFine B (one_placed bytes k)
fine_one B bytes k some = record {
  nulls = λ m h. absurd h;
  firsts = λ e h. elim h [ inl a ↦ zero_within B e.marks (ap (λ (e : Entry). e.marks) a) | inr b ↦ absurd b ];
  lasts = λ s h. elim h [ inl a ↦ zero_within B s.marks (ap (λ (s : Stop). s.marks) a) | inr b ↦ absurd b ];
  ways = λ y h. absurd h;
  first_bytes = λ e h. elim h [ inl a ↦ rw (← a) some | inr b ↦ absurd b ];
  way_bytes = λ y h. absurd h;
}

-- a capture, whose markers are in no block inside it
fine_cap : (B : Bits) (o c : ℕ) (P : Places) → Apart (HasBit o) B → Apart (HasBit c) B → NoBitInCommon o c → IsFine B P →
    IsFine (λ i. (HasBit o i ⊎ HasBit c i) ⊎ B i) (cap_places o c P)
fine_cap B o c P ao ac own p = record {
  nulls = λ m h.
      let r = Has-map_cases (◌+◌ (o + c)) P.null m h in
      sum_within (λ i. HasBit o i ⊎ HasBit c i) B (o + c) r.0 m (λ i x b. elim x [ inl y ↦ ao i y b | inr y ↦ ac i y b ])
      (λ i b. sum_bit o c i own b) (p.nulls r.0 r.1) r.2;
  firsts = λ e h i b.
      let r = Has-map_cases (entry_with o) P.first e h in
      elim (sum_within (HasBit o) B o r.0.marks e.marks ao (λ i b. b) (p.firsts r.0 r.1) (ap (λ (e : Entry). e.marks) r.2) i b) as (λ _. (HasBit o i ⊎ HasBit c i) ⊎ B i) [
        | inl x ↦ inl (inl x)
        | inr y ↦ inr y
      ];
  lasts = λ s h i b.
      let r = Has-map_cases (stop_with c) P.last s h in
      elim (sum_within B (HasBit c) r.0.marks c s.marks (λ i x y. ac i y x) (p.lasts r.0 r.1) (λ i b. b) (ap (λ (s : Stop). s.marks) r.2) i b) as (λ _. (HasBit o i ⊎ HasBit c i) ⊎ B i) [
        | inl x ↦ inr x
        | inr y ↦ inl (inr y)
      ];
  ways = λ y h i b. inr (p.ways y h i b);
  first_bytes = λ e h. let r = Has-map_cases (entry_with o) P.first e h in rw (← r.2) (p.first_bytes r.0 r.1);
  way_bytes = p.way_bytes;
}

-- repetitions, in which no bit stands
module _ (B : Bits) (none : (i : ℕ) → B i → ⊥) where
  twice : (P Q : Places) → IsFine B P → IsFine B Q → IsFine B (cat_places P Q)
  twice P Q p q =
      fine_more (λ i. B i ⊎ B i) B (cat_places P Q) (λ i h. elim h [ inl b ↦ b | inr b ↦ b ]) (fine_cat B B (λ i b c. none i b) P Q p q)

  pub fine_plus : (P : Places) → IsFine B P → IsFine B (plus_places P)
  fine_plus P p = record {
    nulls = p.nulls;
    firsts = p.firsts;
    lasts = p.lasts;
    ways = λ y h. elim (Has-append_cases P.follow (ways_between P.last P.first) y h) [
      | inl a ↦ p.ways y a
      | inr b ↦ let r = ways_of P.last P.first y b in
          λ i k. elim (sum_within B B r.0.marks r.1.marks y.marks (λ i b c. none i b) (p.lasts r.0 r.2) (p.firsts r.1 r.3) (ap (λ (y : Way). y.marks) r.4) i k) [ inl x ↦ x | inr x ↦ x ]
    ];
    first_bytes = p.first_bytes;
    way_bytes = λ y h. elim (Has-append_cases P.follow (ways_between P.last P.first) y h) [
      | inl a ↦ p.way_bytes y a
      | inr b ↦ let r = ways_of P.last P.first y b in rw (← r.4) (p.first_bytes r.1 r.3)
    ];
  }

  abbrev AreFine : Placed → Type 0
  AreFine F = (k : ℕ) → IsFine B (F k)

  fine_copies : (n : ℕ) (F G : Placed) → AreFine F → AreFine G → AreFine (copies_then n F G)
  fine_copies zero F G f g = g
  fine_copies (suc n) F G f g = λ k. twice (F k) (copies_then n F G (k + (F k).count)) (f k) (fine_copies n F G f g (k + (F k).count))

  fine_at_most : (n : ℕ) (F : Placed) → AreFine F → AreFine (at_most n F)
  fine_at_most zero F f = fine_nothing B
  fine_at_most (suc n) F f = λ k.
      fine_opt B (cat_places (F k) (at_most n F (k + (F k).count))) (twice (F k) (at_most n F (k + (F k).count)) (f k) (fine_at_most n F f (k + (F k).count)))

  fine_repeated : (n : ℕ) (most : Option ℕ) (F : Placed) → AreFine F → AreFine (repeated n most F)
  fine_repeated zero None F f = λ k. fine_opt B (plus_places (F k)) (fine_plus (F k) (f k))
  fine_repeated (suc n) None F f = fine_copies n F (plus_placed F) f (λ k. fine_plus (F k) (f k))
  fine_repeated zero (Some most) F f = fine_at_most (most - zero) F f
  fine_repeated (suc n) (Some most) F f = fine_copies (suc n) F (at_most (most - suc n) F) f (fine_at_most (most - suc n) F f)

  pub fine_unmarked : (P : Places) → IsFine B P → IsUnmarked (sides_of P)
  fine_unmarked P p m (inl h) = no_bits m (λ i b. none i (p.nulls m h i b))
  fine_unmarked P p m (inr (inl h)) = sym h.2 ∙ no_bits h.0.marks (λ i b. none i (p.firsts h.0 h.1 i b))
  fine_unmarked P p m (inr (inr h)) = sym h.2 ∙ no_bits h.0.marks (λ i b. none i (p.lasts h.0 h.1 i b))

-- each set of bytes has some byte
abbrev pub HasClasses : Tree → Type 0
HasClasses empty = Unit {0}
HasClasses (one set) = SomeByte set
HasClasses cat_end = Unit {0}
HasClasses (cat f rest) = HasClasses f × HasClasses rest
HasClasses alt_end = Unit {0}
HasClasses (alt f rest) = HasClasses f × HasClasses rest
HasClasses (rep f least most) = HasClasses f
HasClasses (cap x f) = HasClasses f

mutual
  pub built_classes : (f : Tree) → IsBuilt f → HasClasses f
  built_classes empty h = tt
  built_classes (one set) h = h.0
  built_classes cat_end h = tt
  built_classes (cat f rest) h = (built_classes f h.0, parts_classes rest h.1)
  built_classes alt_end h = tt
  built_classes (alt f rest) h = (built_classes f h.0, arms_classes rest h.1)
  built_classes (rep f least most) h = built_classes f h.0
  built_classes (cap x f) h = built_classes f h.0

  parts_classes : (f : Tree) → AreParts f → HasClasses f
  parts_classes cat_end h = tt
  parts_classes (cat f rest) h = (built_classes f h.0, parts_classes rest h.1)
  parts_classes empty h = absurd h
  parts_classes (one set) h = absurd h
  parts_classes alt_end h = absurd h
  parts_classes (alt f rest) h = absurd h
  parts_classes (rep f least most) h = absurd h
  parts_classes (cap x f) h = absurd h

  arms_classes : (f : Tree) → AreArms f → HasClasses f
  arms_classes alt_end h = tt
  arms_classes (alt f rest) h = (built_classes f h.0, arms_classes rest h.1)
  arms_classes empty h = absurd h
  arms_classes (one set) h = absurd h
  arms_classes cat_end h = absurd h
  arms_classes (cat f rest) h = absurd h
  arms_classes (rep f least most) h = absurd h
  arms_classes (cap x f) h = absurd h

module _ (names : List VarName) where
  -- the bits of the formula's variables
  abbrev pub VarBits : Tree → Bits
  VarBits f i = (x : VarName) × HasVar f x × IsBitOf names x i

  abbrev pub AreNamed : Tree → Type 0
  AreNamed f = (x : VarName) → HasVar f x → Has names x

  pub vars_apart : (f g : Tree) → AreNamed f → AreNamed g → HaveApartVars f g → Apart (VarBits f) (VarBits g)
  vars_apart f g nf ng apart i a b =
      let e = bit_tells names a.0 b.0 i (nf a.0 a.1) (ng b.0 b.1) a.2 b.2 in
      apart b.0 (subst (HasVar f) e a.1) b.1

  pub mark_apart : (x : VarName) (f : Tree) (m : ℕ) → Has names x → AreNamed f → (HasVar f x → ⊥) → ((i : ℕ) → HasBit m i → IsBitOf names x i) → Apart (HasBit m) (VarBits f)
  mark_apart x f m has nf free of i h b =
      let e = bit_tells names x b.0 i has (nf b.0 b.1) (of i h) b.2 in
      free (subst (HasVar f) (sym e) b.1)

  fine_repeat : (f : Tree) (n : ℕ) (most : Option ℕ) (F : Placed) → HasNoVar f ⊎ (most ≡ Some 1) → ForSome most (λ b. n ≤ b) →
      ((k : ℕ) → IsFine (VarBits f) (F k)) → (k : ℕ) → IsFine (VarBits f) (repeated n most F k)
  fine_repeat f n most F (inl none) le all k = fine_repeated (VarBits f) (λ i b. none b.0 b.1) n most F all k
  fine_repeat f n most F (inr e) le all k =
      rw (ap (λ o. repeated n o F k) e ∙ once_is n F k (le 1 e)) (once (n == 0))
    where
      once : (b : Bool) → IsFine (VarBits f) (if b then opt_places (F k) else F k)
      once true = fine_opt (VarBits f) (F k) (all k)
      once false = all k

  pub fine_places : (f : Tree) → IsSequential f → HasOrderedRepeats f → HasClasses f → AreNamed f → (k : ℕ) → IsFine (VarBits f) (placed (opening_of names) (closing_of names) f k)
  fine_places empty ok ord cl vars k = fine_nothing (VarBits empty) k
  fine_places (one set) ok ord cl vars k = fine_one (VarBits (one set)) set k cl
  fine_places cat_end ok ord cl vars k = fine_nothing (VarBits cat_end) k
  fine_places (cat f rest) ok ord cl vars k =
      let P = placed (opening_of names) (closing_of names) f k in
      let Q = placed (opening_of names) (closing_of names) rest (k + P.count) in
      let nf : AreNamed f = λ x h. vars x (inl h) in
      let nr : AreNamed rest = λ x h. vars x (inr h) in
      fine_more (λ i. VarBits f i ⊎ VarBits rest i) (VarBits (cat f rest)) (cat_places P Q)
      (λ i h. elim h as (λ _. VarBits (cat f rest) i) [ inl b ↦ (b.0, inl b.1, b.2) | inr b ↦ (b.0, inr b.1, b.2) ])
      (fine_cat (VarBits f) (VarBits rest) (vars_apart f rest nf nr ok.2) P Q (fine_places f ok.0 ord.0 cl.0 nf k) (fine_places rest ok.1 ord.1 cl.1 nr (k + P.count)))
  fine_places alt_end ok ord cl vars k = fine_never (VarBits alt_end) k
  fine_places (alt f rest) ok ord cl vars k =
      let P = placed (opening_of names) (closing_of names) f k in
      let Q = placed (opening_of names) (closing_of names) rest (k + P.count) in
      let nf : AreNamed f = λ x h. vars x (inl h) in
      let nr : AreNamed rest = λ x h. vars x (inr h) in
      fine_more (λ i. VarBits f i ⊎ VarBits rest i) (VarBits (alt f rest)) (alt_places P Q)
      (λ i h. elim h as (λ _. VarBits (alt f rest) i) [ inl b ↦ (b.0, inl b.1, b.2) | inr b ↦ (b.0, inr b.1, b.2) ])
      (fine_alt (VarBits f) (VarBits rest) P Q (fine_places f ok.0 ord.0 cl.0 nf k) (fine_places rest ok.1 ord.1 cl.1 nr (k + P.count)))
  fine_places (rep f least most) ok ord cl vars k = fine_repeat f least most (placed (opening_of names) (closing_of names) f) ok.1 ord.1 (fine_places f ok.0 ord.0 cl vars) k
  fine_places (cap x f) ok ord cl vars k =
      let P = placed (opening_of names) (closing_of names) f k in
      let o = opening_of names x in
      let c = closing_of names x in
      let nf : AreNamed f = λ y h. vars y (inr h) in
      let has : Has names x = vars x (inl refl) in
      fine_more (λ i. (HasBit o i ⊎ HasBit c i) ⊎ VarBits f i) (VarBits (cap x f)) (cap_places o c P)
      (λ i h. elim h as (λ _. VarBits (cap x f) i) [ inl b ↦ (x, inl refl, b) | inr b ↦ (b.0, inr b.1, b.2) ])
      (fine_cap (VarBits f) o c P (mark_apart x f o has nf ok.1 (λ i b. inl b)) (mark_apart x f c has nf ok.1 (λ i b. inr b)) (own_apart names x has) (fine_places f ok.0 ord cl nf k))
