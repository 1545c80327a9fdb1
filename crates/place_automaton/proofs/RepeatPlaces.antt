-- Repetitions, written out as copies.
use Rattle.std.proofs.Common.{◌≡◌, ℕ, zero, suc, ◌+◌, ◌-◌, ◌≤◌, Bool, true, false, List, [], ◌∷◌, ◌++◌, map, Option, Some, None, max, inl, inr, refl, sym, ap, ◌∙◌, subst, arith, append_assoc, append-nil}
use Rattle.std.specs.Prelude.{◌==◌, ◌&&◌, if◌then◌else◌}
use Rattle.std.proofs.lemmas.Bool.{ne_eqb}
use Rattle.std.proofs.lemmas.List.{map-append}
use Rattle.span_core.specs.Lists.{AreDistinct, Has}
use Rattle.place_automaton.specs.declared.placing.Draft.{Draft}
use Rattle.place_automaton.specs.Drafts.{HasPlaced, copies_of}
use Rattle.place_automaton.specs.Sides.{Sides, sides_of, opt_sides, again_sides, row_sides, row_ways}
use Rattle.place_automaton.specs.Places.{Places, Placed, ways_between, cat_places, opt_places, plus_places, nothing_placed, plus_placed, copies_then, at_most, repeated}
use Rattle.place_automaton.proofs.DraftRows.{IsRow}
use Rattle.place_automaton.proofs.Ranges.{LiesFrom}
use Rattle.place_automaton.proofs.Rows.{total, follows, row_places, row_is, row_count, row_follow, total_more, follows_more, copies, copies_more, bounded_row, unbounded_row}

-- a part without places, that fits the empty string or does not
abbrev pub flat : Bool → Places
flat true = record { count = 0; null = 0 ∷ []; first = []; last = []; follow = [] }
flat false = record { count = 0; null = []; first = []; last = []; follow = [] }

cat_flat : (a b : Bool) → cat_places (flat a) (flat b) ≡ flat (a && b)
cat_flat true true = refl
cat_flat true false = refl
cat_flat false true = refl
cat_flat false false = refl

opt_flat : (a : Bool) → opt_places (flat a) ≡ flat true
opt_flat true = refl
opt_flat false = refl

plus_flat : (a : Bool) → plus_places (flat a) ≡ flat a
plus_flat true = refl
plus_flat false = refl

empty_list : {X : Type 0} (xs : List X) → ((x : X) → Has xs x → ⊥) → xs ≡ []
empty_list [] none = refl
empty_list (x ∷ xs) none = absurd (none x (inl refl))

pub flat_is : (k : ℕ) (P : Places) → LiesFrom k P → P.count ≡ 0 → AreDistinct P.null → ((m : ℕ) → Has P.null m → 0 ≡ m) → (a : Bool) × (P ≡ flat a)
flat_is k P lies none small zeros = go P.null refl
  where
    first : P.first ≡ []
    first = empty_list P.first (λ e h. let l = lies.firsts e h in omega (arith, l.0, l.1, none))

    last : P.last ≡ []
    last = empty_list P.last (λ s h. let l = lies.lasts s h in omega (arith, l.0, l.1, none))

    follow : P.follow ≡ []
    follow = empty_list P.follow (λ y h. let l = lies.froms y h in omega (arith, l.0, l.1, none))

    go : (ns : List ℕ) → P.null ≡ ns → (a : Bool) × (P ≡ flat a)
    go [] e = (false, λ i. record { count = none i; null = e i; first = first i; last = last i; follow = follow i })
    go (n ∷ []) e =
        let z : 0 ≡ n = zeros n (rw e (inl refl)) in
        let f : P.null ≡ 0 ∷ [] = e ∙ ap (λ x. x ∷ []) (sym z) in
        (true, λ i. record { count = none i; null = f i; first = first i; last = last i; follow = follow i })
    go (n ∷ m ∷ ns) e =
        let d : AreDistinct (n ∷ m ∷ ns) = subst AreDistinct e small in
        let zn : 0 ≡ n = zeros n (rw e (inl refl)) in
        let zm : 0 ≡ m = zeros m (rw e (inr (inl refl))) in
        absurd (d.0 (inl (sym zm ∙ zn)))

module _ (F : Placed) (k : ℕ) (a : Bool) (is : F k ≡ flat a) where
  no_count : (F k).count ≡ 0
  no_count = ap (λ (P : Places). P.count) is ∙ go a
    where
      go : (a : Bool) → (flat a).count ≡ 0
      go true = refl
      go false = refl

  same_place : k + (F k).count ≡ k
  same_place = omega (arith, no_count)

  abbrev all_fit : ℕ → Bool → Bool
  all_fit zero b = b
  all_fit (suc n) b = a && all_fit n b

  one_more : (G : Placed) (b : Bool) → G k ≡ flat b → cat_places (F k) (G (k + (F k).count)) ≡ flat (a && b)
  one_more G b e =
      ap (λ n. cat_places (F k) (G n)) same_place ∙ (ap (cat_places (F k)) e ∙ (ap (λ P. cat_places P (flat b)) is ∙ cat_flat a b))

  flat_copies : (n : ℕ) (G : Placed) (b : Bool) → G k ≡ flat b → copies_then n F G k ≡ flat (all_fit n b)
  flat_copies zero G b e = e
  flat_copies (suc n) G b e = one_more (copies_then n F G) (all_fit n b) (flat_copies n G b e)

  flat_at_most : (n : ℕ) → at_most n F k ≡ flat true
  flat_at_most zero = refl
  flat_at_most (suc n) = ap opt_places (one_more (at_most n F) true (flat_at_most n)) ∙ opt_flat (a && true)

  itself : (n : ℕ) → all_fit n a ≡ a
  itself zero = refl
  itself (suc n) = ap (λ b. a && b) (itself n) ∙ twice a
    where
      twice : (b : Bool) → (b && b) ≡ b
      twice true = refl
      twice false = refl

  if_some : (n : ℕ) → all_fit (suc n) true ≡ a
  if_some zero = go a
    where
      go : (b : Bool) → (b && true) ≡ b
      go true = refl
      go false = refl
  if_some (suc n) = ap (λ b. a && b) (if_some n) ∙ twice a
    where
      twice : (b : Bool) → (b && b) ≡ b
      twice true = refl
      twice false = refl

  abbrev pub may_be : ℕ → Bool
  may_be least = if least == 0 then true else a

  not_none : (n : ℕ) → may_be (suc n) ≡ a
  not_none n = ap (λ (b : Bool). if b then true else a) (ne_eqb (suc n) 0 (λ e. omega (arith, e)))

  pub flat_repeated : (least : ℕ) (most : Option ℕ) → repeated least most F k ≡ flat (may_be least)
  flat_repeated zero None = ap opt_places (ap plus_places is ∙ plus_flat a) ∙ opt_flat a
  flat_repeated (suc n) None = flat_copies n (plus_placed F) a (ap plus_places is ∙ plus_flat a) ∙ (ap flat (itself n) ∙ ap flat (sym (not_none n)))
  flat_repeated zero (Some most) = flat_at_most (most - zero)
  flat_repeated (suc n) (Some most) =
      flat_copies (suc n) (at_most (most - suc n) F) true (flat_at_most (most - suc n)) ∙ (ap flat (if_some n) ∙ ap flat (sym (not_none n)))

sides_flat : (c a : Bool) → (if c then opt_sides (sides_of (flat a)) else sides_of (flat a)) ≡ sides_of (flat (if c then true else a))
sides_flat true true = refl
sides_flat true false = refl
sides_flat false a = refl

flat_count : (a : Bool) → (flat a).count ≡ 0
flat_count true = refl
flat_count false = refl

flat_follow : (a : Bool) → (flat a).follow ≡ []
flat_follow true = refl
flat_follow false = refl

-- copies without places add nothing
pub flat_done : (F : Placed) (k least : ℕ) (most : Option ℕ) (a b : Draft) (e r : Sides) → LiesFrom k (F k) → AreDistinct (F k).null →
    ((m : ℕ) → Has (F k).null m → 0 ≡ m) → HasPlaced (F k) a b e → b.next ≡ a.next → r ≡ (if least == 0 then opt_sides e else e) →
    HasPlaced (repeated least most F k) a b r
flat_done F k least most a b e r lies small zeros h same is =
    let none : (F k).count ≡ 0 = omega (arith, h.next, same) in
    let f = flat_is k (F k) lies none small zeros in
    let fits = may_be F k f.0 f.1 least in
    rw (flat_repeated F k f.0 f.1 least most) (record {
      sides = is ∙ (ap (λ (E : Sides). if least == 0 then opt_sides E else E) (h.sides ∙ ap sides_of f.1) ∙ sides_flat (least == 0) f.0);
      next = omega (arith, same, flat_count fits);
      ways = h.ways ∙ (ap (λ ws. a.ways.items ++ ws) (ap (λ (P : Places). P.follow) f.1 ∙ flat_follow f.0) ∙ ap (λ ws. a.ways.items ++ ws) (sym (flat_follow fits)));
    })

-- no copies at all
pub none_placed : (F : Placed) (k least : ℕ) (most : Option ℕ) → copies_of least most ≡ 0 → ((m : ℕ) → most ≡ Some m → least ≤ m) → repeated least most F k ≡ nothing_placed 0
none_placed F k zero None e le = absurd (omega (arith, e))
none_placed F k (suc n) None e le = absurd (omega (arith, e))
none_placed F k zero (Some m) e le = ap (λ n. at_most n F k) (let f : m - 0 ≡ 0 = omega (arith, e) in f)
none_placed F k (suc n) (Some m) e le = absurd (omega (arith, e, le m refl))

pub nothing_done : (W : Places) (d : Draft) (e : Sides) → W ≡ nothing_placed 0 → e ≡ sides_of (nothing_placed 0) → HasPlaced W d d e
nothing_done W d e is h =
    rw is (record { sides = h; next = omega arith; ways = sym (append-nil d.ways.items) })

-- a part that may be left out, or may not
pub once_done : (b : Bool) (P : Places) (a c : Draft) (e p : Sides) → HasPlaced P a c e → p ≡ (if b then opt_sides e else e) → HasPlaced (if b then opt_places P else P) a c p
once_done true P a c e p h is = record { sides = is ∙ ap opt_sides h.sides; next = h.next; ways = h.ways }
once_done false P a c e p h is = record { sides = is ∙ h.sides; next = h.next; ways = h.ways }

pub bounded_places : (F : Placed) (n most k : ℕ) → n ≤ most → repeated n (Some most) F k ≡ row_places n (copies F most k) (nothing_placed 0)
bounded_places F n most k le = is n ∙ bounded_row F n (most - n) most k (omega (arith, le))
  where
    is : (n : ℕ) → repeated n (Some most) F k ≡ copies_then n F (at_most (most - n) F) k
    is zero = refl
    is (suc n) = refl

-- the last copy, that comes again and again
abbrev pub again_places : ℕ → Places → Places
again_places least P = if least == 0 then opt_places (plus_places P) else plus_places P

again_is : (b : Bool) (P : Places) →
    (sides_of (if b then opt_places (plus_places P) else plus_places P) ≡ (if b then opt_sides (sides_of P) else sides_of P))
    × ((if b then opt_places (plus_places P) else plus_places P).count ≡ P.count)
    × ((if b then opt_places (plus_places P) else plus_places P).follow ≡ P.follow ++ ways_between P.last P.first)
again_is true P = (refl, refl, refl)
again_is false P = (refl, refl, refl)

unbounded_places : (F : Placed) (least n k : ℕ) → max least 1 ≡ n + 1 →
    repeated least None F k ≡ row_places least (copies F n k) (again_places least (F (k + total (copies F n k))))
unbounded_places F zero zero k e = ap (λ j. opt_places (plus_places (F j))) (let f : k ≡ k + 0 = omega arith in f)
unbounded_places F zero (suc n) k e = absurd (omega (arith, e))
unbounded_places F (suc m) n k e =
    let f : m ≡ n = omega (arith, e) in
    let P = F (k + total (copies F n k)) in
    ap (λ j. copies_then j F (plus_placed F) k) f
    ∙ (unbounded_row F n (suc m) (plus_placed F) k (omega (arith, e))
    ∙ ap (λ (b : Bool). row_places (suc m) (copies F n k) (if b then opt_places (plus_places P) else plus_places P)) (sym (ne_eqb (suc m) 0 (λ g. omega (arith, g)))))

pub again_done : (F : Placed) (least k j : ℕ) (a b c : Draft) (xs : List Sides) (p : Sides) → j ≡ max least 1 → IsRow (copies F j k) a b xs → c.next ≡ b.next →
    ((front : List Sides) (last : Sides) → xs ≡ front ++ last ∷ [] → p ≡ row_sides least front (again_sides least last)) →
    ((front : List Sides) (last : Sides) → xs ≡ front ++ last ∷ [] →
    c.ways.items ≡ (b.ways.items ++ ways_between last.last last.first) ++ row_ways least front (again_sides least last)) →
    HasPlaced (repeated least None F k) a c p
again_done F least k j a b c xs p many row next ends ways =
    let n = j - 1 in
    let more : n + 1 ≡ j = omega (arith, many) in
    let Ps = copies F n k in
    let P = F (k + total Ps) in
    let all : copies F j k ≡ Ps ++ P ∷ [] = ap (λ i. copies F i k) (sym more) ∙ copies_more F n k in
    let Q = again_places least P in
    let q = again_is (least == 0) P in
    let front = map sides_of Ps in
    let split : xs ≡ front ++ sides_of P ∷ [] = row.fragments ∙ (ap (map sides_of) all ∙ map-append sides_of Ps (P ∷ [])) in
    let fs = follows Ps in
    let between = ways_between P.last P.first in
    let rw = row_ways least front (again_sides least (sides_of P)) in
    let before : b.ways.items ≡ a.ways.items ++ (fs ++ P.follow) = row.ways ∙ ap (λ ws. a.ways.items ++ ws) (ap follows all ∙ follows_more Ps P) in
    let ways' = ways front (sides_of P) split
    ∙ (ap (λ ws. (ws ++ between) ++ rw) before
    ∙ (six a.ways.items fs P.follow between rw
    ∙ (ap (λ ws. a.ways.items ++ (fs ++ (ws ++ rw))) (sym q.2)
    ∙ (ap (λ (E : Sides). a.ways.items ++ (fs ++ (Q.follow ++ row_ways least front E))) (sym q.0)
    ∙ ap (λ ws. a.ways.items ++ ws) (sym (row_follow least Ps Q)))))) in
    subst (λ (W : Places). HasPlaced W a c p) (sym (unbounded_places F least n k (sym many ∙ sym more))) (record {
      sides = ends front (sides_of P) split ∙ (ap (λ (E : Sides). row_sides least front E) (sym q.0) ∙ sym (row_is least Ps Q));
      next = omega (arith, next, row.next, ap total all, total_more Ps P, row_count least Ps Q, q.1);
      ways = ways';
    })
  where
    six : {X : Type 0} (a f p b r : List X) → ((a ++ (f ++ p)) ++ b) ++ r ≡ a ++ (f ++ ((p ++ b) ++ r))
    six a f p b r =
        append_assoc (a ++ (f ++ p)) b r
        ∙ (append_assoc a (f ++ p) (b ++ r)
        ∙ ap (λ x. a ++ x) (append_assoc f p (b ++ r) ∙ ap (λ x. f ++ x) (sym (append_assoc p b r))))
