-- A formula that is numbered from further on has the same places with greater numbers.
use Rattle.std.proofs.Common.{◌≡◌, ℕ, zero, suc, ◌+◌, ◌-◌, ◌<◌, ◌≤◌, List, [], ◌∷◌, ◌++◌, length, length-append, get_or, take, drop, map, Option, Some, None, refl, sym, ap, ◌∙◌, arith}
use Rattle.std.specs.List.{flat_map}
use Rattle.std.proofs.Math.Seq.{drop-append_seam, take-append_seam}
use Rattle.std.proofs.lemmas.List.{map-append}
use Rattle.spanner_model.specs.Captures.{VarName}
use Rattle.spanner_model.specs.Tree.{Tree, empty, one, cat_end, cat, alt_end, alt, rep, cap}
use Rattle.marked_automaton.specs.declared.way.Way.{Way}
use Rattle.marked_automaton.specs.declared.way.Stop.{Stop}
use Rattle.place_automaton.specs.declared.fragment.Entry.{Entry}
use Rattle.place_automaton.specs.Sides.{Sides, sides_of}
use Rattle.place_automaton.specs.Moves.{entry_moved, stop_moved, way_moved, places_moved, LieBelow}
use Rattle.place_automaton.specs.Places.{Places, Placed, way_into, ways_between, entry_with, stop_with, cat_places, alt_places, opt_places, plus_places, cap_places, cat_placed, alt_placed, opt_placed, plus_placed, copies_then, at_most, repeated, placed}
use Rattle.place_automaton.proofs.Ranges.{LiesFrom}
use Rattle.place_automaton.proofs.Rows.{copies, follows}

-- numbered from further on, it is the same but for the numbers
abbrev pub Moves : Placed → Type 0
Moves F = (s k : ℕ) → F (k + s) ≡ places_moved s (F k)

map_past : {W X Y Z : Type 0} (a : X → Z) (b : W → X) (c : Y → Z) (d : W → Y) (ws : List W) → ((w : W) → a (b w) ≡ c (d w)) → map a (map b ws) ≡ map c (map d ws)
map_past a b c d [] e = refl
map_past a b c d (w ∷ ws) e = ap (λ z. z ∷ map a (map b ws)) (e w) ∙ ap (λ zs. c (d w) ∷ zs) (map_past a b c d ws e)

flat_past : {M X : Type 0} (g : X → X) (h there : M → List X) (ms : List M) → ((m : M) → there m ≡ map g (h m)) → flat_map there ms ≡ map g (flat_map h ms)
flat_past g h there [] e = refl
flat_past g h there (m ∷ ms) e =
    ap (λ xs. xs ++ flat_map there ms) (e m) ∙ (ap (λ xs. map g (h m) ++ xs) (flat_past g h there ms e) ∙ sym (map-append g (h m) (flat_map h ms)))

module _ (s : ℕ) where
  abbrev entries : List Entry → List Entry
  entries es = map (entry_moved s) es

  abbrev stops : List Stop → List Stop
  stops ss = map (stop_moved s) ss

  abbrev ways : List Way → List Way
  ways ws = map (way_moved s) ws

  entries_with : (m : ℕ) (es : List Entry) → map (entry_with m) (entries es) ≡ entries (map (entry_with m) es)
  entries_with m es = map_past (entry_with m) (entry_moved s) (entry_moved s) (entry_with m) es (λ e. refl)

  stops_with : (m : ℕ) (ss : List Stop) → map (stop_with m) (stops ss) ≡ stops (map (stop_with m) ss)
  stops_with m ss = map_past (stop_with m) (stop_moved s) (stop_moved s) (stop_with m) ss (λ x. refl)

  between : (last : List Stop) (first : List Entry) → ways_between (stops last) (entries first) ≡ ways (ways_between last first)
  between [] first = refl
  between (x ∷ last) first =
      let there = ways_between (stops last) (entries first) in
      ap (λ ws. ws ++ there) (map_past (way_into (stop_moved s x)) (entry_moved s) (way_moved s) (way_into x) first (λ e. refl))
      ∙ (ap (λ ws. ways (map (way_into x) first) ++ ws) (between last first)
      ∙ sym (map-append (way_moved s) (map (way_into x) first) (ways_between last first)))

  cat_moved : (P Q : Places) → cat_places (places_moved s P) (places_moved s Q) ≡ places_moved s (cat_places P Q)
  cat_moved P Q = λ i. record { count = P.count + Q.count; null = (cat_places P Q).null; first = first i; last = last i; follow = follow i }
    where
      first : (cat_places (places_moved s P) (places_moved s Q)).first ≡ (places_moved s (cat_places P Q)).first
      first =
          ap (λ es. entries P.first ++ es)
          (flat_past (entry_moved s) (λ m. map (entry_with m) Q.first) (λ m. map (entry_with m) (entries Q.first)) P.null (λ m. entries_with m Q.first))
          ∙ sym (map-append (entry_moved s) P.first (flat_map (λ m. map (entry_with m) Q.first) P.null))

      last : (cat_places (places_moved s P) (places_moved s Q)).last ≡ (places_moved s (cat_places P Q)).last
      last =
          ap (λ ss. stops Q.last ++ ss)
          (flat_past (stop_moved s) (λ m. map (stop_with m) P.last) (λ m. map (stop_with m) (stops P.last)) Q.null (λ m. stops_with m P.last))
          ∙ sym (map-append (stop_moved s) Q.last (flat_map (λ m. map (stop_with m) P.last) Q.null))

      follow : (cat_places (places_moved s P) (places_moved s Q)).follow ≡ (places_moved s (cat_places P Q)).follow
      follow =
          ap (λ ws. ways P.follow ++ (ways Q.follow ++ ws)) (between P.last Q.first)
          ∙ (ap (λ ws. ways P.follow ++ ws) (sym (map-append (way_moved s) Q.follow (ways_between P.last Q.first)))
          ∙ sym (map-append (way_moved s) P.follow (Q.follow ++ ways_between P.last Q.first)))

  alt_moved : (P Q : Places) → alt_places (places_moved s P) (places_moved s Q) ≡ places_moved s (alt_places P Q)
  alt_moved P Q = λ i. record { count = P.count + Q.count; null = (alt_places P Q).null; first = first i; last = last i; follow = follow i }
    where
      first : entries P.first ++ entries Q.first ≡ entries (P.first ++ Q.first)
      first = sym (map-append (entry_moved s) P.first Q.first)

      last : stops P.last ++ stops Q.last ≡ stops (P.last ++ Q.last)
      last = sym (map-append (stop_moved s) P.last Q.last)

      follow : ways P.follow ++ ways Q.follow ≡ ways (P.follow ++ Q.follow)
      follow = sym (map-append (way_moved s) P.follow Q.follow)

  plus_moved : (P : Places) → plus_places (places_moved s P) ≡ places_moved s (plus_places P)
  plus_moved P = λ i. record { count = P.count; null = P.null; first = entries P.first; last = stops P.last; follow = follow i }
    where
      follow : ways P.follow ++ ways_between (stops P.last) (entries P.first) ≡ ways (P.follow ++ ways_between P.last P.first)
      follow = ap (λ ws. ways P.follow ++ ws) (between P.last P.first) ∙ sym (map-append (way_moved s) P.follow (ways_between P.last P.first))

  cap_moved : (opening closing : ℕ) (P : Places) → cap_places opening closing (places_moved s P) ≡ places_moved s (cap_places opening closing P)
  cap_moved opening closing P = λ i. record {
    count = P.count;
    null = (cap_places opening closing P).null;
    first = entries_with opening P.first i;
    last = stops_with closing P.last i;
    follow = ways P.follow;
  }

behind : (k s c : ℕ) → k + s + c ≡ k + c + s
behind k s c = omega arith

moves_cat : (F G : Placed) → Moves F → Moves G → Moves (cat_placed F G)
moves_cat F G f g s k =
    let P = F k in
    ap (λ (R : Places). cat_places R (G (k + s + R.count))) (f s k)
    ∙ (ap (λ n. cat_places (places_moved s P) (G n)) (behind k s P.count)
    ∙ (ap (cat_places (places_moved s P)) (g s (k + P.count))
    ∙ cat_moved s P (G (k + P.count))))

moves_alt : (F G : Placed) → Moves F → Moves G → Moves (alt_placed F G)
moves_alt F G f g s k =
    let P = F k in
    ap (λ (R : Places). alt_places R (G (k + s + R.count))) (f s k)
    ∙ (ap (λ n. alt_places (places_moved s P) (G n)) (behind k s P.count)
    ∙ (ap (alt_places (places_moved s P)) (g s (k + P.count))
    ∙ alt_moved s P (G (k + P.count))))

moves_opt : (F : Placed) → Moves F → Moves (opt_placed F)
moves_opt F f s k = ap opt_places (f s k)

moves_plus : (F : Placed) → Moves F → Moves (plus_placed F)
moves_plus F f s k = ap plus_places (f s k) ∙ plus_moved s (F k)

moves_copies : (n : ℕ) (F G : Placed) → Moves F → Moves G → Moves (copies_then n F G)
moves_copies zero F G f g = g
moves_copies (suc n) F G f g = moves_cat F (copies_then n F G) f (moves_copies n F G f g)

moves_at_most : (n : ℕ) (F : Placed) → Moves F → Moves (at_most n F)
moves_at_most zero F f s k = refl
moves_at_most (suc n) F f s k = moves_opt (cat_placed F (at_most n F)) (moves_cat F (at_most n F) f (moves_at_most n F f)) s k

moves_repeated : (n : ℕ) (most : Option ℕ) (F : Placed) → Moves F → Moves (repeated n most F)
moves_repeated zero None F f = moves_opt (plus_placed F) (moves_plus F f)
moves_repeated (suc n) None F f = moves_copies n F (plus_placed F) f (moves_plus F f)
moves_repeated zero (Some most) F f = moves_at_most (most - zero) F f
moves_repeated (suc n) (Some most) F f = moves_copies (suc n) F (at_most (most - suc n) F) f (moves_at_most (most - suc n) F f)

module _ (opening closing : VarName → ℕ) where
  pub place_moves : (f : Tree) → Moves (placed opening closing f)
  place_moves empty s k = refl
  place_moves (one set) s k = refl
  place_moves cat_end s k = refl
  place_moves (cat f rest) s k = moves_cat (placed opening closing f) (placed opening closing rest) (place_moves f) (place_moves rest) s k
  place_moves alt_end s k = refl
  place_moves (alt f rest) s k = moves_alt (placed opening closing f) (placed opening closing rest) (place_moves f) (place_moves rest) s k
  place_moves (rep f least most) s k = moves_repeated least most (placed opening closing f) (place_moves f) s k
  place_moves (cap x f) s k =
      ap (cap_places (opening x) (closing x)) (place_moves f s k) ∙ cap_moved s (opening x) (closing x) (placed opening closing f k)

-- a copy from n on is the one from k on, moved
pub once_more : (F : Placed) → Moves F → (k n : ℕ) → k ≤ n → places_moved (n - k) (F k) ≡ F n
once_more F moves k n le = sym (moves (n - k) k) ∙ ap F (let e : k + (n - k) ≡ n = omega (arith, le) in e)

-- the first of some copies
module _ (F : Placed) (k : ℕ) where
  pub some_copy : (i : ℕ) (xs : List Sides) → 1 ≤ i → xs ≡ map sides_of (copies F i k) → 0 < length xs
  some_copy zero xs l e = absurd (omega (arith, l))
  some_copy (suc i) xs l e = omega (arith, ap length e)

  pub first_copy : (i : ℕ) (xs : List Sides) (x : Sides) → 1 ≤ i → xs ≡ map sides_of (copies F i k) → x ≡ get_or xs 0 x → x ≡ sides_of (F k)
  first_copy zero xs x l e at = absurd (omega (arith, l))
  first_copy (suc i) xs x l e at = at ∙ ap (λ ys. get_or ys 0 x) e

  module _ (old mid now : List Way) (from end : ℕ) (some : mid ≡ old ++ (F k).follow) (start : from ≡ length old) (stop : end ≡ length mid) where
    size : end ≡ length old + length (F k).follow
    size = stop ∙ (ap length some ∙ length-append old (F k).follow)

    all : (i : ℕ) → 1 ≤ i → now ≡ old ++ follows (copies F i k) → (rest : List Way) × (now ≡ old ++ ((F k).follow ++ rest))
    all zero l e = absurd (omega (arith, l))
    all (suc i) l e = (follows (copies F i (k + (F k).count)), e)

    pub ways_within : (i : ℕ) → 1 ≤ i → now ≡ old ++ follows (copies F i k) → end ≤ length now
    ways_within i l e =
        let a = all i l e in
        omega (arith, size, ap length a.1, length-append old ((F k).follow ++ a.0), length-append (F k).follow a.0)

    pub first_ways : (i : ℕ) → 1 ≤ i → now ≡ old ++ follows (copies F i k) → take (end - from) (drop from now) ≡ (F k).follow
    first_ways i l e =
        let a = all i l e in
        let n : end - from ≡ length (F k).follow = omega (arith, size, start) in
        ap (λ m. take m (drop from now)) n
        ∙ (ap (λ m. take (length (F k).follow) (drop m now)) start
        ∙ (ap (λ ws. take (length (F k).follow) (drop (length old) ws)) a.1
        ∙ (ap (take (length (F k).follow)) (drop-append_seam old ((F k).follow ++ a.0))
        ∙ take-append_seam (F k).follow a.0)))

  -- its places
  pub first_below : (n : ℕ) (x : Sides) (ws : List Way) → LiesFrom k (F k) → n ≡ k + (F k).count → x ≡ sides_of (F k) → ws ≡ (F k).follow → LieBelow n x ws
  first_below n x ws lies at is are =
      let here : LieBelow (k + (F k).count) (sides_of (F k)) (F k).follow = record {
        firsts = λ e h. (lies.firsts e h).1;
        lasts = λ s h. (lies.lasts s h).1;
        froms = λ y h. (lies.froms y h).1;
        tos = λ y h. (lies.tos y h).1;
      } in
      rw at (rw is
      (rw are here))
