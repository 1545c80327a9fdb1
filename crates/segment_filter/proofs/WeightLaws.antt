-- What a table has that a document is read by is no more than what the reading comes to.
use Rattle.std.proofs.Common.{◌≡◌, ℕ, zero, suc, ◌+◌, ◌*◌, ◌<◌, ◌≤◌, List, [], ◌∷◌, Bool, true, false, Option, Some, None, map, length, length-append, inl, inr, refl, sym, ap, subst, arith, ◌∙◌}
use Rattle.std.specs.Prelude.{slice_get, if◌then◌else◌}
use Rattle.std.specs.List.{flat_map, sum_by}
use Rattle.std.specs.Option.{unwrap_or}
use Rattle.std.specs.Str.{bytes_eq}
use Rattle.std.proofs.Math.Nat.{mul-le-mul_left}
use Rattle.span_core.specs.Lists.{AreDistinct, Has}
use Rattle.span_core.proofs.HasLaws.{Has-append_left, Has-append_right, Has-map, Has-map_cases}
use Rattle.marked_automaton.specs.Automaton.{Automaton, size}
use Rattle.marked_automaton.proofs.Listed.{some_same}
use Rattle.marked_automaton.proofs.Passing.{has_flat_map}
use Rattle.automaton_reading.specs.Reading.{Question, Reach, LookUp, byte_read, edges, next_sets, once, look_up_edges, look_up_same, look_ups_asked, set_of}
use Rattle.automaton_reading.proofs.Matching.{length_sum, match_sum, once_has}
use Rattle.automaton_reading.proofs.MeasureLaws.{bytes_itself, look_up_itself, same_bytes, same_look_up}
use Rattle.segment_filter.specs.declared.fault.FilterFault.{FilterFault}
use Rattle.segment_filter.specs.declared.fault.FilterFault.TheVariants.{Full, OutOfMemory}
use Rattle.segment_filter.specs.Sets.{IsFullBy, TakesNone}
use Rattle.segment_filter.specs.Next.{IsNext, IsTarget}
use Rattle.set_table.specs.Tabled.{IsTabled, Tabled, asked_first, fresh, look_up, look_ups_weight, once_asked, reached, sets_weight, was_asked, weight}
use Rattle.numbered_lists.specs.Numbered.{set_at}
use Rattle.set_table.proofs.OnceLaws.{holds_once, once_asked_apart, once_was}
use Rattle.segment_filter.specs.Weights.{IsFullWithin, bytes_read, reading_look_ups, reading_weight, sets_asked, sets_read}
use Rattle.segment_filter.proofs.Holding.{HoldsAll, IsHolding, holding_all, holding_ends, holding_next, holding_starts, weight_no_less}

-- ---- what is met, place by place

module _ (A : Automaton) where
  -- the set is reached after so many places
  abbrev pub IsMet : List (List ℕ) → List Question → ℕ → List ℕ → Type 0
  IsMet sets asks zero set = Has sets set
  IsMet sets [] (suc k) set = ⊥
  IsMet sets (a ∷ later) (suc k) set = IsMet (next_sets A sets a) later k set

  met_set : (sets : List (List ℕ)) (asks : List Question) (k : ℕ) (set : List ℕ) → IsMet sets asks k set → Has (sets_asked A sets asks) set
  met_set sets [] zero set h = h
  met_set sets (a ∷ later) zero set h = Has-append_left sets (sets_asked A (next_sets A sets a) later) set h
  met_set sets [] (suc k) set h = absurd h
  met_set sets (a ∷ later) (suc k) set h = Has-append_right sets (sets_asked A (next_sets A sets a) later) set (met_set (next_sets A sets a) later k set h)

  abbrev look_up_of : Question → List ℕ → LookUp
  look_up_of a set = record { set = set; ask = a }

  met_look_up : (sets : List (List ℕ)) (asks : List Question) (k : ℕ) (set : List ℕ) (a : Question) → IsMet sets asks k set → slice_get asks k ≡ Some a →
      Has (look_ups_asked A sets asks) (look_up_of a set)
  met_look_up sets [] k set a h e = absurd (cc)
  met_look_up sets (b ∷ later) zero set a h e =
      let same : b ≡ a = ap (λ o. unwrap_or o b) e in
      rw (← same)
      (Has-append_left (map (look_up_of b) sets) (look_ups_asked A (next_sets A sets b) later) (look_up_of b set) (Has-map (look_up_of b) sets set h))
  met_look_up sets (b ∷ later) (suc k) set a h e =
      Has-append_right (map (look_up_of b) sets) (look_ups_asked A (next_sets A sets b) later) (look_up_of a set) (met_look_up (next_sets A sets b) later k set a h e)

  met_next : (sets : List (List ℕ)) (asks : List Question) (k : ℕ) (set : List ℕ) (a : Question) (e : Reach) → IsMet sets asks k set → slice_get asks k ≡ Some a →
      Has (edges A set a) e → IsMet sets asks (suc k) e.to
  met_next sets [] k set a e h at m = absurd (cc)
  met_next sets (b ∷ later) zero set a e h at m =
      let same : b ≡ a = ap (λ o. unwrap_or o b) at in
      once_has bytes_eq same_bytes bytes_itself (flat_map (λ set. map (λ (x : Reach). x.to) (edges A set b)) sets) e.to
      (has_flat_map (λ set. map (λ (x : Reach). x.to) (edges A set b)) sets set e.to h (Has-map (λ (x : Reach). x.to) (edges A set b) e (rw same m)))
  met_next sets (b ∷ later) (suc k) set a e h at m = met_next (next_sets A sets b) later k set a e h at m

-- ---- tables

abbrev pub starting : Automaton → List (List ℕ)
starting A = set_of A.starts ∷ []

-- the sets and look-ups of a table are those of a reading
pub record IsWithin (A : Automaton) (d : List ℕ) (t : Tabled) : Type 0 where
  pub graph : t.graph ≡ A
  pub sets : (set : List ℕ) → Has t.sets set → Has (sets_read A d) set
  pub look_ups : (r : LookUp) → Has t.look_ups r → Has (bytes_read A d) r
  pub sets_apart : AreDistinct t.sets
  pub asked_apart : AreDistinct t.look_ups

module _ (A : Automaton) (d : List ℕ) (t : Tabled) (h : IsWithin A d t) where
  sets_no_more : sets_weight t.sets ≤ sum_by (λ set. 1 + length set) (once bytes_eq (sets_read A d))
  sets_no_more =
      match_sum (λ (x y : List ℕ). x ≡ y) (λ set. 1 + length set) (λ set. 1 + length set) t.sets (once bytes_eq (sets_read A d)) h.sets_apart
      (λ x m. (x, once_has bytes_eq same_bytes bytes_itself (sets_read A d) x (h.sets x m), refl, omega arith)) (λ x z y a b. a ∙ sym b)

  look_ups_sum : (v : LookUp → ℕ) → sum_by v t.look_ups ≤ sum_by v (once look_up_same (bytes_read A d))
  look_ups_sum v =
      match_sum (λ (x y : LookUp). x ≡ y) v v t.look_ups (once look_up_same (bytes_read A d)) h.asked_apart
      (λ x m. (x, once_has look_up_same same_look_up look_up_itself (bytes_read A d) x (h.look_ups x m), refl, omega arith)) (λ x z y a b. a ∙ sym b)

  pub weight_no_more : weight t ≤ reading_weight A d
  weight_no_more =
      let look_ups = look_ups_sum (λ r. 1 + look_up_edges A r) in
      let same = ap (λ (g : Automaton). look_ups_weight g t.look_ups) h.graph in
      omega (arith, sets_no_more, look_ups, same)

  pub look_ups_no_more : length t.look_ups ≤ reading_look_ups A d
  look_ups_no_more = let look_ups = look_ups_sum (λ r. 1) in omega (arith, look_ups, length_sum t.look_ups, length_sum (once look_up_same (bytes_read A d)))

-- ---- one look-up more

asks_at : (d : List ℕ) (k b : ℕ) → slice_get d k ≡ Some b → slice_get (map byte_read d) k ≡ Some (byte_read b)
asks_at [] k b e = absurd (cc)
asks_at (c ∷ d) zero b e = ap (λ o. Some (byte_read (unwrap_or o b))) e
asks_at (c ∷ d) (suc k) b e = asks_at d k b e

pub within_fresh : (t : Tabled) (d : List ℕ) → t ≡ fresh t.graph t.limit → IsWithin t.graph d t
within_fresh t d is = rw is (record {
  graph = refl;
  sets = λ set h. met_set t.graph (starting t.graph) (map byte_read d) 0 set h;
  look_ups = λ r h. absurd h;
  sets_apart = (λ h. h, tt);
  asked_apart = tt;
})

pub met_fresh : (t : Tabled) (d : List ℕ) (j : ℕ) → t ≡ fresh t.graph t.limit → j ≡ 0 → IsMet t.graph (starting t.graph) (map byte_read d) 0 (set_at t.sets j)
met_fresh t d j is e =
    rw e
    (inl (sym (ap (λ (x : Tabled). set_at x.sets 0) is)))

-- a set of a table that is met at the place k is asked for the byte there
module _ (A : Automaton) (d : List ℕ) (t : Tabled) (k j b : ℕ) (h : IsWithin A d t) (met : IsMet A (starting A) (map byte_read d) k (set_at t.sets j))
    (below : j < length t.sets) (at : slice_get d k ≡ Some b) where
  abbrev r : LookUp
  r = look_up t j (byte_read b)

  new_set : (set : List ℕ) → Has (reached t.graph (set_at t.sets j) (byte_read b)) set → Has (sets_read A d) set
  new_set set n =
      let e = Has-map_cases (λ (x : Reach). x.to) (edges t.graph (set_at t.sets j) (byte_read b)) set n in
      subst (Has (sets_read A d)) e.2
      (met_set A (starting A) (map byte_read d) (suc k) e.0.to
      (met_next A (starting A) (map byte_read d) k (set_at t.sets j) (byte_read b) e.0 met (asks_at d k b at)
      (rw (← h.graph) e.1)))

  new_look_up : Has (bytes_read A d) r
  new_look_up = met_look_up A (starting A) (map byte_read d) k (set_at t.sets j) (byte_read b) met (asks_at d k b at)

  pub within_next : (new : Tabled) → new ≡ once_asked t r → IsWithin A d new
  within_next new is =
      let kept = holds_once t new r is in
      record {
        graph = kept.graph ∙ h.graph;
        sets = λ set m. elim (kept.sets set m) as (λ _. Has (sets_read A d) set) [ inl o ↦ h.sets set o | inr n ↦ new_set set n ];
        look_ups = λ x m. elim (once_was t new r kept x m) as (λ _. Has (bytes_read A d) x) [ inl o ↦ h.look_ups x o | inr e ↦ subst (Has (bytes_read A d)) e new_look_up ];
        sets_apart = kept.apart h.sets_apart;
        asked_apart = once_asked_apart t new r kept h.asked_apart;
      }

  -- the set that it leads to is met next
  pub met_then : (sets : List (List ℕ)) (next : Option ℕ) (to : ℕ) → IsNext t j b sets next → next ≡ Some to →
      IsMet A (starting A) (map byte_read d) (k + 1) (set_at sets to)
  met_then sets next to go e = by (edges t.graph (set_at t.sets j) (byte_read b)) refl go
    where
      by : (es : List Reach) → edges t.graph (set_at t.sets j) (byte_read b) ≡ es → IsTarget sets es next → IsMet A (starting A) (map byte_read d) (k + 1) (set_at sets to)
      by [] is none = let f = none in absurd (cc)
      by (x ∷ es) is t2 =
          let same : t2.0 ≡ to = some_same t2.0 to (sym t2.1 ∙ e) in
          let there : Has (edges A (set_at t.sets j) (byte_read b)) x =
          rw (← h.graph) (rw is (inl refl)) in
          let more : suc k ≡ k + 1 = omega arith in
          subst (IsMet A (starting A) (map byte_read d) (k + 1)) (sym (ap (set_at sets) (sym same) ∙ t2.3))
          (rw (← more)
          (met_next A (starting A) (map byte_read d) k (set_at t.sets j) (byte_read b) x met (asks_at d k b at) there))

  -- what was not asked before
  within_first : was_asked t r ≡ false → IsWithin A d (asked_first t r)
  within_first none = rw (← (ap (λ (w : Bool). if w then t else asked_first t r) none)) (within_next (once_asked t r) refl)

  pub full_within : (e : FilterFault) → IsFullBy t r e → IsFullWithin t.limit (reading_weight A d) e
  full_within (Full w) f = (f.1, let m = weight_no_more A d (asked_first t r) (within_first f.0) in omega (arith, f.2, m))
  full_within OutOfMemory f = tt

  -- the steps of one asking, with as many times the size as look-ups are there
  module _ (s0 s1 : ℕ) (again : was_asked t r ≡ true → s1 ≡ s0 + 1) (most : s1 ≤ s0 + 1 + size t.graph) where
    abbrev Z : ℕ
    Z = size A

    size_same : size t.graph ≡ Z
    size_same = ap size h.graph

    first_count : Z * length (asked_first t r).look_ups ≡ Z * (length t.look_ups + 1)
    first_count = ap (λ n. Z * n) (length-append t.look_ups (r ∷ []))

    pub steps_next : (new : Tabled) → new ≡ once_asked t r → s1 + Z * length t.look_ups ≤ s0 + 1 + Z * length new.look_ups
    steps_next new is = rw is (go (was_asked t r) refl)
      where
        go : (w : Bool) → was_asked t r ≡ w → s1 + Z * length t.look_ups ≤ s0 + 1 + Z * length (if w then t else asked_first t r).look_ups
        go true e = omega (arith, again e)
        go false e = omega (arith, most, size_same, first_count)

    pub steps_refused : s1 + Z * length t.look_ups ≤ s0 + 1 + Z * reading_look_ups A d
    steps_refused = go (was_asked t r) refl
      where
        go : (w : Bool) → was_asked t r ≡ w → s1 + Z * length t.look_ups ≤ s0 + 1 + Z * reading_look_ups A d
        go true e = let m = mul-le-mul_left Z (look_ups_no_more A d t h) in omega (arith, again e, m)
        go false e =
            let m = mul-le-mul_left Z (look_ups_no_more A d (asked_first t r) (within_first e)) in
            omega (arith, most, size_same, first_count, m)

-- ---- a document that is read

-- with a table that was `first`, before k bytes: the set j is the one that is reached, after so many steps
pub record IsReading (first t : Tabled) (d : List ℕ) (k j s0 s : ℕ) : Type 0 where
  pub within : IsWithin first.graph d t
  pub met : IsMet first.graph (starting first.graph) (map byte_read d) k (set_at t.sets j)
  pub below : j < length t.sets
  pub limit : t.limit ≡ first.limit
  pub light : weight t ≤ first.limit
  pub holds : IsHolding first.graph d t k (set_at t.sets j)
  pub steps : s ≤ s0 + k + size first.graph * length t.look_ups

pub reading_starts : (t : Tabled) (d : List ℕ) (j s : ℕ) → t ≡ fresh t.graph t.limit → j ≡ 0 → IsTabled t → IsReading t t d 0 j s s
reading_starts t d j s is e tabled = record {
  within = within_fresh t d is;
  met = met_fresh t d j is e;
  below = let l : length t.sets ≡ 1 = ap (λ (x : Tabled). length x.sets) is in omega (arith, l, e);
  limit = refl;
  light = tabled.within;
  holds = holding_starts t.graph d t (set_at t.sets j) (ap (set_at t.sets) e ∙ ap (λ (x : Tabled). set_at x.sets 0) is);
  steps = omega arith;
}

-- the table weighs what the reading does, which is no more than the limit
abbrev pub WeighsAll : Tabled → List ℕ → Tabled → Type 0
WeighsAll first d t = (weight t ≡ reading_weight first.graph d) × (reading_weight first.graph d ≤ first.limit)

weighs_all : (first : Tabled) (d : List ℕ) (t : Tabled) → IsWithin first.graph d t → HoldsAll first.graph d t → weight t ≤ first.limit → WeighsAll first d t
weighs_all first d t within holds light =
    let most = weight_no_more first.graph d t within in
    let least = weight_no_less first.graph d t within.graph holds in
    (omega (arith, most, least), omega (arith, least, light))

module _ (first t : Tabled) (d : List ℕ) (k j s0 s : ℕ) (h : IsReading first t d k j s0 s) where
  -- all bytes were read
  pub reading_weighs : k ≡ length d → WeighsAll first d t
  reading_weighs end = weighs_all first d t h.within (holding_all first.graph d t k j h.holds h.below end) h.light

  pub reading_steps : (n : ℕ) → k ≤ n → s ≤ s0 + n + size first.graph * reading_look_ups first.graph d
  reading_steps n l =
      let m = mul-le-mul_left (size first.graph) (look_ups_no_more first.graph d t h.within) in
      omega (arith, h.steps, m, l)

  -- one byte more
  module _ (b s1 : ℕ) (at : slice_get d k ≡ Some b) (again : was_asked t (look_up t j (byte_read b)) ≡ true → s1 ≡ s + 1) (most : s1 ≤ s + 1 + size t.graph) where
    module _ (new : Tabled) (is : new ≡ once_asked t (look_up t j (byte_read b))) where
      within_new : IsWithin first.graph d new
      within_new = within_next first.graph d t k j b h.within h.met h.below at new is

      steps_new : s1 ≤ s0 + (k + 1) + size first.graph * length new.look_ups
      steps_new = let m = steps_next first.graph d t k j b h.within h.met h.below at s s1 again most new is in omega (arith, h.steps, m)

      limit_new : new.limit ≡ first.limit
      limit_new = (holds_once t new (look_up t j (byte_read b)) is).limit ∙ h.limit

      light_new : IsTabled new → weight new ≤ first.limit
      light_new tabled = rw (← limit_new) tabled.within

      pub reading_next : (next : Option ℕ) (to : ℕ) → IsNext t j b new.sets next → to < length new.sets → next ≡ Some to → TakesNone first.graph → IsTabled new →
          IsReading first new d (k + 1) to s0 s1
      reading_next next to go l e none tabled = record {
        within = within_new;
        met = met_then first.graph d t k j b h.within h.met h.below at new.sets next to go e;
        below = l;
        limit = limit_new;
        light = light_new tabled;
        holds = holding_next first.graph d t new k j b h.holds h.within.graph none h.below at is next go to e;
        steps = steps_new;
      }

      -- it leads to no set
      pub reading_stops : (next : Option ℕ) → IsNext t j b new.sets next → next ≡ None → TakesNone first.graph → IsTabled new → WeighsAll first d new
      reading_stops next go e none tabled =
          weighs_all first d new within_new (holding_ends first.graph d t new k j b h.holds h.within.graph none h.below at is next go e) (light_new tabled)

      pub reading_ends : (n : ℕ) → k < n → (weight new ≤ reading_weight first.graph d) × (s1 ≤ s0 + n + size first.graph * reading_look_ups first.graph d)
      reading_ends n l =
          let m = mul-le-mul_left (size first.graph) (look_ups_no_more first.graph d new within_new) in
          (weight_no_more first.graph d new within_new, omega (arith, steps_new, m, l))

    pub reading_refused : (e : FilterFault) → IsFullBy t (look_up t j (byte_read b)) e → IsFullWithin first.limit (reading_weight first.graph d) e
    reading_refused e f = rw (← h.limit) (full_within first.graph d t k j b h.within h.met h.below at e f)

    pub refused_steps : (n : ℕ) → k < n → s1 ≤ s0 + n + size first.graph * reading_look_ups first.graph d
    refused_steps n l = let m = steps_refused first.graph d t k j b h.within h.met h.below at s s1 again most in omega (arith, h.steps, m, l)

pub fresh_weighs : (A : Automaton) (limit : ℕ) (d : List ℕ) → weight (fresh A limit) ≤ reading_weight A d
fresh_weighs A limit d = weight_no_more A d (fresh A limit) (within_fresh (fresh A limit) d refl)

pub full_wider : (limit a b : ℕ) (e : FilterFault) → a ≤ b → IsFullWithin limit a e → IsFullWithin limit b e
full_wider limit a b (Full w) l f = (f.0, omega (arith, f.1, l))
full_wider limit a b OutOfMemory l f = tt
