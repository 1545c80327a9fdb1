-- What a dense list tells: it stays true while the table grows, and more may be entered.
use Rattle.std.proofs.Common.{◌≡◌, ℕ, zero, suc, ◌+◌, ◌*◌, ◌-◌, ◌<◌, ◌≤◌, Bool, true, false, List, [], ◌∷◌, ◌++◌, length, set, take, replicate, Option, Some, None, inl, inr, refl, sym, ap, subst, arith, ◌∙◌, if◌then◌else◌}
use Rattle.std.specs.Prelude.{slice_get}
use Rattle.std.proofs.lemmas.Bool.{cases_eq}
use Rattle.std.proofs.lemmas.List.{take_all}
use Rattle.span_core.specs.Lists.{Has}
use Rattle.span_core.proofs.ListLaws.{get_set_same, zeros, either_part}
use Rattle.marked_automaton.proofs.Listed.{some_same}
use Rattle.automaton_reading.specs.Reading.{Reach, LookUp, byte_read, edges}
use Rattle.set_table.specs.Tabled.{Tabled, look_up, once_asked}
use Rattle.numbered_lists.specs.Numbered.{set_at}
use Rattle.set_table.proofs.OnceLaws.{holds_once, once_stay}
use Rattle.segment_filter.specs.Dense.{AreTold, GoesTo, target_told}
use Rattle.segment_filter.specs.Next.{IsNext, IsTarget}
use Rattle.segment_filter.specs.Sets.{Extends}
use Rattle.segment_filter.proofs.SetLaws.{grows_asked}

-- ---- a table that grows

target_grows : (new old : List (List ℕ)) → Extends new old → (rs : List Reach) (to : Option ℕ) → IsTarget old rs to → IsTarget new rs to
target_grows new old grew [] to is = is
target_grows new old grew (r ∷ rs) to is = (is.0, is.1, omega (arith, is.2, grew.0), grew.1 is.0 is.2 ∙ is.3)

-- the edges of a set that was there are the same
edges_kept : (old new : Tabled) (set b : ℕ) (to : Option ℕ) → new.graph ≡ old.graph → set_at old.sets set ≡ set_at new.sets set →
    IsTarget new.sets (edges old.graph (set_at old.sets set) (byte_read b)) to →
    IsNext new set b new.sets to
edges_kept old new set b to graph same next =
    rw (← same)
    (rw graph next)

-- where a set goes stays so
pub goes_still : (old new : Tabled) (r : LookUp) (set b : ℕ) (to : Option ℕ) → new ≡ once_asked old r → GoesTo old set b to → GoesTo new set b to
goes_still old new r set b to is goes =
    let h = holds_once old new r is in
    let grew = grows_asked new old r is in
    let same : set_at old.sets set ≡ set_at new.sets set = sym (grew.sets.1 set goes.given) in
    record {
      given = omega (arith, goes.given, grew.sets.0);
      asked = rw (← same) (once_stay old new r h (look_up old set (byte_read b)) goes.asked);
      next = edges_kept old new set b to h.graph same (target_grows new.sets old.sets grew.sets (edges old.graph (set_at old.sets set) (byte_read b)) to goes.next);
    }

pub told_still : (old new : Tabled) (r : LookUp) (entries : List ℕ) → new ≡ once_asked old r → AreTold old entries → AreTold new entries
told_still old new r entries is told set b e small at some = goes_still old new r set b (target_told e) is (told set b e small at some)

-- what was asked is known from then on
pub goes_there : (old new : Tabled) (set b : ℕ) (to : Option ℕ) → set < length old.sets → new ≡ once_asked old (look_up old set (byte_read b)) → IsNext old set b new.sets to → GoesTo new set b to
goes_there old new set b to given is next =
    let r = look_up old set (byte_read b) in
    let h = holds_once old new r is in
    let grew = grows_asked new old r is in
    let same : set_at old.sets set ≡ set_at new.sets set = sym (grew.sets.1 set given) in
    record {
      given = omega (arith, given, grew.sets.0);
      asked = rw (← same) h.holds;
      next = edges_kept old new set b to h.graph same next;
    }

-- ---- more entries, of which nothing is known

pub told_room : (t : Tabled) (entries later : List ℕ) (wanted n : ℕ) (ok : Bool) → later ≡ (if ok then take wanted entries ++ replicate (wanted - n) 0 else entries) →
    length entries ≤ wanted → AreTold t entries → AreTold t later
told_room t entries later wanted n false is more told = subst (AreTold t) (sym is) told
told_room t entries later wanted n true is more told = λ set b e small at some.
    let all : later ≡ entries ++ replicate (wanted - n) 0 = is ∙ ap (λ (xs : List ℕ). xs ++ replicate (wanted - n) 0) (take_all wanted entries more) in
    elim (either_part entries (replicate (wanted - n) 0) (256 * set + b) e (rw (← all) at)) as (λ _. GoesTo t set b (target_told e)) [
      | inl old ↦ told set b e small old some
      | inr new ↦ let none = zeros (wanted - n) new.0 e new.1 in absurd (omega (arith, none, some))
    ]

-- ---- one entry more

get_set_other : (xs : List ℕ) (i j x : ℕ) → (i ≡ j → ⊥) → slice_get (set xs i x) j ≡ slice_get xs j
get_set_other [] i j x ne = refl
get_set_other (y ∷ xs) zero zero x ne = absurd (ne refl)
get_set_other (y ∷ xs) zero (suc j) x ne = refl
get_set_other (y ∷ xs) (suc i) zero x ne = refl
get_set_other (y ∷ xs) (suc i) (suc j) x ne = get_set_other xs i j x (λ e. ne (ap suc e))

pub told_entry : (t : Tabled) (entries : List ℕ) (k b e at : ℕ) → b < 256 → at ≡ 256 * k + b → at < length entries → (0 < e → GoesTo t k b (target_told e)) → AreTold t entries →
    AreTold t (set entries at e)
told_entry t entries k b e at small is within entry told j c d less there some = elim (cases_eq at (256 * j + c)) as (λ _. GoesTo t j c (target_told d)) [
  | inl same ↦
      let here : slice_get (set entries at e) at ≡ Some d = rw (← same) at there in
      let value : e ≡ d = some_same e d (sym (get_set_same entries at e within) ∙ here) in
      let number : k ≡ j = omega (arith, small, less, is, same) in
      let byte : b ≡ c = omega (arith, small, less, is, same) in
      rw (← value)
      (rw (← byte) (rw (← number) (entry (omega (arith, value, some)))))
  | inr ne ↦ told j c d less (sym (get_set_other entries at (256 * j + c) e ne) ∙ there) some
]

-- ---- what an entry tells

pub told_none : (t : Tabled) (entries : List ℕ) → entries ≡ [] → AreTold t entries
told_none t entries is set b e small at some = absurd (let none : None ≡ Some e = sym (ap (λ (xs : List ℕ). slice_get xs (256 * set + b)) is) ∙ at in cc)

pub tells : (e k : ℕ) → e ≡ k + 2 → target_told e ≡ Some k
tells zero k is = absurd (omega (arith, is))
tells (suc zero) k is = absurd (omega (arith, is))
tells (suc (suc e)) k is = ap Some (let same : e ≡ k = omega (arith, is) in same)

pub tells_none : (e : ℕ) → e < 2 → target_told e ≡ None
tells_none zero less = refl
tells_none (suc zero) less = refl
tells_none (suc (suc e)) less = absurd (omega (arith, less))
