-- Rows that are being given.
use Rattle.std.proofs.Common.{◌≡◌, ℕ, ◌+◌, ◌-◌, ◌*◌, ◌<◌, ◌≤◌, eqb, Bool, true, false, List, [], ◌∷◌, ◌++◌, length, take, drop, refl, sym, ap, ◌∙◌, subst, arith, length-append, length-take}
use Rattle.std.proofs.Math.Nat.{add-mul}
use Rattle.std.proofs.lemmas.Bool.{eq-eqb, ne_eqb}
use Rattle.std.proofs.lemmas.List.{drop_all, take_all}
use Rattle.spanner_model.specs.Captures.{VarName}
use Rattle.spanner_model.specs.Answers.{SpanRow}
use Rattle.spanner_model.specs.declared.tested.Tested.{Tested}
use Rattle.spanner_engine.specs.Fitting.{FitsRow}
use Rattle.spanner_model.specs.Passing.{Check, passing}
use Rattle.spanner_engine.specs.Left.{EndsIn}
use Rattle.spanner_engine.specs.Trying.{IsNextPassing, trying_steps}
use Rattle.spanner_engine.proofs.PassingLaws.{next_passes}
use Rattle.spanner_library.specs.Cells.{row_cells, rows_cells}
use Rattle.spanner_library.specs.Library.{Given, PreparedQuery}
use Rattle.spanner_library.proofs.CellLaws.{behind_further, few_further, none_further, rest_further, room_further, rows_further}

-- so many rows were given so far
pub record Filling (checks : List Check) (names : List VarName) (d : List ℕ) (old now : List SpanRow) (before after : List ℕ) (most count : ℕ) : Type 0 where
  pub within : count ≤ most
  pub few : count ≤ length (passing checks names d old)
  pub left : passing checks names d now ≡ drop count (passing checks names d old)
  pub len : length after ≡ length before
  pub fewer : length now + count ≤ length old
  pub put : take (count * (2 * length names)) after ≡ rows_cells (take count (passing checks names d old))
  pub behind : drop (count * (2 * length names)) after ≡ drop (count * (2 * length names)) before

module _ (checks : List Check) (names : List VarName) (d : List ℕ) (old : List SpanRow) (before : List ℕ) (most : ℕ) where
  pub begins : Filling checks names d old old before before most 0
  begins =
      let none : 0 * (2 * length names) ≡ 0 = omega arith in
      record { within = omega arith; few = omega arith; left = refl; len = refl; fewer = omega arith; put = ap (λ (k : ℕ). take k before) none; behind = refl }

  module _ (now new : List SpanRow) (after then : List ℕ) (count : ℕ) (f : Filling checks names d old now before after most count) (row shown : SpanRow) (at : ℕ) (less : count < most)
      (n : IsNextPassing checks names d now row new) (fits : FitsRow (length names) (length d) row) (same : shown ≡ row) (place : at ≡ count * (2 * length names))
      (put : take (at + 2 * length shown) then ≡ take at after ++ row_cells shown) (behind : drop (at + 2 * length shown) then ≡ drop (at + 2 * length shown) after)
      (len : length then ≡ length after) where
    comes : drop count (passing checks names d old) ≡ row ∷ passing checks names d new
    comes = sym f.left ∙ next_passes checks names d now new row n

    unit : 2 * length shown ≡ 2 * length names
    unit = ap (λ (r : SpanRow). 2 * length r) same ∙ ap (λ (k : ℕ). 2 * k) fits.lengths

    next_place : (count + 1) * (2 * length names) ≡ at + 2 * length shown
    next_place =
        let one : (count + 1) * (2 * length names) ≡ count * (2 * length names) + 2 * length names = omega arith in
        omega (arith, one, place, unit)

    pub further : Filling checks names d old new before then most (count + 1)
    further = record {
      within = omega (arith, less);
      few = few_further (passing checks names d old) count row (passing checks names d new) comes;
      left = rest_further (passing checks names d old) count row (passing checks names d new) comes;
      len = len ∙ f.len;
      fewer = omega (arith, f.fewer, ap (λ (rows : List SpanRow). length rows) n.joined, length-append n.tried (row ∷ new));
      put = ap (λ (k : ℕ). take k then) next_place ∙ put ∙ ap (λ (k : ℕ). take k after ++ row_cells shown) place ∙ ap (λ (xs : List ℕ). xs ++ row_cells shown) f.put
          ∙ ap (λ (r : SpanRow). rows_cells (take count (passing checks names d old)) ++ row_cells r) same
          ∙ sym (rows_further (passing checks names d old) count row (passing checks names d new) comes);
      behind = behind_further before after then at (2 * length shown) ((count + 1) * (2 * length names)) next_place
          (ap (λ (k : ℕ). drop k after) place ∙ f.behind ∙ ap (λ (k : ℕ). drop k before) (sym place)) behind;
    }

  module _ (now new : List SpanRow) (after : List ℕ) (count : ℕ) (f : Filling checks names d old now before after most count) where
    -- as many as are wanted
    pub ends_full : most ≤ count → Given checks names d old now before after most count
    ends_full le =
        let same : count ≡ most = omega (arith, le, f.within) in
        record {
          counted = omega (arith, same, f.few, length-take most (passing checks names d old));
          cells = f.put ∙ ap (λ (k : ℕ). rows_cells (take k (passing checks names d old))) same;
          behind = f.behind;
          left = f.left ∙ ap (λ (k : ℕ). drop k (passing checks names d old)) same;
        }

    -- no more remain
    pub ends_none : passing checks names d now ≡ [] → passing checks names d new ≡ [] → Given checks names d old new before after most count
    ends_none none still =
        let all : length (passing checks names d old) ≤ count = none_further (passing checks names d old) count (sym f.left ∙ none) in
        let by_count : take count (passing checks names d old) ≡ passing checks names d old = take_all count (passing checks names d old) all in
        let by_most : take most (passing checks names d old) ≡ passing checks names d old = take_all most (passing checks names d old) (omega (arith, all, f.within)) in
        record {
          counted = omega (arith, f.few, all, ap (λ (rows : List SpanRow). length rows) by_most);
          cells = f.put ∙ ap rows_cells (by_count ∙ sym by_most);
          behind = f.behind;
          left = still ∙ sym (drop_all most (passing checks names d old) (omega (arith, all, f.within)));
        }

-- ---- the steps of trying answers

-- answers are tried one after another
tried_on : (v tests old now new : ℕ) (found : Bool) → now ≤ old → new ≤ now →
    trying_steps v tests (old - now) true + trying_steps v tests (now - new) found ≡ trying_steps v tests (old - new) found
tried_on v tests old now new found before after =
    let parts : (old - now) + (now - new) ≡ old - new = omega (arith, before, after) in
    let spread = add-mul (old - now) (now - new) (2 * v + tests) in
    let whole : ((old - now) + (now - new)) * (2 * v + tests) ≡ (old - new) * (2 * v + tests) = ap (λ (k : ℕ). k * (2 * v + tests)) parts in
    omega (arith, spread, whole)

-- further answers are tried
pub steps_on : (v tests at_v at_tests start here last : ℕ) (old now new : List SpanRow) (found : Bool) → at_v ≡ v → at_tests ≡ tests → length now ≤ length old → EndsIn now new →
    here ≤ start + trying_steps v tests (length old - length now) true → last ≤ here + trying_steps at_v at_tests (length now - length new) found →
    last ≤ start + trying_steps v tests (length old - length new) found
steps_on v tests at_v at_tests start here last old now new found same_v same_tests before (front, joined) so_far more =
    let after : length new ≤ length now = omega (arith, ap (λ (rows : List SpanRow). length rows) joined, length-append front new) in
    let both = tried_on v tests (length old) (length now) (length new) found before after in
    let more : last ≤ here + trying_steps v tests (length now - length new) found =
    subst (λ (k : ℕ). last ≤ here + trying_steps k tests (length now - length new) found) same_v
    (subst (λ (k : ℕ). last ≤ here + trying_steps at_v k (length now - length new) found) same_tests more) in
    omega (arith, both, so_far, more)

-- as many rows were found as are wanted, or fewer
pub steps_full : (v tests tried start last count most : ℕ) → count ≤ most → most ≤ count → last ≤ start + trying_steps v tests tried true →
    last ≤ start + trying_steps v tests tried (eqb count most)
steps_full v tests tried start last count most within full le =
    subst (λ (b : Bool). last ≤ start + trying_steps v tests tried b) (sym (eq-eqb count most (omega (arith, within, full)))) le

pub steps_short : (v tests tried start last count most : ℕ) → count < most → last ≤ start + trying_steps v tests tried false →
    last ≤ start + trying_steps v tests tried (eqb count most)
steps_short v tests tried start last count most less le =
    subst (λ (b : Bool). last ≤ start + trying_steps v tests tried b) (sym (ne_eqb count most (λ same. omega (arith, less, same)))) le

-- ---- room for a row more

pub room_here : (count most width names shown len first : ℕ) → count < most → most * (2 * names) ≤ first → len ≡ first → width ≡ names → shown ≡ names → count * (2 * width) + 2 * shown ≤ len
room_here count most width names shown len first less room same is fits =
    let place : count * (2 * width) ≡ count * (2 * names) = ap (λ (k : ℕ). count * (2 * k)) is in
    let h = room_further count most (2 * names) first less room in
    omega (arith, place, h, same, fits)

-- ---- what is said of the parts of a query

module _ (q : PreparedQuery) (t : Tested) (tests : List (List ℕ × ℕ)) (names : List VarName) (tested_is : t ≡ q.tested) (tests_are : tests ≡ q.tests) (names_are : names ≡ q.names)
    (P : Tested → List (List ℕ × ℕ) → List VarName → Type 0) where
  -- is said of the query
  pub of_query : P t tests names → P q.tested q.tests q.names
  of_query p =
      subst (λ (n : List VarName). P q.tested q.tests n) names_are
      (subst (λ (s : List (List ℕ × ℕ)). P q.tested s names) tests_are (subst (λ (u : Tested). P u tests names) tested_is p))

  -- and the other way round
  pub of_parts : P q.tested q.tests q.names → P t tests names
  of_parts p =
      subst (λ (u : Tested). P u tests names) (sym tested_is)
      (subst (λ (s : List (List ℕ × ℕ)). P q.tested s names) (sym tests_are) (subst (λ (n : List VarName). P q.tested q.tests n) (sym names_are) p))
