-- The parts that an atom's places read are those that its formula fits.
use Rattle.std.proofs.Common.{ℕ, suc, List, [], ◌∷◌, Bool, inl, inr, refl}
use Rattle.spanner_model.specs.Captures.{VarName, Captures}
use Rattle.spanner_model.specs.Fit.{Fit}
use Rattle.span_core.specs.Lists.{Has}
use Rattle.spanner_model.specs.Tree.{Tree}
use Rattle.spanner_model.specs.Expression.{AtomTree}
use Rattle.span_core.proofs.HasLaws.{Has-append_cases}
use Rattle.marked_automaton.specs.Automaton.{idle_way}
use Rattle.place_automaton.specs.Atom.{unless}
use Rattle.place_automaton.specs.Places.{Places, placed}
use Rattle.place_automaton.specs.Reads.{Shown}
use Rattle.spanner_model.specs.Sequential.{IsSequential}
use Rattle.place_automaton.specs.Repeats.{HasOrderedRepeats}
use Rattle.place_automaton.specs.Words.{atom_automaton, closing_of, opening_of}
use Rattle.place_automaton.proofs.AtomRuns.{after_there, idle_there}
use Rattle.place_automaton.proofs.FormulaShows.{shows_formula}
use Rattle.place_automaton.proofs.Ranges.{places_lie}
use Rattle.place_automaton.proofs.WholeLaws.{unless_cases}
use Rattle.segment_filter.specs.Idling.{HasIdleWays}
use Rattle.segment_filter.specs.Laws.{AtomAtMore, AtomAtTouched, AtomWaits}
use Rattle.segment_filter.specs.Touching.{IsTouchedBy}
use Rattle.segment_filter.proofs.AtomParts.{IsInPart, IsRead, places_wait}
use Rattle.segment_filter.proofs.GapReading.{waiting_law}
use Rattle.segment_filter.proofs.PassLaws.{passes_walk, walk_passes}

module _ (names : List VarName) (atom : AtomTree) where
  abbrev s : Bool
  s = atom.from_start

  abbrev t : Bool
  t = atom.to_end

  abbrev f : Tree
  f = atom.formula

  abbrev pub P : Places
  P = placed (opening_of names) (closing_of names) f 1

  module _ (seq : IsSequential f) (ord : HasOrderedRepeats f) (d : List ℕ) where
    pub read_fits : (a b : ℕ) → IsRead P d a b → (c : Captures) × Fit f d a b c
    read_fits a b (inl h) =
        let r = (shows_formula (opening_of names) (closing_of names) d f seq ord 1).null a h.1.0 h.1.1 in
        (r.0, rw (← h.0) r.1)
    read_fits a b (inr h) =
        let w = passes_walk P.follow d h.0 (suc a) h.1.to h.2.state h.7 in
        let r = (shows_formula (opening_of names) (closing_of names) d f seq ord 1).reads a h.0 h.1.marks w.0 h.2.marks (h.1, h.2, h.4, h.5, refl, h.6, w.1, refl) in
        (r.0, rw h.3 r.1)

    pub fits_read : (a b : ℕ) (c : Captures) → Fit f d a b c → IsRead P d a b
    fits_read a b c h = go ((shows_formula (opening_of names) (closing_of names) d f seq ord 1).shown a b c h)
      where
        go : {w : ℕ → ℕ} → Shown P d a b w → IsRead P d a b
        go {w} (inl k) = inl (k.0, (w a, k.1))
        go {w} (inr k) =
            let r = k.2 in
            inr (k.0, r.0, r.1, k.1, r.2, r.3, r.5, walk_passes P.follow d w k.0 (suc a) r.0.to r.1.state r.6)

    pub part_touched : (i : ℕ) → IsInPart s t P d i → IsTouchedBy atom d i
    part_touched i h = let c = read_fits h.0 h.1 h.2 in (h.0, h.1, c.0, c.1, h.3, h.4, h.5, h.6, h.7)

    pub touched_part : (i : ℕ) → IsTouchedBy atom d i → IsInPart s t P d i
    touched_part i h = (h.0, h.1, fits_read h.0 h.1 h.2 h.3, h.4, h.5, h.6, h.7, h.8)

  idle_ways : HasIdleWays (atom_automaton names atom)
  idle_ways p h =
      elim (Has-append_cases (unless s (0 ∷ [])) (unless t (suc P.count ∷ [])) p h) [
        | inl a ↦ let r = unless_cases s (0 ∷ []) p a in elim r.1 [
          | inl e ↦ rw (← e) (idle_there s t P (places_lie (opening_of names) (closing_of names) f 1) [] (λ i. 0) r.0)
          | inr b ↦ absurd b
        ]
        | inr a ↦ let r = unless_cases t (suc P.count ∷ []) p a in elim r.1 [
          | inl e ↦ rw (← e)
              (after_there s t P (places_lie (opening_of names) (closing_of names) f 1) [] (λ i. 0) r.0 (idle_way (suc P.count)) (inl refl))
          | inr b ↦ absurd b
        ]
      ]

pub atom_waits : AtomWaits
atom_waits names a seq ord d K has =
    places_wait a.from_start a.to_end (P names a) (places_lie (opening_of names) (closing_of names) a.formula 1) d K (λ i h. has i (part_touched names a seq ord d i h))

pub atom_at_more : AtomAtMore
atom_at_more names a seq ord d bytes K has =
    waiting_law (atom_automaton names a) (idle_ways names a) d bytes K (atom_waits names a seq ord d K has)

pub atom_at_touched : AtomAtTouched
atom_at_touched names a seq ord d bytes K is = atom_at_more names a seq ord d bytes K (λ i h. (is i).1 h)
