-- The bytes of a piece, one after another.
use Rattle.std.proofs.Common.{◌≡◌, ℕ, zero, suc, ◌+◌, ◌-◌, ◌<◌, ◌≤◌, true, List, [], ◌∷◌, ◌++◌, length, get_or, take, drop, inl, inr, refl, sym, ap, subst, arith, ◌∙◌}
use Rattle.std.specs.Prelude.{IsTrue, ◌&&◌}
use Rattle.std.specs.FinSet as bytes
use Rattle.std.specs.FinSet.{contains-intersection}
use Rattle.std.specs.Cmp.{nat_cmp_total}
use Rattle.std.proofs.lemmas.List.{length-drop, length-take-le, take-append-drop}
use Rattle.std.proofs.Math.Seq.{take-length}
use Rattle.span_core.specs.Lists.{Has}
use Rattle.span_core.proofs.HasLaws.{Has-take_more_cases}
use Rattle.marked_automaton.specs.Automaton.{ByteClass}
use Rattle.marked_automaton.proofs.Passing.{left_true, right_true}
use Rattle.set_table.specs.declared.fault.TableFault.{TableFault}
use Rattle.set_table.specs.Tabled.{Stays, Tabled}
use Rattle.output_graph.specs.Graph.{Source}
use Rattle.one_pass.specs.declared.pass.Pass.{Pass}
use Rattle.one_pass.specs.declared.known.Known.{Known}
use Rattle.one_pass.specs.declared.search.Search.{Search}
use Rattle.one_pass.specs.Ahead.{KnowsWaiting}
use Rattle.one_pass.specs.Known.{Knows}
use Rattle.one_pass.specs.Going.{GivesUp, GoesOn, IsAdvanced, PassReads, come}
use Rattle.one_pass.specs.Layers.{no_source, source_at}
use Rattle.one_pass.specs.Places.{ReadingPlace, byte_at, bytes_at}
use Rattle.one_pass.specs.Passes.{AllLeadBack}
use Rattle.one_pass.proofs.BackLaws.{back_read}
use Rattle.one_pass.proofs.Faulting.{bytes_append, bytes_more, bytes_split, read_none, ready_later}
use Rattle.one_pass.proofs.Goings.{both_reads, gives_up_before, then_gives_up}

-- none, but of whole layers something else is known, and something else is searched for
pub advanced_none : {t : Tabled} {p : Pass} {n : ℕ} {piece : List ℕ} {known : Known} {search : Search} → GoesOn t p → Knows t known → KnowsWaiting t.graph.ways search.ahead.waiting →
    IsAdvanced t p n piece 0 t (record { graph = p.graph; known = known; search = search; at = p.at }) n
advanced_none {t} {p} {n} goes knows waits = record {
  reads = record { read = read_none t.graph (come t p n); goes_on = record { ready = goes.ready; known = knows; waits = waits } };
  at = omega arith;
}

module _ {t0 : Tabled} {p0 : Pass} {n0 : ℕ} {piece : List ℕ} {i : ℕ} {t : Tabled} {p : Pass} {n : ℕ} (past : IsAdvanced t0 p0 n0 piece i t p n) where
  -- all have been read
  pub advanced_all : i ≡ length piece → PassReads (bytes_at p0.at piece) t0 p0 n0 t p n
  advanced_all full = subst (λ xs. PassReads (bytes_at p0.at xs) t0 p0 n0 t p n) (ap (λ j. take j piece) full ∙ take-length piece) past.reads

  -- something else is searched for
  pub advanced_so : {search : Search} → KnowsWaiting t.graph.ways search.ahead.waiting → IsAdvanced t0 p0 n0 piece i t (record { graph = p.graph; known = p.known; search = search; at = p.at }) n
  advanced_so waits = record {
    reads = record { read = past.reads.read; goes_on = record { ready = past.reads.goes_on.ready; known = past.reads.goes_on.known; waits = waits } };
    at = past.at;
  }

  module _ (within : i < length piece) where
    abbrev b : ℕ
    b = get_or piece i 0

    abbrev front : List ReadingPlace
    front = bytes_at p0.at (take i piece)

    abbrev here : List ReadingPlace
    here = byte_at (p0.at + i) b ∷ []

    -- one byte more has been read
    pub advanced_more : {u : Tabled} {q : Pass} {m : ℕ} → PassReads (byte_at p.at b ∷ []) t p n u q m → q.at ≡ p.at + 1 → IsAdvanced t0 p0 n0 piece (i + 1) u q m
    advanced_more {u} {q} {m} one next = record {
      reads =
          subst (λ ps. PassReads ps t0 p0 n0 u q m) (sym (bytes_more p0.at piece i within b refl))
          (both_reads front here past.reads (subst (λ j. PassReads (byte_at j b ∷ []) t p n u q m) past.at one));
      at = omega (arith, next, past.at);
    }

    -- it was given up
    pub advanced_gives_up : {u : Tabled} {m : ℕ} {e : TableFault} → GivesUp (byte_at p.at b ∷ []) t p n u m e → GivesUp (bytes_at p0.at piece) t0 p0 n0 u m e
    advanced_gives_up {u} {m} {e} up =
        subst (λ ps. GivesUp ps t0 p0 n0 u m e) (bytes_split p0.at piece i within b refl)
        (gives_up_before (front ++ here) (bytes_at (p0.at + i + 1) (drop (suc i) piece))
        (then_gives_up front here past.reads (subst (λ j. GivesUp (byte_at j b ∷ []) t p n u m e) past.at up)))

-- bytes over which each set of the layer leads back to itself
over_reads : {t : Tabled} {p : Pass} {n : ℕ} (d : List ℕ) (search : Search) → KnowsWaiting t.graph.ways search.ahead.waiting → GoesOn t p → AllLeadBack t p.graph d →
    PassReads (bytes_at p.at d) t p n t (record { graph = p.graph; known = p.known; search = search; at = p.at + length d }) n
over_reads {t} {p} {n} d search waits goes back = record {
  read = back_read (come t p n) p.at d back;
  goes_on = record { ready = ready_later (p.at + length d) goes.ready (omega arith); known = goes.known; waits = waits };
}

take_both : (i k : ℕ) (xs : List ℕ) → take i xs ++ take k (drop i xs) ≡ take (i + k) xs
take_both zero k xs = let e : k ≡ 0 + k = omega arith in ap (λ n. take n xs) e
take_both (suc i) zero [] = let e : suc i ≡ suc i + 0 = omega arith in ap (λ n. take n []) e
take_both (suc i) (suc k) [] = let e : suc (i + suc k) ≡ suc i + suc k = omega arith in ap (λ n. take n []) e
take_both (suc i) k (x ∷ xs) = let e : suc (i + k) ≡ suc i + k = omega arith in ap (λ ys. x ∷ ys) (take_both i k xs) ∙ ap (λ n. take n (x ∷ xs)) e

-- up to a later place, from which each set of the layer leads back to itself
pub advanced_over : {t0 : Tabled} {p0 : Pass} {n0 : ℕ} {piece : List ℕ} {i j : ℕ} {t : Tabled} {p q : Pass} {n : ℕ} → IsAdvanced t0 p0 n0 piece i t p n → i ≤ j → j ≤ length piece →
    AllLeadBack t p.graph (take (j - i) (drop i piece)) → q.graph ≡ p.graph → q.known ≡ p.known → q.at + i ≡ p.at + j →
    KnowsWaiting t.graph.ways q.search.ahead.waiting → IsAdvanced t0 p0 n0 piece j t q n
advanced_over {t0} {p0} {n0} {piece} {i} {j} {t} {p} {q} {n} past later within back graph known at waits =
    let d : List ℕ = take (j - i) (drop i piece) in
    let behind : length (drop i piece) ≡ length piece - i = length-drop i piece in
    let long : length d ≡ j - i = length-take-le (j - i) (drop i piece) (omega (arith, behind, later, within)) in
    let before : length (take i piece) ≡ i = length-take-le i piece (omega (arith, later, within)) in
    let up : i + (j - i) ≡ j = omega (arith, later) in
    let split : bytes_at p0.at (take j piece) ≡ bytes_at p0.at (take i piece) ++ bytes_at p.at d =
    ap (λ k. bytes_at p0.at (take k piece)) (sym up)
    ∙ (ap (bytes_at p0.at) (sym (take_both i (j - i) piece))
    ∙ (bytes_append p0.at (take i piece) d ∙ ap (λ k. bytes_at p0.at (take i piece) ++ bytes_at k d) (ap (λ k. p0.at + k) before ∙ sym past.at))) in
    let end : p.at + length d ≡ q.at = omega (arith, long, at, later) in
    record {
      reads =
          subst (λ ps. PassReads ps t0 p0 n0 t q n) (sym split)
          (both_reads (bytes_at p0.at (take i piece)) (bytes_at p.at d) past.reads
          (subst (λ g. PassReads (bytes_at p.at d) t p n t (record { graph = g; known = q.known; search = q.search; at = q.at }) n) (sym graph)
          (subst (λ k. PassReads (bytes_at p.at d) t p n t (record { graph = p.graph; known = k; search = q.search; at = q.at }) n) (sym known)
          (subst (λ k. PassReads (bytes_at p.at d) t p n t (record { graph = p.graph; known = p.known; search = q.search; at = k }) n) end (over_reads d q.search waits past.reads.goes_on back)))));
      at = omega (arith, at, past.at, later);
    }

-- some bytes behind those
pub advanced_on : {t0 : Tabled} {p0 : Pass} {n0 : ℕ} {piece : List ℕ} {i j : ℕ} {t u : Tabled} {p q : Pass} {n m : ℕ} → IsAdvanced t0 p0 n0 piece i t p n → i ≤ length piece →
    IsAdvanced t p n (drop i piece) j u q m → IsAdvanced t0 p0 n0 piece (i + j) u q m
advanced_on {t0} {p0} {n0} {piece} {i} {j} {t} {u} {p} {q} {n} {m} past within later =
    let d : List ℕ = take j (drop i piece) in
    let before : length (take i piece) ≡ i = length-take-le i piece within in
    let split : bytes_at p0.at (take (i + j) piece) ≡ bytes_at p0.at (take i piece) ++ bytes_at p.at d =
    ap (bytes_at p0.at) (sym (take_both i j piece))
    ∙ (bytes_append p0.at (take i piece) d ∙ ap (λ k. bytes_at p0.at (take i piece) ++ bytes_at k d) (ap (λ k. p0.at + k) before ∙ sym past.at)) in
    record {
      reads = subst (λ ps. PassReads ps t0 p0 n0 u q m) (sym split) (both_reads (bytes_at p0.at (take i piece)) (bytes_at p.at d) past.reads later.reads);
      at = omega (arith, past.at, later.at);
    }

-- or it was given up among them
pub advanced_stops : {t0 : Tabled} {p0 : Pass} {n0 : ℕ} {piece : List ℕ} {i : ℕ} {t u : Tabled} {p : Pass} {n m : ℕ} {e : TableFault} → IsAdvanced t0 p0 n0 piece i t p n → i ≤ length piece →
    GivesUp (bytes_at p.at (drop i piece)) t p n u m e → GivesUp (bytes_at p0.at piece) t0 p0 n0 u m e
advanced_stops {t0} {p0} {n0} {piece} {i} {t} {u} {p} {n} {m} {e} past within up =
    let before : length (take i piece) ≡ i = length-take-le i piece within in
    let split : bytes_at p0.at piece ≡ bytes_at p0.at (take i piece) ++ bytes_at p.at (drop i piece) =
    ap (bytes_at p0.at) (sym (take-append-drop i piece))
    ∙ (bytes_append p0.at (take i piece) (drop i piece) ∙ ap (λ k. bytes_at p0.at (take i piece) ++ bytes_at k (drop i piece)) (ap (λ k. p0.at + k) before ∙ sym past.at)) in
    subst (λ ps. GivesUp ps t0 p0 n0 u m e) (sym split) (then_gives_up (bytes_at p0.at (take i piece)) (bytes_at p.at (drop i piece)) past.reads up)

-- ---- which bytes change nothing

-- one set more stays on them
pub stay_more : (t : Tabled) (layer : List Source) (k : ℕ) (all one : ByteClass) → k < length layer → (set : ℕ) → set ≡ (source_at layer k).set →
    ((b : ℕ) → b < 256 → IsTrue (bytes.contains all b) → (x : Source) → Has (take k layer) x → Stays t x.set b) →
    ((b : ℕ) → b < 256 → IsTrue (bytes.contains one b) → Stays t set b) →
    (b : ℕ) → b < 256 → IsTrue (bytes.contains (bytes.intersection all one) b) → (x : Source) → Has (take (k + 1) layer) x → Stays t x.set b
stay_more t layer k all one within set is before now b small h x there =
    let both : (bytes.contains all b && bytes.contains one b) ≡ true = sym (contains-intersection nat_cmp_total all one b) ∙ h in
    elim (Has-take_more_cases layer k no_source x within there) as (λ _. Stays t x.set b) [
      | inl old ↦ before b small (left_true (bytes.contains all b) (bytes.contains one b) both) x old
      | inr e ↦ subst (λ s. Stays t s b) (is ∙ ap (λ (y : Source). y.set) e) (now b small (right_true (bytes.contains all b) (bytes.contains one b) both))
    ]
