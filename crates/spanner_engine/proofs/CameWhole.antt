-- Reading a document as it comes is reading it whole.
use Rattle.std.proofs.Common.{Fits, w8, slice_index_or, ◌<◌, ◌^◌, inl, inr, ◌≡◌, ℕ, suc, ◌+◌, ◌*◌, ◌≤◌, Bool, true, false, List, [], ◌∷◌, ◌++◌, length, length-append, sym, ap, subst, arith, ◌∙◌, append_assoc, refl}
use Rattle.std.proofs.lemmas.List.{append-nil}
use Rattle.std.specs.Prelude.{if◌then◌else◌, ◌||◌}
use Rattle.marked_automaton.specs.Automaton.{Automaton}
use Rattle.automaton_reading.specs.Reading.{edges_K, ended, look_ups_asked}
use Rattle.set_table.specs.Tabled.{IsRefusal, Tabled, fresh}
use Rattle.set_table.specs.declared.fault.TableFault.{TableFault}
use Rattle.set_table.specs.declared.fault.TableFault.TheVariants.{Full, OutOfMemory}
use Rattle.output_graph.specs.Listed.{Lists}
use Rattle.output_graph.specs.Rows.{rows}
use Rattle.one_pass.specs.Builds.{IsNew, build}
use Rattle.one_pass.specs.Faults.{IsFaultAt, IsFaultOf, IsReadFault}
use Rattle.one_pass.specs.Passes.{HasEnded, HasRead, HasStopped, HasStoppedAt, Progress, Stop, pass, sets_of, stop}
use Rattle.one_pass.specs.Places.{ReadingPlace, asks, byte_at, bytes_at, end_at, places, rest_at, sets_met}
use Rattle.one_pass.specs.Readings.{HasBegun, HasReadOn, IsGivenUpAt, come_to}
use Rattle.one_pass.specs.SoFar.{SoFar}
use Rattle.one_pass.specs.Weights.{WeighsWithin, least_weight}
use Rattle.one_pass.proofs.Composing.{excess_grown, look_ups_first, look_ups_then, ready_distinct, stopped_at}
use Rattle.one_pass.proofs.Faulting.{both_read, bytes_append, fault_before, read_none, then_fault, then_stopped}
use Rattle.one_pass.proofs.ReadLaws.{words_listed}
use Rattle.one_pass.proofs.Weighing.{told_weighs}
use Rattle.one_pass.proofs.Whole.{excess_weight, front_sets, look_ups_of_front, stopped_steps, tabled_start, whole_cells, whole_steps, whole_tells, whole_words}
use Rattle.spanner_engine.specs.Coming.{AreListsOf, HasReadAll, IsEndedThere, IsGivenUpAtEnd, IsRefusedFor, IsWhole}
use Rattle.span_core.specs.Lists.{Has}
use Rattle.span_core.proofs.HasLaws.{Has-append_cases, Has-slice_get, place_of-Has}
use Rattle.place_automaton.specs.Atom.{AreBytes}
use Rattle.spanner_engine.specs.Stages.{IsTakenBy}
use Rattle.spanner_engine.specs.declared.coming.Going.{Going as Going_type}
use Rattle.spanner_engine.specs.declared.coming.Stage.{Stage}
use Rattle.spanner_engine.specs.declared.coming.Stage.TheVariants.{Going, Refused, Past}
use Rattle.spanner_engine.proofs.FromWords.{bytes_of}
use Rattle.spanner_engine.proofs.Starting.{start_fault}

no_false : {X : Type 0} → false ≡ true → X
no_false e = absurd (no e)
  where
    no : false ≡ true → ⊥
    no h = cc

-- where each position is read, the places are the bytes and the end
pub all_places : (K : ℕ → Bool) (d : List ℕ) (i : ℕ) → ((j : ℕ) → j ≤ i + length d → K j ≡ true) → bytes_at i d ++ end_at (i + length d) ∷ [] ≡ places K d i false
all_places K [] i k = go (K i) (k i (omega arith))
  where
    go : (c : Bool) → c ≡ true → end_at (i + 0) ∷ [] ≡ (if c || false then end_at i ∷ [] else rest_at i ∷ end_at i ∷ [])
    go true is = let e : i + 0 ≡ i = omega arith in ap (λ j. end_at j ∷ []) e
    go false is = no_false is
all_places K (b ∷ d) i k = go (all_places K d (suc i) (λ j le. k j (omega (arith, le)))) (K i) (k i (omega arith))
  where
    go : bytes_at (suc i) d ++ end_at (suc i + length d) ∷ [] ≡ places K d (suc i) false → (c : Bool) → c ≡ true →
        byte_at i b ∷ (bytes_at (suc i) d ++ end_at (i + suc (length d)) ∷ []) ≡ (if c then byte_at i b ∷ places K d (suc i) false else rest_at i ∷ places K d (suc i) true)
    go later true is =
        let e : i + suc (length d) ≡ suc i + length d = omega arith in
        ap (λ ps. byte_at i b ∷ ps) (ap (λ j. bytes_at (suc i) d ++ end_at j ∷ []) e ∙ later)
    go later false is = no_false is

pub whole_places : (d : List ℕ) (K : ℕ → Bool) → IsWhole d K → bytes_at 0 d ++ end_at (length d) ∷ [] ≡ places K d 0 false
whole_places d K whole =
    let e : length d ≡ 0 + length d = omega arith in
    ap (λ j. bytes_at 0 d ++ end_at j ∷ []) e ∙ all_places K d 0 (λ j le. (whole j).1 (omega (arith, le)))

-- whatever comes then
pub refused_more : {A : Automaton} {limit before n : ℕ} {e : TableFault} (d piece : List ℕ) → IsRefusedFor A limit before d n e → IsRefusedFor A limit before (d ++ piece) n e
refused_more {A} {limit} {before} {n} {e} d piece up = record {
  steps = λ more K whole.
      let is = append_assoc d piece more in
      subst (λ x. n ≤ before + build A x K) (sym is) (up.steps (piece ++ more) K (subst (λ x. IsWhole x K) is whole));
  cause = λ more K whole.
      let is = append_assoc d piece more in
      subst (λ x. IsReadFault A K x limit e) (sym is) (up.cause (piece ++ more) K (subst (λ x. IsWhole x K) is whole));
}

-- ---- of a table that was new

module _ {A : Automaton} {limit : ℕ} (before : ℕ) {first : SoFar} {start : ℕ} (begun : HasBegun A limit (before + 1) first start) where
  abbrev P : Progress
  P = come_to first start

  new : IsNew first.table.graph first.table
  new = record { graph = refl; sets = sets_are; look_ups = ap (λ (t : Tabled). t.look_ups) begun.table }
    where
      sets_are : first.table.sets ≡ (fresh first.table.graph limit).sets
      sets_are = ap (λ (t : Tabled). t.sets) begun.table ∙ ap (λ (B : Automaton). (fresh B limit).sets) (sym (ap (λ (t : Tabled). t.graph) begun.table))

  -- said of its automaton and its limit
  of_fresh : (F : Automaton → ℕ → Type 0) → F first.table.graph first.table.limit → F A limit
  of_fresh F = subst (λ (t : Tabled). F t.graph t.limit) begun.table

  module _ (d : List ℕ) (K : ℕ → Bool) (whole : IsWhole d K) where
    fault_whole : (e : TableFault) → IsFaultAt (bytes_at 0 d) P e → IsReadFault A K d limit e
    fault_whole OutOfMemory x = tt
    fault_whole (Full weight) x =
        of_fresh (λ B l. IsReadFault B K d l (Full weight))
        (excess_weight first.table.graph K d P refl (tabled_start first.table begun.ready.sound) (before + 1) begun.started new
        (sets_met first.table.graph (sets_of P) (asks (bytes_at 0 d))) (look_ups_asked first.table.graph (sets_of P) (asks (bytes_at 0 d))) weight x
        (front_sets first.table.graph K d P refl (tabled_start first.table begun.ready.sound) (before + 1) begun.started (bytes_at 0 d) (end_at (length d)) [] (whole_places d K whole))
        (look_ups_of_front first.table.graph K d P refl (tabled_start first.table begun.ready.sound) (before + 1) begun.started (bytes_at 0 d) (end_at (length d) ∷ []) (whole_places d K whole)))

    stopped_whole : (ps rest : List ReadingPlace) (S : Stop) → ps ++ rest ≡ places K d 0 false → HasStopped first.table.graph ps P S → S.steps ≤ before + build A d K
    stopped_whole ps rest S is s =
        of_fresh (λ B l. S.steps ≤ before + build B d K)
        (let most = stopped_steps first.table.graph K d P refl (tabled_start first.table begun.ready.sound) (before + 1) begun.started ps rest is S s in omega (arith, most))

-- ---- of what was read so far

module _ {A : Automaton} {limit before : ℕ} {d : List ℕ} {r : SoFar} {n : ℕ} (h : HasReadAll A limit before d r n) where
  abbrev Q : Progress
  Q = come_to r n

  here : (piece : List ℕ) → bytes_at 0 (d ++ piece) ≡ bytes_at 0 d ++ bytes_at r.at piece
  here piece =
      let at = h.at in
      let e : 0 + length d ≡ r.at = omega (arith, at) in
      bytes_append 0 d piece ∙ ap (λ j. bytes_at 0 d ++ bytes_at j piece) e

  -- a piece more
  pub all_more : (piece : List ℕ) {s : SoFar} {m : ℕ} → HasReadOn (bytes_at r.at piece) r n s m → s.at ≡ r.at + length piece → HasReadAll A limit before (d ++ piece) s m
  all_more piece {s} {m} on at = record {
    first = h.first;
    start = h.start;
    begun = h.begun;
    read = record {
      read = subst (λ ps. HasRead h.first.table.graph ps (come_to h.first h.start) (come_to s m)) (sym (here piece))
          (both_read (bytes_at 0 d) (bytes_at r.at piece) (come_to h.first h.start) Q r.at h.read.read h.read.ready (come_to s m) on.read);
      ready = on.ready;
    };
    at = (let old = h.at in let long = length-append d piece in omega (arith, at, old, long));
  }

  -- or it is refused
  pub refused_all : (piece : List ℕ) {m : ℕ} {e : TableFault} → IsGivenUpAt (bytes_at r.at piece) r n m e → IsRefusedFor A limit before (d ++ piece) m e
  refused_all piece {m} {e} up =
      let P = come_to h.first h.start in
      let stopped = then_stopped (bytes_at 0 d) (bytes_at r.at piece) P Q r.at h.read.read h.read.ready (stop up.table m) up.stopped in
      let fault = then_fault (bytes_at 0 d) (bytes_at r.at piece) P Q r.at h.read.read h.read.ready e up.cause in
      let at_front = subst (λ ps. HasStopped h.first.table.graph ps P (stop up.table m)) (sym (here piece)) stopped in
      let fault_front = subst (λ ps. IsFaultAt ps P e) (sym (here piece)) fault in
      record {
        steps = λ more K whole.
            let front = bytes_append 0 (d ++ piece) more in
            let rest = bytes_at (0 + length (d ++ piece)) more in
            let is : bytes_at 0 (d ++ piece) ++ (rest ++ end_at (length ((d ++ piece) ++ more)) ∷ []) ≡ places K ((d ++ piece) ++ more) 0 false =
            sym (append_assoc (bytes_at 0 (d ++ piece)) rest (end_at (length ((d ++ piece) ++ more)) ∷ []))
            ∙ ap (λ ps. ps ++ end_at (length ((d ++ piece) ++ more)) ∷ []) (sym front) ∙ whole_places ((d ++ piece) ++ more) K whole in
            stopped_whole before h.begun ((d ++ piece) ++ more) K whole (bytes_at 0 (d ++ piece)) (rest ++ end_at (length ((d ++ piece) ++ more)) ∷ []) (stop up.table m) is at_front;
        cause = λ more K whole.
            let front = bytes_append 0 (d ++ piece) more in
            let rest = bytes_at (0 + length (d ++ piece)) more in
            fault_whole before h.begun ((d ++ piece) ++ more) K whole e
            (subst (λ ps. IsFaultAt ps P e) (sym front) (fault_before (bytes_at 0 (d ++ piece)) rest P e fault_front));
      }

  module _ (K : ℕ → Bool) (whole : IsWhole d K) where
    abbrev P1 : Progress
    P1 = come_to h.first h.start

    abbrev B : Automaton
    B = h.first.table.graph

    -- at the end the words are listed
    pub lists_all : {lists : Lists} {m : ℕ} → IsEndedThere r n lists m → AreListsOf A limit before d K lists m
    lists_all {lists} {m} done =
        let R = pass done.table done.graph done.after in
        let all = whole_places d K whole in
        let start = tabled_start h.first.table h.begun.ready.sound in
        let read = h.read.read in
        let apart = ready_distinct Q r.at h.read.ready in
        let ended : HasEnded B (length d) Q R = subst (λ C. HasEnded C (length d) Q R) read.table.graph (subst (λ j. HasEnded r.table.graph j Q R) h.at done.ended) in
        let words = words_listed B K d done.graph (rows lists.store lists.first) done.listed.exact
        (whole_words B K d P1 refl start (before + 1) h.begun.started (bytes_at 0 d) all Q R read ended) in
        let steps = whole_steps B K d P1 refl start (before + 1) h.begun.started (bytes_at 0 d) all Q R read ended apart in
        let cells = whole_cells B K d P1 refl start (before + 1) h.begun.started (bytes_at 0 d) all Q R read ended apart in
        let few = done.listed.few in
        let turned = done.turned in
        let graph : done.table.graph ≡ B = ended.table.graph ∙ read.table.graph in
        let same_limit : done.table.limit ≡ h.first.table.limit = ended.table.limit ∙ read.table.limit in
        let weighs : WeighsWithin B d K h.first.table.limit = λ look_ups due.
        subst (λ l. least_weight B look_ups ≤ l) same_limit (subst (λ (C : Automaton). least_weight C look_ups ≤ done.table.limit) graph
        (told_weighs done.table ended.sound look_ups
        (λ x y. whole_tells B K d P1 refl start (before + 1) h.begun.started (bytes_at 0 d) all Q R read ended x (due x y)))) in
        of_fresh before h.begun (λ C l. AreListsOf C l before d K lists m)
        (record { words = words; cells = omega (arith, cells, few); weighs = weighs; steps = omega (arith, steps, turned) })

    -- or that is refused
    pub refused_end : {m : ℕ} {e : TableFault} → IsGivenUpAtEnd r n m e → (m ≤ before + build A d K) × IsReadFault A K d limit e
    refused_end {m} {e} up =
        let ps = bytes_at 0 d in
        let last = end_at (length d) ∷ [] in
        let at_end = subst (λ j. HasStoppedAt r.table.graph (end_at j) Q (stop up.table m)) h.at up.stopped in
        let k = then_stopped ps last P1 Q r.at h.read.read h.read.ready (stop up.table m) (stopped_at r.table.graph (end_at (length d)) Q (stop up.table m) at_end) in (
          stopped_whole before h.begun d K whole (ps ++ last) [] (stop up.table m) (append-nil (ps ++ last) ∙ whole_places d K whole) k,
          fault_end e up.cause,
        )
      where
        fault_end : (f : TableFault) → IsFaultOf r.table [] (look_ups_asked r.table.graph (sets_of Q) (ended ∷ [])) f → IsReadFault A K d limit f
        fault_end OutOfMemory x = tt
        fault_end (Full weight) x =
            let ps = bytes_at 0 d in
            let last = end_at (length d) ∷ [] in
            let all = whole_places d K whole in
            let start = tabled_start h.first.table h.begun.ready.sound in
            let same = subst (λ C. IsFaultOf r.table [] (look_ups_asked C (sets_of Q) (ended ∷ [])) (Full weight)) h.read.read.table.graph x in
            let met = sets_met B (sets_of P1) (asks ps) in
            let look_ups = look_ups_asked B (sets_of P1) (asks (ps ++ last)) in
            of_fresh before h.begun (λ C l. IsReadFault C K d l (Full weight))
            (excess_weight B K d P1 refl start (before + 1) h.begun.started (new before h.begun) met look_ups weight
            (excess_grown h.first.table r.table met [] met (look_ups_asked B (sets_of P1) (asks ps)) (look_ups_asked B (sets_of Q) (ended ∷ [])) look_ups weight h.read.read.table same
            (λ set y. y) (λ set y. absurd y) (look_ups_first B ps last P1 Q h.read.read) (look_ups_then B ps last P1 Q h.read.read))
            (front_sets B K d P1 refl start (before + 1) h.begun.started ps (end_at (length d)) [] all)
            (look_ups_of_front B K d P1 refl start (before + 1) h.begun.started (ps ++ last) [] (append-nil (ps ++ last) ∙ all)))

-- ---- by how far the document was read

bytes_has : (d : List ℕ) → AreBytes d → (b : ℕ) → Has d b → b < 256
bytes_has d bytes b h = let p = place_of-Has d b h in bytes p.0 b p.2

pub bytes_more : (d piece : List ℕ) → AreBytes d → ((i : ℕ) → Fits w8 (slice_index_or piece i 0)) → AreBytes (d ++ piece)
bytes_more d piece bytes fits i b e =
    elim (Has-append_cases d piece b (Has-slice_get (d ++ piece) i b e)) as (λ _. b < 256) [
      | inl h ↦ bytes_has d bytes b h
      | inr h ↦ bytes_has piece (bytes_of piece fits) b h
    ]

module _ (A : Automaton) (limit before : ℕ) (d piece : List ℕ) where
  -- too many bytes came
  pub past_more : (stage : Stage) (seen n : ℕ) → 2 ^ 28 < seen + length piece → IsTakenBy A limit before d stage seen n → 2 ^ 28 < length (d ++ piece)
  past_more (Going g) seen n over h = let a = length-append d piece in let b = h.1 in omega (arith, a, b, over)
  past_more (Refused e) seen n over h = let a = length-append d piece in let b = h.1 in omega (arith, a, b, over)
  past_more Past seen n over h = let a = length-append d piece in omega (arith, a, h)

  pub past_on : (seen n : ℕ) → IsTakenBy A limit before d Past seen n → 2 ^ 28 < length (d ++ piece)
  past_on seen n h = let a = length-append d piece in omega (arith, a, h)

  module _ (fits : (i : ℕ) → Fits w8 (slice_index_or piece i 0)) where
    -- the piece was read
    pub going_more : (g h : Going_type) (seen n m : ℕ) → IsTakenBy A limit before d (Going g) seen n →
        HasReadOn (bytes_at g.reading.at piece) g.reading n h.reading m → h.reading.at ≡ g.reading.at + length piece →
        IsTakenBy A limit before (d ++ piece) (Going h) (seen + length piece) m
    going_more g h seen n m t on at = (bytes_more d piece t.0 fits, (let a = length-append d piece in let b = t.1 in omega (arith, a, b)), all_more t.2 piece on at)

    pub going_refused : (g : Going_type) (seen n m : ℕ) (e : TableFault) → IsTakenBy A limit before d (Going g) seen n →
        IsGivenUpAt (bytes_at g.reading.at piece) g.reading n m e → IsTakenBy A limit before (d ++ piece) (Refused e) (seen + length piece) m
    going_refused g seen n m e t up = (bytes_more d piece t.0 fits, (let a = length-append d piece in let b = t.1 in omega (arith, a, b)), refused_all t.2 piece up)

    pub refused_on : (seen n : ℕ) (e : TableFault) → IsTakenBy A limit before d (Refused e) seen n → IsTakenBy A limit before (d ++ piece) (Refused e) (seen + length piece) n
    refused_on seen n e t = (bytes_more d piece t.0 fits, (let a = length-append d piece in let b = t.1 in omega (arith, a, b)), refused_more d piece t.2)
