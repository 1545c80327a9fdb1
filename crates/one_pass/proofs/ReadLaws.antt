-- What the parts of a whole pass give.
use Rattle.std.proofs.Common.{◌≡◌, ℕ, ◌+◌, ◌*◌, ◌≤◌, Bool, false, List, [], ◌∷◌, ◌++◌, length, sym, ap, subst, arith, ◌∙◌, refl}
use Rattle.std.proofs.lemmas.List.{append-nil, append_assoc}
use Rattle.marked_automaton.specs.Automaton.{Automaton}
use Rattle.std.specs.Prelude.{◌↔◌}
use Rattle.span_core.specs.Intervals.{AreApart, Covers}
use Rattle.span_core.specs.Lists.{Has}
use Rattle.automaton_reading.specs.Reading.{edges_K, ended, look_ups_asked}
use Rattle.set_table.specs.declared.fault.TableFault.{TableFault}
use Rattle.set_table.specs.declared.fault.TableFault.TheVariants.{Full, OutOfMemory}
use Rattle.set_table.specs.Tabled.{IsTabled, Tabled}
use Rattle.node_arena.specs.Words.{Word}
use Rattle.output_graph.specs.Graph.{Graph, HasWord, targets}
use Rattle.one_pass.specs.declared.pass.Pass.{Pass}
use Rattle.one_pass.specs.Builds.{IsNew, IsStarted, build}
use Rattle.one_pass.specs.Faults.{IsFaultAt, IsFaultOf, IsReadFault}
use Rattle.one_pass.specs.Going.{PassEnds, GivesUp, GivesUpEnd, PassReads, come}
use Rattle.one_pass.specs.Places.{ReadingPlace, AreReadWords, asks, end_at, is_touched, parts_places, places, places_before, sets_met}
use Rattle.one_pass.specs.Passes.{Progress, pass, sets_of, HasEnded, HasKept, HasRead, HasStoppedAt, stop}
use Rattle.one_pass.specs.Seen.{accepted_words}
use Rattle.one_pass.specs.Weights.{WeighsWithin, least_weight}
use Rattle.one_pass.proofs.Composing.{excess_grown, ready_distinct, look_ups_first, look_ups_then, stopped_at}
use Rattle.one_pass.proofs.Faulting.{then_stopped}
use Rattle.one_pass.proofs.GraphLaws.{accepted_listed}
use Rattle.one_pass.proofs.PartLaws.{before_end, parts_all}
use Rattle.one_pass.proofs.Weighing.{told_weighs}
use Rattle.one_pass.proofs.Whole.{excess_weight, front_sets, look_ups_of_front, stopped_steps, tabled_start, whole_cells, whole_steps, whole_tells, whole_words}

-- nothing has been done with the table
pub new_kept : (t : Tabled) → IsTabled t → HasKept t t
new_kept t tabled = record { graph = refl; limit = refl; sets = ([], append-nil t.sets); sound = tabled }

-- what a reading that was given up leaves
pub record IsGivenUp (d : List ℕ) (K : ℕ → Bool) (t : Tabled) (before : ℕ) (u : Tabled) (after : ℕ) (e : TableFault) : Type 0 where
  pub steps : after + 1 ≤ before + build t.graph d K
  pub kept : HasKept t u
  -- of a reading by a new table
  pub cause : IsNew t.graph t → IsReadFault t.graph K d t.limit e

module _ (d : List ℕ) (parts : List (ℕ × ℕ)) (apart : AreApart parts) (within : (q : ℕ) → Covers parts q → q ≤ length d)
    {t : Tabled} (tabled : IsTabled t) (before : ℕ) (p : Pass) (n : ℕ) (begun : IsStarted before (come t p n)) (xs : List (ℕ × ℕ)) (same : xs ≡ parts) where
  abbrev K : ℕ → Bool
  K = is_touched parts

  abbrev ps : List ReadingPlace
  ps = parts_places 0 parts d

  all : ps ++ end_at (length d) ∷ [] ≡ places K d 0 false
  all =
      let e : 0 + length d ≡ length d = omega arith in
      ap (λ qs. qs ++ end_at (length d) ∷ []) (parts_all parts d apart within)
      ∙ (ap (λ j. places_before K d 0 false ++ end_at j ∷ []) (sym e) ∙ before_end K d 0 false)

  abbrev P : Progress
  P = come t p n

  fault_read : IsNew t.graph t → (e : TableFault) → IsFaultAt ps P e → IsReadFault t.graph K d t.limit e
  fault_read new (Full weight) x =
      excess_weight t.graph K d P refl (tabled_start t tabled) before begun new (sets_met t.graph (sets_of P) (asks ps)) (look_ups_asked t.graph (sets_of P) (asks ps)) weight x
      (front_sets t.graph K d P refl (tabled_start t tabled) before begun ps (end_at (length d)) [] all)
      (look_ups_of_front t.graph K d P refl (tabled_start t tabled) before begun ps (end_at (length d) ∷ []) all)
  fault_read new OutOfMemory x = tt

  pub parts_give_up : {u : Tabled} {m : ℕ} {e : TableFault} → GivesUp (parts_places 0 xs d) t p n u m e → IsGivenUp d K t before u m e
  parts_give_up {u} {m} {e} given =
      let up = subst (λ ys. GivesUp (parts_places 0 ys d) t p n u m e) same given in
      let k = up.stopped in
      record {
        steps = stopped_steps t.graph K d P refl (tabled_start t tabled) before begun ps (end_at (length d) ∷ []) all (stop u m) k;
        kept = record { graph = k.table.graph; limit = k.table.limit; sets = k.table.kept; sound = k.sound };
        cause = λ new. fault_read new e up.cause;
      }

  module _ {u : Tabled} {q : Pass} {m : ℕ} (given : PassReads (parts_places 0 xs d) t p n u q m) (end : q.at ≡ length d) where
    reads : PassReads ps t p n u q m
    reads = subst (λ ys. PassReads (parts_places 0 ys d) t p n u q m) same given

    abbrev Q : Progress
    Q = come u q m

    read_here : HasRead t.graph ps P Q
    read_here = reads.read

    end_fault : IsNew t.graph t → (e : TableFault) → IsFaultOf u [] (look_ups_asked u.graph (sets_of Q) (ended ∷ [])) e → IsReadFault t.graph K d t.limit e
    end_fault new (Full weight) x =
        let same = subst (λ B. IsFaultOf u [] (look_ups_asked B (sets_of Q) (ended ∷ [])) (Full weight)) read_here.table.graph x in
        let met = sets_met t.graph (sets_of P) (asks ps) in
        let look_ups = look_ups_asked t.graph (sets_of P) (asks (ps ++ end_at (length d) ∷ [])) in
        excess_weight t.graph K d P refl (tabled_start t tabled) before begun new met look_ups weight
        (excess_grown t u met [] met (look_ups_asked t.graph (sets_of P) (asks ps)) (look_ups_asked t.graph (sets_of Q) (ended ∷ [])) look_ups weight read_here.table same
        (λ set h. h) (λ set h. absurd h)
        (look_ups_first t.graph ps (end_at (length d) ∷ []) P Q read_here) (look_ups_then t.graph ps (end_at (length d) ∷ []) P Q read_here))
        (front_sets t.graph K d P refl (tabled_start t tabled) before begun ps (end_at (length d)) [] all)
        (look_ups_of_front t.graph K d P refl (tabled_start t tabled) before begun (ps ++ end_at (length d) ∷ []) [] (append-nil (ps ++ end_at (length d) ∷ []) ∙ all))
    end_fault new OutOfMemory x = tt

    pub end_gives_up : {v : Tabled} {l : ℕ} {e : TableFault} → GivesUpEnd u q m v l e → IsGivenUp d K t before v l e
    end_gives_up {v} {l} {e} up =
        let at_end = subst (λ j. HasStoppedAt u.graph (end_at j) Q (stop v l)) end up.stopped in
        let k = then_stopped ps (end_at (length d) ∷ []) P Q q.at read_here reads.goes_on.ready (stop v l) (stopped_at u.graph (end_at (length d)) Q (stop v l) at_end) in
        record {
          steps = stopped_steps t.graph K d P refl (tabled_start t tabled) before begun (ps ++ end_at (length d) ∷ []) [] (append-nil (ps ++ end_at (length d) ∷ []) ∙ all) (stop v l) k;
          kept = record { graph = k.table.graph; limit = k.table.limit; sets = k.table.kept; sound = k.sound };
          cause = λ new. end_fault new e up.cause;
        }

    module _ {v : Tabled} (g : Graph) {l : ℕ} (done : PassEnds u q m v g l) where
      abbrev R : Progress
      R = pass v g l

      done_here : HasEnded t.graph (length d) Q R
      done_here = subst (λ B. HasEnded B (length d) Q R) read_here.table.graph (subst (λ j. HasEnded u.graph j Q R) end done)

      pub pass_kept : HasKept t v
      pass_kept =
          let first = read_here.table in
          let last = done_here.table in
          record {
            graph = last.graph ∙ first.graph;
            limit = last.limit ∙ first.limit;
            sets = (first.kept.0 ++ last.kept.0, sym (append_assoc t.sets first.kept.0 last.kept.0) ∙ (ap (λ ss. ss ++ last.kept.0) first.kept.1 ∙ last.kept.1));
            sound = done_here.sound;
          }

      pub pass_words : AreReadWords t.graph K d (accepted_words g)
      pass_words = whole_words t.graph K d P refl (tabled_start t tabled) before begun ps all Q R read_here done_here

      pub pass_steps : l + (2 * length g.cells + 2) + 1 ≤ before + build t.graph d K
      pass_steps = whole_steps t.graph K d P refl (tabled_start t tabled) before begun ps all Q R read_here done_here (ready_distinct Q q.at reads.goes_on.ready)

      pub pass_cells : length g.cells ≤ edges_K t.graph d K + 1
      pass_cells = whole_cells t.graph K d P refl (tabled_start t tabled) before begun ps all Q R read_here done_here (ready_distinct Q q.at reads.goes_on.ready)

      -- what has to be told of the reading weighs no more than the table's limit
      pub pass_weighs : WeighsWithin t.graph d K t.limit
      pass_weighs look_ups due =
          let graph : v.graph ≡ t.graph = done_here.table.graph ∙ read_here.table.graph in
          let limit : v.limit ≡ t.limit = done_here.table.limit ∙ read_here.table.limit in
          let told = told_weighs v done_here.sound look_ups (λ r h. whole_tells t.graph K d P refl (tabled_start t tabled) before begun ps all Q R read_here done_here r (due r h)) in
          subst (λ l. least_weight t.graph look_ups ≤ l) limit (subst (λ (A : Automaton). least_weight A look_ups ≤ v.limit) graph told)

-- the rows of the turned graph are the words that are read
pub words_listed : (A : Automaton) (K : ℕ → Bool) (d : List ℕ) (g : Graph) (ws : List Word) → ((w : Word) → Has ws w ↔ HasWord (targets g) 0 w) →
    AreReadWords A K d (accepted_words g) → AreReadWords A K d ws
words_listed A K d g ws exact read u =
    let same = accepted_listed g ws exact u in
    (λ h. (read u).0 (same.0 h), λ h. same.1 ((read u).1 h))
