-- What is given up after some places, or before others.
use Rattle.std.proofs.Common.{◌≡◌, ℕ, suc, ◌+◌, ◌≤◌, ◌<◌, List, [], ◌∷◌, ◌++◌, length, get_or, take, drop, refl, sym, ap, subst, arith, ◌∙◌, append_assoc}
use Rattle.std.proofs.Math.Seq.{drop-cons}
use Rattle.std.proofs.lemmas.List.{append-nil, length-take-le, take-append-drop, take_more}
use Rattle.span_core.specs.Lists.{Has}
use Rattle.marked_automaton.specs.Automaton.{Automaton}
use Rattle.automaton_reading.specs.Reading.{look_ups_asked}
use Rattle.set_table.specs.declared.fault.TableFault.{TableFault}
use Rattle.set_table.specs.declared.fault.TableFault.TheVariants.{Full, OutOfMemory}
use Rattle.set_table.specs.Tabled.{Tabled}
use Rattle.one_pass.specs.Faults.{IsFaultAt, IsFaultOf}
use Rattle.output_graph.specs.Graph.{Graph}
use Rattle.one_pass.specs.Places.{ReadingPlace, asks, byte_at, bytes_at, sets_met}
use Rattle.one_pass.specs.Passes.{Progress, sets_of, IsReadyAt, HasRead, HasStopped, Stop}
use Rattle.one_pass.proofs.Composing.{asks_append, excess_grown, grown_none, met_first, met_then, read_then, ready_distinct, look_ups_first, look_ups_then, stopped_then}
use Rattle.one_pass.proofs.Due.{due_asked}
use Rattle.one_pass.proofs.Sets.{Covers, met_left, look_ups_left}

-- ready for a position, and so for a later one
pub ready_later : {t : Tabled} {g : Graph} {at : ℕ} (later : ℕ) → IsReadyAt t g at → at ≤ later → IsReadyAt t g later
ready_later later r le = record {
  sound = r.sound;
  given = r.given;
  apart = r.apart;
  fresh = r.fresh;
  past = λ s w b h hb. let l = r.past s w b h hb in omega (arith, l, le);
}

-- no place has been read
pub read_none : (A : Automaton) (P : Progress) → HasRead A [] P P
read_none A P = record {
  words = λ set w. (
    λ h. (set, w, [], h, (refl, refl), append-nil w),
    λ h. (
        let same : h.1 ≡ w = sym (append-nil h.1) ∙ (ap (λ v. h.1 ++ v) (sym h.4.0) ∙ h.5) in
        (h.3.0, h.3.1, h.3.2 ∙ h.4.1, subst (Has h.3.0.words) same h.3.3)
        ),
  );
  sets = λ set. (λ h. h, λ h. h);
  table = grown_none P.table (sets_of P) [];
  tells = λ look_up due. absurd (due_asked A (sets_of P) [] look_up due);
  steps = omega arith;
  cells = omega arith;
  rise = omega arith;
}

-- ---- after some places

module _ (ps qs : List ReadingPlace) (P Q : Progress) (at : ℕ) (read : HasRead P.table.graph ps P Q) (ready : IsReadyAt Q.table Q.graph at) where
  pub both_read : (R : Progress) → HasRead Q.table.graph qs Q R → HasRead P.table.graph (ps ++ qs) P R
  both_read R later =
      read_then P.table.graph ps qs P Q read R (ready_distinct Q at ready) (subst (λ A. HasRead A qs Q R) read.table.graph later)

  pub then_stopped : (after : Stop) → HasStopped Q.table.graph qs Q after → HasStopped P.table.graph (ps ++ qs) P after
  then_stopped after later =
      stopped_then P.table.graph ps qs P Q read after (ready_distinct Q at ready) (subst (λ A. HasStopped A qs Q after) read.table.graph later)

  pub then_fault : (e : TableFault) → IsFaultAt qs Q e → IsFaultAt (ps ++ qs) P e
  then_fault (Full weight) x =
      let A = P.table.graph in
      let same = subst (λ B. IsFaultOf Q.table (sets_met B (sets_of Q) (asks qs)) (look_ups_asked B (sets_of Q) (asks qs)) (Full weight)) read.table.graph x in
      excess_grown P.table Q.table
      (sets_met A (sets_of P) (asks ps)) (sets_met A (sets_of Q) (asks qs)) (sets_met A (sets_of P) (asks (ps ++ qs)))
      (look_ups_asked A (sets_of P) (asks ps)) (look_ups_asked A (sets_of Q) (asks qs)) (look_ups_asked A (sets_of P) (asks (ps ++ qs)))
      weight read.table same
      (met_first A ps qs P Q read) (met_then A ps qs P Q read) (look_ups_first A ps qs P Q read) (look_ups_then A ps qs P Q read)
  then_fault OutOfMemory x = tt

-- ---- before others

module _ (ps qs : List ReadingPlace) (P : Progress) where
  pub fault_before : (e : TableFault) → IsFaultAt ps P e → IsFaultAt (ps ++ qs) P e
  fault_before (Full weight) x =
      let A = P.table.graph in
      let met = sets_met A (sets_of P) (asks (ps ++ qs)) in
      let look_ups = look_ups_asked A (sets_of P) (asks (ps ++ qs)) in
      excess_grown P.table P.table
      (sets_met A (sets_of P) (asks ps)) (sets_met A (sets_of P) (asks ps)) met
      (look_ups_asked A (sets_of P) (asks ps)) (look_ups_asked A (sets_of P) (asks ps)) look_ups
      weight (grown_none P.table (sets_met A (sets_of P) (asks ps)) (look_ups_asked A (sets_of P) (asks ps))) x more_sets more_sets more_look_ups more_look_ups
    where
      more_sets : Covers (sets_met P.table.graph (sets_of P) (asks (ps ++ qs))) (sets_met P.table.graph (sets_of P) (asks ps))
      more_sets set h =
          subst (λ questions. Has (sets_met P.table.graph (sets_of P) questions) set) (sym (asks_append ps qs)) (met_left P.table.graph (sets_of P) (asks ps) (asks qs) set h)

      more_look_ups : Covers (look_ups_asked P.table.graph (sets_of P) (asks (ps ++ qs))) (look_ups_asked P.table.graph (sets_of P) (asks ps))
      more_look_ups look_up h =
          subst (λ questions. Has (look_ups_asked P.table.graph (sets_of P) questions) look_up) (sym (asks_append ps qs)) (look_ups_left P.table.graph (sets_of P) (asks ps) (asks qs) look_up h)
  fault_before OutOfMemory x = tt

-- ---- the bytes of a piece, one after another

pub bytes_append : (at : ℕ) (xs ys : List ℕ) → bytes_at at (xs ++ ys) ≡ bytes_at at xs ++ bytes_at (at + length xs) ys
bytes_append at [] ys = let e : at ≡ at + 0 = omega arith in ap (λ j. bytes_at j ys) e
bytes_append at (x ∷ xs) ys =
    let e : suc at + length xs ≡ at + suc (length xs) = omega arith in
    ap (λ ps. byte_at at x ∷ ps) (bytes_append (suc at) xs ys ∙ ap (λ j. bytes_at (suc at) xs ++ bytes_at j ys) e)

module _ (at : ℕ) (piece : List ℕ) (i : ℕ) (within : i < length piece) (b : ℕ) (here : get_or piece i 0 ≡ b) where
  taken : length (take i piece) ≡ i
  taken = length-take-le i piece (omega arith)

  pub bytes_more : bytes_at at (take (i + 1) piece) ≡ bytes_at at (take i piece) ++ byte_at (at + i) b ∷ []
  bytes_more =
      ap (bytes_at at) (take_more piece i 0 within)
      ∙ (bytes_append at (take i piece) (get_or piece i 0 ∷ [])
      ∙ (ap (λ j. bytes_at at (take i piece) ++ byte_at (at + j) (get_or piece i 0) ∷ []) taken
      ∙ ap (λ x. bytes_at at (take i piece) ++ byte_at (at + i) x ∷ []) here))

  pub bytes_split : (bytes_at at (take i piece) ++ byte_at (at + i) b ∷ []) ++ bytes_at (at + i + 1) (drop (suc i) piece) ≡ bytes_at at piece
  bytes_split =
      let e : at + i + 1 ≡ suc (at + i) = omega arith in
      append_assoc (bytes_at at (take i piece)) (byte_at (at + i) b ∷ []) (bytes_at (at + i + 1) (drop (suc i) piece))
      ∙ (ap (λ j. bytes_at at (take i piece) ++ byte_at (at + i) b ∷ bytes_at j (drop (suc i) piece)) e
      ∙ (ap (λ x. bytes_at at (take i piece) ++ byte_at (at + i) x ∷ bytes_at (suc (at + i)) (drop (suc i) piece)) (sym here)
      ∙ (ap (λ j. bytes_at at (take i piece) ++ bytes_at (at + j) (get_or piece i 0 ∷ drop (suc i) piece)) (sym taken)
      ∙ (sym (bytes_append at (take i piece) (get_or piece i 0 ∷ drop (suc i) piece))
      ∙ ap (bytes_at at) (ap (λ xs. take i piece ++ xs) (sym (drop-cons piece i 0 within)) ∙ take-append-drop i piece)))))
