-- From one row to the next.
use Rattle.std.proofs.Common.{◌≡◌, ℕ, ◌+◌, ◌*◌, ◌<◌, ◌≤◌, List, ◌∷◌, ◌++◌, map, length, Some, refl, sym, ap, ap₂, ◌∙◌, subst, append_assoc, arith}
use Rattle.std.specs.Int.Bits.{bit_or}
use Rattle.std.proofs.lemmas.List.{map-append}
use Rattle.std.proofs.lemmas.Simd.{map-map}
use Rattle.node_arena.specs.declared.row.Entry.{Entry}
use Rattle.node_arena.specs.declared.row.Entry.TheVariants.{Nothing, Done, Row}
use Rattle.span_core.specs.Lists.{Has}
use Rattle.span_core.proofs.HasLaws.{Has-append_left, Has-append_right, Has-map}
use Rattle.node_arena.specs.Words.{Word}
use Rattle.node_arena.specs.Rows.{NamedRow, rows, row_at}
use Rattle.output_graph.specs.RowLists.{AreMade}
use Rattle.enumerator.specs.declared.stack.Waiting.{Waiting}
use Rattle.enumerator.specs.Enumeration.{SpanRow}
use Rattle.enumerator.specs.Rows.{Positions, put, row_of, row_under, rows_under, waiting_rows}
use Rattle.enumerator.specs.Waiting.{IsNew, frame, left, IsWaiting, AreBelow, AreStacked, waited}
use Rattle.enumerator.proofs.Bits.{new_left, unset_few}
use Rattle.output_graph.proofs.RowLaws.{rows_at, rows_done, some_row}
use Rattle.enumerator.proofs.RowLaws.{rows_agree, put_kept, waiting_kept, below_few, below_stacked, waited_below, waited_rows}

-- within a row: the rows of an entry under what is settled, and those of what waits below, are all that is left
pub record IsInRow (store : List NamedRow) (v : ℕ) (P : Positions) (m : ℕ) (e : Entry) (fs : List Waiting) (all : List SpanRow) (most now : ℕ) : Type 0 where
  pub same : map (row_under v m P) (rows store e) ++ waiting_rows store v P fs ≡ all
  pub waits : IsWaiting store v (frame m e)
  pub below : AreBelow store v m fs
  pub steps : now + left v m ≤ most

pub in_row_begins : (store : List NamedRow) (v : ℕ) (P : Positions) (f : Waiting) (fs : List Waiting) (before : ℕ) → IsWaiting store v f → AreBelow store v f.settled fs
    → IsInRow store v P f.settled f.entry fs (rows_under store v P f ++ waiting_rows store v P fs) (before + left v f.settled) before
in_row_begins store v P f fs before waits below = record { same = refl; waits = waits; below = below; steps = omega arith }

-- ---- a row cell is looked up

module _ (store : List NamedRow) (made : AreMade store) (v m k : ℕ) (r : NamedRow) (is : row_at store k ≡ Some r) where
  abbrev block : ℕ × ℕ
  block = (r.at, r.marks)

  pub cell_rows : rows store (Row k) ≡ map (λ w. block ∷ w) (rows store r.child) ++ rows store r.next
  cell_rows = (rows_at store k r made is).0

  pub child_row : (w : Word) → Has (rows store r.child) w → Has (rows store (Row k)) (block ∷ w)
  child_row w h = rw cell_rows
      (Has-append_left (map (λ (u : Word). block ∷ u) (rows store r.child)) (rows store r.next) (block ∷ w) (Has-map (λ (u : Word). block ∷ u) (rows store r.child) w h))

  pub next_row : (w : Word) → Has (rows store r.next) w → Has (rows store (Row k)) w
  next_row w h = rw cell_rows (Has-append_right (map (λ (u : Word). block ∷ u) (rows store r.child)) (rows store r.next) w h)

  module _ (waits : IsWaiting store v (frame m (Row k))) where
    pub cell_new : IsNew v m r.marks
    cell_new =
        let t = rows_at store k r made is in
        let w = some_row store r.child made t.1 t.3 in
        (waits.fit (block ∷ w.0) (child_row w.0 w.1)).0

    pub child_waits : IsWaiting store v (frame (bit_or m r.marks) r.child)
    child_waits =
        let t = rows_at store k r made is in
        record { there = t.1; some = t.3; fit = λ w h. (waits.fit (block ∷ w) (child_row w h)).1 }

    pub next_waits : (r.next ≡ Nothing → ⊥) → IsWaiting store v (frame m r.next)
    next_waits some =
        let t = rows_at store k r made is in
        record { there = t.2; some = some; fit = λ w h. waits.fit w (next_row w h) }

    pub cell_below : (fs : List Waiting) → AreBelow store v m fs → AreBelow store v (bit_or m r.marks) (waited m r.next fs)
    cell_below fs below = waited_below store v m r.marks r.next fs cell_new below next_waits

    -- the rows of the cell are those of its child, with the block's markers put, and those of its next
    pub cell_rows_under : (P : Positions) → map (row_under v m P) (rows store (Row k))
        ≡ map (row_under v (bit_or m r.marks) (put P block)) (rows store r.child) ++ map (row_under v m P) (rows store r.next)
    cell_rows_under P =
        ap (map (row_under v m P)) cell_rows
        ∙ (map-append (row_under v m P) (map (λ (w : Word). block ∷ w) (rows store r.child)) (rows store r.next)
        ∙ ap (λ xs. xs ++ map (row_under v m P) (rows store r.next)) (map-map (row_under v m P) (λ (w : Word). block ∷ w) (rows store r.child)))

    -- those of its next, and of what waits, do not see the block
    pub next_rows_kept : (P : Positions) (fs : List Waiting) → AreBelow store v m fs
        → map (row_under v m P) (rows store r.next) ++ waiting_rows store v P fs ≡ waiting_rows store v (put P block) (waited m r.next fs)
    next_rows_kept P fs below =
        ap₂ (λ (xs ys : List SpanRow). xs ++ ys)
        (rows_agree store v P (put P block) (frame m r.next) (put_kept v m m block P cell_new (λ bit h. h)))
        (waiting_kept store v m m block P fs cell_new (λ bit h. h) below)
        ∙ sym (waited_rows store v m (put P block) r.next fs)

    pub cell_splits : (P : Positions) (fs : List Waiting) → AreBelow store v m fs → map (row_under v m P) (rows store (Row k)) ++ waiting_rows store v P fs
        ≡ map (row_under v (bit_or m r.marks) (put P block)) (rows store r.child) ++ waiting_rows store v (put P block) (waited m r.next fs)
    cell_splits P fs below =
        let front = map (row_under v (bit_or m r.marks) (put P block)) (rows store r.child) in
        ap (λ xs. xs ++ waiting_rows store v P fs) (cell_rows_under P)
        ∙ (append_assoc front (map (row_under v m P) (rows store r.next)) (waiting_rows store v P fs)
        ∙ ap (λ xs. front ++ xs) (next_rows_kept P fs below))

pub in_row_step : (store : List NamedRow) (made : AreMade store) (v m k : ℕ) (r : NamedRow) → row_at store k ≡ Some r → (P : Positions) (fs : List Waiting) (all : List SpanRow) (most now : ℕ)
    → IsInRow store v P m (Row k) fs all most now → IsInRow store v (put P (r.at, r.marks)) (bit_or m r.marks) r.child (waited m r.next fs) all most (now + 1)
in_row_step store made v m k r is P fs all most now h = record {
  same = sym (cell_splits store made v m k r is h.waits P fs h.below) ∙ h.same;
  waits = child_waits store made v m k r is h.waits;
  below = cell_below store made v m k r is h.waits fs h.below;
  steps = let a = new_left v m r.marks (cell_new store made v m k r is h.waits) in let b = h.steps in omega arith;
}

-- so few wait that one more has room
pub in_row_few : (store : List NamedRow) (made : AreMade store) (v m k : ℕ) (r : NamedRow) → row_at store k ≡ Some r → (P : Positions) (fs : List Waiting) (all : List SpanRow) (most now : ℕ)
    → IsInRow store v P m (Row k) fs all most now → length fs < 2 * v
in_row_few store made v m k r is P fs all most now h =
    let a = new_left v m r.marks (cell_new store made v m k r is h.waits) in
    let b = below_few store v m fs h.below in
    omega arith

-- at the end of a row
pub in_row_ends : (store : List NamedRow) (v : ℕ) (P : Positions) (m : ℕ) (e : Entry) (fs : List Waiting) (all : List SpanRow) (most now : ℕ) → ((k : ℕ) → e ≡ Row k → ⊥)
    → IsInRow store v P m e fs all most now
    → (all ≡ row_of v m P ∷ waiting_rows store v P fs) × AreStacked store v fs × (now ≤ most)
in_row_ends store v P m Nothing fs all most now no_row h = absurd (h.waits.some refl)
in_row_ends store v P m Done fs all most now no_row h =
    (sym h.same ∙ ap (λ ws. map (row_under v m P) ws ++ waiting_rows store v P fs) (rows_done store), below_stacked store v m fs h.below, (let a = h.steps in omega arith))
in_row_ends store v P m (Row k) fs all most now no_row h = absurd (no_row k refl)

-- ---- a cell whose child is the empty row

module _ (store : List NamedRow) (made : AreMade store) (v m k : ℕ) (r : NamedRow) (is : row_at store k ≡ Some r) (P : Positions) (fs : List Waiting)
    (waits : IsWaiting store v (frame m (Row k))) (below : AreBelow store v m fs) where
  abbrev all_rows : List SpanRow
  all_rows = rows_under store v P (frame m (Row k)) ++ waiting_rows store v P fs

  -- its block is put, and its neighbours wait
  pub cell_begun : (before : ℕ) → IsInRow store v (put P (r.at, r.marks)) (bit_or m r.marks) r.child (waited m r.next fs) all_rows (before + left v m) (before + 1)
  cell_begun before = in_row_step store made v m k r is P fs all_rows (before + left v m) before (in_row_begins store v P (frame m (Row k)) fs before waits below)

  pub leaf_rows : r.child ≡ Done → (all_rows ≡ row_of v (bit_or m r.marks) (put P (r.at, r.marks)) ∷ waiting_rows store v (put P (r.at, r.marks)) (waited m r.next fs))
      × AreStacked store v (waited m r.next fs)
  leaf_rows done =
      let t = in_row_ends store v (put P (r.at, r.marks)) (bit_or m r.marks) Done (waited m r.next fs) all_rows (0 + left v m) (0 + 1) (λ j e. cc)
      (rw (← done) (cell_begun 0)) in
      (t.0, t.1)

  -- the first rows of its child, and all that waits then
  pub child_rows : all_rows ≡ rows_under store v (put P (r.at, r.marks)) (frame (bit_or m r.marks) r.child) ++ waiting_rows store v (put P (r.at, r.marks)) (waited m r.next fs)
  child_rows = sym (cell_begun 0).same

-- ---- what waits on top is taken

module _ (store : List NamedRow) (v : ℕ) (P : Positions) (all fs : List Waiting) (f : Waiting) (top : all ≡ f ∷ fs) (stacked : AreStacked store v all) where
  abbrev taken : IsWaiting store v f × AreBelow store v f.settled fs
  taken = subst (AreStacked store v) top stacked

  -- the empty row
  pub top_done : ((k : ℕ) → f.entry ≡ Row k → ⊥) → (waiting_rows store v P all ≡ row_of v f.settled P ∷ waiting_rows store v P fs) × AreStacked store v fs
  top_done no_row =
      let t = in_row_ends store v P f.settled f.entry fs (rows_under store v P f ++ waiting_rows store v P fs) (0 + left v f.settled) 0 no_row (in_row_begins store v P f fs 0 taken.0 taken.1) in
      (ap (waiting_rows store v P) top ∙ t.0, t.1)

  module _ (made : AreMade store) (k : ℕ) (r : NamedRow) (is : row_at store k ≡ Some r) (here : f.entry ≡ Row k) where
    abbrev now : IsWaiting store v (frame f.settled (Row k))
    now = rw (← here) taken.0

    same_rows : waiting_rows store v P all ≡ rows_under store v P (frame f.settled (Row k)) ++ waiting_rows store v P fs
    same_rows = ap (waiting_rows store v P) top ∙ ap (λ (e : Entry). rows_under store v P (frame f.settled e) ++ waiting_rows store v P fs) here

    pub top_few : length fs < 2 * v
    top_few = in_row_few store made v f.settled k r is P fs _ _ _ (in_row_begins store v P (frame f.settled (Row k)) fs 0 now taken.1)

    -- a block, and the empty row behind it
    pub top_leaf : r.child ≡ Done
        → (waiting_rows store v P all ≡ row_of v (bit_or f.settled r.marks) (put P (r.at, r.marks)) ∷ waiting_rows store v (put P (r.at, r.marks)) (waited f.settled r.next fs))
        × AreStacked store v (waited f.settled r.next fs)
    top_leaf done = let t = leaf_rows store made v f.settled k r is P fs now taken.1 done in (same_rows ∙ t.0, t.1)

    -- a block, and the rows behind it
    pub top_child : waiting_rows store v P all
        ≡ rows_under store v (put P (r.at, r.marks)) (frame (bit_or f.settled r.marks) r.child) ++ waiting_rows store v (put P (r.at, r.marks)) (waited f.settled r.next fs)
    top_child = same_rows ∙ child_rows store made v f.settled k r is P fs now taken.1

    pub top_waits : IsWaiting store v (frame (bit_or f.settled r.marks) r.child)
    top_waits = child_waits store made v f.settled k r is now

    pub top_below : AreBelow store v (bit_or f.settled r.marks) (waited f.settled r.next fs)
    top_below = cell_below store made v f.settled k r is now fs taken.1

    pub top_left : left v (bit_or f.settled r.marks) < 2 * v
    top_left =
        let a = new_left v f.settled r.marks (cell_new store made v f.settled k r is now) in
        let b = unset_few (2 * v) f.settled in
        omega arith
