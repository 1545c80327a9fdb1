-- To the first row after a given one.
use Rattle.std.proofs.Common.{◌≡◌, ◌⊎◌, ℕ, ◌+◌, ◌<◌, ◌≤◌, List, [], ◌∷◌, ◌++◌, map, length, Some, inl, inr, refl, sym, ap, ◌∙◌, append_assoc, append-nil, arith}
use Rattle.std.specs.Int.Bits.{bit_or}
use Rattle.std.proofs.lemmas.Bool.{cases_eq, cases_lt}
use Rattle.std.proofs.lemmas.List.{map-append}
use Rattle.span_core.specs.Block.{block}
use Rattle.span_core.specs.Blocks.{listed}
use Rattle.span_core.specs.Order.{StandsBefore}
use Rattle.node_arena.specs.declared.row.Entry.{Entry}
use Rattle.node_arena.specs.declared.row.Entry.TheVariants.{Nothing, Done, Row}
use Rattle.span_core.specs.Lists.{Has}
use Rattle.span_core.proofs.HasLaws.{Has-append_cases, Has-map_cases}
use Rattle.node_arena.specs.Words.{Word}
use Rattle.output_graph.specs.Order.{LeadsBefore}
use Rattle.output_graph.specs.Listed.{Lists, AreLists}
use Rattle.node_arena.specs.Rows.{NamedRow, rows, row_at, IsThere}
use Rattle.output_graph.specs.RowLists.{AreMade, AreLed}
use Rattle.enumerator.specs.declared.stack.Waiting.{Waiting}
use Rattle.enumerator.specs.Enumeration.{SpanRow, IsRestAfter, IsWordOfRow}
use Rattle.enumerator.specs.Rows.{Positions, put, row_under, rows_of, waiting_rows, no_positions}
use Rattle.enumerator.specs.Waiting.{frame, Fits, IsWaiting, AreBelow, AreStacked, waited}
use Rattle.enumerator.specs.Seeking.{HasNoBlock, IsNextBlock}
use Rattle.enumerator.proofs.Lists.{map_same}
use Rattle.output_graph.proofs.RowLaws.{rows_at, rows_nothing, rows_done}
use Rattle.enumerator.proofs.StoreLaws.{reach, led_at, child_reach, next_reach, reach_few}
use Rattle.enumerator.proofs.RowLaws.{row_under_agree, below_stacked, waited_stacked, waited_rows}
use Rattle.enumerator.proofs.Walk.{cell_rows, child_row, next_row, cell_new, cell_below, next_rows_kept, cell_splits}
use Rattle.enumerator.proofs.Words.{AscendsFrom, listed_here, listed_other, listed_before, ascends_from, is_row_of_word, fits_word}

-- ---- blocks and order

-- the block comes before the other
abbrev pub LeadsBlock : ℕ × ℕ → ℕ × ℕ → Type 0
LeadsBlock x y = (x.0 < y.0) ⊎ ((x.0 ≡ y.0) × (y.1 < x.1))

-- the row of a word that is left: as the given row before a position, and as the word from there on
pub record IsTail (from : ℕ) (after : SpanRow) (v m : ℕ) (P : Positions) (w : Word) : Type 0 where
  pub same : (at : ℕ) → at < from → block (row_under v m P w) at ≡ block after at
  pub rest : (at : ℕ) → from ≤ at → block (row_under v m P w) at ≡ listed w at
  pub ascends : AscendsFrom from w

pub listed_led : (from : ℕ) (x : ℕ × ℕ) (w : Word) → AscendsFrom from w → 0 < x.1 → LeadsBefore x w → (listed w x.0 < x.1) × ((i : ℕ) → i < x.0 → listed w i ≡ 0)
listed_led from x [] up some lead = (some, λ i l. refl)
listed_led from x (z ∷ w) up some (inl l) =
    let here : AscendsFrom z.0 (z ∷ w) = (omega arith, up.1) in
    (let e = listed_before z.0 (z ∷ w) x.0 here l in omega arith, λ i less. listed_before z.0 (z ∷ w) i here (omega arith))
listed_led from x (z ∷ w) up some (inr p) =
    let here : AscendsFrom z.0 (z ∷ w) = (omega arith, up.1) in
    let same : x.0 ≡ z.0 = p.0 in
    let less_marks : z.1 < x.1 = p.1 in
    (let e = ap (listed (z ∷ w)) same ∙ listed_here z w in omega arith, λ i less. listed_before z.0 (z ∷ w) i here (omega arith))

module _ (from : ℕ) (after : SpanRow) (v m : ℕ) (P : Positions) where
  -- the row's next block comes before that of the given row
  pub led_not_after : (x y : ℕ × ℕ) (w : Word) → IsNextBlock after from x → IsTail from after v m P (y ∷ w) → LeadsBlock y x → 0 < y.1 → StandsBefore after (row_under v m P (y ∷ w)) → ⊥
  led_not_after x y w next t lead some h =
      let later : from ≤ y.0 = t.ascends.0 in
      let here : block (row_under v m P (y ∷ w)) y.0 ≡ y.1 = t.rest y.0 later ∙ listed_here y w in
      let g = h.greater in
      let less : block after y.0 < y.1 = elim lead [
        | inl l ↦ let z = next.first y.0 later l in omega arith
        | inr p ↦ let z : block after y.0 ≡ x.1 = ap (block after) p.0 ∙ next.is in let q : x.1 < y.1 = p.1 in omega arith
      ] in
      let none_before : (at : ℕ) → from ≤ at → at < y.0 → block after at ≡ 0 = λ at le l. next.first at le (elim lead [
        | inl q ↦ omega arith
        | inr q ↦ let e : y.0 ≡ x.0 = q.0 in omega arith
      ]) in
      elim (cases_lt h.at y.0) [
        | inl l ↦ elim (cases_lt h.at from) [
          | inl early ↦ let e = t.same h.at early in omega arith
          | inr late ↦ let z = none_before h.at late l in omega arith
        ]
        | inr ge ↦ elim (cases_eq h.at y.0) [
          | inl e ↦ (let a = ap (block after) e in let b = ap (block (row_under v m P (y ∷ w))) e in omega arith)
          | inr ne ↦ (let l : y.0 < h.at = elim (cases_lt y.0 h.at) [ inl k ↦ k | inr k ↦ absurd (ne (omega arith)) ] in let s = h.same_below y.0 l in omega arith)
        ]
      ]

  -- the given row has no block left
  pub none_after : (w : Word) → HasNoBlock after from → IsTail from after v m P w → StandsBefore after (row_under v m P w) → ⊥
  none_after w none t h =
      let g = h.greater in
      elim (cases_lt h.at from) [
        | inl early ↦ let e = t.same h.at early in omega arith
        | inr late ↦ let z = none h.at late in omega arith
      ]

  -- the given row's next block comes before the row's
  pub led_after : (x : ℕ × ℕ) (w : Word) → IsNextBlock after from x → IsTail from after v m P w → LeadsBefore x w → StandsBefore after (row_under v m P w)
  led_after x w next t lead =
      let l = listed_led from x w t.ascends next.some lead in
      record {
        at = x.0;
        greater = (let a = t.rest x.0 next.later in let b = next.is in let c = l.0 in omega arith);
        same_below = λ i less. elim (cases_lt i from) [
          | inl early ↦ sym (t.same i early)
          | inr late ↦ next.first i late less ∙ sym (t.rest i late ∙ l.1 i less)
        ];
      }

  -- the blocks are one
  pub tail_enters : (x : ℕ × ℕ) (w : Word) → IsNextBlock after from x → IsTail from after v m P (x ∷ w) → IsTail (x.0 + 1) after v (bit_or m x.1) (put P x) w
  tail_enters x w next t = record {
    same = λ at l. elim (cases_lt at from) [
      | inl early ↦ t.same at early
      | inr late ↦ t.rest at late ∙ elim (cases_eq x.0 at) [
        | inl e ↦ ap (listed (x ∷ w)) (sym e) ∙ (listed_here x w ∙ (sym next.is ∙ ap (block after) e))
        | inr ne ↦
            let less : at < x.0 = elim (cases_lt at x.0) [ inl k ↦ k | inr k ↦ absurd (ne (omega arith)) ] in
            listed_before x.0 (x ∷ w) at (omega arith, t.ascends.1) less ∙ sym (next.first at late less)
      ]
    ];
    rest = λ at le. let later = next.later in t.rest at (omega arith) ∙ listed_other x w at (λ e. omega (arith, e));
    ascends = t.ascends.1;
  }

-- ---- the state of a seek

-- all rows are those passed, which do not stand after the given one, those of an entry under what is settled, and those that wait, which do
pub record IsSeeking (store : List NamedRow) (v : ℕ) (after : SpanRow) (P : Positions) (m : ℕ) (e : Entry) (from : ℕ) (fs : List Waiting) (whole : List SpanRow) (before now : ℕ) : Type 0 where
  pub front : List SpanRow
  pub whole_is : whole ≡ front ++ (map (row_under v m P) (rows store e) ++ waiting_rows store v P fs)
  pub passed : (r : SpanRow) → Has front r → StandsBefore after r → ⊥
  pub waits : (r : SpanRow) → Has (waiting_rows store v P fs) r → StandsBefore after r
  pub there : IsThere store e
  pub fit : (w : Word) → Has (rows store e) w → Fits v m w
  pub tails : (w : Word) → Has (rows store e) w → IsTail from after v m P w
  pub below : AreBelow store v m fs
  pub steps : now + reach store e ≤ before + length store

pub seek_begins : (lists : Lists) (v : ℕ) (after : SpanRow) (P : Positions) (before : ℕ) → AreLists lists → ((w : Word) → Has (rows lists.store lists.first) w → IsWordOfRow v w)
    → IsSeeking lists.store v after P 0 lists.first 0 [] (rows_of lists v) before before
seek_begins lists v after P before sound words = record {
  front = [];
  whole_is = map_same (row_under v 0 no_positions) (row_under v 0 P) (λ w. row_under_agree v 0 no_positions P w (λ bit h. absurd (none bit h)))
      (rows lists.store lists.first) ∙ sym (append-nil (map (row_under v 0 P) (rows lists.store lists.first)));
  passed = λ r h. absurd h;
  waits = λ r h. absurd h;
  there = sound.there;
  fit = λ w h. fits_word v w (words w h);
  tails = λ w h.
      let is = is_row_of_word v P w (words w h) in
      record { same = λ at l. absurd (omega arith); rest = λ at le. is.blocks_are at; ascends = ascends_from 0 w (words w h).0.0 (λ d l. omega arith) };
  below = tt;
  steps = let a = reach_few lists.store lists.first sound.there in omega arith;
}
  where
    none : (bit : ℕ) → Rattle.enumerator.specs.Rows.has 0 bit ≡ Rattle.std.proofs.Common.true → ⊥
    none bit h = Rattle.enumerator.proofs.Words.never_listed bit 0 h

module _ (store : List NamedRow) (made : AreMade store) (v : ℕ) (after : SpanRow) (P : Positions) (m k from : ℕ) (fs : List Waiting)
    (whole : List SpanRow) (before now : ℕ) (r : NamedRow) (is : row_at store k ≡ Some r) where
  abbrev own : ℕ × ℕ
  own = (r.at, r.marks)

  module _ (s : IsSeeking store v after P m (Row k) from fs whole before now) where
    waiting : IsWaiting store v (frame m (Row k))
    waiting = record { there = s.there; some = λ e. cc; fit = s.fit }

    -- the cell's block comes before the next one of the given row: its child is passed
    pub seek_skips : (x : ℕ × ℕ) → IsNextBlock after from x → LeadsBlock own x → IsSeeking store v after P m r.next from fs whole before (now + 1)
    seek_skips x next lead =
        let mine = map (row_under v m P) (map (λ (w : Word). own ∷ w) (rows store r.child)) in
        let nexts = map (row_under v m P) (rows store r.next) in
        let t = rows_at store k r made is in
        let split : map (row_under v m P) (rows store (Row k)) ≡ mine ++ nexts =
        ap (map (row_under v m P)) (cell_rows store made v m k r is) ∙ map-append (row_under v m P) (map (λ (w : Word). own ∷ w) (rows store r.child)) (rows store r.next) in
        record {
          front = s.front ++ mine;
          whole_is = s.whole_is ∙ (ap (λ xs. s.front ++ (xs ++ waiting_rows store v P fs)) split
              ∙ (ap (λ xs. s.front ++ xs) (append_assoc mine nexts (waiting_rows store v P fs)) ∙ sym (append_assoc s.front mine (nexts ++ waiting_rows store v P fs))));
          passed = λ q h b. elim (Has-append_cases s.front mine q h) as (λ _. ⊥) [
            | inl old ↦ s.passed q old b
            | inr new ↦
                let u = Has-map_cases (row_under v m P) (map (λ (w : Word). own ∷ w) (rows store r.child)) q new in
                let c = Has-map_cases (λ (w : Word). own ∷ w) (rows store r.child) u.0 u.1 in
                let here = child_row store made v m k r is c.0 c.1 in
                let row_is : row_under v m P (own ∷ c.0) ≡ q = ap (row_under v m P) c.2 ∙ u.2 in
                led_not_after from after v m P x own c.0 next (s.tails (own ∷ c.0) here) lead (cell_new store made v m k r is waiting).some
                (rw (← row_is) at b)
          ];
          waits = s.waits;
          there = t.2;
          fit = λ w h. s.fit w (next_row store made v m k r is w h);
          tails = λ w h. s.tails w (next_row store made v m k r is w h);
          below = s.below;
          steps = let a = next_reach store k r made is in let b = s.steps in omega arith;
        }

    -- the blocks are one: the rows of the cell's next wait, and the walk goes on in its child
    pub seek_enters : AreLed store → IsNextBlock after from own → IsSeeking store v after (put P own) (bit_or m r.marks) r.child (r.at + 1) (waited m r.next fs) whole before (now + 1)
    seek_enters led next =
        let t = rows_at store k r made is in
        record {
          front = s.front;
          whole_is = s.whole_is ∙ ap (λ xs. s.front ++ xs) (cell_splits store made v m k r is waiting P fs s.below);
          passed = s.passed;
          waits = λ q h.
              let kept = next_rows_kept store made v m k r is waiting P fs s.below in
              let h' : Has (map (row_under v m P) (rows store r.next) ++ waiting_rows store v P fs) q = rw (← kept) at h in
              elim (Has-append_cases (map (row_under v m P) (rows store r.next)) (waiting_rows store v P fs) q h') as (λ _. StandsBefore after q) [
                | inl new ↦
                    let u = Has-map_cases (row_under v m P) (rows store r.next) q new in
                    rw u.2 at (led_after from after v m P own u.0 next (s.tails u.0 (next_row store made v m k r is u.0 u.1)) (led_at store k r made led is u.0 u.1))
                | inr old ↦ s.waits q old
              ];
          there = t.1;
          fit = λ w h. (s.fit (own ∷ w) (child_row store made v m k r is w h)).1;
          tails = λ w h. tail_enters from after v m P own w next (s.tails (own ∷ w) (child_row store made v m k r is w h));
          below = cell_below store made v m k r is waiting fs s.below;
          steps = let a = child_reach store k r made is in let b = s.steps in omega arith;
        }

    -- the given row's next block comes before the cell's: so it does before all of its rows
    pub cell_led : AreLed store → (x : ℕ × ℕ) → LeadsBlock x own → (w : Word) → Has (rows store (Row k)) w → LeadsBefore x w
    cell_led led x lead w h =
        elim (Has-append_cases (map (λ (u : Word). own ∷ u) (rows store r.child)) (rows store r.next) w (rw (← cell_rows store made v m k r is) h)) as (λ _. LeadsBefore x w) [
          | inl mine ↦ let c = Has-map_cases (λ (u : Word). own ∷ u) (rows store r.child) w mine in rw (← c.2) lead
          | inr further ↦ lead_further x w lead (led_at store k r made led is w further)
        ]
      where
        lead_further : (x : ℕ × ℕ) (w : Word) → LeadsBlock x own → LeadsBefore own w → LeadsBefore x w
        lead_further x [] e l = tt
        lead_further x (z ∷ w) e l = let p : (x.0 < r.at) ⊎ ((x.0 ≡ r.at) × (r.marks < x.1)) = e in let q : (r.at < z.0) ⊎ ((r.at ≡ z.0) × (z.1 < r.marks)) = l in grind arith

-- ---- the ends of a seek

abbrev pub Sought : List NamedRow → ℕ → SpanRow → Positions → List Waiting → List SpanRow → ℕ → ℕ → Type 0
Sought store v after P fs whole before now = AreStacked store v fs × IsRestAfter after whole (waiting_rows store v P fs) × (now ≤ before + length store)

module _ (store : List NamedRow) (v : ℕ) (after : SpanRow) (P : Positions) (m : ℕ) (e : Entry) (from : ℕ) (fs : List Waiting) (whole : List SpanRow)
    (before now : ℕ) (s : IsSeeking store v after P m e from fs whole before now) where
  -- all rows of the entry stand after the given one
  pub seek_stops : (x : ℕ × ℕ) → IsNextBlock after from x → ((w : Word) → Has (rows store e) w → LeadsBefore x w) → Sought store v after P (waited m e fs) whole before now
  seek_stops x next lead = (
    waited_stacked store v m e fs s.below (λ some. record { there = s.there; some = some; fit = s.fit }),
    (
      s.front,
      s.whole_is ∙ ap (λ xs. s.front ++ xs) (sym (waited_rows store v m P e fs)),
      s.passed,
      λ q h.
          elim (Has-append_cases (map (row_under v m P) (rows store e)) (waiting_rows store v P fs) q (rw (← waited_rows store v m P e fs) h)) as (λ _. StandsBefore after q) [
            | inl new ↦
                let u = Has-map_cases (row_under v m P) (rows store e) q new in
                rw (← u.2) (led_after from after v m P x u.0 next (s.tails u.0 u.1) (lead u.0 u.1))
            | inr old ↦ s.waits q old
          ],
    ),
    let a = s.steps in omega arith,
  )

  -- none of them does
  pub seek_ends : HasNoBlock after from → Sought store v after P fs whole before now
  seek_ends none = (
    below_stacked store v m fs s.below,
    (
      s.front ++ map (row_under v m P) (rows store e),
      s.whole_is ∙ sym (append_assoc s.front (map (row_under v m P) (rows store e)) (waiting_rows store v P fs)),
      λ q h b.
          elim (Has-append_cases s.front (map (row_under v m P) (rows store e)) q h) as (λ _. ⊥) [
            | inl old ↦ s.passed q old b
            | inr new ↦
                let u = Has-map_cases (row_under v m P) (rows store e) q new in
                none_after from after v m P u.0 none (s.tails u.0 u.1) (rw u.2 b)
          ],
      s.waits,
    ),
    let a = s.steps in omega arith,
  )

-- an entry that is no row cell has no block
pub no_cell_led : (store : List NamedRow) (e : Entry) (x : ℕ × ℕ) → ((k : ℕ) → e ≡ Row k → ⊥) → (w : Word) → Has (rows store e) w → LeadsBefore x w
no_cell_led store Nothing x no_row w h = absurd (rw (rows_nothing store) at h)
no_cell_led store Done x no_row w h = elim (rw (rows_done store) at h) as (λ _. LeadsBefore x w) [
  | inl e ↦ rw (← e) tt
  | inr none ↦ absurd none
]
no_cell_led store (Row k) x no_row w h = absurd (no_row k refl)

-- neither of two blocks comes before the other
pub same_block : (x y : ℕ × ℕ) → (LeadsBlock x y → ⊥) → (LeadsBlock y x → ⊥) → (y.0 ≡ x.0) × (y.1 ≡ x.1)
same_block x y f g =
    let at_least : x.0 ≤ y.0 = elim (cases_lt y.0 x.0) [ inl l ↦ absurd (g (inl l)) | inr l ↦ l ] in
    let at_most : y.0 ≤ x.0 = elim (cases_lt x.0 y.0) [ inl l ↦ absurd (f (inl l)) | inr l ↦ l ] in
    let e : y.0 ≡ x.0 = omega arith in
    let marks_least : x.1 ≤ y.1 = elim (cases_lt y.1 x.1) [ inl l ↦ absurd (f (inr (sym e, l))) | inr l ↦ l ] in
    let marks_most : y.1 ≤ x.1 = elim (cases_lt x.1 y.1) [ inl l ↦ absurd (g (inr (e, l))) | inr l ↦ l ] in
    (e, omega arith)
