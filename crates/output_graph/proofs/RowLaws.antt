-- Row cells, and how they keep the heads of the turning.
use Rattle.std.proofs.Common.{◌≡◌, ℕ, ◌<◌, Bool, true, false, List, [], ◌∷◌, ◌++◌, map, Some, inl, inr, refl, sym, ap, ap₂, ◌∙◌, subst, arith, if◌then◌else◌, nat_eq, eq-eqb, ne_eqb}
use Rattle.std.proofs.lemmas.Bool.{cases_eq, eqb-false, cond-true, cond-false}
use Rattle.span_core.specs.Lists.{Has}
use Rattle.node_arena.specs.Words.{Word}
use Rattle.node_arena.specs.Cells.{NamedLink}
use Rattle.output_graph.specs.Turn.{Heads, names, handed, take_newest}
use Rattle.node_arena.specs.Rows.{rows, row_at, HasRow, IsThere, NamedRow}
use Rattle.output_graph.specs.RowLists.{AreMade, handed_entry, row_cell, Keeps}
use Rattle.node_arena.specs.declared.row.Entry.{Entry}
use Rattle.node_arena.specs.declared.row.Entry.TheVariants.{Nothing, Done, Row}
use Rattle.output_graph.proofs.Handing.{names_true}

pub rows_nothing : (store : List NamedRow) → rows store Nothing ≡ []
rows_nothing [] = refl
rows_nothing (r ∷ older) = refl

pub rows_done : (store : List NamedRow) → rows store Done ≡ [] ∷ []
rows_done [] = refl
rows_done (r ∷ older) = refl

-- a newer row cell changes the rows of no entry that was there
pub rows_kept : (older : List NamedRow) (r : NamedRow) (e : Entry) → (HasRow older r.name → ⊥) → IsThere older e → rows (r ∷ older) e ≡ rows older e
rows_kept older r Nothing fresh there = sym (rows_nothing older)
rows_kept older r Done fresh there = sym (rows_done older)
rows_kept older r (Row k) fresh there =
    cond-false (nat_eq r.name k) _ _ (ne_eqb r.name k (λ e. fresh (there.0, there.1, there.2 ∙ sym e)))

pub there_more : (older : List NamedRow) (r : NamedRow) (e : Entry) → IsThere older e → IsThere (r ∷ older) e
there_more older r Nothing there = tt
there_more older r Done there = tt
there_more older r (Row k) there = (there.0, inr there.1, there.2)

-- the rows of the newest
pub rows_newest : (older : List NamedRow) (r : NamedRow) →
    rows (r ∷ older) (Row r.name) ≡ map (λ w. (r.at, r.marks) ∷ w) (rows older r.child) ++ rows older r.next
rows_newest older r = cond-true (nat_eq r.name r.name) _ _ (eq-eqb r.name r.name refl)

-- a row cell's rows, by its child and its next in the whole store
pub rows_at : (store : List NamedRow) (k : ℕ) (r : NamedRow) → AreMade store → row_at store k ≡ Some r →
    (rows store (Row k) ≡ map (λ w. (r.at, r.marks) ∷ w) (rows store r.child) ++ rows store r.next) × IsThere store r.child × IsThere store r.next × (r.child ≡ Nothing → ⊥)
rows_at [] k r made is = cc
rows_at (q ∷ older) k r made is = elim (cases_eq q.name k) as
    (λ _. (rows (q ∷ older) (Row k) ≡ map (λ w. (r.at, r.marks) ∷ w) (rows (q ∷ older) r.child) ++ rows (q ∷ older) r.next) ×
    IsThere (q ∷ older) r.child × IsThere (q ∷ older) r.next × (r.child ≡ Nothing → ⊥)) [
      | inl e ↦
          let found : Some q ≡ Some r = sym (cond-true (nat_eq q.name k) (Some q) (row_at older k) (eq-eqb q.name k e)) ∙ is in
          let same : q ≡ r = cc in
          let child = rows_kept older q q.child made.0.fresh made.0.child_there in
          let next = rows_kept older q q.next made.0.fresh made.0.next_there in
          let here : rows (q ∷ older) (Row k) ≡ map (λ w. (q.at, q.marks) ∷ w) (rows (q ∷ older) q.child) ++ rows (q ∷ older) q.next =
          ap (λ n. rows (q ∷ older) (Row n)) (sym e) ∙ (rows_newest older q ∙ ap₂ (λ xs ys. map (λ (w : Word). (q.at, q.marks) ∷ w) xs ++ ys) (sym child) (sym next)) in
          subst (λ (x : NamedRow). (rows (q ∷ older) (Row k) ≡ map (λ w. (x.at, x.marks) ∷ w) (rows (q ∷ older) x.child) ++ rows (q ∷ older) x.next) ×
          IsThere (q ∷ older) x.child × IsThere (q ∷ older) x.next × (x.child ≡ Nothing → ⊥)) same
          (here, there_more older q q.child made.0.child_there, there_more older q q.next made.0.next_there, made.0.child_some)
      | inr ne ↦
          let further : row_at older k ≡ Some r = sym (cond-false (nat_eq q.name k) (Some q) (row_at older k) (ne_eqb q.name k ne)) ∙ is in
          let t = rows_at older k r made.1 further in
          let child = rows_kept older q r.child made.0.fresh t.1 in
          let next = rows_kept older q r.next made.0.fresh t.2 in
          let skip : rows (q ∷ older) (Row k) ≡ rows older (Row k) = cond-false (nat_eq q.name k) _ _ (ne_eqb q.name k ne) in (
            skip ∙ (t.0 ∙ ap₂ (λ xs ys. map (λ (w : Word). (r.at, r.marks) ∷ w) xs ++ ys) (sym child) (sym next)),
            there_more older q r.child t.1,
            there_more older q r.next t.2,
            t.3,
          )
    ]

-- an entry other than Nothing has a row
pub some_row : (store : List NamedRow) (e : Entry) → AreMade store → IsThere store e → (e ≡ Nothing → ⊥) → (w : Word) × Has (rows store e) w
some_row store Nothing made there some = absurd (some refl)
some_row [] Done made there some = ([], inl refl)
some_row (r ∷ older) Done made there some = ([], inl refl)
some_row [] (Row k) made there some = absurd there.1
some_row (r ∷ older) (Row k) made there some = elim (cases_eq r.name k) as (λ _. (w : Word) × Has (rows (r ∷ older) (Row k)) w) [
  | inl e ↦
      let t = some_row older r.child made.1 made.0.child_there made.0.child_some in
      let in_map = Rattle.span_core.proofs.HasLaws.Has-map (λ (w : Word). (r.at, r.marks) ∷ w) (rows older r.child) t.0 t.1 in
      let is : rows (r ∷ older) (Row k) ≡ map (λ w. (r.at, r.marks) ∷ w) (rows older r.child) ++ rows older r.next =
      ap (λ n. rows (r ∷ older) (Row n)) (sym e) ∙ rows_newest older r in (
        (r.at, r.marks) ∷ t.0,
        subst (λ xs. Has xs ((r.at, r.marks) ∷ t.0)) (sym is)
            (Rattle.span_core.proofs.HasLaws.Has-append_left (map (λ (w : Word). (r.at, r.marks) ∷ w) (rows older r.child)) (rows older r.next) ((r.at, r.marks) ∷ t.0) in_map),
      )
  | inr ne ↦
      let there' : HasRow older k = elim there.1 as (λ _. HasRow older k) [
        | inl is ↦ absurd (ne (ap (λ (x : NamedRow). x.name) is ∙ there.2))
        | inr h ↦ (there.0, h, there.2)
      ] in
      let t = some_row older (Row k) made.1 there' some in
      (t.0, subst (λ xs. Has xs t.0) (sym (cond-false (nat_eq r.name k) _ _ (ne_eqb r.name k ne))) t.1)
]

-- what holds of an entry that is handed, holds of each that may be
module _ (l : NamedLink) (mine new : Entry) (c : ℕ) (old : Entry) (P : Entry → Type 0) where
  handed_by : (a f z : Bool) → P mine → (f ≡ true → z ≡ false → P new) → P old → P (if a then mine else if f then (if z then mine else new) else old)
  handed_by true f z m n o = m
  handed_by false true true m n o = m
  handed_by false true false m n o = n refl refl
  handed_by false false z m n o = o

  pub handed_holds : P mine → (l.from ≡ Some c → 0 < l.marks → P new) → P old → P (handed_entry l mine new c old)
  handed_holds m n o = handed_by (names l.also c) (names l.from c) (nat_eq l.marks 0) m
      (λ f z. n (names_true l.from c f) (let ne : l.marks ≡ 0 → ⊥ = eqb-false l.marks 0 z in grind arith)) o

module _ (l : NamedLink) (mine new : Entry) (c : ℕ) (old : Entry) (store : List NamedRow) (head mine_rows : List Word) where
  abbrev picked : Bool → Bool → Bool → Entry
  picked a f z = if a then mine else if f then (if z then mine else new) else old

  abbrev picked_rows : Bool → Bool → Bool → List Word
  picked_rows a f z = if a then mine_rows else if f then (if z then mine_rows else map (λ w. (l.at, l.marks) ∷ w) mine_rows ++ head) else head

  rows_by : (a f z : Bool) → rows store mine ≡ mine_rows → (f ≡ true → z ≡ false → rows store new ≡ map (λ w. (l.at, l.marks) ∷ w) mine_rows ++ head) → rows store old ≡ head →
      rows store (picked a f z) ≡ picked_rows a f z
  rows_by true f z m n o = m
  rows_by false true true m n o = m
  rows_by false true false m n o = n refl refl
  rows_by false false z m n o = o

  pub handed_rows : rows store mine ≡ mine_rows → (l.from ≡ Some c → 0 < l.marks → rows store new ≡ map (λ w. (l.at, l.marks) ∷ w) mine_rows ++ head) → rows store old ≡ head →
      rows store (handed_entry l mine new c old) ≡ handed l mine_rows c head
  handed_rows m n o = rows_by (names l.also c) (names l.from c) (nat_eq l.marks 0) m
      (λ f z. n (names_true l.from c f) (let ne : l.marks ≡ 0 → ⊥ = eqb-false l.marks 0 z in grind arith)) o

-- a cell without marks, or one whose head is Nothing, is taken: no row cell is made
pub take_keeps : (l : NamedLink) (store : List NamedRow) (entries : ℕ → Entry) (h : Heads) → Keeps store entries h →
    ((c : ℕ) → l.from ≡ Some c → 0 < l.marks → entries l.name ≡ Nothing) →
    Keeps store (λ c. handed_entry l (entries l.name) (entries c) c (entries c)) (take_newest l h)
take_keeps l store entries h k empty = record {
  made = k.made;
  there = λ c. handed_holds l (entries l.name) (entries c) c (entries c) (λ e. IsThere store e) (k.there l.name) (λ f m. k.there c) (k.there c);
  same = λ c. handed_rows l (entries l.name) (entries c) c (entries c) store (h c) (h l.name) (k.same l.name)
      (λ f m.
      let none : h l.name ≡ [] = sym (k.same l.name) ∙ (ap (λ e. rows store e) (empty c f m) ∙ rows_nothing store) in
      k.same c ∙ ap (λ xs. map (λ (w : Word). (l.at, l.marks) ∷ w) xs ++ h c) (sym none))
      (k.same c);
}

-- a cell with marks is taken: a row cell is put in front of the head of `from`
module _ (l : NamedLink) (store : List NamedRow) (entries : ℕ → Entry) (h : Heads) (k : Keeps store entries h)
    (from name : ℕ) (is_from : l.from ≡ Some from) (some : entries l.name ≡ Nothing → ⊥) (fresh : HasRow store name → ⊥) where
  abbrev new_row : NamedRow
  new_row = row_cell name l (entries l.name) (entries from)

  pub put_keeps : Keeps (new_row ∷ store) (λ c. handed_entry l (entries l.name) (Row name) c (entries c)) (take_newest l h)
  put_keeps = record {
    made = (record { fresh = fresh; child_there = k.there l.name; next_there = k.there from; child_some = some }, k.made);
    there = λ c. handed_holds l (entries l.name) (Row name) c (entries c) (λ e. IsThere (new_row ∷ store) e)
        (there_more store new_row (entries l.name) (k.there l.name)) (λ f m. (new_row, inl refl, refl)) (there_more store new_row (entries c) (k.there c));
    same = λ c. handed_rows l (entries l.name) (Row name) c (entries c) (new_row ∷ store) (h c) (h l.name)
        (rows_kept store new_row (entries l.name) fresh (k.there l.name) ∙ k.same l.name)
        (λ f m.
        let is : from ≡ c = let p : Some from ≡ Some c = sym is_from ∙ f in cc in
        let tail : rows store (entries from) ≡ h c = ap (λ n. rows store (entries n)) is ∙ k.same c in
        rows_newest store new_row ∙ ap₂ (λ xs ys. map (λ (w : Word). (l.at, l.marks) ∷ w) xs ++ ys) (k.same l.name) tail)
        (rows_kept store new_row (entries c) fresh (k.there c) ∙ k.same c);
  }
