-- The rows of row lists stand in block order.
use Rattle.std.proofs.Common.{◌≡◌, ℕ, ◌+◌, ◌<◌, List, [], ◌∷◌, ◌++◌, map, inl, inr, refl, sym, ap, ◌∙◌, subst, arith, nat_eq, eq-eqb, ne_eqb}
use Rattle.std.proofs.lemmas.Bool.{cases_eq, cases_lt, cond-true, cond-false}
use Rattle.span_core.specs.Blocks.{listed}
use Rattle.span_core.specs.Order.{StandsBefore}
use Rattle.node_arena.specs.declared.row.Entry.{Entry}
use Rattle.node_arena.specs.declared.row.Entry.TheVariants.{Nothing, Done, Row}
use Rattle.span_core.specs.Lists.{Has}
use Rattle.span_core.proofs.HasLaws.{Has-map_cases}
use Rattle.node_arena.specs.Words.{Word}
use Rattle.output_graph.specs.Order.{Before, AreInOrder}
use Rattle.output_graph.specs.Listed.{Lists, AreLists}
use Rattle.node_arena.specs.Rows.{NamedRow, rows, HasRow, IsThere}
use Rattle.output_graph.specs.RowLists.{AreMade, AreLed}
use Rattle.enumerator.specs.Enumeration.{SpanRow, IsWordOfRow, AreInBlockOrder}
use Rattle.enumerator.specs.Rows.{Positions, no_positions, row_under, rows_of}
use Rattle.output_graph.proofs.RowLaws.{rows_nothing, rows_done}
use Rattle.output_graph.proofs.OrderLemmas.{before_by_lead, in_order_map, in_order_append}
use Rattle.enumerator.proofs.SeekLaws.{listed_led}
use Rattle.enumerator.proofs.Words.{AscendsFrom, AreSome, are_some, ascends_from, listed_here, listed_other, listed_before, is_row_of_word}

-- what is led is in order
rows_in_order : (store : List NamedRow) (e : Entry) → AreMade store → AreLed store → IsThere store e → AreInOrder (rows store e)
rows_in_order store Nothing made led there = subst AreInOrder (sym (rows_nothing store)) tt
rows_in_order store Done made led there = subst AreInOrder (sym (rows_done store)) (λ v h. absurd h, tt)
rows_in_order [] (Row k) made led there = tt
rows_in_order (r ∷ older) (Row k) made led there = elim (cases_eq r.name k) as (λ _. AreInOrder (rows (r ∷ older) (Row k))) [
  | inl e ↦
      subst AreInOrder (sym (cond-true (nat_eq r.name k) (map (λ (w : Word). (r.at, r.marks) ∷ w) (rows older r.child) ++ rows older r.next) (rows older (Row k)) (eq-eqb r.name k e)))
      (in_order_append (map (λ (w : Word). (r.at, r.marks) ∷ w) (rows older r.child)) (rows older r.next)
      (in_order_map (r.at, r.marks) (rows older r.child) (rows_in_order older r.child made.1 led.1 made.0.child_there))
      (rows_in_order older r.next made.1 led.1 made.0.next_there)
      (λ x y hx hy.
      let c = Has-map_cases (λ (w : Word). (r.at, r.marks) ∷ w) (rows older r.child) x hx in
      rw (← c.2) (before_by_lead (r.at, r.marks) c.0 y (led.0 y hy))))
  | inr ne ↦
      let further : HasRow older k = elim there.1 as (λ _. HasRow older k) [
        | inl is ↦ absurd (ne (ap (λ (x : NamedRow). x.name) is ∙ there.2))
        | inr h ↦ (there.0, h, there.2)
      ] in
      subst AreInOrder (sym (cond-false (nat_eq r.name k) (map (λ (w : Word). (r.at, r.marks) ∷ w) (rows older r.child) ++ rows older r.next) (rows older (Row k)) (ne_eqb r.name k ne)))
      (rows_in_order older (Row k) made.1 led.1 further)
]

-- ---- rows in order

record IsFirstDifference (u w : Word) : Type 0 where
  at : ℕ
  greater : listed w at < listed u at
  same_below : (i : ℕ) → i < at → listed u i ≡ listed w i

word_differs : (n : ℕ) (u w : Word) → AscendsFrom n u → AscendsFrom n w → AreSome u → Before u w → IsFirstDifference u w
word_differs n [] w up up' some b = absurd b
word_differs n (x ∷ u) [] up up' some b = record {
  at = x.0;
  greater = let e = listed_here x u in let p : 0 < x.1 = some.0 in omega arith;
  same_below = λ i l. listed_before x.0 (x ∷ u) i (omega arith, up.1) l;
}
word_differs n (x ∷ u) (y ∷ w) up up' some (inl lead) =
    let l = listed_led n x (y ∷ w) up' some.0 lead in
    record {
      at = x.0;
      greater = let e = listed_here x u in let p = l.0 in omega arith;
      same_below = λ i less. listed_before x.0 (x ∷ u) i (omega arith, up.1) less ∙ sym (l.1 i less);
    }
word_differs n (x ∷ u) (y ∷ w) up up' some (inr p) =
    let at_is : x.0 ≡ y.0 = ap (λ (z : ℕ × ℕ). z.0) p.0 in
    let marks_is : x.1 ≡ y.1 = ap (λ (z : ℕ × ℕ). z.1) p.0 in
    let further : AscendsFrom (x.0 + 1) w = rw at_is up'.1 in
    let d = word_differs (x.0 + 1) u w up.1 further some.1 p.1 in
    let later : x.0 < d.at = elim (cases_lt x.0 d.at) [
      | inl l ↦ l
      | inr ge ↦ absurd (let z = listed_before (x.0 + 1) u d.at up.1 (omega arith) in let g = d.greater in omega arith)
    ] in
    record {
      at = d.at;
      greater =
          let a = listed_other x u d.at (λ e. omega (arith, e)) in
          let b = listed_other y w d.at (λ e. omega (arith, e)) in
          let g = d.greater in
          omega arith;
      same_below = λ i l. elim (cases_eq x.0 i) [
        | inl e ↦
            let a : listed (x ∷ u) i ≡ x.1 = ap (listed (x ∷ u)) (sym e) ∙ listed_here x u in
            let b : listed (y ∷ w) i ≡ y.1 = ap (listed (y ∷ w)) (sym e ∙ at_is) ∙ listed_here y w in
            a ∙ (marks_is ∙ sym b)
        | inr ne ↦ listed_other x u i ne ∙ (d.same_below i l ∙ sym (listed_other y w i (λ e. ne (at_is ∙ e))))
      ];
    }

row_stands : (v : ℕ) (P : Positions) (u w : Word) → IsWordOfRow v u → IsWordOfRow v w → Before u w → StandsBefore (row_under v 0 P u) (row_under v 0 P w)
row_stands v P u w hu hw b =
    let d = word_differs 0 u w (ascends_from 0 u hu.0.0 (λ e l. omega arith)) (ascends_from 0 w hw.0.0 (λ e l. omega arith)) (are_some u hu.0.1) b in
    let first = is_row_of_word v P u hu in
    let second = is_row_of_word v P w hw in
    record {
      at = d.at;
      greater = let a = first.blocks_are d.at in let c = second.blocks_are d.at in let g = d.greater in omega arith;
      same_below = λ i l. first.blocks_are i ∙ (d.same_below i l ∙ sym (second.blocks_are i));
    }

rows_stand : (v : ℕ) (P : Positions) (ws : List Word) → ((w : Word) → Has ws w → IsWordOfRow v w) → AreInOrder ws → AreInBlockOrder (map (row_under v 0 P) ws)
rows_stand v P [] words order = tt
rows_stand v P (w ∷ ws) words order = (
  λ q h.
      let c = Has-map_cases (row_under v 0 P) ws q h in
      rw (← c.2) (row_stands v P w c.0 (words w (inl refl)) (words c.0 (inr c.1)) (order.0 c.0 c.1)),
  rows_stand v P ws (λ u h. words u (inr h)) order.1,
)

pub whole_in_order : (lists : Lists) (v : ℕ) → AreLists lists → ((w : Word) → Has (rows lists.store lists.first) w → IsWordOfRow v w) → AreInBlockOrder (rows_of lists v)
whole_in_order lists v sound words =
    rows_stand v no_positions (rows lists.store lists.first) words (rows_in_order lists.store lists.first sound.made sound.led sound.there)
