-- The loop of the turning: its beginning, each cell, its end.
use Rattle.std.proofs.Common.{◌≡◌, ◌↔◌, ℕ, ◌<◌, ◌≤◌, Bool, true, false, List, [], ◌∷◌, length, Some, None, inl, inr, refl, sym, ◌∙◌, subst, arith, if◌then◌else◌, nat_eq}
use Rattle.span_core.specs.Lists.{Has}
use Rattle.node_arena.specs.Words.{Word, words}
use Rattle.node_arena.specs.Cells.{NamedLink}
use Rattle.output_graph.specs.Order.{AreInOrder}
use Rattle.output_graph.specs.Grown.{past_at, IsOpen, AreGrown}
use Rattle.output_graph.specs.Turn.{take_newest, start}
use Rattle.node_arena.specs.Rows.{rows, HasRow, IsThere, NamedRow}
use Rattle.output_graph.specs.RowLists.{handed_entry, row_cell}
use Rattle.node_arena.specs.declared.row.Entry.{Entry}
use Rattle.node_arena.specs.declared.row.Entry.TheVariants.{Nothing, Done, Row}
use Rattle.output_graph.specs.Loop.{IsTurned, AreListed, first_entries}
use Rattle.output_graph.proofs.TurnLaws.{turning_step, start_turning, root_turned}
use Rattle.output_graph.proofs.Handing.{handed_same}
use Rattle.output_graph.proofs.OrderLemmas.{ascends_from}
use Rattle.output_graph.proofs.RowLaws.{take_keeps, put_keeps}

first_rows : (b : Bool) → rows [] (if b then Done else Nothing) ≡ (if b then [] ∷ [] else [])
first_rows true = refl
first_rows false = refl

first_there : (b : Bool) → IsThere [] (if b then Done else Nothing)
first_there true = tt
first_there false = tt

pub turn_begins : (cells : List NamedLink) (accept most : ℕ) → AreGrown cells → IsOpen cells accept → length cells ≤ most →
    IsTurned (λ w. Has (words cells accept) w) most cells (first_entries accept) []
turn_begins cells accept most grown open_ few = record {
  heads = start accept;
  grown = grown;
  turning = start_turning cells accept open_;
  keeps = record { made = tt; there = λ c. first_there (nat_eq c accept); same = λ c. first_rows (nat_eq c accept) };
  led = tt;
  marked = λ r h. absurd h;
  few = let f : length cells ≤ most = few in omega arith;
}

module _ (Accepted : Word → Type 0) (most : ℕ) (l : NamedLink) (older : List NamedLink) (entries : ℕ → Entry) (store : List NamedRow)
    (t : IsTurned Accepted most (l ∷ older) entries store) (more : l.from ≡ None → ⊥) where
  pub turn_takes : ((c : ℕ) → l.from ≡ Some c → 0 < l.marks → entries l.name ≡ Nothing) →
      IsTurned Accepted most older (λ c. handed_entry l (entries l.name) (entries c) c (entries c)) store
  turn_takes empty = record {
    heads = take_newest l t.heads;
    grown = t.grown.1;
    turning = turning_step l older t.heads Accepted more t.grown.0 t.turning;
    keeps = take_keeps l store entries t.heads t.keeps empty;
    led = t.led;
    marked = t.marked;
    few = let f = t.few in omega arith;
  }

  pub turn_puts : (from name : ℕ) → l.from ≡ Some from → 0 < l.marks → (entries l.name ≡ Nothing → ⊥) → (HasRow store name → ⊥) →
      IsTurned Accepted most older (λ c. handed_entry l (entries l.name) (Row name) c (entries c)) (row_cell name l (entries l.name) (entries from) ∷ store)
  turn_puts from name is_from marked some fresh = record {
    heads = take_newest l t.heads;
    grown = t.grown.1;
    turning = turning_step l older t.heads Accepted more t.grown.0 t.turning;
    keeps = put_keeps l store entries t.heads t.keeps from name is_from some fresh;
    led = (λ w h. t.turning.led from l w (inl refl) is_from marked (subst (λ xs. Has xs w) (t.keeps.same from) h), t.led);
    marked = λ r h. elim h as (λ _. 0 < r.marks) [
      | inl is ↦ subst (λ (x : NamedRow). 0 < x.marks) is marked
      | inr old ↦ t.marked r old
    ];
    few = let f = t.few in omega arith;
  }

pub turn_ends : (Accepted : Word → Type 0) (most : ℕ) (l : NamedLink) (older : List NamedLink) (entries : ℕ → Entry) (store : List NamedRow) →
    IsTurned Accepted most (l ∷ older) entries store → l.from ≡ None → (older ≡ []) × AreListed Accepted most store (entries l.name)
turn_ends Accepted most l [] entries store t none = (
  refl,
  let can = t.grown.0 in
      let r = root_turned l t.heads Accepted can t.turning in
      let stays : take_newest l t.heads l.name ≡ t.heads l.name =
      handed_same l (t.heads l.name) l.name (t.heads l.name) (λ is. (can.from_there l.name is).1) (λ is. (can.also_there l.name is).1) in
      let same : take_newest l t.heads l.name ≡ rows store (entries l.name) = stays ∙ sym (t.keeps.same l.name) in
      record {
        exact = λ w. subst (λ xs. Has xs w ↔ Accepted w) same (r.0 w);
        in_order = subst AreInOrder same r.1;
        made = t.keeps.made;
        led = t.led;
        first_there = t.keeps.there l.name;
        ascend = λ w h. ascends_from 0 (past_at (l ∷ []) l.name) w (omega arith)
            (t.turning.ascend l.name w (l, inl refl, refl) (subst (λ xs. Has xs w) (t.keeps.same l.name) h));
        marked = t.marked;
        few = let f = t.few in omega arith;
      },
)
turn_ends Accepted most l (m ∷ older) entries store t none = let e = t.grown.0.first_is_root none in cc
