-- The steps of the code's loop.
use Rattle.std.proofs.Common.{◌≡◌, ℕ, ◌<◌, List, [], ◌∷◌, length, Option, Some, None, inl, inr, refl, sym, ap, ◌∙◌, subst, arith, if◌then◌else◌, nat_eq, eq-eqb, ne_eqb}
use Rattle.std.proofs.lemmas.Bool.{cases_eq, cond-true, cond-false}
use Rattle.span_core.specs.Lists.{Has}
use Rattle.node_arena.specs.Words.{Word, words}
use Rattle.node_arena.specs.Cells.{NamedLink, HasCell}
use Rattle.node_arena.specs.Rows.{NamedRow, HasRow, IsThere}
use Rattle.node_arena.specs.Closing.{Entries, head, with_head, first_heads}
use Rattle.node_arena.specs.declared.row.Entry.{Entry}
use Rattle.node_arena.specs.declared.row.Entry.TheVariants.{Nothing, Done, Row}
use Rattle.node_arena.proofs.ClosingViews.{head_here, head_other}
use Rattle.output_graph.specs.Grown.{IsOpen, AreGrown}
use Rattle.output_graph.specs.Turn.{names}
use Rattle.output_graph.specs.RowLists.{handed_entry, row_cell}
use Rattle.output_graph.specs.Loop.{IsInTurn, IsEntryOfFrom, AreListed, first_entries, handed_to}
use Rattle.output_graph.proofs.LoopLaws.{turn_begins, turn_takes, turn_puts, turn_ends}
use Rattle.output_graph.proofs.Heads.{head_first, head_rest}

pub code_begins : (cells : List NamedLink) (accept : ℕ) → AreGrown cells → IsOpen cells accept →
    IsInTurn (λ w. Has (words cells accept) w) (length cells) cells (first_heads (Some accept)) []
code_begins cells accept grown open_ = record {
  entries = first_entries accept;
  turned = turn_begins cells accept (length cells) grown open_ (omega arith);
  same = λ c there. elim (cases_eq c accept) as (λ _. head (first_heads (Some accept)) c ≡ first_entries accept c) [
    | inl e ↦ ap (λ n. head (first_heads (Some accept)) n) e ∙ (head_first accept ∙ sym (cond-true (nat_eq c accept) Done Nothing (eq-eqb c accept e)))
    | inr ne ↦ head_rest accept c ne ∙ sym (cond-false (nat_eq c accept) Done Nothing (ne_eqb c accept ne))
  ];
}

module _ (Accepted : Word → Type 0) (most : ℕ) (l : NamedLink) (older : List NamedLink) (heads : Entries) (store : List NamedRow) (t : IsInTurn Accepted most (l ∷ older) heads store) where
  -- the cell's own entry, and those that it names
  pub own_there : (mine : Entry) → mine ≡ head heads l.name → IsThere store mine
  own_there mine is = subst (λ e. IsThere store e) (sym (is ∙ t.same l.name (l, inl refl, refl))) (t.turned.keeps.there l.name)

  pub from_there : (f : ℕ) → l.from ≡ Some f → HasCell older f
  from_there f is = t.turned.grown.0.from_there f is

  older_same : (c : ℕ) → HasCell older c → head heads c ≡ t.entries c
  older_same c there = t.same c (there.0, inr there.1, there.2)

  module _ (taken : Entries) (kept : (c : ℕ) → HasCell older c → head taken c ≡ head heads c) (f : ℕ) (mine next e : Entry) (after : Entries)
      (from : l.from ≡ Some f) (is_mine : mine ≡ head heads l.name) (is_next : next ≡ head taken f) (is_after : after ≡ handed_to (with_head taken f e) l.also mine) where
    some_from : l.from ≡ None → ⊥
    some_from none = let clash : None ≡ Some f = sym none ∙ from in cc

    mine_entry : mine ≡ t.entries l.name
    mine_entry = is_mine ∙ t.same l.name (l, inl refl, refl)

    next_entry : next ≡ t.entries f
    next_entry = is_next ∙ (kept f (from_there f from) ∙ older_same f (from_there f from))

    module _ (new : Entry) (c : ℕ) (there : HasCell older c) (m : l.marks ≡ 0 → e ≡ mine) (n : 0 < l.marks → f ≡ c → e ≡ new) where
      abbrev inner : Entry
      inner = if names (Some f) c then (if nat_eq l.marks 0 then mine else new) else t.entries c

      chosen : f ≡ c → e ≡ (if nat_eq l.marks 0 then mine else new)
      chosen is = elim (cases_eq l.marks 0) as (λ _. e ≡ (if nat_eq l.marks 0 then mine else new)) [
        | inl z ↦ m z ∙ sym (cond-true (nat_eq l.marks 0) mine new (eq-eqb l.marks 0 z))
        | inr nz ↦ n (grind arith) is ∙ sym (cond-false (nat_eq l.marks 0) mine new (ne_eqb l.marks 0 nz))
      ]

      inner_at : head (with_head taken f e) c ≡ inner
      inner_at = elim (cases_eq f c) as (λ _. head (with_head taken f e) c ≡ inner) [
        | inl is ↦ ap (λ k. head (with_head taken f e) k) (sym is) ∙ (head_here taken f e ∙ (chosen is
            ∙ sym (cond-true (nat_eq f c) (if nat_eq l.marks 0 then mine else new) (t.entries c) (eq-eqb f c is))))
        | inr ne ↦ head_other taken f e c (λ p. ne (sym p)) ∙ (kept c there ∙ (older_same c there
            ∙ sym (cond-false (nat_eq f c) (if nat_eq l.marks 0 then mine else new) (t.entries c) (ne_eqb f c ne))))
      ]

      outer_at : (o : Option ℕ) → head (handed_to (with_head taken f e) o mine) c ≡ (if names o c then mine else inner)
      outer_at None = inner_at
      outer_at (Some a) = elim (cases_eq a c) as (λ _. head (with_head (with_head taken f e) a mine) c ≡ (if names (Some a) c then mine else inner)) [
        | inl same ↦ ap (λ k. head (with_head (with_head taken f e) a mine) k) (sym same)
            ∙ (head_here (with_head taken f e) a mine ∙ sym (cond-true (nat_eq a c) mine inner (eq-eqb a c same)))
        | inr ne ↦ head_other (with_head taken f e) a mine c (λ p. ne (sym p)) ∙ (inner_at ∙ sym (cond-false (nat_eq a c) mine inner (ne_eqb a c ne)))
      ]

      at : head after c ≡ handed_entry l (t.entries l.name) new c (t.entries c)
      at =
          ap (λ (hs : Entries). head hs c) is_after
          ∙ (outer_at l.also
          ∙ (ap (λ o. if names l.also c then mine else if names o c then (if nat_eq l.marks 0 then mine else new) else t.entries c) (sym from)
          ∙ ap (λ x. handed_entry l x new c (t.entries c)) mine_entry))

    same_rows : (rows_after : List NamedRow) → rows_after ≡ store → (0 < l.marks → t.entries l.name ≡ Nothing) → (l.marks ≡ 0 → e ≡ mine) → (0 < l.marks → e ≡ next) →
        IsInTurn Accepted most older after rows_after
    same_rows rows_after same empty m n = subst (λ (xs : List NamedRow). IsInTurn Accepted most older after xs) (sym same) (record {
      entries = λ c. handed_entry l (t.entries l.name) (t.entries c) c (t.entries c);
      turned = turn_takes Accepted most l older t.entries store t.turned some_from (λ c is some. empty some);
      same = λ c there. at (t.entries c) c there m (λ some is. n some ∙ (next_entry ∙ ap (λ k. t.entries k) is));
    })

    new_row : (name : ℕ) (rows_after : List NamedRow) → 0 < l.marks → (mine ≡ Nothing → ⊥) → (HasRow store name → ⊥) → e ≡ Row name → rows_after ≡ row_cell name l mine next ∷ store →
        IsInTurn Accepted most older after rows_after
    new_row name rows_after some has fresh is_row is_rows =
        let put = turn_puts Accepted most l older t.entries store t.turned some_from f name from some (λ none. has (mine_entry ∙ none)) fresh in
        let r : row_cell name l (t.entries l.name) (t.entries f) ∷ store ≡ rows_after =
        ap (λ x. row_cell name l x (t.entries f) ∷ store) (sym mine_entry) ∙ (ap (λ x. row_cell name l mine x ∷ store) (sym next_entry) ∙ sym is_rows) in
        subst (λ (xs : List NamedRow). IsInTurn Accepted most older after xs) r (record {
          entries = λ c. handed_entry l (t.entries l.name) (Row name) c (t.entries c);
          turned = put;
          same = λ c there. at (Row name) c there (λ z. absurd (omega arith)) (λ s is. is_row);
        })

    pub code_step : (rows_after : List NamedRow) → IsEntryOfFrom l.at l.marks mine next store rows_after e → IsInTurn Accepted most older after rows_after
    code_step rows_after (inl a) = same_rows rows_after a.2 (λ some. absurd (let z : l.marks ≡ 0 = a.0 in omega arith)) (λ z. a.1) (λ some. absurd (let z : l.marks ≡ 0 = a.0 in omega arith))
    code_step rows_after (inr (inl a)) = same_rows rows_after a.3 (λ some. sym mine_entry ∙ a.1) (λ z. absurd (let s : 0 < l.marks = a.0 in omega arith)) (λ some. a.2)
    code_step rows_after (inr (inr a)) = new_row a.2.0 rows_after a.0 a.1 a.2.1 a.2.2 a.2.3

pub code_ends : (Accepted : Word → Type 0) (most : ℕ) (l : NamedLink) (older : List NamedLink) (heads : Entries) (store : List NamedRow) (mine : Entry) →
    IsInTurn Accepted most (l ∷ older) heads store → l.from ≡ None → mine ≡ head heads l.name → (older ≡ []) × AreListed Accepted most store mine
code_ends Accepted most l older heads store mine t none is =
    let r = turn_ends Accepted most l older t.entries store t.turned none in
    (r.0, subst (λ (e : Entry). AreListed Accepted most store e) (sym (is ∙ t.same l.name (l, inl refl, refl))) r.1)
