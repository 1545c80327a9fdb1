-- The ends of the turning, and its beginning from a graph.
use Rattle.std.proofs.Common.{◌≡◌, ◌↔◌, ℕ, ◌<◌, List, [], ◌∷◌, length, Option, Some, None, inl, inr, refl, sym, ap, ◌∙◌, subst, arith, if◌then◌else◌, nat_eq, eq-eqb, ne_eqb}
use Rattle.std.proofs.lemmas.Bool.{cases_eq, cond-true, cond-false}
use Rattle.std.specs.Ordering.{nat_cmp}
use Rattle.std.specs.Cmp.{unsigned_tied}
use Rattle.std.proofs.lemmas.Cmp.{nat_cmp_total}
use Rattle.std.specs.FinMap as map
use Rattle.std.proofs.lemmas.Option.{same_Some}
use Rattle.span_core.specs.Lists.{Has}
use Rattle.node_arena.specs.Words.{Word, words}
use Rattle.node_arena.specs.Cells.{NamedLink, HasCell, Holds, hold, IsLive, held, named}
use Rattle.node_arena.specs.Rows.{NamedRow}
use Rattle.node_arena.specs.Closing.{Entries, first_heads, accepting}
use Rattle.node_arena.specs.declared.row.Entry.{Entry}
use Rattle.node_arena.specs.declared.row.Entry.TheVariants.{Nothing}
use Rattle.output_graph.specs.Forward.{cell_of}
use Rattle.output_graph.specs.Loop.{IsInTurn, AreListed, IsAcceptedBy, IsAccepting}
use Rattle.output_graph.specs.Graph.{Graph, targets, sets_of, HasWord}
use Rattle.output_graph.specs.Sound.{IsSound}
use Rattle.output_graph.proofs.CodeTurn.{code_begins}
use Rattle.output_graph.proofs.LayerLaws.{IsLayer, next_is_layer, has_set_of}
use Rattle.output_graph.proofs.SteppedLaws.{word_in, word_out}
use Rattle.output_graph.proofs.RowLaws.{rows_nothing}

pub none_left : (Accepted : Word → Type 0) (most : ℕ) (cells : List NamedLink) (heads : Entries) (store : List NamedRow) → cells ≡ [] →
    IsInTurn Accepted most cells heads store → AreListed Accepted most store Nothing
none_left Accepted most cells heads store is t = record {
  exact = λ w. (
    (λ h. absurd (subst (λ (xs : List Word). Has xs w) (rows_nothing store) h)),
    (λ a. let r = t.turned.turning.whole w a in absurd (subst (λ (xs : List NamedLink). Has (words xs r.0) r.1) is r.3)),
  );
  in_order = subst (λ (xs : List Word). Rattle.output_graph.specs.Order.AreInOrder xs) (sym (rows_nothing store)) tt;
  made = t.turned.keeps.made;
  led = t.turned.led;
  first_there = tt;
  ascend = λ w h. absurd (subst (λ (xs : List Word). Has xs w) (rows_nothing store) h);
  marked = t.turned.marked;
  few = (let f = t.turned.few in omega arith);
}

-- another way to say what is accepted
pub listed_as : (P Q : Word → Type 0) (most : ℕ) (store : List NamedRow) (first : Entry) → ((w : Word) → P w ↔ Q w) → AreListed P most store first → AreListed Q most store first
listed_as P Q most store first same l = record {
  exact = λ w. ((λ h. (same w).0 ((l.exact w).0 h)), (λ q. (l.exact w).1 ((same w).1 q)));
  in_order = l.in_order;
  made = l.made;
  led = l.led;
  first_there = l.first_there;
  ascend = l.ascend;
  marked = l.marked;
  few = l.few;
}

turn_as : (P Q : Word → Type 0) (most : ℕ) (cells : List NamedLink) (heads : Entries) (store : List NamedRow) → ((w : Word) → P w ↔ Q w) →
    IsInTurn P most cells heads store → IsInTurn Q most cells heads store
turn_as P Q most cells heads store same t = record {
  entries = t.entries;
  turned = record {
    heads = t.turned.heads;
    grown = t.turned.grown;
    turning = record {
      sound = λ c u s hu hs. (same _).0 (t.turned.turning.sound c u s hu hs);
      whole = λ w q. t.turned.turning.whole w ((same w).1 q);
      in_order = t.turned.turning.in_order;
      ascend = t.turned.turning.ascend;
      led = t.turned.turning.led;
      closed = t.turned.turning.closed;
    };
    keeps = t.turned.keeps;
    led = t.turned.led;
    marked = t.turned.marked;
    few = t.turned.few;
  };
  same = t.same;
}

by_cell : (cells : List NamedLink) (a : ℕ) (w : Word) → Has (words cells a) w ↔ IsAcceptedBy cells (Some a) w
by_cell cells a w = ((λ h. (a, refl, h)), (λ r. subst (λ n. Has (words cells n) w) (sym (same_Some a r.0 r.1)) r.2))

none_begins : (heads : Entries) → IsInTurn (λ w. IsAcceptedBy [] None w) 0 [] heads []
none_begins heads = record {
  entries = λ c. Nothing;
  turned = record {
    heads = λ c. [];
    grown = tt;
    turning = record {
      sound = λ c u s hu hs. absurd hu;
      whole = λ w a. (let clash : None ≡ Some a.0 = a.1 in cc);
      in_order = λ c. tt;
      ascend = λ c s there hs. absurd hs;
      led = λ c d s hd from some hs. absurd hd;
      closed = λ c d hd closes. refl;
    };
    keeps = record { made = tt; there = λ c. tt; same = λ c. refl };
    led = tt;
    marked = λ r h. absurd h;
    few = omega arith;
  };
  same = λ c there. absurd there.1;
}

no_live : (holds : Holds) (cells : List NamedLink) → ((c : ℕ) → hold holds c ≡ 0) → {c : ℕ} → IsLive holds cells c → ⊥
no_live holds cells none {c = c} (held h) = let z = none c in omega arith
no_live holds cells none {c = c} (named l has n live) = no_live holds cells none live

no_cells : (cells : List NamedLink) (holds : Holds) → ((c : ℕ) → HasCell cells c ↔ IsLive holds cells c) → ((c : ℕ) → hold holds c ≡ 0) → cells ≡ []
no_cells [] holds live none = refl
no_cells (l ∷ cells) holds live none = absurd (no_live holds (l ∷ cells) none ((live l.name).0 (l, inl refl, refl)))

-- holds that are told cell by cell
got : (o : Option ℕ) (n m : ℕ) → o ≡ (if nat_eq n 0 then None else Some n) → n ≡ m → o ≡ (if nat_eq m 0 then None else Some m)
got o n m is e = is ∙ ap (λ k. if nat_eq k 0 then None else Some k) e

pub accepting_map : (holds : Holds) (accept : Option ℕ) →
    ((c : ℕ) → map.get holds c ≡ (if nat_eq (hold holds c) 0 then None else Some (hold holds c))) → IsAccepting holds accept → holds ≡ accepting accept
accepting_map holds None proper is =
    map.same_map nat_cmp_total map.nat_cmp-IsAntisymmetric holds (accepting None) (λ q. got (map.get holds q) (hold holds q) 0 (proper q) (is q) ∙ sym (map.get-empty nat_cmp q))
accepting_map holds (Some a) proper is =
    map.same_map nat_cmp_total map.nat_cmp-IsAntisymmetric holds (accepting (Some a)) (λ q. elim (cases_eq q a) as (λ _. map.get holds q ≡ map.get (accepting (Some a)) q) [
      | inl e ↦
          let one : hold holds q ≡ 1 = ap (λ n. hold holds n) e ∙ is.0 in
          got (map.get holds q) (hold holds q) 1 (proper q) one
          ∙ sym (map.get-insert nat_cmp_total map.empty a 1 q ∙ cond-true _ (Some 1) (map.get map.empty q) (unsigned_tied q a ∙ eq-eqb q a e))
      | inr ne ↦
          got (map.get holds q) (hold holds q) 0 (proper q) (is.1 q ne)
          ∙ sym (map.get-insert nat_cmp_total map.empty a 1 q ∙ (cond-false _ (Some 1) (map.get map.empty q) (unsigned_tied q a ∙ ne_eqb q a ne) ∙ map.get-empty nat_cmp q))
    ])

-- all sources are ended
module _ (g : Graph) (holds : Holds) (sound : IsSound g holds) (ended : g.stepped ≡ length g.layer) (only : (s : ℕ) → Has (sets_of g.next) s → s ≡ 0) where
  layer : IsLayer g.cells g.next holds
  layer = next_is_layer g holds sound ended

  held_at : (c : ℕ) → 0 < hold holds c → cell_of g.next 0 ≡ Some c
  held_at c h =
      let r = layer.only c h in
      subst (λ n. cell_of g.next n ≡ Some c) (only r.0 (has_set_of g.next r.0 c r.1)) r.1

  unheld : (c : ℕ) → (cell_of g.next 0 ≡ Some c → ⊥) → hold holds c ≡ 0
  unheld c ne = elim (cases_eq (hold holds c) 0) as (λ _. hold holds c ≡ 0) [ inl e ↦ e | inr nz ↦ absurd (ne (held_at c (grind arith))) ]

  pub is_accepting : (accept : Option ℕ) → accept ≡ cell_of g.next 0 → IsAccepting holds accept
  is_accepting None e = λ c. unheld c (λ is. (let clash : None ≡ Some c = e ∙ is in cc))
  is_accepting (Some a) e = (layer.held 0 a (sym e), (λ c ne. unheld c (λ is. ne (same_Some c a (sym is ∙ sym e)))))

  pub turn_ready : ((c : ℕ) → HasCell g.cells c ↔ IsLive holds g.cells c) → (accept : Option ℕ) → accept ≡ cell_of g.next 0 →
      IsInTurn (λ w. IsAcceptedBy g.cells accept w) (length g.cells) g.cells (first_heads accept) []
  turn_ready live None e =
      let none = no_cells g.cells holds live (λ c. unheld c (λ is. (let clash : None ≡ Some c = e ∙ is in cc))) in
      subst (λ (xs : List NamedLink). IsInTurn (λ w. IsAcceptedBy xs None w) (length xs) xs (first_heads None) []) (sym none) (none_begins (first_heads None))
  turn_ready live (Some a) e =
      turn_as (λ w. Has (words g.cells a) w) (λ w. IsAcceptedBy g.cells (Some a) w) (length g.cells) g.cells (first_heads (Some a)) [] (by_cell g.cells a)
      (code_begins g.cells a layer.grown (layer.is_open 0 a (sym e)))

  pub accepted_as : (accept : Option ℕ) → accept ≡ cell_of g.next 0 → (w : Word) → IsAcceptedBy g.cells accept w ↔ HasWord (targets g) 0 w
  accepted_as accept e w = (
    (λ r. word_out g.cells g.next 0 w (r.0, sym e ∙ r.1, r.2)),
    (λ h. let r = word_in g.cells g.next 0 w layer.sets h in (r.0, e ∙ r.1, r.2)),
  )

  pub turned_listed : (accept : Option ℕ) → accept ≡ cell_of g.next 0 → (store : List NamedRow) (first : Entry) → AreListed (λ w. IsAcceptedBy g.cells accept w) (length g.cells) store first →
      AreListed (λ w. HasWord (targets g) 0 w) (length g.cells) store first
  turned_listed accept e store first l =
      listed_as (λ w. IsAcceptedBy g.cells accept w) (λ w. HasWord (targets g) 0 w) (length g.cells) store first (accepted_as accept e) l
