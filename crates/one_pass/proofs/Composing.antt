-- Places that are read one after another.
use Rattle.std.proofs.Common.{◌≡◌, ℕ, ◌+◌, ◌≤◌, ◌<◌, ◌⊎◌, List, [], ◌∷◌, ◌++◌, length, get_or, map, inl, inr, refl, sym, ap, subst, arith, ◌∙◌, append_assoc, length-append}
use Rattle.std.proofs.lemmas.List.{append-nil, get_or_append_left}
use Rattle.span_core.specs.Lists.{Has, AreDistinct}
use Rattle.span_core.proofs.HasLaws.{Has-append_left, Has-append_right, Has-append_cases, Has-map, Has-map_cases}
use Rattle.marked_automaton.specs.Automaton.{Automaton}
use Rattle.automaton_reading.specs.Reading.{Question, byte_read, rest_taken, ended, LookUp, next_sets, look_ups_asked}
use Rattle.set_table.specs.Tabled.{Tabled}
use Rattle.numbered_lists.specs.Numbered.{set_at}
use Rattle.numbered_lists.proofs.SetsLaws.{number_told}
use Rattle.node_arena.specs.Words.{Word}
use Rattle.output_graph.specs.Graph.{Source, sources}
use Rattle.one_pass.specs.Places.{ReadingPlace, Leads, asks, edges_read, sets_after, sets_met, sets_on}
use Rattle.one_pass.specs.Passes.{Progress, sets_of, Reaches, IsReadyAt, HasGrown, HasRead, HasStopped, HasStoppedAt, Stop, IsExcess, weight_of}
use Rattle.one_pass.specs.Making.{making_read}
use Rattle.one_pass.specs.Weights.{IsDue, Tells}
use Rattle.one_pass.proofs.Due.{due_cases}
use Rattle.one_pass.proofs.GraphLaws.{whole_sets}
use Rattle.one_pass.proofs.Making.{making_append, making_covers}
use Rattle.one_pass.proofs.ReadWords.{leads_then, then_leads}
use Rattle.one_pass.proofs.Telling.{tells_grown}
use Rattle.one_pass.proofs.Sets.{Covers, after_covers, met_covers, look_ups_covers, edges_covers, after_append, edges_append, met_left, met_right, look_ups_left, look_ups_right, weight_covers}

pub asks_append : (ps qs : List ReadingPlace) → asks (ps ++ qs) ≡ asks ps ++ asks qs
asks_append [] qs = refl
asks_append (p ∷ ps) qs = ap (λ questions. p.ask ∷ questions) (asks_append ps qs)

-- ---- the sets of a layer are distinct

layer_distinct : (t : Tabled) (layer : List Source) → AreDistinct t.sets → ((x : Source) → Has layer x → x.set < length t.sets) →
    AreDistinct (map (λ (x : Source). x.set) layer) → AreDistinct (map (λ (x : Source). set_at t.sets x.set) layer)
layer_distinct t [] sound given apart = tt
layer_distinct t (x ∷ layer) sound given apart = (
  λ h.
      let y = Has-map_cases (λ (y : Source). set_at t.sets y.set) layer (set_at t.sets x.set) h in
      let same = number_told t.sets y.0.set x.set sound (given y.0 (inr y.1)) (given x (inl refl)) y.2 in
      apart.0 (subst (Has (map (λ (y : Source). y.set) layer)) same (Has-map (λ (y : Source). y.set) layer y.0 y.1)),
  layer_distinct t layer sound (λ y h. given y (inr h)) apart.1,
)

pub ready_distinct : (P : Progress) (at : ℕ) → IsReadyAt P.table P.graph at → AreDistinct (sets_of P)
ready_distinct P at r = layer_distinct P.table (sources P.graph) r.sound.sets_apart r.given (rw (whole_sets P.graph r.fresh.0) r.apart)

-- ---- what a table holds

pub grown_named : (old new : Tabled) (sets : List (List ℕ)) (look_ups : List LookUp) → HasGrown old new sets look_ups → (k : ℕ) → k < length old.sets → set_at new.sets k ≡ set_at old.sets k
grown_named old new sets look_ups g k h =
    ap (λ (xs : List (List ℕ)). get_or xs k []) (sym g.kept.1) ∙ get_or_append_left old.sets g.kept.0 [] k h

pub grown_length : (old new : Tabled) (sets : List (List ℕ)) (look_ups : List LookUp) → HasGrown old new sets look_ups → length old.sets ≤ length new.sets
grown_length old new sets look_ups g = omega (arith, ap length g.kept.1, length-append old.sets g.kept.0)

pub grown_then : (a b c : Tabled) (xs ys zs : List (List ℕ)) (rs qs os : List LookUp) → HasGrown a b xs rs → HasGrown b c ys qs →
    Covers zs xs → Covers zs ys → Covers os rs → Covers os qs → HasGrown a c zs os
grown_then a b c xs ys zs rs qs os g h zx zy or oq = record {
  graph = h.graph ∙ g.graph;
  limit = h.limit ∙ g.limit;
  kept = (g.kept.0 ++ h.kept.0, sym (append_assoc a.sets g.kept.0 h.kept.0) ∙ (ap (λ ss. ss ++ h.kept.0) g.kept.1 ∙ h.kept.1));
  sets = λ set k. elim (h.sets set k) as (λ _. Has a.sets set ⊎ Has zs set) [
    | inl old ↦ elim (g.sets set old) as (λ _. Has a.sets set ⊎ Has zs set) [ inl o ↦ inl o | inr n ↦ inr (zx set n) ]
    | inr new ↦ inr (zy set new)
  ];
  look_ups = λ look_up k. elim (h.look_ups look_up k) as (λ _. Has a.look_ups look_up ⊎ Has os look_up) [
    | inl old ↦ elim (g.look_ups look_up old) as (λ _. Has a.look_ups look_up ⊎ Has os look_up) [ inl o ↦ inl o | inr n ↦ inr (or look_up n) ]
    | inr new ↦ inr (oq look_up new)
  ];
  stay = λ look_up k. h.stay look_up (g.stay look_up k);
}

pub grown_none : (t : Tabled) (sets : List (List ℕ)) (look_ups : List LookUp) → HasGrown t t sets look_ups
grown_none t sets look_ups = record { graph = refl; limit = refl; kept = ([], append-nil t.sets); sets = λ set h. inl h; look_ups = λ look_up h. inl h; stay = λ look_up h. h }

pub grown_more : (a b : Tabled) (xs zs : List (List ℕ)) (rs os : List LookUp) → HasGrown a b xs rs → Covers zs xs → Covers os rs → HasGrown a b zs os
grown_more a b xs zs rs os g zx or = grown_then a b b xs xs zs rs rs os g (grown_none b xs rs) zx zx or or

-- what is more than the limit at a later time was so before
pub excess_grown : (a b : Tabled) (xs ys zs : List (List ℕ)) (rs qs os : List LookUp) (weight : ℕ) → HasGrown a b xs rs → IsExcess b ys qs weight →
    Covers zs xs → Covers zs ys → Covers os rs → Covers os qs → IsExcess a zs os weight
excess_grown a b xs ys zs rs qs os weight g x zx zy or oq = record {
  more = subst (λ l. l < weight) g.limit x.more;
  most =
      let same : weight ≤ weight_of a.graph (b.sets ++ ys) (b.look_ups ++ qs) = subst (λ A. weight ≤ weight_of A (b.sets ++ ys) (b.look_ups ++ qs)) g.graph x.most in
      let less = weight_covers a.graph (a.sets ++ zs) (b.sets ++ ys) (a.look_ups ++ os) (b.look_ups ++ qs) some_set some_look_up in
      omega (arith, less, same);
}
  where
    some_set : Covers (a.sets ++ zs) (b.sets ++ ys)
    some_set set h =
        elim (Has-append_cases b.sets ys set h) [
          | inl old ↦ elim (g.sets set old) [
            | inl o ↦ Has-append_left a.sets zs set o
            | inr n ↦ Has-append_right a.sets zs set (zx set n)
          ]
          | inr new ↦ Has-append_right a.sets zs set (zy set new)
        ]

    some_look_up : Covers (a.look_ups ++ os) (b.look_ups ++ qs)
    some_look_up look_up h =
        elim (Has-append_cases b.look_ups qs look_up h) [
          | inl old ↦ elim (g.look_ups look_up old) [
            | inl o ↦ Has-append_left a.look_ups os look_up o
            | inr n ↦ Has-append_right a.look_ups os look_up (or look_up n)
          ]
          | inr new ↦ Has-append_right a.look_ups os look_up (oq look_up new)
        ]

-- ---- two lists of places

module _ (A : Automaton) (ps qs : List ReadingPlace) (P Q : Progress) (read : HasRead A ps P Q) where
  covers : Covers (sets_after A (sets_of P) (asks ps)) (sets_of Q)
  covers set h = (read.sets set).0 h

  all_asks : asks (ps ++ qs) ≡ asks ps ++ asks qs
  all_asks = asks_append ps qs

  pub met_first : Covers (sets_met A (sets_of P) (asks (ps ++ qs))) (sets_met A (sets_of P) (asks ps))
  met_first set h = subst (λ questions. Has (sets_met A (sets_of P) questions) set) (sym all_asks) (met_left A (sets_of P) (asks ps) (asks qs) set h)

  pub met_then : Covers (sets_met A (sets_of P) (asks (ps ++ qs))) (sets_met A (sets_of Q) (asks qs))
  met_then set h =
      subst (λ questions. Has (sets_met A (sets_of P) questions) set) (sym all_asks)
      (met_right A (sets_of P) (asks ps) (asks qs) set (met_covers A (sets_after A (sets_of P) (asks ps)) (sets_of Q) (asks qs) covers set h))

  pub look_ups_first : Covers (look_ups_asked A (sets_of P) (asks (ps ++ qs))) (look_ups_asked A (sets_of P) (asks ps))
  look_ups_first look_up h = subst (λ questions. Has (look_ups_asked A (sets_of P) questions) look_up) (sym all_asks) (look_ups_left A (sets_of P) (asks ps) (asks qs) look_up h)

  pub look_ups_then : Covers (look_ups_asked A (sets_of P) (asks (ps ++ qs))) (look_ups_asked A (sets_of Q) (asks qs))
  look_ups_then look_up h =
      subst (λ questions. Has (look_ups_asked A (sets_of P) questions) look_up) (sym all_asks)
      (look_ups_right A (sets_of P) (asks ps) (asks qs) look_up (look_ups_covers A (sets_after A (sets_of P) (asks ps)) (sets_of Q) (asks qs) covers look_up h))

  edges_both : AreDistinct (sets_of Q) →
      edges_read A (sets_of P) (asks ps) + edges_read A (sets_of Q) (asks qs) ≤ edges_read A (sets_of P) (asks (ps ++ qs))
  edges_both distinct =
      let less = edges_covers A (sets_after A (sets_of P) (asks ps)) (sets_of Q) (asks qs) distinct covers in
      let all = ap (edges_read A (sets_of P)) all_asks ∙ edges_append A (sets_of P) (asks ps) (asks qs) in
      omega (arith, less, all)

  making_both : AreDistinct (sets_of Q) →
      making_read A (sets_of P) (asks ps) + making_read A (sets_of Q) (asks qs) ≤ making_read A (sets_of P) (asks (ps ++ qs))
  making_both distinct =
      let less = making_covers A (sets_after A (sets_of P) (asks ps)) (sets_of Q) (asks qs) distinct covers in
      let all = ap (making_read A (sets_of P)) all_asks ∙ making_append A (sets_of P) (asks ps) (asks qs) in
      omega (arith, less, all)

  pub read_then : (R : Progress) → AreDistinct (sets_of Q) → HasRead A qs Q R → HasRead A (ps ++ qs) P R
  read_then R distinct later = record {
    words = λ set w. (there set w, back set w);
    sets = λ set. (
      λ h.
          subst (λ sets. Has sets set) (sym all_after)
          (after_covers A (sets_after A (sets_of P) (asks ps)) (sets_of Q) (asks qs) covers set ((later.sets set).0 h)),
      λ h.
          (later.sets set).1
          (after_covers A (sets_of Q) (sets_after A (sets_of P) (asks ps)) (asks qs) (λ s k. (read.sets s).1 k) set (subst (λ sets. Has sets set) all_after h)),
    );
    table = grown_then P.table Q.table R.table
        (sets_met A (sets_of P) (asks ps)) (sets_met A (sets_of Q) (asks qs)) (sets_met A (sets_of P) (asks (ps ++ qs)))
        (look_ups_asked A (sets_of P) (asks ps)) (look_ups_asked A (sets_of Q) (asks qs)) (look_ups_asked A (sets_of P) (asks (ps ++ qs)))
        read.table later.table met_first met_then look_ups_first look_ups_then;
    tells = all_told;
    steps = omega (arith, read.steps, later.steps, edges_both distinct);
    cells = omega (arith, read.cells, later.cells, edges_both distinct);
    rise = omega (arith, read.rise, later.rise, making_both distinct);
  }
    where
      all_after : sets_after A (sets_of P) (asks (ps ++ qs)) ≡ sets_after A (sets_after A (sets_of P) (asks ps)) (asks qs)
      all_after = ap (sets_after A (sets_of P)) all_asks ∙ after_append A (sets_of P) (asks ps) (asks qs)

      all_told : (look_up : LookUp) → IsDue A (sets_of P) (ps ++ qs) look_up → Tells R.table look_up
      all_told look_up due =
          elim (due_cases A (sets_of P) (sets_of Q) ps qs (λ s k. (read.sets s).1 k) covers look_up due) as (λ _. Tells R.table look_up) [
            | inl first ↦ tells_grown Q.table R.table (sets_met A (sets_of Q) (asks qs)) (look_ups_asked A (sets_of Q) (asks qs)) later.table look_up (read.tells look_up first)
            | inr last ↦ later.tells look_up last
          ]

      there : (set : List ℕ) (w : Word) → Reaches R set w →
          (from : List ℕ) × (u v : Word) × Reaches P from u × Leads A (ps ++ qs) from v set × (u ++ v ≡ w)
      there set w h =
          let r = (later.words set w).0 h in
          let l = (read.words r.0 r.1).0 r.3 in (
            l.0,
            l.1,
            l.2 ++ r.2,
            l.3,
            leads_then A ps qs l.0 set r.0 l.2 r.2 l.4 r.4,
            sym (append_assoc l.1 l.2 r.2) ∙ (ap (λ x. x ++ r.2) l.5 ∙ r.5),
          )

      back : (set : List ℕ) (w : Word) → (from : List ℕ) × (u v : Word) × Reaches P from u × Leads A (ps ++ qs) from v set × (u ++ v ≡ w) → Reaches R set w
      back set w h =
          let s = then_leads A ps qs h.0 set h.2 h.4 in
          (later.words set w).1 (
            s.0,
            h.1 ++ s.1,
            s.2,
            (read.words s.0 (h.1 ++ s.1)).1 (h.0, h.1, s.1, h.3, s.3, refl),
            s.4,
            append_assoc h.1 s.1 s.2 ∙ (ap (λ x. h.1 ++ x) s.5 ∙ h.5),
          )

  pub stopped_then : (after : Stop) → AreDistinct (sets_of Q) → HasStopped A qs Q after → HasStopped A (ps ++ qs) P after
  stopped_then after distinct later = record {
    table = grown_then P.table Q.table after.table
        (sets_met A (sets_of P) (asks ps)) (sets_met A (sets_of Q) (asks qs)) (sets_met A (sets_of P) (asks (ps ++ qs)))
        (look_ups_asked A (sets_of P) (asks ps)) (look_ups_asked A (sets_of Q) (asks qs)) (look_ups_asked A (sets_of P) (asks (ps ++ qs)))
        read.table later.table met_first met_then look_ups_first look_ups_then;
    sound = later.sound;
    made = later.made;
    distinct = later.distinct;
    few = later.few;
    look_ups = λ look_up h. elim (later.look_ups look_up h) as (λ _. Has P.table.look_ups look_up ⊎ Has (look_ups_asked A (sets_of P) (asks (ps ++ qs))) look_up) [
      | inl old ↦ elim (read.table.look_ups look_up old) as (λ _. Has P.table.look_ups look_up ⊎ Has (look_ups_asked A (sets_of P) (asks (ps ++ qs))) look_up) [
        | inl o ↦ inl o
        | inr n ↦ inr (look_ups_first look_up n)
      ]
      | inr new ↦ inr (look_ups_then look_up new)
    ];
    steps = omega (arith, read.steps, later.steps, edges_both distinct);
  }

-- what one place leads to
pub on_met : (A : Automaton) (sets : List (List ℕ)) (a : Question) → Covers (sets_met A sets (a ∷ [])) (sets_on A sets a)
on_met A sets (byte_read b) set k = Has-append_right sets (next_sets A sets (byte_read b)) set k
on_met A sets rest_taken set k = Has-append_right sets (next_sets A sets rest_taken) set k
on_met A sets ended set k = absurd k

-- what was given up at one place
pub stopped_at : (A : Automaton) (p : ReadingPlace) (P : Progress) (S : Stop) → HasStoppedAt A p P S → HasStopped A (p ∷ []) P S
stopped_at A p P S s = record {
  table = grown_more P.table S.table (sets_on A (sets_of P) p.ask) (sets_met A (sets_of P) (p.ask ∷ []))
      (look_ups_asked A (sets_of P) (p.ask ∷ [])) (look_ups_asked A (sets_of P) (p.ask ∷ [])) s.table (on_met A (sets_of P) p.ask) (λ look_up h. h);
  sound = s.sound;
  made = s.made;
  distinct = s.distinct;
  few = s.few;
  look_ups = s.look_ups;
  steps = omega (arith, s.steps);
}

-- ---- what was given up before more places

module _ (A : Automaton) (ps qs : List ReadingPlace) (P : Progress) where
  pub stopped_before : (after : Stop) → HasStopped A ps P after → HasStopped A (ps ++ qs) P after
  stopped_before after s = record {
    table = grown_more P.table after.table
        (sets_met A (sets_of P) (asks ps)) (sets_met A (sets_of P) (asks (ps ++ qs)))
        (look_ups_asked A (sets_of P) (asks ps)) (look_ups_asked A (sets_of P) (asks (ps ++ qs))) s.table
        (λ set h. subst (λ questions. Has (sets_met A (sets_of P) questions) set) (sym (asks_append ps qs)) (met_left A (sets_of P) (asks ps) (asks qs) set h))
        (λ look_up h. subst (λ questions. Has (look_ups_asked A (sets_of P) questions) look_up) (sym (asks_append ps qs)) (look_ups_left A (sets_of P) (asks ps) (asks qs) look_up h));
    sound = s.sound;
    made = s.made;
    distinct = s.distinct;
    few = s.few;
    look_ups = λ look_up h. elim (s.look_ups look_up h) as (λ _. Has P.table.look_ups look_up ⊎ Has (look_ups_asked A (sets_of P) (asks (ps ++ qs))) look_up) [
      | inl old ↦ inl old
      | inr new ↦ inr (subst (λ questions. Has (look_ups_asked A (sets_of P) questions) look_up) (sym (asks_append ps qs)) (look_ups_left A (sets_of P) (asks ps) (asks qs) look_up new))
    ];
    steps =
        let all = ap (edges_read A (sets_of P)) (asks_append ps qs) ∙ edges_append A (sets_of P) (asks ps) (asks qs) in
        omega (arith, s.steps, all);
  }
