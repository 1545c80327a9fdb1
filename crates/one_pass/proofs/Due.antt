-- Look-ups that have to be told, of places one after another.
use Rattle.std.proofs.Common.{◌≡◌, ℕ, ◌⊎◌, List, [], ◌∷◌, ◌++◌, map, inl, inr, refl, sym, ap, subst, ◌∙◌, append_assoc}
use Rattle.span_core.specs.Lists.{Has}
use Rattle.span_core.proofs.HasLaws.{Has-append_left, Has-append_right, Has-map}
use Rattle.marked_automaton.specs.Automaton.{Automaton}
use Rattle.automaton_reading.specs.Reading.{LookUp, look_ups_asked, next_sets}
use Rattle.one_pass.specs.Places.{ReadingPlace, asks, sets_after}
use Rattle.one_pass.specs.Waiting.{LeadsHome}
use Rattle.one_pass.specs.Weights.{IsDue}
use Rattle.one_pass.proofs.Sets.{Covers, after_append, after_covers, look_up_asked}

asks_both : (ps qs : List ReadingPlace) → asks (ps ++ qs) ≡ asks ps ++ asks qs
asks_both [] qs = refl
asks_both (p ∷ ps) qs = ap (λ questions. p.ask ∷ questions) (asks_both ps qs)

head_is : {X : Type 0} {x y : X} {xs ys : List X} → x ∷ xs ≡ y ∷ ys → x ≡ y
head_is {X} {x} {y} {xs} {ys} e = cc

tail_is : {X : Type 0} {x y : X} {xs ys : List X} → x ∷ xs ≡ y ∷ ys → xs ≡ ys
tail_is {X} {x} {y} {xs} {ys} e = cc

-- a place of two lists, one behind the other, is in the first or in the second
pub split_cases : (ps qs before : List ReadingPlace) (p : ReadingPlace) (after : List ReadingPlace) → before ++ p ∷ after ≡ ps ++ qs →
    ((mid : List ReadingPlace) × (before ++ p ∷ mid ≡ ps) × (mid ++ qs ≡ after)) ⊎ ((mid : List ReadingPlace) × (ps ++ mid ≡ before) × (mid ++ p ∷ after ≡ qs))
split_cases [] qs before p after e = inr (before, refl, e)
split_cases (x ∷ ps) qs [] p after e = inl (ps, ap (λ y. y ∷ ps) (head_is e), sym (tail_is e))
split_cases (x ∷ ps) qs (y ∷ before) p after e =
    elim (split_cases ps qs before p after (tail_is e)) as (λ _. ((mid : List ReadingPlace) × (y ∷ before ++ p ∷ mid ≡ x ∷ ps) × (mid ++ qs ≡ after))
    ⊎ ((mid : List ReadingPlace) × (x ∷ ps ++ mid ≡ y ∷ before) × (mid ++ p ∷ after ≡ qs))) [
      | inl h ↦ inl (h.0, ap (λ z. z ∷ before ++ p ∷ h.0) (head_is e) ∙ ap (λ zs. x ∷ zs) h.1, h.2)
      | inr h ↦ inr (h.0, ap (λ z. z ∷ ps ++ h.0) (sym (head_is e)) ∙ ap (λ zs. y ∷ zs) h.1, h.2)
    ]

module _ (A : Automaton) where
  asked_there : (before : List ReadingPlace) (p : ReadingPlace) (after : List ReadingPlace) (sets : List (List ℕ)) (r : LookUp) → Has (sets_after A sets (asks before)) r.set → p.ask ≡ r.ask →
      Has (look_ups_asked A sets (asks (before ++ p ∷ after))) r
  asked_there [] p after sets r set ask =
      let here : Has (map (look_up_asked A p.ask) sets) (look_up_asked A p.ask r.set) = Has-map (look_up_asked A p.ask) sets r.set set in
      Has-append_left (map (look_up_asked A p.ask) sets) (look_ups_asked A (next_sets A sets p.ask) (asks after)) r
      (subst (Has (map (look_up_asked A p.ask) sets)) (ap (λ a. look_up_asked A a r.set) ask) here)
  asked_there (q ∷ before) p after sets r set ask =
      Has-append_right (map (look_up_asked A q.ask) sets) (look_ups_asked A (next_sets A sets q.ask) (asks (before ++ p ∷ after))) r
      (asked_there before p after (next_sets A sets q.ask) r set ask)

  -- what has to be told is asked
  pub due_asked : (sets : List (List ℕ)) (ps : List ReadingPlace) (r : LookUp) → IsDue A sets ps r → Has (look_ups_asked A sets (asks ps)) r
  due_asked sets ps r due = subst (λ (qs : List ReadingPlace). Has (look_ups_asked A sets (asks qs)) r) due.split (asked_there due.before due.place due.after sets r due.set due.ask)

  -- where each set leads back over all places, nothing has to be told
  pub none_due : (sets : List (List ℕ)) (ps : List ReadingPlace) → ((s : List ℕ) → Has sets s → LeadsHome A ps s) → (r : LookUp) → IsDue A sets ps r → ⊥
  none_due sets ps home r due =
      due.apart (record {
        early = [];
        first = due.before;
        last = due.after;
        late = [];
        front = refl;
        rest = append_none due.after;
        back = λ s h. subst (λ qs. LeadsHome A qs s) (sym due.split) (home s h);
      })
    where
      append_none : (xs : List ReadingPlace) → xs ++ [] ≡ xs
      append_none [] = refl
      append_none (x ∷ xs) = ap (λ ys. x ∷ ys) (append_none xs)

  -- of places behind others, each has to be told there, from any sets that are reached by the first
  pub due_cases : (sets middle : List (List ℕ)) (ps qs : List ReadingPlace) → Covers middle (sets_after A sets (asks ps)) → Covers (sets_after A sets (asks ps)) middle →
      (r : LookUp) → IsDue A sets (ps ++ qs) r → IsDue A sets ps r ⊎ IsDue A middle qs r
  due_cases sets middle ps qs more less r due =
      elim (split_cases ps qs due.before due.place due.after due.split) as (λ _. IsDue A sets ps r ⊎ IsDue A middle qs r) [
        | inl h ↦ inl (record {
          before = due.before;
          place = due.place;
          after = h.0;
          split = h.1;
          set = due.set;
          ask = due.ask;
          apart = λ b. due.apart (record {
            early = b.early;
            first = b.first;
            last = b.last;
            late = b.late ++ qs;
            front = b.front;
            rest = sym (append_assoc b.last b.late qs) ∙ (ap (λ xs. xs ++ qs) b.rest ∙ h.2);
            back = b.back;
          });
        })
        | inr h ↦ inr (record {
          before = h.0;
          place = due.place;
          after = due.after;
          split = h.2;
          set =
              after_covers A middle (sets_after A sets (asks ps)) (asks h.0) more r.set
              (subst (λ ss. Has ss r.set) (two h.0) (subst (λ xs. Has (sets_after A sets (asks xs)) r.set) (sym h.1) due.set));
          ask = due.ask;
          apart = λ b. due.apart (record {
            early = ps ++ b.early;
            first = b.first;
            last = b.last;
            late = b.late;
            front = append_assoc ps b.early b.first ∙ (ap (λ xs. ps ++ xs) b.front ∙ h.1);
            rest = b.rest;
            back = λ s k. b.back s (after_covers A middle (sets_after A sets (asks ps)) (asks b.early) more s (subst (λ ss. Has ss s) (two b.early) k));
          });
        })
      ]
    where
      two : (xs : List ReadingPlace) → sets_after A sets (asks (ps ++ xs)) ≡ sets_after A (sets_after A sets (asks ps)) (asks xs)
      two xs = ap (sets_after A sets) (asks_both ps xs) ∙ after_append A sets (asks ps) (asks xs)
