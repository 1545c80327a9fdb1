-- Bytes on which a set stays.
use Rattle.std.proofs.Common.{◌≡◌, ℕ, zero, suc, ◌+◌, ◌-◌, ◌<◌, ◌≤◌, ◌⊎◌, true, false, List, [], ◌∷◌, ◌++◌, length, map, get_or, set as put, Result, Ok, Err, inl, inr, refl, sym, ap, subst, arith, ◌∙◌, append_assoc, length-append}
use Rattle.std.specs.Prelude.{OnErr, IsTrue, ◌↔◌}
use Rattle.std.specs.Ordering.{nat_cmp}
use Rattle.std.specs.FinSet.{contains-empty}
use Rattle.std.proofs.lemmas.Bool.{cases_lt}
use Rattle.std.specs.FinSet as bytes
use Rattle.span_core.specs.declared.edge.Edge.{Edge}
use Rattle.span_core.specs.Lists.{Has, AreDistinct, IsInOrder}
use Rattle.automaton_reading.specs.Reading.{Reach, LookUp, byte_read, edges}
use Rattle.span_core.proofs.HasLaws.{Has-get_or, Has-map, Has-map_cases, Has-append_cases, Has-append_left, Has-append_right}
use Rattle.marked_automaton.specs.Automaton.{Automaton}
use Rattle.marked_automaton.proofs.Listed.{same_or_not}
use Rattle.std.proofs.Math.Seq.{get_or-append_right}
use Rattle.std.proofs.lemmas.List.{append-nil, get_or-set_same, get_or-set_other, get_or_append_left, get_or_past}
use Rattle.set_table.specs.declared.answer.TableQuestion.TheVariants.{Byte, Ends}
use Rattle.set_table.specs.declared.answer.TableQuestion.{TableQuestion}
use Rattle.set_table.specs.declared.answer.Answer.{Answer}
use Rattle.numbered_lists.specs.Numbered.{IsLongerBy, set_at}
use Rattle.set_table.specs.Answered.{AreStays, IsHeld, IsNoted, LeadsBack, question_of, look_up_of, look_ups_of, part}
use Rattle.set_table.proofs.HeldLaws.{edges_are, same_question}
use Rattle.numbered_lists.proofs.SetsLaws.{number_told}
use Rattle.set_table.proofs.StayingLaws.{Sets}
use Rattle.set_table.specs.Tabled.{HasEdges, HasStayed, IsStateSet, Stays, Tabled, edge_named, look_up, one_edge}

-- one edge that goes to the set itself
pub stays_there : (t : Tabled) (k b : ℕ) (es : List Edge) → HasEdges t (look_up t k (byte_read b)) es → es ≡ one_edge k ∷ [] → Stays t k b
stays_there t k b es h is = sym h.named ∙ ap (map (edge_named t.sets)) is

-- and back
pub stays_back : (t : Tabled) (k b : ℕ) (es : List Edge) → AreDistinct t.sets → k < length t.sets → Stays t k b → HasEdges t (look_up t k (byte_read b)) es → es ≡ one_edge k ∷ []
stays_back t k b es apart l s h = go es h.targets (h.named ∙ s)
  where
    go : (fs : List Edge) → ((e : Edge) → Has fs e → e.to < length t.sets) → map (edge_named t.sets) fs ≡ record { marks = 0; to = set_at t.sets k } ∷ [] → fs ≡ one_edge k ∷ []
    go [] targets e = absurd (cc)
    go (x ∷ []) targets e =
        let one : edge_named t.sets x ≡ record { marks = 0; to = set_at t.sets k } = cc in
        let to = number_told t.sets x.to k apart (targets x (inl refl)) l (ap (λ (r : Reach). r.to) one) in
        let marks : x.marks ≡ 0 = ap (λ (r : Reach). r.marks) one in
        (λ i. let y : Edge = record { marks = marks i; to = to i } in y ∷ [])
    go (x ∷ y ∷ fs) targets e = absurd (cc)

-- ---- one edge

pub one_is : (es : List Edge) (k : ℕ) (d f : Edge) → length es ≡ 1 → (get_or es 0 d).to ≡ k → (get_or es 0 f).marks ≡ 0 → es ≡ one_edge k ∷ []
one_is [] k d f l to marks = absurd (omega (arith, l))
one_is (e ∷ []) k d f l to marks = (λ i. let y : Edge = record { marks = marks i; to = to i } in y ∷ [])
one_is (e ∷ g ∷ es) k d f l to marks = absurd (omega (arith, l))

pub one_to : (es : List Edge) (k : ℕ) (d : Edge) → es ≡ one_edge k ∷ [] → ((get_or es 0 d).to ≡ k) × ((get_or es 0 d).marks ≡ 0)
one_to es k d e = (ap (λ (fs : List Edge). (get_or fs 0 d).to) e, ap (λ (fs : List Edge). (get_or fs 0 d).marks) e)

-- ---- an answer more

pub same_stays : (A : Automaton) (limit : ℕ) (sets sets' : List (List ℕ)) (answers answers' : List Answer) (stays : List (bytes.FinSet nat_cmp)) → sets ≡ sets' → answers ≡ answers' →
    AreStays (record { graph = A; limit = limit; sets = sets; look_ups = look_ups_of sets answers }) stays →
    AreStays (record { graph = A; limit = limit; sets = sets'; look_ups = look_ups_of sets' answers' }) stays
same_stays A limit sets sets' answers answers' stays a b h =
    subst (λ (xs : List Answer). AreStays (record { graph = A; limit = limit; sets = sets'; look_ups = look_ups_of sets' xs }) stays) b
    (subst (λ (xs : List (List ℕ)). AreStays (record { graph = A; limit = limit; sets = xs; look_ups = look_ups_of xs answers }) stays) a h)

pub no_stays : (A : Automaton) (limit : ℕ) (sets : List (List ℕ)) (answers : List Answer) (stays : List (bytes.FinSet nat_cmp)) → answers ≡ [] → length stays ≡ length sets →
    ((k : ℕ) → get_or stays k bytes.empty ≡ bytes.empty) → AreStays (record { graph = A; limit = limit; sets = sets; look_ups = look_ups_of sets answers }) stays
no_stays A limit sets answers stays none count empty = record {
  count = count;
  are = λ k b within. (
    (λ t. absurd (differ (sym (ap (λ v. bytes.contains v b) (empty k) ∙ contains-empty nat_cmp b) ∙ t))),
    (λ st. absurd (subst (λ (xs : List Answer). Has (look_ups_of sets xs) (record { set = set_at sets k; ask = byte_read st.0.byte })) none st.0.asked)),
  );
}
  where
    differ : false ≡ true → ⊥
    differ e = cc

module _ (A : Automaton) (limit : ℕ) (sets0 sets : List (List ℕ)) (answers0 : List Answer) (es : List Edge) (ends numbers : List ℕ) (w : ℕ) (x : Answer) (longer : IsLongerBy sets0 sets)
    (held : IsHeld A sets (answers0 ++ x ∷ []) es ends numbers w) (before : (y : Answer) → Has answers0 y → y.set < length sets0) (within : x.set < length sets) where
  abbrev Old : Tabled
  Old = record { graph = A; limit = limit; sets = sets0; look_ups = look_ups_of sets0 answers0 }

  abbrev New : Tabled
  New = record { graph = A; limit = limit; sets = sets; look_ups = look_ups_of sets (answers0 ++ x ∷ []) }

  same_set : (k : ℕ) → k < length sets0 → set_at sets k ≡ set_at sets0 k
  same_set k l = ap (λ zs. set_at zs k) longer.1 ∙ get_or_append_left sets0 longer.0 [] k l

  same_look_up : (y : Answer) → y.set < length sets0 → look_up_of sets y ≡ look_up_of sets0 y
  same_look_up y l = (λ i. let r : LookUp = record { set = same_set y.set l i; ask = question_of y.question } in r)

  here_told : Has (look_ups_of sets (answers0 ++ x ∷ [])) (look_up_of sets x)
  here_told = Has-map (look_up_of sets) (answers0 ++ x ∷ []) x (Has-append_right answers0 (x ∷ []) x (inl refl))

  still : (k b : ℕ) → k < length sets0 → Stays Old k b → Stays New k b
  still k b l st = ap (λ s. edges A s (byte_read b)) (same_set k l) ∙ (st ∙ ap (λ (s : List ℕ). let r : Reach = record { marks = 0; to = s } in r ∷ []) (sym (same_set k l)))

  back : (k b : ℕ) → k < length sets0 → Stays New k b → Stays Old k b
  back k b l st = sym (ap (λ s. edges A s (byte_read b)) (same_set k l)) ∙ (st ∙ ap (λ (s : List ℕ). let r : Reach = record { marks = 0; to = s } in r ∷ []) (same_set k l))

  has_stayed : (k : ℕ) → k < length sets0 → HasStayed Old k → HasStayed New k
  has_stayed k l h =
      let r : LookUp = record { set = set_at sets0 k; ask = byte_read h.byte } in
      let y = Has-map_cases (look_up_of sets0) answers0 r h.asked in
      let there = Has-map (look_up_of sets) (answers0 ++ x ∷ []) y.0 (Has-append_left answers0 (x ∷ []) y.0 y.1) in
      let same = same_look_up y.0 (before y.0 y.1) ∙ (y.2 ∙ (λ i. let q : LookUp = record { set = sym (same_set k l) i; ask = byte_read h.byte } in q)) in
      record { byte = h.byte; asked = subst (Has (look_ups_of sets (answers0 ++ x ∷ []))) same there; stays = still k h.byte l h.stays }

  the_edges : (b : ℕ) → x.question ≡ Byte b → HasEdges New (look_up_of sets x) (part x.first x.count es)
  the_edges b q = edges_are limit x held (Has-append_right answers0 (x ∷ []) x (inl refl)) (λ e. differ (sym q ∙ e)) refl
    where
      differ : Byte b ≡ Ends → ⊥
      differ e = cc

  asked_now : (b : ℕ) → x.question ≡ Byte b → look_up_of sets x ≡ look_up New x.set (byte_read b)
  asked_now b q = ap (λ (p : TableQuestion). let r : LookUp = record { set = set_at sets x.set; ask = question_of p } in r) q

  -- who has stayed now has stayed before, or stays on the byte of this answer
  stayed_or : (k : ℕ) → k < length sets → HasStayed New k → ((k < length sets0) × HasStayed Old k) ⊎ ((x.set ≡ k) × (c : ℕ) × (x.question ≡ Byte c) × LeadsBack es x)
  stayed_or k l h =
      let y = Has-map_cases (look_up_of sets) (answers0 ++ x ∷ []) (look_up New k (byte_read h.byte)) h.asked in
      let set : y.0.set ≡ k = number_told sets y.0.set k held.apart (held.answered y.0 y.1).set l (ap (λ (r : LookUp). r.set) y.2) in
      let question : y.0.question ≡ Byte h.byte = same_question y.0.question (Byte h.byte) (ap (λ (r : LookUp). r.ask) y.2) in
      by y.0 set question (Has-append_cases answers0 (x ∷ []) y.0 y.1)
    where
      by : (y : Answer) → y.set ≡ k → y.question ≡ Byte h.byte → Has answers0 y ⊎ Has (x ∷ []) y →
          ((k < length sets0) × HasStayed Old k) ⊎ ((x.set ≡ k) × (c : ℕ) × (x.question ≡ Byte c) × LeadsBack es x)
      by y set question (inl m) =
          let n : k < length sets0 = omega (arith, before y m, set) in
          let told : look_up_of sets0 y ≡ look_up Old k (byte_read h.byte) = (λ i. let r : LookUp = record { set = set_at sets0 (set i); ask = question_of (question i) } in r) in
          inl (n, record { byte = h.byte; asked = subst (Has (look_ups_of sets0 answers0)) told (Has-map (look_up_of sets0) answers0 y m); stays = back k h.byte n h.stays })
      by y set question (inr (inl m)) =
          let here : x.set ≡ k = ap (λ (z : Answer). z.set) m ∙ set in
          let q : x.question ≡ Byte h.byte = ap (λ (z : Answer). z.question) m ∙ question in
          let has : HasEdges New (look_up New x.set (byte_read h.byte)) (part x.first x.count es) = subst (λ r. HasEdges New r (part x.first x.count es)) (asked_now h.byte q) (the_edges h.byte q) in
          inr (here, h.byte, q, stays_back New x.set h.byte (part x.first x.count es) held.apart within (subst (λ s. Stays New s h.byte) (sym here) h.stays) has)
      by y set question (inr (inr m)) = absurd m

  -- where this answer leads back, its set has stayed
  stayed_here : (c : ℕ) → x.question ≡ Byte c → LeadsBack es x → HasStayed New x.set
  stayed_here c q leads =
      let has : HasEdges New (look_up New x.set (byte_read c)) (part x.first x.count es) = subst (λ r. HasEdges New r (part x.first x.count es)) (asked_now c q) (the_edges c q) in
      record {
        byte = c;
        asked = subst (Has (look_ups_of sets (answers0 ++ x ∷ []))) (asked_now c q) here_told;
        stays = stays_there New x.set c (part x.first x.count es) has leads;
      }

  pub stays_more : (stays0 stays1 stays : Sets) (noted : bytes.FinSet nat_cmp) → AreStays Old stays0 →
      ((k : ℕ) → get_or stays1 k bytes.empty ≡ get_or stays0 k bytes.empty) → length stays1 ≡ length sets →
      IsNoted A sets es x (get_or stays1 x.set bytes.empty) noted → stays ≡ put stays1 x.set noted → length stays ≡ length stays1 → AreStays New stays
  stays_more stays0 stays1 stays noted old longer count told is same_count = record { count = same_count ∙ count; are = λ k b l. each k b l (same_or_not k x.set) }
    where
      differ : false ≡ true → ⊥
      differ e = cc

      -- of another set nothing is noted, and nothing new is told
      as_before : (k b : ℕ) → k < length sets → ((c : ℕ) → x.set ≡ k → x.question ≡ Byte c → LeadsBack es x → IsTrue (bytes.contains (get_or stays0 k bytes.empty) c)) →
          IsTrue (bytes.contains (get_or stays0 k bytes.empty) b) ↔ (HasStayed New k × Stays New k b)
      as_before k b l known = (
        (λ t. there (cases_lt k (length sets0)) t),
        (λ h. elim (stayed_or k l h.0) as (λ _. IsTrue (bytes.contains (get_or stays0 k bytes.empty) b)) [
          | inl f ↦ (old.are k b f.0).1 (f.1, back k b f.0 h.1)
          | inr f ↦ by f.1 (cases_lt k (length sets0)) (known f.1 f.0 f.2 f.3) h.1
        ]),
      )
        where
          none : length sets0 ≤ k → (c : ℕ) → IsTrue (bytes.contains (get_or stays0 k bytes.empty) c) → ⊥
          none m c t = differ (sym (ap (λ v. bytes.contains v c) (get_or_past stays0 k bytes.empty (omega (arith, m, old.count))) ∙ contains-empty nat_cmp c) ∙ t)

          there : (k < length sets0) ⊎ (length sets0 ≤ k) → IsTrue (bytes.contains (get_or stays0 k bytes.empty) b) → HasStayed New k × Stays New k b
          there (inl m) t = let r = (old.are k b m).0 t in (has_stayed k m r.0, still k b m r.1)
          there (inr m) t = absurd (none m b t)

          by : (c : ℕ) → (k < length sets0) ⊎ (length sets0 ≤ k) → IsTrue (bytes.contains (get_or stays0 k bytes.empty) c) → Stays New k b → IsTrue (bytes.contains (get_or stays0 k bytes.empty) b)
          by c (inl m) t st = (old.are k b m).1 (((old.are k c m).0 t).0, back k b m st)
          by c (inr m) t st = absurd (none m c t)

      each : (k b : ℕ) → k < length sets → (k ≡ x.set) ⊎ (k ≡ x.set → ⊥) → IsTrue (bytes.contains (get_or stays k bytes.empty) b) ↔ (HasStayed New k × Stays New k b)
      each k b l (inl e) = by told
        where
          here : get_or stays k bytes.empty ≡ noted
          here = ap (λ v. get_or stays v bytes.empty) e ∙ (ap (λ v. get_or v x.set bytes.empty) is ∙ get_or-set_same stays1 x.set noted bytes.empty (omega (arith, within, count)))

          by : IsNoted A sets es x (get_or stays1 x.set bytes.empty) noted → IsTrue (bytes.contains (get_or stays k bytes.empty) b) ↔ (HasStayed New k × Stays New k b)
          by (inl f) = (
            (λ t. (subst (HasStayed New) (sym e) (stayed_here f.0 f.1 f.2), subst (λ n. Stays New n b) (sym e) ((f.3 b).0 (sym (ap (λ v. bytes.contains v b) here) ∙ t)))),
            (λ h. ap (λ v. bytes.contains v b) here ∙ (f.3 b).1 (subst (λ n. Stays New n b) e h.1)),
          )
          by (inr f) =
              let same : get_or stays k bytes.empty ≡ get_or stays0 k bytes.empty = here ∙ (f.0 ∙ (longer x.set ∙ ap (λ v. get_or stays0 v bytes.empty) (sym e))) in
              let r = as_before k b l (λ c at q leads. ap (λ v. bytes.contains v c) (ap (λ v. get_or stays0 v bytes.empty) e ∙ sym (longer x.set)) ∙ f.1 c q leads) in
              ((λ t. r.0 (sym (ap (λ v. bytes.contains v b) same) ∙ t)), (λ h. ap (λ v. bytes.contains v b) same ∙ r.1 h))
      each k b l (inr other) =
          let same : get_or stays k bytes.empty ≡ get_or stays0 k bytes.empty = ap (λ v. get_or v k bytes.empty) is ∙ (get_or-set_other stays1 x.set k noted bytes.empty other ∙ longer k) in
          let r = as_before k b l (λ c at q leads. absurd (other (sym at))) in
          ((λ t. r.0 (sym (ap (λ v. bytes.contains v b) same) ∙ t)), (λ h. ap (λ v. bytes.contains v b) same ∙ r.1 h))

-- ---- sets that are empty, behind those that are there

abbrev pub HaveEmpty : List (bytes.FinSet nat_cmp) → List (bytes.FinSet nat_cmp) → ℕ → Type 0
HaveEmpty old xs n = IsLongerBy old xs × ((k : ℕ) → get_or xs k bytes.empty ≡ get_or old k bytes.empty) × (length xs ≡ n)

pub empty_none : (old : List (bytes.FinSet nat_cmp)) (n : ℕ) → length old ≡ n → HaveEmpty old old n
empty_none old n e = (([], sym (append-nil old)), (λ k. refl), e)

pub empty_more : (old xs new : List (bytes.FinSet nat_cmp)) (n : ℕ) (e : bytes.FinSet nat_cmp) → HaveEmpty old xs n → e ≡ bytes.empty → new ≡ xs ++ e ∷ [] → HaveEmpty old new (n + 1)
empty_more old xs new n e h is pushed = (
  (h.0.0 ++ e ∷ [], pushed ∙ (ap (λ ys. ys ++ e ∷ []) h.0.1 ∙ append_assoc old h.0.0 (e ∷ []))),
  (λ k. ap (λ ys. get_or ys k bytes.empty) (pushed ∙ ap (λ x. xs ++ x ∷ []) is) ∙ (one k (cases_lt k (length xs)) ∙ h.1 k)),
  omega (arith, ap length pushed, length-append xs (e ∷ []), h.2),
)
  where
    past : (m : ℕ) → get_or (bytes.empty {K = ℕ} {R = nat_cmp} ∷ []) m bytes.empty ≡ bytes.empty
    past zero = refl
    past (suc m) = refl

    one : (k : ℕ) → (k < length xs) ⊎ (length xs ≤ k) → get_or (xs ++ bytes.empty ∷ []) k bytes.empty ≡ get_or xs k bytes.empty
    one k (inl l) = get_or_append_left xs (bytes.empty ∷ []) bytes.empty k l
    one k (inr l) = get_or-append_right xs (bytes.empty ∷ []) k bytes.empty l ∙ (past (k - length xs) ∙ sym (get_or_past xs k bytes.empty l))

-- what is there is longer by nothing
pub longer_by_none : {T E : Type 0} (r : Result T E) (xs : List ℕ) → OnErr r (IsLongerBy xs xs)
longer_by_none (Ok x) xs = tt
longer_by_none (Err e) xs = ([], sym (append-nil xs))

-- a set that was there is in order behind more sets too
pub still_in_order : (A : Automaton) (old new : List (List ℕ)) (k : ℕ) → ((s : List ℕ) → Has old s → IsStateSet A s) → IsLongerBy old new → k < length old → IsInOrder ◌<◌ (set_at new k)
still_in_order A old new k states longer l =
    subst (λ s. IsInOrder ◌<◌ s) (sym (ap (λ zs. set_at zs k) longer.1 ∙ get_or_append_left old longer.0 [] k l)) (states (set_at old k) (Has-get_or old k [] l)).order
