-- The numbers of a functional formula: they are those that do not look at markers.
use Rattle.std.proofs.Common.{◌≡◌, ℕ, zero, suc, ◌+◌, ◌*◌, ◌-◌, ◌≤◌, Bool, true, false, List, [], ◌∷◌, ◌++◌, Option, Some, None, length, inl, inr, refl, sym, ap, arith, ◌∙◌}
use Rattle.std.specs.Prelude.{map, max, if◌then◌else◌, ◌||◌}
use Rattle.std.specs.List.{flat_map}
use Rattle.std.specs.Str.{bytes_eq}
use Rattle.std.proofs.lemmas.Bool.{eq-eqb, le-ltb, false≢true}
use Rattle.std.proofs.lemmas.List.{length-map}
use Rattle.std.proofs.lemmas.Option.{none-some}
use Rattle.spanner_model.specs.Captures.{VarName, Captures, Captured, span_of}
use Rattle.spanner_model.specs.Fit.{Piece, Times, Fit}
use Rattle.spanner_model.specs.Sequential.{HasVar}
use Rattle.spanner_model.specs.Functional.{IsFunctional}
use Rattle.place_automaton.specs.Repeats.{HasOrderedRepeats}
use Rattle.span_core.specs.Lists.{Has, AreDistinct}
use Rattle.spanner_model.specs.Tree.{Tree, empty, one, cat_end, cat, alt_end, alt, rep, cap}
use Rattle.span_core.specs.declared.span.Span.{Span}
use Rattle.spanner_model.proofs.CapturesLaws.{row_same}
use Rattle.spanner_model.proofs.FitLaws.{times_le, fit_le, fit_only_vars, fit_sure, fit_no_vars}
use Rattle.spanner_model.proofs.FunctionalLaws.{functional_sequential, functional_sure}
use Rattle.span_core.specs.OrderLaws.{span_eq}
use Rattle.marked_automaton.specs.Automaton.{idle_way}
use Rattle.place_automaton.specs.Atom.{way_from_first, way_after, stop_before, unless, place_stops, after_ways, automaton_of_places}
use Rattle.place_automaton.specs.declared.TheConstants.{MOST_SETS}
use Rattle.place_automaton.specs.CountLaw.{FunctionalCountLaw}
use Rattle.place_automaton.specs.Counts.{null_size, largest_null, largest_null_over}
use Rattle.place_automaton.specs.PlainCounts.{PlainCounts, plain_nothing, plain_cat, plain_opt, plain_plus, plain_copies, plain_at_most, plain_repeated, plain}
use Rattle.place_automaton.specs.Places.{Places, Placed, add_once, either_once, sums, ways_between, way_into, entry_with, stop_with, nothing_placed, cat_places, plus_places, cat_placed, opt_placed, plus_placed, copies_then, at_most, repeated, placed}
use Rattle.place_automaton.specs.Reads.{blocks}
use Rattle.place_automaton.specs.Words.{opening_of, closing_of}
use Rattle.place_automaton.specs.Variables.{with_vars}
use Rattle.spanner_model.proofs.NameLaws.{ascending-distinct}
use Rattle.place_automaton.proofs.CountLaws.{count_law, lengths, length_append, length_product, mul_same}
use Rattle.place_automaton.proofs.FormulaShows.{shows_formula}
use Rattle.place_automaton.proofs.NameLists.{list_ascends, vars_are}
use Rattle.span_core.proofs.HasLaws.{Has-append_cases}
use Rattle.spanner_model.proofs.AnswerLaws.{span_of-absent}
use Rattle.marked_automaton.proofs.Erasing.{same_name, name_itself}
use Rattle.place_automaton.proofs.RowBlocks.{block_at, fit_once, row_blocks}
use Rattle.place_automaton.proofs.Shows.{sums_cases, once_cases, either_left, either_right}

pub record CountsAre (P : Places) (c : PlainCounts) : Type 0 where
  pub places : P.count ≡ c.places
  pub null : length P.null ≡ c.null
  pub first : length P.first ≡ c.first
  pub last : length P.last ≡ c.last
  pub follow : length P.follow ≡ c.follow

count_cat : (P Q : Places) (a b : PlainCounts) → CountsAre P a → CountsAre Q b → CountsAre (cat_places P Q) (plain_cat a b)
count_cat P Q a b p q = record {
  places = omega (arith, p.places, q.places);
  null = length_product (◌+◌) P.null Q.null ∙ mul_same (length P.null) a.null (length Q.null) b.null p.null q.null;
  first = omega (
    arith,
    length_append P.first (flat_map (λ m. map (entry_with m) Q.first) P.null),
    length_product entry_with P.null Q.first,
    mul_same (length P.null) a.null (length Q.first) b.first p.null q.first,
    p.first,
  );
  last = omega (
    arith,
    length_append Q.last (flat_map (λ m. map (stop_with m) P.last) Q.null),
    length_product stop_with Q.null P.last,
    mul_same (length Q.null) b.null (length P.last) a.last q.null p.last,
    q.last,
  );
  follow = omega (
    arith,
    length_append P.follow (Q.follow ++ ways_between P.last Q.first),
    length_append Q.follow (ways_between P.last Q.first),
    length_product way_into P.last Q.first,
    mul_same (length P.last) a.last (length Q.first) b.first p.last q.first,
    p.follow,
    q.follow,
  );
}

count_plus : (P : Places) (a : PlainCounts) → CountsAre P a → CountsAre (plus_places P) (plain_plus a)
count_plus P a p = record {
  places = p.places;
  null = p.null;
  first = p.first;
  last = p.last;
  follow = omega (
    arith,
    length_append P.follow (ways_between P.last P.first),
    length_product way_into P.last P.first,
    mul_same (length P.last) a.last (length P.first) a.first p.last p.first,
    p.follow,
  );
}

-- a list of one member at most
abbrev pub HasOneAtMost : List ℕ → Type 0
HasOneAtMost ms = length ms ≤ 1

once_of_zeros : (ms : List ℕ) → HasOneAtMost ms → ((m : ℕ) → Has ms m → 0 ≡ m) → length (add_once 0 ms) ≡ 1
once_of_zeros [] l z = refl
once_of_zeros (m ∷ []) l z =
    let e : 0 ≡ m = z m (inl refl) in
    ap (λ b. length (if (b || false) then m ∷ [] else 0 ∷ m ∷ [])) (eq-eqb 0 m e)
once_of_zeros (m ∷ n ∷ ms) l z = absurd (omega (arith, l))

either_of_same : (ms ns : List ℕ) → HasOneAtMost ms → HasOneAtMost ns → ((m n : ℕ) → Has ms m → Has ns n → m ≡ n) →
    length (either_once ms ns) ≡ max (length ms) (length ns)
either_of_same [] ns l k e = omega arith
either_of_same (m ∷ []) [] l k e = refl
either_of_same (m ∷ []) (n ∷ []) l k e =
    ap (λ b. length (if (b || false) then n ∷ [] else m ∷ n ∷ [])) (eq-eqb m n (e m n (inl refl) (inl refl)))
either_of_same (m ∷ []) (n ∷ o ∷ ns) l k e = absurd (omega (arith, k))
either_of_same (m ∷ o ∷ ms) ns l k e = absurd (omega (arith, l))

-- the spans of a fit lie in its part
abbrev LieWithin : Captures → ℕ → ℕ → Type 0
LieWithin m i j = (c : VarName × Span) → Has m c → (i ≤ c.1.start) × (c.1.end ≤ j) × (c.1.start ≤ c.1.end)

nothing_lies_within : (m : Captures) (i j : ℕ) → m ≡ [] → LieWithin m i j
nothing_lies_within m i j e c h = absurd (rw e at h)

append_within : (m n t : Captures) (i k j : ℕ) → i ≤ k → k ≤ j → LieWithin m i k → LieWithin n k j → t ≡ m ++ n → LieWithin t i j
append_within m n t i k j a b lm ln e c h =
    elim (Has-append_cases m n c (rw (← e) h)) [
      | inl x ↦ let r = lm c x in (r.0, omega (arith, r.1, b), r.2)
      | inr x ↦ let r = ln c x in (omega (arith, r.0, a), r.1, r.2)
    ]

times_within_part : (X : Piece) → ((i j : ℕ) (m : Captures) → X i j m → i ≤ j) → ((i j : ℕ) (m : Captures) → X i j m → LieWithin m i j) →
    (c i j : ℕ) (m : Captures) → Times X c i j m → LieWithin m i j
times_within_part X le x zero i j m h = nothing_lies_within m i j h.1
times_within_part X le x (suc c) i j m h =
    append_within h.1 h.2 m i h.0 j (le i h.0 h.1 h.3) (times_le X le c h.0 j h.2 h.4) (x i h.0 h.1 h.3) (times_within_part X le x c h.0 j h.2 h.4) h.6

fit_spans : (f : Tree) (d : List ℕ) (i j : ℕ) (m : Captures) → Fit f d i j m → LieWithin m i j
fit_spans empty d i j m h = nothing_lies_within m i j h.1
fit_spans (one set) d i j m h = nothing_lies_within m i j h.4
fit_spans cat_end d i j m h = nothing_lies_within m i j h.1
fit_spans (cat f rest) d i j m h =
    append_within h.1 h.2 m i h.0 j (fit_le f d i h.0 h.1 h.3) (fit_le rest d h.0 j h.2 h.4) (fit_spans f d i h.0 h.1 h.3) (fit_spans rest d h.0 j h.2 h.4) h.6
fit_spans alt_end d i j m h = absurd h
fit_spans (alt f rest) d i j m (inl h) = fit_spans f d i j m h
fit_spans (alt f rest) d i j m (inr h) = fit_spans rest d i j m h
fit_spans (rep f least most) d i j m h = times_within_part (Fit f d) (fit_le f d) (fit_spans f d) h.0 i j m h.3
fit_spans (cap x f) d i j m h = λ c k. go c (rw h.6 at k) (fit_spans f d i j h.1 h.4) (fit_le f d i j h.1 h.4)
  where
    go : (c : VarName × Span) → Has ((x, h.0) ∷ h.1) c → LieWithin h.1 i j → i ≤ j → (i ≤ c.1.start) × (c.1.end ≤ j) × (c.1.start ≤ c.1.end)
    go c (inl e) rest le =
        let a : i ≡ c.1.start = sym h.2 ∙ ap (λ (c : VarName × Span). c.1.start) e in
        let b : j ≡ c.1.end = sym h.3 ∙ ap (λ (c : VarName × Span). c.1.end) e in
        (omega (arith, a), omega (arith, b), omega (arith, a, b, le))
    go c (inr k) rest le = rest c k

-- what is captured has a span of the list, and what has a span is captured
captured_span : (m : Captures) (x : VarName) → Captured m x → (c : VarName × Span) × Has m c × (span_of m x ≡ Some c.1)
captured_span [] x h = absurd h
captured_span (c ∷ m) x h = go (captured_span m x) (bytes_eq c.0 x) refl h
  where
    go : (Captured m x → (c : VarName × Span) × Has m c × (span_of m x ≡ Some c.1)) → (b : Bool) → bytes_eq c.0 x ≡ b → Captured (c ∷ m) x →
        (a : VarName × Span) × Has (c ∷ m) a × (span_of (c ∷ m) x ≡ Some a.1)
    go rest true e k = (c, inl refl, ap (λ b. if b then Some c.1 else span_of m x) e)
    go rest false e (inl same) = absurd (false≢true (sym e ∙ name_itself c.0 x same))
    go rest false e (inr k) = let r = rest k in (r.0, inr r.1, ap (λ b. if b then Some c.1 else span_of m x) e ∙ r.2)

span_captured : (m : Captures) (x : VarName) (s : Span) → span_of m x ≡ Some s → Captured m x
span_captured [] x s e = absurd (cc)
span_captured (c ∷ m) x s e = go (span_captured m x s) (bytes_eq c.0 x) refl
  where
    go : (span_of m x ≡ Some s → Captured m x) → (b : Bool) → bytes_eq c.0 x ≡ b → Captured (c ∷ m) x
    go rest true at = inl (same_name c.0 x at)
    go rest false at = inr (rest (sym (ap (λ b. if b then Some c.1 else span_of m x) at) ∙ e))

abbrev the_empty_span : Span
the_empty_span = record { start = 0; end = 0; ordered = omega arith }

-- a capture of a fit of nothing
at_itself : (f : Tree) (c : Captures) (x : VarName) → Fit f [] 0 0 c → Captured c x → span_of c x ≡ Some the_empty_span
at_itself f c x h k =
    let a = captured_span c x k in
    let w = fit_spans f [] 0 0 c h a.0 a.1 in
    let p : a.0.1.start ≡ 0 = omega (arith, w.1, w.2) in
    let q : a.0.1.end ≡ 0 = omega (arith, w.1) in
    let same : a.0.1 ≡ the_empty_span = span_eq a.0.1 the_empty_span p q in
    a.2 ∙ ap Some same

module _ (names : List VarName) (dis : AreDistinct names) where
  abbrev pub P : Tree → Placed
  P = placed (opening_of names) (closing_of names)

  same_spans : (f : Tree) → IsFunctional f → (c e : Captures) → Fit f [] 0 0 c → Fit f [] 0 0 e → (x : VarName) → span_of c x ≡ span_of e x
  same_spans f ok c e hc he x = go (span_of c x) refl
    where
      go : (o : Option Span) → span_of c x ≡ o → span_of c x ≡ span_of e x
      go None at =
          at ∙ sym (span_of-absent e x (λ k. none-some the_empty_span
          (sym at ∙ at_itself f c x hc (fit_sure f [] 0 0 c hc x (functional_sure f x ok (fit_only_vars f [] 0 0 e he x k))))))
      go (Some s) at =
          let k = span_captured c x s at in
          at_itself f c x hc k ∙ sym (at_itself f e x he (fit_sure f [] 0 0 e he x (functional_sure f x ok (fit_only_vars f [] 0 0 c hc x k))))

  -- a functional formula fits nothing with one block at most
  pub null_same : (f : Tree) → IsFunctional f → HasOrderedRepeats f → ((x : VarName) → HasVar f x → Has names x) → (k m n : ℕ) →
      Has (P f k).null m → Has (P f k).null n → m ≡ n
  null_same f ok ord vars k m n hm hn =
      let sh = shows_formula (opening_of names) (closing_of names) [] f (functional_sequential f ok) ord k in
      let a = sh.null 0 m hm in
      let b = sh.null 0 n hn in
      let ra = row_blocks 0 names a.0 dis (fit_once f [] 0 0 a.0 a.1) (λ x c. vars x (fit_only_vars f [] 0 0 a.0 a.1 x c)) in
      let rb = row_blocks 0 names b.0 dis (fit_once f [] 0 0 b.0 b.1) (λ x c. vars x (fit_only_vars f [] 0 0 b.0 b.1 x c)) in
      let rows = row_same names (span_of a.0) (span_of b.0) (same_spans f ok a.0 b.0 a.1 b.1) in
      sym a.2 ∙ (ra ∙ (ap (λ r. block_at r 0) rows ∙ (sym rb ∙ b.2)))

  pub null_zero : (f : Tree) → IsFunctional f → HasOrderedRepeats f → ((x : VarName) → HasVar f x → ⊥) → (k m : ℕ) → Has (P f k).null m → 0 ≡ m
  null_zero f ok ord none k m h =
      let r = (shows_formula (opening_of names) (closing_of names) [] f (functional_sequential f ok) ord k).null 0 m h in
      sym (ap (λ c. blocks (opening_of names) (closing_of names) c 0) (fit_no_vars f [] 0 0 r.0 none r.1)) ∙ r.2

  -- counted, with one block of the empty string at most
  abbrev pub Counted : Placed → PlainCounts → Type 0
  Counted F c = (k : ℕ) → CountsAre (F k) c × HasOneAtMost (F k).null

  -- and these are empty
  abbrev pub NullIsZero : Placed → Type 0
  NullIsZero F = (k m : ℕ) → Has (F k).null m → 0 ≡ m

  product_small : (a b : ℕ) → a ≤ 1 → b ≤ 1 → a * b ≤ 1
  product_small zero b l m = omega arith
  product_small (suc zero) b l m = omega (arith, m)
  product_small (suc (suc a)) b l m = absurd (omega (arith, l))

  pub counted_cat : (F G : Placed) (a b : PlainCounts) → Counted F a → Counted G b → Counted (cat_placed F G) (plain_cat a b)
  counted_cat F G a b f g k =
      let x = f k in
      let y = g (k + (F k).count) in
      let small = product_small (length (F k).null) (length (G (k + (F k).count)).null) x.1 y.1 in
      let len = length_product ◌+◌ (F k).null (G (k + (F k).count)).null in
      (count_cat (F k) (G (k + (F k).count)) a b x.0 y.0, omega (arith, small, len))

  counted_opt : (F : Placed) (a : PlainCounts) → NullIsZero F → Counted F a → Counted (opt_placed F) (plain_opt a)
  counted_opt F a z f k =
      let x = f k in
      let one = once_of_zeros (F k).null x.1 (z k) in
      (record { places = x.0.places; null = one; first = x.0.first; last = x.0.last; follow = x.0.follow }, omega (arith, one))

  pub counted_plus : (F : Placed) (a : PlainCounts) → Counted F a → Counted (plus_placed F) (plain_plus a)
  counted_plus F a f k = let x = f k in (count_plus (F k) a x.0, x.1)

  zero_sums : (ms ns : List ℕ) → ((m : ℕ) → Has ms m → 0 ≡ m) → ((m : ℕ) → Has ns m → 0 ≡ m) → (m : ℕ) → Has (sums ms ns) m → 0 ≡ m
  zero_sums ms ns a b m h =
      let r = sums_cases ms ns m h in omega (arith, a r.0 r.2, b r.1 r.3, r.4)

  zero_cat : (F G : Placed) → NullIsZero F → NullIsZero G → NullIsZero (cat_placed F G)
  zero_cat F G f g k m h = zero_sums (F k).null (G (k + (F k).count)).null (f k) (g (k + (F k).count)) m h

  zero_opt : (F : Placed) → NullIsZero F → NullIsZero (opt_placed F)
  zero_opt F f k m h = elim (once_cases 0 (F k).null m h) [ inl e ↦ e | inr r ↦ f k m r ]

  zero_at_most : (n : ℕ) (F : Placed) → NullIsZero F → NullIsZero (at_most n F)
  zero_at_most zero F f k m h = elim h [ inl e ↦ e | inr b ↦ absurd b ]
  zero_at_most (suc n) F f k m h = zero_opt (cat_placed F (at_most n F)) (zero_cat F (at_most n F) f (zero_at_most n F f)) k m h

  pub counted_nothing : Counted nothing_placed plain_nothing
  counted_nothing k = (record { places = refl; null = refl; first = refl; last = refl; follow = refl }, omega arith)

  pub counted_copies : (n : ℕ) (F G : Placed) (a b : PlainCounts) → Counted F a → Counted G b → Counted (copies_then n F G) (plain_copies n a b)
  counted_copies zero F G a b f g = g
  counted_copies (suc n) F G a b f g = counted_cat F (copies_then n F G) a (plain_copies n a b) f (counted_copies n F G a b f g)

  pub counted_at_most : (n : ℕ) (F : Placed) (a : PlainCounts) → NullIsZero F → Counted F a → Counted (at_most n F) (plain_at_most n a)
  counted_at_most zero F a z f = counted_nothing
  counted_at_most (suc n) F a z f =
      counted_opt (cat_placed F (at_most n F)) (plain_cat a (plain_at_most n a)) (zero_cat F (at_most n F) z (zero_at_most n F z))
      (counted_cat F (at_most n F) a (plain_at_most n a) f (counted_at_most n F a z f))

  counted_repeated : (n : ℕ) (most : Option ℕ) (F : Placed) (a : PlainCounts) → NullIsZero F → Counted F a → Counted (repeated n most F) (plain_repeated n most a)
  counted_repeated zero None F a z f = counted_opt (plus_placed F) (plain_plus a) z (counted_plus F a f)
  counted_repeated (suc n) None F a z f = counted_copies n F (plus_placed F) a (plain_plus a) f (counted_plus F a f)
  counted_repeated zero (Some most) F a z f = counted_at_most (most - zero) F a z f
  counted_repeated (suc n) (Some most) F a z f =
      counted_copies (suc n) F (at_most (most - suc n) F) a (plain_at_most (most - suc n) a) f (counted_at_most (most - suc n) F a z f)

  pub counted : (f : Tree) → IsFunctional f → HasOrderedRepeats f → ((x : VarName) → HasVar f x → Has names x) → Counted (P f) (plain f)
  counted empty ok ord vars = counted_nothing
  counted (one set) ok ord vars = λ k. (record { places = refl; null = refl; first = refl; last = refl; follow = refl }, omega arith)
  counted cat_end ok ord vars = counted_nothing
  counted (cat f rest) ok ord vars =
      counted_cat (P f) (P rest) (plain f) (plain rest) (counted f ok.0 ord.0 (λ x h. vars x (inl h))) (counted rest ok.1 ord.1 (λ x h. vars x (inr h)))
  counted alt_end ok ord vars = λ k. (record { places = refl; null = refl; first = refl; last = refl; follow = refl }, omega arith)
  counted (alt f rest) ok ord vars = λ k.
      let x = counted f ok.0 ord.0 (λ x h. vars x (inl h)) k in
      let at = k + (P f k).count in
      let y = counted rest ok.1 ord.1 (λ x h. vars x (inr h)) at in
      let len = either_of_same (P f k).null (P rest at).null x.1 y.1 (λ m n a b.
      null_same (alt f rest) ok ord vars k m n (either_left (P f k).null (P rest at).null m a) (either_right (P f k).null (P rest at).null n b)) in (
        record {
          places = omega (arith, x.0.places, y.0.places);
          null = omega (arith, len, x.0.null, y.0.null);
          first = omega (arith, length_append (P f k).first (P rest at).first, x.0.first, y.0.first);
          last = omega (arith, length_append (P f k).last (P rest at).last, x.0.last, y.0.last);
          follow = omega (arith, length_append (P f k).follow (P rest at).follow, x.0.follow, y.0.follow);
        },
        omega (arith, len, x.1, y.1),
      )
  counted (rep f least most) ok ord vars =
      counted_repeated least most (P f) (plain f) (null_zero f ok.0 ord.0 ok.1) (counted f ok.0 ord.0 vars)
  counted (cap x f) ok ord vars = λ k.
      let r = counted f ok.0 ord (λ x h. vars x (inr h)) k in
      let o = opening_of names x in
      let c = closing_of names x in (
        record {
          places = r.0.places;
          null = length-map (P f k).null (◌+◌ (o + c)) ∙ r.0.null;
          first = length-map (P f k).first (entry_with o) ∙ r.0.first;
          last = length-map (P f k).last (stop_with c) ∙ r.0.last;
          follow = r.0.follow;
        },
        omega (arith, length-map (P f k).null (◌+◌ (o + c)), r.1),
      )

  -- no null has more than one block
  abbrev N : Tree → ℕ
  N = null_size (opening_of names) (closing_of names)

  functional_null : (f : Tree) → IsFunctional f → HasOrderedRepeats f → ((x : VarName) → HasVar f x → Has names x) → N f ≤ 1
  functional_null f ok ord vars =
      omega (arith, (counted f ok ord vars 1).1, ap (λ (ms : List ℕ). length ms) (lengths (opening_of names) (closing_of names) f 1).null)

  pub functional_largest : (f : Tree) → IsFunctional f → HasOrderedRepeats f → ((x : VarName) → HasVar f x → Has names x) → (before : ℕ) → before ≤ 1 →
      largest_null (opening_of names) (closing_of names) before f ≤ 1
  functional_largest empty ok ord vars before le = omega arith
  functional_largest (one set) ok ord vars before le = omega arith
  functional_largest cat_end ok ord vars before le = le
  functional_largest (cat f rest) ok ord vars before le =
      let vf : (x : VarName) → HasVar f x → Has names x = λ x h. vars x (inl h) in
      let here = functional_largest f ok.0 ord.0 vf 1 (omega arith) in
      let both = product_small before (N f) le (functional_null f ok.0 ord.0 vf) in
      omega (arith, le, here, functional_largest rest ok.1 ord.1 (λ x h. vars x (inr h)) (before * N f) both)
  functional_largest alt_end ok ord vars before le = omega arith
  functional_largest (alt f rest) ok ord vars before le =
      omega (
        arith,
        functional_null (alt f rest) ok ord vars,
        functional_largest f ok.0 ord.0 (λ x h. vars x (inl h)) 1 (omega arith),
        functional_largest rest ok.1 ord.1 (λ x h. vars x (inr h)) 1 (omega arith),
      )
  functional_largest (rep f least most) ok ord vars before le =
      omega (arith, functional_null (rep f least most) ok ord vars, functional_largest f ok.0 ord.0 vars 1 (omega arith))
  functional_largest (cap x f) ok ord vars before le = functional_largest f ok.0 ord (λ y h. vars y (inr h)) 1 (omega arith)

-- the ways of an atom's automaton, by its places
ways_counted : (s t : Bool) (F : Places) (c : PlainCounts) → CountsAre F c →
    length (automaton_of_places s t F).ways ≡ c.first + c.follow + (if s then 0 else 1) + (if t then 0 else c.last + 1 + c.null)
ways_counted s t F c r =
    let outs = unless t (after_ways (suc F.count) F) in
    omega (
      arith,
      length_append F.follow (map way_from_first F.first ++ (unless s (idle_way 0 ∷ []) ++ outs)),
      length_append (map way_from_first F.first) (unless s (idle_way 0 ∷ []) ++ outs),
      length_append (unless s (idle_way 0 ∷ [])) outs,
      length-map F.first way_from_first,
      idles s,
      afters t,
      r.first,
      r.follow,
    )
  where
    idles : (s : Bool) → length (unless s (idle_way 0 ∷ [])) ≡ (if s then 0 else 1)
    idles true = refl
    idles false = refl

    afters : (t : Bool) → length (unless t (after_ways (suc F.count) F)) ≡ (if t then 0 else c.last + 1 + c.null)
    afters true = refl
    afters false =
        omega (arith, length-map (place_stops F) (way_after (suc F.count)), length_append F.last (map stop_before F.null), length-map F.null stop_before, r.last, r.null)

pub functional_counts : FunctionalCountLaw
functional_counts a ok ord =
    let f = a.formula in
    let names = with_vars [] f in
    let dis = ascending-distinct names (list_ascends f) in
    let vars : (x : VarName) → HasVar f x → Has names x = λ x h. (vars_are f x).1 h in
    let new = count_law a in
    let old = counted names dis f ok ord vars 1 in
    let small : largest_null_over names f ≤ MOST_SETS = omega (arith, functional_largest names dis f ok ord vars 1 (omega arith)) in (
      sym new.0 ∙ ap (λ n. 1 + n + (if a.to_end then 0 else 1)) old.0.places,
      sym (new.1 (le-ltb MOST_SETS (largest_null_over names f) small)) ∙ ways_counted a.from_start a.to_end (placed (opening_of names) (closing_of names) f 1) (plain f) old.0,
    )
