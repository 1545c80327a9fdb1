-- The automaton of a query only waits at the positions that no atom of its text touches.
use Rattle.std.proofs.Common.{◌≡◌, ℕ, zero, suc, ◌*◌, ◌^◌, ◌≤◌, ◌⊎◌, Bool, true, false, List, [], ◌∷◌, length, Option, Some, None, inl, inr, refl, sym, ap, arith, ◌∙◌, true≢false}
use Rattle.std.specs.Prelude.{IsTrue, slice_get, nat_eq, if◌then◌else◌}
use Rattle.std.specs.Option.{ForSome}
use Rattle.spanner_model.specs.Captures.{VarName}
use Rattle.spanner_model.specs.Expression.{ExprTree, atom, named, union_end, union, join_end, join, project, minus}
use Rattle.spanner_model.specs.Answer.{vars_of_lets}
use Rattle.span_core.specs.Lists.{Has}
use Rattle.spanner_model.specs.Sound.{AreJoined, AreUnited, IsSoundExpr, IsSoundUnder, sure_of_lets}
use Rattle.span_core.proofs.HasLaws.{Has-slice_get}
use Rattle.span_core.specs.NameSets.{has_name}
use Rattle.marked_automaton.specs.Automaton.{Automaton, IsWhole, Marked}
use Rattle.marked_automaton.specs.Marks.{bits_of, left_of}
use Rattle.marked_automaton.proofs.Erased.{bits_zero, left_zero}
use Rattle.place_automaton.proofs.BuiltRepeats.{ordered_repeats}
use Rattle.place_automaton.proofs.WholeLaws.{whole_law}
use Rattle.algebra.specs.JoinedMarks.{agree_on, joined}
use Rattle.algebra.specs.JoinedNames.{all_names}
use Rattle.algebra.specs.Uniting.{graph_over}
use Rattle.algebra.proofs.Alike.{remarked_whole}
use Rattle.algebra.proofs.UnionsOver.{union_over_whole}
use Rattle.algebra.proofs.Whole.{join_whole}
use Rattle.place_automaton.specs.Variables.{with_vars}
use Rattle.algebra_minus.proofs.DifferenceMade.{difference_made}
use Rattle.query_automaton.specs.QueryAutomaton.{automaton_of, no_automaton, of_join, of_lets, of_minus, of_one_let, of_projection, of_query, of_union, together, united}
use Rattle.query_automaton.proofs.QueryWords.{words_of_reduct}
use Rattle.segment_filter.specs.Idling.{WaitsOutside}
use Rattle.spanner_engine.specs.Waiting.{QueryReading, QueryWaits}
use Rattle.segment_filter.specs.Touching.{Contains, IsTouchedBy}
use Rattle.spanner_engine.specs.Touching.{HasMinusIn, SomeAtom, TouchedOf}
use Rattle.segment_filter.proofs.AtomWaiting.{atom_waits}
use Rattle.segment_filter.proofs.GapReading.{accepts_read, read_accepts}
use Rattle.spanner_engine.proofs.OperationsWait.{join_waits, projection_waits, reduct_waits, union_waits}

-- ---- of no markers nothing is left, and none are joined

joined_zero : (names1 names2 all : List VarName) → joined names1 names2 all 0 0 ≡ 0
joined_zero names1 names2 [] = refl
joined_zero names1 names2 (x ∷ all) =
    let one : (if has_name names1 x then bits_of names1 0 x else bits_of names2 0 x) ≡ 0 = go (has_name names1 x) in
    let here : (if has_name names1 x then bits_of names1 0 x else bits_of names2 0 x) * 2 ^ (2 * length all) ≡ 0 * 2 ^ (2 * length all) =
    ap (λ b. b * 2 ^ (2 * length all)) one in
    omega (arith, here, joined_zero names1 names2 all)
  where
    go : (b : Bool) → (if b then bits_of names1 0 x else bits_of names2 0 x) ≡ 0
    go true = bits_zero names1 x
    go false = bits_zero names2 x

-- ---- expressions

module _ (d : List ℕ) (K : ℕ → Bool) where
  -- a whole automaton that only waits outside of K
  abbrev pub Waits : Marked → Type 0
  Waits M = IsWhole M.graph × WaitsOutside M.graph d K

  abbrev Touched : ExprTree → ℕ → Type 0
  Touched e i = SomeAtom (λ a. IsTouchedBy a d i) e ⊎ (HasMinusIn e × (i ≤ length d))

  abbrev Has_all : ExprTree → Type 0
  Has_all e = Contains K (Touched e)

  some_within : (e : ExprTree) (i : ℕ) → SomeAtom (λ a. IsTouchedBy a d i) e → i ≤ length d
  some_within (atom a) i h = omega (arith, h.4, h.8)
  some_within (named k) i h = absurd h
  some_within union_end i h = absurd h
  some_within (union e rest) i (inl h) = some_within e i h
  some_within (union e rest) i (inr h) = some_within rest i h
  some_within join_end i h = absurd h
  some_within (join e rest) i (inl h) = some_within e i h
  some_within (join e rest) i (inr h) = some_within rest i h
  some_within (project names e) i h = some_within e i h
  some_within (minus e g) i (inl h) = some_within e i h
  some_within (minus e g) i (inr h) = some_within g i h

  -- where K has all positions, the parts of an expression are contained, and each automaton waits outside
  full_has : ((i : ℕ) → i ≤ length d → IsTrue (K i)) → (e : ExprTree) → Has_all e
  full_has full e i t = elim t as (λ _. IsTrue (K i)) [ inl a ↦ full i (some_within e i a) | inr m ↦ full i m.1 ]

  full_waits : ((i : ℕ) → i ≤ length d → IsTrue (K i)) → (A : Automaton) → WaitsOutside A d K
  full_waits full A = record {
    states = λ i p k led out. absurd (true≢false (sym (full i (omega (arith, out.2))) ∙ k));
    ways = λ i y k h led byte out. absurd (true≢false (sym (full i (omega (arith, out.2))) ∙ k));
  }

  first_of_union : (e rest : ExprTree) → Has_all (union e rest) → Has_all e
  first_of_union e rest has i t = has i (elim t as (λ _. Touched (union e rest) i) [ inl a ↦ inl (inl a) | inr m ↦ inr (inl m.0, m.1) ])

  rest_of_union : (e rest : ExprTree) → Has_all (union e rest) → Has_all rest
  rest_of_union e rest has i t = has i (elim t as (λ _. Touched (union e rest) i) [ inl a ↦ inl (inr a) | inr m ↦ inr (inr m.0, m.1) ])

  first_of_join : (e rest : ExprTree) → Has_all (join e rest) → Has_all e
  first_of_join e rest has i t = has i (elim t as (λ _. Touched (join e rest) i) [ inl a ↦ inl (inl a) | inr m ↦ inr (inl m.0, m.1) ])

  rest_of_join : (e rest : ExprTree) → Has_all (join e rest) → Has_all rest
  rest_of_join e rest has i t = has i (elim t as (λ _. Touched (join e rest) i) [ inl a ↦ inl (inr a) | inr m ↦ inr (inr m.0, m.1) ])

  none_waits : Waits no_automaton
  none_waits = (
    record { starts = λ p h. absurd h; froms = λ y h. absurd h; tos = λ y h. absurd h; stops = λ x h. absurd h; idles = λ p h. absurd h },
    record { states = λ i p k led out. absurd led.1; ways = λ i y k h led byte out. absurd h },
  )

  -- over any names
  over_waits : (all : List VarName) (M : Marked) → Waits M → IsWhole (graph_over all M) × WaitsOutside (graph_over all M) d K
  over_waits all M m = (
    remarked_whole (left_of M.names all) M.graph m.0,
    projection_waits M.graph (left_of M.names all) (left_zero M.names all) d K m.1,
  )

  two_united : (M N : Marked) → Waits M → Waits N → Waits (of_union M N)
  two_united M N m n =
      let all = all_names M.names N.names in
      let first = over_waits all M m in
      let second = over_waits all N n in (
        union_over_whole M N all m.0 n.0,
        union_waits (graph_over all M) (graph_over all N) first.0 second.0 d K first.1 second.1,
      )

  two_joined : (M N : Marked) → Waits M → Waits N → Waits (of_join M N)
  two_joined M N m n =
      let all = all_names M.names N.names in (
        join_whole M.graph N.graph m.0 n.0 (agree_on M.names N.names all) (joined M.names N.names all),
        join_waits (agree_on M.names N.names all) (joined M.names N.names all) M.graph N.graph m.0 n.0 (joined_zero M.names N.names all) d K m.1 n.1,
      )

  two_differ : ((i : ℕ) → i ≤ length d → IsTrue (K i)) → (M N : Marked) → Waits M → Waits N → Waits (of_minus M N)
  two_differ full M N m n = ((difference_made M.graph N.graph m.0 n.0).4.whole, full_waits full (of_minus M N).graph)

  projected : (names : List VarName) (M : Marked) → Waits M → Waits (of_projection names M)
  projected names M m = over_waits names M m

  module _ (V S : ℕ → VarName → Type 0) (n : ℕ) (L : ℕ → Marked) (lets : (k : ℕ) → Waits (L k)) where
    -- what is shown of an expression: as it is, as the parts of a union that follow, and as those of a join
    record AllWait (e : ExprTree) : Type 0 where
      whole : IsSoundExpr V S n e → Has_all e → Waits (automaton_of L e)
      united_parts : (M : Marked) → AreUnited V S n e → Has_all e → Waits M → Waits (united L M e)
      joined_parts : (M : Marked) → AreJoined V S n e → Has_all e → Waits M → Waits (together L M e)

    all_wait : (e : ExprTree) → AllWait e
    all_wait (atom a) = record {
      whole = λ h has. (
        whole_law (with_vars [] a.formula) a,
        atom_waits (with_vars [] a.formula) a h.1 (ordered_repeats a.formula h.0) d K (λ i t. has i (inl t)),
      );
      united_parts = λ M h has m. absurd h;
      joined_parts = λ M h has m. absurd h;
    }
    all_wait (named k) = record { whole = λ h has. lets k; united_parts = λ M h has m. absurd h; joined_parts = λ M h has m. absurd h }
    all_wait union_end = record { whole = λ h has. absurd h; united_parts = λ M h has m. m; joined_parts = λ M h has m. absurd h }
    all_wait (union e rest) = record {
      whole = λ h has. (all_wait rest).united_parts (automaton_of L e) h.1 (rest_of_union e rest has) ((all_wait e).whole h.0 (first_of_union e rest has));
      united_parts = λ M h has m.
          (all_wait rest).united_parts (of_union M (automaton_of L e)) h.1 (rest_of_union e rest has)
          (two_united M (automaton_of L e) m ((all_wait e).whole h.0 (first_of_union e rest has)));
      joined_parts = λ M h has m. absurd h;
    }
    all_wait join_end = record { whole = λ h has. absurd h; united_parts = λ M h has m. absurd h; joined_parts = λ M h has m. m }
    all_wait (join e rest) = record {
      whole = λ h has. (all_wait rest).joined_parts (automaton_of L e) h.1 (rest_of_join e rest has) ((all_wait e).whole h.0 (first_of_join e rest has));
      united_parts = λ M h has m. absurd h;
      joined_parts = λ M h has m.
          (all_wait rest).joined_parts (of_join M (automaton_of L e)) h.1 (rest_of_join e rest has)
          (two_joined M (automaton_of L e) m ((all_wait e).whole h.0 (first_of_join e rest has)));
    }
    all_wait (project names e) = record {
      whole = λ h has. projected names (automaton_of L e) ((all_wait e).whole h.0 has);
      united_parts = λ M h has m. absurd h;
      joined_parts = λ M h has m. absurd h;
    }
    all_wait (minus e g) = record {
      whole = λ h has.
          let full : (i : ℕ) → i ≤ length d → IsTrue (K i) = λ i l. has i (inr (tt, l)) in
          two_differ full (automaton_of L e) (automaton_of L g) ((all_wait e).whole h.0 (full_has full e)) ((all_wait g).whole h.1 (full_has full g));
      united_parts = λ M h has m. absurd h;
      joined_parts = λ M h has m. absurd h;
    }

    pub expr_waits : (e : ExprTree) → IsSoundExpr V S n e → Has_all e → Waits (automaton_of L e)
    expr_waits e = (all_wait e).whole

  -- ---- lets and queries

  module _ (lets : List (VarName × ExprTree)) (sound : (k : ℕ) → ForSome (slice_get lets k) (λ l. IsSoundUnder lets k l.1))
      (has : (l : VarName × ExprTree) → Has lets l → Has_all l.1) where
    one_let : (n : ℕ) (L : ℕ → Marked) → ((k : ℕ) → Waits (L k)) → (o : Option (VarName × ExprTree)) → slice_get lets n ≡ o → Waits (of_one_let L o)
    one_let n L before None at = none_waits
    one_let n L before (Some l) at = expr_waits (vars_of_lets lets n) (sure_of_lets lets n) n L before l.1 (sound n l at).0 (has l (Has-slice_get lets n l at))

    pub lets_wait : (n k : ℕ) → Waits (of_lets lets n k)
    lets_wait zero k = none_waits
    lets_wait (suc n) k = go (nat_eq k n) (one_let n (of_lets lets n) (lets_wait n) (slice_get lets n) refl) (lets_wait n k)
      where
        go : (b : Bool) → Waits (of_one_let (of_lets lets n) (slice_get lets n)) → Waits (of_lets lets n k) →
            Waits (if b then of_one_let (of_lets lets n) (slice_get lets n) else of_lets lets n k)
        go true one rest = one
        go false one rest = rest

pub query_waits : QueryWaits
query_waits q sound d K has =
    (expr_waits d K (vars_of_lets q.lets (length q.lets)) (sure_of_lets q.lets (length q.lets)) (length q.lets) (of_lets q.lets (length q.lets))
    (lets_wait d K q.lets sound.sound_lets (λ l h i t. has i (in_let i l h t)) (length q.lets)) q.body sound.sound_body.0 (λ i t. has i (in_body i t))).1
  where
    in_let : (i : ℕ) (l : VarName × ExprTree) → Has q.lets l → Touched d K l.1 i → TouchedOf q d i
    in_let i l h (inl a) = inl (inl (l, h, a))
    in_let i l h (inr m) = inr (inl (l, h, m.0), m.1)

    in_body : (i : ℕ) → Touched d K q.body i → TouchedOf q d i
    in_body i (inl a) = inl (inr a)
    in_body i (inr m) = inr (inr m.0, m.1)

pub query_reading : QueryReading
query_reading q sound A marked r d bytes K has w =
    let words = (words_of_reduct q sound A r).1 d bytes w in
    let waits = reduct_waits A.graph (of_query q).graph r.1 d K (query_waits q sound d K has) in
    (λ h. words.0 (read_accepts A.graph marked.idle_ways d bytes K w h), λ h. accepts_read A.graph d K w waits (words.1 h))
