-- What is made of the parts of an expression when it is compiled.
use Rattle.std.proofs.Common.{◌≡◌, ℕ, map, ◌+◌, ◌<◌, ◌≤◌, List, [], ◌∷◌, length, take, drop, Some, inl, inr, refl, sym, ap, subst, arith, ◌∙◌}
use Rattle.std.specs.Prelude.{slice_get}
use Rattle.std.proofs.Math.Seq.{take-length}
use Rattle.std.proofs.lemmas.List.{take-append-drop}
use Rattle.span_core.specs.NameSets.{Ascending}
use Rattle.span_core.specs.Lists.{Has}
use Rattle.spanner_model.specs.Captures.{VarName, Mapping}
use Rattle.spanner_model.specs.Expression.{ExprTree, QueryTree, project, union_all, join_all}
use Rattle.spanner_model.specs.ExprView.{query_of}
use Rattle.spanner_model.specs.Answer.{VarOf, Answer, vars_of_lets, answers_of_lets}
use Rattle.spanner_model.specs.Sound.{IsSoundExpr, NameIn, NameInLets, NameOf, sure_of_lets}
use Rattle.spanner_model.proofs.Deciding.{told_lets}
use Rattle.spanner_model.proofs.ExprLaws.{union_part, join_part, union_named, join_named, var_named, lets_named}
use Rattle.span_core.proofs.HasLaws.{Has-slice_get, Has-append_cases, Has-append_left, Has-map_cases, distinct-le}
use Rattle.spanner_model.proofs.NameLaws.{ascending-distinct}
use Rattle.spanner_model.proofs.Nodes.{expr_nodes}
use Rattle.spanner_model.proofs.TreeLaws.{take_at_more}
use Rattle.marked_automaton.specs.declared.way.Way.{Way}
use Rattle.marked_automaton.specs.declared.fault.SizeFault.{SizeFault}
use Rattle.marked_automaton.specs.declared.fault.SizeFault.TheVariants.{States, Ways, OutOfMemory}
use Rattle.marked_automaton.specs.Automaton.{Automaton, IsWhole, IsMarked, Marked, size}
use Rattle.marked_automaton.specs.Laws.{WaysHaveBytes}
use Rattle.marked_automaton.specs.Marks.{left_of, remarked_way}
use Rattle.marked_automaton.specs.Reduct.{Reduces, ReducesMarked}
use Rattle.marked_automaton.proofs.Reducts.{reduct_of_reduct}
use Rattle.marked_automaton.proofs.Sizes.{reduct_is_no_larger}
use Rattle.algebra.specs.JoinedMarks.{agree_on, joined}
use Rattle.algebra.specs.JoinedNames.{all_names}
use Rattle.algebra.specs.Operations.{union_of, join_of, moved_way}
use Rattle.algebra.specs.Uniting.{graph_over}
use Rattle.algebra.proofs.ReductJoins.{reduct_of_join}
use Rattle.algebra.proofs.UnionsOver.{reduct_of_union_over, union_over_whole}
use Rattle.algebra.proofs.Whole.{join_whole}
use Rattle.algebra.proofs.Rejoined.{join_bytes}
use Rattle.algebra.proofs.NamesLaws.{all_ascend, all_are}
use Rattle.query_automaton.specs.BegunQuery.{BegunQuery, CanCompile}
use Rattle.query_automaton.specs.Compiling.{IsAsked, AreCompiled, IsCompiledFrom}
use Rattle.query_automaton.specs.Held.{ArePartsWithin}
use Rattle.query_automaton.specs.Parts.{HasLargePartOf, HasSmallAtoms, numbers_of}
use Rattle.query_automaton.specs.QueryAutomaton.{of_union, of_join, automaton_of, united, together, of_lets}
use Rattle.query_automaton.proofs.Combining.{AreTooLarge, HaveFewNames, Operation, Union, Join, all_of, of_two}
use Rattle.query_automaton.proofs.Combined.{alone, first_taken, grown, part_at, step_is_part, two_parts}
use Rattle.query_automaton.proofs.QueryWords.{expr_for, lets_for}
use Rattle.query_automaton.proofs.Words.{IsFor}

-- ---- a part of what is asked

part_sound : (V S : ℕ → VarName → Type 0) (n : ℕ) (o : Operation) (es : List ExprTree) (e : ExprTree) → Has es e → IsSoundExpr V S n (all_of o es) → IsSoundExpr V S n e
part_sound V S n Union es e h sound = union_part V S n es e sound h
part_sound V S n Join es e h sound = join_part V S n es e sound h

part_named : (o : Operation) (es : List ExprTree) (e : ExprTree) (x : VarName) → Has es e → NameIn e x → NameIn (all_of o es) x
part_named Union es e x h v = union_named es e x h v
part_named Join es e x h v = join_named es e x h v

pub asked_part : (o : Operation) (q : QueryTree) (n : ℕ) (es : List ExprTree) (e : ExprTree) → Has es e → IsAsked q n (all_of o es) → IsAsked q n e
asked_part o q n es e h a = record {
  sound = a.sound;
  sound_expr = part_sound (vars_of_lets q.lets n) (sure_of_lets q.lets n) n o es e h a.sound_expr;
  named = λ x v. a.named x (part_named o es e x h v);
}

pub asked_sub : {q : QueryTree} {n : ℕ} {names : List VarName} {e : ExprTree} → IsAsked q n (project names e) → IsAsked q n e
asked_sub a = record { sound = a.sound; sound_expr = a.sound_expr.0; named = λ x v. a.named x v }

-- ---- parts with small atoms

pub all_small : (o : Operation) (es : List ExprTree) → ((e : ExprTree) → Has es e → HasSmallAtoms e) → HasSmallAtoms (all_of o es)
all_small Union [] h = tt
all_small Union (e ∷ es) h = (h e (inl refl), all_small Union es (λ g i. h g (inr i)))
all_small Join [] h = tt
all_small Join (e ∷ es) h = (h e (inl refl), all_small Join es (λ g i. h g (inr i)))

small_more : (es : List ExprTree) (k : ℕ) (y : ExprTree) → slice_get es k ≡ Some y → ((e : ExprTree) → Has (take k es) e → HasSmallAtoms e) → HasSmallAtoms y →
    (e : ExprTree) → Has (take (k + 1) es) e → HasSmallAtoms e
small_more es k y at h g e i =
    elim (Has-append_cases (take k es) (y ∷ []) e (rw (← take_at_more es k y at) i)) as (λ _. HasSmallAtoms e) [
      | inl a ↦ h e a
      | inr b ↦ elim b as (λ _. HasSmallAtoms e) [ inl same ↦ subst HasSmallAtoms same g | inr c ↦ absurd c ]
    ]

-- ---- unions and joins of reducts

-- those of a union have those of its parts
union_bytes : (A B : Automaton) → WaysHaveBytes A → WaysHaveBytes B → WaysHaveBytes (union_of A B)
union_bytes A B a b y h =
    elim (Has-append_cases A.ways (map (moved_way A.states) B.ways) y h) [
      | inl x ↦ a y x
      | inr z ↦ let r = Has-map_cases (moved_way A.states) B.ways y z in λ none. b r.0 r.1 (ap (λ (g : Way). g.bytes) r.2 ∙ none)
    ]

-- those of an automaton over other names have those that they had
bytes_over : (all : List VarName) (A : Marked) → WaysHaveBytes A.graph → WaysHaveBytes (graph_over all A)
bytes_over all A a y h =
    let r = Has-map_cases (remarked_way (left_of A.names all)) A.graph.ways y h in
    λ none. a r.0 r.1 (ap (λ (g : Way). g.bytes) r.2 ∙ none)

two_whole : (o : Operation) (A B : Marked) → IsWhole A.graph → IsWhole B.graph → IsWhole (of_two o A B).graph
two_whole Union A B a b = union_over_whole A B (all_names A.names B.names) a b
two_whole Join A B a b =
    let names = all_names A.names B.names in
    join_whole A.graph B.graph a b (agree_on A.names B.names names) (joined A.names B.names names)

two_bytes : (o : Operation) (A B : Marked) → WaysHaveBytes A.graph → WaysHaveBytes B.graph → WaysHaveBytes (of_two o A B).graph
two_bytes Union A B a b =
    let all = all_names A.names B.names in
    union_bytes (graph_over all A) (graph_over all B) (bytes_over all A a) (bytes_over all B b)
two_bytes Join A B a b =
    let names = all_names A.names B.names in
    join_bytes (agree_on A.names B.names names) (joined A.names B.names names) A.graph B.graph

two_reduce : (o : Operation) (A B C D : Marked) → IsWhole A.graph → IsWhole B.graph → IsWhole C.graph → IsWhole D.graph → ReducesMarked A B → ReducesMarked C D →
    ReducesMarked (of_two o A C) (of_two o B D)
two_reduce Union A B C D a b c d r s =
    let names : all_names A.names C.names ≡ all_names B.names D.names =
    ap (λ (ns : List VarName). all_names ns C.names) r.0 ∙ ap (λ (ns : List VarName). all_names B.names ns) s.0 in (
      names,
      rw names
          (reduct_of_union_over A B C D (all_names B.names D.names) a b c d r.0 s.0 r.1 s.1),
    )
two_reduce Join A B C D a b c d r s =
    let names = all_names B.names D.names in
    let reduces : Reduces (join_at B.names D.names A.graph C.graph) (of_join B D).graph =
    reduct_of_join (agree_on B.names D.names names) (joined B.names D.names names) A.graph B.graph C.graph D.graph a b c d r.1 s.1 in (
      ap (λ (ns : List VarName). all_names ns C.names) r.0 ∙ ap (λ (ns : List VarName). all_names B.names ns) s.0,
      rw r.0
          (rw s.0 reduces),
    )
  where
    join_at : List VarName → List VarName → Automaton → Automaton → Automaton
    join_at ns ms X Y = join_of (agree_on ns ms (all_names ns ms)) (joined ns ms (all_names ns ms)) X Y

-- ---- names

-- the names ascend, and each is one of these
record HasNamesOf (P : VarName → Type 0) (A : Marked) : Type 0 where
  ascend : Ascending A.names
  those : (z : VarName) → Has A.names z → P z

two_names : (P : VarName → Type 0) (A B : Marked) → HasNamesOf P A → HasNamesOf P B → Ascending (all_names A.names B.names) × ((z : VarName) → Has (all_names A.names B.names) z → P z)
two_names P A B a b = (
  all_ascend B.names A.names a.ascend,
  λ z h. elim ((all_are A.names B.names z).0 h) as (λ _. P z) [ inl i ↦ a.those z i | inr i ↦ b.those z i ],
)

-- ---- compiled parts

-- what is made of the first k of these parts, after n lets
pub record SoFar (q : QueryTree) (n : ℕ) (o : Operation) (es : List ExprTree) (k : ℕ) (a : Marked) : Type 0 where
  pub reduces : ReducesMarked a (automaton_of (of_lets q.lets n) (all_of o (take k es)))
  pub small : (e : ExprTree) → Has (take k es) e → HasSmallAtoms e

module _ {q : QueryTree} {lets : List Marked} (known : AreCompiled q lets) where
  abbrev N : ℕ
  N = length lets

  abbrev V : ℕ → VarName → Type 0
  V = vars_of_lets q.lets N

  abbrev S : ℕ → VarName → Type 0
  S = sure_of_lets q.lets N

  abbrev L : ℕ → Marked
  L = of_lets q.lets N

  abbrev Lets : ℕ → Mapping → Type 0
  Lets = answers_of_lets q.lets [] N

  -- names, and that it is whole, of an expression's automaton
  pub shape : {e : ExprTree} → IsAsked q N e → IsFor [] (VarOf V e) (Answer V Lets [] e) (automaton_of L e)
  shape {e} asked =
      expr_for [] (λ i b at. absurd (cc)) N V S Lets L
      (lets_for [] (λ i b at. absurd (cc)) q.lets asked.sound.sound_lets N known.few N (omega arith)) (told_lets q.lets N) e asked.sound_expr

  -- a variable of the expression is a name of the query
  pub var_name : (e : ExprTree) → IsAsked q N e → (x : VarName) → VarOf V e x → NameOf q x
  var_name e a x v =
      elim (var_named V S (NameInLets q.lets) (lets_named q.lets a.sound.sound_lets N) N e x a.sound_expr v) as (λ _. NameOf q x) [ inl i ↦ a.named x i | inr j ↦ inl j ]

  part_names : (e : ExprTree) → IsAsked q N e → HasNamesOf (NameOf q) (automaton_of L e)
  part_names e a = let s = shape a in record { ascend = s.ascending; those = λ z h. var_name e a z ((s.names z).0 h) }

  -- ---- the automata of the first parts

  -- an automaton with the parts that follow it
  abbrev combined : Operation → Marked → List ExprTree → Marked
  combined Union A xs = united L A (union_all xs)
  combined Join A xs = together L A (join_all xs)

  whole_combined : (o : Operation) (xs : List ExprTree) (A : Marked) → IsWhole A.graph → ((e : ExprTree) → Has xs e → IsWhole (automaton_of L e).graph) → IsWhole (combined o A xs).graph
  whole_combined Union [] A a h = a
  whole_combined Join [] A a h = a
  whole_combined Union (x ∷ xs) A a h =
      whole_combined Union xs (of_union A (automaton_of L x)) (two_whole Union A (automaton_of L x) a (h x (inl refl))) (λ e i. h e (inr i))
  whole_combined Join (x ∷ xs) A a h =
      whole_combined Join xs (of_join A (automaton_of L x)) (two_whole Join A (automaton_of L x) a (h x (inl refl))) (λ e i. h e (inr i))

  whole_all : (o : Operation) (x : ExprTree) (xs : List ExprTree) → ((e : ExprTree) → Has (x ∷ xs) e → IsWhole (automaton_of L e).graph) → IsWhole (automaton_of L (all_of o (x ∷ xs))).graph
  whole_all Union x xs h = whole_combined Union xs (automaton_of L x) (h x (inl refl)) (λ e i. h e (inr i))
  whole_all Join x xs h = whole_combined Join xs (automaton_of L x) (h x (inl refl)) (λ e i. h e (inr i))

  names_combined : (o : Operation) (P : VarName → Type 0) (xs : List ExprTree) (A : Marked) → HasNamesOf P A → ((e : ExprTree) → Has xs e → HasNamesOf P (automaton_of L e)) →
      HasNamesOf P (combined o A xs)
  names_combined Union P [] A a h = a
  names_combined Join P [] A a h = a
  names_combined Union P (x ∷ xs) A a h =
      let two = two_names P A (automaton_of L x) a (h x (inl refl)) in
      names_combined Union P xs (of_union A (automaton_of L x)) (record { ascend = two.0; those = two.1 }) (λ e i. h e (inr i))
  names_combined Join P (x ∷ xs) A a h =
      let two = two_names P A (automaton_of L x) a (h x (inl refl)) in
      names_combined Join P xs (of_join A (automaton_of L x)) (record { ascend = two.0; those = two.1 }) (λ e i. h e (inr i))

  names_all : (o : Operation) (P : VarName → Type 0) (x : ExprTree) (xs : List ExprTree) → ((e : ExprTree) → Has (x ∷ xs) e → HasNamesOf P (automaton_of L e)) →
      HasNamesOf P (automaton_of L (all_of o (x ∷ xs)))
  names_all Union P x xs h = names_combined Union P xs (automaton_of L x) (h x (inl refl)) (λ e i. h e (inr i))
  names_all Join P x xs h = names_combined Join P xs (automaton_of L x) (h x (inl refl)) (λ e i. h e (inr i))

  pub so_far_first : {o : Operation} {es : List ExprTree} {x : ExprTree} {a : Marked} → slice_get es 0 ≡ Some x → IsCompiledFrom q N x a → SoFar q N o es 1 a
  so_far_first {es = []} at c = absurd (cc)
  so_far_first {o = o} {es = e ∷ es} {x = x} at c =
      let same : x ≡ e = cc in record {
        reduces = rw (← ap (automaton_of L) same ∙ sym (alone L o e)) c.reduces;
        small = λ w i. elim i as (λ _. HasSmallAtoms w) [ inl j ↦ subst HasSmallAtoms (same ∙ j) c.small | inr j ↦ absurd j ];
      }

  pub so_far_all : {o : Operation} {es : List ExprTree} {k : ℕ} {a : Marked} → IsAsked q N (all_of o es) → (2 ≤ length es → k ≡ length es) → SoFar q N o es k a →
      IsCompiledFrom q N (all_of o es) a
  so_far_all {o} {es} {k} asked e s =
      let whole : take k es ≡ es = ap (λ n. take n es) (e (two_parts V S N o es asked.sound_expr)) ∙ take-length es in record {
        reduces = rw (← whole) s.reduces;
        small = all_small o es (λ g i. s.small g (rw whole i));
      }

  -- the first k parts, and the next
  module _ (o : Operation) (es : List ExprTree) (asked : IsAsked q N (all_of o es)) (k : ℕ) (l : 1 ≤ k) where
    has_two : 2 ≤ length es
    has_two = two_parts V S N o es asked.sound_expr

    taken_has : (e : ExprTree) → Has (take k es) e → Has es e
    taken_has e h = rw (← take-append-drop k es) (Has-append_left (take k es) (drop k es) e h)

    taken_asked : (e : ExprTree) → Has (take k es) e → IsAsked q N e
    taken_asked e h = asked_part o q N es e (taken_has e h) asked

    prefix_whole : IsWhole (automaton_of L (all_of o (take k es))).graph
    prefix_whole =
        let f = first_taken es k l (omega (arith, has_two)) in
        rw f.2
        (whole_all o f.0 f.1 (λ e h. (shape (taken_asked e (rw f.2 h))).whole))

    -- names of the query
    prefix_names : HasNamesOf (NameOf q) (automaton_of L (all_of o (take k es)))
    prefix_names =
        let f = first_taken es k l (omega (arith, has_two)) in
        rw f.2
        (names_all o (NameOf q) f.0 f.1 (λ e h. part_names e (taken_asked e (rw f.2 h))))

    -- the first parts and the next have few names together
    can_combine : (y : ExprTree) → Has es y → HaveFewNames (automaton_of L (all_of o (take k es))) (automaton_of L y)
    can_combine y h =
        let A = automaton_of L (all_of o (take k es)) in
        let B = automaton_of L y in
        let two = two_names (NameOf q) A B prefix_names (part_names y (asked_part o q N es y h asked)) in
        let least = asked.sound.few in
        let le = distinct-le (all_names A.names B.names) least.0 (ascending-distinct (all_names A.names B.names) two.0) (λ z n. least.2 z (two.1 z n)) in
        omega (arith, le, least.1)

  module _ {o : Operation} {es : List ExprTree} {k : ℕ} {y : ExprTree} {a p : Marked} (asked : IsAsked q N (all_of o es)) (l : 1 ≤ k) (at : slice_get es k ≡ Some y)
      (so_far : SoFar q N o es k a) (part : IsCompiledFrom q N y p) where
    abbrev A : Marked
    A = automaton_of L (all_of o (take k es))

    abbrev B : Marked
    B = automaton_of L y

    y_has : Has es y
    y_has = Has-slice_get es k y at

    pub combine : HaveFewNames a p
    combine =
        rw so_far.reduces.0
        (rw part.reduces.0 (can_combine o es asked k l y y_has))

    module _ (marked : IsMarked a × IsMarked p) where
      reduce : ReducesMarked (of_two o a p) (of_two o A B)
      reduce =
          two_reduce o a A p B marked.0.whole (prefix_whole o es asked k l) marked.1.whole
          (shape (asked_part o q N es y y_has asked)).whole so_far.reduces part.reduces

      pub so_far_next : (c : Marked) → ReducesMarked c (of_two o a p) → SoFar q N o es (k + 1) c
      so_far_next c r = record {
        reduces = rw (grown L o es k y l at)
            (r.0 ∙ reduce.0, reduct_of_reduct c.graph (of_two o a p).graph (of_two o A B).graph r.1 reduce.1);
        small = small_more es k y at so_far.small part.small;
      }

      no_larger : ((of_two o a p).graph.states ≤ (of_two o A B).graph.states) × (length (of_two o a p).graph.ways ≤ length (of_two o A B).graph.ways)
          × (length (of_two o a p).graph.stops ≤ length (of_two o A B).graph.stops)
      no_larger =
          reduct_is_no_larger (of_two o a p).graph (of_two o A B).graph
          (two_whole o a p marked.0.whole marked.1.whole) (two_bytes o a p marked.0.some_byte marked.1.some_byte) reduce.1

      -- what is made of the two is no larger than a part may be
      pub two_size : (most : ℕ) → ArePartsWithin L (all_of o es) most → size (of_two o a p).graph ≤ most
      two_size most within = omega (arith, within (numbers_of (of_two o A B)) (step_is_part L o es k y l at), no_larger.0, no_larger.1, no_larger.2)

      pub too_large : (fault : SizeFault) → AreTooLarge o a p fault → HasLargePartOf L (all_of o es) fault
      too_large (States count) h = (h.0, (numbers_of (of_two o A B), step_is_part L o es k y l at, omega (arith, h.1, no_larger.0)))
      too_large (Ways count) h = (h.0, (numbers_of (of_two o A B), step_is_part L o es k y l at, omega (arith, h.1, no_larger.1)))
      too_large OutOfMemory h = tt

-- a part has fewer nodes than the whole, and can be compiled where the whole can
pub part_can : (o : Operation) {b : BegunQuery} (es : List ExprTree) (k : ℕ) {e : ExprTree} → slice_get es k ≡ Some e → CanCompile b (all_of o es) →
    (expr_nodes e < expr_nodes (all_of o es)) × CanCompile b e
part_can o {b} es k {e} at can =
    let q = query_of b.query in
    let n = length b.lets in
    let part = part_at (vars_of_lets q.lets n) (sure_of_lets q.lets n) n o es k e at can.asked.sound_expr in
    (part.0, record { known = can.known; asked = asked_part o q n es e (Has-slice_get es k e at) can.asked })
