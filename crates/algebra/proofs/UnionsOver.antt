-- Unions of automata over any names.
use Rattle.std.proofs.Common.{◌≡◌, ℕ, Bool, true, false, List, length, nat_eq, inl, inr, refl, sym, ap, subst, ◌∙◌}
use Rattle.std.specs.Prelude.{IfOk, IsTrue}
use Rattle.std.specs.Bool.{OnTrue}
use Rattle.std.proofs.lemmas.Bool.{eqb-true}
use Rattle.std.specs.declared.result.Result.{Result}
use Rattle.std.specs.declared.result.Result.TheVariants.{Ok, Err}
use Rattle.span_core.specs.Lists.{AreDistinct, Has}
use Rattle.span_core.specs.NameSets.{Ascending}
use Rattle.spanner_model.specs.Captures.{VarName}
use Rattle.spanner_model.proofs.NameLaws.{ascending-distinct}
use Rattle.marked_automaton.specs.declared.fault.SizeFault.{SizeFault}
use Rattle.marked_automaton.specs.Automaton.{Automaton, IsMarked, IsWhole, Marked}
use Rattle.marked_automaton.specs.Marks.{left_of, remarked}
use Rattle.marked_automaton.specs.Reduct.{Reduces}
use Rattle.marked_automaton.proofs.Keeping.{all_kept, keeping_law}
use Rattle.marked_automaton.proofs.Projections.{projection_law}
use Rattle.marked_automaton.proofs.ReductOperations.{reduct_of_projection}
use Rattle.algebra.specs.JoinedNames.{all_names}
use Rattle.algebra.specs.Operations.{union_of}
use Rattle.algebra.specs.Uniting.{IsOver, UnionOverLaw, UnionOverSameNames, graph_over, union_over}
use Rattle.algebra.proofs.Alike.{remarked_whole}
use Rattle.algebra.proofs.NamesLaws.{all_are, names_by}
use Rattle.algebra.proofs.ReductUnions.{reduct_of_union}
use Rattle.algebra.proofs.Unions.{union_law}
use Rattle.algebra.proofs.Whole.{union_whole}

-- ---- over its own names

own_names : (A : Marked) → AreDistinct A.names → IsMarked A → graph_over A.names A ≡ A.graph
own_names A dis marked = keeping_law A.names A.graph dis (record { ways = marked.way_marks; stops = marked.stop_marks })

-- as many names, among which its own are
pub over_itself : (A : Marked) (all : List VarName) → IsMarked A → Ascending A.names → Ascending all → ((x : VarName) → Has A.names x → Has all x) → length A.names ≡ length all →
    IsOver all A A
over_itself A all marked up all_up sub len =
    let same = all_kept A.names all up all_up sub len in
    record {
      names = same;
      graph = rw (← same) (sym (own_names A (ascending-distinct A.names up) marked));
    }

-- the numbers of its names and of all names tell it
pub over_by_length : (A : Marked) (all own : List VarName) (l k : ℕ) → IsMarked A → own ≡ A.names → l ≡ length own → k ≡ length all → Ascending own → Ascending all →
    ((x : VarName) → Has A.names x → Has all x) → OnTrue (nat_eq l k) (IsOver all A A)
over_by_length A all own l k marked same len all_len up all_up sub = go (nat_eq l k) refl
  where
    go : (b : Bool) → nat_eq l k ≡ b → OnTrue b (IsOver all A A)
    go true e = over_itself A all marked (subst Ascending same up) all_up sub (sym (ap length same) ∙ (sym len ∙ (eqb-true l k e ∙ all_len)))
    go false e = tt

pub same_names_law : UnionOverSameNames
same_names_law A B dis same a b =
    let first = own_names A dis a in
    let second : graph_over A.names B ≡ B.graph =
    rw same (own_names B (subst AreDistinct same dis) b) in
    λ i. union_of (first i) (second i)

-- ---- what is made

-- the union of both over these names is the union over these names
pub united_over : (A B P Q : Marked) (all : List VarName) → IsOver all A P → IsOver all B Q → union_of P.graph Q.graph ≡ union_over A B all
united_over A B P Q all p q = λ i. union_of (p.graph i) (q.graph i)

pub union_made : (A B P Q : Marked) (all : List VarName) → IsOver all A P → IsOver all B Q → (r : Result Marked SizeFault) →
    IfOk r (λ (u : Marked). u.names ≡ P.names) → IfOk r (λ (u : Marked). Reduces u.graph (union_of P.graph Q.graph)) → IfOk r (λ (u : Marked). Reduces u.graph (union_over A B u.names))
union_made A B P Q all p q (Err e) names reduct = tt
union_made A B P Q all p q (Ok u) names reduct =
    rw (names ∙ p.names) (rw (← united_over A B P Q all p q) reduct)

-- what is over all names already, and what is made so
pub over_as_it_is : (all : List VarName) (A : Marked) (b : Bool) → IsTrue b → OnTrue b (IsOver all A A) → IsOver all A A
over_as_it_is all A true e h = h
over_as_it_is all A false e h = let f : false ≡ true = e in absurd (cc)

-- a name of one of both is one of all
pub first_of_all : (all names1 names2 own1 own2 : List VarName) → all ≡ all_names own1 own2 → own1 ≡ names1 → own2 ≡ names2 → (x : VarName) → Has names1 x → Has all x
first_of_all all names1 names2 own1 own2 e f g x h = rw (names_by e f g) ((all_are names1 names2 x).1 (inl h))

pub second_of_all : (all names1 names2 own1 own2 : List VarName) → all ≡ all_names own1 own2 → own1 ≡ names1 → own2 ≡ names2 → (x : VarName) → Has names2 x → Has all x
second_of_all all names1 names2 own1 own2 e f g x h = rw (names_by e f g) ((all_are names1 names2 x).1 (inr h))

-- ---- words, and reducts

pub union_over_law : UnionOverLaw
union_over_law A B all a b d w =
    let e = left_of A.names all in
    let f = left_of B.names all in
    let law = union_law (graph_over all A) (graph_over all B) (remarked_whole e A.graph a) (remarked_whole f B.graph b) d w in (
      (λ h. elim (law.0 h) [ inl x ↦ inl ((projection_law A.graph e d w).0 x) | inr y ↦ inr ((projection_law B.graph f d w).0 y) ]),
      (λ h. law.1 (elim h [ inl x ↦ inl ((projection_law A.graph e d w).1 x) | inr y ↦ inr ((projection_law B.graph f d w).1 y) ])),
    )

pub union_over_whole : (A B : Marked) (all : List VarName) → IsWhole A.graph → IsWhole B.graph → IsWhole (union_over A B all)
union_over_whole A B all a b =
    union_whole (graph_over all A) (graph_over all B) (remarked_whole (left_of A.names all) A.graph a) (remarked_whole (left_of B.names all) B.graph b)

-- the union of reducts over the same names
pub reduct_of_union_over : (A1 B1 A2 B2 : Marked) (all : List VarName) → IsWhole A1.graph → IsWhole B1.graph → IsWhole A2.graph → IsWhole B2.graph →
    A1.names ≡ B1.names → A2.names ≡ B2.names → Reduces A1.graph B1.graph → Reduces A2.graph B2.graph → Reduces (union_over A1 A2 all) (union_over B1 B2 all)
reduct_of_union_over A1 B1 A2 B2 all a1 b1 a2 b2 n1 n2 r1 r2 =
    let whole : (A : Marked) → IsWhole A.graph → IsWhole (graph_over all A) = λ A a. remarked_whole (left_of A.names all) A.graph a in
    let first : Reduces (graph_over all A1) (graph_over all B1) =
    subst (λ (ns : List VarName). Reduces (graph_over all A1) (remarked (left_of ns all) B1.graph)) n1 (reduct_of_projection A1.graph B1.graph (left_of A1.names all) r1) in
    let second : Reduces (graph_over all A2) (graph_over all B2) =
    subst (λ (ns : List VarName). Reduces (graph_over all A2) (remarked (left_of ns all) B2.graph)) n2 (reduct_of_projection A2.graph B2.graph (left_of A2.names all) r2) in
    reduct_of_union (graph_over all A1) (graph_over all B1) (graph_over all A2) (graph_over all B2) (whole A1 a1) (whole B1 b1) (whole A2 a2) (whole B2 b2) first second
