-- The lines of atoms, part by part.
use Rattle.std.proofs.Common.{◌≡◌, ℕ, suc, ◌+◌, List, [], ◌∷◌, ◌++◌, Some, Result, Ok, Err, IfOk, length, drop, take, refl, sym, ap, ◌∙◌, arith, length-append}
use Rattle.std.proofs.lemmas.Grind.{flat_map-append}
use Rattle.std.specs.Prelude.{slice_get}
use Rattle.std.proofs.lemmas.List.{append-nil, append_assoc}
use Rattle.span_core.proofs.ListLaws.{at_drop}
use Rattle.query_printer.specs.PrintedQuery.{further}
use Rattle.spanner_model.specs.Captures.{VarName}
use Rattle.spanner_model.specs.Expression.{AtomTree, ExprTree, union_all, join_all}
use Rattle.spanner_model.proofs.TreeLaws.{take_at_more}
use Rattle.rematch_program.specs.Explained.{HasLines, atom_line, atom_lines, atoms_among, atoms_in, atoms_of}

pub of_union : (parts : List ExprTree) → atoms_of (union_all parts) ≡ atoms_among parts
of_union [] = refl
of_union (e ∷ parts) = ap (λ t. atoms_of e ++ t) (of_union parts)

pub of_join : (parts : List ExprTree) → atoms_of (join_all parts) ≡ atoms_among parts
of_join [] = refl
of_join (e ∷ parts) = ap (λ t. atoms_of e ++ t) (of_join parts)

lines_both : (k : ℕ) (xs ys : List AtomTree) → atom_lines k (xs ++ ys) ≡ atom_lines k xs ++ atom_lines (k + length xs) ys
lines_both k [] ys = let same : k ≡ k + 0 = omega arith in ap (λ n. atom_lines n ys) same
lines_both k (a ∷ xs) ys =
    let same : suc k + length xs ≡ k + suc (length xs) = omega arith in
    ap (λ t. atom_line k a ++ t) (lines_both (suc k) xs ys ∙ ap (λ n. atom_lines (suc k) xs ++ atom_lines n ys) same)
    ∙ sym (append_assoc (atom_line k a) (atom_lines (suc k) xs) (atom_lines (k + suc (length xs)) ys))

pub more_lines : (before : ℕ) (old : List ℕ) (xs : List AtomTree) (mid : ℕ) (text : List ℕ) (ys : List AtomTree) (all : ℕ) (new : List ℕ) →
    HasLines before old xs mid text → HasLines mid text ys all new → HasLines before old (xs ++ ys) all new
more_lines before old xs mid text ys all new first then_ =
    let long = length-append xs ys in
    let c = first.count in
    let d = then_.count in
    let on : mid + 1 ≡ before + 1 + length xs = omega (arith, c) in
    record {
      count = omega (arith, long, c, d);
      lines = then_.lines ∙ ap (λ t. t ++ atom_lines (mid + 1) ys) first.lines ∙ append_assoc old (atom_lines (before + 1) xs) (atom_lines (mid + 1) ys)
          ∙ ap (λ t. old ++ t) (ap (λ n. atom_lines (before + 1) xs ++ atom_lines n ys) on ∙ sym (lines_both (before + 1) xs ys));
    }

pub then_lines : {E : Type 0} (r : Result ℕ E) (before : ℕ) (old : List ℕ) (xs : List AtomTree) (mid : ℕ) (text : List ℕ) (ys : List AtomTree) (new : List ℕ) →
    HasLines before old xs mid text → IfOk r (λ all. HasLines mid text ys all new) → IfOk r (λ all. HasLines before old (xs ++ ys) all new)
then_lines (Ok all) before old xs mid text ys new first then_ = more_lines before old xs mid text ys all new first then_
then_lines (Err e) before old xs mid text ys new first then_ = tt

-- one part more
pub part_lines : (before : ℕ) (old : List ℕ) (parts : List ExprTree) (k : ℕ) (e : ExprTree) (mid : ℕ) (text : List ℕ) (all : ℕ) (new : List ℕ) → slice_get parts k ≡ Some e →
    HasLines before old (atoms_among (take k parts)) mid text → HasLines mid text (atoms_of e) all new → HasLines before old (atoms_among (take (k + 1) parts)) all new
part_lines before old parts k e mid text all new at first then_ =
    let one : take (k + 1) parts ≡ take k parts ++ e ∷ [] = take_at_more parts k e at in
    let atoms : atoms_among (take (k + 1) parts) ≡ atoms_among (take k parts) ++ atoms_of e =
    ap atoms_among one ∙ flat_map-append atoms_of (take k parts) (e ∷ []) ∙ ap (λ t. atoms_among (take k parts) ++ t) (append-nil (atoms_of e)) in
    rw atoms (more_lines before old (atoms_among (take k parts)) mid text (atoms_of e) all new first then_)

-- one named expression more
pub let_lines : (before : ℕ) (old : List ℕ) (lets : List (VarName × ExprTree)) (k : ℕ) (name : VarName) (e : ExprTree) (mid : ℕ) (text : List ℕ)
    (all : ℕ) (new : List ℕ) → slice_get lets k ≡ Some (name, e) →
    HasLines before old (atoms_in (take k lets)) mid text → HasLines mid text (atoms_of e) all new → HasLines before old (atoms_in (take (k + 1) lets)) all new
let_lines before old lets k name e mid text all new at first then_ =
    let one : take (k + 1) lets ≡ take k lets ++ (name, e) ∷ [] = take_at_more lets k (name, e) at in
    let atoms : atoms_in (take (k + 1) lets) ≡ atoms_in (take k lets) ++ atoms_of e =
    ap atoms_in one ∙ flat_map-append (λ (l : VarName × ExprTree). atoms_of l.1) (take k lets) ((name, e) ∷ []) ∙ ap (λ t. atoms_in (take k lets) ++ t) (append-nil (atoms_of e)) in
    rw atoms (more_lines before old (atoms_in (take k lets)) mid text (atoms_of e) all new first then_)

-- one name more
pub name_next : (old text mid new all x : List ℕ) (names : List VarName) (k : ℕ) → slice_get names k ≡ Some x → mid ≡ text ++ 32 ∷ [] → new ≡ mid ++ x →
    text ++ further (32 ∷ []) (drop k names) ≡ all → new ++ further (32 ∷ []) (drop (k + 1) names) ≡ all
name_next old text mid new all x names k at space name is =
    ap (λ t. t ++ further (32 ∷ []) (drop (k + 1) names)) (name ∙ ap (λ t. t ++ x) space)
    ∙ append_assoc (text ++ 32 ∷ []) x (further (32 ∷ []) (drop (k + 1) names))
    ∙ append_assoc text (32 ∷ []) (x ++ further (32 ∷ []) (drop (k + 1) names))
    ∙ ap (λ t. text ++ t) (sym (ap (further (32 ∷ [])) (at_drop names k x at)))
    ∙ is

-- the lines that explain a query, as they are appended
pub explained_text : (head names_head shown shown_names lines t0 t1 t2 t3 t4 t5 t6 : List ℕ) → t0 ≡ [] → t1 ≡ t0 ++ head → t2 ≡ t1 ++ shown → t3 ≡ t2 ++ 10 ∷ names_head →
    t4 ≡ t3 ++ shown_names → t5 ≡ t4 ++ 10 ∷ [] → t6 ≡ t5 ++ lines →
    t6 ≡ (((head ++ shown) ++ 10 ∷ []) ++ ((names_head ++ shown_names) ++ 10 ∷ [])) ++ lines
explained_text head names_head shown shown_names lines t0 t1 t2 t3 t4 t5 t6 e0 e1 e2 e3 e4 e5 e6 =
    let first : t2 ≡ head ++ shown = e2 ∙ ap (λ t. t ++ shown) (e1 ∙ ap (λ t. t ++ head) e0) in
    let whole : t6 ≡ (((t2 ++ 10 ∷ names_head) ++ shown_names) ++ 10 ∷ []) ++ lines = e6 ∙ ap (λ t. t ++ lines) (e5 ∙ ap (λ t. t ++ 10 ∷ []) (e4 ∙ ap (λ t. t ++ shown_names) e3)) in
    let left : (((t2 ++ 10 ∷ names_head) ++ shown_names) ++ 10 ∷ []) ++ lines ≡ t2 ++ (10 ∷ (names_head ++ (shown_names ++ (10 ∷ lines)))) =
    append_assoc ((t2 ++ 10 ∷ names_head) ++ shown_names) (10 ∷ []) lines
    ∙ append_assoc (t2 ++ 10 ∷ names_head) shown_names (10 ∷ lines)
    ∙ append_assoc t2 (10 ∷ names_head) (shown_names ++ (10 ∷ lines)) in
    let right : (t2 ++ 10 ∷ []) ++ (((names_head ++ shown_names) ++ 10 ∷ []) ++ lines) ≡ t2 ++ (10 ∷ (names_head ++ (shown_names ++ (10 ∷ lines)))) =
    append_assoc t2 (10 ∷ []) (((names_head ++ shown_names) ++ 10 ∷ []) ++ lines)
    ∙ ap (λ t. t2 ++ (10 ∷ t)) (append_assoc (names_head ++ shown_names) (10 ∷ []) lines ∙ append_assoc names_head shown_names (10 ∷ lines)) in
    whole ∙ left ∙ sym right ∙ ap (λ t. (t ++ 10 ∷ []) ++ (((names_head ++ shown_names) ++ 10 ∷ []) ++ lines)) first
    ∙ sym (append_assoc ((head ++ shown) ++ 10 ∷ []) ((names_head ++ shown_names) ++ 10 ∷ []) lines)
