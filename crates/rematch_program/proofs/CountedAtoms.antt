-- The atoms of a sound query can be counted.
use Rattle.std.proofs.Common.{ℕ, List, length, inl, inr, subst}
use Rattle.span_core.specs.Lists.{AtMost, Has}
use Rattle.span_core.specs.declared.TheConstants.{MOST_VARIABLES}
use Rattle.spanner_model.specs.Captures.{VarName}
use Rattle.spanner_model.specs.Expression.{ExprTree, QueryTree, atom, named, union_end, union, join_end, join, minus, project}
use Rattle.spanner_model.specs.Sound.{AreJoined, AreUnited, IsSound, IsSoundExpr, NameIn, NameOf, sure_of_lets}
use Rattle.spanner_model.specs.Answer.{vars_of_lets}
use Rattle.span_core.proofs.HasLaws.{Has-append_cases, Has-append_left, Has-append_right, place_of-Has}
use Rattle.query_parser.proofs.ReachLaws.{let_name}
use Rattle.marked_automaton.proofs.Passing.{flat_map_cases, has_flat_map}
use Rattle.rematch_program.specs.Explained.{AreCounted, IsCounted, atoms_among, atoms_in, atoms_of}

module _ (N : VarName → Type 0) (few : AtMost MOST_VARIABLES N) (V S : ℕ → VarName → Type 0) (n : ℕ) where
  mutual
    of_expr : (e : ExprTree) → IsSoundExpr V S n e → ((x : VarName) → NameIn e x → N x) → AreCounted (atoms_of e)
    of_expr (atom b) ok inside a (inl e) = subst IsCounted e (ok.0, ok.1, (few.0, few.1, λ x h. few.2 x (inside x h)))
    of_expr (atom b) ok inside a (inr h) = absurd h
    of_expr (named k) ok inside a h = absurd h
    of_expr union_end ok inside a h = absurd h
    of_expr (union e rest) ok inside a h =
        elim (Has-append_cases (atoms_of e) (atoms_of rest) a h) [
          | inl p ↦ of_expr e ok.0 (λ x v. inside x (inl v)) a p
          | inr q ↦ of_united rest ok.1 (λ x v. inside x (inr v)) a q
        ]
    of_expr join_end ok inside a h = absurd h
    of_expr (join e rest) ok inside a h =
        elim (Has-append_cases (atoms_of e) (atoms_of rest) a h) [
          | inl p ↦ of_expr e ok.0 (λ x v. inside x (inl v)) a p
          | inr q ↦ of_joined rest ok.1 (λ x v. inside x (inr v)) a q
        ]
    of_expr (project names e) ok inside a h = of_expr e ok.0 inside a h
    of_expr (minus e g) ok inside a h =
        elim (Has-append_cases (atoms_of e) (atoms_of g) a h) [
          | inl p ↦ of_expr e ok.0 (λ x v. inside x (inl v)) a p
          | inr q ↦ of_expr g ok.1 (λ x v. inside x (inr v)) a q
        ]

    of_united : (e : ExprTree) → AreUnited V S n e → ((x : VarName) → NameIn e x → N x) → AreCounted (atoms_of e)
    of_united union_end ok inside a h = absurd h
    of_united (union e rest) ok inside a h =
        elim (Has-append_cases (atoms_of e) (atoms_of rest) a h) [
          | inl p ↦ of_expr e ok.0 (λ x v. inside x (inl v)) a p
          | inr q ↦ of_united rest ok.1 (λ x v. inside x (inr v)) a q
        ]
    of_united (atom b) ok inside a h = absurd ok
    of_united (named k) ok inside a h = absurd ok
    of_united join_end ok inside a h = absurd ok
    of_united (join e rest) ok inside a h = absurd ok
    of_united (project names e) ok inside a h = absurd ok
    of_united (minus e g) ok inside a h = absurd ok

    of_joined : (e : ExprTree) → AreJoined V S n e → ((x : VarName) → NameIn e x → N x) → AreCounted (atoms_of e)
    of_joined join_end ok inside a h = absurd h
    of_joined (join e rest) ok inside a h =
        elim (Has-append_cases (atoms_of e) (atoms_of rest) a h) [
          | inl p ↦ of_expr e ok.0 (λ x v. inside x (inl v)) a p
          | inr q ↦ of_joined rest ok.1 (λ x v. inside x (inr v)) a q
        ]
    of_joined (atom b) ok inside a h = absurd ok
    of_joined (named k) ok inside a h = absurd ok
    of_joined union_end ok inside a h = absurd ok
    of_joined (union e rest) ok inside a h = absurd ok
    of_joined (project names e) ok inside a h = absurd ok
    of_joined (minus e g) ok inside a h = absurd ok

pub sound_lets_counted : (q : QueryTree) → IsSound q → AreCounted (atoms_in q.lets)
sound_lets_counted q sound a h =
    let r = flat_map_cases (λ (l : VarName × ExprTree). atoms_of l.1) q.lets a h in
    let p = place_of-Has q.lets r.0 r.1 in
    of_expr (NameOf q) sound.few (vars_of_lets q.lets p.0) (sure_of_lets q.lets p.0) p.0 r.0.1 (sound.sound_lets p.0 r.0 p.2).0 (λ x v. inl (let_name q.lets r.0 x r.1 v)) a r.2

pub sound_body_counted : (q : QueryTree) → IsSound q → AreCounted (atoms_of q.body)
sound_body_counted q sound = of_expr (NameOf q) sound.few (vars_of_lets q.lets (length q.lets)) (sure_of_lets q.lets (length q.lets)) (length q.lets) q.body sound.sound_body.0 (λ x v. inr v)

-- of one let, of one part
pub let_counted : (lets : List (VarName × ExprTree)) (l : VarName × ExprTree) → Has lets l → AreCounted (atoms_in lets) → AreCounted (atoms_of l.1)
let_counted lets l h all a k = all a (has_flat_map (λ (l : VarName × ExprTree). atoms_of l.1) lets l a h k)

pub part_counted : (es : List ExprTree) (e : ExprTree) → Has es e → AreCounted (atoms_among es) → AreCounted (atoms_of e)
part_counted es e h all a k = all a (has_flat_map atoms_of es e a h k)

-- of the sides of a difference
pub left_counted : (e g : ExprTree) → AreCounted (atoms_of (minus e g)) → AreCounted (atoms_of e)
left_counted e g all a k = all a (Has-append_left (atoms_of e) (atoms_of g) a k)

pub right_counted : (e g : ExprTree) → AreCounted (atoms_of (minus e g)) → AreCounted (atoms_of g)
right_counted e g all a k = all a (Has-append_right (atoms_of e) (atoms_of g) a k)
