-- The faults of a query as a whole, and the laws of all faults.
use Rattle.std.proofs.Common.{◌≡◌, inl, inr, ℕ, Bool, true, false, nat_lt, List, length, Option, Some, None, slice_get, refl, arith}
use Rattle.std.specs.Option.{IsSomeAnd}
use Rattle.std.proofs.lemmas.Bool.Decides.{nat_tests}
use Rattle.span_core.specs.declared.TheConstants.{MOST_VARIABLES}
use Rattle.span_core.specs.Lists.{AtMost}
use Rattle.spanner_model.specs.Captures.{VarName}
use Rattle.spanner_model.specs.Expression.{ExprTree, QueryTree}
use Rattle.spanner_model.specs.Answer.{vars_of_lets}
use Rattle.spanner_model.specs.Sound.{IsSound, NameOf, sure_of_lets}
use Rattle.query_parser.specs.declared.fault.QueryFault.{QueryFault}
use Rattle.query_parser.specs.TreeFaults.{IsFaultUnder, LetPasses, IsLetFault, IsTreeFault}
use Rattle.query_parser.specs.Faults.{too_long, unreadable, too_many_kept, too_many_captured, not_sound}
use Rattle.query_parser.specs.Laws.{HasNoQueryWithFault, HasOneFault}
use Rattle.query_parser.proofs.SoundLaws.{sound_passes}
use Rattle.query_parser.proofs.TreeFaultLaws.{expr_none, expr_one}
use Rattle.query_parser.proofs.GrammarLaws.{one_query, no_query_with_read_fault, one_read_fault}

-- a let that passes has no fault
let_none : (lets : List (VarName × ExprTree)) (k : ℕ) (e : QueryFault) → LetPasses lets k → IsLetFault lets k e → ⊥
let_none lets k e p f = by (slice_get lets k) refl f
  where
    by : (found : Option (VarName × ExprTree)) → slice_get lets k ≡ found → IsSomeAnd found (λ l. IsFaultUnder lets k l.1 e) → ⊥
    by None is f = absurd f
    by (Some l) is f = expr_none (vars_of_lets lets k) (sure_of_lets lets k) l.1 e (p l is) f

let_one : (lets : List (VarName × ExprTree)) (k : ℕ) (e d : QueryFault) → IsLetFault lets k e → IsLetFault lets k d → e ≡ d
let_one lets k e d f g = by (slice_get lets k) f g
  where
    by : (found : Option (VarName × ExprTree)) → IsSomeAnd found (λ l. IsFaultUnder lets k l.1 e) → IsSomeAnd found (λ l. IsFaultUnder lets k l.1 d) → e ≡ d
    by None f g = absurd f
    by (Some l) f g = expr_one (vars_of_lets lets k) (sure_of_lets lets k) l.1 e d f g

sound_let : (q : QueryTree) → IsSound q → (k : ℕ) → LetPasses q.lets k
sound_let q s k = λ l is. sound_passes (vars_of_lets q.lets k) (sure_of_lets q.lets k) k l.1 (s.sound_lets k l is).0

-- a sound query has no fault
pub sound_none : (q : QueryTree) (e : QueryFault) → IsSound q → IsTreeFault q e → ⊥
sound_none q e s (inl (k, before, f)) = let_none q.lets k e (sound_let q s k) f
sound_none q e s (inr (lets, f)) =
    let n = length q.lets in expr_none (vars_of_lets q.lets n) (sure_of_lets q.lets n) q.body e (sound_passes (vars_of_lets q.lets n) (sure_of_lets q.lets n) n q.body s.sound_body.0) f

-- a query has one fault at most
pub tree_one : (q : QueryTree) (e d : QueryFault) → IsTreeFault q e → IsTreeFault q d → e ≡ d
tree_one q e d (inl (k, before, f)) (inl (j, earlier, g)) = by (nat_lt k j) refl (nat_lt j k) refl
  where
    by : (a : Bool) → nat_lt k j ≡ a → (b : Bool) → nat_lt j k ≡ b → e ≡ d
    by true h b i = absurd (let_none q.lets k e (earlier k (grind (arith, nat_tests))) f)
    by false h true i = absurd (let_none q.lets j d (before j (grind (arith, nat_tests))) g)
    by false h false i = let same : j ≡ k = grind (arith, nat_tests) in let_one q.lets k e d f (rw (← same) g)
tree_one q e d (inl (k, before, f)) (inr (lets, g)) = absurd (let_none q.lets k e (lets k) f)
tree_one q e d (inr (lets, f)) (inl (k, before, g)) = absurd (let_none q.lets k d (lets k) g)
tree_one q e d (inr (lets, f)) (inr (others, g)) = expr_one (vars_of_lets q.lets (length q.lets)) (sure_of_lets q.lets (length q.lets)) q.body e d f g

pub no_query_with_fault : HasNoQueryWithFault
no_query_with_fault text q e (few, spelled, sound) (too_long long) = absurd (omega arith)
no_query_with_fault text q e (few, spelled, sound) (unreadable h f) = (no_query_with_read_fault text q spelled).0 e f
no_query_with_fault text q e (few, spelled, sound) (too_many_kept h k) = (no_query_with_read_fault text q spelled).1 k
no_query_with_fault text q e (few, spelled, sound) (too_many_captured {q = r} h s many) = many (rw (← one_query text q r spelled s) sound.few)
no_query_with_fault text q e (few, spelled, sound) (not_sound {q = r} h s room f) =
    sound_none q e sound (rw (← one_query text r q s spelled) f)

pub one_fault : HasOneFault
one_fault text e d (too_long a) (too_long b) = refl
one_fault text e d (too_long a) (unreadable h f) = absurd (omega arith)
one_fault text e d (too_long a) (too_many_kept h k) = absurd (omega arith)
one_fault text e d (too_long a) (too_many_captured h s m) = absurd (omega arith)
one_fault text e d (too_long a) (not_sound h s r f) = absurd (omega arith)
one_fault text e d (unreadable h f) (too_long b) = absurd (omega arith)
one_fault text e d (unreadable h f) (unreadable i g) = (one_read_fault text e f).0 d g
one_fault text e d (unreadable h f) (too_many_kept i k) = absurd ((one_read_fault text e f).1 k)
one_fault text e d (unreadable h f) (too_many_captured {q = q} i s m) = absurd ((no_query_with_read_fault text q s).0 e f)
one_fault text e d (unreadable h f) (not_sound {q = q} i s r g) = absurd ((no_query_with_read_fault text q s).0 e f)
one_fault text e d (too_many_kept h k) (too_long b) = absurd (omega arith)
one_fault text e d (too_many_kept h k) (unreadable i g) = absurd ((one_read_fault text d g).1 k)
one_fault text e d (too_many_kept h k) (too_many_kept i l) = refl
one_fault text e d (too_many_kept h k) (too_many_captured i s m) = refl
one_fault text e d (too_many_kept h k) (not_sound {q = q} i s r g) = absurd ((no_query_with_read_fault text q s).1 k)
one_fault text e d (too_many_captured h s m) (too_long b) = absurd (omega arith)
one_fault text e d (too_many_captured {q = q} h s m) (unreadable i g) = absurd ((no_query_with_read_fault text q s).0 d g)
one_fault text e d (too_many_captured h s m) (too_many_kept i k) = refl
one_fault text e d (too_many_captured h s m) (too_many_captured i t n) = refl
one_fault text e d (too_many_captured {q = q} h s m) (not_sound {q = p} i t r g) =
    absurd (m (rw (← one_query text p q t s) r))
one_fault text e d (not_sound h s r f) (too_long b) = absurd (omega arith)
one_fault text e d (not_sound {q = q} h s r f) (unreadable i g) = absurd ((no_query_with_read_fault text q s).0 d g)
one_fault text e d (not_sound {q = q} h s r f) (too_many_kept i k) = absurd ((no_query_with_read_fault text q s).1 k)
one_fault text e d (not_sound {q = q} h s r f) (too_many_captured {q = p} i t m) =
    absurd (m (rw (← one_query text q p s t) r))
one_fault text e d (not_sound {q = q} h s r f) (not_sound {q = p} i t u g) = tree_one q e d f (rw (← one_query text p q t s) g)
