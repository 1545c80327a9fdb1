-- The first of the programs that are left.
use Rattle.std.proofs.Common.{◌≡◌, ℕ, ◌+◌, ◌<◌, List, [], ◌∷◌, ◌++◌, length, get_or, drop, refl, sym, subst, add-one}
use Rattle.std.proofs.Math.Seq.{drop-cons}
use Rattle.output_graph.specs.declared.planned.Planned.{Planned}
use Rattle.output_graph.specs.Graph.{Graph, IsPlace}
use Rattle.output_graph.specs.Planned.{AreRun, AreWithin, IsRunBy, MayRun}
use Rattle.output_graph.specs.Pools.{program_at}
use Rattle.output_graph.specs.Programs.{Steps}

abbrev pub planned_at : List Planned → ℕ → Planned
planned_at plan i = get_or plan i (record { at = 0; program = 0 })

-- what is left begins with what stands there
pub left_is : (plan : List Planned) (i : ℕ) → i < length plan → drop i plan ≡ planned_at plan i ∷ drop (i + 1) plan
left_is plan i within = subst (λ (j : ℕ). drop i plan ≡ planned_at plan i ∷ drop j plan) (sym (add-one i)) (drop-cons plan i (record { at = 0; program = 0 }) within)

-- ---- one program more, the last

module _ (programs : List Steps) where
  -- it has been run on what those before it lead to
  pub run_split : (plan : List Planned) (x : Planned) (g h : Graph) (n m : ℕ) → AreRun programs (plan ++ x ∷ []) g h n m →
      (mid : Graph) × (k : ℕ) × AreRun programs plan g mid n k × IsRunBy (program_at programs x.program) x.at mid h k m
  run_split [] x g h n m r = (
    g,
    n,
    (refl, refl),
    subst (λ (k : ℕ). IsRunBy (program_at programs x.program) x.at g h n k) r.3.1
        (subst (λ (f : Graph). IsRunBy (program_at programs x.program) x.at g f n r.1) r.3.0 r.2),
  )
  run_split (p ∷ plan) x g h n m r = let s = run_split plan x r.0 h r.1 m r.3 in (s.0, s.1, (r.0, r.1, r.2, s.2), s.3)

  -- and may be, if it may be run there
  pub may_more : (plan : List Planned) (x : Planned) (g : Graph) (n : ℕ) → MayRun programs plan g n →
      ((h : Graph) (m : ℕ) → AreRun programs plan g h n m → (length (program_at programs x.program).groups ≡ length h.layer) × IsPlace h x.at) → MayRun programs (plan ++ x ∷ []) g n
  may_more [] x g n may last = let l = last g n (refl, refl) in (l.0, l.1, λ new after one. tt)
  may_more (p ∷ plan) x g n may last = (may.0, may.1, λ new after one. may_more plan x new after (may.2 new after one) (λ h m run. last h m (new, after, one, run)))

pub within_more : (most : ℕ) (plan : List Planned) (x : Planned) → AreWithin most plan → x.program < most → AreWithin most (plan ++ x ∷ [])
within_more most [] x within here = (here, tt)
within_more most (p ∷ plan) x within here = (within.0, within_more most plan x within.1 here)
