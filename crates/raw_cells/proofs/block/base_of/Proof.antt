-- `base_of` gives the same address. Assumes `Logic`.
use Rattle.std.proofs.Common.{◌≡◌, ℕ, [], ◌∷◌, refl}
use mir.Val.{Val}
use mir.MapTy.{inst_fn}
use base.Logic.{SProp, emp}
use base.Fml.{ftrue, flft}
use types.Kit.{‵, raw, ◌⊛◌, ◌$◌, ◌∵◌, !, qed, by, keep, use0, split, join, fjoin}
use types.Part.{agg, sub, whole}
use types.Run.{stop, fld, of_opd, no_more, and_then, returns, enter}
use types.ByLocal.{alloc_all, pass_all, free_all, look_at, get, get_in, sets}
use contract.Running.{tables}
use contract.Monad.{fact, fact_i}
use contract.BorrowLft.{◌⊑◌}
use denote.Exit.{no}
use denote.RattleType.{RattleType, owns}
use denote.RawPtr.{Ptr}
use denote.Signature.{types_at, plain}
use denote.Steps.{nothing}
use denote.Triple.Walked.{Stays, stay_dropped, walk_of, Goes-dropped}
use Rattle.std.proofs.raw_atomic.Walks.{proved, leaves}
use Rattle.std_alloc.proofs.RcSteps.{word-Good}
use Rattle.core.proofs.mem.Param.{El, R, args}
use Rattle.raw_cells.specs.contracts.block.Origin as origin
use Rattle.raw_cells.specs.contracts.block.Base as base_row
use Rattle.raw_cells.proofs.Made.{origin_val, origin_told, origin_made, base_told, base_made, ptr_good}
use Rattle.raw_cells.specs.contracts.block.base_of.{ended, clauses}
use Rattle.raw_cells.specs.contracts.block.base_of.Key.{name as #self}
use Rattle.raw_cells.proofs.block.base_of.Statement.{statement}
use Rattle.raw_cells.proofs.block.base_of.Code as code

pub base_of_spec : {M : Type 1} → statement M
base_of_spec 𝓤 𝓛 𝓜 𝓡 wired X LX =
    let H = 𝓛.H in let 𝓣 = tables 𝓤 H 𝓜 𝓡 𝓡.env in let E : El = record { row = X; laws = LX } in
    let O : RattleType = origin.the_row (R E) in let B : RattleType = base_row.the_row in
    let En = ended X in let c = clauses X 𝓛 𝓜.mem 𝓡.returns in let fn = inst_fn (args E) code.function in
    let hs : Stays En.signature.params En.kept = (stay_dropped (plain (λ _. O)) no, tt) in
    proved 𝓛 En hs c 𝓜 𝓡 (Goes-dropped 𝓛 1 (plain (λ _. O)) no (λ κs x f. refl), tt) (#self (args E)) fn (code.unfolded 𝓤 H 𝓜 𝓡 wired (X, tt))
    (λ κs. ((λ x. origin_val x.first ∷ []), tt)) (λ κs. (origin_told (R E), tt)) (λ κs qs bounds a gh are.
    let p : Ptr = a.0.first in let y : (walk_of 𝓛 En hs c).Ghost = ((κs, qs, bounds, a, (origin_val p ∷ [], tt)), gh) in let Post : Val → SProp 𝓤 = (walk_of 𝓛 En hs c).post y in
    let Told : Type 0 = p ≡ p in
    qed 𝓛 (((‵ (flft κs.0 qs.0) ⊛ ‵ ftrue) ⊛ ‵ (owns (types_at En.signature.params κs) a y.0.4)) ∷ (raw (fact 𝓤 (κs.0 ⊑ X.lives)) ⊛ ‵ ftrue) ∷ []) ∵
    keep ! (0 ∷ []) $ split ! $ keep ! (0 ∷ []) $
    enter ! 𝓣.C 𝓣.Λ fn (origin_val p ∷ []) Post $ alloc_all ! (λ l. pass_all ! refl (word-Good [] p, tt) $
    sets ! (of_opd ! (get_in ! (fld ! refl (stop !)) (sub ! 0 refl (whole !)))) refl (ptr_good p) $
    sets ! (agg ! (and_then ! (get ! refl) (no_more !))) refl (word-Good [] p) $
    use0 𝓛 (‵ (B.own_val (record { first = p }) (origin_val p ∷ []))) (base_made 𝓛 p) $
    use0 𝓛 (raw (fact 𝓤 Told)) (fact_i 𝓤 Told (emp 𝓤) refl) $ nothing ! $ nothing ! $ fjoin ! $
    returns ! (look_at ! 0 refl) $ free_all ! refl $ keep ! (3 ∷ 0 ∷ 2 ∷ 1 ∷ []) $ by ! (leaves 𝓛 En hs c y (origin_val p) (record { first = p }) (tt, tt) (tt, tt))))
