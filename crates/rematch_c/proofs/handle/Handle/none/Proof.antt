-- `none` makes a null pointer, which owns nothing.
use Rattle.std.proofs.Common.{lit<, List, [], ◌∷◌, ◌++◌, refl, None}
use Rattle.std.proofs.raw_atomic.Walks.{proved_at}
use mir.Syntax.{w64}
use mir.Val.{Val, has_ty, vint, vstruct, vcons, vnil}
use base.Logic.{id⊢}
use base.Fml.{ftrue, fsep}
use prog.Wp.{WpFn}
use contract.Running.{tables}
use types.Kit.{‵, ◌⊛◌, prop, ◌$◌, ◌∵◌, !, qed, move, drop, use1, split, join, fsplit, fjoin, feq_i, fpack, regoal, suffices, done}
use types.Run.{enter, lit, no_more, and_then, returns}
use types.Part.{agg}
use types.ByLocal.{alloc_all, pass_all, free_all, look_at, get, sets}
use denote.Exit.{yes}
use denote.RattleType.{Valss}
use denote.RawPtr.{RawPtr, null_ptr}
use denote.Signature.{plain}
use denote.Steps.{nothing}
use denote.Struct.Struct.{within}
use denote.Struct.Owning.{shape, to}
use denote.Triple.Walked.{says, Stays, stay_dropped, walk_of, ends_at, Goes-dropped}
use Rattle.core.proofs.alloc.Calls.{handle_tells, α}
use Rattle.std_alloc.proofs.ResultValues.{and_tt}
use Rattle.std_heap.specs.contracts.Global as Heap
use Rattle.rematch_c.proofs.Owner.{heap_al}
use Rattle.rematch_c.specs.contracts.handle.Handle as H
use Rattle.rematch_c.specs.contracts.handle.Handle.none as f
use Rattle.rematch_c.proofs.handle.Handle.none.Statement.{statement}
use Rattle.rematch_c.proofs.handle.Handle.none.Code as code

abbrev stayed : Stays f.ended.signature.params f.ended.kept
stayed = (stay_dropped (plain (λ _. Heap.the_row)) yes, tt)

pub none_spec : {M : Type 1} → statement M
none_spec 𝓤 𝓛 𝓜 𝓡 wired =
    let c = f.clauses 𝓛 𝓜.mem 𝓡.returns in let W = walk_of 𝓛 f.ended stayed c in let 𝓣 = tables 𝓤 𝓛.H 𝓜 𝓡 𝓡.env in
    proved_at 𝓛 f.ended stayed c 𝓜 𝓡 (Goes-dropped 𝓛 0 (plain (λ _. Heap.the_row)) yes (λ κs x w. refl), tt)
    f.Key.name code.function (code.unfolded 𝓤 𝓛.H 𝓜 𝓡 wired) (λ y are.
    let a = y.0.3.0 in let made : H.the_row.Denot = record { at = null_ptr; alloc = a; home = None } in
    qed 𝓛 ((‵ ftrue ⊛ ‵ (fsep (Heap.the_row.own_val a y.0.4.0) ftrue)) ∷ ‵ ftrue ∷ []) ∵ split ! $ drop ! $ fsplit ! $
    handle_tells heap_al ! a y.0.4.0 (λ hv is fits.
    regoal ! (λ (us : List Val). prop (WpFn 𝓤 𝓛.H 𝓣.C 𝓣.Λ code.function (us ++ []) (W.post y))) is refl $
    let word = vstruct (vcons (vint w64 0) (vcons hv vnil)) in
    -- [the allocator; two that say nothing]
    enter ! _ _ _ _ _ $ alloc_all ! (λ l. pass_all ! refl (fits, tt) $
    sets ! (agg ! (and_then ! (lit ! tt) (and_then ! (get ! refl) (no_more !)))) refl (and_tt (has_ty (α heap_al) hv) fits.0, (record { fits = lit< tt }, (fits.1, tt))) $
    returns ! (look_at ! 0 refl) $ free_all ! refl $
    move ! (1 ∷ 2 ∷ []) $ drop ! $ drop ! $ nothing ! $ move ! (1 ∷ 0 ∷ []) $ fjoin ! $
    feq_i ! (List Val) (vint w64 0 ∷ []) (vint w64 0 ∷ []) refl $ fjoin ! $ feq_i ! (List Val) (word ∷ []) (word ∷ []) refl $ fjoin ! $
    fpack ! (Valss (RawPtr ∷ Heap.the_field.row ∷ [])) (within (shape H.the_type) (to H.the_type made) (word ∷ [])) (vint w64 0 ∷ [], (hv ∷ [], tt)) $
    nothing ! $ move ! (1 ∷ 0 ∷ []) $ fjoin ! $ use1 𝓛 (‵ (H.the_row.own_val made (word ∷ []))) (id⊢ 𝓤 _) $
    suffices ! _ (ends_at 𝓛 f.ended stayed c y word made (tt, tt) (tt, tt)) $ says ! refl $
    nothing ! $ nothing ! $ fjoin ! $ join ! $ nothing ! $ join ! $ done !)))
