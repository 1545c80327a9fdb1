-- `into_block` moves two fields, and the block owns what the handle owned.
use Rattle.std.proofs.Common.{List, [], ◌∷◌, ◌++◌, refl, ◌≡◌, Option, is_some, true}
use Rattle.std.proofs.raw_atomic.Walks.{proved_at}
use mir.Val.{Val}
use base.Logic.{id⊢}
use base.Fml.{ftrue, fsep}
use prog.Wp.{WpFn}
use contract.Monad.{fact}
use contract.Running.{tables}
use types.Kit.{‵, raw, ◌⊛◌, prop, ◌$◌, ◌∵◌, !, qed, move, drop, use1, split, join, fsplit, fjoin, rewrite, regoal, suffices, done}
use types.Part.{whole, sub, agg}
use types.Run.{enter, stop, fld, of_opd, no_more, and_then, returns}
use types.ByLocal.{alloc_all, pass_all, free_all, look_at, get, get_in, sets}
use denote.Exit.{yes}
use denote.Signature.{plain}
use denote.Steps.{nothing, heard}
use denote.Triple.Walked.{says, Stays, stay_dropped, walk_of, ends_at, Goes-dropped}
use Rattle.std_alloc.proofs.BoxSteps.Form.{D, B, word, box_typed}
use Rattle.std_alloc.proofs.BoxSteps.Steps.{box_out, box_in}
use Rattle.std_heap.specs.contracts.Global as Heap
use Rattle.std_heap.specs.contracts.GlobalAllocator.TheImpl.{ghosts}
use Rattle.rematch_c.proofs.Owner.{held_box, value_of}
use Rattle.rematch_c.specs.contracts.held.Held as Held
use Rattle.rematch_c.specs.contracts.block.Block as Block
use Rattle.rematch_c.specs.contracts.handle.Handle as Handle
use Rattle.rematch_c.specs.contracts.handle.Handle.into_block as f
use Rattle.rematch_c.proofs.handle.Handle.into_block.Statement.{statement}
use Rattle.rematch_c.proofs.handle.Handle.into_block.Code as code

abbrev stayed : Stays f.ended.signature.params f.ended.kept
stayed = (stay_dropped (plain (λ _. Handle.the_row)) yes, tt)

pub into_block_spec : {M : Type 1} → statement M
into_block_spec 𝓤 𝓛 𝓜 𝓡 wired =
    let c = f.clauses 𝓛 𝓜.mem 𝓡.returns in let W = walk_of 𝓛 f.ended stayed c in let 𝓣 = tables 𝓤 𝓛.H 𝓜 𝓡 𝓡.env in
    let To = Block.the_row Held.the_row Heap.the_row ghosts in
    proved_at 𝓛 f.ended stayed c 𝓜 𝓡 (Goes-dropped 𝓛 0 (plain (λ _. Handle.the_row)) yes (λ κs x w. refl), tt)
    f.Key.name code.function (code.unfolded 𝓤 𝓛.H 𝓜 𝓡 wired) (λ y are.
    let from = y.0.3.0 in
    qed 𝓛 ((‵ ftrue ⊛ ‵ (fsep (Handle.the_row.own_val from y.0.4.0) ftrue)) ∷ raw (fact 𝓤 (is_some from.home ≡ true)) ∷ []) ∵ split ! $ drop ! $ fsplit ! $
    move ! (2 ∷ []) $ heard ! (is_some from.home ≡ true) (λ held.
    let holds = value_of from.home held in
    rewrite ! 0 (λ (home : Option Held.the_row.Denot). ‵ (Handle.the_row.own_val (record { at = from.at; alloc = from.alloc; home = home }) y.0.4.0)) holds.1 refl $
    let v : D held_box = record { ptr = from.at; alloc = from.alloc; value = holds.0 } in
    let made : To.Denot = record { at = from.at; alloc = from.alloc; value = holds.0 } in
    use1 𝓛 (‵ ((B held_box).own_val v y.0.4.0)) (id⊢ 𝓤 _) $
    box_out held_box ! v y.0.4.0 (λ b o hv at is fits. box_in held_box ! v b o v.value at refl $
    use1 𝓛 (‵ (To.own_val made (word held_box hv b o ∷ []))) (id⊢ 𝓤 _) $ move ! (1 ∷ []) $ drop ! $
    regoal ! (λ (us : List Val). prop (WpFn 𝓤 𝓛.H 𝓣.C 𝓣.Λ code.function (us ++ []) (W.post y))) is refl $
    -- [the block]
    enter ! _ _ _ _ _ $ alloc_all ! (λ l. pass_all ! refl (box_typed held_box hv b o fits, tt) $
    sets ! (of_opd ! (get_in ! (fld ! refl (stop !)) (sub ! 0 refl (whole !)))) refl (tt, tt) $
    sets ! (of_opd ! (get_in ! (fld ! refl (stop !)) (sub ! 1 refl (whole !)))) refl fits $
    sets ! (agg ! (and_then ! (get ! refl) (and_then ! (get ! refl) (no_more !)))) refl (box_typed held_box hv b o fits) $
    returns ! (look_at ! 0 refl) $ free_all ! refl $
    suffices ! _ (ends_at 𝓛 f.ended stayed c y (word held_box hv b o) made (tt, tt) (tt, tt)) $ says ! holds.1 $
    nothing ! $ nothing ! $ fjoin ! $ join ! $ nothing ! $ join ! $ done !))))
