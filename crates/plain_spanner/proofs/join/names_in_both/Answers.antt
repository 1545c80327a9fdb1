use Rattle.std.proofs.Common.{◌≡◌, ◌+◌, ◌↔◌, List, length, take, sym, ap, ◌∙◌, arith}
use Rattle.std.proofs.Math.Seq.{take-length}
use Rattle.std.proofs.lemmas.Bool.{false≢true}
use Rattle.span_core.specs.Lists.{Has}
use Rattle.spanner_model.specs.Captures.{VarName}
use Rattle.spanner_model.specs.Gathered.{Adds}
use Rattle.span_core.proofs.HasLaws.{Has-slice_get, Has-take}
use Rattle.plain_spanner.proofs.JoinLaws.{shared_more, shared_same, room_in}
use Rattle.plain_spanner.proofs.join.names_in_both.Goals.{then-has_name, else-has_name}
use Rattle.plain_spanner.proofs.join.names_in_both.Goals as goal

pub add_name-requires : goal.add_name-requires
add_name-requires c =
    let left = c.args.left.now in
    room_in left c.loop-k.shared c.at-name.result.now (omega (arith, c.len-k-end.ensures.few)) (Has-slice_get left c.loop-k.k c.at-name.result.now c.at-name.ensures.value)
    (λ x h. Has-take left c.loop-k.k x ((c.loop-k.invariant x).0 h).0)

pub loop-k-init : goal.loop-k-init
loop-k-init c = λ x. (λ h. absurd (rw c.empty-shared.ensures at h), λ h. absurd h.0)

pub loop-k-preserved : goal.loop-k-preserved
loop-k-preserved c =
    let left = c.args.left.now in
    let right = c.args.right.now in
    let y = c.at-name.result.now in
    elim c.if-has_name.branch [
      | then-has_name w ↦ shared_more left right c.loop-k.shared c.if-has_name.shared c.loop-k.k y c.at-name.ensures.value (c.has_name.ensures.0 w.if-has_name.true) c.loop-k.invariant
          (rw w.shared-is w.add_name.ensures)
      | else-has_name w ↦ rw w.shared-is
          (shared_same left right c.loop-k.shared c.loop-k.k y c.at-name.ensures.value (λ h. false≢true (sym w.if-has_name.false ∙ c.has_name.ensures.1 h)) c.loop-k.invariant)
    ]

pub returns : goal.returns
returns c =
    let left = c.args.left.now in
    let e : c.loop-k.k ≡ length left = omega arith in
    rw (← (ap (λ n. take n left) e ∙ take-length left)) c.loop-k.invariant
