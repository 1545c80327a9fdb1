use Rattle.std.proofs.Common.{◌≡◌, ◌+◌, true, false, take, sym, ◌∙◌, subst, arith}
use Rattle.functional_check.specs.Numbered.{members}
use Rattle.functional_check.proofs.NumberedLaws.{members_within}
use Rattle.functional_check.proofs.SureLaws.{AreShared, shared_room, shared_more, shared_same, shared_done}
use Rattle.functional_check.proofs.name_bits.NameBits.listed.Goals.{then-has, else-has}
use Rattle.functional_check.proofs.name_bits.NameBits.listed.Goals as goal

pub add_one-requires : goal.add_one-requires
add_one-requires c =
    let names = c.args.names.now in
    shared_room names (members names c.args.self) c.loop-k.listed c.loop-k.k c.at-name.result.now
    (omega (arith, c.len-k-end.ensures.few, c.len-k-end.ensures.value)) c.at-name.ensures.value c.loop-k.invariant

pub loop-k-preserved : goal.loop-k-preserved
loop-k-preserved c =
    let names = c.args.names.now in
    let set = members names c.args.self in
    let k = c.loop-k.k in
    let name = c.at-name.result.now in
    elim c.if-has.branch [
      | then-has w ↦
          subst (AreShared (take (k + 1) names) set) (sym w.listed-is)
          (shared_more names set c.loop-k.listed w.add_one.new.into k name c.at-name.ensures.value c.loop-k.invariant (c.has.ensures.0 w.if-has.true) w.add_one.ensures)
      | else-has w ↦
          subst (AreShared (take (k + 1) names) set) (sym w.listed-is)
          (shared_same names set c.loop-k.listed k name c.at-name.ensures.value c.loop-k.invariant (λ h. let t : false ≡ true = sym w.if-has.false ∙ c.has.ensures.1 h in absurd (cc)))
    ]

pub returns : goal.returns
returns c =
    let names = c.args.names.now in
    let set = members names c.args.self in
    let all = shared_done names set c.loop-k.listed c.loop-k.k (omega (arith, c.len-k-end.ensures.value, c.loop-k-test.false)) c.loop-k.invariant in
    λ x. (λ h. ((all x).0 h).1, λ h. (all x).1 (members_within names c.args.self x h, h))
