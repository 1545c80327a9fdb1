use Rattle.std.proofs.Common.{[], ◌∷◌, take, get_or, inl, refl, ◌∙◌}
use Rattle.span_core.proofs.HasLaws.{Has-slice_get, Has-get_or, Has-take}
use Rattle.marked_automaton.specs.declared.fault.SizeFault.{SizeFault}
use Rattle.algebra.specs.Pairs.{IsStartRefusal, pair_of}
use Rattle.algebra.proofs.Followed.{handed_on}
use Rattle.algebra.proofs.Searched.{started_more, started_within}
use Rattle.algebra.proofs.pairs.Search.find_with.Goals as goal

pub returns-in_err-number_of-clause-fault : goal.returns-in_err-number_of-clause-fault
returns-in_err-number_of-clause-fault c =
    let rights = c.args.rights.now in
    let left = c.args.left in
    let i = c.loop-right.right-index in
    let k = c.args.self.now.found.keys in
    handed_on (λ (e : SizeFault). IsStartRefusal (left ∷ []) rights k e) c.from_residual.result c.in_err-number_of.field-0.0 c.from_residual.ensures.1
    (λ n1 n2 w within l r.
    let here = started_within (left ∷ []) (take i rights) k c.loop-right.self.found.keys n1 n2 c.loop-right.invariant.started within l (λ q h. r q (Has-take rights i q h)) in
    c.in_err-number_of.ensures.fault n1 n2 w here (l left (inl refl)) (r (get_or rights i 0) (Has-get_or rights i 0 c.loop-right-test.true)))

pub loop-right-preserved : goal.loop-right-preserved
loop-right-preserved c =
    let rights = c.args.rights.now in
    let left = c.args.left in
    let i = c.loop-right.right-index in
    let new = c.number_of.new.self in
    let g = c.in_ok-number_of.ensures.grows in
    record {
      started = started_more left rights i (get_or rights i 0) c.args.self.now.found.keys c.loop-right.self.found.keys new.found.keys c.loop-right-test.true refl
          c.loop-right.invariant.started g.0 g.1 c.in_ok-number_of.ensures.few
          (Has-slice_get new.found.keys c.in_ok-number_of.field-0 (pair_of left (get_or rights i 0)) c.in_ok-number_of.ensures.number) c.in_ok-number_of.ensures.only;
      ways = c.number_of.ensures.ways ∙ c.loop-right.invariant.ways;
    }
