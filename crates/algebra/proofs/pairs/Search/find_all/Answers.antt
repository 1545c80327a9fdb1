use Rattle.std.proofs.Common.{◌<◌, take, get_or, inl, inr, refl, ◌∙◌}
use Rattle.span_core.proofs.HasLaws.{Has-get_or, Has-take}
use Rattle.marked_automaton.specs.declared.fault.SizeFault.{SizeFault}
use Rattle.algebra.specs.Pairs.{IsStartRefusal}
use Rattle.algebra.proofs.Followed.{handed_on}
use Rattle.algebra.proofs.Searched.{started_then, started_within}
use Rattle.algebra.proofs.pairs.Search.find_all.Goals as goal

pub returns-in_err-find_with-clause-fault : goal.returns-in_err-find_with-clause-fault
returns-in_err-find_with-clause-fault c =
    let lefts = c.args.lefts.now in
    let rights = c.args.rights.now in
    let i = c.loop-left.left-index in
    let k = c.args.self.now.found.keys in
    handed_on (λ (e : SizeFault). IsStartRefusal lefts rights k e) c.from_residual.result c.in_err-find_with.field-0.0 c.from_residual.ensures.1
    (λ n1 n2 w within l r.
    let here = started_within (take i lefts) rights k c.loop-left.self.found.keys n1 n2 c.loop-left.invariant.started within (λ p h. l p (Has-take lefts i p h)) r in
    let left = get_or lefts i 0 in
    c.in_err-find_with.ensures.fault n1 n2 w here
    (λ p h. elim h as (λ _. p < n1) [ inl e ↦ rw (← e) (l left (Has-get_or lefts i 0 c.loop-left-test.true)) | inr n ↦ absurd n ]) r)

pub loop-left-preserved : goal.loop-left-preserved
loop-left-preserved c =
    let lefts = c.args.lefts.now in
    let i = c.loop-left.left-index in
    record {
      started = started_then lefts c.args.rights.now i (get_or lefts i 0) c.args.self.now.found.keys c.loop-left.self.found.keys c.find_with.new.self.found.keys c.loop-left-test.true refl
          c.loop-left.invariant.started c.in_ok-find_with.ensures.started;
      ways = c.find_with.ensures.ways ∙ c.loop-left.invariant.ways;
    }
