use Rattle.std.proofs.Common.{◌≡◌, List, [], length, ap, arith, ◌∙◌}
use Rattle.span_core.specs.Lists.{Has}
use Rattle.algebra.specs.declared.fault.JoinFault.TheVariants.{Size}
use Rattle.algebra.specs.declared.pairs.Pair.{Pair}
use Rattle.algebra.specs.Pairs.{ArePairsWithin}
use Rattle.algebra.specs.Sides.{IsFollowRefusal, IsSearchRefusal, IsTold, graph_of, half_ways_of}
use Rattle.algebra.proofs.Followed.{handed_on}
use Rattle.algebra.proofs.Searched.{refusal_within, started_within}
use Rattle.algebra.proofs.StepLaws.{told_more}
use Rattle.algebra.proofs.pairs.searched.Goals as goal

pub returns-in_err-find_all-clause-fault : goal.returns-in_err-find_all-clause-fault
returns-in_err-find_all-clause-fault c =
    let A = graph_of c.args.left.now in
    let B = graph_of c.args.right.now in
    handed_on (IsTold (IsSearchRefusal c.args.left.now c.args.right.now)) c.from_residual.result (Size c.in_err-find_all.field-0.0) c.from_residual.ensures.1
    (λ w lefts rights lead le.
    c.in_err-find_all.ensures.fault A.states B.states w (rw c.new-search.ensures.found (λ k h. absurd h))
    (λ p h. lefts p (rw (← c.starts.ensures) h)) (λ q h. rights q (rw (← c.starts-2.ensures) h)))

pub returns-in_err-follow_all-clause-fault : goal.returns-in_err-follow_all-clause-fault
returns-in_err-follow_all-clause-fault c =
    let A = graph_of c.args.left.now in
    let B = graph_of c.args.right.now in
    let keys0 = c.find_all.new.self.found.keys in
    let none : c.find_all.new.self.ways.items ≡ [] = c.find_all.ensures.ways ∙ c.new-search.ensures.ways in
    handed_on (IsTold (IsSearchRefusal c.args.left.now c.args.right.now)) c.from_residual-in_err-follow_all.result c.in_err-follow_all.field-0.0
    c.from_residual-in_err-follow_all.ensures.1
    (told_more (IsFollowRefusal c.args.left.now c.args.right.now keys0 c.find_all.new.self.ways.items) (IsSearchRefusal c.args.left.now c.args.right.now)
    (λ e told w lefts rights lead le.
    let empty : ArePairsWithin A.states B.states c.new-search.result.found.keys = rw c.new-search.ensures.found (λ k h. absurd h) in
    let within : ArePairsWithin A.states B.states keys0 = started_within c.starts.result.now c.starts-2.result.now c.new-search.result.found.keys
    keys0 A.states B.states c.in_ok-find_all.ensures.started empty
    (λ p h. lefts p (rw (← c.starts.ensures) h)) (λ q h. rights q (rw (← c.starts-2.ensures) h)) in
    refusal_within A B (half_ways_of c.args.left.now) (half_ways_of c.args.right.now) keys0 c.find_all.new.self.ways.items e told w within lead (omega (arith, ap length none, le)))
    c.in_err-follow_all.field-0.0 c.in_err-follow_all.ensures.fault)
