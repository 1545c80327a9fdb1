use Rattle.std.proofs.Common.{◌<◌, List, length, sym, subst, arith, rules, ◌∙◌}
use Rattle.algebra.specs.declared.pairs.Pair.{Pair}
use Rattle.algebra.specs.Pairs.{ArePairsWithin}
use Rattle.algebra.proofs.Followed.{pairs_few, keys_apart, with_key_last, with_key_only, with_key_within}
use Rattle.span_core.specs.Lists.{Has}
use Rattle.algebra.proofs.pairs.Search.number_of.Goals as goal

pub returns-then-count-clause-fault : goal.returns-then-count-clause-fault
returns-then-count-clause-fault c = λ n1 n2 w h l r.
    let keys = c.insert_full.new.self.keys in
    let old = c.args.self.now.found.keys in
    let within : ArePairsWithin n1 n2 keys = subst (ArePairsWithin n1 n2) (sym c.in_ok-number.ensures.keys) (with_key_within _ old c.args.pair n1 n2 h l r) in
    let apart = keys_apart _ (λ k. search rules) keys c.len-count.ensures.unique in
    let few = pairs_few n1 n2 keys apart within in
    (omega (arith, c.if-count.true), omega (arith, few, c.len-count.ensures.len))

pub returns-clause-within : goal.returns-clause-within
returns-clause-within c = λ n1 n2 h l r.
    subst (ArePairsWithin n1 n2) (sym c.in_ok-number.ensures.keys) (with_key_within _ c.args.self.now.found.keys c.args.pair n1 n2 h l r)

pub returns-clause-only : goal.returns-clause-only
returns-clause-only c = λ k h. with_key_only _ c.args.self.now.found.keys c.args.pair k (rw c.in_ok-number.ensures.keys at h)

pub returns-clause-last : goal.returns-clause-last
returns-clause-last c = λ p l m.
    c.in_ok-number.ensures.index ∙ with_key_last _ c.args.self.now.found.keys c.args.pair p l (rw (← c.in_ok-number.ensures.keys) m)
