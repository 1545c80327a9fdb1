use Rattle.std.proofs.Common.{refl, arith}
use Rattle.output_graph.specs.declared.programs.Pool.{Pool}
use Rattle.output_graph.proofs.PoolLaws.{goes_on_same, pool_next, pool_stays}
use Rattle.output_graph.proofs.programs.add_plan.Goals as goal

pub returns-in_err-code-clause-pooled : goal.returns-in_err-code-clause-pooled
returns-in_err-code-clause-pooled c =
    let old : Pool = c.args.pool.now in
    pool_stays old _ c.requires.pooled c.append.ensures.old (goes_on_same old.targets.items) refl

pub returns-in_err-targets-clause-pooled : goal.returns-in_err-targets-clause-pooled
returns-in_err-targets-clause-pooled c = pool_stays c.args.pool.now _ c.requires.pooled c.append.ensures.old c.append-2.ensures.old refl

pub returns-in_err-sources-clause-pooled : goal.returns-in_err-sources-clause-pooled
returns-in_err-sources-clause-pooled c = pool_stays c.args.pool.now _ c.requires.pooled c.append.ensures.old c.append-2.ensures.old refl

pub returns-in_err-push-clause-pooled : goal.returns-in_err-push-clause-pooled
returns-in_err-push-clause-pooled c = pool_stays c.args.pool.now _ c.requires.pooled c.append.ensures.old c.append-2.ensures.old c.in_err-push.ensures.items

pub returns-clause-pooled : goal.returns-clause-pooled
returns-clause-pooled c =
    let has = c.args.plan.now.counts.ok.0 in
    pool_next c.args.pool.now _ _ c.requires.pooled c.append.ensures.old c.append-2.ensures.old c.in_ok-push.ensures.items (record {
      is_plan = rw c.of.ensures c.requires.plan;
      code = c.args.code.now;
      is_code = rw c.of.ensures c.requires.code;
      there = c.in_ok-code.ensures.piece;
      targets = rw (c.of.ensures, ← c.as_slice.ensures.value) c.in_ok-targets.ensures.piece;
      sources = rw c.of.ensures (omega (arith, c.in_ok-sources.ensures, c.len.ensures));
    })
