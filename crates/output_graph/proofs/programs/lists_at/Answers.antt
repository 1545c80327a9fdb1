use Rattle.std.proofs.Common.{arith}
use Rattle.std.proofs.lemmas.Option.{slice_get_read}
use Rattle.output_graph.specs.Pools.{IsPart}
use Rattle.output_graph.proofs.PoolLaws.{piece_long, same_piece}
use Rattle.output_graph.proofs.programs.lists_at.Goals as goal

pub piece_of-requires : goal.piece_of-requires
piece_of-requires c =
    let has = c.args.pool.now.parts.ok.0 in
    let is : IsPart c.args.pool.now c.index-part.result.now = c.requires.pooled c.args.k _ (slice_get_read _ _ _ _ has (omega arith) c.index-part.ensures) in
    (is.code, rw c.as_slice.ensures.value is.there)

pub piece_of-requires-2 : goal.piece_of-requires-2
piece_of-requires-2 c =
    let has = c.args.pool.now.parts.ok.0 in
    let is : IsPart c.args.pool.now c.index-part.result.now = c.requires.pooled c.args.k _ (slice_get_read _ _ _ _ has (omega arith) c.index-part.ensures) in
    (c.index-part.result.now.plan.value.targets.items, rw c.as_slice-2.ensures.value is.targets)

pub returns-clause-lists : goal.returns-clause-lists
returns-clause-lists c =
    let has = c.args.pool.now.parts.ok.0 in
    let is : IsPart c.args.pool.now c.index-part.result.now = c.requires.pooled c.args.k _ (slice_get_read _ _ _ _ has (omega arith) c.index-part.ensures) in
    record {
      code = rw (same_piece _ _ _ _ c.index-part.result.now.code c.piece_of.ensures is.there c.as_slice.ensures.value) is.is_code;
      targets = same_piece _ _ _ _ c.index-part.result.now.targets c.piece_of-2.ensures is.targets c.as_slice-2.ensures.value;
      sources = is.sources;
    }

pub returns-clause-plan : goal.returns-clause-plan
returns-clause-plan c =
    let has = c.args.pool.now.parts.ok.0 in
    let is : IsPart c.args.pool.now c.index-part.result.now = c.requires.pooled c.args.k _ (slice_get_read _ _ _ _ has (omega arith) c.index-part.ensures) in
    is.is_plan

pub returns-clause-code : goal.returns-clause-code
returns-clause-code c =
    let has = c.args.pool.now.parts.ok.0 in
    rw (slice_get_read _ _ _ _ has (omega arith) c.index-part.ensures) (piece_long _ _ c.index-part.result.now.code c.piece_of.ensures)
