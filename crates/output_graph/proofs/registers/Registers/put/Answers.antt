use Rattle.std.proofs.Common.{sym, ◌∙◌, arith}
use Rattle.std.proofs.lemmas.Option.{slice_get_read}
use Rattle.output_graph.proofs.CodeLaws.{with_behind, with_within}
use Rattle.output_graph.proofs.registers.Registers.put.Goals as goal

pub returns-then-place-len-clause-sources : goal.returns-then-place-len-clause-sources
returns-then-place-len-clause-sources c =
    let has = c.args.self.now.sources.ok.0 in
    sym (with_within c.args.self.now.sources.items c.args.register c.args.cell c.index.result.now (slice_get_read _ _ _ _ has (omega (arith, c.len.ensures, c.if-place-len.true)) c.index.ensures))

pub returns-else-place-len-clause-sources : goal.returns-else-place-len-clause-sources
returns-else-place-len-clause-sources c =
    let has = c.args.self.now.sources.ok.0 in
    c.push_reserved.ensures.items ∙ sym (with_behind c.args.self.now.sources.items c.args.register c.args.cell (omega (arith, c.len.ensures, c.if-place-len.false)))
