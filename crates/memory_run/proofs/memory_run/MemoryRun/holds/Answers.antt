use Rattle.std.proofs.Common.{ap, ◌∙◌, List, Option, ℕ}
use Rattle.memory_run.specs.Input.{input_name}
use Rattle.memory_run.proofs.memory_run.MemoryRun.holds.Goals as goal

pub invariant_of-self : goal.invariant_of-self
invariant_of-self c = record {
  sure = c.fetch.ensures.failing ∙ c.args.self.now.sure;
  apart = ap (λ (held : List ℕ → Option (List ℕ)). held input_name) c.fetch.ensures.kept ∙ c.args.self.now.apart;
}
