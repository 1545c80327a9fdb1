use Rattle.std.proofs.Common.{◌≡◌, ℕ, get_or, set, slice_get, Some, sym, ap, ◌∙◌, arith, add-one}
use Rattle.std.proofs.lemmas.List.{length-set}
use Rattle.std.proofs.lemmas.Option.{slice_get_read, slice_get-get_or}
use Rattle.output_graph.specs.Forward.{Layer}
use Rattle.output_graph.proofs.NamedLaws.{named_all, named_at, named_first, named_more}
use Rattle.output_graph.proofs.registers.write_names.Goals as goal

pub loop-k-preserved : goal.loop-k-preserved
loop-k-preserved c =
    let k = c.loop-k.k in
    let names = c.args.sets.now in
    let old : Layer = c.args.sources.now.items in
    let now : Layer = c.loop-k.sources.items in
    let n : ℕ = get_or names k 0 in
    let p : ℕ × ℕ = c.index.result.now in
    let has = c.loop-k.sources.ok.0 in
    let at_names : slice_get names k ≡ Some n = slice_get-get_or names k 0 c.loop-k-test.true in
    let here : slice_get now k ≡ Some p = slice_get_read _ _ _ _ has (omega (arith, c.loop-k.invariant.long, c.requires, c.loop-k-test.true)) c.index.ensures in
    let there : slice_get old k ≡ Some p = sym (named_at k names old c.requires) ∙ (ap (λ (l : Layer). slice_get l k) (sym c.loop-k.invariant.names) ∙ here) in
    record {
      names =
          ap (λ (l : Layer). set l k (n, p.1)) c.loop-k.invariant.names
          ∙ (named_more k names old n p at_names there ∙ ap (λ j. named_first j names old) (sym (add-one k)));
      long = length-set {A = ℕ × ℕ} _ _ _ ∙ c.loop-k.invariant.long;
      len = c.loop-k.invariant.len;
      capacity = c.loop-k.invariant.capacity;
    }

pub returns-clause-names : goal.returns-clause-names
returns-clause-names c =
    let names = c.args.sets.now in
    let old : Layer = c.args.sources.now.items in
    c.loop-k.invariant.names ∙ named_all c.loop-k.k names old c.loop-k-test.false (omega (arith, c.loop-k-test.false, c.requires))
