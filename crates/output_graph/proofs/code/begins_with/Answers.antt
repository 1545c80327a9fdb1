use Rattle.std.proofs.Common.{◌≡◌, ◌++◌, [], ◌∷◌, List, get_or, slice_get, Some, ap, arith, add-one}
use Rattle.std.proofs.lemmas.Option.{slice_get-get_or}
use Rattle.output_graph.specs.declared.program.Register.{Register}
use Rattle.output_graph.specs.declared.program.Register.TheVariants.{Kept}
use Rattle.output_graph.proofs.CodeLaws.{symbols_begin}
use Rattle.output_graph.proofs.HeldLaws.{take_next}
use Rattle.output_graph.proofs.code.begins_with.Goals as goal

pub loop-k-preserved : goal.loop-k-preserved
loop-k-preserved c =
    let k = c.loop-k.k in
    let r : Register = get_or c.args.held.now k (Kept 0) in
    let has : slice_get c.args.symbols.now k ≡ Some r = c.has_at.ensures c.if-not-has_at.false in
    let wanted : slice_get c.args.held.now k ≡ Some r = slice_get-get_or c.args.held.now k (Kept 0) c.loop-k-test.true in
    rw (add-one, take_next c.args.symbols.now k r has, take_next c.args.held.now k r wanted) (ap (λ (xs : List Register). xs ++ r ∷ []) c.loop-k.invariant)

pub returns : goal.returns
returns c = λ on_it. symbols_begin c.args.symbols.now c.args.held.now c.loop-k.k (omega (arith, c.loop-k-test.false)) c.loop-k.invariant
