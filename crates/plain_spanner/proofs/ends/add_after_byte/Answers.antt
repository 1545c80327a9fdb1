use Rattle.std.proofs.Common.{◌≡◌, ◌<◌, [], length, Some, get_or, true, sym, ◌∙◌, arith}
use Rattle.std.specs.Prelude.{slice_get}
use Rattle.std.specs.FinSet.{contains}
use Rattle.std.proofs.lemmas.Bool.{false≢true}
use Rattle.std.proofs.lemmas.Option.{slice_get-get_or, slice_get_within, same_Some}
use Rattle.span_core.specs.Lists.{Has}
use Rattle.spanner_model.specs.Tree.{one}
use Rattle.spanner_model.specs.Fit.{Fit}
use Rattle.plain_spanner.proofs.EndLaws.{byte_there}
use Rattle.plain_spanner.proofs.TellsLaws.{tells_unchanged}
use Rattle.plain_spanner.proofs.ends.add_after_byte.Goals.{else-start-doc-via-then-start-doc+else-contains, else-start-doc-via-else-start-doc}
use Rattle.plain_spanner.proofs.ends.add_after_byte.Goals as goal

pub returns-in_ok-push : goal.returns-in_ok-push
returns-in_ok-push c =
    let d = c.args.doc.now in
    let i = c.args.start in
    let at : slice_get d i ≡ Some (get_or d i 0) = slice_get-get_or d i 0 c.if-start-doc.true in
    rw c.in_ok-push.ensures.items (byte_there c.args.set.now d i (get_or d i 0) c.args.ends.now.items at (sym c.contains.ensures ∙ c.if-contains.true))

pub returns-else-start-doc : goal.returns-else-start-doc
returns-else-start-doc c =
    let d = c.args.doc.now in
    let i = c.args.start in
    elim c.else-start-doc.branch [
      | else-start-doc-via-then-start-doc+else-contains w ↦ tells_unchanged (Has c.args.ends.now.items) (λ j. Fit (one c.args.set.now) d i j []) (λ j f.
          let at : slice_get d i ≡ Some (get_or d i 0) = slice_get-get_or d i 0 w.if-start-doc.true in
          let b : f.0 ≡ get_or d i 0 = same_Some f.0 (get_or d i 0) (sym f.1 ∙ at) in
          absurd (false≢true (sym w.if-contains.false ∙ w.contains.ensures ∙ rw (← b) f.2)))
      | else-start-doc-via-else-start-doc w ↦ tells_unchanged (Has c.args.ends.now.items) (λ j. Fit (one c.args.set.now) d i j []) (λ j f.
          let l : i < length d = slice_get_within d i f.0 f.1 in let g = w.if-start-doc.false in absurd (omega arith))
    ]
