use Rattle.std.proofs.Common.{sym, subst, ◌≡◌, ℕ, ◌+◌, ◌∷◌, ◌++◌, [], length, List, Option}
use Rattle.std.specs.List.{All}
use Rattle.std.proofs.Math.Nat.{mod-lt}
use Rattle.span_core.specs.declared.span.Span.{Span}
use Rattle.check_automata.proofs.RowLaws.{EndsBy, one_longer, one_more, picked}
use Rattle.check_automata.proofs.rows.row_of.Goals as goal

pub loop-preserved : goal.loop-preserved
loop-preserved c = record {
  len = subst (λ (row : List (Option Span)). length row ≡ c.loop.counter + 1) (sym c.push.ensures)
      (subst (λ (k : ℕ). length (c.loop.row ++ c.index-spans-left.result ∷ []) ≡ k + 1) c.loop.invariant.len
      (one_longer c.loop.row c.index-spans-left.result));
  within = λ n all. subst (λ (row : List (Option Span)). All (EndsBy n) row) (sym c.push.ensures)
      (one_more n c.loop.row c.index-spans-left.result (c.loop.invariant.within n all)
      (picked n c.args.spans.now _ c.index-spans-left.result all (mod-lt c.loop.left c.requires.some) c.index-spans-left.is));
}
