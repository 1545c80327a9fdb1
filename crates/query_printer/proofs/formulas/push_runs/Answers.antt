use Rattle.std.proofs.Common.{◌-◌, ◌++◌, [], List, ℕ, ap, sym, ◌∙◌, if◌then◌else◌}
use Rattle.std.proofs.lemmas.List.{append-nil}
use Rattle.span_core.proofs.ListLaws.{prefix_then, prefix_same}
use Rattle.query_printer.specs.PrintedFormula.{begins_run, run_end, run_text, runs_text}
use Rattle.query_printer.proofs.PrintedTrees.{grown}
use Rattle.query_printer.proofs.PrintedSteps.{runs_none, runs_next}
use Rattle.query_printer.proofs.formulas.push_runs.Goals as goal

pub loop-number-init : goal.loop-number-init
loop-number-init c =
    let a = c.args.out.now.items in
    record {
      printed = sym (append-nil a) ∙ ap (λ (xs : List ℕ). a ++ xs) (sym (runs_none c.args.set.now));
      front = prefix_same a;
    }

pub loop-number-preserved : goal.loop-number-preserved
loop-number-preserved c =
    let a = c.args.out.now.items in
    let s = c.args.set.now in
    let n = c.loop-number.number in
    record {
      printed = grown a (runs_text s n) (if begins_run s n then run_text n (run_end s (255 - n) n) else []) c.loop-number.out.items c.push_run_at.new.out.items
          c.loop-number.invariant.printed c.in_ok-push_run_at.ensures.ok
          ∙ ap (λ (xs : List ℕ). a ++ xs) (sym (runs_next s n));
      front = prefix_then _ _ _ c.loop-number.invariant.front c.in_ok-push_run_at.ensures.front;
    }

pub returns-in_err-push_run_at-clause-front : goal.returns-in_err-push_run_at-clause-front
returns-in_err-push_run_at-clause-front c = prefix_then _ _ _ c.loop-number.invariant.front c.in_err-push_run_at.ensures.front
