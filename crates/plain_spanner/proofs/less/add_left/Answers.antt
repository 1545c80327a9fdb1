use Rattle.std.proofs.Common.{◌≡◌, false, sym, ◌∙◌, rules}
use Rattle.std.proofs.lemmas.Bool.{true≢false}
use Rattle.plain_spanner.proofs.LessLaws.{pushed_has, pushed_kept, pushed_only}
use Rattle.plain_spanner.proofs.less.add_left.Goals as goal

pub returns-in_ok-push-clause-kept : goal.returns-in_ok-push-clause-kept
returns-in_ok-push-clause-kept c = pushed_kept c.args.rows.now.items c.push.new.self.items c.args.row c.in_ok-push.ensures.items

pub returns-in_ok-push-clause-only : goal.returns-in_ok-push-clause-only
returns-in_ok-push-clause-only c =
    let not_there : c.has_row.result ≡ false = search (rules, c.if-not-has_row.true) in
    pushed_only c.args.rows.now.items c.push.new.self.items c.args.others.now c.args.row c.in_ok-push.ensures.items (λ h. true≢false (sym (c.has_row.ensures.1 h) ∙ not_there))

pub returns-in_ok-push-clause-added : goal.returns-in_ok-push-clause-added
returns-in_ok-push-clause-added c = λ none. pushed_has c.args.rows.now.items c.push.new.self.items c.args.row c.in_ok-push.ensures.items
