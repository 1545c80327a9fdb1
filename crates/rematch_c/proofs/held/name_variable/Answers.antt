use Rattle.std.proofs.Common.{rules, ◌≤◌, length, ℕ, List, ap, ◌∙◌, subst}
use Rattle.spanner_library.specs.Library.{PreparedQuery}
use Rattle.rematch_c.specs.Texts.{IsText}
use Rattle.rematch_c.proofs.CallLaws.{named_at, named_past, named_other}
use Rattle.rematch_c.proofs.held.name_variable.Goals as goal

pub returns-in_default : goal.returns-in_default
returns-in_default c = named_other c.args.held.now c.args.place c.args.name.now c.in_default.not-Query c.requires.silent

pub returns-then-place-len : goal.returns-then-place-len
returns-then-place-len c =
    let past : length c.vars-vars.result.now ≤ c.args.place = search rules in
    named_past c.args.held.now c.in-Query.query c.vars-vars.result.now c.args.place c.args.name.now c.in-Query.is
    (c.vars-vars.ensures.value ∙ ap (λ (p : PreparedQuery). p.names) c.prepared.ensures) past c.requires.silent

pub returns : goal.returns
returns c =
    named_at c.args.held.now c.in-Query.query c.vars-vars.result.now c.args.place c.at.result.now c.say.new.self c.in-Query.is
    (c.vars-vars.ensures.value ∙ ap (λ (p : PreparedQuery). p.names) c.prepared.ensures) c.at.ensures.value
    (subst (λ (bytes : List ℕ). IsText c.say.new.self bytes) c.as_bytes.ensures.value c.say.ensures)
