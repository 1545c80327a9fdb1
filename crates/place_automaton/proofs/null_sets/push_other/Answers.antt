use Rattle.std.proofs.Common.{◌∷◌, [], ◌++◌, Bool, sym, ap, ◌∙◌, append-nil}
use Rattle.std.specs.Prelude.{if◌then◌else◌}
use Rattle.place_automaton.proofs.null_sets.push_other.Goals as goal

pub returns-then-has_set : goal.returns-then-has_set
returns-then-has_set c =
    let old = c.args.left.now.items in
    sym (append-nil old) ∙ ap (λ (b : Bool). old ++ (if b then [] else c.args.set ∷ [])) (sym c.if-has_set.true ∙ c.has_set.ensures)

pub returns : goal.returns
returns c =
    let old = c.args.left.now.items in
    c.in_ok-push.ensures.items ∙ ap (λ (b : Bool). old ++ (if b then [] else c.args.set ∷ [])) (sym c.if-has_set.false ∙ c.has_set.ensures)
