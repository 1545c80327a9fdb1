use Rattle.std.proofs.Common.{◌≡◌, ◌-◌, ℕ, take, drop, arith, subst, sym, ap, ◌∙◌}
use Rattle.one_pass.specs.declared.known.Known.{Known}
use Rattle.one_pass.specs.declared.pass.Pass.{Pass}
use Rattle.one_pass.specs.Going.{GoesOn}
use Rattle.one_pass.specs.Numbered.{StandsIn, as_layer, in_layer}
use Rattle.one_pass.specs.Passes.{AllLeadBack}
use Rattle.one_pass.proofs.BackLaws.{none_back}
use Rattle.one_pass.proofs.NumberedLaws.{named_in, named_twice, numbered_if, same_pass}
use Rattle.one_pass.proofs.pass.Pass.read_on.Goals as goal

pub returns-then-self-lt-QUIET-clause-back : goal.returns-then-self-lt-QUIET-clause-back
returns-then-self-lt-QUIET-clause-back c =
    let t = c.args.table.now in
    let p = c.args.self.now in
    let g = in_layer p.known.layers c.args.layer p.graph in
    let none : c.args.i - c.args.i ≡ 0 = omega arith in
    subst (λ (n : ℕ). AllLeadBack t g (take n (drop c.args.i c.args.piece.now))) (sym none) (none_back t g)

pub name-requires : goal.name-requires
name-requires c = numbered_if c.args.table.now c.args.self.now.graph c.args.self.now.known c.args.layer c.requires.stands

pub pass_over-requires-clause-goes_on : goal.pass_over-requires-clause-goes_on
pass_over-requires-clause-goes_on c =
    let e = c.name.ensures in
    subst (λ (q : Pass). GoesOn c.args.table.now q) (sym (same_pass c.name.new.self (as_layer c.args.layer c.args.self.now) e.graph e.known e.search e.at)) c.requires.goes_on

pub returns-clause-graph : goal.returns-clause-graph
returns-clause-graph c =
    let p = c.args.self.now in
    ap (in_layer p.known.layers c.args.layer) (c.pass_over.ensures.graph ∙ c.name.ensures.graph) ∙ named_twice c.args.table.now p.graph p.known c.args.layer c.requires.stands

pub returns-clause-stands : goal.returns-clause-stands
returns-clause-stands c =
    let t = c.args.table.now in
    let p = c.args.self.now in
    subst (λ (x : Known). StandsIn t c.pass_over.new.self.graph x c.args.layer) (sym (c.pass_over.ensures.known ∙ c.name.ensures.known))
    (subst (λ g. StandsIn t g p.known c.args.layer) (sym (c.pass_over.ensures.graph ∙ c.name.ensures.graph)) (named_in t p.graph p.known c.args.layer c.requires.stands))

pub returns-clause-back : goal.returns-clause-back
returns-clause-back c =
    subst (λ g. AllLeadBack c.args.table.now g (take (c.pass_over.result - c.args.i) (drop c.args.i c.args.piece.now))) c.name.ensures.graph c.pass_over.ensures.back
