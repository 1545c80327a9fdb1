use Rattle.std.proofs.Common.{[], ◌∷◌, refl, sym, subst}
use Rattle.one_pass.specs.declared.known.Known.{Known}
use Rattle.one_pass.specs.declared.pass.Pass.{Pass}
use Rattle.one_pass.specs.Going.{GivesUp, GoesOn}
use Rattle.one_pass.specs.Known.{Stands}
use Rattle.one_pass.specs.Numbered.{as_layer}
use Rattle.one_pass.specs.Places.{byte_at}
use Rattle.one_pass.proofs.NumberedLaws.{from_same, in_stands, named_reads, numbered_if, same_pass, sets_distinct, stands_in}
use Rattle.one_pass.proofs.pass.Pass.read_unknown.Goals as goal

pub name-requires : goal.name-requires
name-requires g c = numbered_if c.args.table.now c.args.self.now.graph c.args.self.now.known c.args.layer c.requires.stands

pub read_named-requires-clause-goes_on : goal.read_named-requires-clause-goes_on
read_named-requires-clause-goes_on g c =
    let e = c.name.ensures in
    subst (λ (q : Pass). GoesOn c.args.table.now q) (sym (same_pass c.name.new.self (as_layer c.args.layer c.args.self.now) e.graph e.known e.search e.at)) c.requires.goes_on

pub read_named-requires-clause-stands : goal.read_named-requires-clause-stands
read_named-requires-clause-stands g c =
    let t = c.args.table.now in
    let p = c.args.self.now in
    subst (λ (x : Known). Stands t c.name.new.self.graph x c.args.layer) (sym c.name.ensures.known)
    (subst (λ x. Stands t x p.known c.args.layer) (sym c.name.ensures.graph) (in_stands t p.graph p.known c.args.layer c.requires.stands))

pub returns-in-Err-clause-given_up : goal.returns-in-Err-clause-given_up
returns-in-Err-clause-given_up g c =
    let e = c.name.ensures in
    subst (λ (q : Pass). GivesUp (byte_at q.at c.args.byte ∷ []) c.args.table.now q c.args.steps.now c.read_named.new.table c.read_named.new.steps c.in-Err.fault)
    (same_pass c.name.new.self (as_layer c.args.layer c.args.self.now) e.graph e.known e.search e.at) c.in-Err.ensures.given_up

pub returns-clause-read : goal.returns-clause-read
returns-clause-read g c =
    let e = c.name.ensures in
    named_reads c.in-Ok.next _ refl c.in-Ok.ensures.stands
    (from_same (same_pass c.name.new.self (as_layer c.args.layer c.args.self.now) e.graph e.known e.search e.at) c.in-Ok.ensures.read)

pub returns-clause-stands : goal.returns-clause-stands
returns-clause-stands g c =
    stands_in c.read_named.new.table c.read_named.new.self.graph c.read_named.new.self.known c.in-Ok.next
    (sets_distinct c.read_named.new.table c.read_named.new.self c.in-Ok.ensures.read.goes_on) c.in-Ok.ensures.stands
