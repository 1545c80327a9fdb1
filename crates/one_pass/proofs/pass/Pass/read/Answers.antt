use Rattle.std.proofs.Common.{List, ℕ, length, drop, arith, subst, sym, ap}
use Rattle.std.proofs.lemmas.List.{length-drop}
use Rattle.one_pass.specs.declared.pass.Pass.{Pass}
use Rattle.one_pass.specs.Going.{GivesUp, IsAdvanced, PassReads}
use Rattle.one_pass.specs.Numbered.{as_layer}
use Rattle.one_pass.specs.Places.{bytes_at}
use Rattle.one_pass.proofs.Advancing.{advanced_all, advanced_on, advanced_stops}
use Rattle.one_pass.proofs.NumberedLaws.{numbered_if, read_over, same_pass, sets_distinct, stands_in, start_in}
use Rattle.one_pass.proofs.pass.Pass.read.Goals as goal

pub loop-i-init : goal.loop-i-init
loop-i-init g c = record {
  within = omega arith;
  advanced = start_in c.stand-layer.result c.requires.goes_on c.stand-layer.ensures.known c.requires.goes_on.waits c.stand-layer.ensures.stands;
  stands = stands_in c.args.table.now c.args.self.now.graph c.stand-layer.new.self c.stand-layer.result
      (sets_distinct c.args.table.now c.args.self.now c.requires.goes_on) c.stand-layer.ensures.stands;
}

pub read_on-here-requires-clause-goes_on : goal.read_on-here-requires-clause-goes_on
read_on-here-requires-clause-goes_on g c = c.loop-i.invariant.advanced.reads.goes_on

pub read_on-here-requires-clause-few : goal.read_on-here-requires-clause-few
read_on-here-requires-clause-few g c = omega (arith, c.loop-i.invariant.advanced.at)

pub read_some-requires-clause-goes_on : goal.read_some-requires-clause-goes_on
read_some-requires-clause-goes_on g c =
    let i = c.loop-i.invariant in
    let r = c.read_on-here.ensures in
    let past = read_over c.loop-i.layer c.loop-i.self c.read_on-here.new.self i.advanced r.later r.within r.back r.graph r.known r.at r.waits in
    past.reads.goes_on

pub read_some-requires-clause-few : goal.read_some-requires-clause-few
read_some-requires-clause-few g c =
    let long = length-drop c.read_on-here.result c.args.piece.now in
    let same = ap length c.split_at.ensures.back in
    omega (arith, c.loop-i.invariant.advanced.at, c.read_on-here.ensures.at, c.read_on-here.ensures.within, long, same)

pub returns-in-Err-clause-given_up : goal.returns-in-Err-clause-given_up
returns-in-Err-clause-given_up g c =
    let i = c.loop-i.invariant in
    let r = c.read_on-here.ensures in
    let past = read_over c.loop-i.layer c.loop-i.self c.read_on-here.new.self i.advanced r.later r.within r.back r.graph r.known r.at r.waits in
    advanced_stops past r.within
    (subst (λ xs. GivesUp (bytes_at c.read_on-here.new.self.at xs) c.loop-i.table (as_layer c.loop-i.layer c.read_on-here.new.self) c.loop-i.steps
    c.read_some.new.table c.read_some.new.steps c.in-Err.fault)
    c.split_at.ensures.back c.in-Err.ensures.given_up)

pub loop-i-preserved : goal.loop-i-preserved
loop-i-preserved g c =
    let i = c.loop-i.invariant in
    let r = c.read_on-here.ensures in
    let past = read_over c.loop-i.layer c.loop-i.self c.read_on-here.new.self i.advanced r.later r.within r.back r.graph r.known r.at r.waits in
    let done = c.in-Ok.ensures.read in
    let long = length-drop c.read_on-here.result c.args.piece.now in
    let same = ap length c.split_at.ensures.back in
    let step : IsAdvanced c.loop-i.table (as_layer c.loop-i.layer c.read_on-here.new.self) c.loop-i.steps (drop c.read_on-here.result c.args.piece.now) c.in-Ok.place.bytes c.read_some.new.table
    (as_layer c.in-Ok.place.layer c.read_some.new.self) c.read_some.new.steps =
    subst (λ (xs : List ℕ). IsAdvanced c.loop-i.table (as_layer c.loop-i.layer c.read_on-here.new.self) c.loop-i.steps xs c.in-Ok.place.bytes
    c.read_some.new.table (as_layer c.in-Ok.place.layer c.read_some.new.self) c.read_some.new.steps)
    c.split_at.ensures.back done.advanced in
    record { within = omega (arith, r.within, done.within, long, same); advanced = advanced_on past r.within step; stands = done.stands }

pub name-requires : goal.name-requires
name-requires g c = numbered_if c.loop-i.table c.loop-i.self.graph c.loop-i.self.known c.loop-i.layer c.loop-i.invariant.stands

pub returns-clause-read : goal.returns-clause-read
returns-clause-read g c =
    let e = c.name.ensures in
    let p = c.args.self.now in
    subst (λ (q : Pass). PassReads (bytes_at p.at c.args.piece.now) c.args.table.now p c.args.steps.now c.loop-i.table q c.loop-i.steps)
    (sym (same_pass c.name.new.self (as_layer c.loop-i.layer c.loop-i.self) e.graph e.known e.search e.at))
    (advanced_all c.loop-i.invariant.advanced (omega (arith, c.loop-i.invariant.within)))

pub returns-clause-at : goal.returns-clause-at
returns-clause-at g c = omega (arith, c.loop-i.invariant.within, c.loop-i.invariant.advanced.at, c.name.ensures.at)
