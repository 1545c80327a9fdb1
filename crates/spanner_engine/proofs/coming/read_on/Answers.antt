use Rattle.std.proofs.Common.{arith, ◌≡◌, ◌+◌, ◌<◌, ◌≤◌, ◌^◌, length, subst}
use Rattle.marked_automaton.specs.Automaton.{Automaton as Graph}
use Rattle.spanner_engine.specs.Stages.{IsTakenBy, IsThere}
use Rattle.spanner_engine.specs.declared.coming.Going.{Going as Going_type}
use Rattle.spanner_engine.proofs.CameWhole.{going_more, going_refused, past_more, past_on, refused_on}
use Rattle.spanner_engine.proofs.coming.read_on.Goals as goal
use Rattle.spanner_engine.proofs.coming.read_on.Goals.{then-seen-gt-MOST_BYTES-via-then-seen-gt-MOST_BYTES, then-seen-gt-MOST_BYTES-via-else-seen-gt-MOST_BYTES+then-count-seen}

pub returns-then-seen-gt-MOST_BYTES-clause-taken : goal.returns-then-seen-gt-MOST_BYTES-clause-taken
returns-then-seen-gt-MOST_BYTES-clause-taken g c A limit before d t =
    let over : 2 ^ 28 < c.args.seen + length c.args.piece.now =
    elim c.then-seen-gt-MOST_BYTES.branch as (λ _. 2 ^ 28 < c.args.seen + length c.args.piece.now) [
      | then-seen-gt-MOST_BYTES-via-then-seen-gt-MOST_BYTES w ↦ omega (arith, w.if-seen-gt-MOST_BYTES.true)
      | then-seen-gt-MOST_BYTES-via-else-seen-gt-MOST_BYTES+then-count-seen w ↦ omega (arith, w.if-seen-gt-MOST_BYTES.false, w.if-count-seen.true)
    ] in
    past_more A limit before d c.args.piece.now c.args.stage c.args.seen c.args.steps.now over t

pub returns-in-Refused-clause-taken : goal.returns-in-Refused-clause-taken
returns-in-Refused-clause-taken g c A limit before d t =
    refused_on A limit before d c.args.piece.now c.type_inv.piece c.args.seen c.args.steps.now c.in-Refused.fault
    (subst (λ s. IsTakenBy A limit before d s c.args.seen c.args.steps.now) c.in-Refused.is t)

pub returns-in-Past-clause-taken : goal.returns-in-Past-clause-taken
returns-in-Past-clause-taken g c A limit before d t =
    past_on A limit before d c.args.piece.now c.args.seen c.args.steps.now
    (subst (λ s. IsTakenBy A limit before d s c.args.seen c.args.steps.now) c.in-Past.is t)

pub read-requires : goal.read-requires
read-requires g c = record {
  few =
      (let t = subst (λ s. IsThere s c.args.seen) c.in-Going.is c.requires.there in
      let a = t.0 in omega (arith, a, c.if-count-seen.false, c.if-seen-gt-MOST_BYTES.false));
}

pub returns-in-Err-clause-taken : goal.returns-in-Err-clause-taken
returns-in-Err-clause-taken g c A limit before d t =
    going_refused A limit before d c.args.piece.now c.type_inv.piece c.in-Going.going c.args.seen c.args.steps.now c.read.new.steps c.in-Err.fault
    (subst (λ s. IsTakenBy A limit before d s c.args.seen c.args.steps.now) c.in-Going.is t) c.in-Err.ensures.refused

pub returns-clause-there : goal.returns-clause-there
returns-clause-there g c =
    let t = subst (λ s. IsThere s c.args.seen) c.in-Going.is c.requires.there in
    let a = t.0 in (
      omega (arith, a, c.in-Ok.ensures.at),
      omega (arith, c.if-count-seen.false, c.if-seen-gt-MOST_BYTES.false),
    )

pub returns-clause-taken : goal.returns-clause-taken
returns-clause-taken g c A limit before d t =
    let next : Going_type = record { reading = c.in-Ok.more } in
    going_more A limit before d c.args.piece.now c.type_inv.piece c.in-Going.going next c.args.seen c.args.steps.now c.read.new.steps
    (subst (λ s. IsTakenBy A limit before d s c.args.seen c.args.steps.now) c.in-Going.is t) c.in-Ok.ensures.read c.in-Ok.ensures.at
