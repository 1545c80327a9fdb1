use Rattle.std.proofs.Common.{◌≡◌, ◌<◌, Some, length, arith, refl}
use Rattle.one_pass.specs.Numbered.{moved_to}
use Rattle.one_pass.proofs.Advancing.{advanced_gives_up, advanced_more}
use Rattle.one_pass.proofs.NumberedLaws.{searched, with_quiet}
use Rattle.one_pass.proofs.pass.Pass.read_next.Goals as goal

pub returns-then-outlook-bytes-clause-read : goal.returns-then-outlook-bytes-clause-read
returns-then-outlook-bytes-clause-read g c =
    let p = c.args.self.now in
    let outlook = c.look_ahead-outlook.result in
    let none : outlook.count ≡ 0 = omega (arith, c.look_ahead-outlook.ensures.noted) in
    let ahead = rw none at c.look_ahead-outlook.ensures.ahead in
    let led = ahead.led p.graph c.args.steps.now c.args.steps.now (refl, refl) in
    let search = with_quiet p.search outlook.quiet in
    let past = searched (Some outlook.layer) (moved_to p.graph outlook.bytes p) search refl led.advanced in
    record { advanced = past; stands = led.stands; within = c.look_ahead-outlook.ensures.within }

pub read_unknown-requires-clause-goes_on : goal.read_unknown-requires-clause-goes_on
read_unknown-requires-clause-goes_on g c =
    let p = c.args.self.now in
    let outlook = c.look_ahead-outlook.result in
    let none : outlook.count ≡ 0 = omega (arith, c.look_ahead-outlook.ensures.noted) in
    let ahead = rw none at c.look_ahead-outlook.ensures.ahead in
    let led = ahead.led p.graph c.args.steps.now c.args.steps.now (refl, refl) in
    let search = with_quiet p.search outlook.quiet in
    let past = searched (Some outlook.layer) (moved_to p.graph outlook.bytes p) search refl led.advanced in
    past.reads.goes_on

pub read_unknown-requires-clause-stands : goal.read_unknown-requires-clause-stands
read_unknown-requires-clause-stands g c =
    let p = c.args.self.now in
    let outlook = c.look_ahead-outlook.result in
    let none : outlook.count ≡ 0 = omega (arith, c.look_ahead-outlook.ensures.noted) in
    let ahead = rw none at c.look_ahead-outlook.ensures.ahead in
    let led = ahead.led p.graph c.args.steps.now c.args.steps.now (refl, refl) in
    let search = with_quiet p.search outlook.quiet in
    let past = searched (Some outlook.layer) (moved_to p.graph outlook.bytes p) search refl led.advanced in
    led.stands

pub returns-in-Ok-clause-read : goal.returns-in-Ok-clause-read
returns-in-Ok-clause-read g c =
    let p = c.args.self.now in
    let outlook = c.look_ahead-outlook.result in
    let none : outlook.count ≡ 0 = omega (arith, c.look_ahead-outlook.ensures.noted) in
    let ahead = rw none at c.look_ahead-outlook.ensures.ahead in
    let led = ahead.led p.graph c.args.steps.now c.args.steps.now (refl, refl) in
    let search = with_quiet p.search outlook.quiet in
    let past = searched (Some outlook.layer) (moved_to p.graph outlook.bytes p) search refl led.advanced in
    let within : outlook.bytes < length c.args.bytes.now = omega (arith, c.look_ahead-outlook.ensures.within) in
    record { advanced = advanced_more past within c.in-Ok.ensures.read c.in-Ok.ensures.at; stands = c.in-Ok.ensures.stands; within = omega (arith, within) }

pub returns-in-Err-clause-given_up : goal.returns-in-Err-clause-given_up
returns-in-Err-clause-given_up g c =
    let p = c.args.self.now in
    let outlook = c.look_ahead-outlook.result in
    let none : outlook.count ≡ 0 = omega (arith, c.look_ahead-outlook.ensures.noted) in
    let ahead = rw none at c.look_ahead-outlook.ensures.ahead in
    let led = ahead.led p.graph c.args.steps.now c.args.steps.now (refl, refl) in
    let search = with_quiet p.search outlook.quiet in
    let past = searched (Some outlook.layer) (moved_to p.graph outlook.bytes p) search refl led.advanced in
    let within : outlook.bytes < length c.args.bytes.now = omega (arith, c.look_ahead-outlook.ensures.within) in
    advanced_gives_up past within c.in-Err.ensures.given_up
