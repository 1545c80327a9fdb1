use Rattle.std.proofs.Common.{rules, arith}
use Rattle.std.proofs.lemmas.Result.{err_from_is_err_and}
use Rattle.formula_parser.specs.View.{nest_of, alphabet_seen}
use Rattle.formula_parser.proofs.StepLaws.{ends_on}
use Rattle.formula_parser.proofs.TurnLaws.{takes_within, fails_on, some_dialect}
use Rattle.formula_parser.proofs.reader.read_by_turns.Goals as goal

pub returns-in_err-len-clause-ends : goal.returns-in_err-len-clause-ends
returns-in_err-len-clause-ends c =
    let p = err_from_is_err_and c.from_residual.result c.from_residual.ensures.1 in
    λ lang speaks same. rw (p.1, p.2) (fails_on lang c.in_err-len.field-0.0 c.loop-len.at c.args.text.now _ _ _ _ c.split_at.ensures.back
    (c.in_err-len.ensures lang speaks same) (c.loop-len.invariant.goes_on lang speaks same))

pub overflow_add-at : goal.overflow_add-at
overflow_add-at c =
    let some = some_dialect (alphabet_seen c.args.alphabet) in
    let step = rw c.in-Took.is at c.in_ok-len.ensures some.0 some.1 some.2 in
    let moves = takes_within some.0 some.1 c.loop-len.at c.split_at.result.1.now (nest_of c.loop-len.nest) (nest_of c.take_turn.new.nest) c.in-Took.len step in
    let len = c.split_at.ensures.back_len in
    search rules

pub loop-len-smaller : goal.loop-len-smaller
loop-len-smaller c =
    let some = some_dialect (alphabet_seen c.args.alphabet) in
    let step = rw c.in-Took.is at c.in_ok-len.ensures some.0 some.1 some.2 in
    let moves = takes_within some.0 some.1 c.loop-len.at c.split_at.result.1.now (nest_of c.loop-len.nest) (nest_of c.take_turn.new.nest) c.in-Took.len step in
    omega (arith, moves, c.split_at.ensures.back_len)

pub loop-len-preserved : goal.loop-len-preserved
loop-len-preserved c =
    let some = some_dialect (alphabet_seen c.args.alphabet) in
    let step = rw c.in-Took.is at c.in_ok-len.ensures some.0 some.1 some.2 in
    let moves = takes_within some.0 some.1 c.loop-len.at c.split_at.result.1.now (nest_of c.loop-len.nest) (nest_of c.take_turn.new.nest) c.in-Took.len step in
    record {
      within = omega (arith, moves, c.split_at.ensures.back_len);
      goes_on = λ lang speaks same r ends. c.loop-len.invariant.goes_on lang speaks same r
          (ends_on lang speaks c.loop-len.at c.in-Took.len c.args.text.now _ _ _ r c.split_at.ensures.back (rw c.in-Took.is at c.in_ok-len.ensures lang speaks same) ends);
    }
