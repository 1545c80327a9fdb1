use Rattle.std.proofs.Common.{rules, ◌+◌, drop, arith, sym, ◌∙◌}
use Rattle.std.proofs.lemmas.Result.{err_from_is_err_and}
use Rattle.formula_parser.specs.Classes as classes
use Rattle.formula_parser.specs.ClassView.{last_of}
use Rattle.formula_parser.specs.View.{elem_of}
use Rattle.formula_parser.proofs.ClassTurns.{goes_read, token_fits, fails_read, closes_read}
use Rattle.formula_parser.proofs.class.read_items.Goals as goal
use Rattle.formula_parser.specs.Dialect.{plain_bytes}

pub returns-in_err-elem : goal.returns-in_err-elem
returns-in_err-elem c =
    let p = err_from_is_err_and c.from_residual.result c.from_residual.ensures.1 in
    let l = c.loop-elem in
    rw (p.1, p.2) (fails_read plain_bytes tt c.args.negated c.args.from (c.args.first + l.read) (drop l.read c.args.text.now) c.split_at.result.1.now l.items.set (last_of l.items.last)
    c.in_err-elem.field-0.0 c.split_at.ensures.back c.in_err-elem.ensures ∙ sym l.invariant.same)

pub returns-in_err-items-in-Elem : goal.returns-in_err-items-in-Elem
returns-in_err-items-in-Elem c =
    let p = err_from_is_err_and c.from_residual-in_err-items-in-Elem.result c.from_residual-in_err-items-in-Elem.ensures.1 in
    let l = c.loop-elem in
    let step = rw c.in-Elem.is at c.in_ok-elem.ensures in
    rw (p.1, p.2) (fails_read plain_bytes tt c.args.negated c.args.from (c.args.first + l.read) (drop l.read c.args.text.now) c.split_at.result.1.now l.items.set (last_of l.items.last)
    c.in_err-items-in-Elem.field-0.0 c.split_at.ensures.back (c.in_err-items-in-Elem.ensures c.in-Elem.len ∙ step) ∙ sym l.invariant.same)

pub overflow_add-read : goal.overflow_add-read
overflow_add-read c =
    let l = c.loop-elem in
    let step = rw c.in-Elem.is at c.in_ok-elem.ensures in
    let more = c.in_ok-items-in-Elem.items in
    let fits = token_fits plain_bytes tt c.args.from (c.args.first + l.read) c.split_at.result.1.now l.items.set more.set (last_of l.items.last) (last_of more.last) c.in-Elem.len
    (c.in_ok-items-in-Elem.ensures c.in-Elem.len ∙ step) in
    let len = c.split_at.ensures.back_len in
    search rules

pub loop-elem-smaller-in-Elem : goal.loop-elem-smaller-in-Elem
loop-elem-smaller-in-Elem c =
    let l = c.loop-elem in
    let step = rw c.in-Elem.is at c.in_ok-elem.ensures in
    let more = c.in_ok-items-in-Elem.items in
    let fits = token_fits plain_bytes tt c.args.from (c.args.first + l.read) c.split_at.result.1.now l.items.set more.set (last_of l.items.last) (last_of more.last) c.in-Elem.len
    (c.in_ok-items-in-Elem.ensures c.in-Elem.len ∙ step) in
    omega (arith, fits.0, fits.1, c.split_at.ensures.back_len)

pub loop-elem-preserved-in-Elem : goal.loop-elem-preserved-in-Elem
loop-elem-preserved-in-Elem c =
    let l = c.loop-elem in
    let step = rw c.in-Elem.is at c.in_ok-elem.ensures in
    let more = c.in_ok-items-in-Elem.items in
    let is = c.in_ok-items-in-Elem.ensures c.in-Elem.len ∙ step in
    let fits = token_fits plain_bytes tt c.args.from (c.args.first + l.read) c.split_at.result.1.now l.items.set more.set (last_of l.items.last) (last_of more.last) c.in-Elem.len is in
    record {
      within = omega (arith, fits.1, c.split_at.ensures.back_len);
      same = l.invariant.same ∙ goes_read plain_bytes tt c.args.negated c.args.from c.args.first l.read c.args.text.now c.split_at.result.1.now l.items.set more.set
          (last_of l.items.last) (last_of more.last) c.in-Elem.len c.split_at.ensures.back is;
    }

pub loop-elem-preserved : goal.loop-elem-preserved
loop-elem-preserved c =
    let l = c.loop-elem in
    let is = rw c.in-Dash.is at c.in_ok-elem.ensures in
    let next = classes.after_dash (elem_of c.in-Dash.before) c.in-Dash.place in
    let fits = token_fits plain_bytes tt c.args.from (c.args.first + l.read) c.split_at.result.1.now l.items.set l.items.set (last_of l.items.last) next 1 is in
    record {
      within = omega (arith, fits.1, c.split_at.ensures.back_len);
      same = l.invariant.same ∙ goes_read plain_bytes tt c.args.negated c.args.from c.args.first l.read c.args.text.now c.split_at.result.1.now l.items.set l.items.set
          (last_of l.items.last) next 1 c.split_at.ensures.back is;
    }

pub returns-in_err-all-in-End : goal.returns-in_err-all-in-End
returns-in_err-all-in-End c =
    let p = err_from_is_err_and c.from_residual-in_err-all-in-End.result c.from_residual-in_err-all-in-End.ensures.1 in
    let l = c.loop-elem in
    let step = rw c.in-End.is at c.in_ok-elem.ensures in
    rw (p.1, p.2) (fails_read plain_bytes tt c.args.negated c.args.from (c.args.first + l.read) (drop l.read c.args.text.now) c.split_at.result.1.now l.items.set (last_of l.items.last)
    c.in_err-all-in-End.field-0.0 c.split_at.ensures.back (c.in_err-all-in-End.ensures ∙ step) ∙ sym l.invariant.same)

pub returns-in-End : goal.returns-in-End
returns-in-End c =
    let l = c.loop-elem in
    let step = rw c.in-End.is at c.in_ok-elem.ensures in
    c.close.ensures ∙ closes_read plain_bytes tt c.args.negated c.args.from (c.args.first + l.read) (drop l.read c.args.text.now) c.split_at.result.1.now l.items.set c.in_ok-all-in-End.field-0
    (last_of l.items.last) c.split_at.ensures.back (c.in_ok-all-in-End.ensures ∙ step) ∙ sym l.invariant.same
