use Rattle.span_core.specs.Lists.{Has}
use Rattle.set_table.specs.Cut.{codes_at}
use Rattle.set_table.proofs.PartLaws.{gains_appended, seen_kept}
use Rattle.set_table.proofs.reaching.put_state.Goals as goal

pub returns-then-len-first-le-FEW_CODES-clause-codes : goal.returns-then-len-first-le-FEW_CODES-clause-codes
returns-then-len-first-le-FEW_CODES-clause-codes c =
    gains_appended c.args.codes.now.items c.put_read.new.codes.items (codes_at c.args.automaton.now.graph.ways c.args.byte c.args.state) c.in_ok-put_read.ensures.codes

pub returns-then-len-first-le-FEW_CODES-clause-seen : goal.returns-then-len-first-le-FEW_CODES-clause-seen
returns-then-len-first-le-FEW_CODES-clause-seen c =
    let old = c.args.codes.now.items in
    let new = c.put_read.new.codes.items in
    let found = codes_at c.args.automaton.now.graph.ways c.args.byte c.args.state in
    seen_kept c.args.seen.now old new (Has found) c.requires.seen (gains_appended old new found c.in_ok-put_read.ensures.codes)

pub returns-clause-codes : goal.returns-clause-codes
returns-clause-codes c =
    gains_appended c.args.codes.now.items c.put_read.new.codes.items (codes_at c.args.automaton.now.graph.ways c.args.byte c.args.state) c.in_ok-put_read.ensures.codes

pub returns-clause-seen : goal.returns-clause-seen
returns-clause-seen c =
    let old = c.args.codes.now.items in
    let new = c.put_read.new.codes.items in
    let found = codes_at c.args.automaton.now.graph.ways c.args.byte c.args.state in
    seen_kept c.args.seen.now old new (Has found) c.requires.seen (gains_appended old new found c.in_ok-put_read.ensures.codes)
