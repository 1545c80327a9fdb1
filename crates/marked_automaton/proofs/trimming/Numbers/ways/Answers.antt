use Rattle.std.proofs.Common.{◌≡◌, ◌+◌, ◌<◌, List, Vec, Global, arith, get_or, length, sym, ap, subst, ◌∙◌}
use Rattle.span_core.specs.Lists.{Has}
use Rattle.span_core.proofs.HasLaws.{Has-get_or}
use Rattle.marked_automaton.specs.declared.way.Way.{Way}
use Rattle.marked_automaton.specs.Trimmed.{moved_way}
use Rattle.marked_automaton.proofs.Loops.{IsPacked, packed_next, packed_none, packed_one}
use Rattle.marked_automaton.proofs.trimming.Numbers.ways.Goals.{in-Some, in_default}
use Rattle.marked_automaton.proofs.trimming.Numbers.ways.Goals as goal

pub way-requires-clause-from : goal.way-requires-clause-from
way-requires-clause-from c =
    let ways = c.args.ways.items in
    let k = c.loop-k.k in
    let y = c.index.result.now in
    let within : k < length ways = omega (arith, c.loop-k-test.true, c.len-k-end.ensures) in
    let same : y ≡ get_or ways k y = c.index.ensures ∙ packed_next (moved_way c.args.self.now.numbers.items) ways k c.loop-k.count c.loop-k.ways.items y c.loop-k.invariant within in
    c.requires.froms y (subst (Has ways) (sym same) (Has-get_or ways k y within))

pub way-requires-clause-to : goal.way-requires-clause-to
way-requires-clause-to c =
    let ways = c.args.ways.items in
    let k = c.loop-k.k in
    let y = c.index.result.now in
    let within : k < length ways = omega (arith, c.loop-k-test.true, c.len-k-end.ensures) in
    let same : y ≡ get_or ways k y = c.index.ensures ∙ packed_next (moved_way c.args.self.now.numbers.items) ways k c.loop-k.count c.loop-k.ways.items y c.loop-k.invariant within in
    c.requires.tos y (subst (Has ways) (sym same) (Has-get_or ways k y within))

pub loop-k-preserved : goal.loop-k-preserved
loop-k-preserved c =
    let h = moved_way c.args.self.now.numbers.items in
    let ways = c.args.ways.items in
    let now = c.loop-k.ways.items in
    let k = c.loop-k.k in
    let n = c.loop-k.count in
    let y = c.index.result.now in
    let within : k < length ways = omega (arith, c.loop-k-test.true, c.len-k-end.ensures) in
    let same : y ≡ get_or ways k y = c.index.ensures ∙ packed_next h ways k n now y c.loop-k.invariant within in
    let here : h (get_or ways k y) ≡ c.way.result = ap h (sym same) ∙ sym c.way.ensures in
    elim c.match-way.branch [
      | in-Some w ↦
          subst (λ m. IsPacked h ways (k + 1) m c.match-way.ways.items) (sym w.count-is)
          (subst (λ (zs : List Way). IsPacked h ways (k + 1) (n + 1) zs) (sym (ap (λ (v : Vec Way Global). v.items) w.ways-is))
          (packed_one h ways k n now y w.in-Some.moved within c.loop-k.invariant (here ∙ w.in-Some.is)))
      | in_default w ↦
          subst (λ m. IsPacked h ways (k + 1) m c.match-way.ways.items) (sym w.count-is)
          (subst (λ (zs : List Way). IsPacked h ways (k + 1) n zs) (sym (ap (λ (v : Vec Way Global). v.items) w.ways-is))
          (packed_none h ways k n now y within c.loop-k.invariant (here ∙ w.in_default.is)))
    ]
