use Rattle.std.proofs.Common.{◌≡◌, ◌-◌, ◌∷◌, ◌++◌, length, suc, sym, ap, ◌∙◌, arith, append_assoc}
use Rattle.std.specs.Prelude.{nat_le, if◌then◌else◌}
use Rattle.place_automaton.specs.Sides.{Sides, cat_sides, opt_sides, JoinAsSums, row_sides, row_ways}
use Rattle.place_automaton.specs.Places.{ways_between}
use Rattle.place_automaton.proofs.RowLaws.{next_joins, next_ways, next_row, taken_whole, taken_rest, taken_ways, taken_joins}
use Rattle.place_automaton.proofs.fragment.join_row.Goals as goal

pub before-requires : goal.before-requires
before-requires c =
    let r = c.args.required in
    let i = c.loop-fragment.invariant in
    let new = c.pop.new.self.items in
    let joins = taken_joins r c.args.fragments.items c.loop-fragment.fragments.items new i.0 c.in-Some.fragment c.args.rest i.1 c.in-Some.ensures.items c.requires in
    rw (i.2 ∙ taken_rest r c.args.fragments.items c.loop-fragment.fragments.items new i.0 c.in-Some.fragment c.args.rest i.1 c.in-Some.ensures.items)
    (next_joins r (length new) c.in-Some.fragment i.0 c.args.rest joins)

pub loop-fragment-preserved : goal.loop-fragment-preserved
loop-fragment-preserved c =
    let r = c.args.required in
    let i = c.loop-fragment.invariant in
    let new = c.pop.new.self.items in
    let P = c.in-Some.fragment in
    let k = length new in
    let len : c.len.result ≡ k = omega (arith, c.len.ensures, c.pop.new.self.ok.0) in
    let rest = i.2 ∙ taken_rest r c.args.fragments.items c.loop-fragment.fragments.items new i.0 P c.args.rest i.1 c.in-Some.ensures.items in
    let ways = i.3 ∙ ap (λ ws. c.args.ways.now.items ++ ws) (taken_ways r c.args.fragments.items c.loop-fragment.fragments.items new i.0 P c.args.rest i.1 c.in-Some.ensures.items) in
    let Rest = row_sides (r - suc k) i.0 c.args.rest in (
      P ∷ i.0,
      taken_whole r c.args.fragments.items c.loop-fragment.fragments.items new i.0 P c.args.rest i.1 c.in-Some.ensures.items,
      rw (← rest) c.in_ok-row.ensures.sides
          ∙ next_row r k P i.0 c.args.rest (nat_le r c.len.result) (ap (nat_le r) len),
      c.in_ok-row.ensures.ways
          ∙ (ap (λ ws. ws ++ ways_between P.last c.loop-fragment.row.first) ways
          ∙ (append_assoc c.args.ways.now.items (row_ways (r - suc k) i.0 c.args.rest) (ways_between P.last c.loop-fragment.row.first)
          ∙ ap (λ ws. c.args.ways.now.items ++ ws)
          (ap (λ (Q : Sides). row_ways (r - suc k) i.0 c.args.rest ++ ways_between P.last Q.first) rest ∙ sym (next_ways r k P i.0 c.args.rest)))),
    )
