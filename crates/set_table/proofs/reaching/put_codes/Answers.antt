use Rattle.std.proofs.Common.{◌≡◌, ap, ◌∙◌, map, ◌++◌}
use Rattle.std.specs.List.{flat_map}
use Rattle.automaton_reading.specs.Reading.{set_of, ways_taken}
use Rattle.set_table.specs.Cut.{code_of, codes_at, codes_among}
use Rattle.set_table.proofs.Gathered.{by_members}
use Rattle.set_table.proofs.PartLaws.{gained_all}
use Rattle.set_table.proofs.reaching.put_codes.Goals.{then-is_grouped+in_ok-put_rows, else-is_grouped+in_ok-put_among}
use Rattle.set_table.proofs.reaching.put_codes.Goals as goal

pub returns-clause-codes : goal.returns-clause-codes
returns-clause-codes c =
    let A = c.args.automaton.now.graph in
    let members = c.args.members.now in
    let b = c.args.byte in
    let gathered : set_of c.if-is_grouped.codes.items ≡ set_of (map code_of (ways_taken A members b)) = elim c.if-is_grouped.branch [
      | then-is_grouped+in_ok-put_rows w ↦
          let found = flat_map (codes_at A.ways b) members in
          let g = w.in_ok-put_rows.ensures.codes in
          let e : c.if-is_grouped.codes.items ≡ w.put_rows.new.codes.items = λ i. (w.codes-is i).items in
          let all : set_of w.put_rows.new.codes.items ≡ set_of found = gained_all c.clear.new.self.items w.put_rows.new.codes.items found c.clear.ensures.items g in
          ap set_of e ∙ (all ∙ by_members A members b)
      | else-is_grouped+in_ok-put_among w ↦
          let e : c.if-is_grouped.codes.items ≡ codes_among members b A.ways = (λ i. (w.codes-is i).items) ∙
          (w.in_ok-put_among.ensures ∙ (λ i. c.clear.ensures.items i ++ codes_among members b (w.ways.ensures i))) in
          ap set_of e
    ] in
    c.put_in_order.ensures ∙ gathered
