use Rattle.std.proofs.Common.{◌≡◌, ℕ, ◌<◌, List, Some, length, sym, arith, rules, ◌∙◌}
use Rattle.std.proofs.lemmas.Option.{slice_get_within}
use Rattle.automaton_reading.specs.Reading.{Question, LookUp, byte_read, ended}
use Rattle.set_table.specs.declared.answer.TableQuestion.TheVariants.{Byte}
use Rattle.span_core.proofs.HasLaws.{Has-slice_get}
use Rattle.set_table.proofs.HeldLaws.{look_up_absent, look_up_found}
use Rattle.set_table.proofs.table.Table.asked_row.Goals as goal

not_ended : (s : List ℕ) (b : Question) (r : LookUp) → Some (let q : LookUp = record { set = s; ask = b } in q) ≡ Some r → r.ask ≡ b
not_ended s b r e = cc

byte_is_no_end : (b : ℕ) → byte_read b ≡ ended → ⊥
byte_is_no_end b e = cc

pub edges_at-requires : goal.edges_at-requires
edges_at-requires c =
    let within : c.args.set < length c.args.self.now.sets = rw (← c.self.view_is) (omega (arith, c.if-len-set.false, c.len.ensures.value)) in
    let found = look_up_found (Byte c.args.byte) c.self.invariant c.self.view_is within c.ranges.byte.fits c.place_of.ensures c.at-number.ensures c.if-number-eq0.false in
    record { within = slice_get_within _ _ _ found; edges = λ r there is. byte_is_no_end _ (sym (not_ended _ _ r (sym found ∙ there)) ∙ is) }

pub returns : goal.returns
returns c =
    let within : c.args.set < length c.args.self.now.sets = rw (← c.self.view_is) (omega (arith, c.if-len-set.false, c.len.ensures.value)) in
    let found = look_up_found (Byte c.args.byte) c.self.invariant c.self.view_is within c.ranges.byte.fits c.place_of.ensures c.at-number.ensures c.if-number-eq0.false in
    record { some = (within, c.edges_at.ensures _ found); asked = Has-slice_get _ _ _ found; none = search rules }

pub returns-then-number-eq0-clause-none : goal.returns-then-number-eq0-clause-none
returns-then-number-eq0-clause-none c = λ within.
    look_up_absent (Byte c.args.byte) c.self.invariant c.self.view_is within c.place_of.ensures c.at-number.ensures c.if-number-eq0.true
