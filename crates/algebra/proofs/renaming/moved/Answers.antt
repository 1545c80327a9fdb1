use Rattle.std.proofs.Common.{◌≡◌, suc, ◌+◌, ◌*◌, ◌^◌, None, take, get_or, sym, ap, subst, arith, ◌∙◌}
use Rattle.std.proofs.lemmas.List.{take_more}
use Rattle.span_core.specs.Lists.{Has}
use Rattle.span_core.proofs.HasLaws.{Has-get_or}
use Rattle.marked_automaton.proofs.Erasing.{four_times}
use Rattle.algebra.specs.Renaming.{bits_up, moved_marks}
use Rattle.algebra.proofs.RenamingLaws.{moved_more, moved_none, power_le}
use Rattle.algebra.proofs.renaming.moved.Goals as goal

pub returns-then-is_none : goal.returns-then-is_none
returns-then-is_none c = c.none.ensures ∙ sym (ap (moved_marks c.args.shifts.now) (c.is_none.ensures.0 c.if-is_none.true) ∙ moved_none c.args.shifts.now)

pub overflow_mul-number : goal.overflow_mul-number
overflow_mul-number c =
    let i = c.loop-shift.shift-index in
    let le = power_le (2 * i) 62 (omega (arith, c.loop-shift-test.true, c.requires.few)) in
    omega (arith, c.loop-shift.invariant.small, le)

pub bits-requires : goal.bits-requires
bits-requires c = λ s e.
    let shifts = c.args.shifts.now in
    c.requires.small s (subst (Has shifts) e (Has-get_or shifts c.loop-shift.shift-index None c.loop-shift-test.true))

pub overflow_add-number : goal.overflow_add-number
overflow_add-number c =
    let i = c.loop-shift.shift-index in
    let le = power_le (2 * i) 62 (omega (arith, c.loop-shift-test.true, c.requires.few)) in
    omega (arith, c.loop-shift.invariant.small, le, c.bits.ensures.small)

pub loop-shift-preserved : goal.loop-shift-preserved
loop-shift-preserved c =
    let shifts = c.args.shifts.now in
    let i = c.loop-shift.shift-index in
    let s = get_or shifts i None in
    let m = c.args.marks in
    let more : moved_marks (take (i + 1) shifts) m ≡ moved_marks (take i shifts) m * 4 + bits_up s m =
    ap (λ zs. moved_marks zs m) (take_more shifts i None c.loop-shift-test.true) ∙ moved_more (take i shifts) s m in
    let bits : c.bits.result ≡ bits_up s m = c.bits.ensures.value ∙ ap (bits_up s) c.number.ensures in
    let n : 2 * (i + 1) ≡ 2 * suc i = omega arith in
    let power : 2 ^ (2 * (i + 1)) ≡ 2 ^ (2 * i) * 4 = ap (λ k. 2 ^ k) n ∙ four_times i in
    record {
      number = omega (arith, more, bits, c.loop-shift.invariant.number);
      small = omega (arith, power, c.bits.ensures.small, c.loop-shift.invariant.small);
    }
