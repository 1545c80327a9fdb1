use Rattle.std.proofs.Common.{◌≡◌, sym, ap, ◌∙◌, arith, List, [], ◌∷◌, ◌++◌, Option, Some, None, subst, length, length-append, take}
use Rattle.std.proofs.lemmas.Bool.{iff_false}
use Rattle.std.specs.Int.{bit_at}
use Rattle.std.specs.List.{All}
use Rattle.span_core.specs.declared.span.Span.{Span}
use Rattle.span_core.specs.Block.{opening_bit, closing_bit}
use Rattle.span_core.specs.Blocks.{listed}
use Rattle.span_core.proofs.BlockBits.{bit_positive}
use Rattle.span_core.proofs.BlockFaults.{fault_found}
use Rattle.span_core.proofs.RowOfBlocks.{IsListed, never_opens, never_closes, never_backward, only_more, only_absent, stands, stands_nowhere, listed_more, row_is, row_is_not}
use Rattle.span_core.proofs.row.Row.of_blocks.Goals as goal
use Rattle.span_core.proofs.row.Row.of_blocks.Goals.{in-Some-Some, in-None-None, in_default-via-in-Some-Some+else-start-end, in_default-via-in-Some+in_default, in_default-via-in-None+in_default}

pub returns-in_default-clause-none : goal.returns-in_default-clause-none
returns-in_default-clause-none c =
    let v = c.args.v in
    let k = c.loop-k.k in
    let blocks = c.args.blocks.now in
    elim c.in_default.branch [
      | in_default-via-in-Some-Some+else-start-end w ↦ never_backward v k w.in-Some-Some.start w.in-Some-Some.end blocks c.loop-k-test.true
          (stands blocks (opening_bit v k) c.place_of-start.result w.in-Some-Some.start c.place_of-start.ensures.some w.in-Some-Some.is-0)
          (stands blocks (closing_bit v k) c.place_of-end.result w.in-Some-Some.end c.place_of-end.ensures.some w.in-Some-Some.is-1) w.if-start-end.false
      | in_default-via-in-Some+in_default w ↦ never_closes v k w.in_default.field-0-0 blocks c.loop-k-test.true
          (stands blocks (opening_bit v k) c.place_of-start.result w.in_default.field-0-0 c.place_of-start.ensures.some w.in_default.is-0)
          (stands_nowhere blocks (closing_bit v k) c.place_of-end.result c.place_of-end.ensures.none w.in_default.is-1)
      | in_default-via-in-None+in_default w ↦ never_opens v k w.in_default.field-0-1 blocks c.loop-k-test.true
          (stands_nowhere blocks (opening_bit v k) c.place_of-start.result c.place_of-start.ensures.none w.in_default.is-0)
          (stands blocks (closing_bit v k) c.place_of-end.result w.in_default.field-0-1 c.place_of-end.ensures.some w.in_default.is-1)
    ]

pub returns-in_default-clause-fault : goal.returns-in_default-clause-fault
returns-in_default-clause-fault c = fault_found c.args.v c.args.blocks.now (returns-in_default-clause-none c)

pub loop-k-preserved : goal.loop-k-preserved
loop-k-preserved c =
    let v = c.args.v in
    let k = c.loop-k.k in
    let blocks = c.args.blocks.now in
    elim c.match-start.branch [
      | in-Some-Some w ↦ (let s = w.new.result in
          let opens : bit_at (listed blocks s.start) (opening_bit v k) ≡ 1 =
          ap (λ p. bit_at (listed blocks p) (opening_bit v k)) w.new.ensures.start ∙
          stands blocks (opening_bit v k) c.place_of-start.result w.in-Some-Some.start c.place_of-start.ensures.some w.in-Some-Some.is-0 in
          let closes : bit_at (listed blocks s.end) (closing_bit v k) ≡ 1 =
          ap (λ p. bit_at (listed blocks p) (closing_bit v k)) w.new.ensures.end ∙
          stands blocks (closing_bit v k) c.place_of-end.result w.in-Some-Some.end c.place_of-end.ensures.some w.in-Some-Some.is-1 in
          let is : c.match-start.row ≡ c.loop-k.row ++ Some s ∷ [] = w.row-is ∙ w.push.ensures in
          record {
            so_far = omega (arith, ap length is, length-append {A = Option Span}, c.loop-k.invariant.so_far);
            marked = subst (λ (row : List (Option Span)). All (IsListed blocks) row) (sym is)
                (listed_more blocks c.loop-k.row (Some s) c.loop-k.invariant.marked (
                  bit_positive (listed blocks s.start) (opening_bit v k) opens,
                  bit_positive (listed blocks s.end) (closing_bit v k) closes,
                ));
            only = λ row h. is ∙ only_more v k blocks c.loop-k.row s c.loop-k-test.true opens closes row h (c.loop-k.invariant.only row h);
          })
      | in-None-None w ↦ (let is : c.match-start.row ≡ c.loop-k.row ++ None ∷ [] = w.row-is ∙ w.push-in-None-None.ensures in
          let opens = stands_nowhere blocks (opening_bit v k) c.place_of-start.result c.place_of-start.ensures.none w.in-None-None.is-0 in
          let closes = stands_nowhere blocks (closing_bit v k) c.place_of-end.result c.place_of-end.ensures.none w.in-None-None.is-1 in
          record {
            so_far = omega (arith, ap length is, length-append {A = Option Span}, c.loop-k.invariant.so_far);
            marked = subst (λ (row : List (Option Span)). All (IsListed blocks) row) (sym is) (listed_more blocks c.loop-k.row None c.loop-k.invariant.marked tt);
            only = λ row h. is ∙ only_absent v k blocks c.loop-k.row c.loop-k-test.true opens closes row h (c.loop-k.invariant.only row h);
          })
    ]

pub returns-then-has_blocks-clause-some : goal.returns-then-has_blocks-clause-some
returns-then-has_blocks-clause-some c = row_is c.args.v c.args.blocks.now c.loop-k.row (omega (arith, c.loop-k.invariant.so_far))
    c.loop-k.invariant.marked (c.has_blocks.ensures.0 c.if-has_blocks.true)

pub returns-else-has_blocks-clause-none : goal.returns-else-has_blocks-clause-none
returns-else-has_blocks-clause-none c =
    let ends : c.loop-k.k ≡ c.args.v = omega arith in
    row_is_not c.args.v c.args.blocks.now c.loop-k.row c.requires.ascending (iff_false c.has_blocks.ensures c.if-has_blocks.false)
    (λ row h. c.loop-k.invariant.only row h ∙ ap (λ n. take n row) ends)

pub returns-else-has_blocks-clause-fault : goal.returns-else-has_blocks-clause-fault
returns-else-has_blocks-clause-fault c = fault_found c.args.v c.args.blocks.now (returns-else-has_blocks-clause-none c)
