use Rattle.std.proofs.Common.{◌≡◌, ℕ, ◌+◌, ◌-◌, ◌*◌, ◌≤◌, List, [], ◌∷◌, ◌++◌, Option, max, map, IfOk, length, take, drop, refl, sym, ap, ◌∙◌, subst, arith}
use Rattle.std.specs.Prelude.{Some, ◌==◌, if◌then◌else◌}
use Rattle.std.proofs.Math.Seq.{take-length}
use Rattle.std.proofs.lemmas.Result.{IfOk-weaker}
use Rattle.marked_automaton.specs.declared.TheConstants.{MOST_STATES}
use Rattle.span_core.specs.Lists.{Has}
use Rattle.spanner_model.specs.Tree.{cap, rep, cat_all, alt_all}
use Rattle.spanner_model.specs.View.{tree_of, trees_of}
use Rattle.spanner_model.specs.WellBuilt.{IsWellBuilt}
use Rattle.span_core.proofs.HasLaws.{Has-slice_get}
use Rattle.spanner_model.proofs.Nodes.{nodes}
use Rattle.spanner_model.proofs.TreeLaws.{part_has, arms_have, part_nodes, arms_nodes, parts_well_built, arms_well_built, sequential_part, sequential_arm}
use Rattle.spanner_model.proofs.Trees.{tree_of-One, tree_of-Cat, tree_of-Alt, tree_of-Cap}
use Rattle.place_automaton.specs.Counts.{counts_over}
use Rattle.place_automaton.specs.declared.placing.Draft.{Draft}
use Rattle.place_automaton.specs.Drafts.{AreNamed, HasPlaced, copies_of, places_of}
use Rattle.place_automaton.specs.Sides.{Sides, IsUnmarked, RowJoins, again_sides, any_sides, sides_of, nothing_sides, opt_sides, row_sides, row_ways}
use Rattle.place_automaton.specs.Moves.{places_moved}
use Rattle.place_automaton.specs.Places.{Places, repeated, ways_between}
use Rattle.spanner_model.specs.Sequential.{IsSequential}
use Rattle.place_automaton.specs.Words.{opening_of, closing_of}
use Rattle.place_automaton.proofs.ArmLaws.{arms_distinct, arms_done}
use Rattle.place_automaton.proofs.BuiltRepeats.{ordered_repeats}
use Rattle.place_automaton.proofs.CapPlaces.{can_capture}
use Rattle.place_automaton.proofs.DraftRows.{IsRow, copies_next, ok_both, parts_next, parts_joins, placers, row_done}
use Rattle.place_automaton.proofs.FineLaws.{VarBits, built_classes, fine_places, fine_unmarked}
use Rattle.place_automaton.proofs.MoveLaws.{first_below, first_copy, first_ways, once_more, place_moves, some_copy, ways_within}
use Rattle.place_automaton.proofs.MarkBits.{no_bits}
use Rattle.place_automaton.proofs.NullSets.{null_set}
use Rattle.place_automaton.proofs.OncePlaces.{once_is, once_places}
use Rattle.place_automaton.proofs.PartBuilt.{all_classes, all_ordered}
use Rattle.place_automaton.proofs.PlaceNumbers.{copies_room, copies_total, place_count, repeated_places, turn_total, parts_room, arms_room}
use Rattle.place_automaton.proofs.Ranges.{places_lie}
use Rattle.place_automaton.proofs.RepeatPlaces.{again_done, bounded_places, flat_done, none_placed, nothing_done, once_done}
use Rattle.place_automaton.proofs.Rows.{copies, in_turn, parts_row}
use Rattle.place_automaton.proofs.Unmarked.{AllUnmarked, copies_unmarked, nothing_unmarked, row_joins}
use Rattle.place_automaton.proofs.placing.+place.Goals as goal

pub place-place_parts-requires : goal.place-place_parts-requires
place-place_parts-requires t c =
    let ts = trees_of c.in-Cat.parts in
    let e = ap tree_of c.in-Cat.is ∙ tree_of-Cat c.in-Cat.parts in (
      omega (arith, ap nodes e),
      (
        parts_well_built ts (subst IsWellBuilt e c.requires.built),
        (
          subst IsSequential e c.requires.sequential,
          (
            c.requires.distinct,
            (subst (AreNamed c.args.vars.now) e c.requires.named, rw (← e) c.requires.room),
          ),
        ),
      ),
    )

pub place-place_arms-requires : goal.place-place_arms-requires
place-place_arms-requires t c =
    let ts = trees_of c.in-Alt.arms in
    let e = ap tree_of c.in-Alt.is ∙ tree_of-Alt c.in-Alt.arms in (
      omega (arith, ap nodes e, arms_nodes ts),
      (
        arms_well_built ts (subst IsWellBuilt e c.requires.built),
        (
          subst IsSequential e c.requires.sequential,
          (
            c.requires.distinct,
            (subst (AreNamed c.args.vars.now) e c.requires.named, rw (← e) c.requires.room),
          ),
        ),
      ),
    )

pub place-captured-requires-clause-marks : goal.place-captured-requires-clause-marks
place-captured-requires-clause-marks t c =
    let x = c.in-Cap.name in
    let f = tree_of c.deref-in-Cap.result.now in
    let e = ap tree_of c.in-Cap.is ∙ tree_of-Cap x c.in-Cap.sub ∙ ap (λ y. cap x (tree_of y)) (sym c.deref-in-Cap.ensures) in
    let w = subst IsWellBuilt e c.requires.built in
    can_capture c.args.vars.now x f (subst IsSequential e c.requires.sequential) (ordered_repeats f (w.0.0, omega (arith, w.1))) (built_classes f w.0.0)
    (subst (AreNamed c.args.vars.now) e c.requires.named) c.args.draft.now.next c.in_ok-fragment-in-Cap.fragment c.in_ok-fragment-in-Cap.ensures.sides

pub place-returns-in-One : goal.place-returns-in-One
place-returns-in-One t c =
    let names = c.args.vars.now in
    let e = ap tree_of c.in-One.is ∙ tree_of-One c.in-One.bytes in
    rw e (c.place_one.ensures names)

pub place_arms-place-requires : goal.place_arms-place-requires
place_arms-place-requires t c =
    let names = c.args.vars.now in
    let ts = trees_of c.args.arms.now in
    let k = c.loop-k.k in
    let f = tree_of c.at.result.now in
    let has = Has-slice_get ts k f c.at.ensures in (
      omega (arith, part_nodes ts f has),
      (
        c.requires.built f has,
        (
          sequential_arm ts f has c.requires.sequential,
          (
            c.requires.distinct,
            (
              λ x v. c.requires.named x ((arms_have ts x).1 (part_has ts f x has v)),
              omega (
                arith,
                c.loop-k.invariant.next,
                turn_total (opening_of names) (closing_of names) (take k ts) c.args.draft.now.next,
                arms_room (opening_of names) (closing_of names) ts,
                parts_room (opening_of names) (closing_of names) ts k f c.at.ensures,
                c.requires.room,
              ),
            ),
          ),
        ),
      ),
    )

pub place_arms-loop-k-preserved : goal.place_arms-loop-k-preserved
place_arms-loop-k-preserved t c =
    let ts = trees_of c.args.arms.now in
    parts_next c.args.vars.now ts c.loop-k.k c.args.draft.now.next (tree_of c.at.result.now) c.args.draft.now c.loop-k.draft c.place.new.draft
    c.loop-k.fragments.items c.push.new.self.items c.in_ok-fragment.fragment c.at.ensures refl c.loop-k.invariant c.in_ok-fragment.ensures c.in_ok-push.ensures.items

pub place_arms-join_arms-requires : goal.place_arms-join_arms-requires
place_arms-join_arms-requires t c = λ P h.
    let names = c.args.vars.now in
    let ts = trees_of c.args.arms.now in
    let at : c.loop-k.k ≡ length ts = omega (arith, c.len-k-end.ensures) in
    let all : take c.loop-k.k ts ≡ ts = ap (λ k. take k ts) at ∙ take-length ts in
    let fragments = c.loop-k.invariant.fragments ∙ ap (λ us. map sides_of (in_turn (placers names us) c.args.draft.now.next)) all in
    arms_distinct names ts c.args.draft.now.next
    (λ f has. (sequential_arm ts f has c.requires.sequential, ordered_repeats f (c.requires.built f has), λ x v. c.requires.named x ((arms_have ts x).1 (part_has ts f x has v))))
    P (rw (← fragments) h)

pub place_arms-returns : goal.place_arms-returns
place_arms-returns t c =
    let names = c.args.vars.now in
    let ts = trees_of c.args.arms.now in
    let a = c.args.draft.now in
    let at : c.loop-k.k ≡ length ts = omega (arith, c.len-k-end.ensures) in
    let all : take c.loop-k.k ts ≡ ts = ap (λ k. take k ts) at ∙ take-length ts in
    let row = rw all at c.loop-k.invariant in
    let new : Draft = record { next = c.loop-k.draft.next; ways = c.loop-k.draft.ways } in
    let xs = c.loop-k.fragments.items in
    IfOk-weaker c.join_arms.result (λ (p : Sides). p ≡ any_sides xs) (λ (p : Sides). HasPlaced (places_of names (alt_all ts) a.next) a new p)
    (λ p is. arms_done names ts a.next a c.loop-k.draft new xs p row is refl refl) c.join_arms.ensures

pub place_parts-place-requires : goal.place_parts-place-requires
place_parts-place-requires t c =
    let names = c.args.vars.now in
    let ts = trees_of c.args.parts.now in
    let k = c.loop-k.k in
    let f = tree_of c.at.result.now in
    let has = Has-slice_get ts k f c.at.ensures in (
      omega (arith, part_nodes ts f has),
      (
        c.requires.built f has,
        (
          sequential_part ts f has c.requires.sequential,
          (
            c.requires.distinct,
            (
              λ x v. c.requires.named x (part_has ts f x has v),
              omega (
                arith,
                c.loop-k.invariant.next,
                turn_total (opening_of names) (closing_of names) (take k ts) c.args.draft.now.next,
                parts_room (opening_of names) (closing_of names) ts k f c.at.ensures,
                c.requires.room,
              ),
            ),
          ),
        ),
      ),
    )

pub place_parts-loop-k-preserved : goal.place_parts-loop-k-preserved
place_parts-loop-k-preserved t c =
    let ts = trees_of c.args.parts.now in
    parts_next c.args.vars.now ts c.loop-k.k c.args.draft.now.next (tree_of c.at.result.now) c.args.draft.now c.loop-k.draft c.place.new.draft
    c.loop-k.fragments.items c.push.new.self.items c.in_ok-fragment.fragment c.at.ensures refl c.loop-k.invariant c.in_ok-fragment.ensures c.in_ok-push.ensures.items

pub place_parts-join_row-requires : goal.place_parts-join_row-requires
place_parts-join_row-requires t c =
    let names = c.args.vars.now in
    let ts = trees_of c.args.parts.now in
    let n = c.args.draft.now.next in
    let at : c.loop-k.k ≡ length ts = omega (arith, c.len-k-end.ensures) in
    let all : take c.loop-k.k ts ≡ ts = ap (λ k. take k ts) at ∙ take-length ts in
    let fragments = c.loop-k.invariant.fragments ∙ ap (λ us. map sides_of (in_turn (placers names us) n)) all in
    let joins = parts_joins names ts c.requires.sequential (all_ordered ts c.requires.built) (all_classes ts c.requires.built) c.requires.named n in
    rw c.in_ok-rest.ensures
    (rw c.len-2.ensures (rw fragments joins))

pub place_parts-returns : goal.place_parts-returns
place_parts-returns t c =
    let names = c.args.vars.now in
    let ts = trees_of c.args.parts.now in
    let a = c.args.draft.now in
    let at : c.loop-k.k ≡ length ts = omega (arith, c.len-k-end.ensures) in
    let all : take c.loop-k.k ts ≡ ts = ap (λ k. take k ts) at ∙ take-length ts in
    let row = rw all at c.loop-k.invariant in
    let new : Draft = record { next = c.loop-k.draft.next; ways = c.join_row.new.ways } in
    let xs = c.loop-k.fragments.items in
    ok_both c.join_row.result (λ (p : Sides). p ≡ row_sides c.len-2.result xs c.in_ok-rest.rest) (λ (p : Sides). HasPlaced (places_of names (cat_all ts) a.next) a new p)
    (c.join_row.new.ways.items ≡ c.loop-k.draft.ways.items ++ row_ways c.len-2.result xs c.in_ok-rest.rest)
    (λ p ends ways. row_done (length ts) (in_turn (placers names ts) a.next) (places_of names (cat_all ts) a.next) a c.loop-k.draft new xs p
    (parts_row (opening_of names) (closing_of names) ts a.next) row
    (ends ∙ (ap (λ (r : ℕ). row_sides r xs c.in_ok-rest.rest) c.len-2.ensures ∙ ap (λ (Q : Sides). row_sides (length ts) xs Q) c.in_ok-rest.ensures)) refl
    (ways ∙ (ap (λ (r : ℕ). c.loop-k.draft.ways.items ++ row_ways r xs c.in_ok-rest.rest) c.len-2.ensures ∙
    ap (λ (Q : Sides). c.loop-k.draft.ways.items ++ row_ways (length ts) xs Q) c.in_ok-rest.ensures)))
    c.join_row.ensures.sides c.join_row.ensures.ways

pub place_repeat-returns-then-copies-eq0 : goal.place_repeat-returns-then-copies-eq0
place_repeat-returns-then-copies-eq0 t c =
    let F = places_of c.args.vars.now (tree_of c.args.sub.now) in
    let k = c.args.draft.now.next in
    let none = none_placed F k c.args.least c.args.most (sym c.copies_of-copies.ensures ∙ c.if-copies-eq0.true) (λ m e. (c.requires.built.0.1.1 m e).0) in
    let W = repeated c.args.least c.args.most F k in
    IfOk-weaker c.nothing.result (λ (p : Sides). p ≡ nothing_sides) (λ (p : Sides). HasPlaced W c.args.draft.now c.args.draft.now p)
    (λ p e. nothing_done W c.args.draft.now p none e) c.nothing.ensures

pub place_repeat-place-requires : goal.place_repeat-place-requires
place_repeat-place-requires t c =
    let f = tree_of c.args.sub.now in
    let w = c.requires.built in
    let names = c.args.vars.now in
    let a = (counts_over names f).places in
    let n = c.copies_of-copies.result in
    let all : (counts_over names (rep f c.args.least c.args.most)).places ≡ n * a =
    repeated_places c.args.least c.args.most (counts_over names f) (λ m e. (w.0.1.1 m e).0) ∙ ap (λ m. m * a) (sym c.copies_of-copies.ensures) in
    let some : 0 + 1 ≤ n = omega (arith, c.if-copies-eq0.false) in (
      omega arith,
      (
        (w.0.0, omega (arith, w.1)),
        (
          c.requires.sequential,
          (
            c.requires.distinct,
            (c.requires.named, omega (arith, c.requires.room, all, copies_room 0 n a some)),
          ),
        ),
      ),
    )

pub place_repeat-returns-then-draft-before : goal.place_repeat-returns-then-draft-before
place_repeat-returns-then-draft-before t c =
    let names = c.args.vars.now in
    let f = tree_of c.args.sub.now in
    let F = places_of names f in
    let k = c.args.draft.now.next in
    let built : IsWellBuilt f = (c.requires.built.0.0, omega (arith, c.requires.built.1)) in
    let set = null_set names f c.requires.sequential (ordered_repeats f built) c.requires.named k in
    let zeros : (m : ℕ) → Has (F k).null m → 0 ≡ m = λ m h. sym (no_bits m (λ i b. let v = set.within m h i b in c.requires.bare v.0 v.1)) in
    let E = c.in_ok-first.first in
    let W = repeated c.args.least c.args.most F k in
    IfOk-weaker c.opt_if.result (λ (p : Sides). p ≡ (if c.args.least == 0 then opt_sides E else E)) (λ (p : Sides). HasPlaced W c.args.draft.now c.place.new.draft p)
    (λ p e. flat_done F k c.args.least c.args.most c.args.draft.now c.place.new.draft E p
    (places_lie (opening_of names) (closing_of names) f k) set.distinct zeros c.in_ok-first.ensures c.if-draft-before.true e) c.opt_if.ensures

pub place_once-place-requires : goal.place_once-place-requires
place_once-place-requires t c =
    let f = tree_of c.args.sub.now in
    let w = c.requires.built in
    let a = counts_over c.args.vars.now f in
    let same : (counts_over c.args.vars.now (rep f c.args.least (Some 1))).places ≡ a.places = once_places c.args.least a (w.0.1.1 1 refl).0 in (
      omega arith,
      (
        (w.0.0, omega (arith, w.1)),
        (c.requires.sequential, (c.requires.distinct, (c.requires.named, omega (arith, c.requires.room, same)))),
      ),
    )

pub place_once-returns : goal.place_once-returns
place_once-returns t c =
    let names = c.args.vars.now in
    let f = tree_of c.args.sub.now in
    let F = places_of names f in
    let k = c.args.draft.now.next in
    let E = c.in_ok-fragment.fragment in
    let is = once_is c.args.least F k (c.requires.built.0.1.1 1 refl).0 in
    IfOk-weaker c.opt_if.result (λ (p : Sides). p ≡ (if c.args.least == 0 then opt_sides E else E)) (λ (p : Sides). HasPlaced (repeated c.args.least (Some 1) F k) c.args.draft.now c.place.new.draft p)
    (λ p e. rw is (once_done (c.args.least == 0) (F k) c.args.draft.now c.place.new.draft E p c.in_ok-fragment.ensures e))
    c.opt_if.ensures

pub place_repeat-index-requires : goal.place_repeat-index-requires
place_repeat-index-requires t c =
    let F = places_of c.args.vars.now (tree_of c.args.sub.now) in
    omega (arith, c.loop-copy.fragments.ok.0, some_copy F c.args.draft.now.next c.loop-copy._copy c.loop-copy.fragments.items c.loop-copy.auto._copy c.loop-copy.invariant.fragments)

pub place_repeat-place_again-requires-clause-room : goal.place_repeat-place_again-requires-clause-room
place_repeat-place_again-requires-clause-room t c =
    let names = c.args.vars.now in
    let f = tree_of c.args.sub.now in
    let F = places_of names f in
    let k = c.args.draft.now.next in
    let w = c.requires.built in
    let a = (counts_over names f).places in
    let n = c.copies_of-copies.result in
    let i = c.loop-copy._copy in
    let all : (counts_over names (rep f c.args.least c.args.most)).places ≡ n * a =
    repeated_places c.args.least c.args.most (counts_over names f) (λ m e. (w.0.1.1 m e).0) ∙ ap (λ m. m * a) (sym c.copies_of-copies.ensures) in
    let some : i + 1 ≤ n = omega arith in
    omega (
      arith,
      c.requires.room,
      all,
      c.added_since-added.ensures.places,
      c.in_ok-first.ensures.next,
      place_count (opening_of names) (closing_of names) f k,
      c.loop-copy.invariant.next,
      copies_total F a (place_count (opening_of names) (closing_of names) f) i k,
      copies_room i n a some,
    )

pub place_repeat-place_again-requires-clause-within : goal.place_repeat-place_again-requires-clause-within
place_repeat-place_again-requires-clause-within t c =
    let a = c.args.draft.now in
    let added = c.added_since-added in
    ways_within (places_of c.args.vars.now (tree_of c.args.sub.now)) a.next a.ways.items c.place.new.draft.ways.items c.loop-copy.draft.ways.items
    added.result.from added.result.end c.in_ok-first.ensures.ways (omega (arith, added.ensures.from, c.len-from.ensures, a.ways.ok.0)) added.ensures.end
    c.loop-copy._copy c.loop-copy.auto._copy c.loop-copy.invariant.ways

pub place_repeat-place_again-requires-clause-below : goal.place_repeat-place_again-requires-clause-below
place_repeat-place_again-requires-clause-below t c =
    let names = c.args.vars.now in
    let f = tree_of c.args.sub.now in
    let F = places_of names f in
    let a = c.args.draft.now in
    let i = c.loop-copy._copy in
    let l = c.loop-copy.auto._copy in
    let row = c.loop-copy.invariant in
    let added = c.added_since-added in
    let ways = take (added.result.end - added.result.from) (drop added.result.from c.loop-copy.draft.ways.items) in
    first_below F a.next (added.result.first + added.result.places) c.index.result.now ways
    (places_lie (opening_of names) (closing_of names) f a.next) (omega (arith, added.ensures.first, added.ensures.places, c.in_ok-first.ensures.next))
    (first_copy F a.next i c.loop-copy.fragments.items c.index.result.now l row.fragments c.index.ensures)
    (first_ways F a.next a.ways.items c.place.new.draft.ways.items c.loop-copy.draft.ways.items
    added.result.from added.result.end c.in_ok-first.ensures.ways (omega (arith, added.ensures.from, c.len-from.ensures, a.ways.ok.0)) added.ensures.end i l row.ways)

pub place_repeat-loop-copy-preserved : goal.place_repeat-loop-copy-preserved
place_repeat-loop-copy-preserved t c =
    let names = c.args.vars.now in
    let f = tree_of c.args.sub.now in
    let F = places_of names f in
    let a = c.args.draft.now in
    let i = c.loop-copy._copy in
    let l = c.loop-copy.auto._copy in
    let row = c.loop-copy.invariant in
    let b = c.loop-copy.draft in
    let added = c.added_since-added in
    let new = c.place_again.new.self in
    let fragment = c.in_ok-fragment.fragment in
    let again : HasPlaced (places_moved (b.next - added.result.first) (F a.next)) b new fragment =
    c.in_ok-fragment.ensures (F a.next)
    (first_copy F a.next i c.loop-copy.fragments.items c.index.result.now l row.fragments c.index.ensures)
    (omega (arith, added.ensures.places, c.in_ok-first.ensures.next))
    (first_ways F a.next a.ways.items c.place.new.draft.ways.items b.ways.items
    added.result.from added.result.end c.in_ok-first.ensures.ways (omega (arith, added.ensures.from, c.len-from.ensures, a.ways.ok.0)) added.ensures.end i l row.ways) in
    let is = ap (λ (k : ℕ). places_moved (b.next - k) (F a.next)) added.ensures.first
    ∙ once_more F (place_moves (opening_of names) (closing_of names) f) a.next b.next (omega (arith, row.next)) in
    copies_next F i a.next a b new c.loop-copy.fragments.items c.push-in-loop-copy.new.self.items fragment refl row
    (rw (← is) again) c.in_ok-push-2.ensures.items

pub place_repeat-join_row-requires : goal.place_repeat-join_row-requires
place_repeat-join_row-requires t c =
    let names = c.args.vars.now in
    let f = tree_of c.args.sub.now in
    let F = places_of names f in
    let bare : (j : ℕ) → IsUnmarked (sides_of (F j)) = λ j.
    fine_unmarked (VarBits names f) (λ i b. c.requires.bare b.0 b.1) (F j)
    (fine_places names f c.requires.sequential (ordered_repeats f (c.requires.built.0.0, omega (arith, c.requires.built.1))) (built_classes f c.requires.built.0.0) c.requires.named j) in
    row_joins c.from-required.result c.loop-copy.fragments.items c.in_ok-rest-in-Some.rest
    (subst AllUnmarked (sym c.loop-copy.invariant.fragments) (copies_unmarked F bare c.loop-copy._copy c.args.draft.now.next))
    (subst IsUnmarked (sym c.in_ok-rest-in-Some.ensures) nothing_unmarked)

pub place_repeat-join_again-requires : goal.place_repeat-join_again-requires
place_repeat-join_again-requires t c =
    let names = c.args.vars.now in
    let f = tree_of c.args.sub.now in
    let F = places_of names f in
    let bare : (j : ℕ) → IsUnmarked (sides_of (F j)) = λ j.
    fine_unmarked (VarBits names f) (λ i b. c.requires.bare b.0 b.1) (F j)
    (fine_places names f c.requires.sequential (ordered_repeats f (c.requires.built.0.0, omega (arith, c.requires.built.1))) (built_classes f c.requires.built.0.0) c.requires.named j) in
    subst AllUnmarked (sym c.loop-copy.invariant.fragments) (copies_unmarked F bare c.loop-copy._copy c.args.draft.now.next)

pub place_repeat-returns-in_ok-rest-in-Some : goal.place_repeat-returns-in_ok-rest-in-Some
place_repeat-returns-in_ok-rest-in-Some t c =
    let F = places_of c.args.vars.now (tree_of c.args.sub.now) in
    let a = c.args.draft.now in
    let least = c.args.least in
    let most = c.args.most in
    let m = c.in-Some.field-0 in
    let le : least ≤ m = (c.requires.built.0.1.1 m c.in-Some.is).0 in
    let n = c.copies_of-copies.result in
    let many : n ≡ m = c.copies_of-copies.ensures ∙ ap (copies_of least) c.in-Some.is in
    let some : 1 ≤ n = omega (arith, c.if-copies-eq0.false) in
    let at : c.loop-copy._copy ≡ m = omega (arith, many, c.loop-copy-test.false, c.loop-copy.auto._copy-end some) in
    let xs = c.loop-copy.fragments.items in
    let row = rw at at c.loop-copy.invariant in
    let new : Draft = record { next = c.loop-copy.draft.next; ways = c.join_row.new.ways } in
    let W = repeated least most F a.next in
    let is = ap (λ (o : Option ℕ). repeated least o F a.next) c.in-Some.is ∙ bounded_places F least m a.next le in
    let r = c.from-required.result in
    let Q = c.in_ok-rest-in-Some.rest in
    ok_both c.join_row.result (λ (p : Sides). p ≡ row_sides r xs Q) (λ (p : Sides). HasPlaced W a new p)
    (c.join_row.new.ways.items ≡ c.loop-copy.draft.ways.items ++ row_ways r xs Q)
    (λ p ends ways. row_done least (copies F m a.next) W a c.loop-copy.draft new xs p is row
    (ends ∙ (ap (λ (r : ℕ). row_sides r xs Q) c.from-required.ensures ∙ ap (λ (Q : Sides). row_sides least xs Q) c.in_ok-rest-in-Some.ensures)) refl
    (ways ∙ (ap (λ (r : ℕ). c.loop-copy.draft.ways.items ++ row_ways r xs Q) c.from-required.ensures ∙
    ap (λ (Q : Sides). c.loop-copy.draft.ways.items ++ row_ways least xs Q) c.in_ok-rest-in-Some.ensures)))
    c.join_row.ensures.sides c.join_row.ensures.ways

pub place_repeat-returns-in-None : goal.place_repeat-returns-in-None
place_repeat-returns-in-None t c =
    let F = places_of c.args.vars.now (tree_of c.args.sub.now) in
    let a = c.args.draft.now in
    let b = c.loop-copy.draft in
    let least = c.args.least in
    let n = c.copies_of-copies.result in
    let many : n ≡ max least 1 = c.copies_of-copies.ensures ∙ ap (copies_of least) c.in-None.is in
    let at : c.loop-copy._copy ≡ max least 1 = omega (arith, many, c.loop-copy-test.false, c.loop-copy.auto._copy-end (omega (arith, many))) in
    let xs = c.loop-copy.fragments.items in
    let new : Draft = record { next = b.next; ways = c.join_again.new.ways } in
    let r = c.from-required.result in
    let is = ap (λ (o : Option ℕ). repeated least o F a.next) c.in-None.is in
    let Ends' : ℕ → Sides → Type 0 = λ r p. (front : List Sides) (last : Sides) → xs ≡ front ++ last ∷ [] → p ≡ row_sides r front (again_sides r last) in
    let Ways' : ℕ → Type 0 = λ r. (front : List Sides) (last : Sides) → xs ≡ front ++ last ∷ [] →
    c.join_again.new.ways.items ≡ (b.ways.items ++ ways_between last.last last.first) ++ row_ways r front (again_sides r last) in
    ok_both c.join_again.result (Ends' r) (λ (p : Sides). HasPlaced (repeated least c.args.most F a.next) a new p) (Ways' r)
    (λ p ends ways. subst (λ (W : Places). HasPlaced W a new p) (sym is)
    (again_done F least a.next c.loop-copy._copy a b new xs p at c.loop-copy.invariant refl
    (subst (λ (r : ℕ). Ends' r p) c.from-required.ensures ends) (subst Ways' c.from-required.ensures ways)))
    c.join_again.ensures.sides c.join_again.ensures.ways
