use Rattle.std.proofs.Common.{◌≡◌, ◌+◌, true, false, ◌&&◌, List, [], ◌∷◌, ◌++◌, nat_eq, refl, inl, sym, ap, arith, ◌∙◌}
use Rattle.std.proofs.lemmas.Bool.{eq-eqb, ne_eqb, true≢false, and_right}
use Rattle.std.specs.Prelude.{slice_get, Some}
use Rattle.std.proofs.lemmas.Option.{slice_get_within}
use Rattle.span_core.specs.Lists.{Has}
use Rattle.span_core.proofs.ListLaws.{get_left}
use Rattle.marked_automaton.specs.declared.way.Way.{Way}
use Rattle.marked_automaton.specs.declared.fault.SizeFault.{SizeFault}
use Rattle.algebra.specs.Operations.{has_some, meet}
use Rattle.algebra.specs.Pairs.{PairWay, IsFollowed, IsRefusalOf, way_pair, ways_meet, ways_with}
use Rattle.marked_automaton.proofs.Passing.{both_true}
use Rattle.algebra.proofs.Followed.{followed_none, row_none, row_one, no_bytes, some_bytes, handed_on}
use Rattle.algebra.proofs.pairs.Search.follow_both.Goals as goal

pub returns-then-number-clause-followed : goal.returns-then-number-clause-followed
returns-then-number-clause-followed c =
    let x = c.args.x.now in
    let y = c.args.y.now in
    let differ : nat_eq x.shared y.shared ≡ false = ne_eqb x.shared y.shared (λ e. c.if-number.true (c.number.ensures ∙ (e ∙ sym c.number-2.ensures))) in
    let none : ways_with x (y ∷ []) ≡ [] = row_none ways_meet way_pair x y (ap (λ b. b && has_some (meet x.way.bytes y.way.bytes)) differ) in
    rw none
    (followed_none c.args.self.now.found.keys c.args.self.now.ways.items)

pub returns-then-is_empty-clause-followed : goal.returns-then-is_empty-clause-followed
returns-then-is_empty-clause-followed c =
    let x = c.args.x.now in
    let y = c.args.y.now in
    let empty : has_some (meet x.way.bytes y.way.bytes) ≡ false = no_bytes (meet x.way.bytes y.way.bytes) (sym c.meet-bytes.ensures ∙ c.is_empty.ensures.0 c.if-is_empty.true) in
    let none : ways_with x (y ∷ []) ≡ [] = row_none ways_meet way_pair x y (and_right (nat_eq x.shared y.shared) (has_some (meet x.way.bytes y.way.bytes)) empty) in
    rw none
    (followed_none c.args.self.now.found.keys c.args.self.now.ways.items)

pub returns-in_err-to-clause-fault : goal.returns-in_err-to-clause-fault
returns-in_err-to-clause-fault c =
    let x = c.args.x.now in
    let y = c.args.y.now in
    let same : nat_eq x.shared y.shared ≡ true = eq-eqb x.shared y.shared (sym c.number.ensures ∙ (c.if-number.false ∙ c.number-2.ensures)) in
    let some : has_some (meet x.way.bytes y.way.bytes) ≡ true =
    some_bytes (meet x.way.bytes y.way.bytes) (λ e. true≢false (sym (c.is_empty.ensures.1 (c.meet-bytes.ensures ∙ e)) ∙ c.if-is_empty.false)) in
    let one : ways_with x (y ∷ []) ≡ way_pair x y ∷ [] = row_one ways_meet way_pair x y (both_true (nat_eq x.shared y.shared) (has_some (meet x.way.bytes y.way.bytes)) same some) in
    handed_on (λ (e : SizeFault). IsRefusalOf (ways_with x (y ∷ [])) c.args.self.now.found.keys c.args.self.now.ways.items e) c.from_residual.result c.in_err-to.field-0.0 c.from_residual.ensures.1
    (λ n1 n2 w h l le.
    let to = l (way_pair x y) (rw one (inl refl)) in
    c.in_err-to.ensures.fault n1 n2 w h to.0 to.1)

pub returns-clause-followed : goal.returns-clause-followed
returns-clause-followed c =
    let x = c.args.x.now in
    let y = c.args.y.now in
    let same : nat_eq x.shared y.shared ≡ true = eq-eqb x.shared y.shared (sym c.number.ensures ∙ (c.if-number.false ∙ c.number-2.ensures)) in
    let some : has_some (meet x.way.bytes y.way.bytes) ≡ true =
    some_bytes (meet x.way.bytes y.way.bytes) (λ e. true≢false (sym (c.is_empty.ensures.1 (c.meet-bytes.ensures ∙ e)) ∙ c.if-is_empty.false)) in
    let one : ways_with x (y ∷ []) ≡ way_pair x y ∷ [] = row_one ways_meet way_pair x y (both_true (nat_eq x.shared y.shared) (has_some (meet x.way.bytes y.way.bytes)) same some) in
    let old = c.args.self.now in
    let keys = c.number_of.new.self.found.keys in
    let g = c.in_ok-to.ensures.grows in
    let made : Way = record { from = c.args.from; marks = c.of.result; bytes = c.meet-bytes.result; to = c.in_ok-to.to } in
    let marks : c.of.result ≡ x.way.marks + y.way.marks = omega (arith, c.of.ensures, c.number-3.ensures, c.number-4.ensures) in
    rw one
    (record {
      found = g.0;
      keys = g.1;
      few = λ h. c.in_ok-to.ensures.few;
      within = λ n1 n2 h l. let to = l (way_pair x y) (inl refl) in c.in_ok-to.ensures.within n1 n2 h to.0 to.1;
      new = made ∷ [];
      ways = c.in_ok-push.ensures.items ∙ ap (λ ws. ws ++ made ∷ []) c.number_of.ensures.ways;
      between = (
        record {
          from = rw g.1 (get_left old.found.keys g.0 c.args.from (way_pair x y).from c.requires.from);
          marks = marks;
          bytes = c.meet-bytes.ensures;
          to = c.in_ok-to.ensures.number;
        },
        tt,
      );
      led = λ p l m.
          let before = slice_get_within old.found.keys c.args.from (way_pair x y).from c.requires.from in
          (made, inl refl, c.in_ok-to.ensures.last p l m, omega (arith, before, l));
    })
