use Rattle.std.proofs.Common.{◌≡◌, ◌+◌, ◌<◌, inl, List, [], ◌++◌, length, take, get_or, sym, ap, arith, rules, ◌∙◌, length-append}
use Rattle.std.specs.Prelude.{slice_get, Some}
use Rattle.std.specs.List.{flat_map}
use Rattle.std.proofs.lemmas.List.{append-nil}
use Rattle.std.proofs.lemmas.Option.{slice_get-get_or}
use Rattle.span_core.specs.Lists.{Has}
use Rattle.marked_automaton.specs.declared.fault.SizeFault.TheVariants.{OutOfMemory}
use Rattle.algebra.specs.declared.fault.JoinFault.TheVariants.{Size}
use Rattle.algebra.specs.declared.halves.HalfWay.{HalfWay}
use Rattle.algebra.specs.declared.pairs.Pair.{Pair}
use Rattle.algebra.specs.Pairs.{PairWay, IsFollowed, IsRefusalOf, half_from, pair_of, pairs, tried_at, way_pair, ways_at, ways_meet}
use Rattle.algebra.specs.Sides.{IsFollowRefusal, IsTold, half_ways_of}
use Rattle.algebra.proofs.StepLaws.{tried_few, tried_more}
use Rattle.algebra.proofs.EndLaws.{first_no_more}
use Rattle.algebra.proofs.Followed.{followed_none, followed_then, refusal_then, handed_on, keys_apart}
use Rattle.algebra.proofs.Searched.{rows_more, apart_take, refusal_of_all, read_pair}
use Rattle.algebra.proofs.pairs.Search.follow_all.Goals as goal

pub loop-done-init : goal.loop-done-init
loop-done-init c = record { followed = followed_none c.args.self.now.found.keys c.args.self.now.ways.items; within = omega arith; effort = omega arith; steps = omega arith }

pub follow_pair-requires-clause-from : goal.follow_pair-requires-clause-from
follow_pair-requires-clause-from c = λ x y hx hy.
    let slice = c.as_slice.result.now in
    let done = c.loop-done.done in
    let rows = c.in_ok-put.ensures.rows in
    let within : done < length slice = omega (arith, c.loop-done-test.true, c.len.ensures.len, ap length c.as_slice.ensures.keys) in
    let left = (rows.left x (rw (← c.as_slice-in-loop-done.ensures.value) hx)).1 in
    let right = (rows.right y (rw (← c.as_slice-in-loop-done-2.ensures.value) hy)).1 in
    ap (λ zs. slice_get zs done) (sym c.as_slice.ensures.keys) ∙ (slice_get-get_or slice done (pair_of 0 0) within ∙ ap Some (λ i. record { left = sym left i; right = sym right i }))

pub follow_pair-requires-clause-marks : goal.follow_pair-requires-clause-marks
follow_pair-requires-clause-marks c = λ x y hx hy.
    let rows = c.in_ok-put.ensures.rows in
    c.requires.marks x y (rows.left x (rw (← c.as_slice-in-loop-done.ensures.value) hx)).0
    (rows.right y (rw (← c.as_slice-in-loop-done-2.ensures.value) hy)).0

pub returns-in_err-follow_pair-clause-fault : goal.returns-in_err-follow_pair-clause-fault
returns-in_err-follow_pair-clause-fault c =
    let xs = half_ways_of c.args.left.now in
    let ys = half_ways_of c.args.right.now in
    let keys = c.loop-done.self.found.keys in
    let done = c.loop-done.done in
    let k : Pair = get_or c.as_slice.result.now done (pair_of 0 0) in
    let k0 = c.args.self.now.found.keys in
    let w0 = c.args.self.now.ways.items in
    let within : done < length keys = omega (arith, c.loop-done-test.true, c.len.ensures.len) in
    let is : k ≡ get_or keys done k = read_pair c.as_slice.result.now keys done (pair_of 0 0) k c.as_slice.ensures.keys within in
    let rows : pairs ways_meet way_pair c.as_slice-in-loop-done-2.result.now c.as_slice-in-loop-done.result.now ≡ ways_at xs ys k =
    (λ i. pairs ways_meet way_pair (c.as_slice-in-loop-done-2.ensures.value i) (c.as_slice-in-loop-done.ensures.value i)) ∙ c.in_ok-put.ensures.rows.made in
    let before = flat_map (ways_at xs ys) (take done keys) in
    let more : flat_map (ways_at xs ys) (take (done + 1) keys) ≡ before ++ ways_at xs ys k =
    ap (λ zs. flat_map (ways_at xs ys) (take (done + 1) zs)) (sym (append-nil keys)) ∙ rows_more (ways_at xs ys) keys [] done k within is in
    let apart = apart_take (done + 1) keys (keys_apart _ (λ k. search rules) keys c.len.ensures.unique) in
    let e = c.in_err-follow_pair.field-0.0 in
    handed_on (IsTold (IsFollowRefusal c.args.left.now c.args.right.now k0 w0)) c.from_residual-in_err-follow_pair.result (Size e)
    c.from_residual-in_err-follow_pair.ensures.1
    (inl (refusal_of_all xs ys (take (done + 1) keys) k0 w0 e apart
    (rw (← (ap (λ zs. before ++ zs) (append-nil (ways_at xs ys k)) ∙ sym more))
    (refusal_then before (ways_at xs ys k) [] k0 keys w0 c.loop-done.self.ways.items e c.loop-done.invariant.followed
    (rw (← rows) c.in_err-follow_pair.ensures.fault)))))

pub loop-done-preserved : goal.loop-done-preserved
loop-done-preserved c =
    let xs = half_ways_of c.args.left.now in
    let ys = half_ways_of c.args.right.now in
    let keys = c.loop-done.self.found.keys in
    let new = c.follow_pair.new.self in
    let done = c.loop-done.done in
    let k : Pair = get_or c.as_slice.result.now done (pair_of 0 0) in
    let k0 = c.args.self.now.found.keys in
    let w0 = c.args.self.now.ways.items in
    let within : done < length keys = omega (arith, c.loop-done-test.true, c.len.ensures.len) in
    let is : k ≡ get_or keys done k = read_pair c.as_slice.result.now keys done (pair_of 0 0) k c.as_slice.ensures.keys within in
    let f = c.in_ok-follow_pair.ensures.followed in
    let rows : pairs ways_meet way_pair c.as_slice-in-loop-done-2.result.now c.as_slice-in-loop-done.result.now ≡ ways_at xs ys k =
    (λ i. pairs ways_meet way_pair (c.as_slice-in-loop-done-2.ensures.value i) (c.as_slice-in-loop-done.ensures.value i)) ∙ c.in_ok-put.ensures.rows.made in
    let before = flat_map (ways_at xs ys) (take done keys) in
    let more : flat_map (ways_at xs ys) (take (done + 1) new.found.keys) ≡ before ++ ways_at xs ys k =
    ap (λ zs. flat_map (ways_at xs ys) (take (done + 1) zs)) f.keys ∙ rows_more (ways_at xs ys) keys f.found done k within is in
    let len : length new.found.keys ≡ length keys + length f.found = ap length f.keys ∙ length-append keys f.found in
    record {
      followed = rw more
          (followed_then before (ways_at xs ys k) k0 keys new.found.keys w0 c.loop-done.self.ways.items new.ways.items c.loop-done.invariant.followed
          (rw (← rows) f));
      within = omega (arith, within, len);
      effort = omega (arith, c.spend.ensures, c.loop-done.invariant.effort);
      steps = omega (
        arith,
        c.spend.ensures,
        c.steps.ensures,
        c.in_ok-put.ensures.steps,
        c.loop-done.invariant.steps,
        tried_more half_from half_from xs ys keys f.found done k within is,
        ap (λ zs. length (flat_map (tried_at half_from half_from xs ys) (take (done + 1) zs))) f.keys,
      );
    }

pub returns-clause-apart : goal.returns-clause-apart
returns-clause-apart c = keys_apart _ (λ k. search rules) c.loop-done.self.found.keys c.len.ensures.unique

pub returns-then-is_spent-clause-spent : goal.returns-then-is_spent-clause-spent
returns-then-is_spent-clause-spent c =
    let xs = half_ways_of c.args.left.now in
    let ys = half_ways_of c.args.right.now in
    let keys = c.loop-done.self.found.keys in
    let done = c.loop-done.done in
    let k : Pair = get_or c.as_slice.result.now done (pair_of 0 0) in
    let within : done < length keys = omega (arith, c.loop-done-test.true, c.len.ensures.len) in
    let is : k ≡ get_or keys done k = read_pair c.as_slice.result.now keys done (pair_of 0 0) k c.as_slice.ensures.keys within in
    let apart = apart_take (done + 1) keys (keys_apart _ (λ k. search rules) keys c.len.ensures.unique) in
    omega (
      arith,
      c.is_spent.ensures.0 c.if-is_spent.true,
      c.spend.ensures,
      c.steps.ensures,
      c.in_ok-put.ensures.steps,
      c.loop-done.invariant.steps,
      tried_more half_from half_from xs ys keys [] done k within is,
      ap (λ zs. length (flat_map (tried_at half_from half_from xs ys) (take (done + 1) zs))) (append-nil keys),
      tried_few half_from half_from (take (done + 1) keys) xs ys apart,
    )

pub returns-clause-steps : goal.returns-clause-steps
returns-clause-steps c =
    let xs = half_ways_of c.args.left.now in
    let ys = half_ways_of c.args.right.now in
    let keys = c.loop-done.self.found.keys in
    let apart = keys_apart _ (λ k. search rules) keys c.len.ensures.unique in
    omega (
      arith,
      c.loop-done.invariant.steps,
      first_no_more (tried_at half_from half_from xs ys) c.loop-done.done keys,
      tried_few half_from half_from keys xs ys apart,
    )

-- want of memory has no cause
pub returns-in_err-put-clause-fault : goal.returns-in_err-put-clause-fault
returns-in_err-put-clause-fault c =
    handed_on (IsTold (IsFollowRefusal c.args.left.now c.args.right.now c.args.self.now.found.keys c.args.self.now.ways.items)) c.from_residual.result (Size OutOfMemory) c.from_residual.ensures.1
    (inl (λ n1 n2 w within lead few. tt))
