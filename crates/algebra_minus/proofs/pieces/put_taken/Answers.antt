use Rattle.std.proofs.Common.{◌≡◌, ◌+◌, ◌∷◌, [], ◌++◌, length, take, sym, ap, ◌∙◌, arith, append_assoc}
use Rattle.std.proofs.Math.Seq.{take-length}
use Rattle.std.proofs.lemmas.List.{take_more}
use Rattle.algebra_minus.proofs.KnownLaws.{alike_more, alike_then}
use Rattle.algebra_minus.proofs.pieces.put_taken.Goals as goal

pub loop-way-preserved : goal.loop-way-preserved
loop-way-preserved c =
    let ways = c.args.ways.now in
    let old = c.args.taken.now.items in
    let xs = c.loop-way.taken.items in
    let i = c.loop-way.way-index in
    let z = c.way-item.result in
    let front : take (i + 1) ways ≡ take i ways ++ z ∷ [] = take_more ways i z c.loop-way-test.true ∙ ap (λ y. take i ways ++ y ∷ []) (sym c.way-item.is) in
    let all : (old ++ take i ways) ++ z ∷ [] ≡ old ++ take (i + 1) ways = append_assoc old (take i ways) (z ∷ []) ∙ ap (λ ws. old ++ ws) (sym front) in
    record {
      known = c.in_ok-put_new.ensures.known;
      ways = alike_then c.put_new.new.taken.items (xs ++ z ∷ []) (old ++ take (i + 1) ways) c.in_ok-put_new.ensures.ways
          (rw (← all) (alike_more xs (old ++ take i ways) z c.loop-way.invariant.ways));
    }

pub returns-clause-ways : goal.returns-clause-ways
returns-clause-ways c =
    let ways = c.args.ways.now in
    let at : c.loop-way.way-index ≡ length ways = omega (arith, c.loop-way-test.false, c.loop-way.auto.way-index-end) in
    rw (← (ap (λ k. take k ways) at ∙ take-length ways)) c.loop-way.invariant.ways
