use Rattle.std.proofs.Common.{◌≡◌, ◌<◌, length, Some, inl, inr, refl, sym, ap, ◌∙◌, arith}
use Rattle.std.specs.Prelude.{slice_get}
use Rattle.algebra_minus.proofs.KnownLaws.{all_known, get_at, known_put}
use Rattle.algebra_minus.proofs.pieces.is_new.Goals as goal

pub returns-then-is_empty-clause-none : goal.returns-then-is_empty-clause-none
returns-then-is_empty-clause-none c =
    let known = c.args.known.now.items in
    let to = c.args.way.now.to in
    let bytes = c.index.result.now in
    let within : to < length known = omega (arith, c.if-len-to.false, c.len.ensures, c.args.known.now.ok.0) in
    let at : slice_get known to ≡ Some bytes = get_at known to bytes within ∙ ap Some (sym c.index.ensures) in
    all_known known to bytes c.args.way.now.bytes at (sym c.without.ensures ∙ c.is_empty.ensures.0 c.if-is_empty.true)

pub returns-clause-some : goal.returns-clause-some
returns-clause-some c =
    let known = c.args.known.now.items in
    let to = c.args.way.now.to in
    let bytes = c.index.result.now in
    let within : to < length known = omega (arith, c.if-len-to.false, c.len.ensures, c.args.known.now.ok.0) in
    let at : slice_get known to ≡ Some bytes = get_at known to bytes within ∙ ap Some (sym c.index.ensures) in
    λ t b h. elim (known_put known to bytes c.union.result c.args.way.now.bytes t b at c.union.ensures h) [
      | inl i ↦ inl i
      | inr j ↦ inr (refl, j)
    ]
