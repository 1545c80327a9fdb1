use Rattle.std.proofs.Common.{◌≡◌, ℕ, ◌∷◌, [], ◌++◌, Vec, Global, Option, ap, ◌∙◌}
use Rattle.std.specs.Option.{unwrap_or}
use Rattle.std.specs.BTreeMap.{get}
use Rattle.span_core.specs.Comparison.{row_cmp}
use Rattle.plain_spanner.proofs.JoinLaws.{place_added}
use Rattle.plain_spanner.proofs.join.add_place.Goals as goal

pub returns : goal.returns
returns c = λ q p.
    let key = c.args.key in
    let old = c.args.places.now in
    let mid = c.remove.new.self in
    let new = c.insert.new.self in
    let known_is : c.unwrap_or-known.result ≡ unwrap_or (get row_cmp old key) c.new.result =
    c.unwrap_or-known.ensures ∙ ap (λ (o : Option (Vec ℕ Global)). unwrap_or o c.new.result) c.remove.ensures.value in
    let grown = c.in_ok-push.ensures.items ∙ ap (λ (v : Vec ℕ Global). v.items ++ c.args.place ∷ []) known_is in
    place_added (λ (v : Vec ℕ Global). v.items) key q c.args.place p (get row_cmp old key) (get row_cmp old q) (get row_cmp mid q) (get row_cmp new q)
    c.push.new.self c.new.result (λ e. ap (get row_cmp old) e)
    (c.remove.ensures.updates.0 q) (c.in_ok-insert.ensures.updates.0 q) c.new.ensures.items grown
