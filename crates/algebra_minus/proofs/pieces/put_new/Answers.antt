use Rattle.std.proofs.Common.{◌∷◌, [], ◌++◌, inl, inr, refl, sym, ◌∙◌}
use Rattle.std.proofs.lemmas.Bool.{OnFalse_at, false≢true}
use Rattle.span_core.proofs.HasLaws.{Has-append_left, Has-append_right}
use Rattle.algebra_minus.specs.Pieces.{SomeWayLeads}
use Rattle.algebra_minus.proofs.KnownLaws.{alike_known, alike_same}
use Rattle.algebra_minus.proofs.pieces.put_new.Goals as goal

pub returns-then-not-is_new-clause-known : goal.returns-then-not-is_new-clause-known
returns-then-not-is_new-clause-known c = λ t b k. elim (c.is_new.ensures.some t b k) as (λ _. SomeWayLeads c.args.taken.now.items b t) [
  | inl i ↦ c.requires t b i
  | inr j ↦ absurd (false≢true (sym c.if-not-is_new.true ∙ j.0))
]

pub returns-then-not-is_new-clause-ways : goal.returns-then-not-is_new-clause-ways
returns-then-not-is_new-clause-ways c =
    alike_known c.args.known.now.items c.args.taken.now.items c.args.way.now c.requires (λ b h. OnFalse_at c.if-not-is_new.true c.is_new.ensures.none b h)

pub returns-clause-known : goal.returns-clause-known
returns-clause-known c = λ t b k.
    let xs = c.args.taken.now.items in
    let z = c.args.way.now in
    let all = elim (c.is_new.ensures.some t b k) as (λ _. SomeWayLeads (xs ++ z ∷ []) b t) [
      | inl i ↦ let w = c.requires t b i in (w.0, Has-append_left xs (z ∷ []) w.0 w.1, w.2, w.3)
      | inr j ↦ (z, Has-append_right xs (z ∷ []) z (inl refl), j.1.0, j.1.1)
    ] in
    rw c.in_ok-push.ensures.items all

pub returns-clause-ways : goal.returns-clause-ways
returns-clause-ways c =
    let all = c.args.taken.now.items ++ c.args.way.now ∷ [] in
    rw c.in_ok-push.ensures.items (alike_same all)
