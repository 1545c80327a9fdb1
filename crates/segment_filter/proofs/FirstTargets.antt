-- The first edge of a set on a byte, as a table answers it.
use Rattle.std.proofs.Common.{◌≡◌, ℕ, ◌<◌, Bool, true, false, List, [], ◌∷◌, length, map, inl, refl, sym, ap, subst, arith, ◌∙◌, if◌then◌else◌, Option}
use Rattle.set_table.proofs.OnceLaws.{holds_once}
use Rattle.span_core.specs.declared.edge.Edge.{Edge}
use Rattle.span_core.specs.Lists.{Has}
use Rattle.automaton_reading.specs.Reading.{Reach, LookUp, byte_read, edges}
use Rattle.set_table.specs.Tabled.{HasEdges, IsTabled, Tabled, asked_first, edge_named, look_up, once_asked, was_asked, weight}
use Rattle.numbered_lists.specs.Numbered.{set_at}
use Rattle.segment_filter.specs.Next.{IsNext, IsTarget, first_target}

target_is : (t : Tabled) (es : List Edge) (rs : List Reach) → map (edge_named t.sets) es ≡ rs → ((e : Edge) → Has es e → e.to < length t.sets) → IsTarget t.sets rs (first_target es)
target_is t [] [] named given = refl
target_is t [] (r ∷ rs) named given = absurd (cc)
target_is t (e ∷ es) [] named given = absurd (cc)
target_is t (e ∷ es) (r ∷ rs) named given =
    (e.to, refl, given e (inl refl), ap (λ (x : Reach). x.to) (first (edge_named t.sets e) r (map (edge_named t.sets) es) rs named))
  where
    first : (x y : Reach) (xs ys : List Reach) → x ∷ xs ≡ y ∷ ys → x ≡ y
    first x y xs ys e = cc

-- what was asked before is not refused
pub not_asked : (t : Tabled) (r : LookUp) (w : ℕ) → IsTabled t → w ≡ weight (once_asked t r) → (once_asked t r).limit < w →
    (was_asked t r ≡ false) × (t.limit < w) × (w ≡ weight (asked_first t r))
not_asked t r w tabled is more = by (was_asked t r) refl is more
  where
    by : (b : Bool) → was_asked t r ≡ b → w ≡ weight (if b then t else asked_first t r) → (if b then t else asked_first t r).limit < w →
        (was_asked t r ≡ false) × (t.limit < w) × (w ≡ weight (asked_first t r))
    by true at is more = let l = tabled.within in absurd (omega (arith, l, is, more))
    by false at is more = (at, more, is)

-- the first edge leads where the set goes
pub next_is : (t0 t : Tabled) (set b : ℕ) (to : Option ℕ) (es : List Edge) → to ≡ first_target es →
    (t ≡ once_asked t0 (look_up t0 set (byte_read b))) × HasEdges t (look_up t0 set (byte_read b)) es → (t ≡ once_asked t0 (look_up t0 set (byte_read b))) × IsNext t0 set b t.sets to
next_is t0 t set b to es first h =
    let same = ap (λ A. edges A (set_at t0.sets set) (byte_read b)) (holds_once t0 t (look_up t0 set (byte_read b)) h.0).graph in
    (h.0, subst (IsNext t0 set b t.sets) (sym first) (target_is t es (edges t0.graph (set_at t0.sets set) (byte_read b)) (h.1.named ∙ same) h.1.targets))
