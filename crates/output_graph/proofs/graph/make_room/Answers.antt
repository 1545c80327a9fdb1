use Rattle.std.proofs.Common.{◌≡◌, ◌≤◌, ◌<◌, ◌∷◌, ◌++◌, [], ℕ, arith, ap, ◌∙◌, subst, inl, inr, add-one}
use Rattle.span_core.specs.Lists.{Has}
use Rattle.output_graph.specs.Source.{Edges}
use Rattle.span_core.proofs.HasLaws.{Has-append_cases}
use Rattle.output_graph.proofs.MakeLaws.{edges_more}
use Rattle.output_graph.proofs.graph.make_room.Goals as goal

covered_more : (es all : Edges) (m t known known_after : ℕ) → all ≡ es ++ (m, t) ∷ [] → ((e : ℕ × ℕ) → Has es e → e.1 < known) → known ≤ known_after → t < known_after →
    (e : ℕ × ℕ) → Has all e → e.1 < known_after
covered_more es all m t known known_after is old le lt e h = elim (Has-append_cases es ((m, t) ∷ []) e (subst (λ (xs : Edges). Has xs e) is h)) as (λ _. e.1 < known_after) [
  | inl a ↦ let p = old e a in omega arith
  | inr (inl same) ↦ let to : t ≡ e.1 = ap (λ (x : ℕ × ℕ). x.1) same in omega arith
  | inr (inr none) ↦ absurd none
]

pub loop-edge-preserved : goal.loop-edge-preserved
loop-edge-preserved c =
    let more = edges_more c.args.edges.now c.loop-edge.edge-index (omega arith) c.edge-item.is in
    let i = c.loop-edge.invariant in
    let r = c.cover.ensures.room in
    let room = i.room in
    record {
      pairs = c.cover.ensures.pairs ∙ i.pairs;
      room = omega arith;
      covered = rw add-one (covered_more _ _ c.edge-item.result.marks c.edge-item.result.to c.loop-edge.next.known _ more i.covered c.cover.ensures.known c.in_ok-cover.ensures.covered);
    }
