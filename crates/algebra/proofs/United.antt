-- What the parts of a union make.
use Rattle.std.proofs.Common.{ℕ, ◌+◌, List, ◌++◌, inl, inr, ap, subst, ◌∙◌}
use Rattle.std.specs.Prelude.{map}
use Rattle.span_core.specs.Lists.{Has}
use Rattle.span_core.proofs.HasLaws.{Has-append_left, Has-append_right, Has-append_cases, Has-map, Has-map_cases}
use Rattle.marked_automaton.specs.Automaton.{Automaton, Marked, IsMarked, with_states, idle_way}
use Rattle.algebra.specs.Moved.{IsWithPart, IsWithWays}
use Rattle.algebra.specs.Operations.{moved_way, moved_stop, union_of}
use Rattle.algebra.proofs.Alike.{IsAlike}

module _ (A B : Marked) (b : IsMarked B) where
  abbrev U : Automaton
  U = union_of A.graph B.graph

  pub second_idle : (q : ℕ) → Has B.graph.idle q → Has U.ways (idle_way (A.graph.states + q))
  second_idle q h =
      Has-append_right A.graph.ways (map (moved_way A.graph.states) B.graph.ways) (idle_way (A.graph.states + q))
      (Has-map (moved_way A.graph.states) B.graph.ways (idle_way q) (b.idle_ways q h))

  -- the second behind the states of the first
  pub united : (G1 G2 : Automaton) → IsWithWays A.graph.states B.graph (with_states B.graph.states A.graph) G1 → IsWithPart A.graph.states B.graph G1 G2 → IsAlike G2 U
  united G1 G2 p q = record {
    states = q.states ∙ p.states;
    starts = q.starts ∙ ap (λ xs. xs ++ map (◌+◌ A.graph.states) B.graph.starts) p.starts;
    ways = q.ways ∙ p.ways;
    stops = q.stops ∙ ap (λ xs. xs ++ map (moved_stop A.graph.states) B.graph.stops) p.stops;
    idles = λ s. (
      (λ h. elim ((q.idles s).0 h) [
        | inl x ↦ Has-append_left A.graph.idle (map (◌+◌ A.graph.states) B.graph.idle) s (rw (← p.idle) x)
        | inr r ↦ Has-append_right A.graph.idle (map (◌+◌ A.graph.states) B.graph.idle) s
            (subst (Has (map (◌+◌ A.graph.states) B.graph.idle)) r.2 (Has-map (◌+◌ A.graph.states) B.graph.idle r.0 r.1))
      ]),
      (λ h. elim (Has-append_cases A.graph.idle (map (◌+◌ A.graph.states) B.graph.idle) s h) [
        | inl x ↦ (q.idles s).1 (inl (rw p.idle x))
        | inr x ↦ let r = Has-map_cases (◌+◌ A.graph.states) B.graph.idle s x in (q.idles s).1 (inr (r.0, r.1, r.2))
      ]),
    );
  }
