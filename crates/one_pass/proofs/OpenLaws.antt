-- What a caller knows between two places, and what is always true there.
use Rattle.std.proofs.Common.{◌≡◌, ℕ, ◌+◌, ◌<◌, ◌≤◌, List, [], ◌∷◌, length, inl, inr, sym, ap, subst, arith, ◌∙◌}
use Rattle.std.proofs.lemmas.Option.{slice_get_within}
use Rattle.span_core.specs.Lists.{Has}
use Rattle.span_core.specs.Intervals.{Covers}
use Rattle.automaton_reading.specs.Reading.{set_of}
use Rattle.set_table.specs.Tabled.{IsTabled, Tabled}
use Rattle.output_graph.specs.Graph.{AreApart, Graph, Source, sources}
use Rattle.one_pass.specs.Builds.{IsStarted}
use Rattle.one_pass.specs.Layers.{first_source}
use Rattle.one_pass.specs.Passes.{IsOpen, IsReadyAt, pass}
use Rattle.node_arena.specs.Words.{Word}
use Rattle.one_pass.proofs.GraphLaws.{whole_sets}

pub open_ready : {t : Tabled} {g : Graph} {at : ℕ} → IsTabled t → AreApart (sources g) → IsOpen t g at → IsReadyAt t g at
open_ready {g = g} tabled apart open_here = record {
  sound = tabled;
  given = open_here.given;
  apart = rw (whole_sets g open_here.fresh.0) at apart.distinct;
  fresh = open_here.fresh;
  past = open_here.past;
}

pub ready_open : {t : Tabled} {g : Graph} {at : ℕ} → IsReadyAt t g at → IsOpen t g at
ready_open r = record { fresh = r.fresh; given = r.given; past = r.past }

-- a graph that was begun at the first set of a table
pub open_first : {t : Tabled} {g : Graph} {s : ℕ} → IsTabled t → s ≡ 0 → sources g ≡ first_source s ∷ [] → g.next ≡ [] → g.stepped ≡ 0 → IsOpen t g 0
open_first {t} {g} {s} tabled zero_set is none begun = record {
  fresh = (begun, none);
  given = λ x h. by_given x (subst (λ (xs : List Source). Has xs x) is h);
  past = λ s w b h n. absurd (by_past h.0 w b (subst (λ (xs : List Source). Has xs h.0) is h.1) h.3 n);
}
  where
    some : 0 < length t.sets
    some = slice_get_within t.sets 0 (set_of t.graph.starts) tabled.start

    by_given : (x : Source) → Has (first_source s ∷ []) x → x.set < length t.sets
    by_given x (inl e) = omega (arith, some, zero_set, ap (λ (y : Source). y.set) e)
    by_given x (inr h) = absurd h

    empty : (w : Word) (b : ℕ × ℕ) → Has ([] ∷ []) w → Has w b → ⊥
    empty w b (inl e) m = subst (λ (v : Word). Has v b) (sym e) m
    empty w b (inr h) m = absurd h

    by_past : (x : Source) (w : Word) (b : ℕ × ℕ) → Has (first_source s ∷ []) x → Has x.words w → Has w b → ⊥
    by_past x w b (inl e) m n = empty w b (subst (λ (y : Source). Has y.words w) (sym e) m) n
    by_past x w b (inr h) m n = absurd h

-- all positions of a document
pub covers_all : (ps : List (ℕ × ℕ)) (n m q : ℕ) → ps ≡ (0, n) ∷ [] → n ≤ m → Covers ps q → q ≤ m
covers_all ps n m q is le h = by (subst (λ (xs : List (ℕ × ℕ)). Covers xs q) is h)
  where
    by : Covers ((0, n) ∷ []) q → q ≤ m
    by (inl k) = omega (arith, k, le)
    by (inr k) = absurd k

-- which is how a whole reading begins
pub begun_is : {t : Tabled} {g : Graph} {s before after : ℕ} → sources g ≡ first_source s ∷ [] → length g.cells ≡ 1 → s ≡ 0 → after ≡ before + 1 → IsStarted before (pass t g after)
begun_is is one zero_set step = record { layer = is ∙ ap (λ k. first_source k ∷ []) zero_set; cells = one; steps = step }
