use Rattle.std.proofs.Common.{◌≡◌, ℕ, Some, ◌∙◌, false, [], inl, inr, length, replicate, subst, sym, ap, arith}
use Rattle.std.proofs.Math.ListN.{length-replicate}
use Rattle.std.specs.Prelude.{slice_get}
use Rattle.span_core.specs.Lists.{Has}
use Rattle.marked_automaton.specs.Reach.{AreTargets, Grows, Reaches}
use Rattle.marked_automaton.specs.Trimmed.{edges_in}
use Rattle.marked_automaton.proofs.Targeted.{edges_below}
use Rattle.marked_automaton.proofs.Growing.{reaches_below, search_ends, search_starts, swept_all, swept_from}
use Rattle.marked_automaton.proofs.reach.reached.Goals as goal
use Rattle.marked_automaton.proofs.reach.reached.Goals.{After-len}

-- what is found once the ways were swept
grown : (c : After-len) → Grows (Reaches (edges_in c.args.direction c.args.ways.now) c.args.seeds.now) (replicate c.args.nodes false) [] c.sweep.new.self.found.items c.sweep.new.self.waiting.items
grown c =
    let seeds = c.args.seeds.now in
    let f1 = c.find_all.new.self.found.items in
    let q1 = c.find_all.new.self.waiting.items in
    let g1 = subst (λ f. Grows (Has seeds) f c.in_ok-search.search.waiting.items f1 q1) c.in_ok-search.ensures.found c.in_ok-find_all.ensures.grows in
    let g = subst (λ w. Grows (Has seeds) (replicate c.args.nodes false) w f1 q1) c.in_ok-search.ensures.waiting g1 in
    swept_from (edges_in c.args.direction c.args.ways.now) seeds c.args.nodes f1 c.sweep.new.self.found.items q1 c.sweep.new.self.waiting.items g c.in_ok-sweep.ensures.grows

pub sweep-requires : goal.sweep-requires
sweep-requires c e h =
    let b = edges_below c.args.direction c.args.ways.now c.args.nodes c.requires.froms c.requires.tos e h in
    let len = c.in_ok-find_all.ensures.grows.len ∙ (ap length c.in_ok-search.ensures.found ∙ length-replicate c.args.nodes false) in
    (omega (arith, b.0, len), omega (arith, b.1, len))

pub targets-requires : goal.targets-requires
targets-requires c = λ e h. (edges_below c.args.direction c.args.ways.now c.args.nodes c.requires.froms c.requires.tos e h).0

pub follow_all-requires : goal.follow_all-requires
follow_all-requires c =
    let exact = c.in_ok-targets.ensures.exactly in
    let g = grown (goal.at.follow_all-requires c).After-len in
    let len : length c.sweep.new.self.found.items ≡ c.args.nodes = g.len ∙ length-replicate c.args.nodes false in
    record {
      nodes = ap length c.as_slice.ensures.value ∙ (c.in_ok-targets.ensures.len ∙ sym len);
      within = λ p list at q h.
          let l = (exact p list (subst (λ lists. slice_get lists p ≡ Some list) c.as_slice.ensures.value at) q).0 h in
          omega (arith, len, l.3, (edges_below c.args.direction c.args.ways.now c.args.nodes c.requires.froms c.requires.tos l.0 l.1).1);
      waiting = λ p h. elim (g.flagged p h) [ inl a ↦ absurd a | inr b ↦ b ];
    }

pub returns-then-len-clause-exactly : goal.returns-then-len-clause-exactly
returns-then-len-clause-exactly c =
    let edges = edges_in c.args.direction c.args.ways.now in
    let found = c.sweep.new.self.found.items in
    let waiting = c.sweep.new.self.waiting.items in
    let g = grown (goal.at.returns-then-len-clause-exactly c).After-len in
    let len : length found ≡ c.args.nodes = g.len ∙ length-replicate c.args.nodes false in
    swept_all edges c.args.seeds.now c.args.nodes found waiting g
    (omega (arith, c.if-len.true, c.len.ensures, c.len-2.ensures, c.sweep.new.self.found.ok.0, c.sweep.new.self.waiting.ok.0)) len
    (reaches_below edges c.args.seeds.now c.args.nodes c.requires.seeds (λ e h. (edges_below c.args.direction c.args.ways.now c.args.nodes c.requires.froms c.requires.tos e h).1))

pub returns-clause-exactly : goal.returns-clause-exactly
returns-clause-exactly c =
    let seeds = c.args.seeds.now in
    let edges = edges_in c.args.direction c.args.ways.now in
    let exact = subst (AreTargets edges) (sym c.as_slice.ensures.value) c.in_ok-targets.ensures.exactly in
    let f1 = c.sweep.new.self.found.items in
    let q1 = c.sweep.new.self.waiting.items in
    let f2 = c.follow_all.new.self.found.items in
    let from = grown (goal.at.returns-clause-exactly c).After-len in
    let found = λ (p : ℕ) (h : Has seeds p). c.in_ok-sweep.ensures.grows.kept p (c.in_ok-find_all.ensures.found p h) in
    let last = c.in_ok-follow_all.ensures.search edges seeds exact (search_starts edges seeds c.args.nodes f1 q1 from found) in
    λ p. (last.sound p, search_ends edges seeds f2 last p)
