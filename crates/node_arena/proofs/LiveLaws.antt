-- What is left after a release is what is live.
use Rattle.std.proofs.Common.{◌≡◌, ◌↔◌, ℕ, ◌<◌, ◌⊎◌, inl, inr, List, [], ◌∷◌, ◌++◌, refl, sym, ap, subst, arith, append_assoc}
use Rattle.span_core.specs.Lists.{Has}
use Rattle.span_core.proofs.HasLaws.{Has-append_left, Has-append_right, Has-append_cases}
use Rattle.node_arena.specs.Cells.{NamedLink, Cells, Holds, HasCell, Names, IsNamed, IsUnnamed, AreLinked, IsLive, held, named, IsArena, without, hold}
use Rattle.node_arena.specs.Release.{Released, no_more, one_more}
use Rattle.node_arena.specs.Nodes.{Nodes, IsKept}
use Rattle.node_arena.proofs.Counts.{named_there}
use Rattle.node_arena.proofs.Without.{without_less, without_keeps, without_has, linked_without}

module _ (holds : Holds) where
  -- among more cells no less is live
  live_among : (cells more : List NamedLink) → ((l : NamedLink) → Has cells l → Has more l) → (c : ℕ) → IsLive holds cells c → IsLive holds more c
  live_among cells more in_more c (held some) = held some
  live_among cells more in_more c (named l h n live) = named l (in_more l h) n (live_among cells more in_more l.name live)

  -- `older` is linked, and each of its cells is held or named; those of `newer` are live
  all_live_from : (newer older : List NamedLink) → AreLinked older →
      ((l : NamedLink) → Has older l → (0 < hold holds l.name) ⊎ ((m : NamedLink) × (Has newer m ⊎ Has older m) × Names m l.name)) →
      ((m : NamedLink) → Has newer m → IsLive holds (newer ++ older) m.name) → (l : NamedLink) → Has older l → IsLive holds (newer ++ older) l.name
  all_live_from newer [] linked each live l h = absurd h
  all_live_from newer (d ∷ older) linked each live l h =
      let first : IsLive holds (newer ++ d ∷ older) d.name = elim (each d (inl refl)) as (λ _. IsLive holds (newer ++ d ∷ older) d.name) [
        | inl a ↦ held a
        | inr (m, inl a, n) ↦ named m (Has-append_left newer (d ∷ older) m a) n (live m a)
        | inr (m, inr (inl e), n) ↦ absurd (elim (subst (λ (x : NamedLink). Names x d.name) (sym e) n) as (λ _. ⊥) [
          | inl is ↦ linked.0.fresh (linked.0.from_there d.name is)
          | inr is ↦ linked.0.fresh (linked.0.also_there d.name is)
        ])
        | inr (m, inr (inr a), n) ↦ absurd (linked.0.fresh (named_there older linked.1 m d.name a n))
      ] in
      elim h as (λ _. IsLive holds (newer ++ d ∷ older) l.name) [
        | inl e ↦ subst (λ (x : NamedLink). IsLive holds (newer ++ d ∷ older) x.name) e first
        | inr there ↦
            let same : (newer ++ d ∷ []) ++ older ≡ newer ++ d ∷ older = append_assoc newer (d ∷ []) older in
            subst (λ xs. IsLive holds xs l.name) same
            (all_live_from (newer ++ d ∷ []) older linked.1
            (λ k hk. elim (each k (inr hk)) as (λ _. (0 < hold holds k.name) ⊎ ((m : NamedLink) × (Has (newer ++ d ∷ []) m ⊎ Has older m) × Names m k.name)) [
              | inl a ↦ inl a
              | inr (m, inl a, n) ↦ inr (m, inl (Has-append_left newer (d ∷ []) m a), n)
              | inr (m, inr (inl e), n) ↦ inr (m, inl (Has-append_right newer (d ∷ []) m (inl e)), n)
              | inr (m, inr (inr a), n) ↦ inr (m, inr a, n)
            ])
            (λ m hm. subst (λ xs. IsLive holds xs m.name) (sym same) (elim (Has-append_cases newer (d ∷ []) m hm) as (λ _. IsLive holds (newer ++ d ∷ older) m.name) [
              | inl a ↦ live m a
              | inr (inl e) ↦ subst (λ (x : NamedLink). IsLive holds (newer ++ d ∷ older) x.name) e first
              | inr (inr none) ↦ absurd none
            ]))
            l there)
      ]

  -- where each cell is held or named, each is live: the newest is unnamed, so held
  pub all_live : (cells : List NamedLink) → AreLinked cells → ((c : ℕ) → HasCell cells c → (0 < hold holds c) ⊎ IsNamed cells c) → (c : ℕ) → HasCell cells c → IsLive holds cells c
  all_live cells linked each c h =
      subst (λ x. IsLive holds cells x) h.2
      (all_live_from [] cells linked
      (λ k hk. elim (each k.name (k, hk, refl)) as (λ _. (0 < hold holds k.name) ⊎ ((m : NamedLink) × (⊥ ⊎ Has cells m) × Names m k.name)) [ inl a ↦ inl a | inr b ↦ inr (b.0, inr b.1, b.2) ])
      (λ m hm. absurd hm) h.0 h.1)

  -- only cells are live
  pub live_there : (cells : List NamedLink) → AreLinked cells → ((c : ℕ) → 0 < hold holds c → HasCell cells c) → (c : ℕ) → IsLive holds cells c → HasCell cells c
  live_there cells linked held_there c (held some) = held_there c some
  live_there cells linked held_there c (named l h n live) = named_there cells linked l c h n

  -- what is live is not what is taken out, and stays live
  live_without : (cells : List NamedLink) (k : ℕ) → hold holds k ≡ 0 → IsUnnamed cells k → (c : ℕ) → IsLive holds cells c → (c ≡ k → ⊥) × IsLive holds (without k cells) c
  live_without cells k none un c (held some) = (λ e. let z = ap (hold holds) e in absurd (omega arith), held some)
  live_without cells k none un c (named l h n live) =
      let r = live_without cells k none un l.name live in
      (λ e. un l h (subst (λ x. Names l x) e n), named l (without_has k cells l h r.0) n r.1)

  -- what is live stays
  live_stays : (start rest : List NamedLink) → Released holds start rest → AreLinked start → ((c : ℕ) → 0 < hold holds c → HasCell start c) → (c : ℕ) → IsLive holds start c → HasCell rest c
  live_stays start rest (no_more each) linked held_there c live = live_there rest linked held_there c live
  live_stays start rest (one_more k there none un run) linked held_there c live =
      live_stays (without k start) rest run (linked_without k start linked un)
      (λ d some. without_keeps k start d (λ e. let z = ap (hold holds) e in absurd (omega arith)) (held_there d some)) c (live_without start k none un c live).1

  -- what is left is live
  left_live : (start rest : List NamedLink) → Released holds start rest → AreLinked start → (c : ℕ) → HasCell rest c → IsLive holds start c
  left_live start rest (no_more each) linked c h = all_live rest linked each c h
  left_live start rest (one_more k there none un run) linked c h =
      live_among (without k start) start (without_less k start) c (left_live (without k start) rest run (linked_without k start linked un) c h)

  -- exactly what is live is left
  pub released_live : (start rest : List NamedLink) → Released holds start rest → AreLinked start → ((c : ℕ) → 0 < hold holds c → HasCell start c) → (c : ℕ) → HasCell rest c ↔ IsLive holds start c
  released_live start rest run linked held_there c = (left_live start rest run linked c, live_stays start rest run linked held_there c)

-- what is always true of an arena
pub arena_is : (nodes : Nodes) (newest live : ℕ) (v : Cells) → IsKept nodes newest live v → IsArena v
arena_is nodes newest live v kept = record {
  linked = kept.linked;
  held_there = kept.held_there;
  kept = kept.kept;
  live = λ c. (all_live v.holds v.cells kept.linked kept.kept c, live_there v.holds v.cells kept.linked kept.held_there c);
  proper = kept.proper;
}
