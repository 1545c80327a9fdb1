-- The loops over the sources of a layer that settles.
use Rattle.std.proofs.Common.{◌≡◌, ℕ, zero, suc, ◌+◌, ◌<◌, ◌≤◌, ◌⊎◌, Bool, true, false, List, [], ◌∷◌, ◌++◌, length, Some, inl, inr, refl, sym, ap, subst, arith, ◌∙◌}
use Rattle.std.specs.Prelude.{◌↔◌, map, slice_get}
use Rattle.std.proofs.lemmas.List.{append-nil}
use Rattle.std.proofs.lemmas.Bool.{cases_lt, false≢true}
use Rattle.span_core.specs.Lists.{AreDistinct, Has}
use Rattle.node_arena.specs.Words.{Word}
use Rattle.output_graph.specs.Graph.{AreApart, Brings, Graph, HasWord, IsCost, IsPast, IsStepped, LeadsTo, Source, sets_of, source_of, sources, targets}
use Rattle.output_graph.specs.Forward.{mark_block}
use Rattle.output_graph.specs.Sound.{edges_of_ends}
use Rattle.one_pass.specs.Layers.{source_at}
use Rattle.one_pass.proofs.GraphLaws.{only_more, only_none, source_is, turned_more, turned_none, whole_count, whole_set, whole_sets}
use Rattle.span_core.proofs.HasLaws.{Has-get_or, Has-map}
use Rattle.one_pass.specs.Layers.{no_source}
use Rattle.one_pass.specs.Flags.{AreKept, HasFlagged, IsGivenBy, IsKeeping, IsListing, flag_at, given_ends, kept_edges, told_in}
use Rattle.one_pass.proofs.Flagged.{told_next}

no_word : (g : Graph) → g.next ≡ [] → (s : ℕ) (w : Word) → HasWord (targets g) s w → ⊥
no_word g none s w h = by g.next none h.0 h.1
  where
    by : (l : List (ℕ × ℕ)) → l ≡ [] → (x : Source) → Has (map (source_of g.cells) l) x → ⊥
    by [] e x k = k
    by (p ∷ l) e x k = absurd (cc)

none_flagged : (xs : List Source) (flags : List Bool) (b : Bool) (s : ℕ) (w : Word) → HasFlagged xs flags b 0 s w → ⊥
none_flagged xs flags b s w h = omega (arith, h.1)

flagged_later : (xs : List Source) (flags : List Bool) (b : Bool) (k s : ℕ) (w : Word) → HasFlagged xs flags b k s w → HasFlagged xs flags b (k + 1) s w
flagged_later xs flags b k s w h = (h.0, omega (arith, h.1), h.2, h.3, h.4)

-- of the first k + 1, one of the first k or the last
flagged_cases : (xs : List Source) (flags : List Bool) (b : Bool) (k s : ℕ) (w : Word) → HasFlagged xs flags b (k + 1) s w →
    HasFlagged xs flags b k s w ⊎ ((flag_at flags k ≡ b) × ((source_at xs k).set ≡ s) × Has (source_at xs k).words w)
flagged_cases xs flags b k s w h = elim (cases_lt h.0 k) [
  | inl l ↦ inl (h.0, l, h.2, h.3, h.4)
  | inr l ↦ (let e : h.0 ≡ k = omega (arith, l, h.1) in inr (
    ap (flag_at flags) (sym e) ∙ h.2,
    ap (λ j. (source_at xs j).set) (sym e) ∙ h.3,
    subst (λ j. Has (source_at xs j).words w) e h.4,
  ))
]

one_edge : (s : ℕ) (b : Bool) → length (kept_edges s b) ≤ 1
one_edge s true = omega arith
one_edge s false = omega arith

-- of sources with distinct sets no two have one set
distinct_at : (xs : List Source) (j k : ℕ) → AreDistinct (map (λ (y : Source). y.set) xs) → j < k → k < length xs → (source_at xs j).set ≡ (source_at xs k).set → ⊥
distinct_at [] j k d l m e = absurd (omega (arith, m))
distinct_at (x ∷ xs) zero zero d l m e = absurd (omega (arith, l))
distinct_at (x ∷ xs) zero (suc k) d l m e =
    d.0 (subst (Has (map (λ (y : Source). y.set) xs)) (sym e) (Has-map (λ (y : Source). y.set) xs (source_at xs k) (Has-get_or xs k no_source (omega (arith, m)))))
distinct_at (x ∷ xs) (suc j) zero d l m e = absurd (omega (arith, l))
distinct_at (x ∷ xs) (suc j) (suc k) d l m e = distinct_at xs j k d.1 (omega (arith, l)) (omega (arith, m)) e

module _ (first : Graph) (flags : List Bool) (at : ℕ) (fresh : (first.stepped ≡ 0) × (first.next ≡ [])) (past : IsPast (sources first) at) where
  pub keeping_none : IsKeeping first flags at 0 first
  keeping_none = record {
    turned = turned_none fresh.0 past;
    words = λ s w. (λ h. absurd (no_word first fresh.1 s w h), λ h. absurd (none_flagged (sources first) flags false s w h));
    sets = λ s h. absurd (subst (λ l. Has (sets_of l) s) fresh.1 h);
    cells = omega arith;
    few = let none = ap length fresh.1 in omega (arith, none);
  }

  pub listing_none : IsListing first flags at 0 first
  listing_none = record {
    turned = turned_none fresh.0 past;
    words = λ w. (λ h. absurd (no_word first fresh.1 0 w h), λ h. absurd (none_flagged (sources first) flags true h.0 w h.1));
    only = only_none first fresh.1;
    cells = omega arith;
  }

  module _ (k : ℕ) (g h : Graph) (b : Bool) (within : k < length first.layer) (flag : flag_at flags k ≡ b) where
    abbrev x : Source
    x = source_at (sources first) k

    inside : k < length (sources first)
    inside = let e = whole_count first fresh.0 in omega (arith, within, e)

    module _ (n m set : ℕ) (apart : AreDistinct (map (λ (y : Source). y.set) (sources first))) (so_far : IsKeeping first flags at k g)
        (named : slice_get (sets_of g.layer) k ≡ Some set) (step : IsStepped g at (kept_edges set b) h)
        (cost : IsCost (length (kept_edges set b)) (length g.cells) (length h.cells) n m) where
      set_is : set ≡ x.set
      set_is = (whole_set first fresh.0 k set within (ap (λ l. slice_get (sets_of l) k) (sym so_far.turned.layer) ∙ named)).1

      source_here : step.left.0 ≡ x
      source_here = source_is so_far.turned inside step

      words_here : (s : ℕ) (w : Word) → HasWord (targets h) s w ↔ (HasWord (targets g) s w ⊎ Brings x.words at (kept_edges set b) s w)
      words_here s w =
          subst (λ (y : Source). HasWord (targets h) s w ↔ (HasWord (targets g) s w ⊎ Brings y.words at (kept_edges set b) s w)) source_here (step.left.2 s w)

      brings_flagged : (c : Bool) → b ≡ c → (s : ℕ) (w : Word) → Brings x.words at (kept_edges set c) s w → HasFlagged (sources first) flags false (k + 1) s w
      brings_flagged true e s w n = absurd n.2
      brings_flagged false e s w (y, u, inl is, to, has, eq) = (
        k,
        omega arith,
        flag ∙ e,
        sym set_is ∙ (ap (λ (p : ℕ × ℕ). p.1) is ∙ to),
        subst (Has x.words) (sym (append-nil u) ∙ (ap (λ (p : ℕ × ℕ). u ++ mark_block at p.0) is ∙ eq)) has,
      )
      brings_flagged false e s w (y, u, inr n, to, has, eq) = absurd n

      flagged_brings : (c : Bool) → b ≡ c → (s : ℕ) (w : Word) → flag_at flags k ≡ false → x.set ≡ s → Has x.words w → Brings x.words at (kept_edges set c) s w
      flagged_brings true e s w off is has = absurd (false≢true (sym off ∙ (flag ∙ e)))
      flagged_brings false e s w off is has = ((0, set), w, inl refl, set_is ∙ is, has, append-nil w)

      pub keeping_more : IsKeeping first flags at (k + 1) h
      keeping_more = record {
        turned = turned_more so_far.turned inside step;
        words = λ s w. (there s w, back s w);
        sets = sets_more;
        cells = cells_more b refl;
        few = few_more b refl;
      }
        where
          there : (s : ℕ) (w : Word) → HasWord (targets h) s w → HasFlagged (sources first) flags false (k + 1) s w
          there s w q = elim ((words_here s w).0 q) as (λ _. HasFlagged (sources first) flags false (k + 1) s w) [
            | inl old ↦ flagged_later (sources first) flags false k s w ((so_far.words s w).0 old)
            | inr new ↦ brings_flagged b refl s w new
          ]

          back : (s : ℕ) (w : Word) → HasFlagged (sources first) flags false (k + 1) s w → HasWord (targets h) s w
          back s w q = elim (flagged_cases (sources first) flags false k s w q) as (λ _. HasWord (targets h) s w) [
            | inl old ↦ (words_here s w).1 (inl ((so_far.words s w).1 old))
            | inr new ↦ (words_here s w).1 (inr (flagged_brings b refl s w new.0 new.1 new.2))
          ]

          leads : (c : Bool) (s : ℕ) → LeadsTo (kept_edges set c) s → set ≡ s
          leads true s n = absurd n.1
          leads false s (y, inl is, to) = ap (λ (p : ℕ × ℕ). p.1) is ∙ to
          leads false s (y, inr n, to) = absurd n

          sets_more : (s : ℕ) → Has (sets_of h.next) s → (j : ℕ) × (j < k + 1) × ((source_at (sources first) j).set ≡ s)
          sets_more s q = elim ((step.reached s).0 q) as (λ _. (j : ℕ) × (j < k + 1) × ((source_at (sources first) j).set ≡ s)) [
            | inl old ↦ (let r = so_far.sets s old in (r.0, omega (arith, r.1), r.2))
            | inr new ↦ (k, omega arith, sym set_is ∙ leads b s new)
          ]

          -- its set is not there yet
          new_set : Has (sets_of g.next) set → ⊥
          new_set q = let r = so_far.sets set q in distinct_at (sources first) r.0 k apart r.1 inside (r.2 ∙ set_is)

          cells_more : (c : Bool) → b ≡ c → length h.cells ≤ length first.cells
          cells_more true e =
              let few : cost.made ≤ 0 = subst (λ (d : Bool). cost.made ≤ length (kept_edges set d)) e cost.few in
              omega (arith, so_far.cells, cost.balance, few)
          cells_more false e =
              let one = step.hands_on set (ap (kept_edges set) e) new_set in omega (arith, so_far.cells, one)

          few_more : (c : Bool) → b ≡ c → length h.next ≤ k + 1
          few_more c e =
              let one : length (kept_edges set c) ≤ 1 = one_edge set c in
              let few = subst (λ (d : Bool). length h.next ≤ length g.next + length (kept_edges set d)) e step.few in
              omega (arith, so_far.few, few, one)

    module _ (n m : ℕ) (so_far : IsListing first flags at k g) (step : IsStepped g at (edges_of_ends (given_ends b)) h)
        (cost : IsCost (length (given_ends b)) (length g.cells) (length h.cells) n m) where
      source_there : step.left.0 ≡ x
      source_there = source_is so_far.turned inside step

      words_there : (w : Word) → HasWord (targets h) 0 w ↔ (HasWord (targets g) 0 w ⊎ Brings x.words at (edges_of_ends (given_ends b)) 0 w)
      words_there w =
          subst (λ (y : Source). HasWord (targets h) 0 w ↔ (HasWord (targets g) 0 w ⊎ Brings y.words at (edges_of_ends (given_ends b)) 0 w)) source_there (step.left.2 0 w)

      brings_given : (c : Bool) → b ≡ c → (w : Word) → Brings x.words at (edges_of_ends (given_ends c)) 0 w → (s : ℕ) × HasFlagged (sources first) flags true (k + 1) s w
      brings_given false e w n = absurd n.2
      brings_given true e w (y, u, inl is, to, has, eq) = (
        x.set,
        (
          k,
          omega arith,
          flag ∙ e,
          refl,
          subst (Has x.words) (sym (append-nil u) ∙ (ap (λ (p : ℕ × ℕ). u ++ mark_block at p.0) is ∙ eq)) has,
        ),
      )
      brings_given true e w (y, u, inr n, to, has, eq) = absurd n

      given_brings : (c : Bool) → b ≡ c → (w : Word) → flag_at flags k ≡ true → Has x.words w → Brings x.words at (edges_of_ends (given_ends c)) 0 w
      given_brings false e w on has = absurd (false≢true (sym (flag ∙ e) ∙ on))
      given_brings true e w on has = ((0, 0), w, inl refl, refl, has, append-nil w)

      pub listing_more : IsListing first flags at (k + 1) h
      listing_more = record {
        turned = turned_more so_far.turned inside step;
        words = λ w. (there w, back w);
        only = only_more (given_ends b) so_far.only step;
        cells = cells_there b refl;
      }
        where
          there : (w : Word) → HasWord (targets h) 0 w → (s : ℕ) × HasFlagged (sources first) flags true (k + 1) s w
          there w q = elim ((words_there w).0 q) as (λ _. (s : ℕ) × HasFlagged (sources first) flags true (k + 1) s w) [
            | inl old ↦ (let r = (so_far.words w).0 old in (r.0, flagged_later (sources first) flags true k r.0 w r.1))
            | inr new ↦ brings_given b refl w new
          ]

          back : (w : Word) → (s : ℕ) × HasFlagged (sources first) flags true (k + 1) s w → HasWord (targets h) 0 w
          back w q = elim (flagged_cases (sources first) flags true k q.0 w q.1) as (λ _. HasWord (targets h) 0 w) [
            | inl old ↦ (words_there w).1 (inl ((so_far.words w).1 (q.0, old)))
            | inr new ↦ (words_there w).1 (inr (given_brings b refl w new.0 new.2))
          ]

          cells_there : (c : Bool) → b ≡ c → length h.cells ≤ length first.cells + told_in flags (k + 1)
          cells_there true e =
              let few : cost.made ≤ 1 = subst (λ (d : Bool). cost.made ≤ length (given_ends d)) e cost.few in
              omega (arith, so_far.cells, cost.balance, few, told_next flags k true (flag ∙ e))
          cells_there false e =
              let few : cost.made ≤ 0 = subst (λ (d : Bool). cost.made ≤ length (given_ends d)) e cost.few in
              omega (arith, so_far.cells, cost.balance, few, told_next flags k false (flag ∙ e))

  -- ---- all have been

  pub kept_all : (k : ℕ) (g new : Graph) → IsKeeping first flags at k g → k ≡ length first.layer → sources new ≡ targets g → new.cells ≡ g.cells →
      new.layer ≡ g.next → (new.stepped ≡ 0) → (new.next ≡ []) → AreApart (sources new) → AreKept first flags new
  kept_all k g new all full is cells layer none next apart = record {
    fresh = (none, next);
    words = λ s w. (
      λ h. subst (λ n. HasFlagged (sources first) flags false n s w) many ((all.words s w).0 (subst (λ xs. HasWord xs s w) is h)),
      λ h. subst (λ xs. HasWord xs s w) (sym is) ((all.words s w).1 (subst (λ n. HasFlagged (sources first) flags false n s w) (sym many) h)),
    );
    sets = λ s h. kept_set s (all.sets s (subst (λ l. Has (sets_of l) s) layer h));
    apart = subst AreDistinct (whole_sets new none) apart.distinct;
    cells = let same = ap length cells in omega (arith, same, all.cells);
    layer = let same = ap length layer in omega (arith, same, all.few, full);
  }
    where
      many : k ≡ length (sources first)
      many = full ∙ whole_count first fresh.0

      kept_set : (s : ℕ) → (j : ℕ) × (j < k) × ((source_at (sources first) j).set ≡ s) → Has (sets_of first.layer) s
      kept_set s r =
          let x = source_at (sources first) r.0 in
          let there = Has-map (λ (y : Source). y.set) (sources first) x (Has-get_or (sources first) r.0 no_source (omega (arith, r.1, many))) in
          subst (λ ns. Has ns s) (whole_sets first fresh.0) (subst (Has (map (λ (y : Source). y.set) (sources first))) r.2 there)

  pub listed_all : (k : ℕ) (g : Graph) → IsListing first flags at k g → k ≡ length first.layer → (ws : List Word) → ((w : Word) → Has ws w ↔ HasWord (targets g) 0 w) →
      (w : Word) → Has ws w ↔ IsGivenBy first flags w
  listed_all k g all full ws exact w =
      let many : k ≡ length (sources first) = full ∙ whole_count first fresh.0 in (
        λ h. (let r = (all.words w).0 ((exact w).0 h) in (r.0, subst (λ n. HasFlagged (sources first) flags true n r.0 w) many r.1)),
        λ h. (exact w).1 ((all.words w).1 (h.0, subst (λ n. HasFlagged (sources first) flags true n h.0 w) (sym many) h.1)),
      )
