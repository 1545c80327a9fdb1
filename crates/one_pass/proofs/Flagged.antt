-- The sources of a layer that are told by flags: how many they are, and what their words are to the sets.
use Rattle.std.proofs.Common.{◌≡◌, ℕ, zero, suc, ◌+◌, ◌*◌, ◌<◌, ◌≤◌, Bool, true, false, List, [], ◌∷◌, length, inl, inr, refl, sym, ap, subst, arith, ◌∙◌, if◌then◌else◌}
use Rattle.std.specs.Prelude.{◌-◌, ◌↔◌, map}
use Rattle.std.proofs.lemmas.Bool.{false≢true}
use Rattle.span_core.specs.Lists.{AreDistinct, Has}
use Rattle.span_core.proofs.HasLaws.{Has-get_or, Has-map, Has-map_cases}
use Rattle.numbered_lists.specs.Numbered.{set_at}
use Rattle.node_arena.specs.Rows.{rows}
use Rattle.node_arena.specs.Words.{Word}
use Rattle.output_graph.specs.Graph.{Graph, HasWord, IsCost, Source, sets_of, sources}
use Rattle.output_graph.specs.Listed.{Lists}
use Rattle.output_graph.specs.Order.{AreInOrder}
use Rattle.set_table.specs.Tabled.{Tabled}
use Rattle.one_pass.specs.Flags.{AreKept, AreTold, HasFlagged, IsGivenBy, KeepsWithin, ListsWithin, flag_at, given_ends, kept_edges, told_in}
use Rattle.one_pass.specs.Layers.{no_source, source_at}
use Rattle.one_pass.specs.Passes.{IsReadyAt, Reaches, pass}
use Rattle.one_pass.specs.Settling.{HasSettled, Rule}
use Rattle.one_pass.specs.SoFar.{SoFar}
use Rattle.one_pass.proofs.GraphLaws.{whole_count, whole_sets}

-- ---- how many flags are set

pub told_next : (flags : List Bool) (k : ℕ) (b : Bool) → flag_at flags k ≡ b → told_in flags (k + 1) ≡ told_in flags k + (if b then 1 else 0)
told_next flags k b e = let next : k + 1 ≡ suc k = omega arith in ap (told_in flags) next ∙ ap (λ (c : Bool). told_in flags k + (if c then 1 else 0)) e

one_flag : (b : Bool) → (if b then 1 else 0) ≤ 1
one_flag true = omega arith
one_flag false = omega arith

told_up : (flags : List Bool) (k n m : ℕ) → m ≡ n + k → (told_in flags k ≤ told_in flags m) × (told_in flags m ≤ told_in flags k + n)
told_up flags k zero m e =
    let here : m ≡ k = omega (arith, e) in
    let same = ap (told_in flags) here in
    (omega (arith, same), omega (arith, same))
told_up flags k (suc n) m e =
    let r = told_up flags k n (n + k) refl in
    let here : m ≡ suc (n + k) = omega (arith, e) in
    let last : told_in flags m ≡ told_in flags (n + k) + (if flag_at flags (n + k) then 1 else 0) = ap (told_in flags) here in
    let one = one_flag (flag_at flags (n + k)) in
    (omega (arith, r.0, last), omega (arith, r.1, last, one))

pub told_between : (flags : List Bool) (k n : ℕ) → k ≤ n → (told_in flags k ≤ told_in flags n) × (told_in flags n + k ≤ told_in flags k + n)
told_between flags k n le =
    let there : n ≡ (n - k) + k = omega (arith, le) in
    let r = told_up flags k (n - k) n there in
    (r.0, omega (arith, r.1, there))

-- they are no more than the flags
pub told_most : (flags : List Bool) (n : ℕ) → told_in flags n ≤ n
told_most flags n =
    let r = told_between flags 0 n (omega arith) in
    let none : told_in flags 0 ≡ 0 = refl in
    omega (arith, r.1, none)

-- ---- what the sources take

pub keeps_none : (first : Graph) (flags : List Bool) (n : ℕ) → KeepsWithin first flags 0 first n n
keeps_none first flags n = record { steps = omega arith }

pub keeps_more : (first : Graph) (flags : List Bool) (k s : ℕ) (g h : Graph) (before n m : ℕ) (b : Bool) → flag_at flags k ≡ b → KeepsWithin first flags k g before n →
    IsCost (length (kept_edges s b)) (length g.cells) (length h.cells) n m → KeepsWithin first flags (k + 1) h before m
keeps_more first flags k s g h before n m true flag so_far cost =
    let next : told_in flags (k + 1) ≡ told_in flags k + 1 = told_next flags k true flag in
    let few : cost.made ≤ 0 = cost.few in
    let bound : m ≤ n + 2 * 0 + 2 + cost.freed = cost.bound in
    record { steps = omega (arith, so_far.steps, few, cost.balance, bound, next) }
keeps_more first flags k s g h before n m false flag so_far cost =
    let next : told_in flags (k + 1) ≡ told_in flags k + 0 = told_next flags k false flag in
    let few : cost.made ≤ 1 = cost.few in
    let bound : m ≤ n + 2 * 1 + 2 + cost.freed = cost.bound in
    record { steps = omega (arith, so_far.steps, few, cost.balance, bound, next) }

-- so many steps of the whole have been taken
pub keeps_within : (first : Graph) (flags : List Bool) (k most : ℕ) (g : Graph) (before after : ℕ) → KeepsWithin first flags k g before after → k ≤ most →
    after + 3 * told_in flags most ≤ before + length first.cells + 5 * most
keeps_within first flags k most g before after so_far le = let told = told_between flags k most le in omega (arith, so_far.steps, told.1, le)

pub lists_none : (first : Graph) (flags : List Bool) (n : ℕ) → ListsWithin first flags 0 first n n
lists_none first flags n = record { steps = omega arith }

pub lists_more : (first : Graph) (flags : List Bool) (k : ℕ) (g h : Graph) (before n m : ℕ) (b : Bool) → flag_at flags k ≡ b → ListsWithin first flags k g before n →
    IsCost (length (given_ends b)) (length g.cells) (length h.cells) n m → ListsWithin first flags (k + 1) h before m
lists_more first flags k g h before n m true flag so_far cost =
    let next : told_in flags (k + 1) ≡ told_in flags k + 1 = told_next flags k true flag in
    let few : cost.made ≤ 1 = cost.few in
    let bound : m ≤ n + 2 * 1 + 2 + cost.freed = cost.bound in
    record { steps = omega (arith, so_far.steps, few, cost.balance, bound, next) }
lists_more first flags k g h before n m false flag so_far cost =
    let next : told_in flags (k + 1) ≡ told_in flags k + 0 = told_next flags k false flag in
    let few : cost.made ≤ 0 = cost.few in
    let bound : m ≤ n + 2 * 0 + 2 + cost.freed = cost.bound in
    record { steps = omega (arith, so_far.steps, few, cost.balance, bound, next) }

pub lists_within : (first : Graph) (flags : List Bool) (k most : ℕ) (g : Graph) (before after : ℕ) → ListsWithin first flags k g before after → k ≤ most →
    after ≤ before + 2 * length first.cells + 2 * most + 4 * told_in flags most + 2
lists_within first flags k most g before after so_far le = let told = told_between flags k most le in omega (arith, so_far.steps, told.0, le)

-- ---- words and sets

-- an element stands somewhere
there_at : (xs : List Source) (x : Source) → Has xs x → (j : ℕ) × (j < length xs) × (source_at xs j ≡ x)
there_at [] x h = absurd h
there_at (y ∷ xs) x (inl e) = (0, omega arith, e)
there_at (y ∷ xs) x (inr h) = let r = there_at xs x h in (r.0 + 1, omega (arith, r.1), next r.0 ∙ r.2)
  where
    next : (j : ℕ) → source_at (y ∷ xs) (j + 1) ≡ source_at xs j
    next j = let e : j + 1 ≡ suc j = omega arith in ap (source_at (y ∷ xs)) e

module _ (G : Rule) (t : Tabled) (g h : Graph) (n m : ℕ) (flags : List Bool) (told : AreTold G t g flags) where
  abbrev named : ℕ → List ℕ
  named j = set_at t.sets (source_at (sources g) j).set

  by_flag : (b : Bool) (s : ℕ) (w : Word) → HasFlagged (sources g) flags b (length (sources g)) s w → Reaches (pass t g n) (set_at t.sets s) w
  by_flag b s w f =
      (source_at (sources g) f.0, Has-get_or (sources g) f.0 no_source f.1, ap (set_at t.sets) f.3, f.4)

  pub kept_reaches : AreKept g flags h → (set : List ℕ) (w : Word) → Reaches (pass t h m) set w ↔ (Reaches (pass t g n) set w × ¬ G set)
  kept_reaches kept set w = (there, back)
    where
      there : Reaches (pass t h m) set w → Reaches (pass t g n) set w × ¬ G set
      there r =
          let f = (kept.words r.0.set w).0 (r.0, r.1, refl, r.3) in
          let name : named f.0 ≡ set = ap (set_at t.sets) f.3 ∙ r.2 in (
            subst (λ (s : List ℕ). Reaches (pass t g n) s w) r.2 (by_flag false r.0.set w f),
            λ given. (told f.0 f.1).1 f.2 (subst G (sym name) given),
          )

      back : Reaches (pass t g n) set w × ¬ G set → Reaches (pass t h m) set w
      back (r, none) = by (flag_at flags at.0) refl
        where
          at : (j : ℕ) × (j < length (sources g)) × (source_at (sources g) j ≡ r.0)
          at = there_at (sources g) r.0 r.1

          name : named at.0 ≡ set
          name = ap (λ (x : Source). set_at t.sets x.set) at.2 ∙ r.2

          by : (b : Bool) → flag_at flags at.0 ≡ b → Reaches (pass t h m) set w
          by true e = absurd (none (subst G name ((told at.0 at.1).0 e)))
          by false e =
              let x = (kept.words r.0.set w).1 (at.0, at.1, e, ap (λ (y : Source). y.set) at.2, subst (λ (y : Source). Has y.words w) (sym at.2) r.3) in
              (x.0, x.1, ap (set_at t.sets) x.2 ∙ r.2, x.3)

  pub listed_reaches : (w : Word) → IsGivenBy g flags w ↔ ((set : List ℕ) × Reaches (pass t g n) set w × G set)
  listed_reaches w = (there, back)
    where
      there : IsGivenBy g flags w → (set : List ℕ) × Reaches (pass t g n) set w × G set
      there (s, f) = (
        set_at t.sets s,
        by_flag true s w f,
        subst G (ap (set_at t.sets) f.3) ((told f.0 f.1).0 f.2),
      )

      back : (set : List ℕ) × Reaches (pass t g n) set w × G set → IsGivenBy g flags w
      back (set, r, given) = by (flag_at flags at.0) refl
        where
          at : (j : ℕ) × (j < length (sources g)) × (source_at (sources g) j ≡ r.0)
          at = there_at (sources g) r.0 r.1

          name : named at.0 ≡ set
          name = ap (λ (x : Source). set_at t.sets x.set) at.2 ∙ r.2

          by : (b : Bool) → flag_at flags at.0 ≡ b → IsGivenBy g flags w
          by false e = absurd ((told at.0 at.1).1 e (subst G (sym name) given))
          by true e = (r.0.set, (at.0, at.1, e, ap (λ (y : Source). y.set) at.2, subst (λ (y : Source). Has y.words w) (sym at.2) r.3))

-- no source is told, and the graph is as it was
pub kept_whole : (g : Graph) (flags : List Bool) → ((k : ℕ) → k < length (sources g) → flag_at flags k ≡ false) → (g.stepped ≡ 0) × (g.next ≡ []) →
    AreDistinct (map (λ (x : Source). x.set) (sources g)) → AreKept g flags g
kept_whole g flags none fresh apart = record {
  fresh = fresh;
  words = λ s w. (
    λ h. (let at = there_at (sources g) h.0 h.1 in
        (at.0, at.1, none at.0 at.1, ap (λ (y : Source). y.set) at.2 ∙ h.2, subst (λ (y : Source). Has y.words w) (sym at.2) h.3)),
    λ f. (source_at (sources g) f.0, Has-get_or (sources g) f.0 no_source f.1, f.3, f.4),
  );
  sets = λ s h. h;
  apart = subst AreDistinct (whole_sets g fresh.0) apart;
  cells = omega arith;
  layer = omega arith;
}

-- where no flag is set no source is told
pub none_told : (g : Graph) (flags : List Bool) → g.stepped ≡ 0 → length flags ≡ length g.layer → ((k : ℕ) → k < length flags → flag_at flags k ≡ false) →
    (k : ℕ) → k < length (sources g) → flag_at flags k ≡ false
none_told g flags fresh many none k l = let count = whole_count g fresh in none k (omega (arith, l, many, count))

-- of a graph whose sources are not told no word is given
pub none_given : (g : Graph) (flags : List Bool) (ws : List Word) → ((w : Word) → Has ws w → ⊥) → ((k : ℕ) → k < length (sources g) → flag_at flags k ≡ false) →
    (w : Word) → Has ws w ↔ IsGivenBy g flags w
none_given g flags ws empty none w = (λ h. absurd (empty w h), λ f. absurd (false≢true (sym (none f.1.0 f.1.1) ∙ f.1.2)))

-- a copy has been listed: what keeping the sources takes is left
pub listed_steps : (g h : Graph) (flags : List Bool) (most before copied listed : ℕ) → sources h ≡ sources g → g.stepped ≡ 0 → h.stepped ≡ 0 → length h.cells ≡ length g.cells →
    most ≡ length g.layer → copied ≤ before + 2 * length g.cells + 1 → listed ≤ copied + 2 * length h.cells + 2 * length h.layer + 4 * told_in flags most + 2 →
    (listed ≤ before + 5 * length g.cells + 8 * length g.layer + 3)
    × (listed + length g.cells + 5 * length g.layer ≤ before + 5 * length g.cells + 8 * length g.layer + 3 + 3 * told_in flags most)
listed_steps g h flags most before copied listed same old new cells many copy list =
    let few = told_most flags most in
    let layers : length h.layer ≡ length g.layer = whole_count h new ∙ (ap length same ∙ sym (whole_count g old)) in
    (omega (arith, few, layers, cells, many, copy, list), omega (arith, few, layers, cells, many, copy, list))

-- ---- the reading

-- it may go on with the sources that are kept
pub kept_ready : {t : Tabled} {g h : Graph} {at : ℕ} {flags : List Bool} → IsReadyAt t g at → AreKept g flags h → IsReadyAt t h at
kept_ready {t} {g} {h} ready kept = record {
  sound = ready.sound;
  given = λ x there. (
      let named = subst (λ ns. Has ns x.set) (whole_sets h kept.fresh.0) (Has-map (λ (y : Source). y.set) (sources h) x there) in
      let old = Has-map_cases (λ (y : Source). y.set) (sources g) x.set (subst (λ ns. Has ns x.set) (sym (whole_sets g ready.fresh.0)) (kept.sets x.set named)) in
      subst (λ n. n < length t.sets) old.2 (ready.given old.0 old.1));
  apart = kept.apart;
  fresh = kept.fresh;
  past = λ s w b has in_word. (
      let f = (kept.words s w).0 has in
      ready.past s w b (source_at (sources g) f.0, Has-get_or (sources g) f.0 no_source f.1, f.3, f.4) in_word);
}

-- it was settled
pub settled_so : {G : Rule} {t : Tabled} {g h : Graph} {at n m : ℕ} {flags : List Bool} {lists : Lists} → IsReadyAt t g at → AreTold G t g flags → AreKept g flags h →
    ((w : Word) → Has (rows lists.store lists.first) w ↔ IsGivenBy g flags w) → AreInOrder (rows lists.store lists.first) →
    m ≤ n + 5 * length g.cells + 8 * length g.layer + 3 →
    HasSettled G (record { table = t; graph = g; at = at }) n (record { table = t; graph = h; at = at }) lists m
settled_so {G} {t} {g} {h} {n = n} {m} {flags} ready told kept listed order steps =
    let given = listed_reaches G t g h n m flags told in
    record {
      table = refl;
      at = refl;
      ready = kept_ready ready kept;
      kept = kept_reaches G t g h n m flags told kept;
      given = λ w. (λ k. (given w).0 ((listed w).0 k), λ k. (listed w).1 ((given w).1 k));
      order = order;
      cells = kept.cells;
      layer = let old = whole_count g ready.fresh.0 in let new = whole_count h kept.fresh.0 in omega (arith, kept.layer, old, new);
      steps = let old = whole_count g ready.fresh.0 in omega (arith, steps, old);
    }
