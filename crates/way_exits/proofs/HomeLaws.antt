-- A set of states leads back to itself over bytes in which a text does not stand, and of which the last brings it home.
use Rattle.std.proofs.Common.{ℕ, zero, suc, ◌<◌, ◌≤◌, ◌⊎◌, List, [], ◌∷◌, length, get_or, take, inl, inr, refl, sym, subst, arith, ◌∙◌}
use Rattle.std.specs.Prelude.{Vec}
use Rattle.std.specs.Global.{Global}
use Rattle.span_core.specs.Lists.{Has}
use Rattle.byte_runs.specs.Inner.{EndsNowhere, Inner, IsBehind}
use Rattle.marked_automaton.specs.declared.way.Way.{Way}
use Rattle.marked_automaton.specs.Automaton.{HasByte}
use Rattle.way_exits.specs.Home.{BringsHome, ComesHome, HasAll, IsAmong, IsHomeRegion}
use Rattle.way_exits.specs.Inside.{IsTextBehind, NoneEnds}
use Rattle.way_exits.specs.Paths.{AreNone, ComeBack, IsPath}
use Rattle.way_exits.specs.Waiting.{IsLoop, IsLooping, IsOf}
use Rattle.way_exits.proofs.InsideLaws.{deeper, none_ends, nowhere_taken, read_none}
use Rattle.way_exits.proofs.WaitLaws.{AreSmall, Dies, none_back, none_lead, small_taken}

-- the last byte brings home
abbrev pub LastBrings : List Way → List ℕ → List ℕ → List ℕ → Type 0
LastBrings ways states region [] = ⊥
LastBrings ways states region (b ∷ []) = BringsHome ways states region b
LastBrings ways states region (b ∷ c ∷ d) = LastBrings ways states region (c ∷ d)

module _ (ways : List Way) (states region : List ℕ) (depth : ℕ → ℕ) (text : List ℕ) (is : IsHomeRegion ways states region depth text) where
  home_dies : (d : List ℕ) (before : List ℕ) → LastBrings ways states region d → NoneEnds text before d → (x : ℕ) → Has region x → IsTextBehind text (depth x) before → Dies ways x d
  home_dies [] before last none x h ends = absurd last
  home_dies (b ∷ []) before last none x h ends = λ y has from byte. absurd ((last.unspoilt y has).inside (subst (Has region) (sym from) h) byte)
  home_dies (b ∷ c ∷ d) before last none x h ends = λ y has from byte.
      let deep : IsTextBehind text (depth y.from) before = subst (λ p. IsTextBehind text (depth p) before) (sym from) ends in
      elim (is.stays y has (subst (Has region) (sym from) h)) as (λ _. Dies ways y.to (c ∷ d)) [
        | inl stay ↦ home_dies (c ∷ d) (b ∷ before) last none.1 y.to stay.0 (deeper text (depth y.from) y (depth y.to) b before stay.1 byte deep)
        | inr close ↦ absurd (none.0 (subst (λ m. IsTextBehind text m (b ∷ before)) close.0 (close.1 b byte, deep)))
      ]

  -- a byte that brings home is taken from states that loop alone
  rooted_at : (b : ℕ) → BringsHome ways states region b → (y : Way) → Has ways y → Has states y.from → HasByte y.bytes b → IsLooping ways y.from
  rooted_at b home y has from byte =
      elim (is.begins y.from from) as (λ _. IsLooping ways y.from) [
        | inl loops ↦ loops
        | inr front ↦ absurd ((home.unspoilt y has).inside front.0 byte)
      ]

  module _ (S : List ℕ) (of : IsOf states S) (whole : HasAll states S) where
    -- what leaves the set comes through nowhere before the last byte
    abbrev Leaves : List ℕ → Type 0
    Leaves [] = Unit {0}
    Leaves (b ∷ []) = Unit {0}
    Leaves (b ∷ c ∷ d) = ((y : Way) → Has ways y → Has S y.from → HasByte y.bytes b → IsLoop y ⊎ Dies ways y.to (c ∷ d)) × Leaves (c ∷ d)

    home_leaves : (d : List ℕ) (before : List ℕ) → LastBrings ways states region d → NoneEnds text before d → Leaves d
    home_leaves [] before last none = tt
    home_leaves (b ∷ []) before last none = tt
    home_leaves (b ∷ c ∷ d) before last none = (
      λ y has s byte.
          elim (is.enters y has (of.each y.from s)) as (λ _. IsLoop y ⊎ Dies ways y.to (c ∷ d)) [
            | inl loop ↦ inl loop
            | inr enter ↦ inr (home_dies (c ∷ d) (b ∷ before) last none.1 y.to enter.0 (deeper text 0 y (depth y.to) b before enter.1 byte tt))
          ],
      home_leaves (c ∷ d) (b ∷ before) last none.1,
    )

    -- a path stays where it is, and the last byte leads home
    ends_home : (d : List ℕ) → LastBrings ways states region d → Leaves d → (p : ℕ) → Has S p → (marks : List ℕ) (q : ℕ) → IsPath ways p d marks q → AreNone marks × Has S q
    ends_home [] last leaves p h marks q path = absurd last
    ends_home (b ∷ []) last leaves p h marks q path =
        let y = path.0 in
        let home = (last.unspoilt y path.1).within (of.each y.from (subst (Has S) (sym path.2) h)) path.3 in
        (subst AreNone path.5 (home.0, subst AreNone (sym path.6.0) tt), whole q (subst (Has states) path.6.1 home.1))
    ends_home (b ∷ c ∷ d) last leaves p h marks q path =
        let y = path.0 in
        let from : Has S y.from = subst (Has S) (sym path.2) h in
        elim (leaves.0 y path.1 from path.3) as (λ _. AreNone marks × Has S q) [
          | inl loop ↦
              let later = ends_home (c ∷ d) last leaves.1 y.to (subst (Has S) (sym loop.1) from) path.4 q path.6 in
              (subst AreNone path.5 (loop.0, later.0), later.1)
          | inr dies ↦ absurd (none_lead ways (c ∷ d) y.to dies path.4 q path.6)
        ]

    -- to each state of the set a path leads from one of them that loops
    leads_home : (d : List ℕ) → AreSmall d → LastBrings ways states region d → (q : ℕ) → Has S q → (p : ℕ) × Has S p × IsLooping ways p × (marks : List ℕ) × IsPath ways p d marks q
    leads_home [] small last q h = absurd last
    leads_home (b ∷ []) small last q h =
        let l = last.each q (of.each q h) in
        let y = l.0 in
        (y.from, whole y.from l.2, rooted_at b last y l.1 l.2 l.5, y.marks ∷ [], (y, l.1, refl, l.5, [], refl, (refl, l.4)))
    leads_home (b ∷ c ∷ d) small last q h =
        let later = leads_home (c ∷ d) small.1 last q h in
        let loop = later.2 in
        let y = loop.0 in (
          later.0,
          later.1,
          loop,
          y.marks ∷ later.3,
          (y, loop.1, loop.2, loop.4 b small.0, later.3, refl, subst (λ x. IsPath ways x (c ∷ d) later.3 q) (sym (loop.3.1 ∙ loop.2)) later.4),
        )

    pub home_back : (d : List ℕ) → AreSmall d → LastBrings ways states region d → NoneEnds text [] d → ComeBack ways S d
    home_back d small last none = record {
      only = ends_home d last (home_leaves d [] last none);
      each = λ q h. let path = leads_home d small last q h in (path.0, path.1, path.3, path.4);
    }

-- ---- what a search tells

last_brings : (ways : List Way) (states region : List ℕ) (d : List ℕ) (k : ℕ) → k < length d → BringsHome ways states region (get_or d k 0) → LastBrings ways states region (take (suc k) d)
last_brings ways states region [] k less home = absurd (omega (arith, less))
last_brings ways states region (b ∷ d) zero less home = home
last_brings ways states region (b ∷ []) (suc k) less home = absurd (omega (arith, less))
last_brings ways states region (b ∷ c ∷ d) (suc k) less home = last_brings ways states region (c ∷ d) k (omega (arith, less)) home

pub passed_home : (ways : List Way) (sets : List (Vec ℕ Global)) (inner : Inner) → ComesHome ways sets inner → (S : List ℕ) → IsAmong sets S →
    (d : List ℕ) → ((i : ℕ) → get_or d i 0 < 256) → (q : ℕ) → q ≤ length d → EndsNowhere inner.text d q → IsBehind inner.kills d q → ComeBack ways S (take q d)
passed_home ways sets inner home S among d small zero le nowhere behind = none_back ways S
passed_home ways sets inner home S among d small (suc k) le nowhere behind =
    home_back ways among.0.items home.region home.depth inner.text (home.is among.0 among.1) S among.2 among.3 (take (suc k) d) (small_taken d (suc k) small)
    (last_brings ways among.0.items home.region d k (omega (arith, le)) (home.homes (get_or d k 0) (behind k refl) among.0 among.1))
    (none_ends inner.text (take (suc k) d) (nowhere_taken inner.text d (suc k) le nowhere) (take (suc k) d) [] 0 (read_none (take (suc k) d)) refl)
