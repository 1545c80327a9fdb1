-- States that wait lead back to themselves over bytes up to which nothing that left them is under way.
use Rattle.std.proofs.Common.{◌≡◌, ℕ, zero, suc, ◌+◌, ◌<◌, ◌≤◌, ◌⊎◌, true, false, List, [], ◌∷◌, length, get_or, take, inl, inr, refl, sym, subst, arith, ◌∙◌}
use Rattle.std.specs.FinSet as bytes
use Rattle.std.proofs.lemmas.List.{get_or-take, length-take-le}
use Rattle.span_core.specs.Lists.{Has}
use Rattle.byte_runs.specs.Chains.{AreLeftBy, IsInSet}
use Rattle.marked_automaton.specs.declared.way.Way.{Way}
use Rattle.marked_automaton.specs.Automaton.{ByteClass, HasByte}
use Rattle.way_exits.specs.Paths.{AreNone, ComeBack, IsPath}
use Rattle.way_exits.specs.Waiting.{Forces, IsLoop, IsLooping, IsOf, Waits}

pub differ : false ≡ true → ⊥
differ e = cc

-- ---- states from which no path takes all of the bytes

abbrev pub Dies : List Way → ℕ → List ℕ → Type 0
Dies ways x [] = ⊥
Dies ways x (b ∷ d) = (y : Way) → Has ways y → y.from ≡ x → HasByte y.bytes b → Dies ways y.to d

pub none_lead : (ways : List Way) (d : List ℕ) (x : ℕ) → Dies ways x d → (marks : List ℕ) (q : ℕ) → IsPath ways x d marks q → ⊥
none_lead ways [] x dies marks q path = dies
none_lead ways (b ∷ d) x dies marks q path = none_lead ways d path.0.to (dies path.0 path.1 path.2 path.3) path.4 q path.6

-- the bytes are in the sets in turn, as far as both go
abbrev pub Keeps : List ByteClass → List ℕ → Type 0
Keeps [] d = Unit {0}
Keeps (c ∷ chain) [] = Unit {0}
Keeps (c ∷ chain) (b ∷ d) = HasByte c b × Keeps chain d

pub forced_dies : (ways : List Way) (chain : List ByteClass) (from : List ℕ) → Forces ways false from chain → (d : List ℕ) → (Keeps chain d → ⊥) → (x : ℕ) → Has from x → Dies ways x d
forced_dies ways [] from forced d left x h = absurd (left tt)
forced_dies ways (c ∷ chain) from forced [] left x h = absurd (left tt)
forced_dies ways (c ∷ chain) from forced (b ∷ d) left x h = λ y has is byte.
    elim (forced.1 y has (subst (Has from) (sym is) h)) as (λ _. Dies ways y.to d) [
      | inl loop ↦ absurd (differ loop.0)
      | inr on ↦ forced_dies ways chain forced.0 forced.2 d (λ keeps. left (on.0 b byte, keeps)) y.to on.1
    ]

-- ---- states that wait

-- each byte is one
abbrev pub AreSmall : List ℕ → Type 0
AreSmall [] = Unit {0}
AreSmall (b ∷ d) = (b < 256) × AreSmall d

-- over no bytes
pub none_back : (ways : List Way) (S : List ℕ) → ComeBack ways S []
none_back ways S = record {
  only = λ p h marks q path. (subst AreNone (sym path.0) tt, subst (Has S) path.1 h);
  each = λ q h. (q, h, [], (refl, refl));
}

module _ (ways : List Way) (S : List ℕ) where
  -- what leaves the states comes through nowhere
  abbrev pub Departs : List ℕ → Type 0
  Departs [] = Unit {0}
  Departs (b ∷ d) = ((y : Way) → Has ways y → Has S y.from → HasByte y.bytes b → IsLoop y ⊎ Dies ways y.to d) × Departs d

  stays_there : (d : List ℕ) → Departs d → (p : ℕ) → Has S p → (marks : List ℕ) (q : ℕ) → IsPath ways p d marks q → AreNone marks × Has S q
  stays_there [] departs p h marks q path = (subst AreNone (sym path.0) tt, subst (Has S) path.1 h)
  stays_there (b ∷ d) departs p h marks q path =
      let y = path.0 in
      let from : Has S y.from = subst (Has S) (sym path.2) h in
      elim (departs.0 y path.1 from path.3) as (λ _. AreNone marks × Has S q) [
        | inl loop ↦
            let later = stays_there d departs.1 y.to (subst (Has S) (sym loop.1) from) path.4 q path.6 in
            (subst AreNone path.5 (loop.0, later.0), later.1)
        | inr dies ↦ absurd (none_lead ways d y.to dies path.4 q path.6)
      ]

  -- the path of a loop
  pub looping_path : (d : List ℕ) → AreSmall d → (p : ℕ) → IsLooping ways p → (marks : List ℕ) × IsPath ways p d marks p
  looping_path [] small p loop = ([], (refl, refl))
  looping_path (b ∷ d) small p loop =
      let y = loop.0 in
      let later = looping_path d small.1 p loop in
      (y.marks ∷ later.0, (y, loop.1, loop.2, loop.4 b small.0, later.0, refl, subst (λ x. IsPath ways x d later.0 p) (sym (loop.3.1 ∙ loop.2)) later.1))

  pub departs_back : (looping : (p : ℕ) → Has S p → IsLooping ways p) (d : List ℕ) → AreSmall d → Departs d → ComeBack ways S d
  departs_back looping d small departs = record {
    only = stays_there d departs;
    each = λ q h. let path = looping_path d small q (looping q h) in (q, h, path.0, path.1);
  }

  -- ---- what leaves the states takes bytes of a chain

  module _ (states : List ℕ) (inside : (p : ℕ) → Has S p → Has states p) (chain : List ByteClass) (forced : Forces ways true states chain) where
    -- from no place do the bytes keep to it
    abbrev pub NoneKeeps : List ℕ → Type 0
    NoneKeeps [] = Unit {0}
    NoneKeeps (b ∷ d) = (Keeps chain (b ∷ d) → ⊥) × NoneKeeps d

    leaving_dies : (b : ℕ) (d : List ℕ) → (Keeps chain (b ∷ d) → ⊥) → (y : Way) → Has ways y → Has S y.from → HasByte y.bytes b → IsLoop y ⊎ Dies ways y.to d
    leaving_dies b d left y h s byte = by chain forced left
      where
        by : (cs : List ByteClass) → Forces ways true states cs → (Keeps cs (b ∷ d) → ⊥) → IsLoop y ⊎ Dies ways y.to d
        by [] f not = absurd (not tt)
        by (c ∷ cs) f not =
            elim (f.1 y h (inside y.from s)) as (λ _. IsLoop y ⊎ Dies ways y.to d) [
              | inl loop ↦ inl loop.1
              | inr on ↦ inr (forced_dies ways cs f.0 f.2 d (λ keeps. not (on.0 b byte, keeps)) y.to on.1)
            ]

    pub none_departs : (d : List ℕ) → NoneKeeps d → Departs d
    none_departs [] none = tt
    none_departs (b ∷ d) none = (leaving_dies b d none.0, none_departs d none.1)

-- ---- in numbers

keeps_at : (chain : List ByteClass) (d : List ℕ) → Keeps chain d → (k : ℕ) → k < length chain → k < length d → HasByte (get_or chain k bytes.empty) (get_or d k 0)
keeps_at [] d keeps k less within = absurd (omega (arith, less))
keeps_at (c ∷ chain) [] keeps k less within = absurd (omega (arith, within))
keeps_at (c ∷ chain) (b ∷ d) keeps zero less within = keeps.0
keeps_at (c ∷ chain) (b ∷ d) keeps (suc k) less within = keeps_at chain d keeps.1 k (omega (arith, less)) (omega (arith, within))

pub none_keeps : (ways : List Way) (S states : List ℕ) (inside : (p : ℕ) → Has S p → Has states p) (chain : List ByteClass) (forced : Forces ways true states chain) (d : List ℕ) →
    AreLeftBy chain d (length d) → NoneKeeps ways S states inside chain forced d
none_keeps ways S states inside chain forced [] left = tt
none_keeps ways S states inside chain forced (b ∷ d) left = (
  λ keeps. left 0 (omega arith) (λ k less within.
      let at : k ≡ 0 + k = omega arith in
      subst (λ n. IsInSet chain k (get_or (b ∷ d) n 0)) at (keeps_at chain (b ∷ d) keeps k less (omega (arith, within)))),
  none_keeps ways S states inside chain forced d (λ j less keep. left (suc j) (omega (arith, less)) (λ k few within.
      let at : suc (j + k) ≡ suc j + k = omega arith in
      subst (λ n. IsInSet chain k (get_or (b ∷ d) n 0)) at (keep k few (omega (arith, within))))),
)

pub waits_back : (ways : List Way) (states : List ℕ) (chain : List ByteClass) → Waits ways states chain → (S : List ℕ) → IsOf states S → (d : List ℕ) → AreSmall d →
    AreLeftBy chain d (length d) → ComeBack ways S d
waits_back ways states chain waits S of d small left =
    departs_back ways S (λ p h. waits.looping p (of.each p h)) d small
    (none_departs ways S states of.each chain waits.forced d (none_keeps ways S states of.each chain waits.forced d left))

-- ---- what a search tells

pub small_taken : (d : List ℕ) (q : ℕ) → ((i : ℕ) → get_or d i 0 < 256) → AreSmall (take q d)
small_taken d zero small = tt
small_taken [] (suc q) small = tt
small_taken (b ∷ d) (suc q) small = (small 0, small_taken d q (λ i. small (suc i)))

left_taken : (chain : List ByteClass) (d : List ℕ) (q : ℕ) → q ≤ length d → AreLeftBy chain d q → AreLeftBy chain (take q d) (length (take q d))
left_taken chain d q le left =
    let long : length (take q d) ≡ q = length-take-le q d le in
    subst (λ n. AreLeftBy chain (take q d) n) (sym long)
    (λ j less keep. left j less (λ k few within. subst (λ b. HasByte (get_or chain k bytes.empty) b) (get_or-take q d (j + k) 0 within) (keep k few within)))

pub passed_back : (ways : List Way) (states : List ℕ) (chain : List ByteClass) → Waits ways states chain → (S : List ℕ) → IsOf states S →
    (d : List ℕ) → ((i : ℕ) → get_or d i 0 < 256) → (q : ℕ) → q ≤ length d → AreLeftBy chain d q → ComeBack ways S (take q d)
passed_back ways states chain waits S of d small q le left = waits_back ways states chain waits S of (take q d) (small_taken d q small) (left_taken chain d q le left)
