-- States that wait lead back to themselves over bytes in which a text does not stand, and of which the last kills.
use Rattle.std.proofs.Common.{◌≡◌, ℕ, zero, suc, ◌+◌, ◌-◌, ◌<◌, ◌≤◌, ◌⊎◌, List, [], ◌∷◌, length, get_or, take, drop, inl, inr, refl, sym, subst, arith, ◌∙◌}
use Rattle.std.proofs.lemmas.List.{get_or-take, length-take-le}
use Rattle.span_core.specs.Lists.{Has}
use Rattle.byte_runs.specs.Inner.{EndsNowhere, Inner, IsBehind, StandsAt}
use Rattle.marked_automaton.specs.declared.way.Way.{Way}
use Rattle.marked_automaton.specs.Automaton.{HasByte}
use Rattle.way_exits.specs.Inside.{Deepens, IsTextBehind, IsRegion, Kills, LastKills, NoneEnds, WaitsInside}
use Rattle.way_exits.specs.Paths.{ComeBack}
use Rattle.way_exits.specs.Waiting.{IsLoop, IsOf}
use Rattle.way_exits.proofs.WaitLaws.{AreSmall, Departs, Dies, departs_back, none_back, small_taken}

-- what a way on a byte leaves behind
pub deeper : (text : List ℕ) (from : ℕ) (y : Way) (to b : ℕ) (before : List ℕ) → Deepens text from y to → HasByte y.bytes b → IsTextBehind text from before → IsTextBehind text to (b ∷ before)
deeper text from y to b before (inl none) byte ends = subst (λ m. IsTextBehind text m (b ∷ before)) (sym none) tt
deeper text from y to b before (inr more) byte ends = subst (λ m. IsTextBehind text m (b ∷ before)) (sym more.0) (more.1 b byte, ends)

module _ (ways : List Way) (states region : List ℕ) (depth : ℕ → ℕ) (text : List ℕ) (is : IsRegion ways states region depth text) where
  inside_dies : (d : List ℕ) (before : List ℕ) → LastKills ways states region d → NoneEnds text before d → (x : ℕ) → Has region x → IsTextBehind text (depth x) before → Dies ways x d
  inside_dies [] before last none x h ends = absurd last
  inside_dies (b ∷ []) before last none x h ends = λ y has from byte. absurd (last.inside y has (subst (Has region) (sym from) h) byte)
  inside_dies (b ∷ c ∷ d) before last none x h ends = λ y has from byte.
      let deep : IsTextBehind text (depth y.from) before = subst (λ p. IsTextBehind text (depth p) before) (sym from) ends in
      elim (is.stays y has (subst (Has region) (sym from) h)) as (λ _. Dies ways y.to (c ∷ d)) [
        | inl stay ↦ inside_dies (c ∷ d) (b ∷ before) last none.1 y.to stay.0 (deeper text (depth y.from) y (depth y.to) b before stay.1 byte deep)
        | inr close ↦ absurd (none.0 (subst (λ m. IsTextBehind text m (b ∷ before)) close.0 (close.1 b byte, deep)))
      ]

  module _ (S : List ℕ) (of : IsOf states S) where
    inside_departs : (d : List ℕ) (before : List ℕ) → LastKills ways states region d → NoneEnds text before d → Departs ways S d
    inside_departs [] before last none = tt
    inside_departs (b ∷ []) before last none = (λ y has s byte. inl (last.outside y has (of.each y.from s) byte), tt)
    inside_departs (b ∷ c ∷ d) before last none = (
      λ y has s byte.
          elim (is.enters y has (of.each y.from s)) as (λ _. IsLoop y ⊎ Dies ways y.to (c ∷ d)) [
            | inl loop ↦ inl loop
            | inr enter ↦ inr (inside_dies (c ∷ d) (b ∷ before) last none.1 y.to enter.0 (deeper text 0 y (depth y.to) b before enter.1 byte tt))
          ],
      inside_departs (c ∷ d) (b ∷ before) last none.1,
    )

    pub inside_back : (d : List ℕ) → AreSmall d → LastKills ways states region d → NoneEnds text [] d → ComeBack ways S d
    inside_back d small last none = departs_back ways S (λ p h. is.looping p (of.each p h)) d small (inside_departs d [] last none)

-- ---- what a search tells

-- the bytes that were read, the last first, are those before the place e
pub record AreRead (before d : List ℕ) (e : ℕ) : Type 0 where
  pub count : length before ≡ e
  pub each : (i k : ℕ) → i + suc k ≡ e → get_or before i 0 ≡ get_or d k 0

pub read_none : (d : List ℕ) → AreRead [] d 0
read_none d = record { count = refl; each = λ i k e. absurd (omega (arith, e)) }

read_more : (before d : List ℕ) (e b : ℕ) → AreRead before d e → get_or d e 0 ≡ b → AreRead (b ∷ before) d (suc e)
read_more before d e b so at = record { count = (let c = so.count in omega (arith, c)); each = by }
  where
    by : (i k : ℕ) → i + suc k ≡ suc e → get_or (b ∷ before) i 0 ≡ get_or d k 0
    by zero k same = let here : e ≡ k = omega (arith, same) in sym at ∙ subst (λ n. get_or d e 0 ≡ get_or d n 0) here refl
    by (suc i) k same = so.each i k (omega (arith, same))

ends_reads : (text : List ℕ) (m : ℕ) (before : List ℕ) → IsTextBehind text m before → (m ≤ length before) × ((i k : ℕ) → i + suc k ≡ m → get_or before i 0 ≡ get_or text k 0)
ends_reads text zero before h = (omega arith, λ i k e. absurd (omega (arith, e)))
ends_reads text (suc m) [] h = absurd h
ends_reads text (suc m) (b ∷ before) h = let r = ends_reads text m before h.1 in (omega (arith, r.0), by r.1)
  where
    by : ((i k : ℕ) → i + suc k ≡ m → get_or before i 0 ≡ get_or text k 0) → (i k : ℕ) → i + suc k ≡ suc m → get_or (b ∷ before) i 0 ≡ get_or text k 0
    by rest zero k same = let here : m ≡ k = omega (arith, same) in subst (λ n. b ≡ get_or text n 0) here h.0
    by rest (suc i) k same = rest i k (omega (arith, same))

ends_stands : (text before d : List ℕ) (e : ℕ) → AreRead before d e → IsTextBehind text (length text) before → StandsAt text d (e - length text)
ends_stands text before d e so ends j less =
    let r = ends_reads text (length text) before ends in
    let short : length text ≤ e = omega (arith, r.0, so.count) in
    sym (so.each (length text - suc j) (e - length text + j) (omega (arith, short, less))) ∙ r.1 (length text - suc j) j (omega (arith, less))

nil_cons : (b : ℕ) (rest : List ℕ) → [] ≡ b ∷ rest → ⊥
nil_cons b rest e = cc

at_drop : (d : List ℕ) (e b : ℕ) (rest : List ℕ) → drop e d ≡ b ∷ rest → (e < length d) × (get_or d e 0 ≡ b) × (drop (suc e) d ≡ rest)
at_drop [] zero b rest is = absurd (nil_cons b rest is)
at_drop [] (suc e) b rest is = absurd (nil_cons b rest is)
at_drop (x ∷ d) zero b rest is = (omega arith, first is, later is)
  where
    first : x ∷ d ≡ b ∷ rest → x ≡ b
    first is = cc

    later : x ∷ d ≡ b ∷ rest → d ≡ rest
    later is = cc
at_drop (x ∷ d) (suc e) b rest is = let r = at_drop d e b rest is in (omega (arith, r.0), r.1, r.2)

pub none_ends : (text d : List ℕ) → EndsNowhere text d (length d) → (rest before : List ℕ) (e : ℕ) → AreRead before d e → drop e d ≡ rest → NoneEnds text before rest
none_ends text d nowhere [] before e so is = tt
none_ends text d nowhere (b ∷ rest) before e so is =
    let here = at_drop d e b rest is in
    let more = read_more before d e b so here.1 in (
      λ ends.
          let long = (ends_reads text (length text) (b ∷ before) ends).0 in
          nowhere (suc e - length text) (omega (arith, here.0, long, more.count)) (ends_stands text (b ∷ before) d (suc e) more ends),
      none_ends text d nowhere rest (b ∷ before) (suc e) more here.2,
    )

pub nowhere_taken : (text d : List ℕ) (q : ℕ) → q ≤ length d → EndsNowhere text d q → EndsNowhere text (take q d) (length (take q d))
nowhere_taken text d q le nowhere j fits stands =
    let long : length (take q d) ≡ q = length-take-le q d le in
    nowhere j (omega (arith, fits, long)) (λ m less. sym (get_or-take q d (j + m) 0 (omega (arith, fits, long, less))) ∙ stands m less)

last_kills : (ways : List Way) (states region : List ℕ) (d : List ℕ) (k : ℕ) → k < length d → Kills ways states region (get_or d k 0) → LastKills ways states region (take (suc k) d)
last_kills ways states region [] k less kills = absurd (omega (arith, less))
last_kills ways states region (b ∷ d) zero less kills = kills
last_kills ways states region (b ∷ []) (suc k) less kills = absurd (omega (arith, less))
last_kills ways states region (b ∷ c ∷ d) (suc k) less kills = last_kills ways states region (c ∷ d) k (omega (arith, less)) kills

pub passed_inside : (ways : List Way) (states : List ℕ) (inner : Inner) → WaitsInside ways states inner → (S : List ℕ) → IsOf states S →
    (d : List ℕ) → ((i : ℕ) → get_or d i 0 < 256) → (q : ℕ) → q ≤ length d → EndsNowhere inner.text d q → IsBehind inner.kills d q → ComeBack ways S (take q d)
passed_inside ways states inner waits S of d small zero le nowhere behind = none_back ways S
passed_inside ways states inner waits S of d small (suc k) le nowhere behind =
    inside_back ways states waits.region waits.depth inner.text waits.is S of (take (suc k) d) (small_taken d (suc k) small)
    (last_kills ways states waits.region d k (omega (arith, le)) (waits.kills (get_or d k 0) (behind k refl)))
    (none_ends inner.text (take (suc k) d) (nowhere_taken inner.text d (suc k) le nowhere) (take (suc k) d) [] 0 (read_none (take (suc k) d)) refl)
