-- The ways of a state by their runs.
use Rattle.std.proofs.Common.{◌≡◌, ℕ, ◌+◌, ◌<◌, ◌≤◌, ◌⊎◌, Bool, true, false, List, [], ◌∷◌, ◌++◌, length, map, get_or, inl, inr, refl, sym, ap, subst, ◌∙◌, take, drop, append_assoc, arith}
use Rattle.std.specs.Prelude.{◌||◌, IsTrue, cond}
use Rattle.std.specs.Cmp.{nat_cmp_total}
use Rattle.std.specs.List.{filter}
use Rattle.std.specs.FinSet.{contains-union}
use Rattle.std.specs.FinSet as bytes
use Rattle.std.proofs.lemmas.Bool.{cases_lt}
use Rattle.std.proofs.lemmas.List.{append-nil, drop_all, drop_more, length-drop, map-append, take-append-drop, take_all, take_more}
use Rattle.std.proofs.lemmas.List.Elements.{filter-append}
use Rattle.span_core.specs.Lists.{Has}
use Rattle.span_core.proofs.HasLaws.{Has-append_cases}
use Rattle.marked_automaton.specs.declared.way.Way.{Way}
use Rattle.marked_automaton.specs.Automaton.{ByteClass}
use Rattle.marked_automaton.proofs.Passing.{or_left, or_right}
use Rattle.set_table.specs.Cut.{code_of, codes_on}
use Rattle.set_table.specs.declared.staying.Leading.{Leading}
use Rattle.set_table.specs.Runs.{AreRuns, Bounds}
use Rattle.set_table.specs.Staying.{AreGathered}

-- the first 64 ways, or all of fewer
pub cut_short : (ways : List Way) (k : ℕ) → k ≤ 64 → (k < 64 → length ways ≤ k) → (take k ways ≡ take 64 ways) × (drop k ways ≡ drop 64 ways)
cut_short ways k most short = elim (cases_lt k 64) as (λ _. (take k ways ≡ take 64 ways) × (drop k ways ≡ drop 64 ways)) [
  | inl l ↦
      let few : length ways ≤ 64 = omega (arith, short l, most) in
      (take_all k ways (short l) ∙ sym (take_all 64 ways few), drop_all k ways (short l) ∙ sym (drop_all 64 ways few))
  | inr m ↦ let e : k ≡ 64 = omega (arith, most, m) in (ap (λ n. take n ways) e, ap (λ n. drop n ways) e)
]

-- ---- the bytes of ways

pub bounds_more : (ways : List Way) (i : ℕ) (y : Way) (s t : ByteClass) → i < length ways → y ≡ get_or ways i y → t ≡ bytes.union s y.bytes → Bounds s (take i ways) → Bounds t (take (i + 1) ways)
bounds_more ways i y s t l at is h z b m byte = by (Has-append_cases (take i ways) (get_or ways i y ∷ []) z (subst (λ (zs : List Way). Has zs z) (take_more ways i y l) m))
  where
    both : bytes.contains t b ≡ (bytes.contains s b || bytes.contains y.bytes b)
    both = ap (λ v. bytes.contains v b) is ∙ contains-union nat_cmp_total s y.bytes b

    by : Has (take i ways) z ⊎ Has (get_or ways i y ∷ []) z → IsTrue (bytes.contains t b)
    by (inl e) = both ∙ or_left (bytes.contains s b) (bytes.contains y.bytes b) (h z b e byte)
    by (inr (inl e)) = both ∙ or_right (bytes.contains s b) (bytes.contains y.bytes b) (subst (λ (w : Way). IsTrue (bytes.contains w.bytes b)) (sym e ∙ sym at) byte)
    by (inr (inr e)) = absurd e

-- ---- runs that are laid

pub fewer : (rest behind : List Way) → (length rest ≡ 0 → ⊥) → behind ≡ drop 64 rest → length behind < length rest
fewer rest behind some left = elim (cases_lt 0 (length rest)) as (λ _. length behind < length rest) [
  | inl l ↦ omega (arith, ap length left, length-drop 64 rest, l)
  | inr le ↦ absurd (some (omega (arith, le)))
]

pub nothing : (rest : List Way) → length rest ≡ 0 → rest ≡ []
nothing [] e = refl
nothing (y ∷ rest) e = absurd (omega (arith, e))

-- the runs so far, and then those of the rest
abbrev pub AreLaid : List Way → List ByteClass → List Way → Type 0
AreLaid ways runs rest = (more : List ByteClass) → AreRuns rest more → AreRuns ways (runs ++ more)

pub laid_all : (ways rest : List Way) (runs : List ByteClass) → AreLaid ways runs rest → rest ≡ [] → AreRuns ways runs
laid_all ways rest runs h none = subst (AreRuns ways) (append-nil runs) (h [] none)

-- ---- runs that are read

pub runs_next : (rest : List Way) (runs : List ByteClass) (i : ℕ) (s : ByteClass) → i < length runs → s ≡ get_or runs i s →
    AreRuns rest (drop i runs) → Bounds s (take 64 rest) × AreRuns (drop 64 rest) (drop (i + 1) runs)
runs_next rest runs i s l at h = subst (AreRuns rest) (drop_more runs i s l ∙ ap (λ (r : ByteClass). r ∷ drop (i + 1) runs) (sym at)) h

pub runs_end : (rest : List Way) (runs : List ByteClass) (i : ℕ) → length runs ≤ i → AreRuns rest (drop i runs) → rest ≡ []
runs_end rest runs i l h = subst (AreRuns rest) (drop_all i runs l) h

-- none of a run's ways takes a byte that is none of the run's
none_taken : (s : ByteClass) (b : ℕ) (ways : List Way) → bytes.contains s b ≡ false → Bounds s ways → codes_on b ways ≡ []
none_taken s b [] out h = refl
none_taken s b (y ∷ ways) out h = by (bytes.contains y.bytes b) refl (none_taken s b ways out (λ z c m. h z c (inr m)))
  where
    differ : false ≡ true → ⊥
    differ e = cc

    takes : Way → Bool
    takes z = bytes.contains z.bytes b

    by : (v : Bool) → bytes.contains y.bytes b ≡ v → codes_on b ways ≡ [] → codes_on b (y ∷ ways) ≡ []
    by true e none = absurd (differ (sym out ∙ h y b (inl refl) e))
    by false e none = ap (λ v. map code_of (cond v (y ∷ filter takes ways) (filter takes ways))) e ∙ none

split : (b : ℕ) (ways : List Way) → codes_on b ways ≡ codes_on b (take 64 ways) ++ codes_on b (drop 64 ways)
split b ways =
    let takes : Way → Bool = λ y. bytes.contains y.bytes b in
    ap (codes_on b) (sym (take-append-drop 64 ways)) ∙
    (ap (map code_of) (filter-append takes (take 64 ways) (drop 64 ways)) ∙ map-append code_of (filter takes (take 64 ways)) (filter takes (drop 64 ways)))

-- the numbers so far, and then those of the rest
abbrev pub AreRead : ℕ → List Way → List ℕ → List Way → List ℕ → Type 0
AreRead b ways before rest codes = codes ++ codes_on b rest ≡ before ++ codes_on b ways

pub read_run : (b : ℕ) (ways rest run behind : List Way) (before codes new : List ℕ) → AreRead b ways before rest codes → run ≡ take 64 rest →
    behind ≡ drop 64 rest → new ≡ codes ++ codes_on b run → AreRead b ways before behind new
read_run b ways rest run behind before codes new h front left is =
    (λ i. (is ∙ ap (λ ys. codes ++ codes_on b ys) front) i ++ codes_on b (left i)) ∙
    (append_assoc codes (codes_on b (take 64 rest)) (codes_on b (drop 64 rest)) ∙ (ap (λ ns. codes ++ ns) (sym (split b rest)) ∙ h))

pub skip_run : (b : ℕ) (ways rest behind : List Way) (before codes new : List ℕ) (s : ByteClass) → AreRead b ways before rest codes →
    bytes.contains s b ≡ false → Bounds s (take 64 rest) → behind ≡ drop 64 rest → new ≡ codes →
    AreRead b ways before behind new
skip_run b ways rest behind before codes new s h out bounds left is =
    (λ i. is i ++ codes_on b (left i)) ∙ (ap (λ ns. codes ++ ns) (sym (split b rest ∙ ap (λ ns. ns ++ codes_on b (drop 64 rest)) (none_taken s b (take 64 rest) out bounds))) ∙ h)

-- ---- ways that are gathered by their runs

-- the ways before the rest were gathered
pub record IsPassing (members : List ℕ) (ways rest : List Way) (old new : Leading) : Type 0 where
  pub count : length new.to_members.items ≡ length members
  pub front : List Way
  pub whole : front ++ rest ≡ ways
  pub gathered : (before : List Way) → AreGathered members before old → AreGathered members (before ++ front) new

pub passing_none : (members : List ℕ) (ways : List Way) (x : Leading) → length x.to_members.items ≡ length members → IsPassing members ways ways x x
passing_none members ways x count = record {
  count = count;
  front = [];
  whole = refl;
  gathered = λ before g. subst (λ (ys : List Way). AreGathered members ys x) (sym (append-nil before)) g;
}

pub passing_more : (members : List ℕ) (ways rest run behind : List Way) (old x new : Leading) → IsPassing members ways rest old x →
    run ≡ take 64 rest → behind ≡ drop 64 rest → length new.to_members.items ≡ length members →
    ((before : List Way) → AreGathered members before x → AreGathered members (before ++ run) new) → IsPassing members ways behind old new
passing_more members ways rest run behind old x new h first left count more = record {
  count = count;
  front = h.front ++ run;
  whole = append_assoc h.front run behind ∙ (ap (λ ys. h.front ++ ys) ((λ i. first i ++ left i) ∙ take-append-drop 64 rest) ∙ h.whole);
  gathered = λ before g. subst (λ (ys : List Way). AreGathered members ys new) (append_assoc before h.front run) (more (before ++ h.front) (h.gathered before g));
}

pub passing_all : (members : List ℕ) (ways rest : List Way) (old new : Leading) → IsPassing members ways rest old new → rest ≡ [] →
    (before : List Way) → AreGathered members before old → AreGathered members (before ++ ways) new
passing_all members ways rest old new h none before g =
    subst (λ (ys : List Way). AreGathered members (before ++ ys) new) (sym (append-nil h.front) ∙ (ap (λ ys. h.front ++ ys) (sym none) ∙ h.whole)) (h.gathered before g)
