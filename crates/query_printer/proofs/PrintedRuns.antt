-- The maximal runs of a set are the set.
use Rattle.std.proofs.Common.{◌≡◌, ◌≢◌, ℕ, zero, suc, ◌+◌, ◌-◌, ◌<◌, ◌≤◌, Bool, true, false, not, ◌&&◌, ◌||◌, ◌==◌, nat_le, ap, sym, refl, ◌∙◌, arith, if◌then◌else◌}
use Rattle.std.specs.Ordering.{nat_cmp, eq_by_cmp}
use Rattle.std.specs.Cmp.{nat_cmp_total}
use Rattle.std.specs.FinSet as set
use Rattle.std.specs.FinSet.{same_set, nat_cmp-IsAntisymmetric, contains-union, contains-difference, contains-insert, contains-empty}
use Rattle.std.proofs.lemmas.Bool.{and_parts}
use Rattle.std.proofs.lemmas.Bool.Decides.{nat_tests}
use Rattle.std.proofs.Math.Bool.{or-true}
use Rattle.span_core.specs.ByteSets.{bytes_between}
use Rattle.span_core.specs.ByteWordLaws.{contains-bytes_between}
use Rattle.formula_parser.specs.Sets.{Bytes, single, all_but_newline}
use Rattle.query_printer.specs.PrintedFormula.{bytes_below, begins_run, run_end}
use Rattle.formula_parser.proofs.ClassSets.{AreBytes, or_cases}

pub by_bool : (P : Bool → Type 0) (v : Bool) → (v ≡ true → P true) → (v ≡ false → P false) → P v
by_bool P true first second = first refl
by_bool P false first second = second refl

pub cases : (v : Bool) (P : Type 0) → (v ≡ true → P) → (v ≡ false → P) → P
cases true P first second = first refl
cases false P first second = second refl

pub both_ways : (a b : Bool) → (a ≡ true → b ≡ true) → (b ≡ true → a ≡ true) → a ≡ b
both_ways true b to from = sym (to refl)
both_ways false true to from = from refl
both_ways false false to from = refl

pub same_members : (s t : Bytes) → ((q : ℕ) → set.contains s q ≡ set.contains t q) → s ≡ t
same_members s t is = same_set nat_cmp_total nat_cmp-IsAntisymmetric s t is

pub in_single : (b q : ℕ) → set.contains (single b) q ≡ (q == b)
in_single b q = contains-insert nat_cmp_total set.empty b q ∙ ap (λ v. eq_by_cmp nat_cmp q b || v) (contains-empty nat_cmp q) ∙ grind (arith, nat_tests)

-- ---- one run

pub end_from : (s : Bytes) (k b : ℕ) → b ≤ run_end s k b
unfolding run_end
end_from s zero b = omega arith
end_from s (suc k) b =
    by_bool (λ v. b ≤ (if v then run_end s k (b + 1) else b)) (set.contains s (b + 1)) (λ e. let more = end_from s k (b + 1) in omega arith) (λ e. omega arith)

pub end_to : (s : Bytes) (k b : ℕ) → run_end s k b ≤ b + k
unfolding run_end
end_to s zero b = omega arith
end_to s (suc k) b =
    by_bool (λ v. (if v then run_end s k (b + 1) else b) ≤ b + suc k) (set.contains s (b + 1)) (λ e. let more = end_to s k (b + 1) in omega arith) (λ e. omega arith)

-- the bytes of a run are in the set
pub run_in : (s : Bytes) (k b q : ℕ) → set.contains s b ≡ true → b ≤ q → q ≤ run_end s k b → set.contains s q ≡ true
unfolding run_end
run_in s zero b q has from to = let same : b ≡ q = omega arith in rw (← same) has
run_in s (suc k) b q has from to =
    cases (nat_le q b) (set.contains s q ≡ true) (λ h. let same : b ≡ q = grind (arith, nat_tests) in rw (← same) has)
    (λ h.
    let past : b + 1 ≤ q = grind (arith, nat_tests) in
    cases (set.contains s (b + 1)) (set.contains s q ≡ true)
    (λ e.
    let end : run_end s (suc k) b ≡ run_end s k (b + 1) = ap (λ v. if v then run_end s k (b + 1) else b) e in
    run_in s k (b + 1) q e past (omega (arith, end, to)))
    (λ e.
    let end : run_end s (suc k) b ≡ b = ap (λ v. if v then run_end s k (b + 1) else b) e in
    absurd (omega (arith, end, to, past))))

-- a run goes on as long as its bytes are in the set
pub run_reaches : (s : Bytes) (k b r : ℕ) → b ≤ r → r ≤ b + k → ((x : ℕ) → b ≤ x → x ≤ r → set.contains s x ≡ true) → r ≤ run_end s k b
unfolding run_end
run_reaches s zero b r from to all = omega arith
run_reaches s (suc k) b r from to all =
    cases (nat_le r b) (r ≤ run_end s (suc k) b)
    (λ h. let same : r ≡ b = grind (arith, nat_tests) in let low = end_from s (suc k) b in omega (arith, same, low))
    (λ h.
    let past : b + 1 ≤ r = grind (arith, nat_tests) in
    let end : run_end s (suc k) b ≡ run_end s k (b + 1) = ap (λ v. if v then run_end s k (b + 1) else b) (all (b + 1) (omega arith) past) in
    let rest = run_reaches s k (b + 1) r past (omega (arith, to)) (λ x low high. all x (omega (arith, low)) high) in
    omega (arith, end, rest))

-- ---- all runs

-- the bytes of the run from a to e
abbrev pub run_set : ℕ → ℕ → Bytes
run_set a e = if a == e then single a else bytes_between a e

pub in_run : (a e q : ℕ) → set.contains (run_set a e) q ≡ (nat_le a q && nat_le q e)
in_run a e q =
    by_bool (λ v. (a == e) ≡ v → set.contains (if v then single a else bytes_between a e) q ≡ (nat_le a q && nat_le q e)) (a == e)
    (λ h same. in_single a q ∙ grind (arith, nat_tests)) (λ h same. contains-bytes_between a e q) refl

-- the bytes of the runs that begin below n
unfoldable pub runs_set : Bytes → ℕ → Bytes
runs_set s zero = set.empty
runs_set s (suc n) = if begins_run s n then set.union (runs_set s n) (run_set n (run_end s (255 - n) n)) else runs_set s n

union_has : (s t : Bytes) (q : ℕ) → set.contains (set.union s t) q ≡ (set.contains s q || set.contains t q)
union_has s t q = contains-union nat_cmp_total s t q

runs_in : (s : Bytes) (n q : ℕ) → set.contains (runs_set s n) q ≡ true → set.contains s q ≡ true
unfolding runs_set
runs_in s zero q h = let no = contains-empty nat_cmp q in absurd (cc)
runs_in s (suc n) q h =
    let e = run_end s (255 - n) n in
    by_bool (λ v. set.contains (if v then set.union (runs_set s n) (run_set n e) else runs_set s n) q ≡ true → set.contains s q ≡ true) (begins_run s n)
    (λ b is.
    or_cases (set.contains (runs_set s n) q) (set.contains (run_set n e) q) (set.contains s q ≡ true) (runs_in s n q)
    (λ last.
    let range = and_parts (nat_le n q) (nat_le q e) (sym (in_run n e q) ∙ last) in
    let low = range.0 in
    let high = range.1 in
    run_in s (255 - n) n q (and_parts (set.contains s n) (n == 0 || not (set.contains s (n - 1))) b).0 (grind (arith, nat_tests)) (grind (arith, nat_tests)))
    (sym (union_has (runs_set s n) (run_set n e) q) ∙ is))
    (λ b is. runs_in s n q is) h

-- what is in the runs so far is in them with one more
runs_more : (s : Bytes) (n q : ℕ) → set.contains (runs_set s n) q ≡ true → set.contains (runs_set s (suc n)) q ≡ true
unfolding runs_set
runs_more s n q h =
    by_bool (λ v. set.contains (if v then set.union (runs_set s n) (run_set n (run_end s (255 - n) n)) else runs_set s n) q ≡ true) (begins_run s n)
    (λ b. union_has (runs_set s n) (run_set n (run_end s (255 - n) n)) q ∙ ap (λ v. v || set.contains (run_set n (run_end s (255 - n) n)) q) h) (λ b. h)

in_last : (s : Bytes) (n r : ℕ) → begins_run s n ≡ true → n ≤ r → r ≤ run_end s (255 - n) n → set.contains (runs_set s (suc n)) r ≡ true
unfolding runs_set
in_last s n r b low high =
    let e = run_end s (255 - n) n in
    let has : set.contains (run_set n e) r ≡ true = in_run n e r ∙ grind (arith, nat_tests) in
    ap (λ v. set.contains (if v then set.union (runs_set s n) (run_set n e) else runs_set s n) r) b
    ∙ union_has (runs_set s n) (run_set n e) r ∙ ap (λ v. set.contains (runs_set s n) r || v) has ∙ or-true (set.contains (runs_set s n) r)

pub begins_after : (s : Bytes) (m : ℕ) → begins_run s (suc m) ≡ (set.contains s (suc m) && not (set.contains s m))
begins_after s m =
    let some : (suc m == 0) ≡ false = grind (arith, nat_tests) in
    let before : suc m - 1 ≡ m = omega arith in
    ap (λ v. set.contains s (suc m) && (v || not (set.contains s (suc m - 1)))) some ∙ ap (λ n. set.contains s (suc m) && not (set.contains s n)) before

no_start : (s : Bytes) (m : ℕ) → set.contains s (suc m) ≡ true → begins_run s (suc m) ≡ false → set.contains s m ≡ true
no_start s m has b =
    cases (set.contains s m) (set.contains s m ≡ true) (λ e. e)
    (λ e. let one : begins_run s (suc m) ≡ true = begins_after s m ∙ ap (λ v. v && not (set.contains s m)) has ∙ ap not e in absurd (cc))

start_zero : (s : Bytes) → set.contains s 0 ≡ true → begins_run s 0 ≡ true
start_zero s has = ap (λ v. v && true) has

-- all from q on, and the byte before q
and_before : (s : Bytes) (m q r : ℕ) → q ≡ suc m → ((x : ℕ) → q ≤ x → x ≤ r → set.contains s x ≡ true) → set.contains s m ≡ true →
    (x : ℕ) → m ≤ x → x ≤ r → set.contains s x ≡ true
and_before s m q r same all before x low high =
    cases (nat_le x m) (set.contains s x ≡ true) (λ h. let is : m ≡ x = grind (arith, nat_tests) in rw (← is) before)
    (λ h. let past : suc m ≤ x = grind (arith, nat_tests) in all x (omega (arith, same, past)) high)

-- a byte of the set that follows q in one run, where q is below n, is in a run that begins below n
runs_reach : (s : Bytes) (n q r : ℕ) → q < n → n ≤ 256 → q ≤ r → r ≤ 255 → ((x : ℕ) → q ≤ x → x ≤ r → set.contains s x ≡ true) → set.contains (runs_set s n) r ≡ true
runs_reach s zero q r within few le top all = absurd (omega arith)
runs_reach s (suc zero) q r within few le top all =
    let first : q ≡ 0 = omega arith in
    let each : (x : ℕ) → 0 ≤ x → x ≤ r → set.contains s x ≡ true = λ x low high. all x (omega (arith, first)) high in
    in_last s 0 r (start_zero s (each 0 (omega arith) (omega arith))) (omega arith) (run_reaches s 255 0 r (omega arith) (omega arith) each)
runs_reach s (suc (suc m)) q r within few le top all =
    cases (nat_le q m) (set.contains (runs_set s (suc (suc m))) r ≡ true)
    (λ h. let low : q < suc m = grind (arith, nat_tests) in runs_more s (suc m) r (runs_reach s (suc m) q r low (omega arith) le top all))
    (λ h.
    let same : q ≡ suc m = grind (arith, nat_tests) in
    cases (begins_run s (suc m)) (set.contains (runs_set s (suc (suc m))) r ≡ true)
    (λ b. in_last s (suc m) r b (omega (arith, same)) (run_reaches s (255 - suc m) (suc m) r (omega (arith, same)) (omega arith) (λ x low high. all x (omega (arith, same)) high)))
    (λ b.
    let here : set.contains s (suc m) ≡ true = all (suc m) (omega (arith, same)) (omega (arith, same)) in
    runs_more s (suc m) r (runs_reach s (suc m) m r (omega arith) (omega arith) (omega (arith, same)) top
    (λ x low high. and_before s m q r same all (no_start s m here b) x low high))))

-- The maximal runs are the set.
pub runs_are : (s : Bytes) → AreBytes s → runs_set s 256 ≡ s
runs_are s bytes = same_members (runs_set s 256) s (λ q. both_ways (set.contains (runs_set s 256) q) (set.contains s q) (runs_in s 256 q)
    (λ has.
    let small = bytes q has in
    runs_reach s 256 q q small (omega arith) (omega arith) (omega arith) (λ x low high. let same : q ≡ x = omega arith in rw (← same) has)))

-- ---- how many bytes

few_members : (s : Bytes) (n : ℕ) → bytes_below s n ≤ n
unfolding bytes_below
few_members s zero = omega arith
few_members s (suc n) =
    let before = few_members s n in
    by_bool (λ v. bytes_below s n + (if v then 1 else 0) ≤ suc n) (set.contains s n) (λ e. omega (arith, before)) (λ e. omega (arith, before))

not_counted : (s : Bytes) (n r : ℕ) → set.contains s r ≡ false → r ≡ n → bytes_below s (suc n) ≡ bytes_below s n + 0
unfolding bytes_below
not_counted s n r lacks same = ap (λ v. bytes_below s n + (if v then 1 else 0)) (sym (ap (set.contains s) same) ∙ lacks)

one_lacks : (s : Bytes) (n q : ℕ) → q < n → set.contains s q ≡ false → bytes_below s n + 1 ≤ n
unfolding bytes_below
one_lacks s zero q within lacks = absurd (omega arith)
one_lacks s (suc n) q within lacks =
    cases (nat_le n q) (bytes_below s (suc n) + 1 ≤ suc n)
    (λ h.
    let same : q ≡ n = grind (arith, nat_tests) in
    omega (arith, not_counted s n q lacks same, few_members s n))
    (λ h.
    let low : q < n = grind (arith, nat_tests) in
    let before = one_lacks s n q low lacks in
    by_bool (λ v. (bytes_below s n + (if v then 1 else 0)) + 1 ≤ suc n) (set.contains s n) (λ e. omega (arith, before)) (λ e. omega (arith, before)))

two_lack : (s : Bytes) (n p q : ℕ) → p < n → q < n → p ≢ q → set.contains s p ≡ false → set.contains s q ≡ false → bytes_below s n + 2 ≤ n
unfolding bytes_below
two_lack s zero p q pn qn other one two = absurd (omega arith)
two_lack s (suc n) p q pn qn other one two =
    cases (nat_le n p) (bytes_below s (suc n) + 2 ≤ suc n)
    (λ h.
    let same : p ≡ n = grind (arith, nat_tests) in
    let low : q < n = omega (arith, same, other) in
    omega (arith, not_counted s n p one same, one_lacks s n q low two))
    (λ h.
    let low : p < n = grind (arith, nat_tests) in
    cases (nat_le n q) (bytes_below s (suc n) + 2 ≤ suc n)
    (λ k.
    let same : q ≡ n = grind (arith, nat_tests) in
    omega (arith, not_counted s n q two same, one_lacks s n p low one))
    (λ k.
    let below : q < n = grind (arith, nat_tests) in
    let before = two_lack s n p q low below other one two in
    by_bool (λ v. (bytes_below s n + (if v then 1 else 0)) + 2 ≤ suc n) (set.contains s n) (λ e. omega (arith, before)) (λ e. omega (arith, before))))

none_in : (s : Bytes) (n q : ℕ) → bytes_below s n ≡ 0 → q < n → set.contains s q ≡ false
unfolding bytes_below
none_in s zero q none within = absurd (omega arith)
none_in s (suc n) q none within =
    cases (set.contains s n) (set.contains s q ≡ false)
    (λ e. let counted : bytes_below s (suc n) ≡ bytes_below s n + 1 = ap (λ v. bytes_below s n + (if v then 1 else 0)) e in absurd (omega (arith, counted, none)))
    (λ e.
    let counted : bytes_below s (suc n) ≡ bytes_below s n + 0 = ap (λ v. bytes_below s n + (if v then 1 else 0)) e in
    cases (nat_le n q) (set.contains s q ≡ false) (λ h. let same : n ≡ q = grind (arith, nat_tests) in sym (ap (set.contains s) same) ∙ e)
    (λ h. let low : q < n = grind (arith, nat_tests) in none_in s n q (omega (arith, counted, none)) low))

-- one byte below n alone
pub record HasOne (s : Bytes) (n : ℕ) : Type 0 where
  pub the : ℕ
  pub within : the < n
  pub only : (q : ℕ) → q < n → set.contains s q ≡ (q == the)

last_alone : (s : Bytes) (n : ℕ) → set.contains s n ≡ true → bytes_below s n ≡ 0 → (q : ℕ) → q < suc n → set.contains s q ≡ (q == n)
last_alone s n has none q within =
    cases (nat_le n q) (set.contains s q ≡ (q == n)) (λ h. let same : q ≡ n = grind (arith, nat_tests) in ap (set.contains s) same ∙ has ∙ grind (arith, nat_tests))
    (λ h. let low : q < n = grind (arith, nat_tests) in none_in s n q none low ∙ grind (arith, nat_tests))

one_more : (s : Bytes) (n : ℕ) → set.contains s n ≡ false → HasOne s n → HasOne s (suc n)
one_more s n lacks h =
    let w = h.within in
    record {
      the = h.the;
      within = omega (arith, w);
      only = λ q within.
          cases (nat_le n q) (set.contains s q ≡ (q == h.the)) (λ k. let same : q ≡ n = grind (arith, nat_tests) in ap (set.contains s) same ∙ lacks ∙ grind (arith, nat_tests))
          (λ k. let low : q < n = grind (arith, nat_tests) in h.only q low);
    }

one_in : (s : Bytes) (n : ℕ) → bytes_below s n ≡ 1 → HasOne s n
unfolding bytes_below
one_in s zero one = absurd (omega (arith, one))
one_in s (suc n) one =
    cases (set.contains s n) (HasOne s (suc n))
    (λ e.
    let counted : bytes_below s (suc n) ≡ bytes_below s n + 1 = ap (λ v. bytes_below s n + (if v then 1 else 0)) e in
    record { the = n; within = omega arith; only = last_alone s n e (omega (arith, counted, one)) })
    (λ e.
    let counted : bytes_below s (suc n) ≡ bytes_below s n + 0 = ap (λ v. bytes_below s n + (if v then 1 else 0)) e in
    one_more s n e (one_in s n (omega (arith, counted, one))))

not_byte : (s : Bytes) → AreBytes s → (q : ℕ) → 256 ≤ q → set.contains s q ≡ false
not_byte s bytes q big = by (set.contains s q) refl
  where
    by : (v : Bool) → set.contains s q ≡ v → set.contains s q ≡ false
    by true e = let small = bytes q e in absurd (omega (arith, small, big))
    by false e = e

-- a set of one byte is that byte
pub one_byte : (s : Bytes) → AreBytes s → bytes_below s 256 ≡ 1 → (b : ℕ) × (b < 256) × (s ≡ single b)
one_byte s bytes one =
    let h = one_in s 256 one in
    (h.the, h.within, same_members s (single h.the) (λ q. each h q (nat_le 256 q) refl ∙ sym (in_single h.the q)))
  where
    each : (h : HasOne s 256) (q : ℕ) → (w : Bool) → nat_le 256 q ≡ w → set.contains s q ≡ (q == h.the)
    each h q true k =
        let big : 256 ≤ q = grind (arith, nat_tests) in
        let w = h.within in
        not_byte s bytes q big ∙ grind (arith, nat_tests)
    each h q false k = let low : q < 256 = grind (arith, nat_tests) in h.only q low

dot_has : (q : ℕ) → set.contains all_but_newline q ≡ (nat_le q 255 && not (q == 10))
dot_has q =
    contains-difference nat_cmp_total (bytes_between 0 255) (single 10) q
    ∙ ap (λ v. v && not (set.contains (single 10) q)) (contains-bytes_between 0 255 q ∙ grind (arith, nat_tests))
    ∙ ap (λ v. nat_le q 255 && not v) (in_single 10 q)

-- 255 bytes without 0A are all others
pub dot_is : (s : Bytes) → AreBytes s → bytes_below s 256 ≡ 255 → set.contains s 10 ≡ false → s ≡ all_but_newline
dot_is s bytes many lacks = same_members s all_but_newline (λ q. each q (nat_le 256 q) refl (q == 10) refl (set.contains s q) refl ∙ sym (dot_has q))
  where
    each : (q : ℕ) (v : Bool) → nat_le 256 q ≡ v → (w : Bool) → (q == 10) ≡ w → (x : Bool) → set.contains s q ≡ x → set.contains s q ≡ (nat_le q 255 && not (q == 10))
    each q true k w h x e = let big : 256 ≤ q = grind (arith, nat_tests) in not_byte s bytes q big ∙ grind (arith, nat_tests)
    each q false k true h x e = let same : q ≡ 10 = grind (arith, nat_tests) in ap (set.contains s) same ∙ lacks ∙ grind (arith, nat_tests)
    each q false k false h true e = e ∙ grind (arith, nat_tests)
    each q false k false h false e =
        let low : q < 256 = grind (arith, nat_tests) in
        let other : q ≢ 10 = grind (arith, nat_tests) in
        absurd (omega (arith, two_lack s 256 q 10 low (omega arith) other e lacks, many))
