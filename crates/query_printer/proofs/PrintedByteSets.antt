-- The printed form of a set of bytes is a unit that stands for it.
use Rattle.std.proofs.Common.{◌≡◌, ◌≢◌, ℕ, zero, suc, ◌+◌, ◌-◌, ◌<◌, ◌≤◌, ◌⊎◌, inl, inr, true, false, not, ◌&&◌, ◌||◌, ◌==◌, List, [], ◌∷◌, ◌++◌, ap, sym, refl, ◌∙◌, subst, arith, append_assoc, if◌then◌else◌}
use Rattle.std.specs.FinSet as set
use Rattle.std.proofs.lemmas.Bool.{and_parts, not-true}
use Rattle.std.proofs.lemmas.Bool.Decides.{nat_tests}
use Rattle.std.proofs.lemmas.List.{append-nil}
use Rattle.spanner_model.specs.Tree.{one}
use Rattle.spanner_model.specs.WellBuilt.{IsByteClass}
use Rattle.span_core.specs.ByteSets.{bytes_between}
use Rattle.formula_parser.specs.Sets.{Bytes, single}
use Rattle.formula_parser.specs.Runs.{begins_with}
use Rattle.formula_parser.specs.Classes.{begins_range, SpellsItem, lone, range, SpellsItems, one_item, more_items, of_items}
use Rattle.formula_parser.specs.Spells.{IsPlain, dot, class}
use Rattle.query_printer.specs.PrintedFormula.{bytes_below, begins_run, run_end, byte_text, run_text, runs_text, set_text}
use Rattle.formula_parser.proofs.ClassSets.{AreBytes, union_empty}
use Rattle.query_printer.proofs.PrintedBytes.{byte_plain, byte_elem, byte_begins}
use Rattle.query_printer.proofs.PrintedRuns.{by_bool, cases, begins_after, end_from, end_to, run_set, runs_set, runs_are, in_single, one_byte, dot_is}
use Rattle.formula_parser.specs.Alphabet.{of_bytes}

-- ---- first bytes

begins_more : (c : ℕ) (t u : List ℕ) → begins_with c t ≡ false → begins_with c u ≡ false → begins_with c (t ++ u) ≡ false
begins_more c [] u h k = k
begins_more c (d ∷ t) u h k = h

no_dash : (t : List ℕ) → begins_with 45 t ≡ false → begins_range t ≡ false
no_dash [] h = refl
no_dash (c ∷ t) h = ap (λ v. if v then not (begins_with 93 t) else false) h

run_begins : (a e : ℕ) → a < 256 → (c : ℕ) → begins_with c (byte_text a ++ []) ≡ false → ((u : List ℕ) → begins_with c (byte_text a ++ u) ≡ false) → (after : List ℕ) →
    begins_with c (run_text a e ++ after) ≡ false
run_begins a e small c alone each after =
    by_bool (λ v. begins_with c ((if v then byte_text a else byte_text a ++ 45 ∷ byte_text e) ++ after) ≡ false) (a == e)
    (λ h. each after) (λ h. ap (begins_with c) (append_assoc (byte_text a) (45 ∷ byte_text e) after) ∙ each (45 ∷ byte_text e ++ after))

run_no_dash : (a e : ℕ) → a < 256 → (after : List ℕ) → begins_range (run_text a e ++ after) ≡ false
run_no_dash a e small after =
    no_dash (run_text a e ++ after)
    (run_begins a e small 45 (byte_begins a small 45 refl (λ h. omega (arith, h)) []) (byte_begins a small 45 refl (λ h. omega (arith, h))) after)

run_no_caret : (a e : ℕ) → a < 256 → begins_with 94 (run_text a e) ≡ false
run_no_caret a e small =
    ap (begins_with 94) (sym (append-nil (run_text a e)))
    ∙ run_begins a e small 94 (byte_begins a small 94 refl (λ h. omega (arith, h)) []) (byte_begins a small 94 refl (λ h. omega (arith, h))) []

-- ---- runs

-- a run is an item
run_item : (a e : ℕ) → a < 256 → e < 256 → a ≤ e → (after : List ℕ) → begins_range after ≡ false → SpellsItem of_bytes (run_text a e) (run_set a e) after
run_item a e small high le after stops =
    by_bool (λ v. SpellsItem of_bytes (if v then byte_text a else byte_text a ++ 45 ∷ byte_text e) (if v then single a else bytes_between a e) after) (a == e)
    (λ h. lone (byte_elem a small) stops) (λ h. range (byte_elem a small) (byte_elem e high) le)

-- no items, or items that stand for the set
abbrev pub SomeItems : List ℕ → Bytes → List ℕ → Type 0
SomeItems t s after = ((t ≡ []) × (s ≡ set.empty)) ⊎ SpellsItems of_bytes t s after

more_run : (t u after : List ℕ) (s r : Bytes) → SomeItems t s (u ++ after) → SpellsItem of_bytes u r after → SomeItems (t ++ u) (set.union s r) after
more_run t u after s r (inl none) is =
    inr (rw none.0
    (rw (← (sym (union_empty r) ∙ ap (λ x. set.union x r) (sym none.1))) (one_item is)))
more_run t u after s r (inr are) is = inr (more_items are is)

runs_items : (s : Bytes) (n : ℕ) → n ≤ 256 → (after : List ℕ) → begins_range after ≡ false → SomeItems (runs_text s n) (runs_set s n) after
unfolding runs_text runs_set
runs_items s zero few after stops = inl (refl, refl)
runs_items s (suc n) few after stops =
    by_bool (λ v. SomeItems (runs_text s n ++ (if v then run_text n e else [])) (if v then set.union (runs_set s n) (run_set n e) else runs_set s n) after) (begins_run s n)
    (λ b.
    let low = end_from s (255 - n) n in
    let high = end_to s (255 - n) n in
    more_run (runs_text s n) (run_text n e) after (runs_set s n) (run_set n e)
    (runs_items s n (omega arith) (run_text n e ++ after) (run_no_dash n e (omega arith) after))
    (run_item n e (omega arith) (omega (arith, high)) low after stops))
    (λ b. rw (append-nil (runs_text s n)) (runs_items s n (omega arith) after stops))
  where
    e : ℕ
    e = run_end s (255 - n) n

runs_no_caret : (s : Bytes) (n : ℕ) → n ≤ 256 → begins_with 94 (runs_text s n) ≡ false
unfolding runs_text
runs_no_caret s zero few = refl
runs_no_caret s (suc n) few =
    begins_more 94 (runs_text s n) (if begins_run s n then run_text n (run_end s (255 - n) n) else []) (runs_no_caret s n (omega arith))
    (by_bool (λ v. begins_with 94 (if v then run_text n (run_end s (255 - n) n) else []) ≡ false) (begins_run s n)
    (λ b. run_no_caret n (run_end s (255 - n) n) (omega arith)) (λ b. refl))

items_there : (s : Bytes) (t after : List ℕ) → s ≢ set.empty → SomeItems t s after → SpellsItems of_bytes t s after
items_there s t after some (inl none) = absurd (some none.1)
items_there s t after some (inr are) = are

-- the runs in brackets are a class of the set
class_is : (s : Bytes) → IsByteClass s → (after : List ℕ) → IsPlain of_bytes (91 ∷ (runs_text s 256 ++ 93 ∷ [])) (one s) after
class_is s built after =
    let items : SomeItems (runs_text s 256) s (93 ∷ after) =
    rw (runs_are s built.1) at (runs_items s 256 (omega arith) (93 ∷ after) refl) in
    class (of_items (runs_no_caret s 256 (omega arith)) (items_there s (runs_text s 256) (93 ∷ after) built.0 items), built.0) refl

-- ---- one byte

none_yet : (b n : ℕ) → n ≤ b → runs_text (single b) n ≡ []
unfolding runs_text
none_yet b zero few = refl
none_yet b (suc n) few =
    let lacks : set.contains (single b) n ≡ false = in_single b n ∙ grind (arith, nat_tests) in
    let no : begins_run (single b) n ≡ false = ap (λ v. v && (n == 0 || not (set.contains (single b) (n - 1)))) lacks in
    ap (λ v. runs_text (single b) n ++ (if v then run_text n (run_end (single b) (255 - n) n) else [])) no ∙ append-nil (runs_text (single b) n) ∙ none_yet b n (omega arith)

starts_there : (b : ℕ) → begins_run (single b) b ≡ true
starts_there zero = ap (λ v. v && true) (in_single 0 0)
starts_there (suc m) =
    let has : set.contains (single (suc m)) (suc m) ≡ true = in_single (suc m) (suc m) ∙ grind (arith, nat_tests) in
    let lacks : set.contains (single (suc m)) m ≡ false = in_single (suc m) m ∙ grind (arith, nat_tests) in
    begins_after (single (suc m)) m ∙ ap (λ v. v && not (set.contains (single (suc m)) m)) has ∙ ap not lacks

ends_there : (b k : ℕ) → run_end (single b) k b ≡ b
unfolding run_end
ends_there b zero = refl
ends_there b (suc k) =
    let lacks : set.contains (single b) (b + 1) ≡ false = in_single b (b + 1) ∙ grind (arith, nat_tests) in
    ap (λ v. if v then run_end (single b) k (b + 1) else b) lacks

run_of_one : (b : ℕ) → run_text b b ≡ byte_text b
run_of_one b = let same : (b == b) ≡ true = grind (arith, nat_tests) in ap (λ v. if v then byte_text b else byte_text b ++ 45 ∷ byte_text b) same

one_text : (b n : ℕ) → b < n → runs_text (single b) n ≡ byte_text b
unfolding runs_text
one_text b zero past = absurd (omega arith)
one_text b (suc n) past =
    cases (n == b) (runs_text (single b) (suc n) ≡ byte_text b)
    (λ h.
    let same : n ≡ b = grind (arith, nat_tests) in
    rw same
    (ap (λ v. runs_text (single b) b ++ (if v then run_text b (run_end (single b) (255 - b) b) else [])) (starts_there b)
    ∙ ap (λ t. t ++ run_text b (run_end (single b) (255 - b) b)) (none_yet b b (omega arith))
    ∙ ap (run_text b) (ends_there b (255 - b)) ∙ run_of_one b))
    (λ h.
    let low : b < n = grind (arith, nat_tests) in
    let no : begins_run (single b) n ≡ false = ap (λ v. v && (n == 0 || not (set.contains (single b) (n - 1)))) (in_single b n ∙ h) in
    ap (λ v. runs_text (single b) n ++ (if v then run_text n (run_end (single b) (255 - n) n) else [])) no ∙ append-nil (runs_text (single b) n) ∙ one_text b n low)

one_is : (s : Bytes) → AreBytes s → bytes_below s 256 ≡ 1 → (after : List ℕ) → IsPlain of_bytes (runs_text s 256) (one s) after
one_is s bytes only after =
    let (b, small, same) = one_byte s bytes only in
    rw (← same) at (rw (← (one_text b 256 small)) at (byte_plain b small after))

-- ---- a set

equal : (m n : ℕ) → (m == n) ≡ true → m ≡ n
equal m n h = grind (arith, nat_tests)

pub set_plain : (s : Bytes) → IsByteClass s → (after : List ℕ) → IsPlain of_bytes (set_text s) (one s) after
unfolding set_text
set_plain s built after =
    by_bool (λ v. IsPlain of_bytes (if v then runs_text s 256 else if bytes_below s 256 == 255 && not (set.contains s 10) then 46 ∷ [] else 91 ∷ (runs_text s 256 ++ 93 ∷ [])) (one s) after)
    (bytes_below s 256 == 1) (λ h. one_is s built.1 (equal (bytes_below s 256) 1 h) after)
    (λ h. by_bool (λ v. IsPlain of_bytes (if v then 46 ∷ [] else 91 ∷ (runs_text s 256 ++ 93 ∷ [])) (one s) after) (bytes_below s 256 == 255 && not (set.contains s 10))
    (λ k.
    let parts = and_parts (bytes_below s 256 == 255) (not (set.contains s 10)) k in
    subst (λ r. IsPlain of_bytes (46 ∷ []) (one r) after) (sym (dot_is s built.1 (equal (bytes_below s 256) 255 parts.0) (not-true (set.contains s 10) parts.1))) (dot refl))
    (λ k. class_is s built after))
