-- What taking rows costs, by the answers that were tried.
use Rattle.std.proofs.Common.{◌≡◌, ℕ, ◌+◌, ◌-◌, ◌*◌, ◌<◌, ◌≤◌, Bool, true, false, List, [], ◌∷◌, ◌++◌, length, take, if◌then◌else◌, refl, ap, ◌∙◌, arith, length-append}
use Rattle.spanner_model.specs.Captures.{VarName}
use Rattle.spanner_model.specs.Answers.{SpanRow}
use Rattle.spanner_model.specs.Passing.{Check, passing}
use Rattle.rematch_program.specs.Work.{clock}
use Rattle.rematch_program.specs.Steps.{next_steps}
use Rattle.rematch_program.specs.Taking.{PageTakes, TrialTakes}

-- Of the answers that were left these were tried, and where they ended one try more found none. So many of them pass as the page has, and
-- one more where they did not end.
pub record HasTried (checks : List Check) (names : List VarName) (d : List ℕ) (rest page : List SpanRow) (tests old new : ℕ) : Type 0 where
  pub tried : List SpanRow
  pub left : List SpanRow
  pub joined : rest ≡ tried ++ left
  pub ended : Bool
  pub few : length (passing checks names d tried) + (if ended then 1 else 0) ≤ length page + 1
  pub each : tests ≡ length checks
  pub steps : new ≤ old + length tried * (next_steps (length names) + tests) + (if ended then next_steps (length names) else 0)

more_times : (a k N : ℕ) → a * N ≤ (a + k) * N
more_times a k N = omega arith

times_le : (a b N : ℕ) → a ≤ b → a * N ≤ b * N
times_le a b N le = let e : a + (b - a) ≡ b = omega (arith, le) in rw (← e) (more_times a (b - a) N)

-- where nothing is asked
plain_steps : (T P N old new : ℕ) (ended : Bool) → T + (if ended then 1 else 0) ≤ P + 1 → new ≤ old + T * (N + 0) + (if ended then N else 0) → new ≤ old + (P + 1) * N
plain_steps T P N old new true few steps =
    let le = times_le (T + 1) (P + 1) N few in
    let one : (T + 1) * N ≡ T * N + N = omega arith in
    let none : T * (N + 0) ≡ T * N = omega arith in
    omega (arith, le, one, none, steps)
plain_steps T P N old new false few steps =
    let low : T ≤ P + 1 = omega (arith, few) in
    let le = times_le T (P + 1) N low in
    let none : T * (N + 0) ≡ T * N = omega arith in
    omega (arith, le, none, steps)

asked_steps : (T N t old new : ℕ) (ended : Bool) → new ≤ old + T * (N + t) + (if ended then N else 0) → new ≤ old + ((T + 1) * N + T * t)
asked_steps T N t old new true steps =
    let one : (T + 1) * N ≡ T * N + N = omega arith in
    let both : T * (N + t) ≡ T * N + T * t = omega arith in
    omega (arith, one, both, steps)
asked_steps T N t old new false steps =
    let one : (T + 1) * N ≡ T * N + N = omega arith in
    let both : T * (N + t) ≡ T * N + T * t = omega arith in
    omega (arith, one, both, steps)

-- with the tests that are asked counted as the checks
counted_steps : (T N t u old new : ℕ) (ended : Bool) → t ≡ u → new ≤ old + T * (N + t) + (if ended then N else 0) → new ≤ old + T * (N + u) + (if ended then N else 0)
counted_steps T N t u old new ended same steps = rw (← same) steps

pub take_front : (front left rows : List SpanRow) → rows ≡ front ++ left → take (length front) rows ≡ front
take_front front left rows is = ap (take (length front)) is ∙ of front
  where
    of : (xs : List SpanRow) → take (length xs) (xs ++ left) ≡ xs
    of [] = refl
    of (x ∷ xs) = ap (λ (ys : List SpanRow). x ∷ ys) (of xs)

pub page_takes : (checks : List Check) (names : List VarName) (d : List ℕ) (rest page : List SpanRow) (tests old new : ℕ) → HasTried checks names d rest page tests old new →
    PageTakes checks names d rest page (clock old new)
page_takes [] names d rest page tests old new h =
    plain_steps (length h.tried) (length page) (next_steps (length names)) old new h.ended h.few
    (counted_steps (length h.tried) (next_steps (length names)) tests 0 old new h.ended h.each h.steps)
page_takes (c ∷ checks) names d rest page tests old new h =
    let long = ap length h.joined ∙ length-append h.tried h.left in
    let few : length (passing (c ∷ checks) names d h.tried) ≤ length page + 1 = omega (arith, h.few) in (
      length h.tried,
      omega (arith, long),
      rw (take_front h.tried h.left rest h.joined) few,
      asked_steps (length h.tried) (next_steps (length names)) (length (c ∷ checks)) old new h.ended
          (counted_steps (length h.tried) (next_steps (length names)) tests (length (c ∷ checks)) old new h.ended h.each h.steps),
    )

-- all of them
pub trial_takes : (checks : List Check) (names : List VarName) (d : List ℕ) (rest : List SpanRow) (tests old new : ℕ) → tests ≡ length checks →
    new ≤ old + length rest * (next_steps (length names) + tests) + next_steps (length names) → TrialTakes checks names rest (passing checks names d rest) (clock old new)
trial_takes [] names d rest tests old new each steps =
    plain_steps (length rest) (length rest) (next_steps (length names)) old new true (omega arith)
    (counted_steps (length rest) (next_steps (length names)) tests 0 old new true each steps)
trial_takes (c ∷ checks) names d rest tests old new each steps =
    asked_steps (length rest) (next_steps (length names)) (length (c ∷ checks)) old new true
    (counted_steps (length rest) (next_steps (length names)) tests (length (c ∷ checks)) old new true each steps)

-- ---- step by step: so many were tried before, n of all; the next try leaves fewer

-- so many more were tried
next_tries : (all before after U : ℕ) → after ≤ before → before ≤ all → (all - before) * U + (before - after) * U ≡ (all - after) * U
next_tries all before after U le few =
    let e : (all - before) + (before - after) ≡ all - after = omega (arith, le, few) in
    let sum : (all - before) * U + (before - after) * U ≡ ((all - before) + (before - after)) * U = omega arith in
    sum ∙ ap (λ (m : ℕ). m * U) e

pub steps_found : (all before after U old mid new : ℕ) → after ≤ before → before ≤ all → mid ≤ old + (all - before) * U → new ≤ mid + ((before - after) * U + 0) → new ≤ old + (all - after) * U
steps_found all before after U old mid new le few first next = let e = next_tries all before after U le few in omega (arith, e, first, next)

steps_unit : (n v t : ℕ) → 1 ≤ n → n * (2 * v + t) + 2 ≤ n * (next_steps v + t)
steps_unit n v t l =
    let e : n * (next_steps v + t) ≡ n * (2 * v + t) + (n * (2 * v) + 4 * n) = omega arith in
    omega (arith, e, l)

steps_four : (n v t : ℕ) → 4 * n ≤ n * (next_steps v + t)
steps_four n v t = let e : n * (next_steps v + t) ≡ 4 * n + n * (4 * v + t) = omega arith in omega (arith, e)

-- a run of rows behind the next one, each of which takes no more than four steps, and one look more two
pub steps_runs : (all before mid after v t old s0 s1 s2 : ℕ) → after ≤ mid → mid < before → before ≤ all → s0 ≤ old + (all - before) * (next_steps v + t)
    → s1 ≤ s0 + ((before - mid) * (2 * v + t) + 0) → s2 ≤ s1 + (4 * (mid - after) + 2) → s2 ≤ old + (all - after) * (next_steps v + t)
steps_runs all before mid after v t old s0 s1 s2 low lt few first next run =
    let U : ℕ = next_steps v + t in
    let D : ℕ = before - mid in
    let E : ℕ = mid - after in
    let one : 1 ≤ D = omega (arith, lt) in
    let le : mid ≤ before = omega (arith, lt) in
    let sum : (all - before) * U + D * U ≡ (all - mid) * U = next_tries all before mid U le few in
    let in_all : mid ≤ all = omega (arith, lt, few) in
    let sum' : (all - mid) * U + E * U ≡ (all - after) * U = next_tries all mid after U low in_all in
    let each : D * (2 * v + t) + 2 ≤ D * U = steps_unit D v t one in
    let runs : 4 * E ≤ E * U = steps_four E v t in
    omega (arith, sum, sum', each, runs, first, next, run)

pub steps_ended : (all before N U old mid new : ℕ) → before ≤ all → mid ≤ old + (all - before) * U → new ≤ mid + ((before - 0) * U + N) → new ≤ old + all * U + N
steps_ended all before N U old mid new few first next =
    let e = next_tries all before 0 U (omega arith) few in
    let same : (all - 0) * U ≡ all * U = ap (λ (m : ℕ). m * U) (let h : all - 0 ≡ all = omega arith in h) in
    omega (arith, e, same, first, next)
