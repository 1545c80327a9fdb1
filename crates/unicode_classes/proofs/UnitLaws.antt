-- Numbers by digits to a base: the digit of highest value, and the rest.
use Rattle.std.proofs.Common.{◌≡◌, ℕ, suc, ◌+◌, ◌-◌, ◌*◌, ◌/◌, ◌%◌, ◌^◌, ◌<◌, ◌≤◌, ap, arith, ◌∙◌}
use Rattle.std.proofs.Math.Nat.{one-le-pow, pow-suc, mod-lt, div-lt_iff_lt-mul, mod-eq-sub-div-mul, div-add-mod', suc-mul}
use Rattle.std.proofs.Math.Numerals.{add-one}
use Rattle.std.proofs.lemmas.Nat.{div-mul-add}

pub unit_positive : (tails : ℕ) → 0 < 64 ^ tails
unit_positive tails = omega (arith, one-le-pow tails 64 (omega arith))

pub unit_more : (tails : ℕ) → 64 ^ suc tails ≡ 64 * 64 ^ tails
unit_more tails = (let e : 64 ^ suc tails ≡ 64 ^ tails * 64 = pow-suc 64 tails in omega arith)

-- below 64 units the highest digit is below 64
pub digit_below : (unit v : ℕ) → 0 < unit → v < 64 * unit → v / unit < 64
digit_below unit v positive l = (div-lt_iff_lt-mul {k = unit} {x = v} {y = 64} positive).1 l

pub last_digit : (tails v : ℕ) → v % 64 ^ suc tails / 64 ^ tails < 64
last_digit tails v =
    let positive : 0 < 64 ^ suc tails = unit_positive (suc tails) in
    let l : v % 64 ^ suc tails < 64 ^ suc tails = mod-lt v positive in
    digit_below (64 ^ tails) (v % 64 ^ suc tails) (unit_positive tails) (omega (arith, l, unit_more tails))

-- a number from n units on and below n + 1 units
pub at_place : (unit n v : ℕ) → n * unit ≤ v → v < n * unit + unit → v / unit ≡ n
at_place unit n v low high =
    let e : v ≡ n * unit + (v - n * unit) = omega arith in
    ap (λ (x : ℕ). x / unit) e ∙ div-mul-add n unit (v - n * unit) (omega arith)

pub rest_at : (unit n q : ℕ) → q < unit → (n * unit + q) % unit ≡ q
rest_at unit n q l =
    let d : (n * unit + q) / unit ≡ n = div-mul-add n unit q l in
    let m : (n * unit + q) % unit ≡ n * unit + q - (n * unit + q) / unit * unit = mod-eq-sub-div-mul (n * unit + q) unit in
    let e : (n * unit + q) / unit * unit ≡ n * unit = ap (λ (x : ℕ). x * unit) d in
    omega arith

pub place_whole : (unit v : ℕ) → v / unit * unit + v % unit ≡ v
place_whole unit v = div-add-mod' v unit

pub rest_below : (unit v : ℕ) → 0 < unit → v % unit < unit
rest_below unit v positive = mod-lt v positive

pub next_unit : (n unit : ℕ) → (n + 1) * unit ≡ n * unit + unit
next_unit n unit = rw add-one (suc-mul n unit)
