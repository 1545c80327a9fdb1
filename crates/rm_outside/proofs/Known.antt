-- Known bytes over several reads or writes.
use Rattle.std.proofs.Common.{◌≡◌, ◌+◌, ◌-◌, ◌≤◌, ℕ, Bool, true, false, List, [], ◌++◌, length, take, drop, Option, None, Some, sym, ap, ◌∙◌, arith, append-nil}
use Rattle.std.specs.Prelude.{if◌then◌else◌}
use Rattle.std.proofs.KnownBytes.{Appends-kept, Appends-trans}
use Rattle.std.proofs.lemmas.List.{length-append, take-append-drop, take-append-le, take-take, take_all, take_rest}
use Rattle.std.proofs.Math.Seq.{take-add, take-append-add}
use Rattle.std.specs.Io.KnownBytes.{Appends, Consumes, Keeps}
use Rattle.rm_outside.specs.Sink.{AppendsPart}

-- a write of the first bytes, and then one of a part of `&xs[at..]`
pub appends_take : (a b c : Option (List ℕ)) (at count : ℕ) (xs : List ℕ) → Appends a b (take at xs) →
    Appends b c (take count (take (length xs - at) (drop at xs))) → Appends a c (take (at + count) xs)
appends_take a b c at count xs p q =
    let same = take_rest xs at in
    let r : Appends b c (take count (drop at xs)) = rw same at q in
    rw take-add (Appends-trans a b c (take at xs) (take count (drop at xs)) p r)

-- a write, and then one that took nothing
pub appends_kept : (a b c : Option (List ℕ)) (xs : List ℕ) → Appends a b xs → Keeps b c → Appends a c xs
appends_kept = Appends-kept

-- a write of no byte took nothing
pub keeps_nothing : (a b : Option (List ℕ)) (n : ℕ) (xs : List ℕ) → n ≡ 0 → Appends a b (take n xs) → Keeps a b
keeps_nothing None b n xs none h = tt
keeps_nothing (Some old) None n xs none h = absurd h
keeps_nothing (Some old) (Some new) n xs none h = let cut : take n xs ≡ [] = ap (λ (k : ℕ). take k xs) none in h ∙ ap (λ (ys : List ℕ). old ++ ys) cut ∙ append-nil old

-- the first bytes are a part of all
pub part_of : (a b : Option (List ℕ)) (at : ℕ) (xs : List ℕ) → Appends a b (take at xs) → AppendsPart a b xs
part_of a b at xs p = record { part = take at xs; added = p; prefix = record { rest = drop at xs; joined = sym (take-append-drop at xs) } }

-- what was read so far: so many bytes, taken from the known ones and added to the old ones
pub record ReadSoFar (start now : Option (List ℕ)) (old new : List ℕ) (seen : ℕ) : Type 0 where
  pub bytes : List ℕ
  pub appended : new ≡ old ++ bytes
  pub count : length bytes ≡ seen
  pub consumed : Consumes start now bytes

-- the old elements stay where more room is made, and where it is not
pub resized_front : (b : Bool) (start n : ℕ) (old fill : List ℕ) → length old ≡ start → start ≤ n → take start (if b then take n old ++ fill else old) ≡ old
resized_front true start n old fill size up =
    let all : length old ≤ n = omega (arith, size, up) in
    let within : start ≤ length old = omega (arith, size) in
    let low : length old ≤ start = omega (arith, size) in
    ap (λ (xs : List ℕ). take start (xs ++ fill)) (take_all n old all) ∙ take-append-le start old fill within ∙ take_all start old low
resized_front false start n old fill size up = take_all start old (omega (arith, size))

-- what was read into a place behind the old bytes, and then cut behind what was read
pub in_place : (start count len : ℕ) (old room part rest last : List ℕ) → take start room ≡ old → length old ≡ start → count ≤ length part → start + count ≤ len
    → take (start + count) (take len ((take start room ++ (part ++ rest)) ++ last)) ≡ old ++ take count part
in_place start count len old room part rest last front size few within =
    let whole : take start room ++ (part ++ rest) ≡ old ++ (part ++ rest) = ap (λ (xs : List ℕ). xs ++ (part ++ rest)) front in
    let long : start + count ≤ length (old ++ (part ++ rest)) = omega (arith, length-append old (part ++ rest), length-append part rest, size, few) in
    let at : start + count ≡ length old + count = omega (arith, size) in
    take-take (start + count) len ((take start room ++ (part ++ rest)) ++ last) within
    ∙ ap (λ (xs : List ℕ). take (start + count) (xs ++ last)) whole
    ∙ take-append-le (start + count) (old ++ (part ++ rest)) last long
    ∙ ap (λ k. take k (old ++ (part ++ rest))) at
    ∙ take-append-add old (part ++ rest) count
    ∙ ap (λ (xs : List ℕ). old ++ xs) (take-append-le count part rest few)
