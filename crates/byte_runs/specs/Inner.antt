-- Texts inside, and bytes that kill.
use Rattle.std.specs.Prelude.{◌≡◌, ℕ, ◌+◌, ◌<◌, ◌≤◌, suc, List, length, slice_index, IsTrue, refl}
use Rattle.std.specs.Ordering.{nat_cmp}
use Rattle.std.specs.Coded.{Coded, code_by, coded×, coded_list, coded_ℕ}
use Rattle.std.specs.FinSet as bytes

-- a text, and a set of bytes
pub record Inner : Type 0 where
  pub text : List ℕ
  pub kills : bytes.FinSet nat_cmp

abbrev pub inner_code : Coded Inner
inner_code =
    code_by (List ℕ × bytes.FinSet nat_cmp) (coded× (coded_list coded_ℕ) (bytes.code coded_ℕ)) (λ t. (t.text, t.kills)) (λ p. record { text = p.0; kills = p.1 }) (λ _. refl)

-- the bytes from the place j on are those of the text
abbrev pub StandsAt : List ℕ → List ℕ → ℕ → Type 0
StandsAt text d j = (m : ℕ) → m < length text → slice_index d (j + m) ≡ slice_index text m

-- the text ends at no place up to q
abbrev pub EndsNowhere : List ℕ → List ℕ → ℕ → Type 0
EndsNowhere text d q = (j : ℕ) → j + length text ≤ q → ¬ StandsAt text d j

-- before the place stands a byte of the set, unless it is the first
abbrev pub IsBehind : bytes.FinSet nat_cmp → List ℕ → ℕ → Type 0
IsBehind kills d q = (k : ℕ) → q ≡ suc k → IsTrue (bytes.contains kills (slice_index d k))
