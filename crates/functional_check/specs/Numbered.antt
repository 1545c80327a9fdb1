-- Sets of names as sets of their numbers.
use Rattle.std.specs.Prelude.{◌≡◌, ℕ, suc, nat_eq, Bool, if◌then◌else◌, List, [], ◌∷◌}
use Rattle.std.specs.Int.{bit_at}
use Rattle.spanner_model.specs.Captures.{VarName}
use Rattle.functional_check.specs.declared.name_bits.NameBits.{NameBits}

-- the number k is in the set
abbrev pub HasNumber : NameBits → ℕ → Type 0
HasNumber set k = bit_at set.bits k ≡ 1

-- of these names, those at the places that p tells
abbrev pub names_where : (ℕ → Bool) → List VarName → List VarName
names_where p [] = []
names_where p (x ∷ names) = (if p 0 then x ∷ names_where (λ k. p (suc k)) names else names_where (λ k. p (suc k)) names)

-- of these names, those whose places are numbers of the set
unfoldable pub members : List VarName → NameBits → List VarName
members names set = names_where (λ k. nat_eq (bit_at set.bits k) 1) names
