-- What opening a document is refused with.
use Rattle.std.proofs.Common.{◌≡◌, ◌⊎◌, inl, inr, Err, ap}
use Rattle.std.specs.Prelude.{IsErrOf}

-- what holds where a result is the one fault or the other holds where another result is
pub same_fault : {A B E P : Type 0} (e f g : E) → (IsErrOf {T = A} (Err e) f ⊎ IsErrOf {T = A} (Err e) g → P) → IsErrOf {T = B} (Err e) f ⊎ IsErrOf {T = B} (Err e) g → P
same_fault e f g holds (inl is) = let same : e ≡ f = cc is in holds (inl (ap Err same))
same_fault e f g holds (inr is) = let same : e ≡ g = cc is in holds (inr (ap Err same))
