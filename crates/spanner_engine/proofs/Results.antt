-- Results, by cases.
use Rattle.std.proofs.Common.{◌≡◌, sym, subst, IfErr, IsErrAnd, Result, Ok, Err}

module _ {T E : Type 0} where
  -- an error that is handed on
  pub handed_on : (P : E → Type 0) (r : Result T E) (e : E) → IsErrAnd r (λ g. g ≡ e) → P e → IfErr r P
  handed_on P (Ok x) e h p = absurd h
  handed_on P (Err g) e h p = subst P (sym h) p
