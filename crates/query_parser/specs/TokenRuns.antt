-- Reading a text token by token.
use Rattle.std.specs.Prelude.{◌≡◌, ℕ, ◌+◌, List, Result, Ok}
use Rattle.query_parser.specs.Tokens.{Token, TokenAt, BlankAt}
use Rattle.query_parser.specs.Reads.{Refusal}
use Rattle.query_parser.specs.Nest.{Nest, move, outermost}

-- From the place p on, where s was read, blanks and tokens lead to the place e, where f is read: `step` says what a token at a place makes.
pub data Run {S : Type 0} (step : ℕ → Token → S → Result S Refusal) (text : List ℕ) : ℕ → S → ℕ → S → Type 0 where
  run_ends : {p : ℕ} {s : S} → Run step text p s p s
  run_blank : {p e : ℕ} {s f : S} → BlankAt text p → Run step text (p + 1) s e f → Run step text p s e f
  run_token : {p q e : ℕ} {s k f : S} {t : Token} → TokenAt text p t q → step p t s ≡ Ok k → Run step text q k e f → Run step text p s e f

-- what a token makes of a query does not depend on its place
abbrev pub query_step : ℕ → Token → Nest → Result Nest Refusal
query_step at t n = move t n

-- before the place p, this is read of a query
abbrev pub IsReadTo : List ℕ → ℕ → Nest → Type 0
IsReadTo text p n = Run query_step text 0 outermost p n
