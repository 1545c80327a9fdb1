-- What the code's requests stand for.
use Rattle.std.specs.Prelude.{◌≡◌, ◌≢◌, ℕ, List, Option, None, Some, string_bytes}
use Rattle.serde_json.specs.Data.{Data, Members, member, number, unsigned}
use Rattle.session_server.specs.declared.requests.OpenRequest.{OpenRequest}
use Rattle.session_server.specs.declared.requests.SessionRequest.{SessionRequest as CodeRequest}
use Rattle.session_server.specs.declared.requests.SessionRequest.TheVariants as code
use Rattle.session_server.specs.Requests.{SessionRequest, open_request, next_request, grow_request, close_request, request_object, IsInRange}

-- what an open asks
abbrev pub opening_of : OpenRequest → SessionRequest
opening_of asked = open_request asked.id (string_bytes asked.query) (string_bytes asked.document)

-- what is asked
abbrev pub request_of : CodeRequest → SessionRequest
request_of (code.Open asked) = opening_of asked
request_of (code.Next id most) = next_request id most
request_of (code.Grow id text) = grow_request id (string_bytes text)
request_of (code.Close id) = close_request id

-- the value is this request
abbrev pub IsObjectOf : Data → SessionRequest → Type 0
IsObjectOf d r = (d ≡ request_object r) × IsInRange r

-- the value is none
abbrev pub IsNoObject : Data → Type 0
IsNoObject d = (r : SessionRequest) → ¬ IsObjectOf d r

-- the first member has this name and a value that is made of something, and these are the others; or it has none such
module _ {X : Type 0} (value : X → Data) where
  abbrev pub TakesMember : List ℕ → Members → Option X → Members → Type 0
  TakesMember name old None new = (x : X) (rest : Members) → old ≢ member name (value x) rest
  TakesMember name old (Some x) new = old ≡ member name (value x) new

abbrev pub itself : Data → Data
itself d = d

abbrev pub whole_number : ℕ → Data
whole_number n = number (unsigned n)
