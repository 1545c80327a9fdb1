-- The requests of sessions.
use Rattle.std.specs.Prelude.{◌≡◌, ℕ, ◌^◌, ◌<◌, ◌≤◌, List, Some, codes}
use Rattle.std.specs.Str.{IsUtf8}
use Rattle.serde_json.specs.Data.{Data, number, string, object, unsigned, no_members, member}
use Rattle.serde_json.specs.Read.{read}
use Rattle.session_server.specs.declared.TheConstants.{MOST_ROWS_ASKED}

-- open a session of this number on a query's text and a document; give its next rows, so many at most; put a text behind its document; close it
pub data SessionRequest : Type 0 where
  open_request : ℕ → List ℕ → List ℕ → SessionRequest
  next_request : ℕ → ℕ → SessionRequest
  grow_request : ℕ → List ℕ → SessionRequest
  close_request : ℕ → SessionRequest

-- the number of the session
abbrev pub session_id : SessionRequest → ℕ
session_id (open_request id query document) = id
session_id (next_request id most) = id
session_id (grow_request id text) = id
session_id (close_request id) = id

-- the JSON object of a request; its members are these and no others, here by their names in order
abbrev pub request_object : SessionRequest → Data
request_object (open_request id query document) =
    object
    (member (codes "doc") (string document)
    (member (codes "id") (number (unsigned id))
    (member (codes "op") (string (codes "open"))
    (member (codes "query") (string query) no_members))))
request_object (next_request id most) =
    object
    (member (codes "id") (number (unsigned id))
    (member (codes "n") (number (unsigned most))
    (member (codes "op") (string (codes "next")) no_members)))
request_object (grow_request id text) =
    object
    (member (codes "id") (number (unsigned id))
    (member (codes "op") (string (codes "grow"))
    (member (codes "text") (string text) no_members)))
request_object (close_request id) =
    object
    (member (codes "id") (number (unsigned id))
    (member (codes "op") (string (codes "close")) no_members))

-- its numbers are within their limits
abbrev pub IsInRange : SessionRequest → Type 0
IsInRange (open_request id query document) = id < 2 ^ 32
IsInRange (next_request id most) = (id < 2 ^ 32) × (1 ≤ most) × (most ≤ MOST_ROWS_ASKED)
IsInRange (grow_request id text) = id < 2 ^ 32
IsInRange (close_request id) = id < 2 ^ 32

-- The line is this request: UTF-8 (RFC 3629) that reads as its object. A number that reads as `unsigned` is written in digits alone, and
-- of members with one name the last counts (`serde_json`).
pub record IsRequest (line : List ℕ) (r : SessionRequest) : Type 0 where
  pub utf8 : IsUtf8 line
  pub reads : read line ≡ Some (request_object r)
  pub range : IsInRange r

-- the line is no request
abbrev pub IsNoRequest : List ℕ → Type 0
IsNoRequest line = (r : SessionRequest) → ¬ IsRequest line r
