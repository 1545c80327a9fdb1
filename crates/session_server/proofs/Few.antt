-- No more sessions are open than there may be.
use Rattle.std.proofs.Common.{arith, ◌<◌, ◌≤◌, ℕ, Bool, true, false, List, [], ◌∷◌, length, take, length-append}
use Rattle.std.specs.Prelude.{not, ◌==◌, if◌then◌else◌}
use Rattle.spanner_model.specs.Passing.{Known}
use Rattle.session_server.specs.declared.TheConstants.{MOST_SESSIONS}
use Rattle.session_server.specs.Requests.{SessionRequest, session_id}
use Rattle.session_server.specs.Replies.{Session, Sessions, sessions_without, with_session, changed, begun, giving, growing, asking, to_come, Reply, Answers, taken, full}
use Rattle.session_server.specs.Replies.{refused, opens, gives, heavy_next, grows, long, heavy_grown, closes, next_of_none, grow_of_none, close_of_none, wants_memory}
use Rattle.session_server.specs.Replies.{to_request, to_no_request, AreReplies, no_line, first_line, FewAreOpen}

fewer : (n : ℕ) (all : Sessions) → length (sessions_without n all) ≤ length all
fewer n [] = omega arith
fewer n (s ∷ all) = by (not (s.0 == n)) (fewer n all)
  where
    by : (b : Bool) → length (sessions_without n all) ≤ length all → length (if b then s ∷ sessions_without n all else sessions_without n all) ≤ length (s ∷ all)
    by true h = omega (arith, h)
    by false h = omega (arith, h)

as_many : (n : ℕ) (s : Session) (all : Sessions) → length (changed n s all) ≤ length all
as_many n s [] = omega arith
as_many n s (t ∷ all) = by (t.0 == n) (as_many n s all)
  where
    by : (b : Bool) → length (changed n s all) ≤ length all → length (if b then (n, s) ∷ all else t ∷ changed n s all) ≤ length (t ∷ all)
    by true h = omega arith
    by false h = omega (arith, h)

one_more : (n : ℕ) (s : Session) (all : Sessions) → length all < MOST_SESSIONS → length (with_session n s all) ≤ MOST_SESSIONS
one_more n s all h = let e = length-append all ((n, s) ∷ []) in omega (arith, h, e)

less : (a b : ℕ) → a ≤ b → b ≤ MOST_SESSIONS → a ≤ MOST_SESSIONS
less a b h k = omega (arith, h, k)

step : (k : Known) (all : Sessions) (r : SessionRequest) (reply : Reply) (after : Sessions) → Answers k all r reply after → length all ≤ MOST_SESSIONS → length after ≤ MOST_SESSIONS
step k all _ _ _ (taken s e) h = h
step k all _ _ _ (full e l) h = h
step k all _ _ _ (refused note e l why) h = h
step k all _ _ _ (opens {n} {query} {document} t names e l is small are) h = one_more n (begun t document) all l
step k all _ _ _ (gives {n} {most} s names rows e are answers) h = less _ _ (as_many n (giving (length (take most (to_come k s names rows))) (asking s)) all) h
step k all _ _ _ (heavy_next {n} s e grew heavy) h = less _ _ (fewer n all) h
step k all _ _ _ (grows {n} {text} s e few) h = less _ _ (as_many n (growing text s) all) h
step k all _ _ _ (long s e past) h = h
step k all _ _ _ (heavy_grown {n} s e few heavy) h = less _ _ (fewer n all) h
step k all _ _ _ (closes {n} s e) h = less _ _ (fewer n all) h
step k all _ _ _ (next_of_none e) h = h
step k all _ _ _ (grow_of_none e) h = h
step k all _ _ _ (close_of_none e) h = h
step k all r _ _ wants_memory h = less _ _ (fewer (session_id r) all) h

steps : (k : Known) (all after : Sessions) (texts : List (List ℕ)) (replies : List Reply) → AreReplies k all texts replies after → length all ≤ MOST_SESSIONS → length after ≤ MOST_SESSIONS
steps k all _ _ _ no_line h = h
steps k all after _ _ (first_line {mid = mid} {texts = texts} {replies = replies} (to_request {r} {reply} is by) rest) h = steps k mid after texts replies rest (step k all r reply mid by h)
steps k all after _ _ (first_line {texts = texts} {replies = replies} (to_no_request none) rest) h = steps k all after texts replies rest h

pub few_open : FewAreOpen
few_open k texts replies after run = steps k [] after texts replies run (omega arith)
