-- The lines that were served so far, and all of them.
use Rattle.std.proofs.Common.{arith, ◌≡◌, ◌⊎◌, ◌+◌, ◌<◌, ◌≤◌, ℕ, List, [], ◌∷◌, ◌++◌, length, Option, Some, None, inl, inr, refl, sym, ap}
use Rattle.std.proofs.Common.{◌∙◌, subst, append_assoc, append-nil, length-append}
use Rattle.std.specs.Prelude.{codes}
use Rattle.std.specs.Io.KnownBytes.{Appends}
use Rattle.std.proofs.KnownBytes.{Appends-nil, Appends-trans}
use Rattle.std.proofs.lemmas.List.Concat.{flat_map-append}
use Rattle.rm_outside.specs.Change.{Adds, Change, Failed}
use Rattle.rm_outside.specs.Sink.{AppendsPart}
use Rattle.rm_outside.specs.Source.{IsNextLong, IsSpent, LineTaken, NextLine, TakesLine, TakesLines}
use Rattle.rm_outside.proofs.LineLaws.{next_is}
use Rattle.rm_outside.specs.declared.status.Status.{Status}
use Rattle.rm_outside.specs.declared.status.Status.TheVariants as status
use Rattle.note_texts.specs.Notes.{number_between}
use Rattle.spanner_model.specs.Passing.{Known}
use Rattle.session_server.specs.declared.TheConstants.{MOST_LINE_BYTES}
use Rattle.session_server.specs.declared.answering.Opened.{Opened}
use Rattle.session_server.specs.Open.{AreOpen}
use Rattle.session_server.specs.Replies.{AreReplies, IsReply, Reply, Sessions, first_line, no_line, replies_text, reply_text}
use Rattle.session_server.specs.Serve.{AreShort, IsServed, Served, Serves, ServesAll, ServesLines, all_served, line_too_long, source_failed, too_many, wants_memory, write_failed}
use Rattle.note_texts.specs.Outcomes.{Is, IsOutOfMemory, Reports, cut, whole}

-- ---- one line more

takes_more : (old mid now : Option (List ℕ)) (texts : List (List ℕ)) (text : List ℕ) → TakesLines old texts mid → TakesLine mid text now → TakesLines old (texts ++ text ∷ []) now
takes_more old mid now [] text t one = (now, rw (← t) one, refl)
takes_more old mid now (x ∷ texts) text (next, here, later) one = (next, here, takes_more next mid now texts text later one)

replied_more : (k : Known) (all mid after : Sessions) (texts : List (List ℕ)) (replies : List Reply) (text : List ℕ) (reply : Reply) → AreReplies k all texts replies mid →
    IsReply k mid text reply after →
    AreReplies k all (texts ++ text ∷ []) (replies ++ reply ∷ []) after
replied_more k all mid after _ _ text reply no_line one = first_line one no_line
replied_more k all mid after _ _ text reply (first_line {mid = next} {texts = texts} {replies = replies} here later) one =
    first_line here (replied_more k next mid after texts replies text reply later one)

text_more : (replies : List Reply) (reply : Reply) → replies_text (replies ++ reply ∷ []) ≡ replies_text replies ++ reply_text reply
text_more replies reply = flat_map-append reply_text replies (reply ∷ []) ∙ ap (λ (xs : List ℕ). replies_text replies ++ xs) (append-nil (reply_text reply))

-- ---- so far

pub record ServedSoFar (k : Known) (most : ℕ) (start now before after : Option (List ℕ)) (served : ℕ) (cs : List Opened) : Type 0 where
  pub texts : List (List ℕ)
  pub replies : List Reply
  pub all : Sessions
  pub taken : TakesLines start texts now
  pub count : length texts ≡ served
  pub few : served ≤ most
  pub replied : AreReplies k [] texts replies all
  pub stands : AreOpen k cs all
  pub wrote : Appends before after (replies_text replies)

pub none_served : {k : Known} {most : ℕ} {start before : Option (List ℕ)} → ServedSoFar k most start start before before 0 []
none_served {before = before} = record { texts = []; replies = []; all = []; taken = refl; count = refl; few = omega arith; replied = no_line; stands = tt; wrote = Appends-nil before }

module _ {k : Known} {most : ℕ} {start now before after : Option (List ℕ)} {served : ℕ} {cs : List Opened} (s : ServedSoFar k most start now before after served cs) where
  few_texts : length s.texts ≤ most
  few_texts = let a = s.count in let b = s.few in omega (arith, a, b)

  run : Served k s.texts s.replies
  run = record { after = s.all; replied = s.replied }

-- ---- the lines that were served are all that are served

module _ {k : Known} {most : ℕ} {source out : Change} {now : Option (List ℕ)} {served : ℕ} {cs : List Opened} {end : Status} {note : List ℕ}
    (s : ServedSoFar k most source.old.bytes now out.old.bytes out.new.bytes served cs) where
  pub ends_served : IsSpent now → IsSpent source.new.bytes → Is end note status.Done (codes "end") → ServesLines k most source out end note
  ends_served spent none is = all_served s.texts s.replies now s.taken spent none (few_texts s) (run s) s.wrote is

  pub ends_failed : Failed source → Is end note status.Read (codes "read failed: requests") → ServesLines k most source out end note
  ends_failed failed is = source_failed s.texts s.replies now s.taken failed (few_texts s) (run s) s.wrote is

  pub ends_long : IsNextLong MOST_LINE_BYTES now → Is end note status.Long (number_between (codes "request longer than ") MOST_LINE_BYTES (codes " bytes")) →
      ServesLines k most source out end note
  ends_long long is = line_too_long s.texts s.replies now s.taken long (few_texts s) (run s) s.wrote is

  pub ends_many : (text : List ℕ) → TakesLine now text source.new.bytes → most ≤ served → Is end note status.Long (codes "too many requests") → ServesLines k most source out end note
  ends_many text next many is = let a = s.count in let b = s.few in too_many s.texts s.replies now text s.taken next (omega (arith, a, b, many)) (run s) s.wrote is

  pub ends_memory : IsOutOfMemory end note → ServesLines k most source out end note
  ends_memory is = wants_memory s.texts s.replies now s.taken (few_texts s) (run s) s.wrote is

-- ---- a line more

-- the next line was taken, and has this reply, with the code's sessions behind it
pub record NextReplied (k : Known) (all : Sessions) (now new : Option (List ℕ)) (told : List ℕ) (then : List Opened) : Type 0 where
  pub text : List ℕ
  pub reply : Reply
  pub behind : Sessions
  pub takes : TakesLine now text new
  pub answers : IsReply k all text reply behind
  pub tells : told ≡ reply_text reply
  pub stands : AreOpen k then behind

-- the line that was taken into an empty list is answered
pub next_replied : {k : Known} {most limit served : ℕ} {start now before after new : Option (List ℕ)} {cs then : List Opened} {empty into asked told shown : List ℕ}
    (s : ServedSoFar k most start now before after served cs) → LineTaken limit now new empty into → empty ≡ [] → asked ≡ into →
    ((all : Sessions) → AreOpen k cs all → (r : Reply) × (after : Sessions) × IsReply k all asked r after × (told ≡ reply_text r) × AreOpen k then after) →
    shown ≡ told → NextReplied k s.all now new shown then
next_replied s (text, short, joined, takes) cleared is replies shows =
    let (reply, behind, answers, tells, stands) = replies s.all s.stands in
    let same = is ∙ joined ∙ ap (λ (xs : List ℕ). xs ++ text) cleared in
    record { text = text; reply = reply; behind = behind; takes = takes; answers = rw (← same) answers; tells = shows ∙ tells; stands = stands }

module _ {k : Known} {most : ℕ} {start now before after new : Option (List ℕ)} {served : ℕ} {cs then : List Opened} {told : List ℕ}
    (s : ServedSoFar k most start now before after served cs) (n : NextReplied k s.all now new told then) (room : served < most) where
  count_more : length (s.texts ++ n.text ∷ []) ≡ served + 1
  count_more = let a = s.count in let e = length-append s.texts (n.text ∷ []) in omega (arith, a, e)

  taken_more : TakesLines start (s.texts ++ n.text ∷ []) new
  taken_more = takes_more start now new s.texts n.text s.taken n.takes

  more_replied : AreReplies k [] (s.texts ++ n.text ∷ []) (s.replies ++ n.reply ∷ []) n.behind
  more_replied = replied_more k [] s.all n.behind s.texts s.replies n.text n.reply s.replied n.answers

  pub one_served : {put : Option (List ℕ)} → Appends after put told → ServedSoFar k most start new before put (served + 1) then
  one_served {put} wrote = record {
    texts = s.texts ++ n.text ∷ [];
    replies = s.replies ++ n.reply ∷ [];
    all = n.behind;
    taken = taken_more;
    count = count_more;
    few = omega (arith, room);
    replied = more_replied;
    stands = n.stands;
    wrote = rw (text_more s.replies n.reply)
        (Appends-trans before after put (replies_text s.replies) (reply_text n.reply) s.wrote (rw (← n.tells) wrote));
  }

pub ends_write : {k : Known} {most : ℕ} {source out : Change} {now after : Option (List ℕ)} {served : ℕ} {cs then : List Opened} {told : List ℕ} {end : Status} {note : List ℕ}
    (s : ServedSoFar k most source.old.bytes now out.old.bytes after served cs) → NextReplied k s.all now source.new.bytes told then → served < most →
    AppendsPart after out.new.bytes told → Failed out → Is end note status.Write (codes "write failed") → ServesLines k most source out end note
ends_write {out = out} {after = after} s n room part failed is =
    let all_text = replies_text s.replies in
    let joined : replies_text (s.replies ++ n.reply ∷ []) ≡ (all_text ++ part.part) ++ part.prefix.rest =
    text_more s.replies n.reply ∙ ap (λ (xs : List ℕ). all_text ++ xs) (sym n.tells ∙ part.prefix.joined) ∙ sym (append_assoc all_text part.part part.prefix.rest) in
    let many = count_more s n room in
    write_failed (s.texts ++ n.text ∷ []) (s.replies ++ n.reply ∷ []) (taken_more s n room) (omega (arith, many, room))
    (record { after = n.behind; replied = more_replied s n room })
    (record {
      part = all_text ++ part.part;
      added = Appends-trans out.old.bytes after out.new.bytes all_text part.part s.wrote part.added;
      prefix = record { rest = part.prefix.rest; joined = joined };
    })
    failed is

-- ---- all lines

no_next : (text rest : List ℕ) → NextLine [] text rest → ⊥
no_next text rest next = by text rest [] refl next
  where
    by : (t r bytes : List ℕ) → bytes ≡ [] → NextLine bytes t r → ⊥
    by _ r _ e (Rattle.rm_outside.specs.Source.ended {line = []} inside) = absurd (cc)
    by _ r _ e (Rattle.rm_outside.specs.Source.ended {line = b ∷ l} inside) = absurd (cc)
    by t _ _ e (Rattle.rm_outside.specs.Source.last inside some) = some e

-- these lines are the first of all lines, of which the others are left
left_over : (bytes : List ℕ) (now : Option (List ℕ)) (xs ys : List (List ℕ)) → TakesLines (Some bytes) xs now → TakesLines (Some bytes) ys (Some []) →
    (rest : List (List ℕ)) × (ys ≡ xs ++ rest) × TakesLines now rest (Some [])
left_over bytes now [] ys a b = (ys, refl, rw a b)
left_over bytes now (x ∷ xs) [] (None, here, later) b = absurd here
left_over bytes now (x ∷ xs) [] (Some mid, here, later) b = let e : bytes ≡ [] = cc in absurd (no_next x mid (rw (← e) here))
left_over bytes now (x ∷ xs) (y ∷ ys) (None, here, later) b = absurd here
left_over bytes now (x ∷ xs) (y ∷ ys) (Some mid, here, later) (None, there, after) = absurd there
left_over bytes now (x ∷ xs) (y ∷ ys) (Some mid, here, later) (Some other, there, after) =
    let (same, to) = next_is bytes x mid here in
    let (also, goes) = next_is bytes y other there in
    let meets : other ≡ mid = goes ∙ sym to in
    let (rest, joined, left) = left_over mid now xs ys later (rw (← meets) after) in
    (rest, ap (λ (l : List ℕ). l ∷ ys) (also ∙ sym same) ∙ ap (λ (ls : List (List ℕ)). x ∷ ls) joined, left)

none_left : (now : Option (List ℕ)) (rest : List (List ℕ)) → IsSpent now → (bytes : List ℕ) → now ≡ Some bytes → TakesLines now rest (Some []) → rest ≡ []
none_left now [] spent bytes is t = refl
none_left None (x ∷ rest) spent bytes is t = absurd (cc)
none_left (Some left) (x ∷ rest) spent bytes is (None, here, later) = absurd here
none_left (Some left) (x ∷ rest) spent bytes is (Some mid, here, later) = absurd (no_next x mid (rw (← spent) here))

-- what is told stays told
still_told : (bytes : List ℕ) (xs : List (List ℕ)) (now : Option (List ℕ)) → TakesLines (Some bytes) xs now → (left : List ℕ) × (now ≡ Some left)
still_told bytes [] now t = (bytes, t)
still_told bytes (x ∷ xs) now (None, here, later) = absurd here
still_told bytes (x ∷ xs) now (Some mid, here, later) = still_told mid xs now later

short_after : (xs rest : List (List ℕ)) → AreShort (xs ++ rest) → AreShort rest
short_after [] rest s = s
short_after (x ∷ xs) rest s = short_after xs rest s.1

not_long : (left : List ℕ) (rest : List (List ℕ)) → AreShort rest → TakesLines (Some left) rest (Some []) → IsNextLong MOST_LINE_BYTES (Some left) → ⊥
not_long left [] short t (text, after, next, long) = let e : left ≡ [] = cc in no_next text after (rw (← e) next)
not_long left (x ∷ rest) short (None, here, later) long = here
not_long left (x ∷ rest) short (Some mid, here, later) (text, after, next, long) =
    let a = (next_is left x mid here).0 in
    let b = (next_is left text after next).0 in
    let same = ap (λ (l : List ℕ). length l) (b ∙ sym a) in
    let few = short.0 in
    omega (arith, same, few, long)

not_more : (most : ℕ) (left text : List ℕ) (xs rest : List (List ℕ)) (new : Option (List ℕ)) → length xs ≡ most → length (xs ++ rest) ≤ most → TakesLines (Some left) rest (Some []) →
    TakesLine (Some left) text new → ⊥
not_more most left text xs [] (Some new) many few t next = let e : left ≡ [] = cc in no_next text new (rw (← e) next)
not_more most left text xs [] None many few t next = next
not_more most left text xs (x ∷ rest) new many few t next = let e = length-append xs (x ∷ rest) in absurd (omega (arith, e, many, few))

module _ (k : Known) (most : ℕ) (source out notes : Change) (result : Status) (bytes : List ℕ) (texts : List (List ℕ)) (is : source.old.bytes ≡ Some bytes)
    (lines : TakesLines (Some bytes) texts (Some []))
    (short : AreShort texts) (few : length texts ≤ most) (quiet : ¬ Failed source) (puts : ¬ Failed out) (says : ¬ Failed notes) where
  reported : (end : Status) (note : List ℕ) → Reports end note notes result → (result ≡ end) × Adds notes note
  reported end note (whole ends adds) = (ends, adds)
  reported end note (cut ends failed part) = absurd (says failed)

  from_start : (xs : List (List ℕ)) (now : Option (List ℕ)) → TakesLines source.old.bytes xs now → TakesLines (Some bytes) xs now
  from_start xs now t = rw (← is) t

  pub serves_them : (end : Status) (note : List ℕ) → ServesLines k most source out end note → Reports end note notes result → IsServed k texts out notes result ⊎ (result ≡ status.Memory)
  serves_them end note (all_served xs replies now t spent end_spent few_xs served adds told) report =
      let taken = from_start xs now t in
      let (rest, joined, left) = left_over bytes now xs texts taken lines in
      let (held, tells) = still_told bytes xs now taken in
      let none : rest ≡ [] = none_left now rest spent held tells left in
      let same : xs ≡ texts = sym (joined ∙ ap (λ (ls : List (List ℕ)). xs ++ ls) none ∙ append-nil xs) in
      let (ends, notes_put) = reported end note report in
      inl (record {
        done = ends ∙ told.ends;
        replies = replies;
        served = rw (← same) served;
        wrote = adds;
        noted = rw (← told.says) notes_put;
      })
  serves_them end note (source_failed xs replies now t failed few_xs served adds told) report = absurd (quiet failed)
  serves_them end note (line_too_long xs replies now t long few_xs served adds told) report =
      let taken = from_start xs now t in
      let (rest, joined, left) = left_over bytes now xs texts taken lines in
      let (held, tells) = still_told bytes xs now taken in
      absurd (not_long held rest (short_after xs rest (subst AreShort joined short)) (rw (← tells) left)
      (subst (IsNextLong MOST_LINE_BYTES) tells long))
  serves_them end note (too_many xs replies now next t more many served adds told) report =
      let taken = from_start xs now t in
      let (rest, joined, left) = left_over bytes now xs texts taken lines in
      let (held, tells) = still_told bytes xs now taken in
      absurd (not_more most held next xs rest source.new.bytes many (rw (← joined) few)
      (rw (← tells) left) (rw (← tells) more))
  serves_them end note (write_failed xs replies t few_xs served part failed told) report = absurd (puts failed)
  serves_them end note (wants_memory xs replies now t few_xs served adds told) report = inr ((reported end note report).0 ∙ told.ends)

pub serves_all : (k : Known) (most : ℕ) (source out notes : Change) (result : Status) → Serves k most source out notes result → ServesAll k most source out notes result
serves_all k most source out notes result s = λ bytes texts is lines short few quiet puts says.
    serves_them k most source out notes result bytes texts is lines short few quiet puts says s.end s.note s.done s.report
