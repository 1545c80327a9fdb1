-- A part of a line, of what one read gave.
use Rattle.std.proofs.Common.{arith, add-one, ◌≢◌, ◌≡◌, ◌+◌, ◌-◌, ◌<◌, ◌≤◌, ℕ, suc, Bool, true, false, List, [], ◌∷◌, ◌++◌, length, take, drop, length-drop, Option, None, Some, inl, inr, refl, sym, ap, ◌∙◌, append_assoc, append-nil, take-append-drop}
use Rattle.std.proofs.lemmas.List.{drop_all, drop_at, take_all, take_at, take_rest}
use Rattle.std.proofs.Math.Seq.{take-add}
use Rattle.std.specs.Io.KnownBytes.{Consumes, Keeps, prepend_known}
use Rattle.rm_outside.specs.declared.source.LineFault.{LineFault}
use Rattle.rm_outside.specs.declared.source.LineFault.TheVariants.{Failed, TooLong, OutOfMemory}
use Rattle.rm_outside.specs.LineInput.{BeginsLong, FindsEnd, IsPartFault, IsReadFault, TakesPart, left_of}
use Rattle.rm_outside.specs.Reading.{ReadsOn}
use Rattle.rm_outside.proofs.LineLaws.{line_ends, line_is, line_of, no_end}

-- ---- of bytes that were read

consumed : (known : Option (List ℕ)) (all part left : List ℕ) → all ≡ part ++ left → Consumes (prepend_known all known) (prepend_known left known) part
consumed None all part left is = tt
consumed (Some xs) all part left is = ap (λ (ys : List ℕ). ys ++ xs) is ∙ append_assoc part left xs

-- more bytes than these have no end
pub begins_long : (room n : ℕ) (all : List ℕ) (known : Option (List ℕ)) → n ≡ length (line_of all) → room < n → BeginsLong room (prepend_known all known)
begins_long room n all known is long =
    let line = line_of all in
    let left = drop (length line) all in
    let whole : all ≡ line ++ left = sym (take-append-drop (length line) all) ∙ ap (λ (ys : List ℕ). ys ++ left) (line_is all) in
    (line, prepend_known left known, no_end all, consumed known all line left whole, omega arith)

module _ (room n : ℕ) (all left before after : List ℕ) (known : Option (List ℕ)) (is : n ≡ length (line_of all)) (few : n ≤ room) (put : after ≡ before ++ take n all) where
  line_taken : take n all ≡ line_of all
  line_taken = ap (λ (k : ℕ). take k all) is ∙ line_is all

  -- a part with its end
  pub part_within : n < length all → left ≡ drop (suc n) all → TakesPart room (prepend_known all known) (prepend_known left known) before after n true
  part_within inside rest =
      let line = line_of all in
      let whole : all ≡ line ++ 10 ∷ drop (suc n) all = elim (line_ends all) [
        | inl ends ↦ ends ∙ ap (λ (k : ℕ). line ++ 10 ∷ drop (suc k) all) (sym is)
        | inr ends ↦ (let long : length all ≡ length line = ap (λ (ys : List ℕ). length ys) ends in absurd (omega (arith, long, is, inside)))
      ] in
      let joined : all ≡ (line ++ 10 ∷ []) ++ left = whole ∙ ap (λ (ys : List ℕ). line ++ 10 ∷ ys) (sym rest) ∙ sym (append_assoc line (10 ∷ []) left) in
      record {
        part = line;
        counted = sym is;
        few = few;
        inside = no_end all;
        appended = put ∙ ap (λ (ys : List ℕ). before ++ ys) line_taken;
        taken = consumed known all (line ++ 10 ∷ []) left joined;
        some = λ no. absurd (cc);
      }

  -- all that was read
  pub part_whole : 0 < n → left ≡ drop n all → TakesPart room (prepend_known all known) (prepend_known left known) before after n false
  part_whole some rest =
      let line = line_of all in
      let joined : all ≡ (line ++ []) ++ left = sym (take-append-drop n all) ∙ ap (λ (ys : List ℕ). ys ++ drop n all) line_taken ∙
      ap (λ (ys : List ℕ). ys ++ drop n all) (sym (append-nil line)) ∙ ap (λ (ys : List ℕ). (line ++ []) ++ ys) (sym rest) in
      record {
        part = line;
        counted = sym is;
        few = few;
        inside = no_end all;
        appended = put ∙ ap (λ (ys : List ℕ). before ++ ys) line_taken;
        taken = consumed known all (line ++ []) left joined;
        some = λ no. some;
      }

-- ---- of bytes that stand behind others

abbrev behind : ℕ → List ℕ → List ℕ
behind held xs = take (length xs - held) (drop held xs)

module _ (held room n : ℕ) (xs read : List ℕ) (known : Option (List ℕ)) (same : read ≡ xs) (is : n ≡ length (line_of (behind held read))) where
  behind_is : behind held read ≡ drop held xs
  behind_is = take_rest read held ∙ ap (λ (ys : List ℕ). drop held ys) same

  at_line : n ≡ length (line_of (drop held xs))
  at_line = is ∙ ap (λ (ys : List ℕ). length (line_of ys)) behind_is

  pub cut_long : room < n → BeginsLong room (prepend_known (drop held xs) known)
  cut_long long = begins_long room n (drop held xs) known at_line long

  -- all that was read
  pub cut_whole : (s e : ℕ) (buffer : List ℕ) → e ≤ s → n ≤ room → n ≡ length (behind held read) → held < length xs →
      TakesPart room (prepend_known (drop held xs) known) (left_of s e buffer known) (take held xs) xs n false
  cut_whole s e buffer used few all some =
      let size : n ≡ length (drop held xs) = all ∙ ap (λ (ys : List ℕ). length ys) behind_is in
      let none : e - s ≡ 0 = omega (arith, used) in
      let left : take (e - s) (drop s buffer) ≡ drop n (drop held xs) =
      ap (λ (k : ℕ). take k (drop s buffer)) none ∙ sym (drop_all n (drop held xs) (omega (arith, size))) in
      let put : xs ≡ take held xs ++ take n (drop held xs) =
      sym (take-append-drop held xs) ∙ ap (λ (ys : List ℕ). take held xs ++ ys) (sym (take_all n (drop held xs) (omega (arith, size)))) in
      part_whole room n (drop held xs) _ (take held xs) xs known at_line few put (omega (arith, size, length-drop held xs, some)) left

  -- a part with its end, behind which these bytes are left
  pub cut_ended : (after left : List ℕ) → n ≤ room → n ≤ length (behind held read) → n ≢ length (behind held read) → after ≡ take (held + n) xs →
      left ≡ behind (n + 1) (behind held read) → TakesPart room (prepend_known (drop held xs) known) (prepend_known left known) (take held xs) after n true
  cut_ended after left few small inside cut rest =
      let size = ap (λ (ys : List ℕ). length ys) behind_is in
      let there : left ≡ drop (n + 1) (drop held xs) = rest ∙ take_rest (behind held read) (n + 1) ∙ ap (λ (ys : List ℕ). drop (n + 1) ys) behind_is in
      part_within room n (drop held xs) left (take held xs) after known at_line few (cut ∙ take-add held n xs) (omega (arith, size, small, inside)) (rw add-one at there)

-- ---- behind a read that kept what is left

kept_consumes : (a b c : Option (List ℕ)) (bytes : List ℕ) → Keeps a b → Consumes b c bytes → Consumes a c bytes
kept_consumes None b c bytes kept taken = tt
kept_consumes (Some x) None c bytes kept taken = absurd kept
kept_consumes (Some x) (Some y) None bytes kept taken = absurd taken
kept_consumes (Some x) (Some y) (Some z) bytes kept taken = sym kept ∙ taken

pub kept_part : (room : ℕ) (old mid new : Option (List ℕ)) (before after : List ℕ) (n : ℕ) (ended : Bool) → Keeps old mid → TakesPart room mid new before after n ended →
    TakesPart room old new before after n ended
kept_part room old mid new before after n ended kept p = record {
  part = p.part;
  counted = p.counted;
  few = p.few;
  inside = p.inside;
  appended = p.appended;
  taken = kept_consumes old mid new _ kept p.taken;
  some = p.some;
}

pub kept_fault : (limit seen : ℕ) (old mid : Option (List ℕ)) (e : LineFault) → Keeps old mid → IsPartFault limit seen mid e → IsPartFault limit seen old e
kept_fault limit seen old mid Failed kept f = tt
kept_fault limit seen old mid OutOfMemory kept f = tt
kept_fault limit seen old mid (TooLong found) kept f = (f.0, (f.1.0, f.1.1, f.1.2, kept_consumes old mid f.1.1 f.1.0 kept f.1.3, f.1.4))

pub read_fault : (limit seen : ℕ) (old : Option (List ℕ)) (e : LineFault) → IsReadFault e → IsPartFault limit seen old e
read_fault limit seen old Failed f = tt
read_fault limit seen old OutOfMemory f = tt
read_fault limit seen old (TooLong found) f = absurd f

-- ---- of a read straight behind other bytes

none_left : (s e : ℕ) (buffer : List ℕ) (known : Option (List ℕ)) → e ≤ s → left_of s e buffer known ≡ known
none_left s e buffer None used = refl
none_left s e buffer (Some xs) used = let none : e - s ≡ 0 = omega (arith, used) in ap (λ (k : ℕ). Some (take k (drop s buffer) ++ xs)) none

kept_read : (a b : Option (List ℕ)) (bytes : List ℕ) → Consumes a b bytes → Keeps a (prepend_known bytes b)
kept_read None b bytes c = tt
kept_read (Some x) None bytes c = absurd c
kept_read (Some x) (Some y) bytes c = sym c

module _ (s e held most count : ℕ) (buffer old mid : List ℕ) (a b : Option (List ℕ)) (used : e ≤ s) (held_is : held ≡ length old) (r : ReadsOn most a b old mid count) where
  kept_behind : Keeps (left_of s e buffer a) (prepend_known (drop held mid) b)
  kept_behind =
      let behind : drop held mid ≡ r.bytes = ap (drop held) r.appended ∙ drop_at old r.bytes held (sym held_is) in
      rw (none_left s e buffer a used, behind) (kept_read a b r.bytes r.consumed)

  pub part_behind : (room n : ℕ) (ended : Bool) (new : Option (List ℕ)) (after : List ℕ) → TakesPart room (prepend_known (drop held mid) b) new (take held mid) after n ended →
      TakesPart room (left_of s e buffer a) new old after n ended
  part_behind room n ended new after p =
      let front : take held mid ≡ old = ap (take held) r.appended ∙ take_at old r.bytes held (sym held_is) in
      rw front at (kept_part room (left_of s e buffer a) (prepend_known (drop held mid) b) new (take held mid) after n ended kept_behind p)

  pub fault_behind : (limit seen : ℕ) (f : LineFault) → IsPartFault limit seen (prepend_known (drop held mid) b) f → IsPartFault limit seen (left_of s e buffer a) f
  fault_behind limit seen f is = kept_fault limit seen (left_of s e buffer a) (prepend_known (drop held mid) b) f kept_behind is

  pub end_behind : count ≡ 0 → FindsEnd (left_of s e buffer a) (left_of s e buffer b) old mid
  end_behind none =
      let empty : r.bytes ≡ [] = sym (take_all 0 r.bytes (omega (arith, r.counted, none))) in
      let consumed_none : Consumes a b [] = rw empty at r.consumed in
      record {
        end = rw (none_left s e buffer b used) (r.ended none);
        kept = rw (none_left s e buffer a used, none_left s e buffer b used) (kept_none a b consumed_none);
        same = r.appended ∙ ap (λ (xs : List ℕ). old ++ xs) empty ∙ append-nil old;
      }
    where
      kept_none : (o n : Option (List ℕ)) → Consumes o n [] → Keeps o n
      kept_none None n c = tt
      kept_none (Some x) None c = absurd c
      kept_none (Some x) (Some y) c = sym c
