-- Puts one after another.
use Rattle.std.proofs.Common.{◌≡◌, ℕ, List, [], ◌++◌, Option, ap, ◌∙◌, sym, refl, append_assoc, append-nil, ◌+◌, ◌-◌, ◌≤◌, length, take, drop, zero-add, arith}
use Rattle.std.specs.List.{copy_within}
use Rattle.std.proofs.lemmas.List.{drop-take, length-drop, take-append-drop, take-take}
use Rattle.std.proofs.lemmas.List.Edits.{take-paste}
use Rattle.std.proofs.KnownBytes.{Appends-nil, Appends-trans}
use Rattle.std.specs.Io.KnownBytes.{Appends}
use Rattle.rm_outside.specs.Sink.{AppendsPart}
use Rattle.rm_outside.specs.Change.{change, Adds, AddsPart}
use Rattle.rm_outside.specs.Flow.{Flow}
use Rattle.rematch_program.specs.Work.{Passes, SoFar}

-- a part of xs is a part of xs and ys
pub part_more : (old new : Option (List ℕ)) (xs ys : List ℕ) → AppendsPart old new xs → AppendsPart old new (xs ++ ys)
part_more old new xs ys p = record {
  part = p.part;
  added = p.added;
  prefix = record { rest = p.prefix.rest ++ ys; joined = ap (λ zs. zs ++ ys) p.prefix.joined ∙ append_assoc p.part p.prefix.rest ys };
}

-- xs and then a part of ys
pub part_after : (old mid new : Option (List ℕ)) (xs ys : List ℕ) → Appends old mid xs → AppendsPart mid new ys → AppendsPart old new (xs ++ ys)
part_after old mid new xs ys whole p = record {
  part = xs ++ p.part;
  added = Appends-trans old mid new xs p.part whole p.added;
  prefix = record { rest = p.prefix.rest; joined = ap (λ zs. xs ++ zs) p.prefix.joined ∙ sym (append_assoc xs p.part p.prefix.rest) };
}

-- nothing is a part of anything
pub part_nothing : (o : Option (List ℕ)) (xs : List ℕ) → AppendsPart o o xs
part_nothing o xs = record { part = []; added = Appends-nil o; prefix = record { rest = xs; joined = refl } }

-- xs, and then what a line passes on
pub passes_after : (old mid new : Flow) (xs line left : List ℕ) → Adds (change old mid) xs → Passes [] line left (change mid new) → Passes xs line left (change old new)
passes_after old mid new xs line left whole p = record {
  sent = xs ++ p.sent;
  adds = Appends-trans old.bytes mid.bytes new.bytes xs p.sent whole p.adds;
  joined = append_assoc xs p.sent left ∙ ap (λ zs. xs ++ zs) p.joined;
}

-- ---- a text that is put line by line

pub so_far_more : (old mid new : Flow) (waiting waiting' line left left' whole : List ℕ) →
    SoFar (change old mid) waiting left whole → left ≡ line ++ left' → Passes waiting line waiting' (change mid new) → SoFar (change old new) waiting' left' whole
so_far_more old mid new waiting waiting' line left left' whole s is p = record {
  sent = s.sent ++ p.sent;
  adds = Appends-trans old.bytes mid.bytes new.bytes s.sent p.sent s.adds p.adds;
  joined =
      append_assoc s.sent p.sent (waiting' ++ left')
      ∙ ap (λ xs. s.sent ++ xs) (sym (append_assoc p.sent waiting' left') ∙ ap (λ xs. xs ++ left') p.joined ∙ append_assoc waiting line left' ∙ ap (λ xs. waiting ++ xs) (sym is))
      ∙ s.joined;
}

-- where a line is not passed on whole
pub so_far_part : (old mid new : Flow) (waiting line left left' whole : List ℕ) →
    SoFar (change old mid) waiting left whole → left ≡ line ++ left' → AddsPart (change mid new) (waiting ++ line) → AddsPart (change old new) whole
so_far_part old mid new waiting line left left' whole s is p =
    let whole_is : (s.sent ++ (waiting ++ line)) ++ left' ≡ whole =
    append_assoc s.sent (waiting ++ line) left' ∙ ap (λ xs. s.sent ++ xs) (append_assoc waiting line left' ∙ ap (λ xs. waiting ++ xs) (sym is)) ∙ s.joined in
    let part : AddsPart (change old new) ((s.sent ++ (waiting ++ line)) ++ left') =
    part_more old.bytes new.bytes (s.sent ++ (waiting ++ line)) left' (part_after old.bytes mid.bytes new.bytes s.sent (waiting ++ line) s.adds p) in
    rw (← whole_is) part

-- a text that is gone on with where it was left
pub so_far_on : {old mid : Flow} (new : Flow) {waiting waiting' left left' more more' whole : List ℕ} → more ≡ left → more' ≡ left'
    → SoFar (change old mid) waiting left whole → SoFar (change mid new) waiting' more' (waiting ++ more) → SoFar (change old new) waiting' left' whole
so_far_on {old} {mid} new {waiting} {waiting'} same same' s t = record {
  sent = s.sent ++ t.sent;
  adds = Appends-trans old.bytes mid.bytes new.bytes s.sent t.sent s.adds t.adds;
  joined =
      append_assoc s.sent t.sent _
      ∙ ap (λ xs. s.sent ++ xs) (ap (λ ys. t.sent ++ (waiting' ++ ys)) (sym same') ∙ t.joined ∙ ap (λ ys. waiting ++ ys) same)
      ∙ s.joined;
}

-- and where that is cut off
pub so_far_cut : {old mid : Flow} (new : Flow) {waiting left more whole : List ℕ} → more ≡ left → SoFar (change old mid) waiting left whole
    → AddsPart (change mid new) (waiting ++ more) → AddsPart (change old new) whole
so_far_cut {old} {mid} new {waiting} {left} {more} {whole} same s part =
    so_far_part old mid new waiting more left [] whole s (sym same ∙ sym (append-nil more)) part

-- lines at the front of a text are passed on
pub so_far_of : {old new : Flow} {waiting line waiting' left : List ℕ} (whole : List ℕ) → whole ≡ line ++ left → Passes waiting line waiting' (change old new)
    → SoFar (change old new) waiting' left (waiting ++ whole)
so_far_of {waiting = waiting} {line} {waiting'} {left} whole is p = record {
  sent = p.sent;
  adds = p.adds;
  joined = sym (append_assoc p.sent waiting' left) ∙ ap (λ xs. xs ++ left) p.joined ∙ append_assoc waiting line left ∙ ap (λ xs. waiting ++ xs) (sym is);
}

-- or not whole
pub part_of : (old new : Flow) (waiting line left whole : List ℕ) → whole ≡ line ++ left → AddsPart (change old new) (waiting ++ line)
    → AddsPart (change old new) (waiting ++ whole)
part_of old new waiting line left whole is part =
    let more : AddsPart (change old new) ((waiting ++ line) ++ left) = part_more old.bytes new.bytes (waiting ++ line) left part in
    let same : (waiting ++ line) ++ left ≡ waiting ++ whole = append_assoc waiting line left ∙ ap (λ xs. waiting ++ xs) (sym is) in
    rw (← same) more

-- what a line passed on, and then all that waited
pub passes_whole : {old mid : Flow} (new : Flow) {waiting line left : List ℕ}
    → Passes waiting line left (change old mid) → Adds (change mid new) left → Adds (change old new) (waiting ++ line)
passes_whole {old} {mid} new {left = left} p adds =
    rw (← p.joined) (Appends-trans old.bytes mid.bytes new.bytes p.sent left p.adds adds)

-- or a part of it
pub passes_part : {old mid : Flow} (new : Flow) {waiting line left : List ℕ}
    → Passes waiting line left (change old mid) → AddsPart (change mid new) left → AddsPart (change old new) (waiting ++ line)
passes_part {old} {mid} new {left = left} p part =
    rw (← p.joined) (part_after old.bytes mid.bytes new.bytes p.sent left p.adds part)

-- what puts of a text have passed on, where nothing of it is left
pub rows_passed : {mid new : Flow} (waiting : List ℕ) {waiting' : List ℕ} (lines : List ℕ)
    → SoFar (change mid new) waiting' [] (waiting ++ lines) → Passes waiting lines waiting' (change mid new)
rows_passed waiting {waiting'} lines s = record {
  sent = s.sent;
  adds = s.adds;
  joined = ap (λ xs. s.sent ++ xs) (sym (append-nil waiting')) ∙ s.joined;
}

-- ---- a line in its place

-- bytes that are moved to the front
pub moved_front : (at end : ℕ) (old new : List ℕ) → at ≤ end → end ≤ length old → new ≡ copy_within old at end 0 → take at old ++ take (end - at) new ≡ take end old
moved_front at end old new low inside is =
    let n = end - at in
    let whole : at + n ≡ end = omega arith in
    let few : n ≤ length (drop at old) = omega (arith, length-drop at old) in
    let none : 0 ≤ length old = omega arith in
    let moved : take n new ≡ take n (drop at old) =
    ap (take n) is ∙ ap (λ k. take k (copy_within old at end 0)) (sym (zero-add n)) ∙ take-paste old 0 (drop at old) n none few in
    let there : take n (drop at old) ≡ drop at (take end old) = sym (drop-take at n old) ∙ ap (λ k. drop at (take k old)) whole in
    ap (λ (xs : List ℕ). take at old ++ xs) (moved ∙ there) ∙ ap (λ (xs : List ℕ). xs ++ drop at (take end old)) (sym (take-take at end old low)) ∙ take-append-drop at (take end old)
