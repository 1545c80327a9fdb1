-- Fields that are kept.
use Rattle.std.proofs.Common.{◌≡◌, ℕ, zero, suc, ◌+◌, ◌<◌, ◌≤◌, Bool, List, [], ◌∷◌, ◌++◌, length, take, drop, set, get_or, refl, sym, ap, ap₂, ◌∙◌, zero-add, append_assoc, arith, Option}
use Rattle.std.proofs.lemmas.List.{drop_all, drop_more, take-take, take-append-le, length-append, length-take, length-take-le}
use Rattle.span_core.specs.declared.span.Span.{Span}
use Rattle.row_writer.specs.declared.style.Style.TheVariants as style
use Rattle.row_writer.specs.Kept.{Field, Head, cells_text, head_with, heads_of, line_room, member_head, more_members, more_names, more_tabs, quote_room, styled_cell}

-- a position at which was written on is no higher than the new end
pub rises : (old new text : List ℕ) {at r : ℕ} → take r new ≡ take at old ++ text → at ≤ length old → at ≤ r
rises old new text {at} {r} is inside =
    let e = ap (λ (xs : List ℕ). length xs) is in
    omega (arith, e, length-take r new, length-append (take at old) text, length-take-le at old inside)

-- what stands before a place stays where something is written from there on
pub front_kept : (k at end : ℕ) (old new text : List ℕ) → k ≤ at → at ≤ end → at ≤ length old → take end new ≡ take at old ++ text → take k new ≡ take k old
front_kept k at end old new text low up inside is =
    let short : k ≤ length (take at old) = omega (arith, low, length-take-le at old inside) in
    let below : k ≤ end = omega arith in
    sym (take-take k end new below) ∙ ap (take k) is ∙ take-append-le k (take at old) text short ∙ take-take k at old low

-- what stands before a place that stays
shorter : (h f : ℕ) (old new : List ℕ) → h ≤ f → take f new ≡ take f old → take h new ≡ take h old
shorter h f old new low is = sym (take-take h f new low) ∙ ap (take h) is ∙ take-take h f old low

pub behind_opening : (front head opening numbers : List ℕ) → front ≡ head ++ opening → front ++ numbers ≡ head ++ (opening ++ numbers)
behind_opening front head opening numbers is = ap (λ (xs : List ℕ). xs ++ numbers) is ∙ append_assoc head opening numbers

-- two numbers and a sign are written from a place on
renewed : (sign h e m l : ℕ) (b0 b1 b2 b3 ds de : List ℕ) → h ≤ e → e ≤ m → m ≤ l → h ≤ length b0 → e ≤ length b1 → m ≤ length b2
    → take e b1 ≡ take h b0 ++ ds → take m b2 ≡ take e b1 ++ sign ∷ [] → take l b3 ≡ take m b2 ++ de
    → (take h b3 ≡ take h b0) × ((take m b3 ≡ take h b3 ++ (ds ++ sign ∷ [])) × (take l b3 ≡ take h b3 ++ (ds ++ sign ∷ de)))
renewed sign h e m l b0 b1 b2 b3 ds de he em ml in0 in1 in2 first between last =
    let le : h ≤ m = omega arith in
    let self : h ≤ h = omega arith in
    let again : m ≤ m = omega arith in
    let one = front_kept h h e b0 b1 ds self he in0 first in
    let two = front_kept h e m b1 b2 (sign ∷ []) he em in1 between in
    let three = front_kept h m l b2 b3 de le ml in2 last in
    let front : take h b3 ≡ take h b0 = three ∙ two ∙ one in
    let middle : take m b2 ≡ (take h b0 ++ ds) ++ sign ∷ [] = between ∙ ap (λ (xs : List ℕ). xs ++ sign ∷ []) first in
    let kept = front_kept m m l b2 b3 de again ml in2 last in (
      front,
      (
        kept ∙ middle ∙ append_assoc (take h b0) ds (sign ∷ []) ∙ ap (λ (xs : List ℕ). xs ++ (ds ++ sign ∷ [])) (sym front),
        last ∙ ap (λ (xs : List ℕ). xs ++ de) middle ∙ append_assoc (take h b0 ++ ds) (sign ∷ []) de ∙ append_assoc (take h b0) ds (sign ∷ de) ∙
            ap (λ (xs : List ℕ). xs ++ (ds ++ sign ∷ de)) (sym front),
      ),
    )

-- the second number is written
end_renewed : (sign h m l : ℕ) (b0 b3 ds de : List ℕ) → h ≤ m → m ≤ l → m ≤ length b0
    → take m b0 ≡ take h b0 ++ (ds ++ sign ∷ []) → take l b3 ≡ take m b0 ++ de
    → (take h b3 ≡ take h b0) × ((take m b3 ≡ take h b3 ++ (ds ++ sign ∷ [])) × (take l b3 ≡ take h b3 ++ (ds ++ sign ∷ de)))
end_renewed sign h m l b0 b3 ds de hm ml in0 half last =
    let again : m ≤ m = omega arith in
    let front : take h b3 ≡ take h b0 = front_kept h m l b0 b3 de hm ml in0 last in
    let kept = front_kept m m l b0 b3 de again ml in0 last in (
      front,
      (
        kept ∙ half ∙ ap (λ (xs : List ℕ). xs ++ (ds ++ sign ∷ [])) (sym front),
        last ∙ ap (λ (xs : List ℕ). xs ++ de) half ∙ append_assoc (take h b0) (ds ++ sign ∷ []) de ∙
            ap (λ (xs : List ℕ). take h b0 ++ xs) (append_assoc ds (sign ∷ []) de) ∙ ap (λ (xs : List ℕ). xs ++ (ds ++ sign ∷ de)) (sym front),
      ),
    )

-- a field's bytes up to h, f, m and l: its head, what opens a span, the span's first number and the sign, and the second
pub record Parts (h f m l sign : ℕ) (o ds de head bytes : List ℕ) : Type 0 where
  pub same : take h bytes ≡ head
  pub front : take f bytes ≡ take h bytes ++ o
  pub half : take m bytes ≡ take f bytes ++ (ds ++ sign ∷ [])
  pub all : take l bytes ≡ take f bytes ++ (ds ++ sign ∷ de)

-- both numbers are written behind what opens them
pub parts_renewed : (e : ℕ) (b0 b1 b2 : List ℕ) {h f m l sign : ℕ} {o ds de b3 : List ℕ}
    → take f b0 ≡ take h b0 ++ o → take e b1 ≡ take f b0 ++ ds → take m b2 ≡ take e b1 ++ sign ∷ [] → take l b3 ≡ take m b2 ++ de
    → h ≤ f → f ≤ length b0 → e ≤ length b1 → m ≤ length b2 → Parts h f m l sign o ds de (take h b0) b3
parts_renewed e b0 b1 b2 {h} {f} {m} {l} {sign} {o} {ds} {de} {b3} front first between last hf in0 in1 in2 =
    let t = renewed sign f e m l b0 b1 b2 b3 ds de (rises b0 b1 ds first in0) (rises b1 b2 (sign ∷ []) between in1) (rises b2 b3 de last in2) in0 in1 in2 first between last in
    let same = shorter h f b0 b3 hf t.0 in
    record { same = same; front = t.0 ∙ front ∙ ap (λ (xs : List ℕ). xs ++ o) (sym same); half = t.1.0; all = t.1.1 }

-- or what opens them is written too, behind the head of other bytes
pub parts_opened : (h e : ℕ) (bytes b0 b1 b2 : List ℕ) {f m l sign : ℕ} {o ds de b3 : List ℕ}
    → take f b0 ≡ take h bytes ++ o → take e b1 ≡ take f b0 ++ ds → take m b2 ≡ take e b1 ++ sign ∷ [] → take l b3 ≡ take m b2 ++ de
    → h ≤ length bytes → f ≤ length b0 → e ≤ length b1 → m ≤ length b2 → Parts h f m l sign o ds de (take h bytes) b3
parts_opened h e bytes b0 b1 b2 {f} {m} {l} {sign} {o} {ds} {de} {b3} front first between last inside in0 in1 in2 =
    let low : h ≤ f = rises bytes b0 o front inside in
    let self : h ≤ h = omega arith in
    let same : take h b0 ≡ take h bytes = front_kept h h f bytes b0 o self low inside front in
    let t = parts_renewed e b0 b1 b2 (front ∙ ap (λ (xs : List ℕ). xs ++ o) (sym same)) first between last low in0 in1 in2 in
    record { same = t.same ∙ same; front = t.front; half = t.half; all = t.all }

-- or the second number alone is written
pub parts_end : (b0 : List ℕ) {h f m l sign : ℕ} {o ds de b3 : List ℕ}
    → take f b0 ≡ take h b0 ++ o → take m b0 ≡ take f b0 ++ (ds ++ sign ∷ []) → take l b3 ≡ take m b0 ++ de
    → h ≤ f → f ≤ m → m ≤ length b0 → Parts h f m l sign o ds de (take h b0) b3
parts_end b0 {h} {f} {m} {l} {sign} {o} {ds} {de} {b3} front half last hf fm in0 =
    let t = end_renewed sign f m l b0 b3 ds de fm (rises b0 b3 de last in0) in0 half last in
    let same = shorter h f b0 b3 hf t.0 in
    record { same = same; front = t.0 ∙ front ∙ ap (λ (xs : List ℕ). xs ++ o) (sym same); half = t.1.0; all = t.1.1 }

take_past : (xs ys : List ℕ) (n : ℕ) → take (length xs + n) (xs ++ ys) ≡ xs ++ take n ys
take_past [] ys n = ap (λ k. take k ys) (zero-add n)
take_past (x ∷ xs) ys n =
    let e : length (x ∷ xs) + n ≡ suc (length xs + n) = omega arith in
    ap (λ k. take k (x ∷ (xs ++ ys))) e ∙ ap (λ (zs : List ℕ). x ∷ zs) (take_past xs ys n)

-- of bytes that are written whole, the first are there
pub front_written : (at n end : ℕ) (old new bytes text : List ℕ) → at ≤ length old → at + n ≤ end → take end new ≡ take at old ++ bytes → take n bytes ≡ text → take (at + n) new ≡ take at old ++ text
front_written at n end old new bytes text inside below is front =
    let same : length (take at old) + n ≡ at + n = omega (arith, length-take-le at old inside) in
    sym (take-take (at + n) end new below) ∙ ap (take (at + n)) is ∙ ap (λ k. take k (take at old ++ bytes)) (sym same) ∙
    take_past (take at old) bytes n ∙ ap (λ (xs : List ℕ). take at old ++ xs) front

-- ---- the fields of a line, one by one

-- another field with the same head
pub same_heads : (fields : List Field) (k : ℕ) (d f : Field) → k < length fields → f.head ≡ (get_or fields k d).head → heads_of (set fields k f) ≡ heads_of fields
same_heads [] k d f l is = refl
same_heads (g ∷ fields) zero d f l is = ap (λ (h : Head). h ∷ heads_of fields) is
same_heads (g ∷ fields) (suc k) d f l is = ap (λ (heads : List Head). g.head ∷ heads) (same_heads fields k d f (omega arith) is)

-- what is left of the heads begins with that of the field
pub heads_at : (fields : List Field) (k : ℕ) (d : Field) → k < length fields → drop k (heads_of fields) ≡ (get_or fields k d).head ∷ drop (k + 1) (heads_of fields)
heads_at [] k d l = absurd (omega arith)
heads_at (f ∷ fields) zero d l = refl
heads_at (f ∷ fields) (suc k) d l =
    let e : suc (k + 1) ≡ suc k + 1 = omega arith in
    heads_at fields k d (omega arith) ∙ ap (λ n. (get_or fields k d).head ∷ drop n (f.head ∷ heads_of fields)) e

-- and it does so where the fields' heads are these
pub heads_next : (fields : List Field) (k : ℕ) (d : Field) {heads : List Head} → heads_of fields ≡ heads → k < length fields
    → drop k heads ≡ (get_or fields k d).head ∷ drop (k + 1) heads
heads_next fields k d same l = rw same at (heads_at fields k d l)

pub length_heads : (fields : List Field) → length (heads_of fields) ≡ length fields
length_heads [] = refl
length_heads (f ∷ fields) = let e = length_heads fields in omega arith

pub heads_append : (fields : List Field) (f : Field) → heads_of (fields ++ f ∷ []) ≡ heads_of fields ++ f.head ∷ []
heads_append [] f = refl
heads_append (g ∷ fields) f = ap (λ (heads : List Head). g.head ∷ heads) (heads_append fields f)

-- what is left of a row begins with what is read there
row_at : {X : Type 0} (row : List X) (k : ℕ) (x : X) → k < length row → x ≡ get_or row k x → drop k row ≡ x ∷ drop (k + 1) row
row_at row k x l is = drop_more row k x l ∙ ap (λ y. y ∷ drop (k + 1) row) (sym is)

-- one field more is written
pub cells_next : (doc : List ℕ) (texts : Bool) (before : List ℕ) (fields : List Field) (row : List (Option Span)) (k : ℕ) (d : Field)
    {heads : List Head} {span : Option Span} {after whole : List ℕ}
    → heads_of fields ≡ heads → k < length fields → k < length row → span ≡ get_or row k span
    → after ≡ before ++ ((get_or fields k d).head.before ++ styled_cell (get_or fields k d).head.style doc texts span)
    → before ++ cells_text doc texts (drop k heads) (drop k row) ≡ whole → after ++ cells_text doc texts (drop (k + 1) heads) (drop (k + 1) row) ≡ whole
cells_next doc texts before fields row k d {heads} {span} same n l is more whole =
    let head = (get_or fields k d).head in
    let cell = styled_cell head.style doc texts span in
    let rest = cells_text doc texts (drop (k + 1) heads) (drop (k + 1) row) in
    let all = ap₂ (cells_text doc texts) (heads_next fields k d same n) (row_at row k span l is) in
    ap (λ (xs : List ℕ). xs ++ rest) more ∙ append_assoc before (head.before ++ cell) rest
    ∙ ap (λ (xs : List ℕ). before ++ xs) (append_assoc head.before cell rest ∙ sym all) ∙ whole

-- the room of the fields from a place on is that of the field there and of those behind it
pub room_next : (texts : Bool) (fields : List Field) (row : List (Option Span)) (k : ℕ) (d : Field) {heads : List Head} {span : Option Span}
    → heads_of fields ≡ heads → k < length fields → k < length row → span ≡ get_or row k span
    → line_room texts (drop k heads) (drop k row) ≡ (64 + quote_room (get_or fields k d).head.style texts span) + line_room texts (drop (k + 1) heads) (drop (k + 1) row)
room_next texts fields row k d {heads} {span} same n l is = ap₂ (line_room texts) (heads_next fields k d same n) (row_at row k span l is)

-- no head is left behind the last field
pub no_heads : (fields : List Field) (k : ℕ) → length fields ≤ k → drop k (heads_of fields) ≡ []
no_heads fields k past = drop_all k (heads_of fields) (omega (arith, length_heads fields))

-- a head more is kept
head_more : (heads : List Head) (head : Head) (more new whole : List Head) → new ≡ heads ++ head ∷ [] → heads ++ (head ∷ more) ≡ whole → new ++ more ≡ whole
head_more heads head more new whole is all = ap (λ (xs : List Head). xs ++ more) is ∙ append_assoc heads (head ∷ []) more ∙ all

pub names_more : (heads : List Head) (head : Head) (name : List ℕ) (names names' : List (List ℕ)) (whole new : List Head) → names ≡ name ∷ names' →
    head ≡ head_with (32 ∷ (name ++ 61 ∷ [])) style.Plain → new ≡ heads ++ head ∷ []
    → heads ++ more_names names ≡ whole → new ++ more_names names' ≡ whole
names_more heads head name names names' whole new e f g h =
    head_more heads head (more_names names') new whole g
    (ap (λ (x : Head). heads ++ (x ∷ more_names names')) f ∙ sym (ap (λ (ns : List (List ℕ)). heads ++ more_names ns) e) ∙ h)

pub tabs_more : (heads : List Head) (head : Head) (name : List ℕ) (names names' : List (List ℕ)) (whole new : List Head) → names ≡ name ∷ names' →
    head ≡ head_with (9 ∷ []) style.Plain → new ≡ heads ++ head ∷ []
    → heads ++ more_tabs names ≡ whole → new ++ more_tabs names' ≡ whole
tabs_more heads head name names names' whole new e f g h =
    head_more heads head (more_tabs names') new whole g
    (ap (λ (x : Head). heads ++ (x ∷ more_tabs names')) f ∙ sym (ap (λ (ns : List (List ℕ)). heads ++ more_tabs ns) e) ∙ h)

pub members_more : (heads : List Head) (head : Head) (name : List ℕ) (names names' : List (List ℕ)) (whole new : List Head) → names ≡ name ∷ names' →
    head ≡ member_head 44 name → new ≡ heads ++ head ∷ []
    → heads ++ more_members names ≡ whole → new ++ more_members names' ≡ whole
members_more heads head name names names' whole new e f g h =
    head_more heads head (more_members names') new whole g
    (ap (λ (x : Head). heads ++ (x ∷ more_members names')) f ∙ sym (ap (λ (ns : List (List ℕ)). heads ++ more_members ns) e) ∙ h)
