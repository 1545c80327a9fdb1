-- Lines of a reader, of which some bytes are read ahead.
use Rattle.std.proofs.Common.{arith, ◌≡◌, ◌≢◌, ◌+◌, ◌-◌, ◌<◌, ◌≤◌, ℕ, suc, Bool, true, false, List, [], ◌∷◌, ◌++◌, length, take, drop, Option, None, Some, Ok, refl, sym, ap, ◌∙◌, subst, append_assoc, append-nil, length-append, length-take, length-drop}
use Rattle.std.specs.Prelude.{nat_lt}
use Rattle.std.proofs.lemmas.List.{drop-take, drop-drop, take-take, take_at}
use Rattle.std.proofs.lemmas.Bool.{ltb-true, ltb-false}
use Rattle.std.proofs.KnownBytes.{Consumes-kept, Consumes-trans}
use Rattle.std.specs.Io.KnownBytes.{Consumes, IsAtEnd, Keeps}
use Rattle.rm_outside.specs.declared.source.LineFault.{LineFault}
use Rattle.rm_outside.specs.declared.source.LineFault.TheVariants.{Failed, TooLong, OutOfMemory}
use Rattle.rm_outside.specs.Source.{AsksLine, HasNoEnd, IsNextLong, IsSpent, LineTaken, NextLine, TakesLine, ended, last}
use Rattle.rm_outside.specs.LineInput.{BeginsLong, IsLineFault, IsPartFault, TakesPart, left_of}
use Rattle.rm_outside.proofs.LineLaws.{first_inside, line_of, some_next}
use Rattle.rm_outside.proofs.PartLaws.{begins_long, part_whole, part_within}

-- ---- in what was read ahead

abbrev window : ℕ → ℕ → List ℕ → List ℕ
window s e xs = take (e - s) (drop s xs)

window_less : (s e k : ℕ) (xs : List ℕ) → k ≤ e - s → window (s + k) e xs ≡ drop k (window s e xs)
window_less s e k xs small =
    let m : e - s ≡ k + (e - (s + k)) = omega arith in
    let there : drop (s + k) xs ≡ drop k (drop s xs) = sym (drop-drop k s xs) in
    ap (take (e - (s + k))) there ∙ sym (drop-take k (e - (s + k)) (drop s xs)) ∙ ap (λ (n : ℕ). drop k (take n (drop s xs))) (sym m)

window_length : (s e : ℕ) (xs : List ℕ) → e ≤ length xs → length (window s e xs) ≡ e - s
window_length s e xs small = let a = length-take (e - s) (drop s xs) in let b = length-drop s xs in omega (arith, a, b)

module _ (s e room n : ℕ) (xs held : List ℕ) (known : Option (List ℕ)) (same : held ≡ xs) (is : n ≡ length (line_of (window s e held))) where
  at_line : n ≡ length (line_of (window s e xs))
  at_line = is ∙ ap (λ (ys : List ℕ). length (line_of (window s e ys))) same

  -- more bytes than these have no end
  pub window_long : room < n → BeginsLong room (left_of s e xs known)
  window_long long = begins_long room n (window s e xs) known at_line long

  put_there : (before after : List ℕ) → after ≡ before ++ take n (window s e held) → after ≡ before ++ take n (window s e xs)
  put_there before after put = put ∙ ap (λ (ys : List ℕ). before ++ take n (window s e ys)) same

  -- a part with its end
  pub part_ended : (before after : List ℕ) → e ≤ length xs → n ≤ room → s + n < e → after ≡ before ++ take n (window s e held) →
      TakesPart room (left_of s e xs known) (left_of (s + n + 1) e xs known) before after n true
  part_ended before after within few inside put =
      let sum : s + n + 1 ≡ s + suc n = omega arith in
      let left : window (s + n + 1) e xs ≡ drop (suc n) (window s e xs) = ap (λ (k : ℕ). window k e xs) sum ∙ window_less s e (suc n) xs (omega arith) in
      part_within room n (window s e xs) (window (s + n + 1) e xs) before after known at_line few (put_there before after put) (omega (arith, window_length s e xs within)) left

  -- all that was read ahead
  pub part_open : (before after : List ℕ) → e ≤ length xs → n ≤ length (window s e held) → n ≤ room → s < e → e ≤ s + n → after ≡ before ++ take n (window s e held) →
      TakesPart room (left_of s e xs known) (left_of (s + n) e xs known) before after n false
  part_open before after within small few some past put =
      let few_there : n ≤ length (window s e xs) = rw same at small in
      let left : window (s + n) e xs ≡ drop n (window s e xs) = window_less s e n xs (omega (arith, window_length s e xs within, few_there)) in
      part_whole room n (window s e xs) (window (s + n) e xs) before after known at_line few (put_there before after put) (omega arith) left

-- ---- part by part

-- of the next line these bytes were taken
pub record IsTaking (limit : ℕ) (old now : Option (List ℕ)) (before after : List ℕ) (seen : ℕ) : Type 0 where
  pub part : List ℕ
  pub counted : length part ≡ seen
  pub few : seen ≤ limit
  pub inside : HasNoEnd part
  pub appended : after ≡ before ++ part
  pub taken : Consumes old now part

no_end_in : (a b : List ℕ) → HasNoEnd a → HasNoEnd b → HasNoEnd (a ++ b)
no_end_in [] b p q = q
no_end_in (x ∷ a) b p q = (p.0, no_end_in a b p.1 q)

line_longer : (u more : List ℕ) → HasNoEnd u → length u ≤ length (line_of (u ++ more))
line_longer [] more none = omega arith
line_longer (b ∷ u) more none = let first = first_inside b (u ++ more) none.0 in let later = line_longer u more none.1 in let e = ap (λ (xs : List ℕ). length xs) first in omega (arith, e, later)

module _ (limit : ℕ) (old mid : Option (List ℕ)) (before between : List ℕ) (seen : ℕ) (t : IsTaking limit old mid before between seen) where
  pub kept_taking : (now : Option (List ℕ)) → Keeps mid now → IsTaking limit old now before between seen
  kept_taking now k = record { part = t.part; counted = t.counted; few = t.few; inside = t.inside; appended = t.appended; taken = Consumes-kept old mid now t.part t.taken k }

  pub more_taken : (now : Option (List ℕ)) (after : List ℕ) (count : ℕ) → TakesPart (limit - seen) mid now between after count false → IsTaking limit old now before after (seen + count)
  more_taken now after count p =
      let few = p.few in
      let all = t.few in
      let a = t.counted in
      let b = p.counted in
      record {
        part = t.part ++ p.part;
        counted = length-append t.part p.part ∙ omega (arith, a, b);
        few = omega (arith, few, all);
        inside = no_end_in t.part p.part t.inside p.inside;
        appended = p.appended ∙ ap (λ (xs : List ℕ). xs ++ p.part) t.appended ∙ append_assoc before t.part p.part;
        taken = Consumes-trans old mid now t.part p.part t.taken (subst (λ (xs : List ℕ). Consumes mid now xs) (append-nil p.part) p.taken);
      }

  pub line_taken : (now : Option (List ℕ)) (after : List ℕ) (count : ℕ) → TakesPart (limit - seen) mid now between after count true → LineTaken limit old now before after
  line_taken now after count p =
      let few = p.few in
      let all = t.few in
      let a = t.counted in
      let b = p.counted in
      let long = length-append t.part p.part in (
        t.part ++ p.part,
        omega (arith, a, b, few, all, long),
        p.appended ∙ ap (λ (xs : List ℕ). xs ++ p.part) t.appended ∙ append_assoc before t.part p.part,
        by old now (Consumes-trans old mid now t.part (p.part ++ 10 ∷ []) t.taken p.taken),
      )
    where
      by : (o n : Option (List ℕ)) → Consumes o n (t.part ++ (p.part ++ 10 ∷ [])) → TakesLine o (t.part ++ p.part) n
      by None n c = tt
      by (Some xs) None c = absurd c
      by (Some xs) (Some ys) c =
          let whole : (t.part ++ p.part) ++ 10 ∷ ys ≡ xs = append_assoc t.part p.part (10 ∷ ys) ∙
          ap (λ (zs : List ℕ). t.part ++ zs) (sym (append_assoc p.part (10 ∷ []) ys)) ∙ sym (append_assoc t.part (p.part ++ 10 ∷ []) ys) ∙ sym c in
          subst (λ (zs : List ℕ). NextLine zs (t.part ++ p.part) ys) whole (ended (no_end_in t.part p.part t.inside p.inside))

  pub at_the_end : (b : Bool) → b ≡ nat_lt 0 seen → IsAtEnd mid → AsksLine limit old mid before between (Ok b)
  at_the_end true is end =
      let a = t.counted in
      let all = t.few in
      let some : 0 < seen = ltb-true 0 seen (sym is) in
      (t.part, omega (arith, a, all), t.appended, by old mid t.taken end (λ none. (let e = ap (λ (xs : List ℕ). length xs) none in omega (arith, e, a, some))))
    where
      by : (o n : Option (List ℕ)) → Consumes o n t.part → IsAtEnd n → t.part ≢ [] → TakesLine o t.part n
      by None n c e some = tt
      by (Some xs) None c e some = absurd c
      by (Some xs) (Some ys) c e some =
          let whole : t.part ≡ xs = sym (append-nil t.part) ∙ ap (λ (zs : List ℕ). t.part ++ zs) (sym e) ∙ sym c in
          subst (λ (zs : List ℕ). NextLine zs t.part ys) whole (subst (λ (zs : List ℕ). NextLine t.part t.part zs) (sym e) (last t.inside some))
  at_the_end false is end =
      let a = t.counted in
      let none : seen ≤ 0 = ltb-false 0 seen (sym is) in
      let empty : t.part ≡ [] = by_length t.part (omega (arith, a, none)) in
      (spent old mid (subst (λ (xs : List ℕ). Consumes old mid xs) empty t.taken) end, end_is mid end, t.appended ∙ ap (λ (xs : List ℕ). before ++ xs) empty ∙ append-nil before)
    where
      by_length : (xs : List ℕ) → length xs ≤ 0 → xs ≡ []
      by_length [] h = refl
      by_length (x ∷ xs) h = absurd (omega (arith, h))

      spent : (o n : Option (List ℕ)) → Consumes o n [] → IsAtEnd n → IsSpent o
      spent None n c e = tt
      spent (Some xs) None c e = absurd c
      spent (Some xs) (Some ys) c e = c ∙ e

      end_is : (n : Option (List ℕ)) → IsAtEnd n → IsSpent n
      end_is None e = tt
      end_is (Some ys) e = e

  -- what was cut behind all of these, and then behind those before
  pub refused_taking : (held held_before : ℕ) (after : List ℕ) → held ≡ length between → held_before ≡ length before → take held after ≡ between → take held_before after ≡ before
  refused_taking held held_before after size size_before kept =
      let longer : held_before ≤ held = omega (arith, size, size_before, length-append before t.part, ap (λ (xs : List ℕ). length xs) t.appended) in
      sym (take-take held_before held after longer) ∙ ap (take held_before) (kept ∙ t.appended) ∙ take_at before t.part held_before (sym size_before)

  pub too_long : (e : LineFault) → IsPartFault limit seen mid e → IsLineFault limit old e
  too_long Failed f = tt
  too_long OutOfMemory f = tt
  too_long (TooLong found) f = (f.0, by old f.1.1 (Consumes-trans old mid f.1.1 t.part f.1.0 t.taken f.1.3))
    where
      by : (o n : Option (List ℕ)) → Consumes o n (t.part ++ f.1.0) → IsNextLong limit o
      by None n c = tt
      by (Some xs) None c = absurd c
      by (Some xs) (Some ys) c =
          let a = t.counted in
          let all = t.few in
          let more = f.1.4 in
          let part = t.part ++ f.1.0 in
          let long = length-append t.part f.1.0 in
          let least : length part ≤ length (line_of xs) = subst (λ (zs : List ℕ). length part ≤ length (line_of zs)) (sym c) (line_longer part ys (no_end_in t.part f.1.0 t.inside f.1.2)) in
          let past : limit < length (line_of xs) = omega (arith, a, all, more, long, least) in
          let next = some_next xs (λ none. (let e = ap (λ (zs : List ℕ). length (line_of zs)) none in omega (arith, e, past))) in
          (line_of xs, next.0, next.1, past)
