-- Steps of loops that keep some of the elements of a list.
use Rattle.std.proofs.Common.{◌≡◌, ℕ, zero, suc, ◌+◌, ◌<◌, ◌≤◌, Bool, true, false, List, [], ◌∷◌, ◌++◌, length, get_or, take, drop, Option, Some, None, refl, sym, ap, arith, append_assoc, ◌∙◌}
use Rattle.std.proofs.Math.Seq.{drop-cons}
use Rattle.std.proofs.Math.ListN.{set, length-set}
use Rattle.std.specs.Prelude.{slice_get}
use Rattle.std.specs.Option.{unwrap_or}
use Rattle.std.proofs.lemmas.Option.{unwrap_or-slice_get}
use Rattle.std.specs.List.{filter_map, cons_option}
use Rattle.std.proofs.lemmas.List.{take_more}
use Rattle.std.proofs.lemmas.List.Elements.{filter_map-append}
use Rattle.marked_automaton.specs.Trimmed.{kept_flags}
use Rattle.marked_automaton.proofs.Permuted.{get_set_other}

module _ {X Y : Type 0} (h : X → Option Y) (xs : List X) where
  -- one element more is kept, or not
  pub kept_one_more : (i : ℕ) (d : X) (kept : List Y) (z : Y) → i < length xs → h (get_or xs i d) ≡ Some z → kept ≡ filter_map h (take i xs) →
      kept ++ z ∷ [] ≡ filter_map h (take (i + 1) xs)
  kept_one_more i d kept z l e so_far =
      sym (ap (filter_map h) (take_more xs i d l)
      ∙ (filter_map-append h (take i xs) (get_or xs i d ∷ [])
      ∙ (ap (λ o. filter_map h (take i xs) ++ cons_option o []) e
      ∙ ap (λ (ys : List Y). ys ++ z ∷ []) (sym so_far))))

  pub kept_none_more : (i : ℕ) (d : X) (kept : List Y) → i < length xs → h (get_or xs i d) ≡ None → kept ≡ filter_map h (take i xs) →
      kept ≡ filter_map h (take (i + 1) xs)
  kept_none_more i d kept l e so_far =
      sym (ap (filter_map h) (take_more xs i d l)
      ∙ (filter_map-append h (take i xs) (get_or xs i d ∷ [])
      ∙ (ap (λ o. filter_map h (take i xs) ++ cons_option o []) e
      ∙ (append_nil (filter_map h (take i xs)) ∙ sym so_far))))
    where
      append_nil : (ys : List Y) → ys ++ [] ≡ ys
      append_nil [] = refl
      append_nil (y ∷ ys) = ap (λ (zs : List Y). y ∷ zs) (append_nil ys)

-- one more at the front of what is left
next : {X : Type 0} (xs : List X) (k : ℕ) (d : X) → k < length xs → drop k xs ≡ get_or xs k d ∷ drop (k + 1) xs
next xs k d l = let e : suc k ≡ k + 1 = omega arith in drop-cons xs k d l ∙ ap (λ n. get_or xs k d ∷ drop n xs) e

-- a flag that is kept, or not
pub flag_kept : (useful flags done whole : List Bool) (k : ℕ) → k < length useful → k < length flags → get_or useful k false ≡ true →
    done ++ kept_flags (drop k useful) (drop k flags) ≡ whole →
    (done ++ get_or flags k false ∷ []) ++ kept_flags (drop (k + 1) useful) (drop (k + 1) flags) ≡ whole
flag_kept useful flags done whole k a b set e =
    append_assoc done (get_or flags k false ∷ []) (kept_flags (drop (k + 1) useful) (drop (k + 1) flags))
    ∙ (ap (λ (t : Bool). done ++ kept_flags (t ∷ drop (k + 1) useful) (get_or flags k false ∷ drop (k + 1) flags)) (sym set)
    ∙ (ap (λ (xs : List Bool). done ++ kept_flags xs (get_or flags k false ∷ drop (k + 1) flags)) (sym (next useful k false a))
    ∙ (ap (λ (ys : List Bool). done ++ kept_flags (drop k useful) ys) (sym (next flags k false b)) ∙ e)))

pub flag_dropped : (useful flags done whole : List Bool) (k : ℕ) → k < length useful → k < length flags → get_or useful k false ≡ false →
    done ++ kept_flags (drop k useful) (drop k flags) ≡ whole → done ++ kept_flags (drop (k + 1) useful) (drop (k + 1) flags) ≡ whole
flag_dropped useful flags done whole k a b set e =
    ap (λ (t : Bool). done ++ kept_flags (t ∷ drop (k + 1) useful) (get_or flags k false ∷ drop (k + 1) flags)) (sym set)
    ∙ (ap (λ (xs : List Bool). done ++ kept_flags xs (get_or flags k false ∷ drop (k + 1) flags)) (sym (next useful k false a))
    ∙ (ap (λ (ys : List Bool). done ++ kept_flags (drop k useful) ys) (sym (next flags k false b)) ∙ e))

-- a list whose front is made anew, of what is kept of another, while its rest is as the other's
pub record IsPacked {X : Type 0} (h : X → Option X) (xs : List X) (i n : ℕ) (ys : List X) : Type 0 where
  pub len : length ys ≡ length xs
  pub few : n ≤ i
  pub front : take n ys ≡ filter_map h (take i xs)
  pub rest : (j : ℕ) → i ≤ j → slice_get ys j ≡ slice_get xs j

module _ {X : Type 0} (h : X → Option X) (xs : List X) where
  -- what stands at the next place is the other's
  pub packed_next : (i n : ℕ) (ys : List X) (d : X) → IsPacked h xs i n ys → i < length xs → get_or ys i d ≡ get_or xs i d
  packed_next i n ys d p l = sym (unwrap_or-slice_get ys i d) ∙ (ap (λ o. unwrap_or o d) (p.rest i (omega arith)) ∙ unwrap_or-slice_get xs i d)

  pub packed_one : (i n : ℕ) (ys : List X) (d z : X) → i < length xs → IsPacked h xs i n ys → h (get_or xs i d) ≡ Some z →
      IsPacked h xs (i + 1) (n + 1) (set ys n z)
  packed_one i n ys d z l p e = record {
    len = length-set ys n z ∙ p.len;
    few = omega (arith, p.few);
    front =
        take_set ys n z (omega (arith, p.few, p.len, l)) ∙ kept_one_more h xs i d (take n ys) z l e p.front;
    rest = λ j le. get_set_other ys n j z (λ same. omega (arith, same, le, p.few)) ∙ p.rest j (omega (arith, le));
  }
    where
      take_set : (ys : List X) (n : ℕ) (z : X) → n < length ys → take (n + 1) (set ys n z) ≡ take n ys ++ z ∷ []
      take_set ys n z l = let e : n + 1 ≡ suc n = omega arith in ap (λ m. take m (set ys n z)) e ∙ go ys n z l
        where
          go : (ys : List X) (n : ℕ) (z : X) → n < length ys → take (suc n) (set ys n z) ≡ take n ys ++ z ∷ []
          go [] n z l = absurd (omega arith)
          go (y ∷ ys) zero z l = refl
          go (y ∷ ys) (suc n) z l = ap (λ (zs : List X). y ∷ zs) (go ys n z (omega arith))

  pub packed_none : (i n : ℕ) (ys : List X) (d : X) → i < length xs → IsPacked h xs i n ys → h (get_or xs i d) ≡ None → IsPacked h xs (i + 1) n ys
  packed_none i n ys d l p e = record {
    len = p.len;
    few = omega (arith, p.few);
    front = kept_none_more h xs i d (take n ys) l e p.front;
    rest = λ j le. p.rest j (omega (arith, le));
  }
