-- The numbers of lets with one let more.
use Rattle.std.proofs.Common.{◌≡◌, ℕ, Bool, true, false, cond, List, [], ◌∷◌, ◌++◌, length, Some, None, ap, refl, sym, ◌∙◌, if◌then◌else◌}
use Rattle.std.specs.Str.{bytes_eq}
use Rattle.std.specs.BTreeMap.{BTreeMap, get, is_at, Updates}
use Rattle.std.specs.declared.cmp.Ordering.{Ordering}
use Rattle.std.specs.declared.cmp.Ordering.TheVariants.{Less, Equal, Greater}
use Rattle.std.specs.Cmp.Lexicographic.{nat_list_cmp_total}
use Rattle.std.specs.Ordering.{is_eq}
use Rattle.std.proofs.lemmas.Cmp.{tied_itself}
use Rattle.std.proofs.lemmas.Map.Lookups.{exact_bytes}
use Rattle.span_core.specs.NameSets.{name_cmp}
use Rattle.spanner_model.specs.Captures.{VarName}
use Rattle.query_parser.specs.Nest.{find, number_from}
use Rattle.query_parser.specs.Numbers.{Numbers}
use Rattle.query_parser.proofs.Lists.{eq_true, eq_is}

-- the number of a name, with one name more
find_more : (names : List VarName) (x q : VarName) → find (names ++ x ∷ []) q ≡ (if bytes_eq x q then Some (length names) else find names q)
find_more [] x q = by (bytes_eq x q)
  where
    by : (b : Bool) → number_from b None ≡ (if b then Some 0 else None)
    by true = refl
    by false = refl
find_more (y ∷ ys) x q = ap (number_from (bytes_eq y q)) (find_more ys x q) ∙ by (bytes_eq x q)
  where
    by : (b : Bool) → number_from (bytes_eq y q) (if b then Some (length ys) else find ys q) ≡ (if b then Some (length (y ∷ ys)) else find (y ∷ ys) q)
    by true = refl
    by false = refl

-- the order tells names apart as their bytes do
tells : (x q : VarName) → is_at (name_cmp x) q ≡ bytes_eq x q
tells x q = by (bytes_eq x q) refl (name_cmp x q) refl
  where
    same : bytes_eq x q ≡ true → name_cmp x q ≡ Equal
    same e = rw (← eq_is x q e) (tied_itself nat_list_cmp_total x)

    by : (b : Bool) → bytes_eq x q ≡ b → (o : Ordering) → name_cmp x q ≡ o → is_at (name_cmp x) q ≡ bytes_eq x q
    by true e o f = ap is_eq (same e) ∙ sym e
    by false e Equal f = let d = eq_true x q (exact_bytes x q f) in absurd (cc)
    by false e Less f = ap is_eq f ∙ sym e
    by false e Greater f = ap is_eq f ∙ sym e

pub numbers_more : (old new : BTreeMap VarName ℕ) (names : List VarName) (x : VarName) (k : ℕ) → Numbers old names → Updates name_cmp old new x (Some k) → k ≡ length names →
    Numbers new (names ++ x ∷ [])
numbers_more old new names x k told more is q =
    more.0 q ∙ ap (λ b. cond b (Some k) (get name_cmp old q)) (tells x q)
    ∙ ap (λ z. cond (bytes_eq x q) (Some z) (get name_cmp old q)) is
    ∙ ap (λ z. cond (bytes_eq x q) (Some (length names)) z) (told q) ∙ sym (find_more names x q)
