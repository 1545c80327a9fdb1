-- A projection that keeps all variables.
use Rattle.std.proofs.Common.{◌≡◌, ℕ, ◌+◌, ◌*◌, ◌^◌, ◌/◌, ◌%◌, ◌<◌, Bool, true, false, List, [], ◌∷◌, length, map, inl, inr, refl, sym, ap, subst, arith, mod-lt, ◌∙◌}
use Rattle.std.specs.Prelude.{if◌then◌else◌}
use Rattle.std.specs.List.{list_any}
use Rattle.std.specs.Str.{bytes_eq}
use Rattle.span_core.specs.NameSets.{Ascending}
use Rattle.std.proofs.Math.Nat.{div-add-mod}
use Rattle.std.proofs.lemmas.Nat.{pow_pos}
use Rattle.spanner_model.specs.Captures.{VarName}
use Rattle.span_core.specs.Lists.{Has, AreDistinct}
use Rattle.span_core.proofs.HasLaws.{distinct-le}
use Rattle.spanner_model.proofs.NameLaws.{ascending-distinct, same_names, list_any-Has, Has-list_any}
use Rattle.marked_automaton.specs.Laws.{KeepingLaw}
use Rattle.marked_automaton.specs.Marks.{bits_of, left_of, remarked_way, remarked_stop}
use Rattle.marked_automaton.proofs.Erasing.{name_itself, same_name}

-- of names that do not have the first, what is left is left of the lower bits
left_below : (y : VarName) (ys keep : List VarName) (m : ℕ) → ¬ Has keep y → left_of (y ∷ ys) keep m ≡ left_of ys keep (m % 2 ^ (2 * length ys))
left_below y ys [] m none = refl
left_below y ys (x ∷ keep) m none =
    let low : ℕ = m % 2 ^ (2 * length ys) in
    let here = ap (λ b. if b then m / 2 ^ (2 * length ys) else bits_of ys low x) (other (bytes_eq y x) refl) in
    ap (λ d. d * 2 ^ (2 * length keep) + left_of (y ∷ ys) keep m) here
    ∙ ap (λ r. bits_of ys low x * 2 ^ (2 * length keep) + r) (left_below y ys keep m (λ h. none (inr h)))
  where
    other : (b : Bool) → bytes_eq y x ≡ b → bytes_eq y x ≡ false
    other true e = absurd (none (inl (sym (same_name y x e))))
    other false e = e

pub left_of_all : (names : List VarName) (m : ℕ) → AreDistinct names → m < 2 ^ (2 * length names) → left_of names names m ≡ m
left_of_all [] m dis small = omega (arith, small)
left_of_all (y ∷ ys) m dis small =
    let n : ℕ = 2 ^ (2 * length ys) in
    let here = ap (λ b. if b then m / n else bits_of ys (m % n) y) (name_itself y y refl) in
    let rest = left_below y ys ys m dis.0 ∙ left_of_all ys (m % n) dis.1 (mod-lt m (pow_pos (2 * length ys))) in
    ap (λ d. d * n + left_of (y ∷ ys) ys m) here ∙ (ap (λ r. (m / n) * n + r) rest ∙ omega (arith, div-add-mod m n))

map_itself : {X : Type 0} (f : X → X) (xs : List X) → ((x : X) → Has xs x → f x ≡ x) → map f xs ≡ xs
map_itself f [] same = refl
map_itself f (x ∷ xs) same = ap (λ y. y ∷ map f xs) (same x (inl refl)) ∙ ap (λ ys. x ∷ ys) (map_itself f xs (λ y h. same y (inr h)))

pub keeping_law : KeepingLaw
keeping_law names A dis blocks =
    let e = left_of names names in
    let ways = map_itself (remarked_way e) A.ways (λ y h. ap (λ m. record { from = y.from; marks = m; bytes = y.bytes; to = y.to }) (left_of_all names y.marks dis (blocks.ways y h))) in
    let stops = map_itself (remarked_stop e) A.stops (λ x h. ap (λ m. record { state = x.state; marks = m }) (left_of_all names x.marks dis (blocks.stops x h))) in
    ap (λ ys. record { states = A.states; starts = A.starts; ways = ys; stops = map (remarked_stop e) A.stops; idle = A.idle }) ways
    ∙ ap (λ xs. record { states = A.states; starts = A.starts; ways = A.ways; stops = xs; idle = A.idle }) stops

-- as many names, each one of the others, are all of them
pub all_kept : (keep names : List VarName) → Ascending keep → Ascending names → ((x : VarName) → Has keep x → Has names x) → length keep ≡ length names → keep ≡ names
all_kept keep names up vp sub len = same_names keep names up vp sub back
  where
    back : (x : VarName) → Has names x → Has keep x
    back x h = go (list_any (λ y. bytes_eq y x) keep) refl
      where
        go : (b : Bool) → list_any (λ y. bytes_eq y x) keep ≡ b → Has keep x
        go true e = Has-list_any keep x e
        go false e =
            let none : ¬ Has keep x = λ k. false_true (sym e ∙ list_any-Has keep x k) in
            let more = distinct-le (x ∷ keep) names (none, ascending-distinct keep up) (λ z g. elim g as (λ _. Has names z) [ inl at ↦ subst (Has names) at h | inr k ↦ sub z k ]) in
            absurd (omega (arith, more, len))
          where
            false_true : false ≡ true → ⊥
            false_true f = cc
