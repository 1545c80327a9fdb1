-- Sure variables, part by part.
use Rattle.std.proofs.Common.{◌≡◌, ℕ, ◌+◌, ◌≤◌, ◌⊎◌, ◌↔◌, true, List, [], ◌∷◌, ◌++◌, length, take, Some, inl, inr, refl, sym, subst}
use Rattle.std.specs.Prelude.{slice_get}
use Rattle.std.proofs.lemmas.List.{take_all}
use Rattle.span_core.specs.declared.TheConstants.{MOST_VARIABLES}
use Rattle.span_core.specs.Lists.{Has}
use Rattle.span_core.proofs.HasLaws.{Has-slice_get, Has-take}
use Rattle.spanner_model.specs.Captures.{VarName}
use Rattle.spanner_model.specs.Tree.{Tree, cap, cat_all, alt_all}
use Rattle.spanner_model.specs.Sequential.{IsSure}
use Rattle.spanner_model.specs.Gathered.{Adds, HaveRoom}
use Rattle.spanner_model.proofs.GatheredLaws.{NamesInTurn, in_more, names_in_turn, gathered_next, gathered_same}
use Rattle.spanner_model.proofs.TreeLaws.{take_at_more}

-- ---- of a capture

-- the name of a capture, which is among the names
pub own_name : (names own : List VarName) (name : VarName) → ((x : VarName) → Has own x ↔ ((name ≡ x) × Has names x)) → Has names name → (x : VarName) → Has own x ↔ (name ≡ x)
own_name names own name are has x = (λ h. ((are x).0 h).0, λ e. (are x).1 (e, subst (Has names) e has))

pub captured_sure : (name : VarName) (f : Tree) (vars new : List VarName) → ((x : VarName) → Has vars x ↔ IsSure f x) → Adds vars (λ x. name ≡ x) new →
    (x : VarName) → Has new x ↔ IsSure (cap name f) x
captured_sure name f vars new are added x = (
  λ h. elim ((added x).0 h) as (λ _. (name ≡ x) ⊎ IsSure f x) [ inl a ↦ inr ((are x).0 a) | inr e ↦ inl e ],
  λ h. (added x).1 (elim h as (λ _. Has vars x ⊎ (name ≡ x)) [ inl e ↦ inr e | inr s ↦ inl ((are x).1 s) ]),
)

-- ---- of a concatenation

parts_sure : (ts : List Tree) (x : VarName) → IsSure (cat_all ts) x → (t : Tree) × Has ts t × IsSure t x
parts_sure [] x s = absurd s
parts_sure (t ∷ ts) x (inl s) = (t, inl refl, s)
parts_sure (t ∷ ts) x (inr s) = let p = parts_sure ts x s in (p.0, inr p.1, p.2)

part_sure : (ts : List Tree) (t : Tree) (x : VarName) → Has ts t → IsSure t x → IsSure (cat_all ts) x
part_sure [] t x has s = absurd has
part_sure (u ∷ ts) t x (inl e) s = inl (rw e s)
part_sure (u ∷ ts) t x (inr has) s = inr (part_sure ts t x has s)

sure_in_turn : NamesInTurn IsSure (λ ts. IsSure (cat_all ts))
sure_in_turn = record { of_one = λ ts t x. part_sure ts t x; one_of = λ ts x. parts_sure ts x }

pub sure_next : (ts : List Tree) (k : ℕ) (t : Tree) (vars part all : List VarName) → slice_get ts k ≡ Some t →
    Adds [] (IsSure (cat_all (take k ts))) vars → ((x : VarName) → Has part x ↔ IsSure t x) → Adds vars (Has part) all → Adds [] (IsSure (cat_all (take (k + 1) ts))) all
sure_next ts k t vars part all at before here added =
    gathered_next IsSure (λ us. IsSure (cat_all us)) sure_in_turn ts k t [] vars all at before (gathered_same vars all (Has part) (IsSure t) true here added)

-- ---- of an alternation

-- these are the sure variables of the arms
abbrev pub AreSureInAll : List Tree → List VarName → Type 0
AreSureInAll ts vars = (x : VarName) → Has vars x ↔ IsSure (alt_all ts) x

arms_sure : (ts : List Tree) (t : Tree) (x : VarName) → IsSure (alt_all (ts ++ t ∷ [])) x ↔ (IsSure (alt_all ts) x × IsSure t x)
arms_sure [] t x = (λ s. (tt, s.0), λ s. (s.1, tt))
arms_sure (u ∷ ts) t x =
    let later = arms_sure ts t x in
    (λ s. let p = later.0 s.1 in ((s.0, p.0), p.1), λ s. (s.0.0, later.1 (s.0.1, s.1)))

pub next_arm : (ts : List Tree) (k : ℕ) (t : Tree) (vars arm new : List VarName) → slice_get ts k ≡ Some t → AreSureInAll (take k ts) vars →
    ((x : VarName) → Has arm x ↔ IsSure t x) → ((x : VarName) → Has new x ↔ (Has vars x × Has arm x)) → AreSureInAll (take (k + 1) ts) new
next_arm ts k t vars arm new at before here both =
    rw (take_at_more ts k t at) (λ x. (
      λ h. let p = (both x).0 h in (arms_sure (take k ts) t x).1 ((before x).0 p.0, (here x).0 p.1),
      λ s. let p = (arms_sure (take k ts) t x).0 s in (both x).1 ((before x).1 p.0, (here x).1 p.1),
    ))

-- ---- names that two sets share

-- of these names, those of b
abbrev pub AreShared : List VarName → List VarName → List VarName → Type 0
AreShared a b both = (x : VarName) → Has both x ↔ (Has a x × Has b x)

pub names_more : (a : List VarName) (k : ℕ) (name x : VarName) → slice_get a k ≡ Some name → Has (take (k + 1) a) x ↔ (Has (take k a) x ⊎ (name ≡ x))
names_more a k name x at =
    rw (take_at_more a k name at) (in_more (λ (y : VarName) (z : VarName). y ≡ z) Has names_in_turn (take k a) name x)

pub shared_room : (a b both : List VarName) (k : ℕ) (name : VarName) → length a ≤ MOST_VARIABLES → slice_get a k ≡ Some name → AreShared (take k a) b both → HaveRoom both (λ x. name ≡ x)
shared_room a b both k name few at before =
    (a, few, λ x h. elim h as (λ _. Has a x) [ inl o ↦ Has-take a k x ((before x).0 o).0 | inr e ↦ subst (Has a) e (Has-slice_get a k name at) ])

pub shared_more : (a b both new : List VarName) (k : ℕ) (name : VarName) → slice_get a k ≡ Some name → AreShared (take k a) b both → Has b name → Adds both (λ x. name ≡ x) new →
    AreShared (take (k + 1) a) b new
shared_more a b both new k name at before in_b added x = (
  λ h. elim ((added x).0 h) as (λ _. Has (take (k + 1) a) x × Has b x) [
    | inl o ↦ (let p = (before x).0 o in ((names_more a k name x at).1 (inl p.0), p.1))
    | inr e ↦ ((names_more a k name x at).1 (inr e), subst (Has b) e in_b)
  ],
  λ p. (added x).1 (elim ((names_more a k name x at).0 p.0) as (λ _. Has both x ⊎ (name ≡ x)) [ inl o ↦ inl ((before x).1 (o, p.1)) | inr e ↦ inr e ]),
)

pub shared_same : (a b both : List VarName) (k : ℕ) (name : VarName) → slice_get a k ≡ Some name → AreShared (take k a) b both → (Has b name → ⊥) → AreShared (take (k + 1) a) b both
shared_same a b both k name at before not_in_b x = (
  λ h. let p = (before x).0 h in ((names_more a k name x at).1 (inl p.0), p.1),
  λ p. elim ((names_more a k name x at).0 p.0) as (λ _. Has both x) [ inl o ↦ (before x).1 (o, p.1) | inr e ↦ absurd (not_in_b (subst (Has b) (sym e) p.1)) ],
)

pub shared_done : (a b both : List VarName) (k : ℕ) → length a ≤ k → AreShared (take k a) b both → AreShared a b both
shared_done a b both k le are = rw (← take_all k a le) are
