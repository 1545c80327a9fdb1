-- The variables of expressions.
use Rattle.std.proofs.Common.{◌≡◌, ℕ, zero, suc, ◌+◌, ◌<◌, ◌≤◌, ◌⊎◌, ◌↔◌, Bool, true, false, List, [], ◌∷◌, ◌++◌, length, length-append, Option, Some, None, inl, inr, refl, sym, ap, ◌∙◌, subst, arith}
use Rattle.std.specs.Prelude.{slice_get, nat_eq, MatchBool, if◌then◌else◌}
use Rattle.std.specs.Option.{IsSomeAnd, ForSome}
use Rattle.std.proofs.lemmas.Bool.Decides.{nat_tests}
use Rattle.span_core.specs.Lists.{Has}
use Rattle.spanner_model.specs.Captures.{VarName}
use Rattle.spanner_model.specs.Expression.{ExprTree, QueryTree, atom, named, union_end, union, join_end, join, project, minus, union_all, join_all}
use Rattle.spanner_model.specs.Answer.{VarOf, vars_of_lets, IsResultVar}
use Rattle.spanner_model.specs.Sound.{SureOf, sure_of_lets, SharesSure, IsSoundExpr, AreUnited, AreJoined, IsSoundUnder, NameIn, NameInLets, NameOf, IsSound}
use Rattle.spanner_model.specs.Gathered.{vars_in, IsUnderLets, HaveRoom}
use Rattle.spanner_model.proofs.Nodes.{expr_nodes}

abbrev pub LetVars : Type 1
LetVars = ℕ → VarName → Type 0

-- the lets have the same variables
abbrev pub SameVars : LetVars → LetVars → Type 0
SameVars V W = (k : ℕ) (x : VarName) → V k x ↔ W k x

-- ---- the same variables of lets make the same variables of expressions

pub var_same : (V W : LetVars) → SameVars V W → (e : ExprTree) (x : VarName) → VarOf V e x → VarOf W e x
var_same V W same (atom a) x h = h
var_same V W same (named k) x h = (same k x).0 h
var_same V W same union_end x h = h
var_same V W same (union e rest) x (inl h) = inl (var_same V W same e x h)
var_same V W same (union e rest) x (inr h) = inr (var_same V W same rest x h)
var_same V W same join_end x h = h
var_same V W same (join e rest) x (inl h) = inl (var_same V W same e x h)
var_same V W same (join e rest) x (inr h) = inr (var_same V W same rest x h)
var_same V W same (project names e) x h = h
var_same V W same (minus e g) x h = var_same V W same e x h

pub turned : (V W : LetVars) → SameVars V W → SameVars W V
turned V W same k x = ((same k x).1, (same k x).0)

-- likewise for sure variables
pub sure_same : (S T : LetVars) → SameVars S T → (e : ExprTree) (x : VarName) → SureOf S e x → SureOf T e x
sure_same S T same (atom a) x h = h
sure_same S T same (named k) x h = (same k x).0 h
sure_same S T same union_end x h = h
sure_same S T same (union e rest) x h = (sure_same S T same e x h.0, sure_same S T same rest x h.1)
sure_same S T same join_end x h = h
sure_same S T same (join e rest) x (inl h) = inl (sure_same S T same e x h)
sure_same S T same (join e rest) x (inr h) = inr (sure_same S T same rest x h)
sure_same S T same (project names e) x h = (h.0, sure_same S T same e x h.1)
sure_same S T same (minus e g) x h = sure_same S T same e x h

-- and so the same expressions are sound
module _ (V W S T : LetVars) (same : SameVars V W) (sure : SameVars S T) where
  pub shares_same : (e rest : ExprTree) → SharesSure V S e rest → SharesSure W T e rest
  shares_same e (join g rest) h = (
    λ x v w.
        let both = h.0 x (var_same W V (turned V W same) e x v) (var_same W V (turned V W same) g x w) in
        (sure_same S T sure e x both.0, sure_same S T sure g x both.1),
    shares_same e rest h.1,
  )
  shares_same e (atom a) h = tt
  shares_same e (named k) h = tt
  shares_same e union_end h = tt
  shares_same e (union g rest) h = tt
  shares_same e join_end h = tt
  shares_same e (project names g) h = tt
  shares_same e (minus g k) h = tt

-- a sound expression under n lets names the first n lets alone
mutual
  pub sound_under : (V S : LetVars) (n : ℕ) (e : ExprTree) → IsSoundExpr V S n e → IsUnderLets n e
  sound_under V S n (atom a) h = h.0
  sound_under V S n (named k) h = h
  sound_under V S n union_end h = absurd h
  sound_under V S n (union e rest) h = (sound_under V S n e h.0, united_under V S n rest h.1)
  sound_under V S n join_end h = absurd h
  sound_under V S n (join e rest) h = (sound_under V S n e h.0, joined_under V S n rest h.1)
  sound_under V S n (project names e) h = sound_under V S n e h.0
  sound_under V S n (minus e g) h = (sound_under V S n e h.0, sound_under V S n g h.1)

  united_under : (V S : LetVars) (n : ℕ) (e : ExprTree) → AreUnited V S n e → IsUnderLets n e
  united_under V S n union_end h = tt
  united_under V S n (union e rest) h = (sound_under V S n e h.0, united_under V S n rest h.1)
  united_under V S n _ h = absurd h

  joined_under : (V S : LetVars) (n : ℕ) (e : ExprTree) → AreJoined V S n e → IsUnderLets n e
  joined_under V S n join_end h = tt
  joined_under V S n (join e rest) h = (sound_under V S n e h.0, joined_under V S n rest h.1)
  joined_under V S n _ h = absurd h

-- ---- parts

united_part : (V S : LetVars) (n : ℕ) (es : List ExprTree) (e : ExprTree) → AreUnited V S n (union_all es) → Has es e → IsSoundExpr V S n e
united_part V S n [] e h has = absurd has
united_part V S n (g ∷ es) e h (inl a) = subst (IsSoundExpr V S n) a h.0
united_part V S n (g ∷ es) e h (inr a) = united_part V S n es e h.1 a

joined_part : (V S : LetVars) (n : ℕ) (es : List ExprTree) (e : ExprTree) → AreJoined V S n (join_all es) → Has es e → IsSoundExpr V S n e
joined_part V S n [] e h has = absurd has
joined_part V S n (g ∷ es) e h (inl a) = subst (IsSoundExpr V S n) a h.0
joined_part V S n (g ∷ es) e h (inr a) = joined_part V S n es e h.1 a

-- the parts of a sound union, and of a sound join, are sound
pub union_part : (V S : LetVars) (n : ℕ) (es : List ExprTree) (e : ExprTree) → IsSoundExpr V S n (union_all es) → Has es e → IsSoundExpr V S n e
union_part V S n [] e h has = absurd has
union_part V S n (g ∷ es) e h (inl a) = subst (IsSoundExpr V S n) a h.0
union_part V S n (g ∷ es) e h (inr a) = united_part V S n es e h.1 a

pub join_part : (V S : LetVars) (n : ℕ) (es : List ExprTree) (e : ExprTree) → IsSoundExpr V S n (join_all es) → Has es e → IsSoundExpr V S n e
join_part V S n [] e h has = absurd has
join_part V S n (g ∷ es) e h (inl a) = subst (IsSoundExpr V S n) a h.0
join_part V S n (g ∷ es) e h (inr a) = joined_part V S n es e h.1 a

pub union_two : (V S : LetVars) (n : ℕ) (es : List ExprTree) → IsSoundExpr V S n (union_all es) → 2 ≤ length es
union_two V S n [] h = absurd h
union_two V S n (e ∷ []) h = absurd (h.2 refl)
union_two V S n (e ∷ g ∷ es) h = omega arith

pub join_two : (V S : LetVars) (n : ℕ) (es : List ExprTree) → IsSoundExpr V S n (join_all es) → 2 ≤ length es
join_two V S n [] h = absurd h
join_two V S n (e ∷ []) h = absurd (h.2 refl)
join_two V S n (e ∷ g ∷ es) h = omega arith

-- the parts of a union, and of a join, that names the first n lets alone, do so
pub union_part_under : (n : ℕ) (es : List ExprTree) (e : ExprTree) → IsUnderLets n (union_all es) → Has es e → IsUnderLets n e
union_part_under n [] e h has = absurd has
union_part_under n (g ∷ es) e h (inl a) = subst (IsUnderLets n) a h.0
union_part_under n (g ∷ es) e h (inr a) = union_part_under n es e h.1 a

pub join_part_under : (n : ℕ) (es : List ExprTree) (e : ExprTree) → IsUnderLets n (join_all es) → Has es e → IsUnderLets n e
join_part_under n [] e h has = absurd has
join_part_under n (g ∷ es) e h (inl a) = subst (IsUnderLets n) a h.0
join_part_under n (g ∷ es) e h (inr a) = join_part_under n es e h.1 a

-- a union and a join of the same parts have the same variables and the same size
pub union_vars : (V : LetVars) (es : List ExprTree) (x : VarName) → VarOf V (join_all es) x ↔ VarOf V (union_all es) x
union_vars V [] x = (λ h. h, λ h. h)
union_vars V (e ∷ es) x = (
  λ h. elim h as (λ _. VarOf V e x ⊎ VarOf V (union_all es) x) [ inl a ↦ inl a | inr b ↦ inr ((union_vars V es x).0 b) ],
  λ h. elim h as (λ _. VarOf V e x ⊎ VarOf V (join_all es) x) [ inl a ↦ inl a | inr b ↦ inr ((union_vars V es x).1 b) ],
)

pub union_size : (es : List ExprTree) → expr_nodes (union_all es) ≡ expr_nodes (join_all es)
union_size [] = refl
union_size (e ∷ es) = ap (λ n. 1 + expr_nodes e + n) (union_size es)

pub part_size : (es : List ExprTree) (e : ExprTree) → Has es e → expr_nodes e < expr_nodes (join_all es)
part_size [] e h = absurd h
part_size (g ∷ es) e (inl a) = omega (arith, ap expr_nodes a)
part_size (g ∷ es) e (inr a) = omega (arith, part_size es e a)

pub join_part_var : (V : LetVars) (es : List ExprTree) (e : ExprTree) (x : VarName) → Has es e → VarOf V e x → VarOf V (join_all es) x
join_part_var V [] e x has v = absurd has
join_part_var V (g ∷ es) e x (inl a) v = inl (subst (λ (w : ExprTree). VarOf V w x) (sym a) v)
join_part_var V (g ∷ es) e x (inr a) v = inr (join_part_var V es e x a v)

pub join_var_part : (V : LetVars) (es : List ExprTree) (x : VarName) → VarOf V (join_all es) x → (e : ExprTree) × Has es e × VarOf V e x
join_var_part V [] x h = absurd h
join_var_part V (g ∷ es) x (inl a) = (g, inl refl, a)
join_var_part V (g ∷ es) x (inr b) = let p = join_var_part V es x b in (p.0, inr p.1, p.2)

-- the names of a part are names of a union, and of a join
pub union_named : (es : List ExprTree) (e : ExprTree) (x : VarName) → Has es e → NameIn e x → NameIn (union_all es) x
union_named [] e x h v = absurd h
union_named (g ∷ es) e x (inl i) v = inl (subst (λ (w : ExprTree). NameIn w x) (sym i) v)
union_named (g ∷ es) e x (inr h) v = inr (union_named es e x h v)

pub join_named : (es : List ExprTree) (e : ExprTree) (x : VarName) → Has es e → NameIn e x → NameIn (join_all es) x
join_named [] e x h v = absurd h
join_named (g ∷ es) e x (inl i) v = inl (subst (λ (w : ExprTree). NameIn w x) (sym i) v)
join_named (g ∷ es) e x (inr h) v = inr (join_named es e x h v)

-- ---- variables are names of atoms

-- the variables of a sound expression are names of its atoms, or variables of the lets
mutual
  pub var_named : (V S : LetVars) (N : VarName → Type 0) → ((k : ℕ) (x : VarName) → V k x → N x) → (n : ℕ) (e : ExprTree) (x : VarName) → IsSoundExpr V S n e → VarOf V e x → NameIn e x ⊎ N x
  var_named V S N known n (atom a) x h v = inl v
  var_named V S N known n (named k) x h v = inr (known k x v)
  var_named V S N known n union_end x h v = absurd h
  var_named V S N known n (union e rest) x h (inl v) = elim (var_named V S N known n e x h.0 v) as (λ _. (NameIn e x ⊎ NameIn rest x) ⊎ N x) [ inl a ↦ inl (inl a) | inr b ↦ inr b ]
  var_named V S N known n (union e rest) x h (inr v) = elim (united_named V S N known n rest x h.1 v) as (λ _. (NameIn e x ⊎ NameIn rest x) ⊎ N x) [ inl a ↦ inl (inr a) | inr b ↦ inr b ]
  var_named V S N known n join_end x h v = absurd h
  var_named V S N known n (join e rest) x h (inl v) = elim (var_named V S N known n e x h.0 v) as (λ _. (NameIn e x ⊎ NameIn rest x) ⊎ N x) [ inl a ↦ inl (inl a) | inr b ↦ inr b ]
  var_named V S N known n (join e rest) x h (inr v) = elim (joined_named V S N known n rest x h.1 v) as (λ _. (NameIn e x ⊎ NameIn rest x) ⊎ N x) [ inl a ↦ inl (inr a) | inr b ↦ inr b ]
  var_named V S N known n (project names e) x h v = var_named V S N known n e x h.0 (h.1 x v).0
  var_named V S N known n (minus e g) x h v = elim (var_named V S N known n e x h.0 v) as (λ _. (NameIn e x ⊎ NameIn g x) ⊎ N x) [ inl a ↦ inl (inl a) | inr b ↦ inr b ]

  united_named : (V S : LetVars) (N : VarName → Type 0) → ((k : ℕ) (x : VarName) → V k x → N x) → (n : ℕ) (e : ExprTree) (x : VarName) → AreUnited V S n e → VarOf V e x → NameIn e x ⊎ N x
  united_named V S N known n union_end x h v = absurd v
  united_named V S N known n (union e rest) x h (inl v) = elim (var_named V S N known n e x h.0 v) as (λ _. (NameIn e x ⊎ NameIn rest x) ⊎ N x) [ inl a ↦ inl (inl a) | inr b ↦ inr b ]
  united_named V S N known n (union e rest) x h (inr v) = elim (united_named V S N known n rest x h.1 v) as (λ _. (NameIn e x ⊎ NameIn rest x) ⊎ N x) [ inl a ↦ inl (inr a) | inr b ↦ inr b ]
  united_named V S N known n _ x h v = absurd h

  joined_named : (V S : LetVars) (N : VarName → Type 0) → ((k : ℕ) (x : VarName) → V k x → N x) → (n : ℕ) (e : ExprTree) (x : VarName) → AreJoined V S n e → VarOf V e x → NameIn e x ⊎ N x
  joined_named V S N known n join_end x h v = absurd v
  joined_named V S N known n (join e rest) x h (inl v) = elim (var_named V S N known n e x h.0 v) as (λ _. (NameIn e x ⊎ NameIn rest x) ⊎ N x) [ inl a ↦ inl (inl a) | inr b ↦ inr b ]
  joined_named V S N known n (join e rest) x h (inr v) = elim (joined_named V S N known n rest x h.1 v) as (λ _. (NameIn e x ⊎ NameIn rest x) ⊎ N x) [ inl a ↦ inl (inr a) | inr b ↦ inr b ]
  joined_named V S N known n _ x h v = absurd h

pub let_named : (lets : List (VarName × ExprTree)) (k : ℕ) (l : VarName × ExprTree) (x : VarName) → slice_get lets k ≡ Some l → NameIn l.1 x → NameInLets lets x
let_named [] k l x at h = absurd (cc)
let_named (m ∷ lets) zero l x at h = inl (let e : m ≡ l = cc in subst (λ (w : VarName × ExprTree). NameIn w.1 x) (sym e) h)
let_named (m ∷ lets) (suc k) l x at h = inr (let_named lets k l x at h)

-- the variables of lets are names of their atoms
module _ (lets : List (VarName × ExprTree)) (sound : (k : ℕ) → ForSome (slice_get lets k) (λ l. IsSoundUnder lets k l.1)) where
  lets_named_one : (n : ℕ) (o : Option (VarName × ExprTree)) (x : VarName) → slice_get lets n ≡ o → ((k : ℕ) (x : VarName) → vars_of_lets lets n k x → NameInLets lets x) →
      IsSomeAnd o (λ l. VarOf (vars_of_lets lets n) l.1 x) → NameInLets lets x
  lets_named_one n None x at before h = absurd h
  lets_named_one n (Some l) x at before h =
      elim (var_named (vars_of_lets lets n) (sure_of_lets lets n) (NameInLets lets) before n l.1 x (sound n l at).0 h) as (λ _. NameInLets lets x) [ inl a ↦ let_named lets n l x at a | inr b ↦ b ]

  lets_named_by : (b : Bool) (P Q R : Type 0) → (P → R) → (Q → R) → MatchBool b P Q → R
  lets_named_by true P Q R f g h = f h
  lets_named_by false P Q R f g h = g h

  pub lets_named : (n k : ℕ) (x : VarName) → vars_of_lets lets n k x → NameInLets lets x
  lets_named zero k x h = absurd h
  lets_named (suc n) k x h =
      lets_named_by (nat_eq k n) (IsSomeAnd (slice_get lets n) (λ l. VarOf (vars_of_lets lets n) l.1 x)) (vars_of_lets lets n k x) (NameInLets lets x)
      (lets_named_one n (slice_get lets n) x refl (lets_named n)) (lets_named n k x) h

-- ---- the variables of lets, kept in a list

-- the kept sets are the variables of the first lets
abbrev pub Knows : List (VarName × ExprTree) → List (List VarName) → Type 0
Knows lets known = SameVars (vars_in known) (vars_of_lets lets (length known))

eq_suc : (j n : ℕ) → nat_eq (suc j) (suc n) ≡ nat_eq j n
eq_suc j n = grind (arith, nat_tests)

suc_not_zero : (j : ℕ) → nat_eq (suc j) 0 ≡ false
suc_not_zero j = grind (arith, nat_tests)

zero_not_suc : (n : ℕ) → nat_eq 0 (suc n) ≡ false
zero_not_suc n = grind (arith, nat_tests)

-- a place of a list with one element more
pub slice_get_push : {X : Type 0} (xs : List X) (y : X) (j : ℕ) → slice_get (xs ++ y ∷ []) j ≡ (if nat_eq j (length xs) then Some y else slice_get xs j)
slice_get_push [] y zero = refl
slice_get_push [] y (suc j) = ap (λ b. if b then Some y else None) (sym (suc_not_zero j))
slice_get_push (x ∷ xs) y zero = ap (λ b. if b then Some y else Some x) (sym (zero_not_suc (length xs)))
slice_get_push (x ∷ xs) y (suc j) = slice_get_push xs y j ∙ ap (λ b. if b then Some y else slice_get xs j) (sym (eq_suc j (length xs)))

knows_by : (b : Bool) (names : List VarName) (p : Option (List VarName)) (o : Option (VarName × ExprTree)) (l : VarName × ExprTree) (V : LetVars) (Q : Type 0) (x : VarName) →
    o ≡ Some l → (Has names x ↔ VarOf V l.1 x) → (IsSomeAnd p (λ ns. Has ns x) ↔ Q) →
    IsSomeAnd (if b then Some names else p) (λ ns. Has ns x) ↔ MatchBool b (IsSomeAnd o (λ m. VarOf V m.1 x)) Q
knows_by true names p o l V Q x at here before = subst (λ w. Has names x ↔ IsSomeAnd w (λ m. VarOf V m.1 x)) (sym at) here
knows_by false names p o l V Q x at here before = before

-- one more
pub knows_more : (lets : List (VarName × ExprTree)) (known : List (List VarName)) (l : VarName × ExprTree) (names : List VarName) →
    slice_get lets (length known) ≡ Some l → Knows lets known → ((x : VarName) → Has names x ↔ VarOf (vars_in known) l.1 x) → Knows lets (known ++ names ∷ [])
knows_more lets known l names at knows is j x =
    let n = length known in
    let V = vars_of_lets lets n in
    let long : length (known ++ names ∷ []) ≡ suc n = omega (arith, length-append known (names ∷ [])) in
    let here : Has names x ↔ VarOf V l.1 x = (
      λ h. var_same (vars_in known) V knows l.1 x ((is x).0 h),
      λ h. (is x).1 (var_same V (vars_in known) (turned (vars_in known) V knows) l.1 x h),
    ) in
    let step = knows_by (nat_eq j n) names (slice_get known j) (slice_get lets n) l V (V j x) x at here (knows j x) in
    subst (λ m. vars_in (known ++ names ∷ []) j x ↔ vars_of_lets lets m j x) (sym long)
    (subst (λ o. IsSomeAnd o (λ ns. Has ns x) ↔ vars_of_lets lets (suc n) j x) (sym (slice_get_push known names j)) step)

-- what is asked where the variables of an expression are gathered
pub record Asked (known : List (List VarName)) (e : ExprTree) : Type 0 where
  pub under : IsUnderLets (length known) e
  pub room : HaveRoom [] (VarOf (vars_in known) e)

asked : (q : QueryTree) (known : List (List VarName)) (n : ℕ) (e : ExprTree) → IsSound q → length known ≡ n → Knows q.lets known → IsSoundUnder q.lets n e →
    ((x : VarName) → NameIn e x → NameOf q x) → Asked known e
asked q known n e s long knows sound in_q =
    let V = vars_of_lets q.lets n in
    let S = sure_of_lets q.lets n in
    let var : (x : VarName) → VarOf (vars_in known) e x →
    VarOf V e x = λ x v. subst (λ m. VarOf (vars_of_lets q.lets m) e x) long (var_same (vars_in known) (vars_of_lets q.lets (length known)) knows e x v) in
    let named : (x : VarName) → ⊥ ⊎ VarOf (vars_in known) e x → NameOf q x = λ x h. elim h as (λ _. NameOf q x) [
      | inl a ↦ absurd a
      | inr v ↦ elim (var_named V S (NameInLets q.lets) (lets_named q.lets s.sound_lets n) n e x sound.0 (var x v)) as (λ _. NameOf q x) [
        | inl a ↦ in_q x a
        | inr b ↦ inl b
      ]
    ] in
    record {
      under = subst (λ m. IsUnderLets m e) (sym long) (sound_under V S n e sound.0);
      room = (s.few.0, s.few.1, λ x h. s.few.2 x (named x h));
    }

pub asked_let : (q : QueryTree) (known : List (List VarName)) (k : ℕ) (l : VarName × ExprTree) → IsSound q → length known ≡ k → Knows q.lets known → slice_get q.lets k ≡ Some l → Asked known l.1
asked_let q known k l s long knows at = asked q known k l.1 s long knows (s.sound_lets k l at) (λ x h. inl (let_named q.lets k l x at h))

pub asked_body : (q : QueryTree) (known : List (List VarName)) → IsSound q → length known ≡ length q.lets → Knows q.lets known → Asked known q.body
asked_body q known s long knows = asked q known (length q.lets) q.body s long knows s.sound_body (λ x h. inr h)

-- the variables of the body are those of the result
pub result_vars : (q : QueryTree) (known : List (List VarName)) (x : VarName) → length known ≡ length q.lets → Knows q.lets known → VarOf (vars_in known) q.body x ↔ IsResultVar q x
result_vars q known x long knows =
    let same : SameVars (vars_in known) (vars_of_lets q.lets (length q.lets)) = subst (λ n. SameVars (vars_in known) (vars_of_lets q.lets n)) long knows in (
      λ h. var_same (vars_in known) (vars_of_lets q.lets (length q.lets)) same q.body x h,
      λ h. var_same (vars_of_lets q.lets (length q.lets)) (vars_in known) (turned (vars_in known) (vars_of_lets q.lets (length q.lets)) same) q.body x h,
    )
