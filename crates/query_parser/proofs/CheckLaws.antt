-- The checks of unions and joins, part by part, and of differences.
use Rattle.std.proofs.Common.{◌≡◌, ℕ, zero, suc, ◌+◌, ◌≤◌, ◌⊎◌, ◌↔◌, List, [], ◌∷◌, ◌++◌, length, take, Option, Some, None, Result, Ok, Err, inl, inr, refl, sym, subst}
use Rattle.std.specs.Prelude.{slice_get}
use Rattle.std.specs.Option.{MatchOption, IfSome, IfNone}
use Rattle.std.specs.Result.{IsErrAnd}
use Rattle.std.proofs.lemmas.List.{take_all}
use Rattle.span_core.specs.Lists.{Has}
use Rattle.spanner_model.specs.Gathered.{Adds}
use Rattle.spanner_model.specs.Expression.{ExprTree, minus, union_all, join_all}
use Rattle.spanner_model.specs.Captures.{VarName}
use Rattle.spanner_model.specs.Answer.{VarOf}
use Rattle.spanner_model.specs.Sound.{SureOf, SharesSure}
use Rattle.span_core.proofs.HasLaws.{Has-append_cases}
use Rattle.spanner_model.proofs.TreeLaws.{take_at_more}
use Rattle.spanner_model.proofs.ExprLaws.{join_part_var, join_var_part}
use Rattle.spanner_model.proofs.GatheredLaws.{exprs_in_turn, in_more}
use Rattle.functional_check.specs.Faults.{IsLeast, IsLeastOf}
use Rattle.functional_check.specs.declared.name_bits.NameBits.{NameBits}
use Rattle.functional_check.specs.Numbered.{members}
use Rattle.functional_check.proofs.LeastLaws.{least_same}
use Rattle.query_parser.specs.declared.check.Bound.{Bound}
use Rattle.query_parser.specs.declared.fault.QueryFault.{QueryFault}
use Rattle.query_parser.specs.declared.fault.QueryFault.TheVariants.{JoinUnsure}
use Rattle.query_parser.specs.TreeFaults.{Passes, HasPassingParts, Clashes, ClashesFirst, IsOfOneSide, OwnFault, InnerFault, IsExprFault}
use Rattle.query_parser.specs.Bounds.{BoundNames, bound_in, IsBoundOf, Checked, IsUnsureIn, IsInOne, IsDifferenceOf}
use Rattle.query_parser.proofs.Lists.{is_in}
use Rattle.query_parser.proofs.SureLaws.{join_part_sure, join_sure_part, sure_in_turn, union_sure_more}

module _ (V S : ℕ → VarName → Type 0) where
  abbrev pub AllPass : List ExprTree → Type 0
  AllPass es = (e : ExprTree) → Has es e → Passes V S e

  -- the first part that has a fault gives it
  pub union_inner : (es : List ExprTree) (k : ℕ) (e : ExprTree) (f : QueryFault) → slice_get es k ≡ Some e → AllPass (take k es) → IsExprFault V S e f → InnerFault V S (union_all es) f
  union_inner [] k e f at ok h = absurd (cc)
  union_inner (g ∷ es) zero e f at ok h = inl (let is : g ≡ e = cc in rw is h)
  union_inner (g ∷ es) (suc k) e f at ok h = inr (ok g (inl refl), union_inner es k e f at (λ w a. ok w (inr a)) h)

  pub join_inner : (es : List ExprTree) (k : ℕ) (e : ExprTree) (f : QueryFault) → slice_get es k ≡ Some e → AllPass (take k es) → IsExprFault V S e f → InnerFault V S (join_all es) f
  join_inner [] k e f at ok h = absurd (cc)
  join_inner (g ∷ es) zero e f at ok h = inl (let is : g ≡ e = cc in rw is h)
  join_inner (g ∷ es) (suc k) e f at ok h = inr (ok g (inl refl), join_inner es k e f at (λ w a. ok w (inr a)) h)

  pass_more : (es : List ExprTree) (e : ExprTree) → AllPass es → Passes V S e → AllPass (es ++ e ∷ [])
  pass_more es e ok h u a = elim (Has-append_cases es (e ∷ []) u a) as (λ _. Passes V S u) [
    | inl b ↦ ok u b
    | inr b ↦ elim b as (λ _. Passes V S u) [ inl is ↦ subst (Passes V S) is h | inr n ↦ absurd n ]
  ]

  pub pass_next : (es : List ExprTree) (k : ℕ) (e : ExprTree) → slice_get es k ≡ Some e → AllPass (take k es) → Passes V S e → AllPass (take (k + 1) es)
  pass_next es k e at ok h = subst AllPass (sym (take_at_more es k e at)) (pass_more (take k es) e ok h)

  -- ---- unions

  union_passes : (es : List ExprTree) → AllPass es → Passes V S (union_all es)
  union_passes [] ok = tt
  union_passes (e ∷ es) ok = (ok e (inl refl), union_passes es (λ w a. ok w (inr a)))

  union_vars_more : (es : List ExprTree) (e : ExprTree) (x : VarName) → VarOf V (union_all (es ++ e ∷ [])) x ↔ (VarOf V (union_all es) x ⊎ VarOf V e x)
  union_vars_more [] e x = (λ h. elim h [ inl a ↦ inr a | inr n ↦ absurd n ], λ h. elim h [ inl n ↦ absurd n | inr a ↦ inl a ])
  union_vars_more (g ∷ es) e x =
      let later = union_vars_more es e x in (
        λ h. elim h as (λ _. (VarOf V g x ⊎ VarOf V (union_all es) x) ⊎ VarOf V e x) [
          | inl a ↦ inl (inl a)
          | inr b ↦ elim (later.0 b) as (λ _. (VarOf V g x ⊎ VarOf V (union_all es) x) ⊎ VarOf V e x) [ inl a ↦ inl (inr a) | inr c ↦ inr c ]
        ],
        λ h. elim h as (λ _. VarOf V g x ⊎ VarOf V (union_all (es ++ e ∷ [])) x) [
          | inl p ↦ elim p as (λ _. VarOf V g x ⊎ VarOf V (union_all (es ++ e ∷ [])) x) [ inl a ↦ inl a | inr b ↦ inr (later.1 (inl b)) ]
          | inr c ↦ inr (later.1 (inr c))
        ],
      )

  -- of one part
  pub union_begin : (es : List ExprTree) (e : ExprTree) (b : BoundNames) → slice_get es 0 ≡ Some e → Passes V S e → IsBoundOf V S e b → AllPass (take 1 es) × IsBoundOf V S (union_all (take 1 es)) b
  union_begin es e b at ok is = (
    pass_next es 0 e at (λ u h. absurd h) ok,
    rw (take_at_more es 0 e at)
        ((λ x. (λ h. inl ((is.0 x).0 h), λ h. (is.0 x).1 (elim h as (λ _. VarOf V e x) [ inl a ↦ a | inr n ↦ absurd n ]))), (λ x. (λ h. ((is.1 x).0 h, tt), λ h. (is.1 x).1 h.0))),
  )

  -- of one part more
  pub union_next : (es : List ExprTree) (k : ℕ) (e : ExprTree) (old part new : BoundNames) → slice_get es k ≡ Some e → IsBoundOf V S (union_all (take k es)) old → IsBoundOf V S e part →
      Adds old.vars (Has part.vars) new.vars → ((x : VarName) → Has new.sure x ↔ (Has old.sure x × Has part.sure x)) → IsBoundOf V S (union_all (take (k + 1) es)) new
  union_next es k e old part new at before here vars sure =
      rw (take_at_more es k e at) (
        λ x. (
          λ h. (union_vars_more (take k es) e x).1 (elim ((vars x).0 h) as (λ _. VarOf V (union_all (take k es)) x ⊎ VarOf V e x) [ inl a ↦ inl ((before.0 x).0 a) | inr b ↦ inr ((here.0 x).0 b) ]),
          λ h. (vars x).1 (elim ((union_vars_more (take k es) e x).0 h) as (λ _. Has old.vars x ⊎ Has part.vars x) [ inl a ↦ inl ((before.0 x).1 a) | inr b ↦ inr ((here.0 x).1 b) ]),
        ),
        λ x. (
          λ h. let both = (sure x).0 h in (union_sure_more S (take k es) e x).1 ((before.1 x).0 both.0, (here.1 x).0 both.1),
          λ h. let both = (union_sure_more S (take k es) e x).0 h in (sure x).1 ((before.1 x).1 both.0, (here.1 x).1 both.1),
        ),
      )

  pub union_done : (es : List ExprTree) (k : ℕ) (b : BoundNames) → length es ≤ k → AllPass (take k es) → IsBoundOf V S (union_all (take k es)) b →
      Passes V S (union_all es) × IsBoundOf V S (union_all es) b
  union_done es k b le ok is =
      let all : take k es ≡ es = take_all k es le in
      (union_passes es (subst AllPass all ok), rw (← all) is)

  -- ---- joins

  -- what two parts share is sure in both
  abbrev pub AreSharing : List ExprTree → Type 0
  AreSharing [] = Unit {0}
  AreSharing (e ∷ es) = SharesSure V S e (join_all es) × AreSharing es

  join_passes : (es : List ExprTree) → AllPass es → AreSharing es → Passes V S (join_all es)
  join_passes [] ok share = tt
  join_passes (e ∷ es) ok share = (ok e (inl refl), join_passes es (λ w a. ok w (inr a)) share.1, share.0)

  join_parts_pass : (es : List ExprTree) → AllPass es → HasPassingParts V S (join_all es)
  join_parts_pass [] ok = tt
  join_parts_pass (e ∷ es) ok = (ok e (inl refl), join_parts_pass es (λ w a. ok w (inr a)))

  abbrev pub ShareSure : ExprTree → ExprTree → Type 0
  ShareSure g e = (x : VarName) → VarOf V g x → VarOf V e x → SureOf S g x × SureOf S e x

  shares_with : (e : ExprTree) (es : List ExprTree) (g : ExprTree) → SharesSure V S e (join_all es) → Has es g → ShareSure e g
  shares_with e [] g share h = absurd h
  shares_with e (u ∷ es) g share (inl is) = subst (ShareSure e) is share.0
  shares_with e (u ∷ es) g share (inr h) = shares_with e es g share.1 h

  shares_more : (u : ExprTree) (es : List ExprTree) (e : ExprTree) → SharesSure V S u (join_all es) → ShareSure u e → SharesSure V S u (join_all (es ++ e ∷ []))
  shares_more u [] e share here = (here, tt)
  shares_more u (g ∷ es) e share here = (share.0, shares_more u es e share.1 here)

  sharing_more : (es : List ExprTree) (e : ExprTree) → AreSharing es → ((g : ExprTree) → Has es g → ShareSure g e) → AreSharing (es ++ e ∷ [])
  sharing_more [] e share here = (tt, tt)
  sharing_more (u ∷ es) e share here = (shares_more u es e share.0 (here u (inl refl)), sharing_more es e share.1 (λ g h. here g (inr h)))

  -- the sure variables of each part are variables of it
  abbrev pub AreSureVars : List ExprTree → Type 0
  AreSureVars es = (e : ExprTree) → Has es e → (x : VarName) → SureOf S e x → VarOf V e x

  -- where parts share only what is sure in both, a variable that is sure in one is sure in each that has it
  settled : (es : List ExprTree) → AreSharing es → AreSureVars es → (g h : ExprTree) → Has es g → Has es h → (x : VarName) → VarOf V g x → SureOf S h x → SureOf S g x
  settled [] share among g h a b x v s = absurd a
  settled (e ∷ es) share among g h (inl a) (inl b) x v s = rw (← a) (rw b s)
  settled (e ∷ es) share among g h (inl a) (inr b) x v s =
      rw (← a) (shares_with e es h share.0 b x (rw a v) (among h (inr b) x s)).0
  settled (e ∷ es) share among g h (inr a) (inl b) x v s =
      (shares_with e es g share.0 a x (rw b (among h (inl b) x s)) v).1
  settled (e ∷ es) share among g h (inr a) (inr b) x v s = settled es share.1 (λ w c. among w (inr c)) g h a b x v s

  -- of these parts, the first variable that clashes
  abbrev pub IsFirstClash : List ExprTree → Option VarName → Type 0
  IsFirstClash es found = MatchOption found (AreSharing es) (ClashesFirst V S [] (join_all es))

  clash_before : (before es : List ExprTree) (e : ExprTree) (x : VarName) → ClashesFirst V S before (join_all es) x → ClashesFirst V S before (join_all (es ++ e ∷ [])) x
  clash_before before [] e x h = absurd h
  clash_before before (u ∷ es) e x (inl h) = inl h
  clash_before before (u ∷ es) e x (inr h) = inr (h.0, clash_before (u ∷ before) es e x h.1)

  -- the parts, the last one first, and those before them
  abbrev onto : List ExprTree → List ExprTree → List ExprTree
  onto [] before = before
  onto (u ∷ es) before = onto es (u ∷ before)

  onto_has : (es before : List ExprTree) (g : ExprTree) → Has (onto es before) g ↔ (Has es g ⊎ Has before g)
  onto_has [] before g = (λ h. inr h, λ h. elim h [ inl n ↦ absurd n | inr a ↦ a ])
  onto_has (u ∷ es) before g =
      let later = onto_has es (u ∷ before) g in (
        λ h. elim (later.0 h) as (λ _. ((u ≡ g) ⊎ Has es g) ⊎ Has before g) [
          | inl a ↦ inl (inr a)
          | inr b ↦ elim b as (λ _. ((u ≡ g) ⊎ Has es g) ⊎ Has before g) [ inl is ↦ inl (inl is) | inr c ↦ inr c ]
        ],
        λ h. later.1 (elim h as (λ _. Has es g ⊎ ((u ≡ g) ⊎ Has before g)) [
          | inl a ↦ elim a as (λ _. Has es g ⊎ ((u ≡ g) ⊎ Has before g)) [ inl is ↦ inr (inl is) | inr b ↦ inl b ]
          | inr c ↦ inr (inr c)
        ]),
      )

  clash_here : (before es : List ExprTree) (e : ExprTree) (x : VarName) → ((g : ExprTree) → Has before g → SharesSure V S g (join_all es)) → AreSharing es →
      IsLeast (Clashes V S (onto es before) e) x → ClashesFirst V S before (join_all (es ++ e ∷ [])) x
  clash_here before [] e x share sharing h = inl h
  clash_here before (u ∷ es) e x share sharing h = inr ((λ y c. c.4 ((share c.0 c.1).0 y c.2 c.3)), clash_here (u ∷ before) es e x next sharing.1 h)
    where
      next : (g : ExprTree) → Has (u ∷ before) g → SharesSure V S g (join_all es)
      next g (inl is) = rw (← is) sharing.0
      next g (inr has) = (share g has).1

  -- what is unsure in the parts so far and one more clashes there, where none clashed before
  unsure_clashes : (es : List ExprTree) (e : ExprTree) (old part : BoundNames) → AreSharing es → AreSureVars es → IsBoundOf V S (join_all es) old → IsBoundOf V S e part →
      (x : VarName) → IsUnsureIn old part x ↔ Clashes V S (onto es []) e x
  unsure_clashes es e old part share among before here x = (
    λ h.
        let p = join_var_part V es x ((before.0 x).0 h.0) in
        (p.0, (onto_has es [] p.0).1 (inl p.1), p.2, (here.0 x).0 h.1, λ both. h.2 ((before.1 x).1 (join_part_sure S es p.0 x p.1 both.0), (here.1 x).1 both.1)),
    λ c.
        let has = in_parts c.0 c.1 in (
          (before.0 x).1 (join_part_var V es c.0 x has c.2),
          (here.0 x).1 c.3,
          λ both. let q = join_sure_part S es x ((before.1 x).0 both.0) in c.4 (settled es share among c.0 q.0 has q.1 x c.2 q.2, (here.1 x).0 both.1),
        ),
  )
    where
      in_parts : (g : ExprTree) → Has (onto es []) g → Has es g
      in_parts g h = elim ((onto_has es [] g).0 h) as (λ _. Has es g) [ inl a ↦ a | inr n ↦ absurd n ]

  -- where nothing is unsure in both, the parts share with the next only what is sure in both
  none_unsure : (es : List ExprTree) (e : ExprTree) (old part : BoundNames) → AreSharing es → AreSureVars es → IsBoundOf V S (join_all es) old → IsBoundOf V S e part →
      ((x : VarName) → IsUnsureIn old part x → ⊥) → (g : ExprTree) → Has es g → ShareSure g e
  none_unsure es e old part share among before here none g has x v w = by (is_in old.sure x) (is_in part.sure x)
    where
      unsure : (Has old.sure x × Has part.sure x → ⊥) → ⊥
      unsure not = none x ((before.0 x).1 (join_part_var V es g x has v), (here.0 x).1 w, not)

      by : Has old.sure x ⊎ (Has old.sure x → ⊥) → Has part.sure x ⊎ (Has part.sure x → ⊥) → SureOf S g x × SureOf S e x
      by (inl a) (inl b) = let q = join_sure_part S es x ((before.1 x).0 a) in (settled es share among g q.0 has q.1 x v q.2, (here.1 x).0 b)
      by (inr n) b = absurd (unsure (λ both. n both.0))
      by (inl a) (inr n) = absurd (unsure (λ both. n both.1))

  clash_new : (es : List ExprTree) (e : ExprTree) (old part : BoundNames) (next : Option VarName) → AreSharing es → AreSureVars es → IsBoundOf V S (join_all es) old → IsBoundOf V S e part →
      IsLeastOf (IsUnsureIn old part) next → IsFirstClash (es ++ e ∷ []) next
  clash_new es e old part None share among before here h = sharing_more es e share (none_unsure es e old part share among before here h)
  clash_new es e old part (Some x) share among before here h =
      clash_here [] es e x (λ g n. absurd n) share (least_same (IsUnsureIn old part) (Clashes V S (onto es []) e) (Some x) (unsure_clashes es e old part share among before here) h)

  clash_more : (es : List ExprTree) (e : ExprTree) (old part : BoundNames) (found next : Option VarName) → AreSureVars es → IsBoundOf V S (join_all es) old → IsBoundOf V S e part →
      IsFirstClash es found → IfSome found (λ x. next ≡ Some x) → IfNone found (IsLeastOf (IsUnsureIn old part) next) → IsFirstClash (es ++ e ∷ []) next
  clash_more es e old part (Some x) next among before here h kept new = subst (IsFirstClash (es ++ e ∷ [])) (sym kept) (clash_before [] es e x h)
  clash_more es e old part None next among before here h kept new = clash_new es e old part next h among before here new

  pub clash_next : (es : List ExprTree) (k : ℕ) (e : ExprTree) (old part : BoundNames) (found next : Option VarName) → slice_get es k ≡ Some e → AreSureVars (take k es) →
      IsBoundOf V S (join_all (take k es)) old → IsBoundOf V S e part → IsFirstClash (take k es) found →
      IfSome found (λ x. next ≡ Some x) → IfNone found (IsLeastOf (IsUnsureIn old part) next) → IsFirstClash (take (k + 1) es) next
  clash_next es k e old part found next at among before here h kept new =
      rw (take_at_more es k e at) (clash_more (take k es) e old part found next among before here h kept new)

  -- a set of one part more
  added : (P Q R : VarName → Type 0) (old part new : List VarName) → ((x : VarName) → R x ↔ (P x ⊎ Q x)) → ((x : VarName) → Has old x ↔ P x) → ((x : VarName) → Has part x ↔ Q x) →
      Adds old (Has part) new → (x : VarName) → Has new x ↔ R x
  added P Q R old part new both is_p is_q adds x = (
    λ h. (both x).1 (elim ((adds x).0 h) as (λ _. P x ⊎ Q x) [ inl a ↦ inl ((is_p x).0 a) | inr b ↦ inr ((is_q x).0 b) ]),
    λ h. (adds x).1 (elim ((both x).0 h) as (λ _. Has old x ⊎ Has part x) [ inl a ↦ inl ((is_p x).1 a) | inr b ↦ inr ((is_q x).1 b) ]),
  )

  pub join_next : (es : List ExprTree) (k : ℕ) (e : ExprTree) (old part new : BoundNames) → slice_get es k ≡ Some e → IsBoundOf V S (join_all (take k es)) old → IsBoundOf V S e part →
      Adds old.vars (Has part.vars) new.vars → Adds old.sure (Has part.sure) new.sure → IsBoundOf V S (join_all (take (k + 1) es)) new
  join_next es k e old part new at before here vars sure =
      let us = take k es in
      rw (take_at_more es k e at) (
        added (VarOf V (join_all us)) (VarOf V e) (VarOf V (join_all (us ++ e ∷ []))) old.vars part.vars new.vars
            (in_more (VarOf V) (λ ws. VarOf V (join_all ws)) (exprs_in_turn V) us e) before.0 here.0 vars,
        added (SureOf S (join_all us)) (SureOf S e) (SureOf S (join_all (us ++ e ∷ []))) old.sure part.sure new.sure
            (in_more (SureOf S) (λ ws. SureOf S (join_all ws)) (sure_in_turn S) us e) before.1 here.1 sure,
      )

  join_own : (es : List ExprTree) (x : VarName) → ClashesFirst V S [] (join_all es) x → OwnFault V S (join_all es) (JoinUnsure x)
  join_own [] x h = h
  join_own (e ∷ es) x (inl h) = absurd h.0.1
  join_own (e ∷ es) x (inr h) = h.1

  pub join_done_fault : (es : List ExprTree) (k : ℕ) (x : VarName) (found : Option VarName) → length es ≤ k → AllPass (take k es) →
      IsFirstClash (take k es) found → found ≡ Some x → IsExprFault V S (join_all es) (JoinUnsure x)
  join_done_fault es k x found le ok h is =
      let all : take k es ≡ es = take_all k es le in
      let clash : ClashesFirst V S [] (join_all es) x = rw (← all) (subst (IsFirstClash (take k es)) is h) in
      inr (join_parts_pass es (subst AllPass all ok), join_own es x clash)

  pub join_done : (es : List ExprTree) (k : ℕ) (b : BoundNames) (found : Option VarName) → length es ≤ k → AllPass (take k es) →
      IsFirstClash (take k es) found → found ≡ None → IsBoundOf V S (join_all (take k es)) b → Passes V S (join_all es) × IsBoundOf V S (join_all es) b
  join_done es k b found le ok h is bound =
      let all : take k es ≡ es = take_all k es le in
      let share : AreSharing es = subst AreSharing all (subst (IsFirstClash (take k es)) is h) in
      (join_passes es (subst AllPass all ok) share, rw (← all) bound)

  -- a join of no parts yet
  pub join_begin : (es : List ExprTree) (b : BoundNames) → ((x : VarName) → Has b.vars x → ⊥) → ((x : VarName) → Has b.sure x → ⊥) → IsBoundOf V S (join_all (take 0 es)) b
  join_begin es b no_vars no_sure = (λ x. (no_vars x, λ h. absurd h), λ x. (no_sure x, λ h. absurd h))

  -- an error that is handed on
  pub checked_err : (names : List VarName) (e : ExprTree) (r : Result Bound QueryFault) (f : QueryFault) → IsErrAnd r (λ g. g ≡ f) → IsExprFault V S e f → Checked V S names e r
  checked_err names e (Ok b) f h fault = absurd h
  checked_err names e (Err g) f h fault = subst (IsExprFault V S e) (sym h) fault

  -- ---- differences

  one_side : (e g : ExprTree) (a b : BoundNames) → IsBoundOf V S e a → IsBoundOf V S g b → (x : VarName) → IsInOne a b x ↔ IsOfOneSide V S e g x
  one_side e g a b left right x = (
    λ h. elim h as (λ _. IsOfOneSide V S e g x) [
      | inl i ↦ inl ((left.0 x).0 i.0, λ v. i.1 ((right.0 x).1 v))
      | inr i ↦ inr ((right.0 x).0 i.0, λ v. i.1 ((left.0 x).1 v))
    ],
    λ h. elim h as (λ _. IsInOne a b x) [
      | inl i ↦ inl ((left.0 x).1 i.0, λ v. i.1 ((right.0 x).0 v))
      | inr i ↦ inr ((right.0 x).1 i.0, λ v. i.1 ((left.0 x).0 v))
    ],
  )

  -- what is in one of the two is in the other, where none is in one alone
  in_other : (a b : BoundNames) → ((x : VarName) → ¬ IsInOne a b x) → (x : VarName) → Has a.vars x ↔ Has b.vars x
  in_other a b none x = (λ h. by (is_in b.vars x) (λ n. none x (inl (h, n))), λ h. by (is_in a.vars x) (λ n. none x (inr (h, n))))
    where
      by : {P : Type 0} → P ⊎ (P → ⊥) → ((P → ⊥) → ⊥) → P
      by (inl h) not = h
      by (inr n) not = absurd (not n)

  pub minus_done : (names : List VarName) (e g : ExprTree) (a b : Bound) (r : Result Bound QueryFault) → Passes V S e → IsBoundOf V S e (bound_in names a) →
      Passes V S g → IsBoundOf V S g (bound_in names b) → IsDifferenceOf names a b r → Checked V S names (minus e g) r
  minus_done names e g a b (Ok bound) ok left other right (same, none) =
      let both = in_other (bound_in names a) (bound_in names b) none in (
        (ok, other, λ x. (λ v. (right.0 x).0 ((both x).0 ((left.0 x).1 v)), λ v. (left.0 x).0 ((both x).1 ((right.0 x).1 v)))),
        rw same left,
      )
  minus_done names e g a b (Err f) ok left other right (x, least, is) =
      let own = least_same (IsInOne (bound_in names a) (bound_in names b)) (IsOfOneSide V S e g) (Some x) (one_side e g (bound_in names a) (bound_in names b) left right) least in
      subst (IsExprFault V S (minus e g)) (sym is) (inr ((ok, other), own))

-- the names of one of two sets alone
pub one_alone : (names : List VarName) (a b : Bound) (first second both : NameBits) →
    ((x : VarName) → Has (members names first) x ↔ (Has (members names a.vars) x × (Has (members names b.vars) x → ⊥))) →
    ((x : VarName) → Has (members names second) x ↔ (Has (members names b.vars) x × (Has (members names a.vars) x → ⊥))) →
    Adds (members names first) (Has (members names second)) (members names both) → (x : VarName) → Has (members names both) x ↔ IsInOne (bound_in names a) (bound_in names b) x
one_alone names a b first second both p q is x = (
  λ h. elim ((is x).0 h) as (λ _. IsInOne (bound_in names a) (bound_in names b) x) [ inl g ↦ inl ((p x).0 g) | inr g ↦ inr ((q x).0 g) ],
  λ h. (is x).1 (elim h as (λ _. Has (members names first) x ⊎ Has (members names second) x) [ inl g ↦ inl ((p x).1 g) | inr g ↦ inr ((q x).1 g) ]),
)

-- the names that are in both sets, and not sure in both
pub unsure_in : (names : List VarName) (a b : Bound) (vars sure least : NameBits) →
    ((x : VarName) → Has (members names vars) x ↔ (Has (members names a.vars) x × Has (members names b.vars) x)) →
    ((x : VarName) → Has (members names sure) x ↔ (Has (members names a.sure) x × Has (members names b.sure) x)) →
    ((x : VarName) → Has (members names least) x ↔ (Has (members names vars) x × (Has (members names sure) x → ⊥))) →
    (x : VarName) → Has (members names least) x ↔ IsUnsureIn (bound_in names a) (bound_in names b) x
unsure_in names a b vars sure least v s is x = (
  λ h. let p = (is x).0 h in let q = (v x).0 p.0 in (q.0, q.1, λ both. p.1 ((s x).1 both)),
  λ u. (is x).1 ((v x).1 (u.0, u.1), λ h. u.2 ((s x).0 h)),
)
