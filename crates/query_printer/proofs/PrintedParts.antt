-- The printed forms of the code's expressions, and of their parts in turn.
use Rattle.std.proofs.Common.{◌≡◌, ℕ, ◌+◌, ◌<◌, ◌≤◌, Bool, true, false, ◌==◌, List, [], ◌∷◌, ◌++◌, length, drop, map, Some, Result, Ok, Err, ap, sym, refl, ◌∙◌, arith, append_assoc, if◌then◌else◌}
use Rattle.std.specs.Prelude.{slice_get, nat_lt, codes}
use Rattle.std.specs.Option.{option_map}
use Rattle.std.specs.Result.{OnOk}
use Rattle.std.proofs.lemmas.Bool.Decides.{nat_tests}
use Rattle.std.proofs.lemmas.List.{drop_all, length-map}
use Rattle.std.proofs.lemmas.Option.{slice_get-map}
use Rattle.span_core.proofs.ListLaws.{appended, at_drop}
use Rattle.spanner_model.specs.Captures.{VarName}
use Rattle.spanner_model.specs.Expression.{ExprTree, union_all, join_all}
use Rattle.spanner_model.specs.ExprView.{expr_of, exprs_of}
use Rattle.spanner_model.specs.declared.expression.Expr.{Expr}
use Rattle.spanner_model.specs.declared.expression.Exprs.{Exprs}
use Rattle.spanner_model.specs.declared.expression.Expr.TheVariants.{Union, Join}
use Rattle.spanner_model.proofs.ExprTrees.{expr_of-Union, expr_of-Join}
use Rattle.query_printer.specs.PrintedFormula.{wrapped}
use Rattle.query_printer.proofs.PrintedTrees.{ended}
use Rattle.query_printer.specs.PrintedQuery.{a_join, a_union, shape, wraps_in_union, wraps_in_join, further, joined, keep_text, printed, conj_texts, unit_texts, lets_text, let_text}

-- five texts, one after another
five : (a t u v w x b c d e f : List ℕ) → b ≡ a ++ t → c ≡ b ++ u → d ≡ c ++ v → e ≡ d ++ w → f ≡ e ++ x → f ≡ a ++ (t ++ (u ++ (v ++ (w ++ x))))
five a t u v w x b c d e f hb hc hd he hf = hf ∙ ap (λ (xs : List ℕ). xs ++ x) (he ∙ ap (λ (xs : List ℕ). xs ++ w) (hd ∙ ap (λ (xs : List ℕ). xs ++ v) (hc ∙ ap (λ (xs : List ℕ). xs ++ u) hb))) ∙ whole
  where
    whole : ((((a ++ t) ++ u) ++ v) ++ w) ++ x ≡ a ++ (t ++ (u ++ (v ++ (w ++ x))))
    whole = simp append_assoc

-- where the last of them was put
pub five_on : {T E : Type 0} (r : Result T E) (a t u v w x b c d e f : List ℕ) → b ≡ a ++ t → c ≡ b ++ u → d ≡ c ++ v → e ≡ d ++ w → OnOk r (f ≡ e ++ x) →
    OnOk r (f ≡ a ++ (t ++ (u ++ (v ++ (w ++ x)))))
five_on (Ok done) a t u v w x b c d e f hb hc hd he hf = five a t u v w x b c d e f hb hc hd he hf
five_on (Err failed) a t u v w x b c d e f hb hc hd he hf = tt

-- ---- shapes

shape_union : (es : List ExprTree) → shape (union_all es) ≡ a_union
shape_union [] = refl
shape_union (e ∷ es) = refl

shape_join : (es : List ExprTree) → shape (join_all es) ≡ a_join
shape_join [] = refl
shape_join (e ∷ es) = refl

pub shape-Union : (e : Expr) (parts : Exprs) → e ≡ Union parts → a_union ≡ shape (expr_of e)
shape-Union e parts is = sym (ap (λ x. shape (expr_of x)) is ∙ ap shape (expr_of-Union parts) ∙ shape_union (exprs_of parts))

pub shape-Join : (e : Expr) (parts : Exprs) → e ≡ Join parts → a_join ≡ shape (expr_of e)
shape-Join e parts is = sym (ap (λ x. shape (expr_of x)) is ∙ ap shape (expr_of-Join parts) ∙ shape_join (exprs_of parts))

-- ---- texts with one text between them

-- the texts from k on, with the other one before each but the first
abbrev pub texts_from : List ℕ → ℕ → List (List ℕ) → List ℕ
texts_from between k ts = if k == 0 then joined between ts else further between (drop k ts)

texts_first : (between : List ℕ) (ts : List (List ℕ)) (k : ℕ) → (k == 0) ≡ true → texts_from between k ts ≡ joined between ts
texts_first between ts k h = ap (λ b. if b then joined between ts else further between (drop k ts)) h

texts_later : (between : List ℕ) (ts : List (List ℕ)) (k : ℕ) → (k == 0) ≡ false → texts_from between k ts ≡ further between (drop k ts)
texts_later between ts k h = ap (λ b. if b then joined between ts else further between (drop k ts)) h

pub texts_step : (between : List ℕ) (ts : List (List ℕ)) (k : ℕ) (t : List ℕ) → slice_get ts k ≡ Some t →
    texts_from between k ts ≡ (if nat_lt 0 k then between else []) ++ (t ++ texts_from between (k + 1) ts)
texts_step between ts k t e = by (k == 0) refl
  where
    next : (k + 1 == 0) ≡ false
    next = grind (arith, nat_tests)

    rest : t ++ further between (drop (k + 1) ts) ≡ t ++ texts_from between (k + 1) ts
    rest = ap (λ u. t ++ u) (sym (texts_later between ts (k + 1) next))

    by : (v : Bool) → (k == 0) ≡ v → texts_from between k ts ≡ (if nat_lt 0 k then between else []) ++ (t ++ texts_from between (k + 1) ts)
    by true h =
        let none : k ≡ 0 = grind (arith, nat_tests) in
        let lone : nat_lt 0 k ≡ false = grind (arith, nat_tests) in
        let whole : ts ≡ t ∷ drop (k + 1) ts = ap (λ n. drop n ts) (sym none) ∙ at_drop ts k t e in
        texts_first between ts k h ∙ ap (joined between) whole ∙ rest
        ∙ ap (λ b. (if b then between else []) ++ (t ++ texts_from between (k + 1) ts)) (sym lone)
    by false h =
        let later : nat_lt 0 k ≡ true = grind (arith, nat_tests) in
        texts_later between ts k h ∙ ap (further between) (at_drop ts k t e) ∙ ap (λ u. between ++ u) rest
        ∙ ap (λ b. (if b then between else []) ++ (t ++ texts_from between (k + 1) ts)) (sym later)

none_left : (between : List ℕ) (ts : List (List ℕ)) → length ts ≤ 0 → joined between ts ≡ []
none_left between [] past = refl
none_left between (t ∷ ts) past = absurd (omega (arith, past))

texts_end : (between : List ℕ) (ts : List (List ℕ)) (k : ℕ) → length ts ≤ k → texts_from between k ts ≡ []
texts_end between ts k past = by (k == 0) refl
  where
    by : (v : Bool) → (k == 0) ≡ v → texts_from between k ts ≡ []
    by true h = let none : k ≡ 0 = grind (arith, nat_tests) in texts_first between ts k h ∙ none_left between ts (omega (arith, past, none))
    by false h = texts_later between ts k h ∙ ap (further between) (drop_all k ts past)

-- one text more was put: `given` and then t
pub texts_put : (a between : List ℕ) (ts : List (List ℕ)) (k : ℕ) (t b c whole : List ℕ) → slice_get ts k ≡ Some t → b ≡ a ++ (if nat_lt 0 k then between else []) → c ≡ b ++ t →
    a ++ texts_from between k ts ≡ whole → c ++ texts_from between (k + 1) ts ≡ whole
texts_put a between ts k t b c whole at given put before =
    let rest = texts_from between (k + 1) ts in
    let barred = appended a (if nat_lt 0 k then between else []) b (texts_from between k ts) (t ++ rest) whole given (texts_step between ts k t at) before in
    appended b t c (t ++ rest) rest whole put refl barred

pub texts_done : (a between : List ℕ) (ts : List (List ℕ)) (k : ℕ) (whole : List ℕ) → length ts ≤ k → a ++ texts_from between k ts ≡ whole → a ≡ whole
texts_done a between ts k whole past is = ended a (texts_from between k ts) whole (texts_end between ts k past) is

-- ---- the parts of unions and joins

abbrev pub conj_text : List VarName → ExprTree → List ℕ
conj_text names e = wrapped (wraps_in_union (shape e)) (printed names e)

abbrev pub unit_text : List VarName → ExprTree → List ℕ
unit_text names e = wrapped (wraps_in_join (shape e)) (printed names e)

conjs_are : (names : List VarName) (es : List ExprTree) → conj_texts names (union_all es) ≡ map (conj_text names) es
conjs_are names [] = refl
conjs_are names (e ∷ es) = ap (λ ts. conj_text names e ∷ ts) (conjs_are names es)

units_are : (names : List VarName) (es : List ExprTree) → unit_texts names (join_all es) ≡ map (unit_text names) es
units_are names [] = refl
units_are names (e ∷ es) = ap (λ ts. unit_text names e ∷ ts) (units_are names es)

pub union_text : (names : List VarName) (es : List ExprTree) → joined (codes " union ") (map (conj_text names) es) ≡ printed names (union_all es)
union_text names [] = refl
union_text names (e ∷ es) = ap (λ ts. joined (codes " union ") (conj_text names e ∷ ts)) (sym (conjs_are names es))

pub join_text : (names : List VarName) (es : List ExprTree) → joined (codes " join ") (map (unit_text names) es) ≡ printed names (join_all es)
join_text names [] = refl
join_text names (e ∷ es) = ap (λ ts. joined (codes " join ") (unit_text names e ∷ ts)) (sym (units_are names es))

pub text_at : (f : ExprTree → List ℕ) (es : List ExprTree) (k : ℕ) (e : ExprTree) → slice_get es k ≡ Some e → slice_get (map f es) k ≡ Some (f e)
text_at f es k e at = slice_get-map f es k ∙ ap (option_map f) at

pub conj_put : (names : List VarName) (e : ExprTree) (w : Bool) (a b : List ℕ) → w ≡ wraps_in_union (shape e) → b ≡ a ++ wrapped w (printed names e) → b ≡ a ++ conj_text names e
conj_put names e w a b is put = put ∙ ap (λ v. a ++ wrapped v (printed names e)) is

pub unit_put : (names : List VarName) (e : ExprTree) (w : Bool) (a b : List ℕ) → w ≡ wraps_in_join (shape e) → b ≡ a ++ wrapped w (printed names e) → b ≡ a ++ unit_text names e
unit_put names e w a b is put = put ∙ ap (λ v. a ++ wrapped v (printed names e)) is

pub union_done : (names : List VarName) (es : List ExprTree) (a b : List ℕ) (k : ℕ) → length es ≤ k →
    b ++ texts_from (codes " union ") k (map (conj_text names) es) ≡ a ++ joined (codes " union ") (map (conj_text names) es) → b ≡ a ++ printed names (union_all es)
union_done names es a b k past is =
    texts_done b (codes " union ") (map (conj_text names) es) k _ (omega (arith, past, length-map es (conj_text names))) is ∙ ap (λ (t : List ℕ). a ++ t) (union_text names es)

pub join_done : (names : List VarName) (es : List ExprTree) (a b : List ℕ) (k : ℕ) → length es ≤ k →
    b ++ texts_from (codes " join ") k (map (unit_text names) es) ≡ a ++ joined (codes " join ") (map (unit_text names) es) → b ≡ a ++ printed names (join_all es)
join_done names es a b k past is =
    texts_done b (codes " join ") (map (unit_text names) es) k _ (omega (arith, past, length-map es (unit_text names))) is ∙ ap (λ (t : List ℕ). a ++ t) (join_text names es)

-- ---- the names that a projection keeps

pub keep_some : (names : List VarName) (a b : List ℕ) (k : ℕ) → 0 < length names → length names ≤ k → b ++ texts_from (44 ∷ []) k names ≡ a ++ joined (44 ∷ []) names → b ≡ a ++ keep_text names
keep_some [] a b k some past is = absurd (omega (arith, some))
keep_some (x ∷ xs) a b k some past is = texts_done b (44 ∷ []) (x ∷ xs) k (a ++ joined (44 ∷ []) (x ∷ xs)) past is

-- ---- lets

pub lets_put : (names : List VarName) (lets : List (VarName × ExprTree)) (k : ℕ) (l : VarName × ExprTree) (a b whole : List ℕ) → slice_get lets k ≡ Some l → b ≡ a ++ let_text names l →
    a ++ lets_text names (drop k lets) ≡ whole → b ++ lets_text names (drop (k + 1) lets) ≡ whole
lets_put names lets k l a b whole at put before =
    appended a (let_text names l) b (lets_text names (drop k lets)) (lets_text names (drop (k + 1) lets)) whole put (ap (lets_text names) (at_drop lets k l at)) before

lets_done : (names : List VarName) (lets : List (VarName × ExprTree)) (k : ℕ) (a whole : List ℕ) → length lets ≤ k → a ++ lets_text names (drop k lets) ≡ whole → a ≡ whole
lets_done names lets k a whole past is = ended a (lets_text names (drop k lets)) whole (ap (lets_text names) (drop_all k lets past)) is

-- the body after the lets
pub query_put : {T E : Type 0} (r : Result T E) (names : List VarName) (lets : List (VarName × ExprTree)) (k : ℕ) (a b c body : List ℕ) → length lets ≤ k →
    a ++ lets_text names (drop k lets) ≡ b ++ lets_text names lets → OnOk r (c ≡ a ++ body) → OnOk r (c ≡ b ++ (lets_text names lets ++ body))
query_put (Ok done) names lets k a b c body past is put =
    put ∙ ap (λ (t : List ℕ). t ++ body) (lets_done names lets k a (b ++ lets_text names lets) past is) ∙ append_assoc b (lets_text names lets) body
query_put (Err failed) names lets k a b c body past is put = tt
