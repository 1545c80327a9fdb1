-- What the grammar spells is formed.
use Rattle.std.proofs.Common.{◌≡◌, ℕ, suc, ◌+◌, ◌*◌, ◌<◌, ◌≤◌, List, [], ◌∷◌, ◌++◌, length, length-append, Some, slice_get, get_or, sym, subst, ◌∙◌, arith, inl, inr, ◌⊎◌}
use Rattle.std.proofs.lemmas.Option.{slice_get_within}
use Rattle.span_core.specs.Lists.{Has}
use Rattle.span_core.specs.NameSets.{AreVariables}
use Rattle.span_core.proofs.HasLaws.{Has-get_or}
use Rattle.span_core.proofs.NameSetLaws.{none_are_variables}
use Rattle.spanner_model.specs.Captures.{VarName}
use Rattle.spanner_model.specs.WellBuilt.{IsWellBuilt}
use Rattle.spanner_model.specs.Expression.{ExprTree, union_end, union, join_end, join, union_all, join_all}
use Rattle.spanner_model.specs.Sound.{IsFreeName, expr_nesting}
use Rattle.spanner_model.proofs.NameLaws.{with_cases}
use Rattle.span_core.specs.NameSets.{with_name}
use Rattle.span_core.proofs.ListLaws.{get_more_cases}
use Rattle.query_parser.specs.declared.TheConstants.{MOST_OPEN, MOST_MINUSES}
use Rattle.query_parser.specs.Tokens.{Token, atom_token, let_word, union_word, join_word, project_word, none_word, name_token, equals, semicolon, open_paren, close_paren, comma, minus_word}
use Rattle.query_parser.specs.Minuses.{minuses_in, minuses_in_lets}
use Rattle.query_parser.specs.Spells.{union_tree, join_tree, with_names, SpellsNames, one_name, more_names, SpellsKeep, keeps_none, keeps_names, SpellsExpr, lone_conj, more_conjs, less_conj, SpellsConj, lone_unit, more_units, SpellsUnit, atom_unit, named_unit, group_of, projection_of, SpellsLets, no_let, more_lets}
use Rattle.query_parser.specs.Formed.{IsFormed, AreUnitedFormed, AreJoinedFormed}
use Rattle.query_parser.proofs.Lists.{has_last, with_names_ascend}
use Rattle.query_parser.proofs.MinusLaws.{lets_more}
use Rattle.query_parser.proofs.MoveLaws.{names_len}

-- the atoms among the tokens are well built
abbrev pub AtomsBuilt : List Token → Type 0
AtomsBuilt [] = Unit {0}
AtomsBuilt (atom_token a ∷ ts) = IsWellBuilt a.formula × AtomsBuilt ts
AtomsBuilt (t ∷ ts) = AtomsBuilt ts

pub built_split : (t u : List Token) → AtomsBuilt (t ++ u) → AtomsBuilt t × AtomsBuilt u
built_split [] u b = (tt, b)
built_split (atom_token a ∷ t) u b = let r = built_split t u b.1 in ((b.0, r.0), r.1)
built_split (let_word ∷ t) u b = built_split t u b
built_split (union_word ∷ t) u b = built_split t u b
built_split (join_word ∷ t) u b = built_split t u b
built_split (project_word ∷ t) u b = built_split t u b
built_split (none_word ∷ t) u b = built_split t u b
built_split (name_token x ∷ t) u b = built_split t u b
built_split (equals ∷ t) u b = built_split t u b
built_split (semicolon ∷ t) u b = built_split t u b
built_split (open_paren ∷ t) u b = built_split t u b
built_split (close_paren ∷ t) u b = built_split t u b
built_split (comma ∷ t) u b = built_split t u b

-- formed expressions, in which no more than so many, and two for each difference, stand inside each other
abbrev NestsWithin : ℕ → ExprTree → Type 0
NestsWithin b e = expr_nesting e ≤ b + 2 * minuses_in e

abbrev AllFormed : ℕ → ℕ → List ExprTree → Type 0
AllFormed n b [] = Unit {0}
AllFormed n b (e ∷ es) = IsFormed n e × NestsWithin b e × AllFormed n b es

formed_more : (n b : ℕ) (es : List ExprTree) (e : ExprTree) → AllFormed n b es → IsFormed n e → NestsWithin b e → AllFormed n b (es ++ e ∷ [])
formed_more n b [] e h f d = (f, d, tt)
formed_more n b (g ∷ es) e h f d = (h.0, h.1, formed_more n b es e h.2 f d)

joined : (n b : ℕ) (es : List ExprTree) → AllFormed n b es → AreJoinedFormed n (join_all es) × NestsWithin (suc b) (join_all es)
joined n b [] h = (tt, omega arith)
joined n b (e ∷ es) h = let r = joined n b es h.2 in ((h.0, r.0), omega (arith, h.1, r.1))

united : (n b : ℕ) (es : List ExprTree) → AllFormed n b es → AreUnitedFormed n (union_all es) × NestsWithin (suc b) (union_all es)
united n b [] h = (tt, omega arith)
united n b (e ∷ es) h = let r = united n b es h.2 in ((h.0, r.0), omega (arith, h.1, r.1))

no_join_end : (e rest : ExprTree) → join e rest ≡ join_end → ⊥
no_join_end e rest is = absurd (cc)

no_union_end : (e rest : ExprTree) → union e rest ≡ union_end → ⊥
no_union_end e rest is = absurd (cc)

formed_join : (n b : ℕ) (es : List ExprTree) → 0 < length es → AllFormed n b es → IsFormed n (join_tree es) × NestsWithin (suc b) (join_tree es)
formed_join n b [] some h = absurd (omega arith)
formed_join n b (e ∷ []) some h = (h.0, omega (arith, h.1))
formed_join n b (e ∷ f ∷ es) some h =
    let r = joined n b (e ∷ f ∷ es) h in ((r.0.0, r.0.1, no_join_end f (join_all es)), r.1)

formed_union : (n b : ℕ) (es : List ExprTree) → 0 < length es → AllFormed n b es → IsFormed n (union_tree es) × NestsWithin (suc b) (union_tree es)
formed_union n b [] some h = absurd (omega arith)
formed_union n b (e ∷ []) some h = (h.0, omega (arith, h.1))
formed_union n b (e ∷ f ∷ es) some h =
    let r = united n b (e ∷ f ∷ es) h in ((r.0.0, r.0.1, no_union_end f (union_all es)), r.1)

-- the names that a projection keeps
kept_from : (names xs : List VarName) (x : VarName) → Has (with_names names xs) x → Has names x ⊎ Has xs x
kept_from names [] x h = inl h
kept_from names (y ∷ ys) x h = elim (kept_from (with_name y names) ys x h) [
  | inl g ↦ elim (with_cases y x names g) [ inl e ↦ inr (inl e) | inr i ↦ inl i ]
  | inr g ↦ inr (inr g)
]

names_free : {t : List Token} {xs : List VarName} → SpellsNames t xs → (x : VarName) → Has xs x → IsFreeName x
names_free (one_name free) x (inl e) = subst IsFreeName e free
names_free (one_name free) x (inr h) = absurd h
names_free (more_names {x = y} {xs = xs} s free) x h = by (has_last xs y x h) (names_free s x)
  where
    by : Has xs x ⊎ (y ≡ x) → (Has xs x → IsFreeName x) → IsFreeName x
    by (inl g) others = others g
    by (inr e) others = subst IsFreeName e free

keep_free : {t : List Token} {names : List VarName} → SpellsKeep t names → (x : VarName) → Has names x → IsFreeName x
keep_free keeps_none x h = absurd h
keep_free (keeps_names {xs = xs} s few) x h = elim (kept_from [] xs x h) [ inl g ↦ absurd g | inr g ↦ names_free s x g ]

keep_set : {t : List Token} {names : List VarName} → SpellsKeep t names → AreVariables names
keep_set keeps_none = none_are_variables
keep_set (keeps_names {xs = xs} s few) = record {
  few = few;
  ascending = with_names_ascend [] xs none_are_variables.ascending;
  named = λ k d l. (keep_free (keeps_names s few) (get_or (with_names [] xs) k d) (Has-get_or (with_names [] xs) k d l)).0;
}

mutual
  formed_expr : {names : List VarName} {room : ℕ} {t : List Token} {es : List ExprTree} → SpellsExpr names room t es → AtomsBuilt t →
      AllFormed (length names) (3 * room + 1) es × (0 < length es)
  formed_expr {names = names} {room = room} (lone_conj {es = es} s) b =
      let c = formed_conj s b in
      let j = formed_join (length names) (3 * room) es c.1 c.0 in ((j.0, omega (arith, j.1), tt), omega arith)
  formed_expr {names = names} {room = room} (more_conjs {t = t} {u = u} {fs = fs} {es = es} s d) b =
      let split = built_split t (union_word ∷ u) b in
      let x = formed_expr s split.0 in
      let c = formed_conj d split.1 in
      let j = formed_join (length names) (3 * room) es c.1 c.0 in
      (formed_more (length names) (3 * room + 1) fs (join_tree es) x.0 j.0 (omega (arith, j.1)), omega (arith, x.1, length-append fs (join_tree es ∷ [])))
  formed_expr {names = names} {room = room} (less_conj {t = t} {u = u} {fs = fs} {es = es} s d) b =
      let split = built_split t (name_token minus_word ∷ u) b in
      let x = formed_expr s split.0 in
      let c = formed_conj d split.1 in
      let left = formed_union (length names) (3 * room + 1) fs x.1 x.0 in
      let right = formed_join (length names) (3 * room) es c.1 c.0 in
      (((left.0, right.0), omega (arith, left.1, right.1), tt), omega arith)

  formed_conj : {names : List VarName} {room : ℕ} {t : List Token} {es : List ExprTree} → SpellsConj names room t es → AtomsBuilt t →
      AllFormed (length names) (3 * room) es × (0 < length es)
  formed_conj (lone_unit s) b = let u = formed_unit s b in ((u.0, u.1, tt), omega arith)
  formed_conj {names = names} {room = room} (more_units {t = t} {u = u} {es = es} {e = e} s d) b =
      let split = built_split t (join_word ∷ u) b in
      let x = formed_conj s split.0 in
      let c = formed_unit d split.1 in
      (formed_more (length names) (3 * room) es e x.0 c.0 c.1, omega (arith, x.1, length-append es (e ∷ [])))

  formed_unit : {names : List VarName} {room : ℕ} {t : List Token} {e : ExprTree} → SpellsUnit names room t e → AtomsBuilt t →
      IsFormed (length names) e × NestsWithin (3 * room) e
  formed_unit atom_unit b = (b.0, omega arith)
  formed_unit {names = names} (named_unit {k = k} {x = x} is) b = (slice_get_within names k x is, omega arith)
  formed_unit {names = names} (group_of {room = room} {t = t} {es = es} s) b =
      let x = formed_expr s (built_split t (close_paren ∷ []) b).0 in
      let u = formed_union (length names) (3 * room + 1) es x.1 x.0 in (u.0, omega (arith, u.1))
  formed_unit {names = names} (projection_of {room = room} {t = t} {u = u} {es = es} k s) b =
      let inner = (built_split t (open_paren ∷ (u ++ close_paren ∷ [])) b).1 in
      let x = formed_expr s (built_split u (close_paren ∷ []) inner).0 in
      let d = formed_union (length names) (3 * room + 1) es x.1 x.0 in ((d.0, keep_free k, keep_set k), omega (arith, d.1))

-- a whole expression
pub formed_whole : {names : List VarName} {t : List Token} {es : List ExprTree} → SpellsExpr names MOST_OPEN t es → AtomsBuilt t → minuses_in (union_tree es) ≤ MOST_MINUSES →
    IsFormed (length names) (union_tree es) × (expr_nesting (union_tree es) ≤ 600)
formed_whole {names = names} {es = es} s b few =
    let x = formed_expr s b in
    let u = formed_union (length names) (3 * MOST_OPEN + 1) es x.1 x.0 in (u.0, omega (arith, u.1, few))

pub formed_lets : {t : List Token} {lets : List (VarName × ExprTree)} → SpellsLets t lets → AtomsBuilt t → minuses_in_lets lets ≤ MOST_MINUSES →
    (k : ℕ) (l : VarName × ExprTree) → slice_get lets k ≡ Some l → IsFormed k l.1 × (expr_nesting l.1 ≤ 600) × IsFreeName l.0
formed_lets no_let b few k l is = absurd (cc)
formed_lets (more_lets {t = t} {u = u} {lets = lets} {x = x} {es = es} s free new e) b few k l is =
    by (get_more_cases lets (x, union_tree es) l k is)
    (formed_lets s (built_split t (let_word ∷ name_token x ∷ equals ∷ (u ++ semicolon ∷ [])) b).0 (omega (arith, few, lets_more lets x (union_tree es))) k l)
  where
    by : (slice_get lets k ≡ Some l) ⊎ ((k ≡ length lets) × ((x, union_tree es) ≡ l)) →
        (slice_get lets k ≡ Some l → IsFormed k l.1 × (expr_nesting l.1 ≤ 600) × IsFreeName l.0) → IsFormed k l.1 × (expr_nesting l.1 ≤ 600) × IsFreeName l.0
    by (inl g) others = others g
    by (inr (here, same)) others =
        let inner = (built_split t (let_word ∷ name_token x ∷ equals ∷ (u ++ semicolon ∷ [])) b).1 in
        let f = formed_whole e (built_split u (semicolon ∷ []) inner).0 (omega (arith, few, lets_more lets x (union_tree es))) in
        rw (← same)
        (rw (← names_len lets ∙ sym here) f.0, f.1, free)
