-- A printed form spells its query.
use Rattle.std.proofs.Common.{◌≡◌, ◌≢◌, ℕ, zero, suc, ◌≤◌, ◌<◌, false, List, [], ◌∷◌, ◌++◌, length, Some, ap, refl, sym, subst, ◌∙◌, arith, append_assoc, inl, inr}
use Rattle.std.specs.Prelude.{codes, slice_get, unwrap_or}
use Rattle.std.proofs.lemmas.List.{append-nil}
use Rattle.span_core.specs.declared.TheConstants.{MOST_VARIABLES}
use Rattle.span_core.specs.Names.{is_name_byte}
use Rattle.span_core.specs.NameSets.{AreVariables}
use Rattle.spanner_model.specs.Captures.{VarName}
use Rattle.span_core.specs.Lists.{Has}
use Rattle.spanner_model.specs.Sound.{IsFreeName}
use Rattle.spanner_model.specs.Expression.{AtomTree, ExprTree, atom, named, union_end, union, join_end, join, project, minus, union_all, join_all}
use Rattle.spanner_model.specs.WellBuilt.{IsWellBuilt}
use Rattle.query_printer.specs.PrintedFormula as formulas
use Rattle.formula_parser.specs.Runs.{begins}
use Rattle.query_printer.specs.PrintedFormula.{wrapped, wrapped_open, atom_text}
use Rattle.query_parser.specs.Tokens.{Token, atom_token, union_word, join_word, project_word, none_word, name_token, open_paren, close_paren, comma, minus_word}
use Rattle.query_parser.specs.Spells.{union_tree, join_tree, SpellsNames, one_name, more_names, SpellsKeep, keeps_none, keeps_names, SpellsExpr, lone_conj, more_conjs, less_conj, SpellsConj, lone_unit, more_units, SpellsUnit, atom_unit, named_unit, group_of, projection_of}
use Rattle.query_parser.specs.Formed.{IsFormed, AreUnitedFormed, AreJoinedFormed}
use Rattle.query_printer.specs.PrintedQuery.{Shape, a_unit, a_join, a_union, shape, wraps_in_union, wraps_in_join, further, keep_text, printed, conj_texts, unit_texts, most_open, most_in_atoms}
use Rattle.query_printer.proofs.KeptNames.{ascending_names}
use Rattle.query_printer.proofs.PrintedTokens.{LexedAlways, Lexes, lexed_both, lexed_sign, lexed_name, lexed_none, lexed_atom, lexed_union, lexed_join, lexed_minus, lexed_project, lexed_open, lexed_group}

-- one text more, after the text that stands between
lexes_more : (u between v : List ℕ) (ts us : List Token) (b : Token) → Lexes u ts → LexedAlways between (b ∷ []) → ((after : List ℕ) → begins is_name_byte (between ++ after) ≡ false) → Lexes v us →
    Lexes (u ++ (between ++ v)) (ts ++ b ∷ us)
lexes_more u between v ts us b first middle stop second after stops =
    lexed_both u (between ++ v) ts (b ∷ us) after
    (first ((between ++ v) ++ after) (ap (begins is_name_byte) (append_assoc between v after) ∙ stop (v ++ after)))
    (lexed_both between v (b ∷ []) us after (middle (v ++ after)) (second after stops))

-- the same, with the texts that follow
more_texts : (u between v : List ℕ) (rest : List (List ℕ)) → (u ++ (between ++ v)) ++ further between rest ≡ u ++ further between (v ∷ rest)
more_texts u between v rest = simp append_assoc

-- ---- the names that a projection keeps

abbrev NamesText : List ℕ → List VarName → Type 0
NamesText u xs = (ts : List Token) × Lexes u ts × SpellsNames ts xs

names_spelled : (rest : List VarName) → ((x : VarName) → Has rest x → IsFreeName x) → (u : List ℕ) (xs : List VarName) → NamesText u xs → NamesText (u ++ further (44 ∷ []) rest) (xs ++ rest)
names_spelled [] free u xs (ts, lexes, s) = (ts, rw (append-nil u) lexes, subst (SpellsNames ts) (sym (append-nil xs)) s)
names_spelled (x ∷ rest) free u xs (ts, lexes, s) =
    let here = free x (inl refl) in
    let r = names_spelled rest (λ y h. free y (inr h)) (u ++ (44 ∷ [] ++ x)) (xs ++ x ∷ []) (
      ts ++ comma ∷ name_token x ∷ [],
      lexes_more u (44 ∷ []) x ts (name_token x ∷ []) comma lexes (λ after. lexed_sign 44 comma after refl)
          (λ after. refl) (λ after stops. lexed_name x after here stops),
      more_names s here,
    ) in
    (r.0, rw (← more_texts u (44 ∷ []) x rest) r.1, subst (SpellsNames r.0) (append_assoc xs (x ∷ []) rest) r.2)

keep_spelled : (names : List VarName) → ((x : VarName) → Has names x → IsFreeName x) → AreVariables names → (ts : List Token) × Lexes (keep_text names) ts × SpellsKeep ts names
keep_spelled [] free set = (none_word ∷ [], lexed_none, keeps_none)
keep_spelled (x ∷ xs) free set =
    let here = free x (inl refl) in
    let r = names_spelled xs (λ y h. free y (inr h)) x (x ∷ []) (name_token x ∷ [], λ after stops. lexed_name x after here stops, one_name here) in
    let all = ascending_names (x ∷ xs) set.ascending in
    (r.0, r.1, subst (SpellsKeep r.0) all (keeps_names r.2 (rw all set.few)))

-- ---- expressions

-- `names` are those of the lets by number, of which an expression may speak of the first n; `known` has these
module _ (names known : List VarName) (n : ℕ)
    (told : (k : ℕ) → k < n → (x : VarName) × (slice_get known k ≡ Some x) × (slice_get names k ≡ Some x) × IsFreeName x) where
  abbrev pub AsUnit : ℕ → List ℕ → ExprTree → Type 0
  AsUnit room u e = (ts : List Token) × Lexes u ts × SpellsUnit known room ts e

  abbrev pub AsConj : ℕ → List ℕ → ExprTree → Type 0
  AsConj room u e = (ts : List Token) × (es : List ExprTree) × Lexes u ts × SpellsConj known room ts es × (join_tree es ≡ e)

  abbrev pub AsExpr : ℕ → List ℕ → ExprTree → Type 0
  AsExpr room u e = (ts : List Token) × (es : List ExprTree) × Lexes u ts × SpellsExpr known room ts es × (union_tree es ≡ e)

  -- a text of the expression, as its shape wants
  abbrev pub Forms : ℕ → List ℕ → ExprTree → Shape → Type 0
  Forms room u e a_unit = AsUnit room u e
  Forms room u e a_join = AsConj room u e
  Forms room u e a_union = AsExpr room u e

  unit_conj : (room : ℕ) (u : List ℕ) (e : ExprTree) → AsUnit room u e → AsConj room u e
  unit_conj room u e (ts, lexes, s) = (ts, e ∷ [], lexes, lone_unit s, refl)

  conj_expr : (room : ℕ) (u : List ℕ) (e : ExprTree) → AsConj room u e → AsExpr room u e
  conj_expr room u e (ts, es, lexes, s, is) = (ts, join_tree es ∷ [], lexes, lone_conj s, is)

  pub forms_expr : (room : ℕ) (u : List ℕ) (e : ExprTree) (k : Shape) → Forms room u e k → AsExpr room u e
  forms_expr room u e a_unit f = conj_expr room u e (unit_conj room u e f)
  forms_expr room u e a_join f = conj_expr room u e f
  forms_expr room u e a_union f = f

  -- in parentheses it is a unit
  grouped : (room : ℕ) (u : List ℕ) (e : ExprTree) → AsExpr room u e → AsUnit (suc room) (40 ∷ (u ++ 41 ∷ [])) e
  grouped room u e (ts, es, lexes, s, is) =
      (open_paren ∷ (ts ++ close_paren ∷ []), (λ after stops. lexed_group u ts lexes after), subst (SpellsUnit known (suc room) (open_paren ∷ (ts ++ close_paren ∷ []))) is (group_of s))

  -- a text that has these forms where at least m more may be opened
  abbrev AllForms : ℕ → List ℕ → ExprTree → Shape → Type 0
  AllForms m u e k = (r : ℕ) → m ≤ r → Forms r u e k

  paren_unit : (room m : ℕ) (u : List ℕ) (e : ExprTree) (k : Shape) → AllForms m u e k → suc m ≤ room → AsUnit room (40 ∷ (u ++ 41 ∷ [])) e
  paren_unit zero m u e k all fits = absurd (omega arith)
  paren_unit (suc r) m u e k all fits = grouped r u e (forms_expr r u e k (all r (omega arith)))

  -- among the parts of a union, and of a join
  in_union : (room m : ℕ) (u : List ℕ) (e : ExprTree) (k : Shape) → AllForms m u e k → wrapped_open (wraps_in_union k) m ≤ room → AsConj room (wrapped (wraps_in_union k) u) e
  in_union room m u e a_unit all fits = unit_conj room u e (all room fits)
  in_union room m u e a_join all fits = all room fits
  in_union room m u e a_union all fits = unit_conj room (40 ∷ (u ++ 41 ∷ [])) e (paren_unit room m u e a_union all fits)

  in_join : (room m : ℕ) (u : List ℕ) (e : ExprTree) (k : Shape) → AllForms m u e k → wrapped_open (wraps_in_join k) m ≤ room → AsUnit room (wrapped (wraps_in_join k) u) e
  in_join room m u e a_unit all fits = all room fits
  in_join room m u e a_join all fits = paren_unit room m u e a_join all fits
  in_join room m u e a_union all fits = paren_unit room m u e a_union all fits

  -- the conjunctions of a union so far, and the units of a join
  abbrev ConjsText : ℕ → List ℕ → List ExprTree → Type 0
  ConjsText room u fs = (ts : List Token) × Lexes u ts × SpellsExpr known room ts fs

  abbrev UnitsText : ℕ → List ℕ → List ExprTree → Type 0
  UnitsText room u fs = (ts : List Token) × Lexes u ts × SpellsConj known room ts fs

  next_conj : (room : ℕ) (u v : List ℕ) (fs : List ExprTree) (e : ExprTree) → ConjsText room u fs → AsConj room v e → ConjsText room (u ++ (codes " union " ++ v)) (fs ++ e ∷ [])
  next_conj room u v fs e (ts, lexes, s) (us, es, more, c, is) = (
    ts ++ union_word ∷ us,
    lexes_more u (codes " union ") v ts us union_word lexes lexed_union (λ after. refl) more,
    rw (← is) (more_conjs s c),
  )

  next_unit : (room : ℕ) (u v : List ℕ) (fs : List ExprTree) (e : ExprTree) → UnitsText room u fs → AsUnit room v e → UnitsText room (u ++ (codes " join " ++ v)) (fs ++ e ∷ [])
  next_unit room u v fs e (ts, lexes, s) (us, more, c) =
      (ts ++ join_word ∷ us, lexes_more u (codes " join ") v ts us join_word lexes lexed_join (λ after. refl) more, more_units s c)

  union_of_parts : (e rest : ExprTree) (es : List ExprTree) → union_all es ≡ rest → rest ≢ union_end → union_tree (e ∷ es) ≡ union e rest
  union_of_parts e rest [] is more = absurd (more (sym is))
  union_of_parts e rest (f ∷ fs) is more = ap (union e) is

  join_of_parts : (e rest : ExprTree) (es : List ExprTree) → join_all es ≡ rest → rest ≢ join_end → join_tree (e ∷ es) ≡ join e rest
  join_of_parts e rest [] is more = absurd (more (sym is))
  join_of_parts e rest (f ∷ fs) is more = ap (join e) is

  -- the first part
  first_conj : (room : ℕ) (u : List ℕ) (e : ExprTree) → AsConj room u e → ConjsText room u (e ∷ [])
  first_conj room u e (ts, es, lexes, s, is) = (ts, lexes, rw (← is) (lone_conj s))

  first_unit : (room : ℕ) (u : List ℕ) (e : ExprTree) → AsUnit room u e → UnitsText room u (e ∷ [])
  first_unit room u e (ts, lexes, s) = (ts, lexes, lone_unit s)

  -- all parts of a union, and of a join
  abbrev pub Conjs : ℕ → List ℕ → List ExprTree → ExprTree → Type 0
  Conjs room u fs rest = (es : List ExprTree) × ConjsText room u (fs ++ es) × (union_all es ≡ rest)

  abbrev pub Units : ℕ → List ℕ → List ExprTree → ExprTree → Type 0
  Units room u fs rest = (es : List ExprTree) × UnitsText room u (fs ++ es) × (join_all es ≡ rest)

  no_conj : (room : ℕ) (u : List ℕ) (fs : List ExprTree) → ConjsText room u fs → Conjs room (u ++ []) fs union_end
  no_conj room u fs (ts, lexes, s) = ([], (ts, rw (append-nil u) lexes, subst (SpellsExpr known room ts) (sym (append-nil fs)) s), refl)

  no_unit : (room : ℕ) (u : List ℕ) (fs : List ExprTree) → UnitsText room u fs → Units room (u ++ []) fs join_end
  no_unit room u fs (ts, lexes, s) = ([], (ts, rw (append-nil u) lexes, subst (SpellsConj known room ts) (sym (append-nil fs)) s), refl)

  conjs_after : (room : ℕ) (u v : List ℕ) (rest : List (List ℕ)) (fs : List ExprTree) (e tree : ExprTree) →
      Conjs room ((u ++ (codes " union " ++ v)) ++ further (codes " union ") rest) (fs ++ e ∷ []) tree → Conjs room (u ++ further (codes " union ") (v ∷ rest)) fs (union e tree)
  conjs_after room u v rest fs e tree (es, (ts, lexes, s), is) = (
    e ∷ es,
    (ts, rw (← more_texts u (codes " union ") v rest) lexes, subst (SpellsExpr known room ts) (append_assoc fs (e ∷ []) es) s),
    ap (union e) is,
  )

  units_after : (room : ℕ) (u v : List ℕ) (rest : List (List ℕ)) (fs : List ExprTree) (e tree : ExprTree) →
      Units room ((u ++ (codes " join " ++ v)) ++ further (codes " join ") rest) (fs ++ e ∷ []) tree → Units room (u ++ further (codes " join ") (v ∷ rest)) fs (join e tree)
  units_after room u v rest fs e tree (es, (ts, lexes, s), is) = (
    e ∷ es,
    (ts, rw (← more_texts u (codes " join ") v rest) lexes, subst (SpellsConj known room ts) (append_assoc fs (e ∷ []) es) s),
    ap (join e) is,
  )

  whole_union : (room : ℕ) (u : List ℕ) (e rest : ExprTree) → rest ≢ union_end → Conjs room u (e ∷ []) rest → AsExpr room u (union e rest)
  whole_union room u e rest more (es, (ts, lexes, s), is) = (ts, e ∷ es, lexes, s, union_of_parts e rest es is more)

  whole_join : (room : ℕ) (u : List ℕ) (e rest : ExprTree) → rest ≢ join_end → Units room u (e ∷ []) rest → AsConj room u (join e rest)
  whole_join room u e rest more (es, (ts, lexes, s), is) = (ts, e ∷ es, lexes, s, join_of_parts e rest es is more)

  named_text : (room k : ℕ) → k < n → AsUnit room (unwrap_or (slice_get names k) []) (named k)
  named_text room k within =
      let (x, there, here, free) = told k within in
      (name_token x ∷ [], rw here (λ after stops. lexed_name x after free stops), named_unit there)

  atom_text_unit : (room : ℕ) (a : AtomTree) → IsWellBuilt a.formula → formulas.most_open a.formula ≤ 100 → AsUnit room (atom_text a) (atom a)
  atom_text_unit room a built few = (atom_token a ∷ [], (λ after stops. lexed_atom a after stops built few), atom_unit)

  projected_text : (room : ℕ) (keep : List VarName) (u : List ℕ) (e : ExprTree) → ((x : VarName) → Has keep x → IsFreeName x) → AreVariables keep → AsExpr room u e →
      AsUnit (suc room) (codes "project " ++ (keep_text keep ++ (codes " (" ++ (u ++ 41 ∷ [])))) (project keep e)
  projected_text room keep u e free set (ts, es, lexes, s, is) =
      let (ks, keeps, k) = keep_spelled keep free set in
      let inner = ts ++ close_paren ∷ [] in
      let whole = project_word ∷ (ks ++ open_paren ∷ inner) in (
        whole,
        (λ after stops.
            lexed_both (codes "project ") (keep_text keep ++ (codes " (" ++ (u ++ 41 ∷ []))) (project_word ∷ []) (ks ++ open_paren ∷ inner) after (lexed_project _)
            (lexed_both (keep_text keep) (codes " (" ++ (u ++ 41 ∷ [])) ks (open_paren ∷ inner) after (keeps _ refl)
            (lexed_both (codes " (") (u ++ 41 ∷ []) (open_paren ∷ []) inner after (lexed_open _)
            (lexed_both u (41 ∷ []) ts (close_paren ∷ []) after (lexes (41 ∷ after) refl) (lexed_sign 41 close_paren after refl))))),
        rw (← is) (projection_of k s),
      )

  -- the sides of a difference
  less_text : (room : ℕ) (u v : List ℕ) (e g : ExprTree) → AsConj room u e → AsConj room v g → AsExpr room (u ++ (codes " minus " ++ v)) (minus e g)
  less_text room u v e g (ts, ds, lexes, s, is) (us, es, more, c, same) =
      let whole = ts ++ name_token minus_word ∷ us in (
        whole,
        minus e g ∷ [],
        lexes_more u (codes " minus ") v ts us (name_token minus_word) lexes lexed_minus (λ after. refl) more,
        rw (← is) (rw (← same) (less_conj (lone_conj s) c)),
        refl,
      )

  mutual
    pub spelled : (e : ExprTree) → IsFormed n e → most_in_atoms e ≤ 100 → (room : ℕ) → most_open e ≤ room → Forms room (printed names e) e (shape e)
    spelled (atom a) c few room h = atom_text_unit room a c few
    spelled (named k) c few room h = named_text room k c
    spelled union_end c few room h = absurd c
    spelled (union e rest) c few room h =
        let u = wrapped (wraps_in_union (shape e)) (printed names e) in
        let here = in_union room (most_open e) (printed names e) e (shape e) (spelled e c.0 (omega arith)) (omega arith) in
        whole_union room (u ++ further (codes " union ") (conj_texts names rest)) e rest c.2
        (conjs_spelled rest c.1 (omega arith) room (omega arith) u (e ∷ []) (first_conj room u e here))
    spelled join_end c few room h = absurd c
    spelled (join e rest) c few room h =
        let u = wrapped (wraps_in_join (shape e)) (printed names e) in
        let here = in_join room (most_open e) (printed names e) e (shape e) (spelled e c.0 (omega arith)) (omega arith) in
        whole_join room (u ++ further (codes " join ") (unit_texts names rest)) e rest c.2
        (units_spelled rest c.1 (omega arith) room (omega arith) u (e ∷ []) (first_unit room u e here))
    spelled (project keep e) c few zero h = absurd (omega arith)
    spelled (project keep e) c few (suc room) h =
        projected_text room keep (printed names e) e c.1 c.2 (forms_expr room (printed names e) e (shape e) (spelled e c.0 few room (omega arith)))
    spelled (minus e g) c few room h =
        let left = in_union room (most_open e) (printed names e) e (shape e) (spelled e c.0 (omega arith)) (omega arith) in
        let right = in_union room (most_open g) (printed names g) g (shape g) (spelled g c.1 (omega arith)) (omega arith) in
        less_text room (wrapped (wraps_in_union (shape e)) (printed names e)) (wrapped (wraps_in_union (shape g)) (printed names g)) e g left right

    conjs_spelled : (e : ExprTree) → AreUnitedFormed n e → most_in_atoms e ≤ 100 → (room : ℕ) → most_open e ≤ room → (u : List ℕ) (fs : List ExprTree) → ConjsText room u fs →
        Conjs room (u ++ further (codes " union ") (conj_texts names e)) fs e
    conjs_spelled union_end c few room h u fs before = no_conj room u fs before
    conjs_spelled (union e rest) c few room h u fs before =
        let v = wrapped (wraps_in_union (shape e)) (printed names e) in
        let here = in_union room (most_open e) (printed names e) e (shape e) (spelled e c.0 (omega arith)) (omega arith) in
        conjs_after room u v (conj_texts names rest) fs e rest
        (conjs_spelled rest c.1 (omega arith) room (omega arith) (u ++ (codes " union " ++ v)) (fs ++ e ∷ []) (next_conj room u v fs e before here))
    conjs_spelled _ c few room h u fs before = absurd c

    units_spelled : (e : ExprTree) → AreJoinedFormed n e → most_in_atoms e ≤ 100 → (room : ℕ) → most_open e ≤ room → (u : List ℕ) (fs : List ExprTree) → UnitsText room u fs →
        Units room (u ++ further (codes " join ") (unit_texts names e)) fs e
    units_spelled join_end c few room h u fs before = no_unit room u fs before
    units_spelled (join e rest) c few room h u fs before =
        let v = wrapped (wraps_in_join (shape e)) (printed names e) in
        let here = in_join room (most_open e) (printed names e) e (shape e) (spelled e c.0 (omega arith)) (omega arith) in
        units_after room u v (unit_texts names rest) fs e rest
        (units_spelled rest c.1 (omega arith) room (omega arith) (u ++ (codes " join " ++ v)) (fs ++ e ∷ []) (next_unit room u v fs e before here))
    units_spelled _ c few room h u fs before = absurd c
