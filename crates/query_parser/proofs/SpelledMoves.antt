-- What is spelled is read.
use Rattle.std.proofs.Common.{◌≡◌, ℕ, suc, ◌+◌, ◌<◌, ◌≤◌, Bool, true, nat_lt, false, List, [], ◌∷◌, ◌++◌, length, Option, Some, None, Ok, Err, ap, refl, sym, subst, ◌∙◌, ◌⊎◌, inl, inr, append_assoc, arith, if◌then◌else◌}
use Rattle.std.proofs.lemmas.Bool.Decides.{nat_tests}
use Rattle.span_core.specs.declared.TheConstants.{MOST_VARIABLES}
use Rattle.span_core.specs.Names.{is_name}
use Rattle.span_core.specs.NameSets.{with_name}
use Rattle.span_core.specs.Lists.{Has, AreDistinct}
use Rattle.spanner_model.specs.Captures.{VarName}
use Rattle.spanner_model.specs.Expression.{ExprTree, QueryTree, atom, named, union_all, join_all, project, minus}
use Rattle.query_parser.specs.declared.TheConstants.{MOST_OPEN, MOST_MINUSES}
use Rattle.query_parser.specs.Tokens.{Token, atom_token, let_word, union_word, join_word, project_word, name_token, equals, semicolon, open_paren, close_paren, comma, minus_word}
use Rattle.query_parser.specs.Minuses.{minuses_in, minuses_in_lets}
use Rattle.query_parser.specs.Spells.{union_tree, join_tree, with_names, SpellsNames, one_name, more_names, SpellsKeep, keeps_none, keeps_names, SpellsExpr, lone_conj, more_conjs, less_conj, SpellsConj, lone_unit, more_units, SpellsUnit, atom_unit, named_unit, group_of, projection_of, names_of, SpellsLets, no_let, more_lets, Spells}
use Rattle.query_parser.specs.Reads.{unexpected, too_deep, name_too_long, name_twice, is_among, finds_room}
use Rattle.query_parser.specs.Nest.{Frame, Last, at_start, after_let, after_name, at_unit, unit, after_project, after_none, after_kept, after_comma, Nest, Move, outermost, whole_conj, less, whole_expr, whole, keeping, next_side, subtracts, find, move, opens, opened, speaks_of, reads_name, keeps, with_last, whole_query}
use Rattle.query_parser.proofs.MoveLaws.{names_more}
use Rattle.query_parser.proofs.MinusLaws.{minuses_among, among_more, lets_more, join_count, union_count}
use Rattle.query_parser.proofs.Lists.{get_has, get_finds, not_among, has_last, eq_true, distinct_more, with_names_more, with_name_longer, room_for}

-- the tokens lead from one nest to the other
abbrev pub Runs : Nest → List Token → Nest → Type 0
Runs n [] m = n ≡ m
Runs n (t ∷ ts) m = (k : Nest) × (move t n ≡ Ok k) × Runs k ts m

pub runs_on : (n k m : Nest) (ts us : List Token) → Runs n ts k → Runs k us m → Runs n (ts ++ us) m
runs_on n k m [] us e r = rw e r
runs_on n k m (t ∷ ts) us (l, is, e) r = (l, is, runs_on l k m ts us e r)

pub runs_to : (n k m : Nest) (ts : List Token) → Runs n ts k → k ≡ m → Runs n ts m
runs_to n k m ts r e = subst (Runs n ts) e r

-- what stands around the innermost frame
pub record Around : Type 0 where
  pub lets : List (VarName × ExprTree)
  pub current : Option VarName
  pub below : List Frame
  pub many : Bool

-- with so many signs `minus` before
abbrev pub inside : Around → ℕ → Option (List VarName) → List ExprTree → Option ExprTree → List ExprTree → Last → Nest
inside a m names conjs left units last = record {
  lets = a.lets;
  current = a.current;
  below = a.below;
  top = record { names = names; conjs = conjs; left = left; units = units };
  last = last;
  many = a.many;
  minuses = m;
}

-- a unit is due
pub data Wants : Last → Type 0 where
  first : Wants at_start
  later : Wants at_unit

pub cons_join : (u e : ExprTree) (us : List ExprTree) → join_all ((u ∷ us) ++ e ∷ []) ≡ join_tree ((u ∷ us) ++ e ∷ [])
cons_join u e [] = refl
cons_join u e (v ∷ us) = refl

pub whole_conj_is : (us : List ExprTree) (e : ExprTree) → whole_conj us e ≡ join_tree (us ++ e ∷ [])
whole_conj_is [] e = refl
whole_conj_is (u ∷ us) e = cons_join u e us

pub cons_union : (u e : ExprTree) (us : List ExprTree) → union_all ((u ∷ us) ++ e ∷ []) ≡ union_tree ((u ∷ us) ++ e ∷ [])
cons_union u e [] = refl
cons_union u e (v ∷ us) = refl

pub whole_expr_is : (cs : List ExprTree) (c : ExprTree) → whole_expr cs c ≡ union_tree (cs ++ c ∷ [])
whole_expr_is [] c = refl
whole_expr_is (d ∷ ds) c = cons_union d c ds

-- the expression of a frame, by what its tokens spell
pub whole_is : (names : Option (List VarName)) (cs : List ExprTree) (left : Option ExprTree) (us es : List ExprTree) (e : ExprTree) →
    es ≡ cs ++ less left (join_tree (us ++ e ∷ [])) ∷ [] → whole (record { names = names; conjs = cs; left = left; units = us }) e ≡ union_tree es
whole_is names cs left us es e is =
    whole_expr_is cs (less left (whole_conj us e)) ∙ ap (λ c. union_tree (cs ++ less left c ∷ [])) (whole_conj_is us e) ∙ ap union_tree (sym is)

pub name_read : (x : VarName) (m : Move) → is_name x ≡ true → reads_name x m ≡ m
name_read x m h = ap (λ b. if b then m else Err name_too_long) h

room_opens : (names : Option (List VarName)) (n : Nest) → length n.below < MOST_OPEN → opens names n ≡ Ok (opened names n)
room_opens names n room = grind (arith, nat_tests)

few_true : (k : ℕ) → k < MOST_MINUSES → nat_lt k MOST_MINUSES ≡ true
few_true k few = grind (arith, nat_tests)

minus_moves : (e : ExprTree) (n : Nest) → n.minuses < MOST_MINUSES → subtracts minus_word e n ≡ Ok (next_side e n)
minus_moves e n few =
    ap (λ b. if b then (if nat_lt n.minuses MOST_MINUSES then Ok (next_side e n) else Err too_deep) else Err unexpected) (eq_true minus_word minus_word refl)
    ∙ ap (λ b. if b then Ok (next_side e n) else Err too_deep) (few_true n.minuses few)

keeps_more : (names : List VarName) (x : VarName) (n : Nest) → is_name x ≡ true → length (with_name x names) ≤ MOST_VARIABLES →
    keeps names x n ≡ Ok (with_last (after_kept (with_name x names)) n)
keeps_more names x n name few =
    let more : Bool → Nest = λ b. if b then with_last (after_kept (with_name x names)) n else record n { last = after_kept names; many = true } in
    name_read x (Ok (more (finds_room names x))) name ∙ ap (λ b. Ok (more b)) (room_for names x few)

-- the names that a projection keeps
reads_names : {t : List Token} {xs : List VarName} → SpellsNames t xs → (a : Around) (m : ℕ) (top : Option (List VarName)) (cs : List ExprTree) (left : Option ExprTree)
    (us : List ExprTree) → length (with_names [] xs) ≤ MOST_VARIABLES →
    Runs (inside a m top cs left us after_project) t (inside a m top cs left us (after_kept (with_names [] xs)))
reads_names (one_name {x = x} free) a m top cs left us few =
    (inside a m top cs left us (after_kept (with_name x [])), keeps_more [] x (inside a m top cs left us after_project) free.0 few, refl)
reads_names (more_names {t = t} {x = x} {xs = xs} s free) a m top cs left us few =
    let keep = with_names [] xs in
    let more = with_names_more [] xs x in
    let fits : length (with_name x keep) ≤ MOST_VARIABLES = rw (← more) few in
    let fewer : length keep ≤ MOST_VARIABLES = omega (arith, with_name_longer x keep, fits) in
    let at = inside a m top cs left us in
    runs_to (at after_project) (at (after_kept (with_name x keep))) (at (after_kept (with_names [] (xs ++ x ∷ [])))) (t ++ comma ∷ name_token x ∷ [])
    (runs_on (at after_project) (at (after_kept keep)) (at (after_kept (with_name x keep))) t (comma ∷ name_token x ∷ []) (reads_names s a m top cs left us fewer)
    (at (after_comma keep), refl, (at (after_kept (with_name x keep)), keeps_more keep x (at (after_comma keep)) free.0 fits, refl)))
    (ap (λ names. inside a m top cs left us (after_kept names)) (sym more))

-- what a projection keeps, and its parenthesis
abbrev pub deeper : Around → Option (List VarName) → List ExprTree → Option ExprTree → List ExprTree → Around
deeper a names cs left us = record a { below = record { names = names; conjs = cs; left = left; units = us } ∷ a.below }

reads_keep : {t : List Token} {names : List VarName} → SpellsKeep t names → (a : Around) (m : ℕ) (top : Option (List VarName)) (cs : List ExprTree) (left : Option ExprTree)
    (us : List ExprTree) → length a.below < MOST_OPEN →
    Runs (inside a m top cs left us after_project) (t ++ open_paren ∷ []) (inside (deeper a top cs left us) m (Some names) [] None [] at_unit)
reads_keep keeps_none a m top cs left us room =
    let n = inside a m top cs left us after_none in
    (n, refl, (inside (deeper a top cs left us) m (Some []) [] None [] at_unit, room_opens (Some []) n room, refl))
reads_keep (keeps_names {t = t} {xs = xs} s few) a m top cs left us room =
    let names = with_names [] xs in
    let n = inside a m top cs left us (after_kept names) in
    let k = inside (deeper a top cs left us) m (Some names) [] None [] at_unit in
    runs_on (inside a m top cs left us after_project) n k t (open_paren ∷ []) (reads_names s a m top cs left us few) (k, room_opens (Some names) n room, refl)

-- the names of lets: distinct, and each a name
abbrev pub AreGood : List VarName → Type 0
AreGood names = AreDistinct names × ((x : VarName) → Has names x → is_name x ≡ true)

-- where the tokens of an expression lead
abbrev pub ReadsExpr : Around → ℕ → Option (List VarName) → Last → List Token → List ExprTree → Type 0
ReadsExpr a m names l t es =
    (cs : List ExprTree) × (left : Option ExprTree) × (us : List ExprTree) × (e : ExprTree) × (k : ℕ)
    × (es ≡ cs ++ less left (join_tree (us ++ e ∷ [])) ∷ []) × (k ≡ m + minuses_among es)
    × Runs (inside a m names [] None [] l) t (inside a k names cs left us (unit e))

abbrev ReadsConj : Around → ℕ → Option (List VarName) → List ExprTree → Option ExprTree → Last → List Token → List ExprTree → Type 0
ReadsConj a m names cs left l t es =
    (us : List ExprTree) × (e : ExprTree) × (k : ℕ) × (es ≡ us ++ e ∷ []) × (k ≡ m + minuses_among es)
    × Runs (inside a m names cs left [] l) t (inside a k names cs left us (unit e))

abbrev ReadsUnit : Around → ℕ → Option (List VarName) → List ExprTree → Option ExprTree → List ExprTree → Last → List Token → ExprTree → Type 0
ReadsUnit a m names cs left us l t e =
    (k : ℕ) × (k ≡ m + minuses_in e) × Runs (inside a m names cs left us l) t (inside a k names cs left us (unit e))

-- the parenthesis that ends a group or a projection
closes : (a : Around) (m : ℕ) (top names : Option (List VarName)) (cs : List ExprTree) (left : Option ExprTree) (us : List ExprTree) (t : List Token) (es : List ExprTree) →
    ReadsExpr (deeper a top cs left us) m names at_unit t es →
    (k : ℕ) × (k ≡ m + minuses_among es)
    × Runs (inside (deeper a top cs left us) m names [] None [] at_unit) (t ++ close_paren ∷ []) (inside a k top cs left us (unit (keeping names (union_tree es))))
closes a m top names cs left us t es (ds, side, vs, e, k, is, count, run) =
    let b = deeper a top cs left us in
    let end = inside a k top cs left us (unit (keeping names (union_tree es))) in (
      k,
      count,
      runs_on (inside b m names [] None [] at_unit) (inside b k names ds side vs (unit e)) end t (close_paren ∷ []) run
          (end, ap (λ f. Ok (inside a k top cs left us (unit (keeping names f)))) (whole_is names ds side vs es e is), refl),
    )

mutual
  pub reads_expr : {names : List VarName} {room : ℕ} {t : List Token} {es : List ExprTree} → SpellsExpr names room t es → (a : Around) (m : ℕ) (keep : Option (List VarName))
      (l : Last) → Wants l → names ≡ names_of a.lets → AreGood names → length a.below + room ≡ MOST_OPEN → m + minuses_among es ≤ MOST_MINUSES → ReadsExpr a m keep l t es
  reads_expr (lone_conj {es = gs} s) a m keep l w same good deep few =
      let (us, e, k, is, count, run) = reads_conj s a m keep [] None l w same good deep (omega (arith, few, join_count gs)) in
      ([], None, us, e, k, ap (λ es. join_tree es ∷ []) is, omega (arith, count, join_count gs), run)
  reads_expr (more_conjs {t = t} {u = u} {fs = fs} {es = gs} s c) a m keep l w same good deep few =
      let total = among_more fs (join_tree gs) in
      let (cs, left, us, e, k, is, count, run) = reads_expr s a m keep l w same good deep (omega (arith, few, total)) in
      let ds = cs ++ less left (whole_conj us e) ∷ [] in
      let (vs, f, j, is', count', run') = reads_conj c a k keep ds None at_unit later same good deep (omega (arith, few, total, count, join_count gs)) in (
        ds,
        None,
        vs,
        f,
        j,
        ap (λ fs. fs ++ join_tree gs ∷ []) (is ∙ ap (λ d. cs ++ less left d ∷ []) (sym (whole_conj_is us e))) ∙ ap (λ es. ds ++ join_tree es ∷ []) is',
        omega (arith, total, count, count', join_count gs),
        runs_on (inside a m keep [] None [] l) (inside a k keep cs left us (unit e)) (inside a j keep ds None vs (unit f)) t (union_word ∷ u) run
            (inside a k keep ds None [] at_unit, refl, run'),
      )
  reads_expr (less_conj {t = t} {u = u} {fs = fs} {es = gs} s c) a m keep l w same good deep few =
      let sides = union_count fs in
      let (cs, left, us, e, k, is, count, run) = reads_expr s a m keep l w same good deep (omega (arith, few, sides)) in
      let n = inside a k keep cs left us (unit e) in
      let side = whole n.top e in
      let united = whole_is keep cs left us fs e is in
      let (vs, f, j, is', count', run') = reads_conj c a (suc k) keep [] (Some side) at_unit later same good deep (omega (arith, few, sides, count, join_count gs)) in (
        [],
        Some side,
        vs,
        f,
        j,
        ap (λ d. minus d (join_tree gs) ∷ []) (sym united) ∙ ap (λ es. minus side (join_tree es) ∷ []) is',
        omega (arith, sides, count, count', join_count gs),
        runs_on (inside a m keep [] None [] l) n (inside a j keep [] (Some side) vs (unit f)) t (name_token minus_word ∷ u) run
            (inside a (suc k) keep [] (Some side) [] at_unit, minus_moves e n (omega (arith, few, sides, count)), run'),
      )

  reads_conj : {names : List VarName} {room : ℕ} {t : List Token} {es : List ExprTree} → SpellsConj names room t es → (a : Around) (m : ℕ) (keep : Option (List VarName))
      (cs : List ExprTree) (left : Option ExprTree) (l : Last) → Wants l → names ≡ names_of a.lets → AreGood names → length a.below + room ≡ MOST_OPEN →
      m + minuses_among es ≤ MOST_MINUSES → ReadsConj a m keep cs left l t es
  reads_conj (lone_unit {e = e} s) a m keep cs left l w same good deep few =
      let (k, count, run) = reads_unit s a m keep cs left [] l w same good deep (omega (arith, few)) in ([], e, k, refl, omega (arith, count), run)
  reads_conj (more_units {t = t} {u = u} {es = ds} {e = e} s c) a m keep cs left l w same good deep few =
      let total = among_more ds e in
      let (us, f, k, is, count, run) = reads_conj s a m keep cs left l w same good deep (omega (arith, few, total)) in
      let vs = us ++ f ∷ [] in
      let (j, count', run') = reads_unit c a k keep cs left vs at_unit later same good deep (omega (arith, few, total, count)) in (
        vs,
        e,
        j,
        ap (λ es. es ++ e ∷ []) is,
        omega (arith, total, count, count'),
        runs_on (inside a m keep cs left [] l) (inside a k keep cs left us (unit f)) (inside a j keep cs left vs (unit e)) t (join_word ∷ u) run
            (inside a k keep cs left vs at_unit, refl, run'),
      )

  reads_unit : {names : List VarName} {room : ℕ} {t : List Token} {e : ExprTree} → SpellsUnit names room t e → (a : Around) (m : ℕ) (keep : Option (List VarName))
      (cs : List ExprTree) (left : Option ExprTree) (us : List ExprTree) (l : Last) → Wants l → names ≡ names_of a.lets → AreGood names → length a.below + room ≡ MOST_OPEN →
      m + minuses_in e ≤ MOST_MINUSES → ReadsUnit a m keep cs left us l t e
  reads_unit (atom_unit {a = x}) a m keep cs left us l w same good deep few =
      (m, omega arith, (inside a m keep cs left us (unit (atom x)), atom_moves w, refl))
    where
      atom_moves : {l : Last} → Wants l → move (atom_token x) (inside a m keep cs left us l) ≡ Ok (inside a m keep cs left us (unit (atom x)))
      atom_moves first = refl
      atom_moves later = refl
  reads_unit {names = names} (named_unit {k = k} {x = x} is) a m keep cs left us l w same good deep few =
      (m, omega arith, (inside a m keep cs left us (unit (named k)), name_moves w, refl))
    where
      speaks : (l : Last) → reads_name x (speaks_of (find (names_of a.lets) x) (inside a m keep cs left us l)) ≡ Ok (inside a m keep cs left us (unit (named k)))
      speaks l =
          name_read x (speaks_of (find (names_of a.lets) x) (inside a m keep cs left us l)) (good.1 x (get_has names x k is))
          ∙ ap (λ f. speaks_of f (inside a m keep cs left us l)) (ap (λ ns. find ns x) (sym same) ∙ get_finds names x k good.0 is)

      name_moves : {l : Last} → Wants l → move (name_token x) (inside a m keep cs left us l) ≡ Ok (inside a m keep cs left us (unit (named k)))
      name_moves first = speaks at_start
      name_moves later = speaks at_unit
  reads_unit (group_of {t = t} {es = es} s) a m keep cs left us l w same good deep few =
      let b = deeper a keep cs left us in
      let inner = reads_expr s b m None at_unit later same good (omega (arith, deep)) (omega (arith, few, union_count es)) in
      let (k, count, run) = closes a m keep None cs left us t es inner in
      (k, omega (arith, count, union_count es), (inside b m None [] None [] at_unit, open_moves w, run))
    where
      open_moves : {l : Last} → Wants l → move open_paren (inside a m keep cs left us l) ≡ Ok (inside (deeper a keep cs left us) m None [] None [] at_unit)
      open_moves first = room_opens None (inside a m keep cs left us at_start) (omega (arith, deep))
      open_moves later = room_opens None (inside a m keep cs left us at_unit) (omega (arith, deep))
  reads_unit (projection_of {t = t} {u = u} {keep = ks} {es = es} p s) a m keep cs left us l w same good deep few =
      let b = deeper a keep cs left us in
      let start = inside a m keep cs left us after_project in
      let inner = reads_expr s b m (Some ks) at_unit later same good (omega (arith, deep)) (omega (arith, few, union_count es)) in
      let (k, count, run) = closes a m keep (Some ks) cs left us u es inner in
      let end = inside a k keep cs left us (unit (project ks (union_tree es))) in (
        k,
        omega (arith, count, union_count es),
        (
          start,
          project_moves w,
          rw (← append_assoc t (open_paren ∷ []) (u ++ close_paren ∷ []))
              (runs_on start (inside b m (Some ks) [] None [] at_unit) end (t ++ open_paren ∷ []) (u ++ close_paren ∷ [])
              (reads_keep p a m keep cs left us (omega (arith, deep))) run),
        ),
      )
    where
      project_moves : {l : Last} → Wants l → move project_word (inside a m keep cs left us l) ≡ Ok (inside a m keep cs left us after_project)
      project_moves first = refl
      project_moves later = refl

-- the lets, one after another
abbrev pub top_level : List (VarName × ExprTree) → Option VarName → Around
top_level lets current = record { lets = lets; current = current; below = []; many = false }

-- between the lets, with so many signs `minus` before
abbrev pub between : List (VarName × ExprTree) → ℕ → Nest
between lets m = inside (top_level lets None) m None [] None [] at_start

let_reads : (x : VarName) (lets : List (VarName × ExprTree)) (m : ℕ) → is_name x ≡ true → (Has (names_of lets) x → ⊥) →
    Runs (between lets m) (let_word ∷ name_token x ∷ equals ∷ []) (inside (top_level lets (Some x)) m None [] None [] at_unit)
let_reads x lets m name new =
    let n = inside (top_level lets None) m None [] None [] after_let in
    let k = inside (top_level lets (Some x)) m None [] None [] after_name in
    let twice : Bool → Move = λ b. if b then Err name_twice else Ok k in (
      n,
      refl,
      (
        k,
        name_read x (twice (is_among (names_of lets) x)) name ∙ ap twice (not_among (names_of lets) x new),
        (inside (top_level lets (Some x)) m None [] None [] at_unit, refl, refl),
      ),
    )

pub good_more : (names : List VarName) (x : VarName) → AreGood names → is_name x ≡ true → (Has names x → ⊥) → AreGood (names ++ x ∷ [])
good_more names x good name new = (distinct_more names x good.0 new, λ y h. by y (has_last names x y h))
  where
    by : (y : VarName) → Has names y ⊎ (x ≡ y) → is_name y ≡ true
    by y (inl h) = good.1 y h
    by y (inr e) = rw (← e) name

pub reads_lets : {t : List Token} {lets : List (VarName × ExprTree)} → SpellsLets t lets → minuses_in_lets lets ≤ MOST_MINUSES →
    Runs outermost t (between lets (minuses_in_lets lets)) × AreGood (names_of lets)
reads_lets no_let few = (refl, (tt, λ x h. absurd h))
reads_lets (more_lets {t = t} {u = u} {lets = lets} {x = x} {es = es} s free new e) few =
    let m = minuses_in_lets lets in
    let total = lets_more lets x (union_tree es) in
    let (run, good) = reads_lets s (omega (arith, few, total)) in
    let a = top_level lets (Some x) in
    let (cs, left, us, f, k, is, count, run') = reads_expr e a m None at_unit later refl good refl (omega (arith, few, total, union_count es)) in
    let more = lets ++ (x, union_tree es) ∷ [] in
    let end = between more (minuses_in_lets more) in
    let last : k ≡ minuses_in_lets more = omega (arith, count, total, union_count es) in
    let n = inside a k None cs left us (unit f) in (
      runs_on outermost (between lets m) end t (let_word ∷ name_token x ∷ equals ∷ (u ++ semicolon ∷ [])) run
          (runs_on (between lets m) (inside a m None [] None [] at_unit) end (let_word ∷ name_token x ∷ equals ∷ []) (u ++ semicolon ∷ []) (let_reads x lets m free.0 new)
          (runs_on (inside a m None [] None [] at_unit) n end u (semicolon ∷ []) run'
          (between more k, ap (λ g. Ok (between (lets ++ (x, g) ∷ []) k)) (whole_is None cs left us es f is), ap (between more) last))),
      subst AreGood (sym (names_more lets x (union_tree es))) (good_more (names_of lets) x good free.0 new),
    )

-- the tokens of a query are read, and then it is whole
pub reads_query : (ts : List Token) (q : QueryTree) → Spells ts q → (m : Nest) × Runs outermost ts m × (whole_query m ≡ Some (q, false))
reads_query ts q (t, u, es, splits, s, e, body, few) =
    let total : minuses_in q.body ≡ minuses_among es = ap minuses_in body ∙ union_count es in
    let m = minuses_in_lets q.lets in
    let (run, good) = reads_lets s (omega (arith, few)) in
    let a = top_level q.lets None in
    let (cs, left, us, f, k, is, count, run') = reads_expr e a m None at_start first refl good refl (omega (arith, few, total)) in
    let n = inside a k None cs left us (unit f) in
    let query : ExprTree → QueryTree = λ b. record { lets = q.lets; body = b } in (
      n,
      rw splits (runs_on outermost (between q.lets m) n t u run run'),
      ap (λ b. Some (query b, false)) (whole_is None cs left us es f is ∙ sym body),
    )
