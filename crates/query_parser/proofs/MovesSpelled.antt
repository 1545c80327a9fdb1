-- What is read is spelled.
use Rattle.std.proofs.Common.{◌≡◌, ℕ, zero, suc, ◌+◌, ◌<◌, ◌≤◌, true, List, [], ◌∷◌, ◌++◌, length, Option, Some, None, ap, refl, sym, subst, ◌∙◌, append_assoc, arith}
use Rattle.std.proofs.lemmas.List.{append-nil}
use Rattle.span_core.specs.declared.TheConstants.{MOST_VARIABLES}
use Rattle.span_core.specs.NameSets.{with_name, Ascending}
use Rattle.span_core.specs.Lists.{Has}
use Rattle.spanner_model.specs.Captures.{VarName}
use Rattle.spanner_model.specs.Expression.{ExprTree, project, minus}
use Rattle.spanner_model.specs.Sound.{IsFreeName}
use Rattle.query_parser.specs.declared.TheConstants.{MOST_OPEN, MOST_MINUSES}
use Rattle.query_parser.specs.Tokens.{Token, let_word, union_word, join_word, project_word, none_word, name_token, equals, semicolon, open_paren, close_paren, comma, minus_word}
use Rattle.query_parser.specs.Minuses.{minuses_of}
use Rattle.query_parser.specs.Spells.{union_tree, join_tree, with_names, SpellsNames, one_name, more_names, SpellsKeep, SpellsExpr, lone_conj, more_conjs, less_conj, SpellsConj, lone_unit, more_units, SpellsUnit, group_of, projection_of, names_of, SpellsLets, no_let, more_lets, Spells}
use Rattle.query_parser.specs.Reads.{finds_room}
use Rattle.query_parser.specs.Nest.{Frame, Last, at_start, after_let, after_name, at_unit, unit, after_project, after_none, after_kept, after_comma, Nest, empty_frame, outermost, whole_conj, less, whole_expr, whole, keeping, closed}
use Rattle.span_core.proofs.NameSetLaws.{none_are_variables}
use Rattle.query_parser.proofs.Lists.{with_names_more, with_names_ascend, room_keeps}
use Rattle.query_parser.proofs.SpelledMoves.{cons_join, cons_union}

-- the names of these lets, and `room` parentheses to open: the tokens of conjunctions that a `union` follows each, or those of what the next
-- conjunction is taken from, and the `minus`
module _ (names : List VarName) (room : ℕ) where
  abbrev pub ConjsBefore : List ExprTree → Option ExprTree → List Token → Type 0
  ConjsBefore [] None t = t ≡ []
  ConjsBefore (c ∷ cs) None t = (d : List Token) × (t ≡ d ++ union_word ∷ []) × SpellsExpr names room d (c ∷ cs)
  ConjsBefore [] (Some l) t = (d : List Token) × (fs : List ExprTree) × (t ≡ d ++ name_token minus_word ∷ []) × SpellsExpr names room d fs × (l ≡ union_tree fs)
  ConjsBefore (c ∷ cs) (Some l) t = ⊥

  -- of units that a `join` follows each
  abbrev pub UnitsBefore : List ExprTree → List Token → Type 0
  UnitsBefore [] t = t ≡ []
  UnitsBefore (u ∷ us) t = (d : List Token) × (t ≡ d ++ join_word ∷ []) × SpellsConj names room d (u ∷ us)

  -- names that a projection keeps
  abbrev pub KeptBefore : List VarName → List Token → Type 0
  KeptBefore keep t = (xs : List VarName) × SpellsNames t xs × (with_names [] xs ≡ keep) × (length keep ≤ MOST_VARIABLES)

  -- the last thing read
  abbrev pub LastRead : Last → List Token → Type 0
  LastRead at_start t = t ≡ []
  LastRead after_let t = t ≡ []
  LastRead after_name t = t ≡ []
  LastRead at_unit t = t ≡ []
  LastRead (unit e) t = SpellsUnit names room t e
  LastRead after_project t = t ≡ project_word ∷ []
  LastRead after_none t = t ≡ project_word ∷ none_word ∷ []
  LastRead (after_kept keep) t = (d : List Token) × (t ≡ project_word ∷ d) × KeptBefore keep d
  LastRead (after_comma keep) t = (d : List Token) × (t ≡ project_word ∷ (d ++ comma ∷ [])) × KeptBefore keep d

  -- the opener of a frame
  abbrev pub OpenerRead : Option (List VarName) → List Token → Type 0
  OpenerRead None t = t ≡ open_paren ∷ []
  OpenerRead (Some keep) t = (d : List Token) × (t ≡ project_word ∷ (d ++ open_paren ∷ [])) × SpellsKeep d keep

-- the tokens of a frame before its last unit
pub record FrameRead (names : List VarName) (room : ℕ) (conjs : List ExprTree) (left : Option ExprTree) (units : List ExprTree) (t : List Token) : Type 0 where
  pub front : List Token
  pub back : List Token
  pub splits : t ≡ front ++ back
  pub conjs_read : ConjsBefore names room conjs left front
  pub units_read : UnitsBefore names room units back

-- the tokens of all frames around one that keeps `keep`, its opener among them
abbrev pub Outside : List VarName → ℕ → Option (List VarName) → List Frame → List Token → Type 0
Outside names room keep [] t = (keep ≡ None) × (t ≡ []) × (room ≡ MOST_OPEN)
Outside names room keep (f ∷ below) t =
    (a : List Token) × (b : List Token) × (c : List Token) × (t ≡ a ++ (b ++ c))
    × Outside names (suc room) f.names below a × FrameRead names (suc room) f.conjs f.left f.units b × OpenerRead names room keep c

-- the tokens at the beginning of a let, or of the body
abbrev pub LetNamed : List VarName → List Token → Option VarName → List Token → Type 0
LetNamed names rest None t = ⊥
LetNamed names rest (Some x) t = (t ≡ let_word ∷ name_token x ∷ rest) × IsFreeName x × (Has names x → ⊥)

abbrev pub LetDone : List VarName → Option VarName → List Token → Type 0
LetDone names None t = t ≡ []
LetDone names (Some x) t = LetNamed names (equals ∷ []) (Some x) t

abbrev pub LetRead : List VarName → Last → Option VarName → List Token → Type 0
LetRead names at_start current t = (t ≡ []) × (current ≡ None)
LetRead names after_let current t = (t ≡ let_word ∷ []) × (current ≡ None)
LetRead names after_name current t = LetNamed names [] current t
LetRead names l current t = LetDone names current t

-- where nothing of an expression was read
abbrev pub IsBare : Last → List Frame → Frame → Type 0
IsBare at_start below top = (below ≡ []) × (top ≡ empty_frame None)
IsBare after_let below top = (below ≡ []) × (top ≡ empty_frame None)
IsBare after_name below top = (below ≡ []) × (top ≡ empty_frame None)
IsBare l below top = Unit {0}

-- the tokens that were read
pub record Read (ts : List Token) (lets : List (VarName × ExprTree)) (current : Option VarName) (below : List Frame) (top : Frame) (last : Last) : Type 0 where
  pub room : ℕ
  pub whole_lets : List Token
  pub let_text : List Token
  pub outside : List Token
  pub inside : List Token
  pub here : List Token
  pub splits : ts ≡ whole_lets ++ (let_text ++ (outside ++ (inside ++ here)))
  pub lets_read : SpellsLets whole_lets lets
  pub let_read : LetRead (names_of lets) last current let_text
  pub outside_read : Outside (names_of lets) room top.names below outside
  pub inside_read : FrameRead (names_of lets) room top.conjs top.left top.units inside
  pub here_read : LastRead (names_of lets) room last here
  pub bare : IsBare last below top

abbrev pub IsRead : List Token → Nest → Type 0
IsRead ts n = Read ts n.lets n.current n.below n.top n.last

-- the expression that a unit ends
pub conj_of : {names : List VarName} {room : ℕ} {t : List Token} {e : ExprTree} (us : List ExprTree) (b : List Token) → UnitsBefore names room us b → SpellsUnit names room t e →
    (es : List ExprTree) × (whole_conj us e ≡ join_tree es) × SpellsConj names room (b ++ t) es
conj_of {names = names} {room = room} {t = t} {e = e} [] b none s = (e ∷ [], refl, rw none (lone_unit s))
conj_of {names = names} {room = room} {t = t} {e = e} (u ∷ us) b (d, is, c) s = (
  (u ∷ us) ++ e ∷ [],
  cons_join u e us,
  rw (← (sym (append_assoc d (join_word ∷ []) t) ∙ ap (λ x. x ++ t) (sym is))) (more_units c s),
)

pub expr_of : {names : List VarName} {room : ℕ} {t : List Token} {es : List ExprTree} (cs : List ExprTree) (left : Option ExprTree) (f : List Token) →
    ConjsBefore names room cs left f → SpellsConj names room t es →
    (ds : List ExprTree) × (whole_expr cs (less left (join_tree es)) ≡ union_tree ds) × SpellsExpr names room (f ++ t) ds
expr_of {names = names} {room = room} {t = t} {es = es} [] None f none s =
    (join_tree es ∷ [], refl, rw none (lone_conj s))
expr_of {names = names} {room = room} {t = t} {es = es} (c ∷ cs) None f (d, is, h) s = (
  (c ∷ cs) ++ join_tree es ∷ [],
  cons_union c (join_tree es) cs,
  rw (← (sym (append_assoc d (union_word ∷ []) t) ∙ ap (λ x. x ++ t) (sym is))) (more_conjs h s),
)
expr_of {names = names} {room = room} {t = t} {es = es} [] (Some l) f (d, fs, is, h, same) s = (
  minus (union_tree fs) (join_tree es) ∷ [],
  ap (λ g. minus g (join_tree es)) same,
  rw (← (sym (append_assoc d (name_token minus_word ∷ []) t) ∙ ap (λ x. x ++ t) (sym is))) (less_conj h s),
)
expr_of (c ∷ cs) (Some l) f none s = absurd none

-- the expression of a frame, once its last unit is read
pub whole_read : {names : List VarName} {room : ℕ} {b t : List Token} {cs us : List ExprTree} {left : Option ExprTree} {e : ExprTree} → (keep : Option (List VarName)) →
    FrameRead names room cs left us b → SpellsUnit names room t e →
    (ds : List ExprTree) × (whole (record { names = keep; conjs = cs; left = left; units = us }) e ≡ union_tree ds) × SpellsExpr names room (b ++ t) ds
whole_read {names = names} {room = room} {b = b} {t = t} {cs = cs} {us = us} {left = left} {e = e} keep f s =
    let (es, is, c) = conj_of us f.back f.units_read s in
    let (ds, same, x) = expr_of cs left f.front f.conjs_read c in (
      ds,
      ap (λ d. whole_expr cs (less left d)) is ∙ same,
      rw (← (sym (append_assoc f.front f.back t) ∙ ap (λ y. y ++ t) (sym f.splits))) x,
    )

-- the frame around a closed one has one unit more
pub closed_read : {names : List VarName} {room : ℕ} {t : List Token} {ds : List ExprTree} (keep : Option (List VarName)) (c : List Token) → OpenerRead names room keep c →
    SpellsExpr names room t ds → SpellsUnit names (suc room) (c ++ (t ++ close_paren ∷ [])) (keeping keep (union_tree ds))
closed_read {names = names} {room = room} {t = t} {ds = ds} None c is s =
    rw is (group_of s)
closed_read {names = names} {room = room} {t = t} {ds = ds} (Some keep) c (d, is, k) s =
    rw (← (ap (λ x. project_word ∷ x) (sym (append_assoc d (open_paren ∷ []) (t ++ close_paren ∷ []))) ∙ ap (λ x. x ++ (t ++ close_paren ∷ [])) (sym is))) (projection_of k s)

pub no_frame : (names : List VarName) (room : ℕ) → FrameRead names room [] None [] []
no_frame names room = record { front = []; back = []; splits = refl; conjs_read = refl; units_read = refl }

pub outside_room : (names : List VarName) (room : ℕ) (keep : Option (List VarName)) (below : List Frame) (t : List Token) → Outside names room keep below t →
    length below + room ≡ MOST_OPEN
outside_room names room keep [] t o = omega (arith, o.2)
outside_room names room keep (f ∷ below) t (a, b, c, is, o, inner, opener) = omega (arith, outside_room names (suc room) f.names below a o)

splits_more : (ts w l o i h x : List Token) → ts ≡ w ++ (l ++ (o ++ (i ++ h))) → ts ++ x ≡ w ++ (l ++ (o ++ (i ++ (h ++ x))))
splits_more ts w l o i h x e = ap (λ t. t ++ x) e ∙ simp append_assoc

-- where nothing of an expression was read, the other tokens are none
bare_outside : (names : List VarName) (room : ℕ) (keep : Option (List VarName)) (o : List Token) (below : List Frame) → below ≡ [] → Outside names room keep below o →
    (o ≡ []) × (keep ≡ None) × (room ≡ MOST_OPEN)
bare_outside names room keep o [] e (k, is, full) = (is, k, full)
bare_outside names room keep o (f ∷ below) e h = absurd (cc)

bare_frame : {names : List VarName} {room : ℕ} {i : List Token} (cs : List ExprTree) (left : Option ExprTree) (us : List ExprTree) → cs ≡ [] → left ≡ None → us ≡ [] →
    FrameRead names room cs left us i → i ≡ []
bare_frame [] None [] e l d f = f.splits ∙ ap (λ x. x ++ f.back) f.conjs_read ∙ f.units_read
bare_frame (c ∷ cs) left us e l d f = absurd (cc)
bare_frame [] (Some g) us e l d f = absurd (cc)
bare_frame [] None (u ∷ us) e l d f = absurd (cc)

bare_text : {ts : List Token} {lets : List (VarName × ExprTree)} {current : Option VarName} {below : List Frame} {top : Frame} {last : Last}
    (r : Read ts lets current below top last) → below ≡ [] → top ≡ empty_frame None → r.here ≡ [] → ts ≡ r.whole_lets ++ r.let_text
bare_text {lets = lets} {below = below} {top = top} r no_below no_top no_here =
    let o = (bare_outside (names_of lets) r.room top.names r.outside below no_below r.outside_read).0 in
    let i = bare_frame top.conjs top.left top.units (ap (λ f. f.conjs) no_top) (ap (λ f. f.left) no_top) (ap (λ f. f.units) no_top) r.inside_read in
    r.splits ∙ ap (λ h. r.whole_lets ++ (r.let_text ++ (r.outside ++ (r.inside ++ h)))) no_here
    ∙ ap (λ i. r.whole_lets ++ (r.let_text ++ (r.outside ++ (i ++ [])))) i ∙ ap (λ o. r.whole_lets ++ (r.let_text ++ (o ++ []))) o
    ∙ ap (λ l. r.whole_lets ++ l) (append-nil r.let_text)

-- the beginning of a let, or of an expression
beginning : {lets : List (VarName × ExprTree)} {current : Option VarName} (w l : List Token) (last : Last) → SpellsLets w lets → LetRead (names_of lets) last current l →
    LastRead (names_of lets) MOST_OPEN last [] → IsBare last [] (empty_frame None) → Read (w ++ l) lets current [] (empty_frame None) last
beginning {lets = lets} w l last s h e b = record {
  room = MOST_OPEN;
  whole_lets = w;
  let_text = l;
  outside = [];
  inside = [];
  here = [];
  splits = ap (λ x. w ++ x) (sym (append-nil l));
  lets_read = s;
  let_read = h;
  outside_read = (refl, refl, refl);
  inside_read = no_frame (names_of lets) MOST_OPEN;
  here_read = e;
  bare = b;
}

-- `let`
pub read_let : {ts : List Token} {lets : List (VarName × ExprTree)} {current : Option VarName} {below : List Frame} {top : Frame} →
    Read ts lets current below top at_start → Read (ts ++ let_word ∷ []) lets current below top after_let
read_let {ts = ts} {lets = lets} {current = current} {below = below} {top = top} r =
    let text = bare_text r r.bare.0 r.bare.1 r.here_read in
    let new : Read (r.whole_lets ++ let_word ∷ []) lets current [] (empty_frame None) after_let =
    beginning r.whole_lets (let_word ∷ []) after_let r.lets_read (refl, r.let_read.1) refl (refl, refl) in
    let front : ts ≡ r.whole_lets = text ∙ ap (λ l. r.whole_lets ++ l) r.let_read.0 ∙ append-nil r.whole_lets in
    rw front
    (rw r.bare.0
    (rw r.bare.1 new))

-- the name of a let
pub read_let_name : {ts : List Token} {lets : List (VarName × ExprTree)} {current : Option VarName} {below : List Frame} {top : Frame} (x : VarName) → IsFreeName x →
    (Has (names_of lets) x → ⊥) → Read ts lets current below top after_let → Read (ts ++ name_token x ∷ []) lets (Some x) below top after_name
read_let_name {ts = ts} {lets = lets} {below = below} {top = top} x free new r =
    let text = bare_text r r.bare.0 r.bare.1 r.here_read in
    let next : Read (r.whole_lets ++ let_word ∷ name_token x ∷ []) lets (Some x) [] (empty_frame None) after_name =
    beginning r.whole_lets (let_word ∷ name_token x ∷ []) after_name r.lets_read (refl, free, new) refl (refl, refl) in
    let front : ts ++ name_token x ∷ [] ≡ r.whole_lets ++ let_word ∷ name_token x ∷ [] =
    ap (λ t. t ++ name_token x ∷ []) (text ∙ ap (λ l. r.whole_lets ++ l) r.let_read.0) ∙ append_assoc r.whole_lets (let_word ∷ []) (name_token x ∷ []) in
    rw front
    (rw r.bare.0
    (rw r.bare.1 next))

-- the `=` of a let
pub read_equals : {ts : List Token} {lets : List (VarName × ExprTree)} {current : Option VarName} {below : List Frame} {top : Frame} →
    Read ts lets current below top after_name → Read (ts ++ equals ∷ []) lets current below top at_unit
read_equals {current = None} r = absurd r.let_read
read_equals {ts = ts} {lets = lets} {current = Some x} {below = below} {top = top} r =
    let text = bare_text r r.bare.0 r.bare.1 r.here_read in
    let next : Read (r.whole_lets ++ let_word ∷ name_token x ∷ equals ∷ []) lets (Some x) [] (empty_frame None) at_unit =
    beginning r.whole_lets (let_word ∷ name_token x ∷ equals ∷ []) at_unit r.lets_read (refl, r.let_read.1, r.let_read.2) refl tt in
    let front : ts ++ equals ∷ [] ≡ r.whole_lets ++ let_word ∷ name_token x ∷ equals ∷ [] =
    ap (λ t. t ++ equals ∷ []) (text ∙ ap (λ l. r.whole_lets ++ l) r.let_read.0) ∙ append_assoc r.whole_lets (let_word ∷ name_token x ∷ []) (equals ∷ []) in
    rw front
    (rw r.bare.0
    (rw r.bare.1 next))

-- a query whose first expression may begin is one in which a unit is due
pub body_begins : {ts : List Token} {lets : List (VarName × ExprTree)} {current : Option VarName} {below : List Frame} {top : Frame} →
    Read ts lets current below top at_start → Read ts lets current below top at_unit
body_begins {lets = lets} r = record {
  room = r.room;
  whole_lets = r.whole_lets;
  let_text = r.let_text;
  outside = r.outside;
  inside = r.inside;
  here = r.here;
  splits = r.splits;
  lets_read = r.lets_read;
  let_read = rw r.let_read.1 r.let_read.0;
  outside_read = r.outside_read;
  inside_read = r.inside_read;
  here_read = r.here_read;
  bare = tt;
}

-- one token more of the last thing read
read_here : {ts : List Token} {lets : List (VarName × ExprTree)} {current : Option VarName} {below : List Frame} {top : Frame} {last : Last} (t : Token) (next : Last)
    (r : Read ts lets current below top last) → LetRead (names_of lets) next current r.let_text → LastRead (names_of lets) r.room next (r.here ++ t ∷ []) → IsBare next below top →
    Read (ts ++ t ∷ []) lets current below top next
read_here {ts = ts} t next r l h b = record {
  room = r.room;
  whole_lets = r.whole_lets;
  let_text = r.let_text;
  outside = r.outside;
  inside = r.inside;
  here = r.here ++ t ∷ [];
  splits = splits_more ts r.whole_lets r.let_text r.outside r.inside r.here (t ∷ []) r.splits;
  lets_read = r.lets_read;
  let_read = l;
  outside_read = r.outside_read;
  inside_read = r.inside_read;
  here_read = h;
  bare = b;
}

pub after_nothing : {X : Type 0} (h x : List X) → h ≡ [] → h ++ x ≡ x
after_nothing h x e = ap (λ y. y ++ x) e

pub read_unit : {ts : List Token} {lets : List (VarName × ExprTree)} {current : Option VarName} {below : List Frame} {top : Frame} (t : Token) (e : ExprTree) →
    ((room : ℕ) → SpellsUnit (names_of lets) room (t ∷ []) e) → Read ts lets current below top at_unit → Read (ts ++ t ∷ []) lets current below top (unit e)
read_unit {lets = lets} t e s r =
    read_here t (unit e) r r.let_read (rw (after_nothing r.here (t ∷ []) r.here_read) (s r.room)) tt

pub read_project : {ts : List Token} {lets : List (VarName × ExprTree)} {current : Option VarName} {below : List Frame} {top : Frame} →
    Read ts lets current below top at_unit → Read (ts ++ project_word ∷ []) lets current below top after_project
read_project r = read_here project_word after_project r r.let_read (after_nothing r.here (project_word ∷ []) r.here_read) tt

pub read_none : {ts : List Token} {lets : List (VarName × ExprTree)} {current : Option VarName} {below : List Frame} {top : Frame} →
    Read ts lets current below top after_project → Read (ts ++ none_word ∷ []) lets current below top after_none
read_none r = read_here none_word after_none r r.let_read (ap (λ h. h ++ none_word ∷ []) r.here_read) tt

pub read_kept : {ts : List Token} {lets : List (VarName × ExprTree)} {current : Option VarName} {below : List Frame} {top : Frame} (x : VarName) → IsFreeName x →
    finds_room [] x ≡ true → Read ts lets current below top after_project → Read (ts ++ name_token x ∷ []) lets current below top (after_kept (with_name x []))
read_kept x free room r =
    read_here (name_token x) (after_kept (with_name x [])) r r.let_read
    (name_token x ∷ [], ap (λ h. h ++ name_token x ∷ []) r.here_read, (x ∷ [], one_name free, refl, room_keeps [] x (with_names_ascend [] [] none_are_variables.ascending) (omega arith) room)) tt

pub read_comma : {ts : List Token} {lets : List (VarName × ExprTree)} {current : Option VarName} {below : List Frame} {top : Frame} {names : List VarName} →
    Read ts lets current below top (after_kept names) → Read (ts ++ comma ∷ []) lets current below top (after_comma names)
read_comma {names = names} r =
    let (d, is, k) = r.here_read in read_here comma (after_comma names) r r.let_read (d, ap (λ h. h ++ comma ∷ []) is, k) tt

pub read_kept_more : {ts : List Token} {lets : List (VarName × ExprTree)} {current : Option VarName} {below : List Frame} {top : Frame} {names : List VarName} (x : VarName) →
    IsFreeName x → finds_room names x ≡ true → Read ts lets current below top (after_comma names) → Read (ts ++ name_token x ∷ []) lets current below top (after_kept (with_name x names))
read_kept_more {names = names} x free room r =
    let (d, is, (xs, s, same, few)) = r.here_read in
    let up : Ascending names = subst Ascending same (with_names_ascend [] xs none_are_variables.ascending) in
    read_here (name_token x) (after_kept (with_name x names)) r r.let_read (
      d ++ comma ∷ name_token x ∷ [],
      ap (λ h. h ++ name_token x ∷ []) is ∙ ap (λ y. project_word ∷ y) (append_assoc d (comma ∷ []) (name_token x ∷ [])),
      (xs ++ x ∷ [], more_names s free, with_names_more [] xs x ∙ ap (with_name x) same, room_keeps names x up few room),
    ) tt

room_left : (k room : ℕ) → k + room ≡ MOST_OPEN → k < MOST_OPEN → (left : ℕ) × (room ≡ suc left)
room_left k zero e few = absurd (omega arith)
room_left k (suc left) e few = (left, refl)

-- a parenthesis, where `c` ends with it
pub read_open : {ts : List Token} {lets : List (VarName × ExprTree)} {current : Option VarName} {below : List Frame} {top : Frame} {last : Last}
    (names : Option (List VarName)) (r : Read ts lets current below top last) → LetDone (names_of lets) current r.let_text →
    ((room : ℕ) → OpenerRead (names_of lets) room names (r.here ++ open_paren ∷ [])) → length below < MOST_OPEN →
    Read (ts ++ open_paren ∷ []) lets current (top ∷ below) (empty_frame names) at_unit
read_open {ts = ts} {lets = lets} {below = below} {top = top} names r l opener few =
    let (left, is) = room_left (length below) r.room (outside_room (names_of lets) r.room top.names below r.outside r.outside_read) few in
    let c = r.here ++ open_paren ∷ [] in
    record {
      room = left;
      whole_lets = r.whole_lets;
      let_text = r.let_text;
      outside = r.outside ++ (r.inside ++ c);
      inside = [];
      here = [];
      splits = splits_more ts r.whole_lets r.let_text r.outside r.inside r.here (open_paren ∷ []) r.splits
          ∙ ap (λ x. r.whole_lets ++ (r.let_text ++ x)) (sym (append-nil (r.outside ++ (r.inside ++ c))));
      lets_read = r.lets_read;
      let_read = l;
      outside_read = (
        r.outside,
        r.inside,
        c,
        refl,
        rw (← is) r.outside_read,
        rw (← is) r.inside_read,
        opener left,
      );
      inside_read = no_frame (names_of lets) left;
      here_read = refl;
      bare = tt;
    }

-- the unit is one of more that a join has
pub read_join : {ts : List Token} {lets : List (VarName × ExprTree)} {current : Option VarName} {below : List Frame} {top : Frame} {e : ExprTree} →
    Read ts lets current below top (unit e) → Read (ts ++ join_word ∷ []) lets current below (record top { units = top.units ++ e ∷ [] }) at_unit
read_join {ts = ts} {lets = lets} {top = top} {e = e} r =
    let f = r.inside_read in
    let s = r.here_read in
    let more = units_more top.units e f.back r.here f.units_read s in
    record {
      room = r.room;
      whole_lets = r.whole_lets;
      let_text = r.let_text;
      outside = r.outside;
      inside = r.inside ++ (r.here ++ join_word ∷ []);
      here = [];
      splits = splits_more ts r.whole_lets r.let_text r.outside r.inside r.here (join_word ∷ []) r.splits
          ∙ ap (λ x. r.whole_lets ++ (r.let_text ++ (r.outside ++ x))) (sym (append-nil (r.inside ++ (r.here ++ join_word ∷ []))));
      lets_read = r.lets_read;
      let_read = r.let_read;
      outside_read = r.outside_read;
      inside_read = record {
        front = f.front;
        back = f.back ++ (r.here ++ join_word ∷ []);
        splits = ap (λ x. x ++ (r.here ++ join_word ∷ [])) f.splits ∙ append_assoc f.front f.back (r.here ++ join_word ∷ []);
        conjs_read = f.conjs_read;
        units_read = more;
      };
      here_read = refl;
      bare = tt;
    }
  where
    units_more : (us : List ExprTree) (e : ExprTree) (b t : List Token) → UnitsBefore (names_of lets) r.room us b → SpellsUnit (names_of lets) r.room t e →
        UnitsBefore (names_of lets) r.room (us ++ e ∷ []) (b ++ (t ++ join_word ∷ []))
    units_more [] e b t is s = (t, ap (λ x. x ++ (t ++ join_word ∷ [])) is, lone_unit s)
    units_more (u ∷ us) e b t (d, is, c) s =
        (d ++ join_word ∷ t, ap (λ x. x ++ (t ++ join_word ∷ [])) is ∙ simp append_assoc, more_units c s)

-- tokens that end the last conjunction, and what they begin
more_inside : (i f b h : List Token) (t : Token) → i ≡ f ++ b → i ++ (h ++ t ∷ []) ≡ f ++ ((b ++ h) ++ t ∷ [])
more_inside i f b h t splits = ap (λ x. x ++ (h ++ t ∷ [])) splits ∙ simp append_assoc

after_inside : (ts w l o i h : List Token) (t : Token) → ts ≡ w ++ (l ++ (o ++ (i ++ h))) → ts ++ t ∷ [] ≡ w ++ (l ++ (o ++ ((i ++ (h ++ t ∷ [])) ++ [])))
after_inside ts w l o i h t splits = splits_more ts w l o i h (t ∷ []) splits ∙ ap (λ x. w ++ (l ++ (o ++ x))) (sym (append-nil (i ++ (h ++ t ∷ []))))

-- the conjunction is one of more that a union has
pub read_union : {ts : List Token} {lets : List (VarName × ExprTree)} {current : Option VarName} {below : List Frame} {top : Frame} {e : ExprTree} →
    Read ts lets current below top (unit e) →
    Read (ts ++ union_word ∷ []) lets current below (record top { conjs = top.conjs ++ less top.left (whole_conj top.units e) ∷ []; left = None; units = [] }) at_unit
read_union {ts = ts} {lets = lets} {top = top} {e = e} r =
    let f = r.inside_read in
    let (es, is, c) = conj_of top.units f.back f.units_read r.here_read in
    record {
      room = r.room;
      whole_lets = r.whole_lets;
      let_text = r.let_text;
      outside = r.outside;
      inside = r.inside ++ (r.here ++ union_word ∷ []);
      here = [];
      splits = after_inside ts r.whole_lets r.let_text r.outside r.inside r.here union_word r.splits;
      lets_read = r.lets_read;
      let_read = r.let_read;
      outside_read = r.outside_read;
      inside_read = record {
        front = f.front ++ ((f.back ++ r.here) ++ union_word ∷ []);
        back = [];
        splits = more_inside r.inside f.front f.back r.here union_word f.splits ∙ sym (append-nil (f.front ++ ((f.back ++ r.here) ++ union_word ∷ [])));
        conjs_read = rw is
            (conjs_more top.conjs top.left es f.front (f.back ++ r.here) f.conjs_read c);
        units_read = refl;
      };
      here_read = refl;
      bare = tt;
    }
  where
    conjs_more : (cs : List ExprTree) (left : Option ExprTree) (es : List ExprTree) (b t : List Token) → ConjsBefore (names_of lets) r.room cs left b →
        SpellsConj (names_of lets) r.room t es → ConjsBefore (names_of lets) r.room (cs ++ less left (join_tree es) ∷ []) None (b ++ (t ++ union_word ∷ []))
    conjs_more [] None es b t is s = (t, ap (λ x. x ++ (t ++ union_word ∷ [])) is, lone_conj s)
    conjs_more (c ∷ cs) None es b t (d, is, x) s =
        (d ++ union_word ∷ t, ap (λ y. y ++ (t ++ union_word ∷ [])) is ∙ simp append_assoc, more_conjs x s)
    conjs_more [] (Some l) es b t (d, fs, is, x, same) s = (
      d ++ name_token minus_word ∷ t,
      ap (λ y. y ++ (t ++ union_word ∷ [])) is ∙ simp append_assoc,
      rw same (less_conj x s),
    )
    conjs_more (c ∷ cs) (Some l) es b t none s = absurd none

-- what stands in the frame is what the next conjunction is taken from
pub read_minus : {ts : List Token} {lets : List (VarName × ExprTree)} {current : Option VarName} {below : List Frame} {top : Frame} {e : ExprTree} →
    Read ts lets current below top (unit e) →
    Read (ts ++ name_token minus_word ∷ []) lets current below (record top { conjs = []; left = Some (whole top e); units = [] }) at_unit
read_minus {ts = ts} {lets = lets} {top = top} {e = e} r =
    let (ds, same, x) = whole_read top.names r.inside_read r.here_read in
    let sign = name_token minus_word in
    record {
      room = r.room;
      whole_lets = r.whole_lets;
      let_text = r.let_text;
      outside = r.outside;
      inside = r.inside ++ (r.here ++ sign ∷ []);
      here = [];
      splits = after_inside ts r.whole_lets r.let_text r.outside r.inside r.here sign r.splits;
      lets_read = r.lets_read;
      let_read = r.let_read;
      outside_read = r.outside_read;
      inside_read = record {
        front = (r.inside ++ r.here) ++ sign ∷ [];
        back = [];
        splits = sym (append_assoc r.inside r.here (sign ∷ [])) ∙ sym (append-nil ((r.inside ++ r.here) ++ sign ∷ []));
        conjs_read = (r.inside ++ r.here, ds, refl, x, same);
        units_read = refl;
      };
      here_read = refl;
      bare = tt;
    }

-- the innermost frame is closed
pub read_close : {ts : List Token} {lets : List (VarName × ExprTree)} {current : Option VarName} {below : List Frame} {outer top : Frame} {e : ExprTree} →
    Read ts lets current (outer ∷ below) top (unit e) → Read (ts ++ close_paren ∷ []) lets current below outer (unit (closed top e))
read_close {ts = ts} {lets = lets} {top = top} {e = e} r =
    let (a, b, c, is, o, f, k) = r.outside_read in
    let (ds, same, x) = whole_read top.names r.inside_read r.here_read in
    let here = c ++ ((r.inside ++ r.here) ++ close_paren ∷ []) in
    record {
      room = suc r.room;
      whole_lets = r.whole_lets;
      let_text = r.let_text;
      outside = a;
      inside = b;
      here = here;
      splits = splits_more ts r.whole_lets r.let_text r.outside r.inside r.here (close_paren ∷ []) r.splits
          ∙ ap (λ o. r.whole_lets ++ (r.let_text ++ (o ++ (r.inside ++ (r.here ++ close_paren ∷ []))))) is ∙ simp append_assoc;
      lets_read = r.lets_read;
      let_read = r.let_read;
      outside_read = o;
      inside_read = f;
      here_read = rw same (closed_read top.names c k x);
      bare = tt;
    }

-- the let is ended
pub read_semicolon : {ts : List Token} {lets : List (VarName × ExprTree)} {top : Frame} {e : ExprTree} (x : VarName) →
    Read ts lets (Some x) [] top (unit e) → Read (ts ++ semicolon ∷ []) (lets ++ (x, whole top e) ∷ []) None [] (empty_frame None) at_start
read_semicolon {ts = ts} {lets = lets} {top = top} {e = e} x r =
    let (ds, same, s) = whole_read top.names r.inside_read r.here_read in
    let (l, free, new) = r.let_read in
    let room : r.room ≡ MOST_OPEN = r.outside_read.2 in
    let u = r.inside ++ r.here in
    let all = r.whole_lets ++ let_word ∷ name_token x ∷ equals ∷ (u ++ semicolon ∷ []) in
    let spelled : SpellsLets all (lets ++ (x, union_tree ds) ∷ []) = more_lets r.lets_read free new (subst (λ k. SpellsExpr (names_of lets) k u ds) room s) in
    let text : ts ++ semicolon ∷ [] ≡ all =
    splits_more ts r.whole_lets r.let_text r.outside r.inside r.here (semicolon ∷ []) r.splits
    ∙ ap (λ y. r.whole_lets ++ (y ++ (r.outside ++ (r.inside ++ (r.here ++ semicolon ∷ []))))) l
    ∙ ap (λ y. r.whole_lets ++ let_word ∷ name_token x ∷ equals ∷ (y ++ (r.inside ++ (r.here ++ semicolon ∷ [])))) r.outside_read.1
    ∙ ap (λ y. r.whole_lets ++ let_word ∷ name_token x ∷ equals ∷ y) (sym (append_assoc r.inside r.here (semicolon ∷ []))) in
    let next : Read (all ++ []) (lets ++ (x, union_tree ds) ∷ []) None [] (empty_frame None) at_start = beginning all [] at_start spelled (refl, refl) refl (refl, refl) in
    rw text
    (rw same
    (rw (← append-nil all) next))

-- the tokens of a whole query spell it
pub read_whole : {ts : List Token} {lets : List (VarName × ExprTree)} {top : Frame} {e : ExprTree} → Read ts lets None [] top (unit e) →
    minuses_of (record { lets = lets; body = whole top e }) ≤ MOST_MINUSES → Spells ts (record { lets = lets; body = whole top e })
read_whole {ts = ts} {lets = lets} {top = top} {e = e} r few =
    let (ds, same, s) = whole_read top.names r.inside_read r.here_read in
    let u = r.inside ++ r.here in (
      r.whole_lets,
      u,
      ds,
      r.splits ∙ ap (λ y. r.whole_lets ++ (y ++ (r.outside ++ u))) r.let_read ∙ ap (λ y. r.whole_lets ++ (y ++ u)) r.outside_read.1,
      r.lets_read,
      rw (← r.outside_read.2) s,
      same,
      few,
    )

-- nothing is read yet
pub read_nothing : IsRead [] outermost
read_nothing = beginning [] [] at_start no_let (refl, refl) refl (refl, refl)
