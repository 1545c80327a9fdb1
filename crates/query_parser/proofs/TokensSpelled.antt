-- The tokens that a run reads are those of what it holds.
use Rattle.std.proofs.Common.{◌≡◌, ℕ, ◌+◌, ◌⊎◌, inl, inr, ◌<◌, ◌≤◌, Bool, true, false, nat_lt, List, [], ◌∷◌, ◌++◌, length, Option, Some, None, Ok, Err, ap, refl, sym, subst, ◌∙◌, append_assoc, arith, if◌then◌else◌}
use Rattle.std.proofs.lemmas.List.{append-nil}
use Rattle.std.proofs.lemmas.Bool.Decides.{nat_tests}
use Rattle.span_core.specs.declared.TheConstants.{MOST_VARIABLES}
use Rattle.span_core.specs.Names.{is_name}
use Rattle.span_core.specs.NameSets.{with_name}
use Rattle.span_core.specs.Lists.{Has}
use Rattle.spanner_model.specs.Captures.{VarName}
use Rattle.spanner_model.specs.Expression.{ExprTree, QueryTree, atom, named}
use Rattle.spanner_model.specs.Sound.{words}
use Rattle.query_parser.specs.declared.TheConstants.{MOST_OPEN, MOST_MINUSES}
use Rattle.query_parser.specs.Tokens.{Token, atom_token, let_word, union_word, join_word, project_word, none_word, name_token, equals, semicolon, open_paren, close_paren, comma, minus_word}
use Rattle.query_parser.specs.Minuses.{minuses_in, minuses_in_lets}
use Rattle.query_parser.specs.Spells.{SpellsKeep, keeps_none, keeps_names, atom_unit, named_unit, names_of, Spells}
use Rattle.query_parser.specs.Reads.{unexpected, name_too_long, name_twice, too_deep, is_among, finds_room}
use Rattle.query_parser.specs.Nest.{Frame, Last, at_start, after_let, after_name, at_unit, unit, after_project, after_none, after_kept, after_comma, Nest, Move, outermost, whole_conj, less, whole, closed, next_side, subtracts, leaves, ends_let, find, move, opens, opened, speaks_of, reads_name, begins_let, keeps, with_last, Body, ends_body, whole_query}
use Rattle.std.specs.Str.{bytes_eq}
use Rattle.query_parser.proofs.MinusLaws.{minuses_of_frame, among_more, lets_more, conj_count, less_count, whole_count, closed_count}
use Rattle.query_parser.proofs.Lists.{find_gives, among_not, eq_is}
use Rattle.query_parser.proofs.SpelledMoves.{Runs}
use Rattle.query_parser.proofs.MovesSpelled.{Read, IsRead, read_let, read_let_name, read_equals, body_begins, after_nothing, read_unit, read_project, read_none, read_kept, read_comma, read_kept_more, read_open, read_join, read_union, read_minus, read_close, read_semicolon, read_whole, read_nothing}

-- a word that names nothing is no name
abbrev pub IsProper : Token → Type 0
IsProper (name_token x) = Has words x → ⊥
IsProper t = Unit {0}

abbrev pub AreProper : List Token → Type 0
AreProper [] = Unit {0}
AreProper (t ∷ ts) = IsProper t × AreProper ts

same_nest : (k m : Nest) → ◌≡◌ {A = Move} (Ok k) (Ok m) → k ≡ m
same_nest k m e = cc

done : {ts : List Token} (k m : Nest) → ◌≡◌ {A = Move} (Ok k) (Ok m) → IsRead ts k → IsRead ts m
done {ts = ts} k m e r = subst (IsRead ts) (same_nest k m e) r

-- what a name does where it may come next
pub named_moves : (x : VarName) (n m : Nest) → reads_name x (speaks_of (find (names_of n.lets) x) n) ≡ Ok m →
    (k : ℕ) × (find (names_of n.lets) x ≡ Some k) × ◌≡◌ {A = Move} (Ok (with_last (unit (named k)) n)) (Ok m)
named_moves x n m e = by (is_name x) refl (find (names_of n.lets) x) refl e
  where
    by : (b : Bool) → is_name x ≡ b → (found : Option ℕ) → find (names_of n.lets) x ≡ found → ◌≡◌ {A = Move} (if b then speaks_of found n else Err name_too_long) (Ok m) →
        (k : ℕ) × (find (names_of n.lets) x ≡ Some k) × ◌≡◌ {A = Move} (Ok (with_last (unit (named k)) n)) (Ok m)
    by true d (Some k) f e = (k, f, e)
    by true d None f e = absurd (cc)
    by false d found f e = absurd (cc)

pub let_moves : (x : VarName) (n m : Nest) → begins_let x n ≡ Ok m →
    (is_name x ≡ true) × (is_among (names_of n.lets) x ≡ false) × ◌≡◌ {A = Move} (Ok (record n { current = Some x; last = after_name })) (Ok m)
let_moves x n m e = by (is_name x) refl (is_among (names_of n.lets) x) refl e
  where
    by : (b : Bool) → is_name x ≡ b → (a : Bool) → is_among (names_of n.lets) x ≡ a →
        ◌≡◌ {A = Move} (if b then (if a then Err name_twice else Ok (record n { current = Some x; last = after_name })) else Err name_too_long) (Ok m) →
        (is_name x ≡ true) × (is_among (names_of n.lets) x ≡ false) × ◌≡◌ {A = Move} (Ok (record n { current = Some x; last = after_name })) (Ok m)
    by true d false f e = (d, f, e)
    by true d true f e = absurd (cc)
    by false d a f e = absurd (cc)

pub keep_moves : (names : List VarName) (x : VarName) (n m : Nest) → keeps names x n ≡ Ok m → m.many ≡ false →
    (is_name x ≡ true) × (finds_room names x ≡ true) × ◌≡◌ {A = Move} (Ok (with_last (after_kept (with_name x names)) n)) (Ok m)
keep_moves names x n m e few = by (is_name x) refl (finds_room names x) refl e
  where
    by : (b : Bool) → is_name x ≡ b → (a : Bool) → finds_room names x ≡ a →
        ◌≡◌ {A = Move} (if b then Ok (if a then with_last (after_kept (with_name x names)) n else record n { last = after_kept names; many = true }) else Err name_too_long) (Ok m) →
        (is_name x ≡ true) × (finds_room names x ≡ true) × ◌≡◌ {A = Move} (Ok (with_last (after_kept (with_name x names)) n)) (Ok m)
    by true d true f e = (d, f, e)
    by true d false f e = let g : true ≡ m.many = ap (λ k. k.many) (same_nest (record n { last = after_kept names; many = true }) m e) in absurd (cc)
    by false d a f e = absurd (cc)

pub open_moves : (names : Option (List VarName)) (n m : Nest) → opens names n ≡ Ok m → (length n.below < MOST_OPEN) × ◌≡◌ {A = Move} (Ok (opened names n)) (Ok m)
open_moves names n m e = by (nat_lt (length n.below) MOST_OPEN) refl e
  where
    by : (b : Bool) → nat_lt (length n.below) MOST_OPEN ≡ b → ◌≡◌ {A = Move} (if b then Ok (opened names n) else Err too_deep) (Ok m) →
        (length n.below < MOST_OPEN) × ◌≡◌ {A = Move} (Ok (opened names n)) (Ok m)
    by true d e = (grind (arith, nat_tests), e)
    by false d e = absurd (cc)

pub minus_moves : (x : VarName) (e : ExprTree) (n m : Nest) → subtracts x e n ≡ Ok m → (x ≡ minus_word) × (n.minuses < MOST_MINUSES) × ◌≡◌ {A = Move} (Ok (next_side e n)) (Ok m)
minus_moves x e n m is = by (bytes_eq x minus_word) refl (nat_lt n.minuses MOST_MINUSES) refl is
  where
    by : (b : Bool) → bytes_eq x minus_word ≡ b → (few : Bool) → nat_lt n.minuses MOST_MINUSES ≡ few →
        ◌≡◌ {A = Move} (if b then (if few then Ok (next_side e n) else Err too_deep) else Err unexpected) (Ok m) →
        (x ≡ minus_word) × (n.minuses < MOST_MINUSES) × ◌≡◌ {A = Move} (Ok (next_side e n)) (Ok m)
    by true d true f h = (eq_is x minus_word d, grind (arith, nat_tests), h)
    by true d false f h = absurd (cc)
    by false d few f h = absurd (cc)

abbrev nest : List (VarName × ExprTree) → Option VarName → List Frame → Frame → Last → Bool → ℕ → Nest
nest lets current below top last many count =
    record { lets = lets; current = current; below = below; top = top; last = last; many = many; minuses = count }

-- the parentheses
group_opens : {ts : List Token} {lets : List (VarName × ExprTree)} {current : Option VarName} {below : List Frame} {top : Frame} (many : Bool) (count : ℕ) (m : Nest) →
    opens None (nest lets current below top at_unit many count) ≡ Ok m → Read ts lets current below top at_unit → IsRead (ts ++ open_paren ∷ []) m
group_opens {lets = lets} {current = current} {below = below} {top = top} many count m e r =
    let o = open_moves None (nest lets current below top at_unit many count) m e in
    done (opened None (nest lets current below top at_unit many count)) m o.1 (read_open None r r.let_read (λ room. after_nothing r.here (open_paren ∷ []) r.here_read) o.0)

none_opens : {ts : List Token} {lets : List (VarName × ExprTree)} {current : Option VarName} {below : List Frame} {top : Frame} (many : Bool) (count : ℕ) (m : Nest) →
    opens (Some []) (nest lets current below top after_none many count) ≡ Ok m → Read ts lets current below top after_none → IsRead (ts ++ open_paren ∷ []) m
none_opens {lets = lets} {current = current} {below = below} {top = top} many count m e r =
    let o = open_moves (Some []) (nest lets current below top after_none many count) m e in
    done (opened (Some []) (nest lets current below top after_none many count)) m o.1
    (read_open (Some []) r r.let_read (λ room. (none_word ∷ [], ap (λ h. h ++ open_paren ∷ []) r.here_read, keeps_none)) o.0)

kept_opens : {ts : List Token} {lets : List (VarName × ExprTree)} {current : Option VarName} {below : List Frame} {top : Frame} (keep : List VarName) (many : Bool) (count : ℕ) (m : Nest) →
    opens (Some keep) (nest lets current below top (after_kept keep) many count) ≡ Ok m → Read ts lets current below top (after_kept keep) → IsRead (ts ++ open_paren ∷ []) m
kept_opens {lets = lets} {current = current} {below = below} {top = top} keep many count m e r =
    let o = open_moves (Some keep) (nest lets current below top (after_kept keep) many count) m e in
    let (d, is, (xs, s, same, few)) = r.here_read in
    let spelled : SpellsKeep d keep = subst (SpellsKeep d) same (keeps_names s (rw same few)) in
    done (opened (Some keep) (nest lets current below top (after_kept keep) many count)) m o.1
    (read_open (Some keep) r r.let_read (λ room. (d, ap (λ h. h ++ open_paren ∷ []) is, spelled)) o.0)

unit_named : {ts : List Token} {lets : List (VarName × ExprTree)} {current : Option VarName} {below : List Frame} {top : Frame} (x : VarName) (last : Last) (many : Bool) (count : ℕ) (m : Nest) →
    reads_name x (speaks_of (find (names_of lets) x) (nest lets current below top last many count)) ≡ Ok m → Read ts lets current below top at_unit → IsRead (ts ++ name_token x ∷ []) m
unit_named {lets = lets} {current = current} {below = below} {top = top} x last many count m e r =
    let (k, found, is) = named_moves x (nest lets current below top last many count) m e in
    done (nest lets current below top (unit (named k)) many count) m is (read_unit (name_token x) (named k) (λ room. named_unit (find_gives (names_of lets) x k found)) r)

let_ends : {ts : List Token} (lets : List (VarName × ExprTree)) (current : Option VarName) (below : List Frame) (top : Frame) (g : ExprTree) (many : Bool) (count : ℕ) (m : Nest) →
    ends_let (whole top g) lets many count below current ≡ Ok m → Read ts lets current below top (unit g) → IsRead (ts ++ semicolon ∷ []) m
let_ends lets (Some x) [] top g many count m e r = done _ m e (read_semicolon x r)
let_ends lets None [] top g many count m e r = absurd (cc)
let_ends lets current (f ∷ below) top g many count m e r = absurd (cc)

frame_closes : {ts : List Token} (lets : List (VarName × ExprTree)) (current : Option VarName) (below : List Frame) (top : Frame) (g : ExprTree) (many : Bool) (count : ℕ) (m : Nest) →
    leaves (closed top g) lets current many count below ≡ Ok m → Read ts lets current below top (unit g) → IsRead (ts ++ close_paren ∷ []) m
frame_closes lets current [] top g many count m e r = absurd (cc)
frame_closes lets current (f ∷ below) top g many count m e r = done _ m e (read_close r)

pub reads_token : (t : Token) (ts : List Token) (lets : List (VarName × ExprTree)) (current : Option VarName) (below : List Frame) (top : Frame) (last : Last) (many : Bool) (count : ℕ) (m : Nest) →
    IsProper t → move t (nest lets current below top last many count) ≡ Ok m → m.many ≡ false → Read ts lets current below top last → IsRead (ts ++ t ∷ []) m
reads_token (atom_token a) ts lets current below top at_start many count m p e f r =
    done (nest lets current below top (unit (atom a)) many count) m e
    (read_unit (atom_token a) (atom a) (λ room. atom_unit) (body_begins r))
reads_token (atom_token a) ts lets current below top at_unit many count m p e f r =
    done (nest lets current below top (unit (atom a)) many count) m e
    (read_unit (atom_token a) (atom a) (λ room. atom_unit) r)
reads_token let_word ts lets current below top at_start many count m p e f r = done (nest lets current below top after_let many count) m e (read_let r)
reads_token union_word ts lets current below top (unit g) many count m p e f r = done _ m e (read_union r)
reads_token join_word ts lets current below top (unit g) many count m p e f r = done _ m e (read_join r)
reads_token project_word ts lets current below top at_start many count m p e f r = done (nest lets current below top after_project many count) m e (read_project (body_begins r))
reads_token project_word ts lets current below top at_unit many count m p e f r = done (nest lets current below top after_project many count) m e (read_project r)
reads_token none_word ts lets current below top after_project many count m p e f r = done (nest lets current below top after_none many count) m e (read_none r)
reads_token (name_token x) ts lets current below top at_start many count m p e f r = unit_named x at_start many count m e (body_begins r)
reads_token (name_token x) ts lets current below top at_unit many count m p e f r = unit_named x at_unit many count m e r
reads_token (name_token x) ts lets current below top after_let many count m p e f r =
    let n = nest lets current below top after_let many count in
    let (name, new, is) = let_moves x n m e in
    done (nest lets (Some x) below top after_name many count) m is (read_let_name x (name, p) (among_not (names_of lets) x new) r)
reads_token (name_token x) ts lets current below top after_project many count m p e f r =
    let (name, room, is) = keep_moves [] x (nest lets current below top after_project many count) m e f in
    done (nest lets current below top (after_kept (with_name x [])) many count) m is (read_kept x (name, p) room r)
reads_token (name_token x) ts lets current below top (unit g) many count m p e f r =
    let (same, few, is) = minus_moves x g (nest lets current below top (unit g) many count) m e in
    done _ m is (rw same (read_minus r))
reads_token (name_token x) ts lets current below top (after_comma names) many count m p e f r =
    let (name, room, is) = keep_moves names x (nest lets current below top (after_comma names) many count) m e f in
    done (nest lets current below top (after_kept (with_name x names)) many count) m is (read_kept_more x (name, p) room r)
reads_token equals ts lets current below top after_name many count m p e f r = done (nest lets current below top at_unit many count) m e (read_equals r)
reads_token semicolon ts lets current below top (unit g) many count m p e f r = let_ends lets current below top g many count m e r
reads_token open_paren ts lets current below top at_start many count m p e f r = group_opens many count m e (body_begins r)
reads_token open_paren ts lets current below top at_unit many count m p e f r = group_opens many count m e r
reads_token open_paren ts lets current below top after_none many count m p e f r = none_opens many count m e r
reads_token open_paren ts lets current below top (after_kept names) many count m p e f r = kept_opens names many count m e r
reads_token close_paren ts lets current below top (unit g) many count m p e f r = frame_closes lets current below top g many count m e r
reads_token comma ts lets current below top (after_kept names) many count m p e f r = done (nest lets current below top (after_comma names) many count) m e (read_comma r)
reads_token t ts lets current below top last many count m p e f r = absurd (cc)

-- a projection that keeps too many names stays
same_many : (k m : Nest) → ◌≡◌ {A = Move} (Ok k) (Ok m) → k.many ≡ true → m.many ≡ true
same_many k m e h = ap (λ n. n.many) (sym (same_nest k m e)) ∙ h

keep_many : (names : List VarName) (x : VarName) (n m : Nest) → keeps names x n ≡ Ok m → n.many ≡ true → m.many ≡ true
keep_many names x n m e h = by (is_name x) (finds_room names x) e
  where
    by : (b a : Bool) →
        ◌≡◌ {A = Move} (if b then Ok (if a then with_last (after_kept (with_name x names)) n else record n { last = after_kept names; many = true }) else Err name_too_long) (Ok m) →
        m.many ≡ true
    by true true e = same_many (with_last (after_kept (with_name x names)) n) m e h
    by true false e = same_many (record n { last = after_kept names; many = true }) m e refl
    by false a e = absurd (cc)

let_many : (lets : List (VarName × ExprTree)) (current : Option VarName) (below : List Frame) (g : ExprTree) (many : Bool) (count : ℕ) (m : Nest) →
    ends_let g lets many count below current ≡ Ok m → many ≡ true → m.many ≡ true
let_many lets (Some x) [] g many count m e h = same_many _ m e h
let_many lets None [] g many count m e h = absurd (cc)
let_many lets current (f ∷ below) g many count m e h = absurd (cc)

close_many : (lets : List (VarName × ExprTree)) (current : Option VarName) (below : List Frame) (g : ExprTree) (many : Bool) (count : ℕ) (m : Nest) →
    leaves g lets current many count below ≡ Ok m → many ≡ true → m.many ≡ true
close_many lets current [] g many count m e h = absurd (cc)
close_many lets current (f ∷ below) g many count m e h = same_many _ m e h

stays_many : (t : Token) (lets : List (VarName × ExprTree)) (current : Option VarName) (below : List Frame) (top : Frame) (last : Last) (many : Bool) (count : ℕ) (m : Nest) →
    move t (nest lets current below top last many count) ≡ Ok m → many ≡ true → m.many ≡ true
stays_many (atom_token a) lets current below top at_start many count m e h = same_many _ m e h
stays_many (atom_token a) lets current below top at_unit many count m e h = same_many _ m e h
stays_many let_word lets current below top at_start many count m e h = same_many _ m e h
stays_many union_word lets current below top (unit g) many count m e h = same_many _ m e h
stays_many join_word lets current below top (unit g) many count m e h = same_many _ m e h
stays_many project_word lets current below top at_start many count m e h = same_many _ m e h
stays_many project_word lets current below top at_unit many count m e h = same_many _ m e h
stays_many none_word lets current below top after_project many count m e h = same_many _ m e h
stays_many (name_token x) lets current below top at_start many count m e h = same_many _ m (named_moves x (nest lets current below top at_start many count) m e).2 h
stays_many (name_token x) lets current below top at_unit many count m e h = same_many _ m (named_moves x (nest lets current below top at_unit many count) m e).2 h
stays_many (name_token x) lets current below top after_let many count m e h = same_many _ m (let_moves x (nest lets current below top after_let many count) m e).2 h
stays_many (name_token x) lets current below top after_project many count m e h = keep_many [] x (nest lets current below top after_project many count) m e h
stays_many (name_token x) lets current below top (unit g) many count m e h = same_many _ m (minus_moves x g (nest lets current below top (unit g) many count) m e).2 h
stays_many (name_token x) lets current below top (after_comma names) many count m e h = keep_many names x (nest lets current below top (after_comma names) many count) m e h
stays_many equals lets current below top after_name many count m e h = same_many _ m e h
stays_many semicolon lets current below top (unit g) many count m e h = let_many lets current below (whole top g) many count m e h
stays_many open_paren lets current below top at_start many count m e h = same_many _ m (open_moves None (nest lets current below top at_start many count) m e).1 h
stays_many open_paren lets current below top at_unit many count m e h = same_many _ m (open_moves None (nest lets current below top at_unit many count) m e).1 h
stays_many open_paren lets current below top after_none many count m e h = same_many _ m (open_moves (Some []) (nest lets current below top after_none many count) m e).1 h
stays_many open_paren lets current below top (after_kept names) many count m e h = same_many _ m (open_moves (Some names) (nest lets current below top (after_kept names) many count) m e).1 h
stays_many close_paren lets current below top (unit g) many count m e h = close_many lets current below (closed top g) many count m e h
stays_many comma lets current below top (after_kept names) many count m e h = same_many _ m e h
stays_many t lets current below top last many count m e h = absurd (cc)

runs_many : (ts : List Token) (n m : Nest) → Runs n ts m → n.many ≡ true → m.many ≡ true
runs_many [] n m e h = ap (λ k. k.many) (sym e) ∙ h
runs_many (t ∷ ts) n m (k, is, run) h = runs_many ts k m run (stays_many t n.lets n.current n.below n.top n.last n.many n.minuses k is h)

few_before : (ts : List Token) (n m : Nest) → Runs n ts m → m.many ≡ false → n.many ≡ false
few_before ts n m run few = by n.many refl
  where
    by : (b : Bool) → n.many ≡ b → n.many ≡ false
    by false e = e
    by true e = let d = runs_many ts n m run e in absurd (cc)

pub reads_tokens : (us ts : List Token) (n m : Nest) → AreProper ts → Runs n ts m → m.many ≡ false → IsRead us n → IsRead (us ++ ts) m
reads_tokens us [] n m p e few r = rw (append-nil us) (subst (IsRead us) e r)
reads_tokens us (t ∷ ts) n m p (k, is, run) few r =
    rw (← append_assoc us (t ∷ []) ts)
    (reads_tokens (us ++ t ∷ []) ts k m p.1 run few (reads_token t us n.lets n.current n.below n.top n.last n.many n.minuses k p.0 is (few_before ts k m run few) r))

pub whole_many : (lets : List (VarName × ExprTree)) (many : Bool) (top : Frame) (below : List Frame) (current : Option VarName) (last : Last) (b : Body) →
    ends_body lets many top below current last ≡ Some b → b.1 ≡ many
whole_many lets many top [] None (unit e) b is = let same : (record { lets = lets; body = whole top e }, many) ≡ b = cc in ap (λ (c : Body). c.1) (sym same)
whole_many lets many top below current last b is = absurd (cc)

-- the signs `minus` are as many as there are differences in what is read
abbrev last_count : Last → ℕ
last_count (unit e) = minuses_in e
last_count l = 0

abbrev frames_count : List Frame → ℕ
frames_count [] = 0
frames_count (f ∷ below) = minuses_of_frame f + frames_count below

abbrev Counted : List (VarName × ExprTree) → List Frame → Frame → Last → ℕ → Type 0
Counted lets below top last count =
    (count ≡ minuses_in_lets lets + (frames_count below + (minuses_of_frame top + last_count last))) × (count ≤ MOST_MINUSES)

abbrev IsCounted : Nest → Type 0
IsCounted n = Counted n.lets n.below n.top n.last n.minuses

same_count : (k m : Nest) → ◌≡◌ {A = Move} (Ok k) (Ok m) → IsCounted k → IsCounted m
same_count k m e c = subst IsCounted (same_nest k m e) c

keep_count : (names : List VarName) (x : VarName) (n m : Nest) → keeps names x n ≡ Ok m → (n.last ≡ after_project) ⊎ (n.last ≡ after_comma names) → IsCounted n → IsCounted m
keep_count names x n m e at c = by (is_name x) (finds_room names x) e
  where
    none : last_count n.last ≡ 0
    none = elim at [ inl is ↦ ap last_count is | inr is ↦ ap last_count is ]

    by : (b a : Bool) →
        ◌≡◌ {A = Move} (if b then Ok (if a then with_last (after_kept (with_name x names)) n else record n { last = after_kept names; many = true }) else Err name_too_long) (Ok m) →
        IsCounted m
    by true true e = same_count (with_last (after_kept (with_name x names)) n) m e (omega (arith, c.0, none), c.1)
    by true false e = same_count (record n { last = after_kept names; many = true }) m e (omega (arith, c.0, none), c.1)
    by false a e = absurd (cc)

let_count : (lets : List (VarName × ExprTree)) (current : Option VarName) (below : List Frame) (top : Frame) (g : ExprTree) (many : Bool) (count : ℕ) (m : Nest) →
    ends_let (whole top g) lets many count below current ≡ Ok m → Counted lets below top (unit g) count → IsCounted m
let_count lets (Some x) [] top g many count m e c = same_count _ m e (omega (arith, c.0, lets_more lets x (whole top g), whole_count top g), c.1)
let_count lets None [] top g many count m e c = absurd (cc)
let_count lets current (f ∷ below) top g many count m e c = absurd (cc)

close_count : (lets : List (VarName × ExprTree)) (current : Option VarName) (below : List Frame) (top : Frame) (g : ExprTree) (many : Bool) (count : ℕ) (m : Nest) →
    leaves (closed top g) lets current many count below ≡ Ok m → Counted lets below top (unit g) count → IsCounted m
close_count lets current [] top g many count m e c = absurd (cc)
close_count lets current (f ∷ below) top g many count m e c = same_count _ m e (omega (arith, c.0, closed_count top g), c.1)

stays_counted : (t : Token) (lets : List (VarName × ExprTree)) (current : Option VarName) (below : List Frame) (top : Frame) (last : Last) (many : Bool) (count : ℕ) (m : Nest) →
    move t (nest lets current below top last many count) ≡ Ok m → Counted lets below top last count → IsCounted m
stays_counted (atom_token a) lets current below top at_start many count m e c = same_count _ m e (omega (arith, c.0), c.1)
stays_counted (atom_token a) lets current below top at_unit many count m e c = same_count _ m e (omega (arith, c.0), c.1)
stays_counted let_word lets current below top at_start many count m e c = same_count _ m e (omega (arith, c.0), c.1)
stays_counted union_word lets current below top (unit g) many count m e c =
    let conj = whole_conj top.units g in
    same_count _ m e (omega (arith, c.0, among_more top.conjs (less top.left conj), less_count top.left conj, conj_count top.units g), c.1)
stays_counted join_word lets current below top (unit g) many count m e c = same_count _ m e (omega (arith, c.0, among_more top.units g), c.1)
stays_counted project_word lets current below top at_start many count m e c = same_count _ m e (omega (arith, c.0), c.1)
stays_counted project_word lets current below top at_unit many count m e c = same_count _ m e (omega (arith, c.0), c.1)
stays_counted none_word lets current below top after_project many count m e c = same_count _ m e (omega (arith, c.0), c.1)
stays_counted (name_token x) lets current below top at_start many count m e c =
    same_count _ m (named_moves x (nest lets current below top at_start many count) m e).2 (omega (arith, c.0), c.1)
stays_counted (name_token x) lets current below top at_unit many count m e c =
    same_count _ m (named_moves x (nest lets current below top at_unit many count) m e).2 (omega (arith, c.0), c.1)
stays_counted (name_token x) lets current below top after_let many count m e c =
    same_count _ m (let_moves x (nest lets current below top after_let many count) m e).2 (omega (arith, c.0), c.1)
stays_counted (name_token x) lets current below top after_project many count m e c = keep_count [] x (nest lets current below top after_project many count) m e (inl refl) c
stays_counted (name_token x) lets current below top (after_comma names) many count m e c =
    keep_count names x (nest lets current below top (after_comma names) many count) m e (inr refl) c
stays_counted (name_token x) lets current below top (unit g) many count m e c =
    let (same, few, is) = minus_moves x g (nest lets current below top (unit g) many count) m e in
    same_count _ m is (omega (arith, c.0, whole_count top g), omega (arith, few))
stays_counted equals lets current below top after_name many count m e c = same_count _ m e (omega (arith, c.0), c.1)
stays_counted semicolon lets current below top (unit g) many count m e c = let_count lets current below top g many count m e c
stays_counted open_paren lets current below top at_start many count m e c =
    same_count _ m (open_moves None (nest lets current below top at_start many count) m e).1 (omega (arith, c.0), c.1)
stays_counted open_paren lets current below top at_unit many count m e c =
    same_count _ m (open_moves None (nest lets current below top at_unit many count) m e).1 (omega (arith, c.0), c.1)
stays_counted open_paren lets current below top after_none many count m e c =
    same_count _ m (open_moves (Some []) (nest lets current below top after_none many count) m e).1 (omega (arith, c.0), c.1)
stays_counted open_paren lets current below top (after_kept names) many count m e c =
    same_count _ m (open_moves (Some names) (nest lets current below top (after_kept names) many count) m e).1 (omega (arith, c.0), c.1)
stays_counted close_paren lets current below top (unit g) many count m e c = close_count lets current below top g many count m e c
stays_counted comma lets current below top (after_kept names) many count m e c = same_count _ m e (omega (arith, c.0), c.1)
stays_counted t lets current below top last many count m e c = absurd (cc)

pub runs_counted : (ts : List Token) (n m : Nest) → Runs n ts m → IsCounted n → IsCounted m
runs_counted [] n m e c = subst IsCounted e c
runs_counted (t ∷ ts) n m (k, is, run) c = runs_counted ts k m run (stays_counted t n.lets n.current n.below n.top n.last n.many n.minuses k is c)

whole_spelled : (ts : List Token) (lets : List (VarName × ExprTree)) (many : Bool) (top : Frame) (below : List Frame) (current : Option VarName) (last : Last) (count : ℕ) (b : Body) →
    ends_body lets many top below current last ≡ Some b → Counted lets below top last count → Read ts lets current below top last → Spells ts b.0
whole_spelled ts lets many top [] None (unit e) count b is c r =
    let same : (record { lets = lets; body = whole top e }, many) ≡ b = cc in
    rw (← same) (read_whole r (omega (arith, c.0, c.1, whole_count top e)))
whole_spelled ts lets many top below current last count b is c r = absurd (cc)

-- what is read of the tokens of a whole query they spell
pub spelled_query : (ts : List Token) (m : Nest) (q : QueryTree) → AreProper ts → Runs outermost ts m → whole_query m ≡ Some (q, false) → Spells ts q
spelled_query ts m q p run is =
    let few : m.many ≡ false = sym (whole_many m.lets m.many m.top m.below m.current m.last (q, false) is) in
    whole_spelled ts m.lets m.many m.top m.below m.current m.last m.minuses (q, false) is (runs_counted ts outermost m run (refl, omega arith))
    (reads_tokens [] ts outermost m p run few read_nothing)
