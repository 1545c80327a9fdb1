-- What a token makes of a reading does not depend on the trees.
use Rattle.std.proofs.Common.{◌≡◌, ℕ, suc, ◌||◌, Bool, true, false, nat_lt, List, [], ◌∷◌, ◌++◌, length, Option, Some, None, Result, Ok, Err, ap, refl, ◌∙◌, if◌then◌else◌}
use Rattle.std.specs.Option.{is_some}
use Rattle.std.specs.Str.{bytes_eq}
use Rattle.span_core.specs.Names.{is_name}
use Rattle.span_core.specs.NameSets.{with_name}
use Rattle.spanner_model.specs.Captures.{VarName}
use Rattle.spanner_model.specs.Expression.{ExprTree}
use Rattle.query_parser.specs.declared.TheConstants.{MOST_OPEN, MOST_MINUSES}
use Rattle.query_parser.specs.Tokens.{Token, atom_token, let_word, union_word, join_word, project_word, none_word, name_token, equals, semicolon, open_paren, close_paren, comma, minus_word}
use Rattle.query_parser.specs.Spells.{names_of}
use Rattle.query_parser.specs.Reads.{Reading, Refusal, unexpected, name_too_long, name_twice, unknown_name, too_deep, is_among, finds_room, next, marked}
use Rattle.query_parser.specs.Reads as mark
use Rattle.query_parser.specs.Nest.{Frame, Last, at_start, after_let, after_name, at_unit, unit, after_project, after_none, after_kept, after_comma, Nest, Move, mark_of, reading_of, find, number_from, move, opens, speaks_of, reads_name, opened, with_last, next_side, subtracts}

-- the reading that a move leaves
abbrev pub seen : Move → Result Reading Refusal
seen (Ok n) = Ok (reading_of n)
seen (Err why) = Err why

pub seen_if : (b : Bool) (m k : Move) → seen (if b then m else k) ≡ (if b then seen m else seen k)
seen_if true m k = refl
seen_if false m k = refl

reading_if : (b : Bool) (n m : Nest) → reading_of (if b then n else m) ≡ (if b then reading_of n else reading_of m)
reading_if true n m = refl
reading_if false n m = refl

-- a name is among those that have a number
pub found_among : (names : List VarName) (x : VarName) → is_some (find names x) ≡ is_among names x
found_among [] x = refl
found_among (y ∷ ys) x = by (bytes_eq y x) (find ys x) ∙ ap (λ b. bytes_eq y x || b) (found_among ys x)
  where
    by : (here : Bool) (found : Option ℕ) → is_some (number_from here found) ≡ (here || is_some found)
    by true None = refl
    by true (Some k) = refl
    by false None = refl
    by false (Some k) = refl

minus_seen : (x : VarName) (e : ExprTree) (n : Nest) →
    seen (subtracts x e n)
    ≡ (if bytes_eq x minus_word then (if nat_lt n.minuses MOST_MINUSES then Ok (record (reading_of n) { minuses = suc n.minuses; mark = mark.at_unit }) else Err too_deep) else Err unexpected)
minus_seen x e n =
    let taken : Move = if nat_lt n.minuses MOST_MINUSES then Ok (next_side e n) else Err too_deep in
    seen_if (bytes_eq x minus_word) taken (Err unexpected)
    ∙ ap (λ r. if bytes_eq x minus_word then r else Err unexpected) (seen_if (nat_lt n.minuses MOST_MINUSES) (Ok (next_side e n)) (Err too_deep))

pub make : List (VarName × ExprTree) → Option VarName → List Frame → Frame → Last → Bool → ℕ → Nest
make lets current below top last many minuses =
    record { lets = lets; current = current; below = below; top = top; last = last; many = many; minuses = minuses }

-- a name as a unit
abbrev named_next : Bool → Reading → Result Reading Refusal
named_next b r = if b then Ok (marked mark.after_unit r) else Err unknown_name

speaks_seen : (found : Option ℕ) (n : Nest) → seen (speaks_of found n) ≡ named_next (is_some found) (reading_of n)
speaks_seen None n = refl
speaks_seen (Some k) n = refl

unit_seen : (x : VarName) (n : Nest) →
    seen (reads_name x (speaks_of (find (names_of n.lets) x) n)) ≡ (if is_name x then named_next (is_among (names_of n.lets) x) (reading_of n) else Err name_too_long)
unit_seen x n =
    seen_if (is_name x) (speaks_of (find (names_of n.lets) x) n) (Err name_too_long)
    ∙ ap (λ r. if is_name x then r else Err name_too_long)
    (speaks_seen (find (names_of n.lets) x) n ∙ ap (λ b. named_next b (reading_of n)) (found_among (names_of n.lets) x))

keep_seen : (names : List VarName) (x : VarName) (n : Nest) →
    seen (reads_name x (Ok (if finds_room names x then with_last (after_kept (with_name x names)) n else record n { last = after_kept names; many = true })))
    ≡ (if is_name x then Ok (if finds_room names x then marked (mark.after_kept (with_name x names)) (reading_of n) else record (reading_of n)
    { mark = mark.after_kept names; many = true }) else Err name_too_long)
keep_seen names x n =
    seen_if (is_name x) (Ok (if finds_room names x then with_last (after_kept (with_name x names)) n else record n { last = after_kept names; many = true })) (Err name_too_long)
    ∙ ap (λ r. if is_name x then Ok r else Err name_too_long)
    (reading_if (finds_room names x) (with_last (after_kept (with_name x names)) n) (record n { last = after_kept names; many = true }))

open_seen : (names : Option (List VarName)) (n : Nest) →
    seen (opens names n) ≡ (if nat_lt (length n.below) MOST_OPEN then Ok (record (reading_of n) { opened = suc (length n.below); mark = mark.at_unit }) else Err too_deep)
open_seen names n = seen_if (nat_lt (length n.below) MOST_OPEN) (Ok (opened names n)) (Err too_deep)

pub names_more : (lets : List (VarName × ExprTree)) (x : VarName) (e : ExprTree) → names_of (lets ++ (x, e) ∷ []) ≡ names_of lets ++ x ∷ []
names_more [] x e = refl
names_more (l ∷ lets) x e = ap (λ xs. l.0 ∷ xs) (names_more lets x e)

pub shape_at : (t : Token) (lets : List (VarName × ExprTree)) (current : Option VarName) (below : List Frame) (top : Frame) (last : Last) (many : Bool) (minuses : ℕ) →
    seen (move t (make lets current below top last many minuses)) ≡ next (mark_of last) (reading_of (make lets current below top last many minuses)) t
unfolding make
shape_at let_word lets current below top at_start many minuses = refl
shape_at union_word lets current below top (unit e) many minuses = refl
shape_at join_word lets current below top (unit e) many minuses = refl
shape_at project_word lets current below top at_start many minuses = refl
shape_at none_word lets current below top after_project many minuses = refl
shape_at equals lets current below top after_name many minuses = refl
shape_at comma lets current below top (after_kept keep) many minuses = refl
shape_at (atom_token a) lets current below top at_start many minuses = refl
shape_at (atom_token a) lets current below top at_unit many minuses = refl
shape_at (name_token x) lets current below top at_start many minuses = unit_seen x (make lets current below top at_start many minuses)
shape_at (name_token x) lets current below top at_unit many minuses = unit_seen x (make lets current below top at_unit many minuses)
shape_at (name_token x) lets current below top after_let many minuses =
    let n = make lets current below top after_let many minuses in
    let twice : Move = if is_among (names_of lets) x then Err name_twice else Ok (record n { current = Some x; last = after_name }) in
    seen_if (is_name x) twice (Err name_too_long)
    ∙ ap (λ r. if is_name x then r else Err name_too_long) (seen_if (is_among (names_of lets) x) (Err name_twice) (Ok (record n { current = Some x; last = after_name })))
shape_at (name_token x) lets current below top after_project many minuses = keep_seen [] x (make lets current below top after_project many minuses)
shape_at (name_token x) lets current below top (after_comma keep) many minuses = keep_seen keep x (make lets current below top (after_comma keep) many minuses)
shape_at (name_token x) lets current below top (unit e) many minuses = minus_seen x e (make lets current below top (unit e) many minuses)
shape_at open_paren lets current below top at_start many minuses = open_seen None (make lets current below top at_start many minuses)
shape_at open_paren lets current below top at_unit many minuses = open_seen None (make lets current below top at_unit many minuses)
shape_at open_paren lets current below top after_none many minuses = open_seen (Some []) (make lets current below top after_none many minuses)
shape_at open_paren lets current below top (after_kept keep) many minuses = open_seen (Some keep) (make lets current below top (after_kept keep) many minuses)
shape_at close_paren lets current [] top (unit e) many minuses = refl
shape_at close_paren lets current (f ∷ below) top (unit e) many minuses = refl
shape_at semicolon lets (Some x) [] top (unit e) many minuses =
    ap (λ names. Ok (record { names = names; current = None; opened = 0; mark = mark.at_start; many = many; minuses = minuses })) (names_more lets x _)
shape_at semicolon lets None [] top (unit e) many minuses = refl
shape_at semicolon lets current (f ∷ below) top (unit e) many minuses = refl
shape_at t lets current below top last many minuses = refl

-- the reading after a move is what comes next of the reading before it
pub shape : (t : Token) (n : Nest) → seen (move t n) ≡ next (mark_of n.last) (reading_of n) t
unfolding make
shape t n = shape_at t n.lets n.current n.below n.top n.last n.many n.minuses

pub names_len : (lets : List (VarName × ExprTree)) → length (names_of lets) ≡ length lets
names_len [] = refl
names_len (l ∷ lets) = ap suc (names_len lets)
