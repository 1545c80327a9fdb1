-- What has been read of a query before a place of its text.
use Rattle.std.specs.Prelude.{ℕ, suc, Bool, true, false, List, [], ◌∷◌, ◌++◌, length, Option, Some, None, Result, Ok, Err, nat_lt, if◌then◌else◌}
use Rattle.std.specs.Str.{bytes_eq}
use Rattle.span_core.specs.Names.{is_name}
use Rattle.span_core.specs.NameSets.{with_name}
use Rattle.spanner_model.specs.Captures.{VarName}
use Rattle.spanner_model.specs.Expression.{ExprTree, QueryTree, atom, named, project, minus, union_all, join_all}
use Rattle.query_parser.specs.declared.TheConstants.{MOST_OPEN, MOST_MINUSES}
use Rattle.query_parser.specs.Tokens.{Token, atom_token, let_word, union_word, join_word, project_word, none_word, name_token, equals, semicolon, open_paren, close_paren, comma, minus_word}
use Rattle.query_parser.specs.Spells.{names_of}
use Rattle.query_parser.specs.Reads.{Mark, Reading, Refusal, unexpected, name_too_long, name_twice, unknown_name, too_deep, is_among, finds_room}
use Rattle.query_parser.specs.Reads as mark

-- what an open parenthesis keeps, where it is that of a projection; the conjunctions that are whole, what the last conjunction is to be
-- taken from, and the units before the last one
pub record Frame : Type 0 where
  pub names : Option (List VarName)
  pub conjs : List ExprTree
  pub left : Option ExprTree
  pub units : List ExprTree

-- the last thing read
pub data Last : Type 0 where
  at_start : Last
  after_let : Last
  after_name : Last
  at_unit : Last
  unit : ExprTree → Last
  after_project : Last
  after_none : Last
  after_kept : List VarName → Last
  after_comma : List VarName → Last

-- the lets that are ended, the name of the one that is being read, the innermost frame and those around it from the inside out,
-- the last thing read, whether some projection keeps too many names, and the signs `minus`
pub record Nest : Type 0 where
  pub lets : List (VarName × ExprTree)
  pub current : Option VarName
  pub below : List Frame
  pub top : Frame
  pub last : Last
  pub many : Bool
  pub minuses : ℕ

abbrev pub mark_of : Last → Mark
mark_of at_start = mark.at_start
mark_of after_let = mark.after_let
mark_of after_name = mark.after_name
mark_of at_unit = mark.at_unit
mark_of (unit e) = mark.after_unit
mark_of after_project = mark.after_project
mark_of after_none = mark.after_none
mark_of (after_kept names) = mark.after_kept names
mark_of (after_comma names) = mark.after_comma names

-- the reading, without the trees
abbrev pub reading_of : Nest → Reading
reading_of n = record { names = names_of n.lets; current = n.current; opened = length n.below; mark = mark_of n.last; many = n.many; minuses = n.minuses }

abbrev pub empty_frame : Option (List VarName) → Frame
empty_frame names = record { names = names; conjs = []; left = None; units = [] }

abbrev pub outermost : Nest
outermost = record { lets = []; current = None; below = []; top = empty_frame None; last = at_start; many = false; minuses = 0 }

abbrev pub with_last : Last → Nest → Nest
with_last l n = record n { last = l }

-- the conjunction that ends with this unit
abbrev pub whole_conj : List ExprTree → ExprTree → ExprTree
whole_conj [] e = e
whole_conj (u ∷ us) e = join_all ((u ∷ us) ++ e ∷ [])

-- this conjunction, taken from what stands before it
abbrev pub less : Option ExprTree → ExprTree → ExprTree
less None c = c
less (Some l) c = minus l c

-- the expression that ends with this conjunction
abbrev pub whole_expr : List ExprTree → ExprTree → ExprTree
whole_expr [] c = c
whole_expr (d ∷ ds) c = union_all ((d ∷ ds) ++ c ∷ [])

-- the expression in a frame, where e is its last unit
abbrev pub whole : Frame → ExprTree → ExprTree
whole f e = whole_expr f.conjs (less f.left (whole_conj f.units e))

abbrev pub keeping : Option (List VarName) → ExprTree → ExprTree
keeping None e = e
keeping (Some names) e = project names e

-- what a frame is in the one around it
abbrev pub closed : Frame → ExprTree → ExprTree
closed f e = keeping f.names (whole f e)

abbrev pub next_unit : ExprTree → Nest → Nest
next_unit e n = record n { top = record (n.top) { units = n.top.units ++ e ∷ [] }; last = at_unit }

abbrev pub next_conj : ExprTree → Nest → Nest
next_conj e n =
    record n { top = record (n.top) { conjs = n.top.conjs ++ less n.top.left (whole_conj n.top.units e) ∷ []; left = None; units = [] }; last = at_unit }

-- what follows is taken from what stands in the frame
abbrev pub next_side : ExprTree → Nest → Nest
next_side e n =
    record n { top = record (n.top) { conjs = []; left = Some (whole n.top e); units = [] }; last = at_unit; minuses = suc n.minuses }

abbrev pub opened : Option (List VarName) → Nest → Nest
opened names n = record n { below = n.top ∷ n.below; top = empty_frame names; last = at_unit }

-- the number of a name: k + 1 where it is that of the name k behind the first one, else 0 where it is the first one
abbrev pub number_from : Bool → Option ℕ → Option ℕ
number_from here (Some k) = Some (suc k)
number_from here None = if here then Some 0 else None

-- the number of the last of the names that is x, counted from 0
abbrev pub find : List VarName → VarName → Option ℕ
find [] x = None
find (y ∷ ys) x = number_from (bytes_eq y x) (find ys x)

-- What a token leaves of a nest, or why it may not come next.
abbrev pub Move : Type 0
Move = Result Nest Refusal

abbrev pub opens : Option (List VarName) → Nest → Move
opens names n = if nat_lt (length n.below) MOST_OPEN then Ok (opened names n) else Err too_deep

abbrev pub moves_let : Last → Nest → Move
moves_let at_start n = Ok (with_last after_let n)
moves_let _ n = Err unexpected

abbrev pub moves_union : Last → Nest → Move
moves_union (unit e) n = Ok (next_conj e n)
moves_union _ n = Err unexpected

abbrev pub moves_join : Last → Nest → Move
moves_join (unit e) n = Ok (next_unit e n)
moves_join _ n = Err unexpected

abbrev pub moves_project : Last → Nest → Move
moves_project at_start n = Ok (with_last after_project n)
moves_project at_unit n = Ok (with_last after_project n)
moves_project _ n = Err unexpected

abbrev pub moves_none : Last → Nest → Move
moves_none after_project n = Ok (with_last after_none n)
moves_none _ n = Err unexpected

abbrev pub moves_equals : Last → Nest → Move
moves_equals after_name n = Ok (with_last at_unit n)
moves_equals _ n = Err unexpected

abbrev pub moves_comma : Last → Nest → Move
moves_comma (after_kept names) n = Ok (with_last (after_comma names) n)
moves_comma _ n = Err unexpected

abbrev pub moves_open : Last → Nest → Move
moves_open at_start n = opens None n
moves_open at_unit n = opens None n
moves_open after_none n = opens (Some []) n
moves_open (after_kept names) n = opens (Some names) n
moves_open _ n = Err unexpected

-- the innermost frame is closed with this expression, and those around it are left
abbrev pub leaves : ExprTree → List (VarName × ExprTree) → Option VarName → Bool → ℕ → List Frame → Move
leaves e lets current many minuses [] = Err unexpected
leaves e lets current many minuses (outer ∷ below) =
    Ok (record { lets = lets; current = current; below = below; top = outer; last = unit e; many = many; minuses = minuses })

abbrev pub moves_close : Last → Nest → Move
moves_close (unit e) n = leaves (closed n.top e) n.lets n.current n.many n.minuses n.below
moves_close _ n = Err unexpected

-- the let of this expression is ended
abbrev pub ends_let : ExprTree → List (VarName × ExprTree) → Bool → ℕ → List Frame → Option VarName → Move
ends_let e lets many minuses [] (Some x) =
    Ok (record { lets = lets ++ (x, e) ∷ []; current = None; below = []; top = empty_frame None; last = at_start; many = many; minuses = minuses })
ends_let e lets many minuses _ _ = Err unexpected

abbrev pub moves_semicolon : Last → Nest → Move
moves_semicolon (unit e) n = ends_let (whole n.top e) n.lets n.many n.minuses n.below n.current
moves_semicolon _ n = Err unexpected

-- a name where one may stand: m has what it means there
abbrev pub reads_name : VarName → Move → Move
reads_name x m = if is_name x then m else Err name_too_long

abbrev pub begins_let : VarName → Nest → Move
begins_let x n = reads_name x (if is_among (names_of n.lets) x then Err name_twice else Ok (record n { current = Some x; last = after_name }))

abbrev pub speaks_of : Option ℕ → Nest → Move
speaks_of None n = Err unknown_name
speaks_of (Some k) n = Ok (with_last (unit (named k)) n)

abbrev pub keeps : List VarName → VarName → Nest → Move
keeps names x n =
    reads_name x (Ok (if finds_room names x then with_last (after_kept (with_name x names)) n else record n { last = after_kept names; many = true }))

-- the sign `minus`
abbrev pub subtracts : VarName → ExprTree → Nest → Move
subtracts x e n =
    if bytes_eq x minus_word then (if nat_lt n.minuses MOST_MINUSES then Ok (next_side e n) else Err too_deep) else Err unexpected

abbrev pub moves_minus : VarName → Last → Nest → Move
moves_minus x (unit e) n = subtracts x e n
moves_minus x _ n = Err unexpected

abbrev pub moves_name : VarName → Last → Nest → Move
moves_name x at_start n = reads_name x (speaks_of (find (names_of n.lets) x) n)
moves_name x after_let n = begins_let x n
moves_name x at_unit n = reads_name x (speaks_of (find (names_of n.lets) x) n)
moves_name x after_project n = keeps [] x n
moves_name x (after_comma names) n = keeps names x n
moves_name x l n = moves_minus x l n

-- a unit is due
abbrev pub wants_unit : Last → Bool
wants_unit at_start = true
wants_unit at_unit = true
wants_unit _ = false

abbrev pub with_unit : ExprTree → Nest → Nest
with_unit e n = with_last (unit e) n

abbrev pub move : Token → Nest → Move
move (atom_token a) n = if wants_unit n.last then Ok (with_unit (atom a) n) else Err unexpected
move let_word n = moves_let n.last n
move union_word n = moves_union n.last n
move join_word n = moves_join n.last n
move project_word n = moves_project n.last n
move none_word n = moves_none n.last n
move (name_token x) n = moves_name x n.last n
move equals n = moves_equals n.last n
move semicolon n = moves_semicolon n.last n
move open_paren n = moves_open n.last n
move close_paren n = moves_close n.last n
move comma n = moves_comma n.last n

-- the query that ends here, and whether some projection keeps too many names
abbrev pub Body : Type 0
Body = QueryTree × Bool

abbrev pub ends_body : List (VarName × ExprTree) → Bool → Frame → List Frame → Option VarName → Last → Option Body
ends_body lets many top [] None (unit e) = Some (record { lets = lets; body = whole top e }, many)
ends_body lets many top _ _ _ = None

abbrev pub whole_query : Nest → Option Body
whole_query n = ends_body n.lets n.many n.top n.below n.current n.last
