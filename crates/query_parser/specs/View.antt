-- What the code's own types stand for.
use Rattle.std.specs.Prelude.{ℕ, List, map, reverse}
use Rattle.std.specs.Option.{option_map}
use Rattle.spanner_model.specs.Captures.{VarName}
use Rattle.spanner_model.specs.ExprView.{expr_of, exprs_of, lets_of}
use Rattle.query_parser.specs.declared.tokens.Word.{Word}
use Rattle.query_parser.specs.declared.tokens.Word.TheVariants as code_word
use Rattle.query_parser.specs.declared.tokens.Sign.{Sign}
use Rattle.query_parser.specs.declared.tokens.Sign.TheVariants as code_sign
use Rattle.query_parser.specs.declared.nest.Frame.{Frame as CodeFrame}
use Rattle.query_parser.specs.declared.nest.Last.{Last as CodeLast}
use Rattle.query_parser.specs.declared.nest.Last.TheVariants as code_last
use Rattle.query_parser.specs.declared.nest.Nest.{Nest as CodeNest}
use Rattle.query_parser.specs.Tokens.{Token, let_word, union_word, join_word, project_word, none_word, name_token, equals, semicolon, open_paren, close_paren, comma}
use Rattle.query_parser.specs.Nest.{Frame, Last, at_start, after_let, after_name, at_unit, unit, after_project, after_none, after_kept, after_comma, Nest}

-- the token of a word of this kind
abbrev pub word_of : Word → List ℕ → Token
word_of code_word.Let x = let_word
word_of code_word.Union x = union_word
word_of code_word.Join x = join_word
word_of code_word.Project x = project_word
word_of code_word.None x = none_word
word_of code_word.Name x = name_token x

abbrev pub sign_of : Sign → Token
sign_of code_sign.Equals = equals
sign_of code_sign.Semicolon = semicolon
sign_of code_sign.Open = open_paren
sign_of code_sign.Close = close_paren
sign_of code_sign.Comma = comma

abbrev pub frame_of : CodeFrame → Frame
frame_of f = record { names = f.names; conjs = exprs_of f.conjs; left = option_map expr_of f.left; units = exprs_of f.units }

-- the last thing read, where a projection keeps these names
abbrev pub last_of : List VarName → CodeLast → Last
last_of names code_last.Start = at_start
last_of names code_last.Let = after_let
last_of names code_last.LetName = after_name
last_of names code_last.Before = at_unit
last_of names (code_last.Unit e) = unit (expr_of e)
last_of names code_last.Project = after_project
last_of names code_last.KeepNone = after_none
last_of names code_last.Kept = after_kept names
last_of names code_last.Comma = after_comma names

-- the code's list has the innermost frame last
abbrev pub nest_of : CodeNest → Nest
nest_of n = record {
  lets = lets_of n.named.lets;
  current = n.current;
  below = map frame_of (reverse n.below.items);
  top = frame_of n.top;
  last = last_of n.names n.last;
  many = n.many;
  minuses = n.minuses;
}
