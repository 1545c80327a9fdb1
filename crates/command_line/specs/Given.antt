-- What the words give for each argument.
use Rattle.std.specs.Prelude.{List, Bool, false, Option, codes, bytes_eq, option_map}
use Rattle.std.specs.Option.{option_map_or}
use Rattle.std.specs.Borrow.{Bor}
use Rattle.clap.specs.Words.{Row, Text, first_of}
use Rattle.command_line.specs.declared.given.Given.{Given}

-- the text that was given for an argument
unfoldable pub text_given : Text → List Row → Option Text
text_given id rows = first_of id rows

-- whether a flag was given
abbrev pub is_given : Text → List Row → Bool
is_given id rows = option_map_or (λ t. bytes_eq t (codes "true")) (text_given id rows) false

-- what the words give
pub record GivenTexts : Type 0 where
  pub query : Option Text
  pub query_name : Option Text
  pub limit : Option Text
  pub after : Option Text
  pub form : Option Text
  pub texts : Bool
  pub filter : Bool
  pub max_table : Option Text
  pub explain : Bool
  pub trial : Option Text
  pub document : Option Text

-- what is given by what the command found
abbrev pub given_by : List Row → GivenTexts
given_by rows = record {
  query = text_given (codes "query") rows;
  query_name = text_given (codes "query-name") rows;
  limit = text_given (codes "limit") rows;
  after = text_given (codes "after") rows;
  form = text_given (codes "form") rows;
  texts = is_given (codes "texts") rows;
  filter = is_given (codes "filter") rows;
  max_table = text_given (codes "max-table") rows;
  explain = is_given (codes "explain") rows;
  trial = text_given (codes "trial") rows;
  document = text_given (codes "document") rows;
}

-- a text that is lent
abbrev pub text_behind : Option (Bor Text) → Option Text
text_behind = option_map (λ s. s.now)

-- what the code has of it
abbrev pub given_view : Given → GivenTexts
given_view g = record {
  query = text_behind g.query;
  query_name = text_behind g.query_name;
  limit = text_behind g.limit;
  after = text_behind g.after;
  form = text_behind g.form;
  texts = g.texts;
  filter = g.filter;
  max_table = text_behind g.max_table;
  explain = g.explain;
  trial = text_behind g.trial;
  document = text_behind g.document;
}
