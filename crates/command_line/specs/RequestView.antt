-- What words ask for, by the program's own checks on what the command found.
use Rattle.std.specs.Prelude.{ℕ, ◌&&◌, ◌==◌, ◌^◌, Bool, true, false, not, List, Option, None, Some, codes, length, bytes_eq, nat_le, nat_lt, unwrap_or, option_map, option_and_then, is_none, if◌then◌else◌}
use Rattle.std.specs.List.{list_all}
use Rattle.std.specs.Char.{digit_value}
use Rattle.std.specs.Str.Parse.{digits_value, without_leading_plus}
use Rattle.clap.specs.Words.{Text}
use Rattle.command_line.specs.Command.{found, refusals}
use Rattle.command_line.specs.Given.{GivenTexts, given_by, text_behind}
use Rattle.command_line.specs.declared.request.Form.{Form}
use Rattle.command_line.specs.declared.request.Form.TheVariants as form
use Rattle.command_line.specs.declared.TheConstants.{DEFAULT_MAX_TABLE, MOST_MAX_TABLE, MOST_TRIAL_LINES}
use Rattle.command_line.specs.declared.request.Mode.{Mode}
use Rattle.command_line.specs.declared.request.Mode.TheVariants as mode
use Rattle.command_line.specs.declared.request.QuerySource.{QuerySource}
use Rattle.command_line.specs.declared.request.QuerySource.TheVariants as source
use Rattle.command_line.specs.declared.request.Request.{Request}

-- the query's text itself, or the name under which it is held
pub data Query : Type 0 where
  Itself : Text → Query
  HeldBy : Text → Query

-- what the words ask for
pub record RequestView : Type 0 where
  pub query : Query
  pub document : Text
  pub limit : Option ℕ
  pub after : Option Text
  pub form : Form
  pub texts : Bool
  pub filter : Bool
  pub max_table : ℕ
  pub mode : Mode

-- exactly one of the two is given
abbrev pub query_of : Option Text → Option Text → Option Query
query_of (Some text) None = Some (Itself text)
query_of None (Some name) = Some (HeldBy name)
query_of (Some text) (Some name) = None
query_of None None = None

-- some digits, of a number of 64 bits
abbrev pub is_number : Text → Bool
is_number digits = nat_lt 0 (length digits) && list_all (λ d. nat_lt (digit_value d) 10) digits && nat_lt (digits_value 10 digits) (2 ^ 64)

-- a number as Rust reads an unsigned one of 64 bits: a plus may stand before it, and zeros
unfoldable pub number_of : Text → Option ℕ
number_of text =
    let digits = without_leading_plus text in
    if is_number digits then Some (digits_value 10 digits) else None

-- a number, where one is given
abbrev pub limit_of : Option Text → Option (Option ℕ)
limit_of None = Some None
limit_of (Some text) = option_map Some (number_of text)

-- the form of this name
abbrev pub form_named : Text → Option Form
form_named name =
    if bytes_eq name (codes "spans") then Some form.Spans
    else (if bytes_eq name (codes "table") then Some form.Table
    else (if bytes_eq name (codes "json") then Some form.Json else None))

-- the form, that of spans where none is given
abbrev pub form_of : Option Text → Option Form
form_of None = Some form.Spans
form_of (Some name) = form_named name

-- a weight from 1 to the most
abbrev pub weight_in_range : ℕ → Option ℕ
weight_in_range w = if nat_lt 0 w && nat_le w MOST_MAX_TABLE then Some w else None

-- the most that a table may weigh
abbrev pub max_table_of : Option Text → Option ℕ
max_table_of None = Some DEFAULT_MAX_TABLE
max_table_of (Some text) = option_and_then weight_in_range (number_of text)

-- a trial of so many lines
abbrev pub trial_in_range : ℕ → Option Mode
trial_in_range lines = if nat_le lines MOST_TRIAL_LINES then Some (mode.Trial lines) else None

-- by `--explain` and `--trial`, which are not given together
abbrev pub mode_of : Bool → Option Text → Option Mode
mode_of false None = Some mode.Plain
mode_of true None = Some mode.Explain
mode_of false (Some lines) = option_and_then trial_in_range (number_of lines)
mode_of true (Some lines) = None

-- none of `-n`, `-a`, `-f`, `-t` and DOC is given
abbrev pub has_no_page : GivenTexts → Bool
has_no_page g = is_none g.limit && is_none g.after && is_none g.form && not g.texts && is_none g.document

-- the document's name, standard input where none is given
abbrev pub document_of : Option Text → Text
document_of name = unwrap_or name (codes "-")

-- the text of the cursor, none where the word for the place before all rows is given
abbrev pub cursor_of : Option Text → Option Text
cursor_of None = None
cursor_of (Some text) = if bytes_eq text (codes "start") then None else Some text

-- standard input stands for both
abbrev pub names_input_twice : Query → Text → Bool
names_input_twice (Itself _) document = false
names_input_twice (HeldBy name) document = bytes_eq name (codes "-") && bytes_eq document (codes "-")

-- what a mode does not go with: the plain one a query and a document that are both standard input, the others
-- what is said of a page and of a document
abbrev pub goes_with : Mode → Query → GivenTexts → Bool
goes_with mode.Plain query g = not (names_input_twice query (document_of g.document))
goes_with mode.Explain query g = has_no_page g
goes_with (mode.Trial lines) query g = has_no_page g

-- what is asked for by what was given, where each check passes
unfoldable pub requested_by : GivenTexts → Option RequestView
requested_by g =
    option_and_then (λ query.
    option_and_then (λ limit.
    option_and_then (λ form.
    option_and_then (λ weight.
    option_and_then (λ mode.
    if not (goes_with mode query g) then None else Some (record {
      query = query;
      document = document_of g.document;
      limit = limit;
      after = cursor_of g.after;
      form = form;
      texts = g.texts;
      filter = g.filter;
      max_table = weight;
      mode = mode;
    }))
    (mode_of g.explain g.trial))
    (max_table_of g.max_table))
    (form_of g.form))
    (limit_of g.limit))
    (query_of g.query g.query_name)

-- what the words ask for, where they are accepted
unfoldable pub requested : List Text → Option RequestView
requested words = if length (refusals words) == 0 then requested_by (given_by (found words)) else None

-- the query as contracts see it
abbrev pub query_view : QuerySource → Query
query_view (source.Given text) = Itself text.now
query_view (source.Named name) = HeldBy name.now

-- a request as contracts see it
abbrev pub request_view : Request → RequestView
request_view r = record {
  query = query_view r.query;
  document = r.document.now;
  limit = r.limit;
  after = text_behind r.after;
  form = r.form;
  texts = r.texts;
  filter = r.filter;
  max_table = r.max_table;
  mode = r.mode;
}
