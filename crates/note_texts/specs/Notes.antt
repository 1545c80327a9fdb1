-- The texts of notes: `note_text`, from the end up.
use Rattle.std.specs.Prelude.{ℕ, List, [], ◌∷◌, ◌++◌, codes}
use Rattle.std.specs.Fmt.{decimal}
use Rattle.std.specs.Str.{IsUtf8}
use Rattle.span_core.specs.declared.TheConstants.{MOST_VARIABLES}
use Rattle.formula_parser.specs.declared.fault.FormulaFault.{FormulaFault}
use Rattle.formula_parser.specs.declared.fault.FormulaFault.TheVariants as formula
use Rattle.functional_check.specs.declared.checking.CheckFault.{CheckFault}
use Rattle.functional_check.specs.declared.checking.CheckFault.TheVariants as sequential
use Rattle.marked_automaton.specs.declared.TheConstants.{MOST_STATES, MOST_WAYS}
use Rattle.marked_automaton.specs.declared.fault.SizeFault.{SizeFault}
use Rattle.marked_automaton.specs.declared.fault.SizeFault.TheVariants as size
use Rattle.query_parser.specs.declared.TheConstants.{MOST_TEXT_BYTES}
use Rattle.query_parser.specs.declared.fault.QueryFault.{QueryFault}
use Rattle.query_parser.specs.declared.fault.QueryFault.TheVariants as query
use Rattle.note_texts.specs.declared.line.NoteLine.{NoteLine}
use Rattle.note_texts.specs.declared.line.NoteLine.TheVariants as made
use Rattle.note_texts.specs.declared.note.FixedNote.{FixedNote}
use Rattle.note_texts.specs.declared.note.FixedNote.TheVariants as fixed
use Rattle.note_texts.specs.declared.note.Note.{Note}
use Rattle.note_texts.specs.declared.note.Note.TheVariants as note

-- a line
abbrev pub line : List ℕ → List ℕ
line text = text ++ 10 ∷ []

-- a text with a number behind it, as a place in a query's text, or a limit
abbrev pub at_place : List ℕ → ℕ → List ℕ
at_place what at = what ++ decimal at

-- a number between two texts
abbrev pub number_between : List ℕ → ℕ → List ℕ → List ℕ
number_between before number after = at_place before number ++ after

-- a variable, between two texts
abbrev pub about : List ℕ → List ℕ → List ℕ → List ℕ
about before name after = before ++ name ++ after

-- an atom's fault
abbrev pub formula_note : FormulaFault → List ℕ
formula_note (formula.Unexpected at) = at_place (codes "query: unexpected at ") at
formula_note (formula.Unclosed at) = at_place (codes "query: not closed at ") at
formula_note (formula.BadEscape at) = at_place (codes "query: bad escape at ") at
formula_note (formula.BadRange at) = at_place (codes "query: bad range at ") at
formula_note (formula.BadRepeat at) = at_place (codes "query: bad repeat at ") at
formula_note (formula.DoubleRepeat at) = at_place (codes "query: repeat after repeat at ") at
formula_note (formula.Anchor at) = at_place (codes "query: anchor at ") at
formula_note (formula.NameTooLong at) = at_place (codes "query: name too long at ") at
formula_note (formula.ReservedName at) = at_place (codes "query: reserved name at ") at
formula_note (formula.TooDeep at) = at_place (codes "query: too deep at ") at
formula_note (formula.NotUtf8 at) = at_place (codes "query: not UTF-8 at ") at
formula_note (formula.UnknownProperty at) = at_place (codes "query: unknown property at ") at
formula_note formula.OutOfMemory = codes "out of memory"

-- a formula that is not sequential
abbrev pub check_note : CheckFault → List ℕ
check_note (sequential.BoundTwice x) = about (codes "query: variable ") x (codes " twice")
check_note (sequential.UnderRepeat x) = about (codes "query: variable ") x (codes " under a repeat")

-- the fault of a query's text
abbrev pub fault_note : QueryFault → List ℕ
fault_note (query.Formula fault) = formula_note fault
fault_note (query.Check fault) = check_note fault
fault_note (query.Unexpected at) = at_place (codes "query: unexpected at ") at
fault_note (query.UnknownName at) = at_place (codes "query: unknown name at ") at
fault_note (query.NameTwice at) = at_place (codes "query: name twice at ") at
fault_note (query.NameTooLong at) = at_place (codes "query: name too long at ") at
fault_note (query.UnknownVariable x) = about (codes "query: no variable ") x (codes " to keep")
fault_note query.TooManyVariables = number_between (codes "query: more than ") MOST_VARIABLES (codes " variables")
fault_note query.TooLong = number_between (codes "query: longer than ") MOST_TEXT_BYTES (codes " bytes")
fault_note (query.TooDeep at) = at_place (codes "query: too deep at ") at
fault_note query.OutOfMemory = codes "out of memory"
fault_note (query.JoinUnsure x) = about (codes "query: variable ") x (codes " not sure on both sides of join")
fault_note (query.UnknownTest at) = at_place (codes "query: unknown test at ") at
fault_note (query.TestVariable x) = about (codes "query: no variable ") x (codes " to test")
fault_note (query.MinusVariables x) = about (codes "query: variable ") x (codes " not on both sides of minus")

-- sizes of automata
abbrev pub states_note : List ℕ
states_note = number_between (codes "size: more than ") MOST_STATES (codes " states")

abbrev pub ways_note : List ℕ
ways_note = number_between (codes "size: more than ") MOST_WAYS (codes " ways")

abbrev pub size_note : SizeFault → List ℕ
size_note (size.States count) = states_note
size_note (size.Ways count) = ways_note
size_note size.OutOfMemory = codes "out of memory"

-- weights past a limit
abbrev pub table_note : ℕ → List ℕ
table_note limit = at_place (codes "size: table past ") limit

abbrev pub filter_note : ℕ → List ℕ
filter_note limit = at_place (codes "size: filter past ") limit

-- a cursor of another document than this one, which has so many bytes
abbrev pub other_document_note : ℕ → ℕ → List ℕ
other_document_note kept found = at_place (codes "cursor: document of ") kept ++ at_place (codes " bytes, not ") found

-- notes that are always the same
abbrev pub fixed_text : FixedNote → List ℕ
fixed_text fixed.End = codes "end"
fixed_text fixed.BadCommandLine = codes "bad command line"
fixed_text fixed.QueryUnread = codes "read failed: query"
fixed_text fixed.DocumentUnread = codes "read failed: document"
fixed_text fixed.RequestsUnread = codes "read failed: requests"
fixed_text fixed.NotACursor = codes "cursor: not a cursor"
fixed_text fixed.OtherVariables = codes "cursor: other variables"
fixed_text fixed.PastTheDocument = codes "cursor: past the document"
fixed_text fixed.TooManyRequests = codes "too many requests"
fixed_text fixed.WriteFailed = codes "write failed"
fixed_text fixed.OutOfMemory = codes "out of memory"

-- each note
abbrev pub note_text : Note → List ℕ
note_text (note.Fixed always) = fixed_text always
note_text (note.More cursor) = codes "more " ++ cursor.now
note_text (note.Query fault) = fault_note fault.now
note_text (note.QueryTooLong most) = number_between (codes "query: longer than ") most (codes " bytes")
note_text (note.DocumentTooLong most) = number_between (codes "document longer than ") most (codes " bytes")
note_text (note.RequestTooLong most) = number_between (codes "request longer than ") most (codes " bytes")
note_text (note.Size fault) = size_note fault.now
note_text (note.OtherDocument kept found) = other_document_note kept found
note_text (note.Table limit) = table_note limit
note_text (note.Filter limit) = filter_note limit

-- what it quotes as it stands is UTF-8
abbrev pub QuotesUtf8 : Note → Type 0
QuotesUtf8 (note.More cursor) = IsUtf8 cursor.now
QuotesUtf8 _ = Unit {0}

-- the bytes of a note's line
abbrev pub note_bytes : NoteLine → List ℕ
note_bytes (made.Fixed always) = line (fixed_text always)
note_bytes (made.Made bytes) = bytes.items
