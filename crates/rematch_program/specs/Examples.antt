-- Worked examples: notes, and sizes.
use Rattle.std.specs.Prelude.{◌≡◌, codes}
use Rattle.spanner_model.specs.Expression.{QueryTree}
use Rattle.spanner_model.specs.Examples.{free, query}
use Rattle.place_automaton.specs.Examples.{many_a, many_optional}
use Rattle.query_automaton.specs.Parts.{AtomsAreSmall}
use Rattle.note_texts.specs.Notes.{filter_note, table_note}

-- /(a{1000}){20}/ and /((a?){1000}){3}/
abbrev pub large_by_states : QueryTree
large_by_states = query (free many_a)

abbrev pub large_by_ways : QueryTree
large_by_ways = query (free many_optional)

abbrev pub NoteExamples : Type 0
NoteExamples = (table_note 100 ≡ codes "size: table past 100") × (filter_note 1 ≡ codes "size: filter past 1")

-- each of the two atoms passes a limit, so that neither query may be gone on with
abbrev pub SizeExamples : Type 0
SizeExamples = ¬ AtomsAreSmall large_by_states × ¬ AtomsAreSmall large_by_ways
