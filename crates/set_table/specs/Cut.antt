-- Ways as numbers that ascend where marks descend and then targets ascend, and what such numbers are cut into.
use Rattle.std.specs.Prelude.{ℕ, ◌+◌, ◌-◌, ◌*◌, ◌/◌, ◌%◌, List, [], ◌∷◌, map, nat_eq, if◌then◌else◌, ◌&&◌}
use Rattle.std.specs.List.{filter}
use Rattle.std.specs.FinSet as bytes
use Rattle.marked_automaton.specs.declared.way.Way.{Way}
use Rattle.marked_automaton.specs.declared.way.Stop.{Stop}
use Rattle.marked_automaton.specs.Automaton.{ways_from}
use Rattle.automaton_reading.specs.Reading.{Reach, is_among}

abbrev pub code : ℕ → ℕ → ℕ
code marks to = (18446744073709551615 - marks) * 4294967296 + to

abbrev pub code_of : Way → ℕ
code_of y = code y.marks y.to

abbrev pub marks_of : ℕ → ℕ
marks_of n = 18446744073709551615 - n / 4294967296

abbrev pub to_of : ℕ → ℕ
to_of n = n % 4294967296

-- the ways of these that take the byte, as numbers
abbrev pub codes_on : ℕ → List Way → List ℕ
codes_on b ways = map code_of (filter (λ y. bytes.contains y.bytes b) ways)

-- those from this state
abbrev pub codes_at : List Way → ℕ → ℕ → List ℕ
codes_at ways b p = codes_on b (ways_from ways p)

-- those from members
abbrev pub codes_among : List ℕ → ℕ → List Way → List ℕ
codes_among members b ways = map code_of (filter (λ y. is_among members y.from && bytes.contains y.bytes b) ways)

abbrev pub marks_code : Stop → ℕ
marks_code x = 18446744073709551615 - x.marks

abbrev pub mark_of : ℕ → ℕ
mark_of n = 18446744073709551615 - n

-- the marks of the ends of members, as numbers
abbrev pub marks_among : List ℕ → List Stop → List ℕ
marks_among members stops = map marks_code (filter (λ (x : Stop). is_among members x.state) stops)

abbrev pub one_reach : ℕ → Reach
one_reach n = record { marks = marks_of n; to = to_of n ∷ [] }

-- a number before what is cut already
abbrev pub join : ℕ → List Reach → List Reach
join n [] = one_reach n ∷ []
join n (e ∷ es) = if nat_eq (marks_of n) e.marks then record { marks = e.marks; to = to_of n ∷ e.to } ∷ es else one_reach n ∷ e ∷ es

-- runs of numbers with the same marks
abbrev pub cut : List ℕ → List Reach
cut [] = []
cut (n ∷ ns) = join n (cut ns)
