-- Sets of bytes that the grammar has a word for.
use Rattle.std.specs.Prelude.{ℕ}
use Rattle.std.specs.Ordering.{nat_cmp}
use Rattle.std.specs.FinSet as set
use Rattle.span_core.specs.ByteSets.{bytes_between}

-- a set of bytes
abbrev pub Bytes : Type 0
Bytes = set.FinSet nat_cmp

-- one byte
abbrev pub single : ℕ → Bytes
single b = set.insert set.empty b

-- the bytes that are not in the set
abbrev pub others : Bytes → Bytes
others s = set.difference (bytes_between 0 255) s

-- what the dot stands for: every byte but 0A
abbrev pub all_but_newline : Bytes
all_but_newline = others (single 10)

abbrev pub digits : Bytes
digits = bytes_between 48 57

-- digits, letters and `_`
abbrev pub word_bytes : Bytes
word_bytes = set.union (set.union digits (bytes_between 65 90)) (set.union (single 95) (bytes_between 97 122))

-- 09 to 0D, and the space
abbrev pub spaces : Bytes
spaces = set.union (bytes_between 9 13) (single 32)
