-- The printed forms of tests, one after another.
use Rattle.std.proofs.Common.{◌≡◌, ℕ, ◌+◌, ◌≤◌, List, [], ◌++◌, length, map, Some, ap, ◌∙◌, arith, if◌then◌else◌}
use Rattle.std.specs.Prelude.{slice_get, nat_lt, codes}
use Rattle.std.specs.Option.{option_map}
use Rattle.std.proofs.lemmas.List.{length-map}
use Rattle.std.proofs.lemmas.Option.{slice_get-map}
use Rattle.spanner_model.specs.declared.tested.Asked.{Asked}
use Rattle.query_printer.specs.PrintedTested.{test_text}
use Rattle.query_printer.proofs.PrintedParts.{texts_from, texts_put, texts_done}

pub test_put : (asked : List Asked) (k : ℕ) (a : Asked) (o b c whole : List ℕ) → slice_get asked k ≡ Some a → b ≡ o ++ (if nat_lt 0 k then codes ", " else []) → c ≡ b ++ test_text a →
    o ++ texts_from (codes ", ") k (map test_text asked) ≡ whole → c ++ texts_from (codes ", ") (k + 1) (map test_text asked) ≡ whole
test_put asked k a o b c whole at given put before =
    texts_put o (codes ", ") (map test_text asked) k (test_text a) b c whole (slice_get-map test_text asked k ∙ ap (option_map test_text) at) given put before

pub tests_done : (asked : List Asked) (k : ℕ) (o whole : List ℕ) → length asked ≤ k → o ++ texts_from (codes ", ") k (map test_text asked) ≡ whole → o ≡ whole
tests_done asked k o whole past is = texts_done o (codes ", ") (map test_text asked) k whole (omega (arith, past, length-map asked test_text)) is
