-- Queries of functional formulas are served as before.
use Rattle.std.proofs.Common.{◌≡◌, ℕ, ◌++◌, ◌∙◌, List, [], ◌∷◌, Some, refl, ap, arith, codes, suc, zero, inl, inr}
use Rattle.std.specs.Fmt.{decimal}
use Rattle.std.specs.List.{All}
use Rattle.std.specs.Option.{IsSome}
use Rattle.span_core.specs.declared.span.Span.{Span}
use Rattle.span_core.specs.Lists.{Has}
use Rattle.spanner_model.specs.Captures.{VarName, Mapping, row_of}
use Rattle.spanner_model.specs.Expression.{AtomTree, QueryTree}
use Rattle.spanner_model.specs.Answers.{SpanRow, AreAnswers, AreResultNames}
use Rattle.spanner_model.specs.Functional.{IsFunctional, IsFunctionalQuery}
use Rattle.spanner_model.specs.WellBuilt.{IsWellBuilt}
use Rattle.spanner_model.proofs.AnswerLaws.{query_given}
use Rattle.spanner_model.proofs.FunctionalLaws.{query_sound, query_sure, query_answers}
use Rattle.place_automaton.specs.Counts.{count_ways}
use Rattle.place_automaton.specs.PlainCounts.{plain_states}
use Rattle.place_automaton.proofs.BuiltRepeats.{ordered_repeats}
use Rattle.place_automaton.proofs.PlainCountLaws.{functional_counts}
use Rattle.rematch_program.specs.AsBefore.{AreTotalAnswers, FunctionalQueriesAreServedAsBefore, plain_atom_line}
use Rattle.rematch_program.specs.Explained.{atom_line, shown_number}
use Rattle.note_texts.specs.Notes.{line}

module _ (q : QueryTree) (d : List ℕ) (names : List VarName) (rows : List SpanRow) (f : IsFunctionalQuery q) where
  now_answers : AreTotalAnswers q d names rows → AreAnswers q d names rows
  now_answers a = record {
    in_order = a.in_order;
    each_answers = λ row has. let (m, answer, is) = a.each_answers row has in (m, (query_answers q d m f).0 answer, is);
    all_there = λ row answer. let (m, now, is) = answer in rw is (a.all_there m ((query_answers q d m f).1 now));
  }

  answered_before : AreAnswers q d names rows → AreTotalAnswers q d names rows
  answered_before a = record {
    in_order = a.in_order;
    each_answers = λ row has. let (m, answer, is) = a.each_answers row has in (m, (query_answers q d m f).1 answer, is);
    all_there = λ m answer. a.all_there (row_of names m) (m, (query_answers q d m f).0 answer, refl);
  }

given_row : (names : List VarName) (m : Mapping) → ((x : VarName) → Has names x → (s : Span) × (m x ≡ Some s)) → All IsSome (row_of names m)
given_row [] m given k o l = absurd (omega arith)
given_row (x ∷ names) m given zero o l = let g = given x (inl refl) in rw g.1 refl
given_row (x ∷ names) m given (suc k) o l = given_row names m (λ y h. given y (inr h)) k o (omega (arith, l))

no_absent : (q : QueryTree) (d : List ℕ) (names : List VarName) (rows : List SpanRow) → IsFunctionalQuery q → AreResultNames q names → AreAnswers q d names rows →
    (row : SpanRow) → Has rows row → All IsSome row
no_absent q d names rows f are a row has =
    let (m, answer, is) = a.each_answers row has in
    rw is (given_row names m (λ x h. query_given q d m answer x (query_sure q f x ((are.1 x).0 h))))

abbrev line_of : ℕ → ℕ → ℕ → List ℕ
line_of k states ways = line (codes "atom " ++ decimal k ++ codes " states " ++ shown_number states ++ codes " ways " ++ shown_number ways)

same_line : (k : ℕ) (a : AtomTree) → IsFunctional a.formula → IsWellBuilt a.formula → atom_line k a ≡ plain_atom_line k a
same_line k a f built =
    let (states, ways) = functional_counts a f (ordered_repeats a.formula built) in
    ap (λ n. line_of k n (count_ways a)) states ∙ ap (λ n. line_of k (plain_states a) n) ways

pub as_before : FunctionalQueriesAreServedAsBefore
as_before = record {
  sound = query_sound;
  same_rows = λ q d names rows f. (now_answers q d names rows f, answered_before q d names rows f);
  none_absent = no_absent;
  same_numbers = same_line;
}
