-- The headline, from the formulas up to the rows of a page: each step is one law.
use Rattle.std.specs.Prelude.{◌≡◌, ℕ, ◌<◌, ◌↔◌, Bool, IsTrue, List, Option, length}
use Rattle.spanner_model.specs.Answers.{AreAnswers, SpanRow}
use Rattle.spanner_model.specs.Expression.{QueryTree}
use Rattle.place_automaton.specs.Atom.{AreBytes}
use Rattle.place_automaton.specs.Words.{AtomRowLaw}
use Rattle.place_automaton.proofs.RowBlocks.{atom_row_law}
use Rattle.query_automaton.specs.Laws.{AcceptsAnswersOf, QueryWords}
use Rattle.query_automaton.proofs.QueryWords.{query_words, words_of_reduct}
use Rattle.one_pass.specs.Places.{AreReadWords}
use Rattle.one_pass.proofs.ReadLaws.{words_listed}
use Rattle.spanner_engine.specs.Laws.{ReadsAnswers}
use Rattle.spanner_engine.specs.Left.{AreLeft}
use Rattle.spanner_engine.proofs.QueryWaiting.{query_reading}
use Rattle.spanner_engine.proofs.RowLaws.{rows_are_answers}
use Rattle.rematch_program.proofs.PassingPages.{passing_page}
use Rattle.whole_program.specs.Headline.{Headline, Stages}

-- 1. the automaton of an atom accepts the words of the rows of what its formula fits, and no others
atoms : AtomRowLaw
atoms = atom_row_law

-- 2. so does that of a query with its answers, operation by operation
queries : QueryWords
queries = query_words

module _ (q : QueryTree) (d : List ℕ) (bytes : AreBytes d) (after : Option SpanRow) (s : Stages q d after) where
  -- 3. what is compiled reduces it, and accepts the same words
  compiled : AcceptsAnswersOf q s.automaton
  compiled = words_of_reduct q s.compiled.sound s.automaton s.compiled.reduces

  -- 4. reading it where the atoms touch the document, or at more positions, finds these words
  reading : ReadsAnswers q s.automaton d s.positions
  reading w = query_reading q s.compiled.sound s.automaton s.marked s.compiled.reduces d bytes s.positions s.touched w

  -- 5. the pass leaves them in the graph, and turning lists them
  listed : AreReadWords s.automaton.graph s.positions d s.words
  listed = words_listed s.automaton.graph s.positions d s.graph s.words s.turned s.read

  -- 6. their rows, in block order, are the answers, since equal words are equal rows
  answers : AreAnswers q d s.automaton.names s.rows
  answers = rows_are_answers q s.automaton d s.positions reading s.words listed s.rows s.of_words s.in_order

  -- 7. those after the cursor's row are left
  left : AreLeft q d s.automaton.names after s.rest
  left = (s.rows, answers, s.behind)

-- 8. of these that pass the first, up to the limit, are the page, and the clause of `run_all` says that its text is written
pub headline : Headline
headline q d bytes after s checks limit more m =
    passing_page checks q d s.automaton.names after limit s.rest more (left q d bytes after s) m
