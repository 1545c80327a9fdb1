-- The rows of the words that are read are the answers.
use Rattle.std.proofs.Common.{◌≡◌, ℕ, ◌+◌, ◌<◌, ◌≤◌, Bool, true, List, [], ◌∷◌, length, Option, Some, None, inl, inr, refl, sym, ◌∙◌, subst, arith}
use Rattle.std.proofs.lemmas.Bool.{cases_lt}
use Rattle.std.proofs.lemmas.List.{length-map}
use Rattle.span_core.specs.declared.span.Span.{Span}
use Rattle.span_core.specs.Block.{block, closing_bit, markers, markers_from, opening_bit}
use Rattle.span_core.specs.Blocks.{IsRowOfBlocks, listed}
use Rattle.span_core.specs.Order.{StandsBefore}
use Rattle.span_core.specs.OrderLaws.{marker_other, same_rows}
use Rattle.span_core.specs.Lists.{Has, IsInOrder}
use Rattle.spanner_model.specs.Captures.{VarName, Mapping, row_of}
use Rattle.spanner_model.specs.Expression.{QueryTree}
use Rattle.spanner_model.specs.Answer.{IsAnswer}
use Rattle.spanner_model.specs.Answers.{AreAnswers, IsAnswerRow}
use Rattle.spanner_model.proofs.Ends.{EndsBy, query_ends}
use Rattle.marked_automaton.specs.Automaton.{Marked}
use Rattle.place_automaton.specs.Words.{IsWordOf}
use Rattle.enumerator.specs.Enumeration.{AreInBlockOrder, AreRowsOf, IsWordOfRow, SpanRow}
use Rattle.one_pass.specs.Places.{AreReadWords, word_through}
use Rattle.one_pass.specs.Words.{Word}
use Rattle.automaton_reading.proofs.Determined.{reading_law}
use Rattle.place_automaton.specs.Atom.{AreBytes}
use Rattle.query_automaton.specs.CompiledQuery.{IsCompiled}
use Rattle.automaton_reading.proofs.Ascending.{has_all}
use Rattle.spanner_engine.specs.Laws.{CompiledAcceptsRows, ReadsAnswers, RowsAfterAreTheRest, RowsAreAnswers, WholeRowsAreAnswers, WordsAreOfRows}
use Rattle.spanner_engine.proofs.WordLaws.{word_ends, word_is_block_list, word_lists}

-- ---- the row of an answer

-- past the end of the document no marker stands
no_markers : (v k n at : ℕ) (s : Option Span) → ((t : Span) → s ≡ Some t → t.end ≤ n) → n < at → markers v k s at ≡ 0
no_markers v k n at None ends past = refl
no_markers v k n at (Some s) ends past =
    let last : s.end ≤ n = ends s refl in
    let first : s.start ≤ s.end = s.ordered in
    omega (arith, marker_other (opening_bit v k) s.start at (λ e. omega (arith, e)), marker_other (closing_bit v k) s.end at (λ e. omega (arith, e)))

none_past : (v k n at : ℕ) (names : List VarName) (m : Mapping) → EndsBy n m → n < at → markers_from v k (row_of names m) at ≡ 0
none_past v k n at [] m ends past = refl
none_past v k n at (x ∷ names) m ends past =
    omega (arith, no_markers v k n at (m x) (λ t e. ends x t e) past, none_past v (k + 1) n at names m ends past)

module _ (q : QueryTree) (A : Marked) (d : List ℕ) where
  -- the word of an answer lists the blocks of its row
  lists_blocks : (m : Mapping) (w : ℕ → ℕ) → IsAnswer q d m → IsWordOf (row_of A.names m) d w → (at : ℕ) →
      block (row_of A.names m) at ≡ listed (word_through w (length d)) at
  lists_blocks m w answer is at = elim (cases_lt (length d) at) [
    | inl past ↦ none_past (length (row_of A.names m)) 0 (length d) at A.names m (query_ends q d m answer) past ∙ sym (word_ends w 0 (length d) at (omega (arith, past)))
    | inr within ↦ sym (is at within) ∙ sym (word_lists w 0 (length d) at (omega arith) (omega (arith, within)))
  ]

  -- so that it is the word of that row
  pub is_row : (m : Mapping) (w : ℕ → ℕ) → IsAnswer q d m → IsWordOf (row_of A.names m) d w →
      IsRowOfBlocks (length A.names) (word_through w (length d)) (row_of A.names m)
  is_row m w answer is = record {
    variables = length-map A.names m;
    blocks_are = lists_blocks m w answer is;
  }

  -- and of no other
  one_row : (m : Mapping) (w : ℕ → ℕ) (row : SpanRow) → IsAnswer q d m → IsWordOf (row_of A.names m) d w →
      IsRowOfBlocks (length A.names) (word_through w (length d)) row → row ≡ row_of A.names m
  one_row m w row answer is of_word =
      same_rows row (row_of A.names m) (of_word.variables ∙ sym (length-map A.names m)) (λ i. of_word.blocks_are i ∙ sym (lists_blocks m w answer is i))

  module _ (K : ℕ → Bool) (reads : ReadsAnswers q A d K) (words : List Word) (read : AreReadWords A.graph K d words) where
    -- a word that is read is that of an answer's row
    record IsOfAnswer (u : Word) : Type 0 where
      m : Mapping
      answer : IsAnswer q d m
      w : ℕ → ℕ
      word : IsWordOf (row_of A.names m) d w
      is : word_through w (length d) ≡ u

    of_answer : (u : Word) → Has words u → IsOfAnswer u
    of_answer u h =
        let r = (read u).0 h in
        let a = (reads r.0).0 r.1 in
        record { m = a.0; answer = a.1; w = r.0; word = a.2; is = r.2 }

    pub word_of_row : (u : Word) → Has words u → IsWordOfRow (length A.names) u
    word_of_row u h =
        let a = of_answer u h in
        subst (IsWordOfRow (length A.names)) a.is (word_is_block_list a.w (length d), (row_of A.names a.m, is_row a.m a.w a.answer a.word))

    answer_row : (u : Word) (row : SpanRow) → Has words u → IsRowOfBlocks (length A.names) u row → IsAnswerRow q d A.names row
    answer_row u row h is =
        let a = of_answer u h in
        (a.m, a.answer, one_row a.m a.w row a.answer a.word (rw a.is is))

    -- each row is that of a word, and each word has its row
    row_word : (ws : List Word) (rows : List SpanRow) → AreRowsOf (length A.names) ws rows → (row : SpanRow) → Has rows row →
        (u : Word) × Has ws u × IsRowOfBlocks (length A.names) u row
    row_word [] [] are row h = absurd h
    row_word [] (r ∷ rows) are row h = absurd are
    row_word (w ∷ ws) [] are row h = absurd h
    row_word (w ∷ ws) (r ∷ rows) are row (inl e) = (w, inl refl, rw (← e) are.0)
    row_word (w ∷ ws) (r ∷ rows) are row (inr h) = let g = row_word ws rows are.1 row h in (g.0, inr g.1, g.2)

    word_row : (ws : List Word) (rows : List SpanRow) → AreRowsOf (length A.names) ws rows → (u : Word) → Has ws u →
        (row : SpanRow) × Has rows row × IsRowOfBlocks (length A.names) u row
    word_row [] [] are u h = absurd h
    word_row [] (r ∷ rows) are u h = absurd h
    word_row (w ∷ ws) [] are u h = absurd are
    word_row (w ∷ ws) (r ∷ rows) are u (inl e) = (r, inl refl, rw (← e) are.0)
    word_row (w ∷ ws) (r ∷ rows) are u (inr h) = let g = word_row ws rows are.1 u h in (g.0, inr g.1, g.2)

    all_there : (rows : List SpanRow) → AreRowsOf (length A.names) words rows → (row : SpanRow) → IsAnswerRow q d A.names row → Has rows row
    all_there rows are row answer =
        let w : ℕ → ℕ = block (row_of A.names answer.0) in
        let word : IsWordOf (row_of A.names answer.0) d w = λ p le. refl in
        let there : Has words (word_through w (length d)) = (read (word_through w (length d))).1 (w, (reads w).1 (answer.0, answer.1, word), refl) in
        let g = word_row words rows are (word_through w (length d)) there in
        subst (Has rows) (one_row answer.0 w g.0 answer.1 word g.2 ∙ sym answer.2) g.1

    pub answers : (rows : List SpanRow) → AreRowsOf (length A.names) words rows → IsInOrder StandsBefore rows → AreAnswers q d A.names rows
    answers rows are in_order = record {
      in_order = in_order;
      each_answers = λ row h. let g = row_word words rows are row h in answer_row g.0 row g.1 g.2;
      all_there = all_there rows are;
    }

-- ---- orders and rests

pub in_order : (rows : List SpanRow) → AreInBlockOrder rows → IsInOrder StandsBefore rows
in_order [] h = tt
in_order (r ∷ rows) h = (has_all (StandsBefore r) rows h.0, in_order rows h.1)

pub rows_after : RowsAfterAreTheRest
rows_after after rows rest h = h

pub words_are_of_rows : WordsAreOfRows
words_are_of_rows q A d K reads words read = word_of_row q A d K reads words read

pub rows_are_answers : RowsAreAnswers
rows_are_answers q A d K reads words read rows are order = answers q A d K reads words read rows are (in_order rows order)

-- ---- a compiled query that reads at all positions

whole_reads : (q : QueryTree) (A : Marked) → IsCompiled q A → (d : List ℕ) → AreBytes d → ReadsAnswers q A d (λ i. true)
whole_reads q A made d bytes w = (
  λ h. (made.words.1 d bytes w).0 ((reading_law A.graph d w).0 h),
  λ h. (reading_law A.graph d w).1 ((made.words.1 d bytes w).1 h),
)

pub compiled_rows : CompiledAcceptsRows
compiled_rows q A made d bytes w accepted =
    let a = (made.words.1 d bytes w).0 accepted in
    (word_is_block_list w (length d), (row_of A.names a.0, is_row q A d a.0 w a.1 a.2))

pub whole_rows : WholeRowsAreAnswers
whole_rows q A made d bytes words read rows are order =
    rows_are_answers q A d (λ i. true) (whole_reads q A made d bytes) words read rows are order
