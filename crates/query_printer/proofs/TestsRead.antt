-- The printed form of a query with tests is a text of it.
use Rattle.std.proofs.Common.{◌≡◌, ℕ, List, [], ◌∷◌, ◌++◌, map, ap, sym, refl, subst, ◌∙◌, append_assoc, inl, inr}
use Rattle.std.specs.Prelude.{codes}
use Rattle.std.proofs.lemmas.List.{append-nil}
use Rattle.span_core.specs.Lists.{Has}
use Rattle.spanner_model.specs.Captures.{VarName}
use Rattle.spanner_model.specs.Answer.{IsResultVar}
use Rattle.spanner_model.specs.Sound.{IsFreeName}
use Rattle.spanner_model.specs.declared.tested.Asked.{Asked}
use Rattle.query_parser.specs.Tokens.{Token, name_token, open_paren, close_paren, comma}
use Rattle.query_parser.specs.Spells.{Spells}
use Rattle.query_parser.specs.Tested.{asked_of, where_word, Placed, HasPlaced, SpellsTest, one_test, SpellsTests, first_test, more_tests, SpellsWhere, no_test, tests_follow, SpellsTested}
use Rattle.spanner_model.specs.Tested.{TestedTree}
use Rattle.query_parser.proofs.TestMoves.{tokens_of, tokens_placed}
use Rattle.query_printer.specs.PrintedQuery.{further, query_text}
use Rattle.query_printer.specs.PrintedTested.{test_text, tests_text, tested_text, asks, AreFreeTests, IsPrintable, TestedAreRead}
use Rattle.query_printer.proofs.PrintedTokens.{LexedAlways, Lexes, lexed_both, lexed_name, lexed_sign, lexed_comma, lexed_where, lexed_whole}
use Rattle.query_printer.proofs.PrintedQueries.{nothing_lexed, query_lexes}

-- ---- the tokens of tests

abbrev test_tokens : Asked → List Token
test_tokens a = name_token a.test ∷ open_paren ∷ name_token a.var ∷ close_paren ∷ []

abbrev further_tokens : List Asked → List Token
further_tokens [] = []
further_tokens (a ∷ asked) = comma ∷ (test_tokens a ++ further_tokens asked)

test_lexed : (a : Asked) → IsFreeName a.test × IsFreeName a.var → LexedAlways (test_text a) (test_tokens a)
test_lexed a free after =
    lexed_both a.test (codes "(" ++ (a.var ++ codes ")")) (name_token a.test ∷ []) (open_paren ∷ name_token a.var ∷ close_paren ∷ []) after (lexed_name a.test _ free.0 refl)
    (lexed_both (codes "(") (a.var ++ codes ")") (open_paren ∷ []) (name_token a.var ∷ close_paren ∷ []) after (lexed_sign 40 open_paren _ refl)
    (lexed_both a.var (codes ")") (name_token a.var ∷ []) (close_paren ∷ []) after (lexed_name a.var _ free.1 refl) (lexed_sign 41 close_paren after refl)))

further_lexed : (asked : List Asked) → AreFreeTests asked → LexedAlways (further (codes ", ") (map test_text asked)) (further_tokens asked)
further_lexed [] free after = nothing_lexed after
further_lexed (a ∷ asked) free after =
    let rest = further (codes ", ") (map test_text asked) in
    lexed_both (codes ", ") (test_text a ++ rest) (comma ∷ []) (test_tokens a ++ further_tokens asked) after (lexed_comma _)
    (lexed_both (test_text a) rest (test_tokens a) (further_tokens asked) after (test_lexed a (free a (inl refl)) _) (further_lexed asked (λ b h. free b (inr h)) after))

-- behind a query
where_lexed : (u : List ℕ) (ts : List Token) (a : Asked) (asked : List Asked) → Lexes u ts → AreFreeTests (a ∷ asked) →
    LexedAlways (u ++ (codes " where " ++ tests_text (a ∷ asked))) (ts ++ name_token where_word ∷ (test_tokens a ++ further_tokens asked))
where_lexed u ts a asked lexes free after =
    let rest = further (codes ", ") (map test_text asked) in
    lexed_both u (codes " where " ++ (test_text a ++ rest)) ts (name_token where_word ∷ (test_tokens a ++ further_tokens asked)) after (lexes _ refl)
    (lexed_both (codes " where ") (test_text a ++ rest) (name_token where_word ∷ []) (test_tokens a ++ further_tokens asked) after (lexed_where _)
    (lexed_both (test_text a) rest (test_tokens a) (further_tokens asked) after (test_lexed a (free a (inl refl)) _) (further_lexed asked (λ b h. free b (inr h)) after)))

-- ---- the tokens with their places

-- tokens in two parts have their places in two parts
parts_of : (ps : List Placed) (ts us : List Token) → tokens_of ps ≡ ts ++ us →
    (a : List Placed) × (b : List Placed) × (ps ≡ a ++ b) × (tokens_of a ≡ ts) × (tokens_of b ≡ us)
parts_of ps [] us is = ([], ps, refl, refl, is)
parts_of [] (t ∷ ts) us is = absurd (cc)
parts_of (p ∷ ps) (t ∷ ts) us is =
    let here : p.1 ≡ t = cc in
    let others : tokens_of ps ≡ ts ++ us = cc in
    let (a, b, splits, front, back) = parts_of ps ts us others in
    let both : p.1 ∷ tokens_of a ≡ t ∷ ts = ap (λ x. x ∷ tokens_of a) here ∙ ap (λ xs. t ∷ xs) front in
    (p ∷ a, b, ap (λ xs. p ∷ xs) splits, both, back)

none_of : (ps : List Placed) → tokens_of ps ≡ [] → ps ≡ []
none_of [] is = refl
none_of (p ∷ ps) is = absurd (cc)

first_of : (ps : List Placed) (t : Token) (us : List Token) → tokens_of ps ≡ t ∷ us → (p : ℕ) × (qs : List Placed) × (ps ≡ (p, t) ∷ qs) × (tokens_of qs ≡ us)
first_of [] t us is = absurd (cc)
first_of ((p, u) ∷ qs) t us is =
    let here : u ≡ t = cc in
    let others : tokens_of qs ≡ us = cc in
    (p, qs, ap (λ v. (p, v) ∷ qs) here, others)

abbrev PlacedTest : List Placed → Asked → List Token → Type 0
PlacedTest ps a us = (d : List Placed) × (rest : List Placed) × (at : ℕ) × (ps ≡ d ++ rest) × SpellsTest d (asked_of a.test at a.var) × (tokens_of rest ≡ us)

placed_test : (ps : List Placed) (a : Asked) (us : List Token) → IsFreeName a.test × IsFreeName a.var → tokens_of ps ≡ test_tokens a ++ us → PlacedTest ps a us
placed_test ps a us free is =
    let (at, qs, one, later) = first_of ps (name_token a.test) (open_paren ∷ name_token a.var ∷ close_paren ∷ us) is in
    let (o, rs, two, next) = first_of qs open_paren (name_token a.var ∷ close_paren ∷ us) later in
    let (v, ss, three, last) = first_of rs (name_token a.var) (close_paren ∷ us) next in
    let (c, rest, four, end) = first_of ss close_paren us last in (
      (at, name_token a.test) ∷ (o, open_paren) ∷ (v, name_token a.var) ∷ (c, close_paren) ∷ [],
      rest,
      at,
      one ∙ ap (λ xs. (at, name_token a.test) ∷ xs) (two ∙ ap (λ xs. (o, open_paren) ∷ xs) (three ∙ ap (λ xs. (v, name_token a.var) ∷ xs) four)),
      one_test free.0 free.1,
      end,
    )

-- the tests that follow some
abbrev Follow : List Placed → List Placed → List Asked → List Asked → Type 0
Follow d ps done asked = (new : List Asked) × SpellsTests (d ++ ps) (done ++ new) × (map asks new ≡ map asks asked)

placed_further : (asked : List Asked) → AreFreeTests asked → (ps d : List Placed) (done : List Asked) → tokens_of ps ≡ further_tokens asked → SpellsTests d done → Follow d ps done asked
placed_further [] free ps d done is s =
    let none = none_of ps is in
    ([], rw none (rw (append-nil d) (subst (SpellsTests d) (sym (append-nil done)) s)), refl)
placed_further (a ∷ asked) free ps d done is s =
    let (p, qs, one, later) = first_of ps comma (test_tokens a ++ further_tokens asked) is in
    let (e, rest, at, splits, test, others) = placed_test qs a (further_tokens asked) (free a (inl refl)) later in
    let b = asked_of a.test at a.var in
    let (new, spelled, same) = placed_further asked (λ c h. free c (inr h)) rest (d ++ (p, comma) ∷ e) (done ++ b ∷ []) others (more_tests p s test) in
    let text : (d ++ (p, comma) ∷ e) ++ rest ≡ d ++ ps =
    append_assoc d ((p, comma) ∷ e) rest ∙ ap (λ xs. d ++ (p, comma) ∷ xs) (sym splits) ∙ ap (λ xs. d ++ xs) (sym one) in
    (b ∷ new, rw (← text) (subst (SpellsTests ((d ++ (p, comma) ∷ e) ++ rest)) (append_assoc done (b ∷ []) new) spelled), ap (λ xs. asks a ∷ xs) same)

placed_tests : (a : Asked) (asked : List Asked) → AreFreeTests (a ∷ asked) → (ps : List Placed) → tokens_of ps ≡ test_tokens a ++ further_tokens asked →
    (new : List Asked) × SpellsTests ps new × (map asks new ≡ map asks (a ∷ asked))
placed_tests a asked free ps is =
    let (d, rest, at, splits, test, others) = placed_test ps a (further_tokens asked) (free a (inl refl)) is in
    let b = asked_of a.test at a.var in
    let (new, spelled, same) = placed_further asked (λ c h. free c (inr h)) rest d (b ∷ []) others (first_test test) in
    (b ∷ new, rw (← splits) at spelled, ap (λ xs. asks a ∷ xs) same)

-- ---- the text

of_same : (V : VarName → Type 0) (xs ys : List Asked) → map asks xs ≡ map asks ys → ((a : Asked) → Has ys a → V a.var) → (a : Asked) → Has xs a → V a.var
of_same V [] ys is all a h = absurd h
of_same V (x ∷ xs) [] is all a h = absurd (cc)
of_same V (x ∷ xs) (y ∷ ys) is all a (inl e) =
    let pair : asks x ≡ asks y = cc in
    rw (← e) (subst V (sym (ap (λ (z : VarName × VarName). z.1) pair)) (all y (inl refl)))
of_same V (x ∷ xs) (y ∷ ys) is all a (inr h) = let others : map asks xs ≡ map asks ys = cc in of_same V xs ys others (λ b k. all b (inr k)) a h

abbrev Spelled : TestedTree → Type 0
Spelled t = (asked : List Asked) × SpellsTested (tested_text t.query t.asked) (record { query = t.query; asked = asked }) × (map asks asked ≡ map asks t.asked)

tested_spelled : (t : TestedTree) → IsPrintable t → Spelled t
tested_spelled t ok = by t.asked ok.free (query_lexes t.query ok.sound ok.shallow)
  where
    by : (asked : List Asked) → AreFreeTests asked → (ts : List Token) × Lexes (query_text t.query) ts × Spells ts t.query →
        (new : List Asked) × SpellsTested (tested_text t.query asked) (record { query = t.query; asked = new }) × (map asks new ≡ map asks asked)
    by [] free (ts, lexes, spells) =
        let (ps, has, is) = tokens_placed (lexed_whole (query_text t.query) ts lexes) in (
          [],
          record {
            query = ps;
            tests = [];
            placed = subst (HasPlaced (query_text t.query) 0) (sym (append-nil ps)) has;
            spells_query = rw is spells;
            spells_tests = no_test;
          },
          refl,
        )
    by (a ∷ asked) free (ts, lexes, spells) =
        let text = query_text t.query ++ (codes " where " ++ tests_text (a ∷ asked)) in
        let tests = test_tokens a ++ further_tokens asked in
        let lexed = where_lexed (query_text t.query) ts a asked lexes free in
        let (ps, has, is) = tokens_placed (lexed_whole text (ts ++ name_token where_word ∷ tests) (λ after stops. lexed after)) in
        let (front, back, splits, query, behind) = parts_of ps ts (name_token where_word ∷ tests) is in
        let (p, qs, word, follow) = first_of back (name_token where_word) tests behind in
        let (new, spelled, same) = placed_tests a asked free qs follow in (
          new,
          record {
            query = front;
            tests = back;
            placed = subst (HasPlaced text 0) splits has;
            spells_query = rw query spells;
            spells_tests = subst (λ xs. SpellsWhere xs new) (sym word) (tests_follow spelled);
          },
          same,
        )

pub tests_read : TestedAreRead
tests_read t ok =
    let (asked, spelled, same) = tested_spelled t ok in
    (record { query = t.query; asked = asked }, (ok.short, spelled, ok.sound, of_same (IsResultVar t.query) asked t.asked same ok.of_result), refl, same)
