-- The tests that tokens spell are those that they lead to, and the other way round.
use Rattle.std.proofs.Common.{◌≡◌, ℕ, Bool, true, false, List, [], ◌∷◌, ◌++◌, map, Result, Ok, Err, ap, refl, sym, subst, ◌∙◌, append_assoc, if◌then◌else◌}
use Rattle.std.proofs.lemmas.List.{append-nil}
use Rattle.span_core.specs.Names.{is_name}
use Rattle.spanner_model.specs.Captures.{VarName}
use Rattle.spanner_model.specs.Sound.{IsFreeName}
use Rattle.spanner_model.specs.declared.tested.Asked.{Asked}
use Rattle.query_parser.specs.Tokens.{Token, name_token, open_paren, close_paren, comma, HasTokens, text_ends, blank_first, token_first}
use Rattle.query_parser.specs.Reads.{Refusal, name_too_long}
use Rattle.query_parser.specs.Nest.{Nest}
use Rattle.query_parser.specs.TokenRuns.{Run, run_ends, run_blank, run_token, query_step}
use Rattle.query_parser.specs.Tested.{asked_of, Placed, HasPlaced, SpellsTest, one_test, SpellsTests, first_test, more_tests}
use Rattle.query_parser.specs.Tested as placed
use Rattle.query_parser.specs.TestSteps.{TestLast, at_test, after_test_name, after_test_open, after_test_var, after_test, TestsRead, tests_at, no_test_read, TestMove, test_name_read, test_move}
use Rattle.query_parser.proofs.SpelledMoves.{Runs}
use Rattle.query_parser.proofs.TokensSpelled.{IsProper, AreProper}

-- ---- tokens with their places

abbrev pub tokens_of : List Placed → List Token
tokens_of ts = map (λ x. x.1) ts

pub tokens_placed : {text : List ℕ} {p : ℕ} {ts : List Token} → HasTokens text p ts → (ps : List Placed) × HasPlaced text p ps × (tokens_of ps ≡ ts)
tokens_placed (text_ends is) = ([], placed.text_ends is, refl)
tokens_placed (blank_first at has) = let (ps, more, is) = tokens_placed has in (ps, placed.blank_first at more, is)
tokens_placed {p = p} (token_first {t = t} at has) = let (ps, more, is) = tokens_placed has in ((p, t) ∷ ps, placed.token_first at more, ap (λ us. t ∷ us) is)

pub placed_tokens : {text : List ℕ} {p : ℕ} {ps : List Placed} → HasPlaced text p ps → HasTokens text p (tokens_of ps)
placed_tokens (placed.text_ends is) = text_ends is
placed_tokens (placed.blank_first at has) = blank_first at (placed_tokens has)
placed_tokens (placed.token_first at has) = token_first at (placed_tokens has)

pub proper_front : (ts us : List Placed) → AreProper (tokens_of (ts ++ us)) → AreProper (tokens_of ts)
proper_front [] us p = tt
proper_front (t ∷ ts) us p = (p.0, proper_front ts us p.1)

pub proper_back : (ts us : List Placed) → AreProper (tokens_of (ts ++ us)) → AreProper (tokens_of us)
proper_back [] us p = p
proper_back (t ∷ ts) us p = proper_back ts us p.1

module _ {S : Type 0} (step : ℕ → Token → S → Result S Refusal) where
  -- the tokens lead from one to the other
  abbrev pub Leads : S → List Placed → S → Type 0
  Leads s [] f = s ≡ f
  Leads s (x ∷ ts) f = (k : S) × (step x.0 x.1 s ≡ Ok k) × Leads k ts f

  pub leads_on : (s k f : S) (ts us : List Placed) → Leads s ts k → Leads k us f → Leads s (ts ++ us) f
  leads_on s k f [] us e r = rw e r
  leads_on s k f (x ∷ ts) us (l, is, e) r = (l, is, leads_on l k f ts us e r)

  none_run : {text : List ℕ} {p : ℕ} {ps : List Placed} → HasPlaced text p ps → (rest : List Placed) (s f : S) → ps ≡ rest → s ≡ f →
      (e : ℕ) × Run step text p s e f × HasPlaced text e rest
  none_run {text = text} {p = p} has rest s f same is = (p, rw (← is) run_ends, subst (HasPlaced text p) same has)

  -- of a text that has them
  pub placed_run : {text : List ℕ} {p : ℕ} {ps : List Placed} → HasPlaced text p ps → (ts rest : List Placed) (s f : S) → ps ≡ ts ++ rest → Leads s ts f →
      (e : ℕ) × Run step text p s e f × HasPlaced text e rest
  placed_run (placed.text_ends is) [] rest s f same e = none_run (placed.text_ends is) rest s f same e
  placed_run (placed.blank_first at has) [] rest s f same e = none_run (placed.blank_first at has) rest s f same e
  placed_run (placed.token_first at has) [] rest s f same e = none_run (placed.token_first at has) rest s f same e
  placed_run (placed.text_ends is) (t ∷ ts) rest s f same lead = absurd (cc)
  placed_run (placed.blank_first at has) (t ∷ ts) rest s f same lead = let (e, run, more) = placed_run has (t ∷ ts) rest s f same lead in (e, run_blank at run, more)
  placed_run {p = p} (placed.token_first {t = u} {ts = us} at has) (t ∷ ts) rest s f same (k, is, lead) =
      let first : (p, u) ≡ t = cc in
      let others : us ≡ ts ++ rest = cc in
      let (e, run, more) = placed_run has ts rest k f others lead in
      (e, run_token at (rw (← first) at is) run, more)

  pub run_placed : {text : List ℕ} {p e : ℕ} {s f : S} {rest : List Placed} → Run step text p s e f → HasPlaced text e rest →
      (ts : List Placed) × HasPlaced text p (ts ++ rest) × Leads s ts f
  run_placed run_ends has = ([], has, refl)
  run_placed (run_blank at run) has = let (ts, more, lead) = run_placed run has in (ts, placed.blank_first at more, lead)
  run_placed {p = p} (run_token {k = k} {t = t} at moves run) has =
      let (ts, more, lead) = run_placed run has in ((p, t) ∷ ts, placed.token_first at more, (k, moves, lead))

-- of a query places do not matter
pub leads_query : (ts : List Placed) (n m : Nest) → Runs n (tokens_of ts) m → Leads query_step n ts m
leads_query [] n m e = e
leads_query (x ∷ ts) n m (k, is, run) = (k, is, leads_query ts k m run)

pub query_runs : (ts : List Placed) (n m : Nest) → Leads query_step n ts m → Runs n (tokens_of ts) m
query_runs [] n m e = e
query_runs (x ∷ ts) n m (k, is, lead) = (k, is, query_runs ts k m lead)

-- ---- what is spelled is read

name_ok : (x : VarName) (s : TestsRead) → is_name x ≡ true → test_name_read x s ≡ Ok s
name_ok x s h = ap (λ b. if b then Ok s else Err name_too_long) h

test_leads : {ts : List Placed} {a : Asked} (asked : List Asked) → SpellsTest ts a → Leads test_move (tests_at asked at_test) ts (tests_at (asked ++ a ∷ []) after_test)
test_leads asked (one_test {at = at} {test = test} {var = var} free also) =
    let named = tests_at asked (after_test_name test at) in
    let opened = tests_at asked (after_test_open test at) in
    let whole = tests_at asked (after_test_var (asked_of test at var)) in
    (named, name_ok test named free.0, (opened, refl, (whole, name_ok var whole also.0, (tests_at (asked ++ asked_of test at var ∷ []) after_test, refl, refl))))

pub tests_lead : {ts : List Placed} {asked : List Asked} → SpellsTests ts asked → Leads test_move no_test_read ts (tests_at asked after_test)
tests_lead (first_test s) = test_leads [] s
tests_lead (more_tests {ts = ts} {us = us} {a = a} {asked = asked} p s one) =
    leads_on test_move no_test_read (tests_at asked after_test) (tests_at (asked ++ a ∷ []) after_test) ts ((p, comma) ∷ us) (tests_lead s)
    (tests_at asked at_test, refl, test_leads asked one)

-- ---- what is read is spelled

-- the tokens of tests with a comma behind each
abbrev BeforeTest : List Asked → List Placed → Type 0
BeforeTest [] ts = ts ≡ []
BeforeTest (a ∷ asked) ts = (d : List Placed) × (p : ℕ) × (ts ≡ d ++ (p, comma) ∷ []) × SpellsTests d (a ∷ asked)

abbrev AreSpelled : List Asked → TestLast → List Placed → Type 0
AreSpelled asked at_test ts = BeforeTest asked ts
AreSpelled asked (after_test_name x at) ts = (d : List Placed) × (ts ≡ d ++ (at, name_token x) ∷ []) × BeforeTest asked d × IsFreeName x
AreSpelled asked (after_test_open x at) ts =
    (d : List Placed) × (p : ℕ) × (ts ≡ d ++ (at, name_token x) ∷ (p, open_paren) ∷ []) × BeforeTest asked d × IsFreeName x
AreSpelled asked (after_test_var a) ts =
    (d : List Placed) × (p : ℕ) × (q : ℕ) × (ts ≡ d ++ (a.at, name_token a.test) ∷ (p, open_paren) ∷ (q, name_token a.var) ∷ []) × BeforeTest asked d
    × IsFreeName a.test × IsFreeName a.var
AreSpelled asked after_test ts = SpellsTests ts asked

named_ok : (x : VarName) (s k : TestsRead) → test_name_read x s ≡ Ok k → (is_name x ≡ true) × (s ≡ k)
named_ok x s k e = by (is_name x) refl e
  where
    by : (b : Bool) → is_name x ≡ b → ◌≡◌ {A = TestMove} (if b then Ok s else Err name_too_long) (Ok k) → (is_name x ≡ true) × (s ≡ k)
    by true d f = (d, cc)
    by false d f = absurd (cc)

abbrev Holds : List Placed → TestsRead → Type 0
Holds ts s = AreSpelled s.asked s.last ts

-- a test that ends here
end_test : (asked : List Asked) (d us : List Placed) (a : Asked) → BeforeTest asked d → SpellsTest us a → SpellsTests (d ++ us) (asked ++ a ∷ [])
end_test [] d us a none s = rw none (first_test s)
end_test (b ∷ asked) d us a (e, p, is, before) s =
    rw (← (sym (append_assoc e ((p, comma) ∷ []) us) ∙ ap (λ x. x ++ us) (sym is))) (more_tests p before s)

pub not_none : {ts : List Placed} {asked : List Asked} → SpellsTests ts asked → asked ≡ [] → ⊥
not_none (first_test s) e = absurd (cc)
not_none (more_tests {a = a} {asked = asked} p s one) e = by asked e
  where
    by : (xs : List Asked) → xs ++ a ∷ [] ≡ [] → ⊥
    by [] e = absurd (cc)
    by (x ∷ xs) e = absurd (cc)

parted : (asked : List Asked) (ts : List Placed) (p : ℕ) → SpellsTests ts asked → BeforeTest asked (ts ++ (p, comma) ∷ [])
parted [] ts p s = absurd (not_none s refl)
parted (a ∷ asked) ts p s = (ts, p, refl, s)

one_more : {ts : List Placed} (d us : List Placed) (x : Placed) → ts ≡ d ++ us → ts ++ x ∷ [] ≡ d ++ (us ++ x ∷ [])
one_more d us x is = ap (λ y. y ++ x ∷ []) is ∙ append_assoc d us (x ∷ [])

token_spells : (at : ℕ) (t : Token) (ts : List Placed) (last : TestLast) (asked : List Asked) (k : TestsRead) → IsProper t → test_move at t (tests_at asked last) ≡ Ok k →
    AreSpelled asked last ts → Holds (ts ++ (at, t) ∷ []) k
token_spells at (name_token x) ts at_test asked k p e r =
    let (name, is) = named_ok x (tests_at asked (after_test_name x at)) k e in
    subst (Holds (ts ++ (at, name_token x) ∷ [])) is (ts, refl, r, (name, p))
token_spells at (name_token x) ts (after_test_open test q) asked k p e (d, o, same, before, free) =
    let (name, is) = named_ok x (tests_at asked (after_test_var (asked_of test q x))) k e in
    subst (Holds (ts ++ (at, name_token x) ∷ [])) is (d, o, at, one_more d ((q, name_token test) ∷ (o, open_paren) ∷ []) (at, name_token x) same, before, free, (name, p))
token_spells at open_paren ts (after_test_name x q) asked k p e (d, same, before, free) =
    let is : tests_at asked (after_test_open x q) ≡ k = cc in
    subst (Holds (ts ++ (at, open_paren) ∷ [])) is (d, at, one_more d ((q, name_token x) ∷ []) (at, open_paren) same, before, free)
token_spells at close_paren ts (after_test_var a) asked k p e (d, o, v, same, before, free, also) =
    let is : tests_at (asked ++ a ∷ []) after_test ≡ k = cc in
    let whole = (a.at, name_token a.test) ∷ (o, open_paren) ∷ (v, name_token a.var) ∷ (at, close_paren) ∷ [] in
    subst (Holds (ts ++ (at, close_paren) ∷ [])) is
    (rw (one_more d ((a.at, name_token a.test) ∷ (o, open_paren) ∷ (v, name_token a.var) ∷ []) (at, close_paren) same) (end_test asked d whole a before (one_test free also)))
token_spells at comma ts after_test asked k p e r =
    let is : tests_at asked at_test ≡ k = cc in
    subst (Holds (ts ++ (at, comma) ∷ [])) is (parted asked ts at r)
token_spells at t ts last asked k p e r = absurd (cc)

tokens_spell : (us ts : List Placed) (s k : TestsRead) → AreProper (tokens_of ts) → Leads test_move s ts k → Holds us s → Holds (us ++ ts) k
tokens_spell us [] s k p e r = rw (append-nil us) (subst (Holds us) e r)
tokens_spell us (t ∷ ts) s k p (l, is, lead) r =
    rw (← append_assoc us (t ∷ []) ts) (tokens_spell (us ++ t ∷ []) ts l k p.1 lead (token_spells t.0 t.1 us s.last s.asked l p.0 is r))

pub tests_spelled : (ts : List Placed) (asked : List Asked) → AreProper (tokens_of ts) → Leads test_move no_test_read ts (tests_at asked after_test) → SpellsTests ts asked
tests_spelled ts asked p lead = tokens_spell [] ts no_test_read (tests_at asked after_test) p lead refl
