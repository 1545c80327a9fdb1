-- Each text of bytes is that of a sound query or has a fault.
use Rattle.std.proofs.Common.{◌≡◌, ◌⊎◌, ℕ, zero, suc, ◌+◌, ◌<◌, ◌≤◌, Bool, true, false, nat_lt, List, [], ◌∷◌, length, drop, length-drop, length-append, Option, Some, None, Ok, Err, inl, inr, refl, sym, ap, ◌∙◌, subst, arith, cond, get_or, if◌then◌else◌}
use Rattle.std.specs.List.{All, take_while}
use Rattle.std.proofs.lemmas.Bool.Decides.{nat_tests}
use Rattle.std.proofs.lemmas.List.{get_or_past}
use Rattle.std.proofs.lemmas.List.Elements.{All-get_or}
use Rattle.std.proofs.lemmas.List.Sums.{take_while-cons}
use Rattle.span_core.specs.declared.TheConstants.{MOST_VARIABLES}
use Rattle.span_core.specs.Names.{is_name_byte}
use Rattle.span_core.specs.Lists.{AtMost}
use Rattle.spanner_model.specs.Sound.{NameOf}
use Rattle.spanner_model.specs.Expression.{AtomTree, QueryTree, atom}
use Rattle.spanner_model.proofs.Deciding.{Told}
use Rattle.formula_parser.specs.declared.fault.FormulaFault.{FormulaFault}
use Rattle.formula_parser.specs.Spells.{IsAtomAt}
use Rattle.formula_parser.specs.Faults.{HasFault as HasAtomFault}
use Rattle.formula_parser.proofs.RunLaws.{run_of}
use Rattle.formula_parser.proofs.BuiltLaws.{IsText, text_of}
use Rattle.formula_parser.proofs.AtomLaws as atoms
use Rattle.formula_parser.proofs.HeadLaws.{start_continues}
use Rattle.query_parser.specs.declared.TheConstants.{MOST_TEXT_BYTES}
use Rattle.query_parser.specs.declared.fault.QueryFault.{QueryFault}
use Rattle.query_parser.specs.declared.fault.QueryFault.TheVariants.{Formula, Unexpected, TooManyVariables, TooLong}
use Rattle.query_parser.specs.Tokens.{word_token}
use Rattle.query_parser.specs.Spells.{SpellsQuery}
use Rattle.query_parser.specs.Reads.{start_read}
use Rattle.query_parser.specs.Faults.{IsReadFault, KeepsTooMany, HasFault, IsQueryText, too_long, unreadable, too_many_kept, too_many_captured, not_sound}
use Rattle.query_parser.specs.Nest.{Nest, Move, Body, move, outermost, wants_unit, whole_query, with_unit}
use Rattle.query_parser.specs.Step.{Next, goes, reads_atom, stops, moved, ends, step, EndsReading}
use Rattle.query_parser.specs.Step as code
use Rattle.query_parser.specs.Laws.{IsReadOrRefused, HasQueryOrFault}
use Rattle.query_parser.proofs.TextLaws.{Answer, ends_spelled}
use Rattle.query_parser.proofs.FaultLaws.{ends_fault, ends_kept}
use Rattle.query_parser.proofs.SoundQuery.{query_formed, sound_query}
use Rattle.query_parser.proofs.StepLaws.{Front, blank, slash, starts, sign, stray, front_of, blank_step, word_step, sign_step, stray_step, ends_more, ends_atom, atom_due}
use Rattle.query_parser.proofs.ToldQueries.{told_names, QueryPassesOrFault, query_passes_or_fault}
use Rattle.query_parser.proofs.TurnLaws.{atom_moves}

-- ---- steps

-- a step takes a byte or more, and no more than there are
abbrev IsWithin : ℕ → Next → Type 0
IsWithin len (goes n m) = (0 < n) × (n ≤ len)
IsWithin len reads_atom = Unit {0}
IsWithin len (stops r) = Unit {0}

moved_within : (at n len : ℕ) (m : Move) → 0 < n → n ≤ len → IsWithin len (moved at n m)
moved_within at n len (Ok m) some few = (some, few)
moved_within at n len (Err why) some few = tt

ends_within : (at len : ℕ) (found : Option Body) → IsWithin len (ends at found)
ends_within at len None = tt
ends_within at len (Some b) = tt

slash_within : (at len : ℕ) (b : Bool) → IsWithin len (if b then reads_atom else stops (Err (Unexpected at)))
slash_within at len true = tt
slash_within at len false = tt

front_within : {c : ℕ} → Front c → (at : ℕ) (s : List ℕ) (n : Nest) → IsWithin (length (c ∷ s)) (step at (c ∷ s) n)
front_within (blank {c = c} b) at s n = subst (IsWithin (length (c ∷ s))) (sym (blank_step at c s n b)) (omega arith, omega arith)
front_within slash at s n = slash_within at (suc (length s)) (wants_unit n.last)
front_within (starts {c = c} w) at s n =
    let x = code.word_at (c ∷ s) in
    let r = run_of is_name_byte (c ∷ s) in
    let front : take_while is_name_byte (c ∷ s) ≡ c ∷ take_while is_name_byte s =
    take_while-cons is_name_byte c s ∙ ap (λ b. cond b (c ∷ take_while is_name_byte s) []) (start_continues c w) in
    subst (IsWithin (length (c ∷ s))) (sym (word_step at c s n w))
    (moved_within at (length x) (length (c ∷ s)) (move (word_token x) n) (omega (arith, ap length front)) (omega (arith, ap length r.splits, length-append x r.rest)))
front_within (sign {c = c} {t = t} is) at s n =
    subst (IsWithin (length (c ∷ s))) (sym (sign_step at c s t n is)) (moved_within at 1 (length (c ∷ s)) (move t n) (omega arith) (omega arith))
front_within (stray {c = c} is) at s n = subst (IsWithin (length (c ∷ s))) (sym (stray_step at c s n is)) tt

within : (at : ℕ) (rest : List ℕ) (n : Nest) → IsWithin (length rest) (step at rest n)
within at [] n = ends_within at 0 (whole_query n)
within at (c ∷ s) n = front_within (front_of c) at s n

-- ---- each reading ends

-- an atom takes a byte or more
atom_longer : (text : List ℕ) (at : ℕ) (a : AtomTree) (q : ℕ) → IsAtomAt text at (a, q) → length (drop q text) < length (drop at text)
atom_longer text at a q is =
    let e = atoms.atom_ends text at (a, q) is in
    omega (arith, length-drop q text, length-drop at text, e.moves, e.within)

abbrev Ended : List ℕ → ℕ → Nest → Type 0
Ended text at n = (r : Answer) × EndsReading text at n r

some_end : (fuel : ℕ) (text : List ℕ) (at : ℕ) (n : Nest) → length (drop at text) < fuel → Ended text at n
some_end zero text at n h = absurd (omega (arith, h))
some_end (suc fuel) text at n h = by (step at (drop at text) n) refl (within at (drop at text) n) (some_end fuel text)
  where
    with_atom : step at (drop at text) n ≡ reads_atom → ((at' : ℕ) (n' : Nest) → length (drop at' text) < fuel → Ended text at' n') →
        ((x : AtomTree × ℕ) × IsAtomAt text at x) ⊎ ((e : FormulaFault) × HasAtomFault text at e) → Ended text at n
    with_atom is again (inl (x, found)) =
        let m = with_unit (atom x.0) n in
        let r = again x.1 m (omega (arith, atom_longer text at x.0 x.1 found, h)) in
        (r.0, ends_atom text at x.1 x.0 n m r.0 is found (atom_moves x.0 n (atom_due text at n is).1) r.1)
    with_atom is again (inr (e, fault)) = (Err (Formula e), (0, inr (is, (e, fault, refl))))

    by : (next : Next) → step at (drop at text) n ≡ next → IsWithin (length (drop at text)) next → ((at' : ℕ) (n' : Nest) → length (drop at' text) < fuel → Ended text at' n') → Ended text at n
    by (goes len m) is w again =
        let r = again (at + len) m (omega (arith, length-drop at text, length-drop (at + len) text, w.0, w.1, h)) in
        (r.0, ends_more text at len n m r.0 is r.1)
    by reads_atom is w again = with_atom is again (atoms.each_text text at)
    by (stops r) is w again = (r, (0, inl is))

abbrev ReadOrRefused : List ℕ → Type 0
ReadOrRefused text = ((q : QueryTree) × SpellsQuery text q) ⊎ (((e : QueryFault) × IsReadFault text e) ⊎ KeepsTooMany text)

pub read_or_refused : IsReadOrRefused
read_or_refused text = by (some_end (suc (length text)) text 0 outermost (omega (arith, length-drop 0 text)))
  where
    by : Ended text 0 outermost → ReadOrRefused text
    by (Ok (q, false), e) = inl (q, ends_spelled text q e)
    by (Ok (q, true), e) = inr (inr (ends_kept text q e))
    by (Err e, (steps, f)) = inr (inl (e, ends_fault steps text 0 outermost e start_read f))

-- ---- each text

pub text_from_all : (text : List ℕ) → All (λ b. b < 256) text → IsText text
text_from_all text all = text_of text (λ i. by i (nat_lt i (length text)) refl)
  where
    by : (i : ℕ) (b : Bool) → nat_lt i (length text) ≡ b → get_or text i 0 < 256
    by i true e = All-get_or (λ b. b < 256) text i 0 (grind (arith, nat_tests)) all
    by i false e = let none = get_or_past text i 0 (grind (arith, nat_tests)) in omega (arith, none)

abbrev QueryOrFault : List ℕ → Type 0
QueryOrFault text = ((q : QueryTree) × IsQueryText text q) ⊎ ((e : QueryFault) × HasFault text e)

pub query_or_fault : HasQueryOrFault
query_or_fault text all = by (nat_lt MOST_TEXT_BYTES (length text)) refl
  where
    bytes : IsText text
    bytes = text_from_all text all

    checked : length text ≤ MOST_TEXT_BYTES → (q : QueryTree) → SpellsQuery text q → AtMost MOST_VARIABLES (NameOf q) → QueryPassesOrFault q → QueryOrFault text
    checked short q (ts, has, spells) few (inl passes) = inl (q, (short, (ts, has, spells), sound_query text ts q bytes has spells passes few))
    checked short q spelled few (inr h) = inr (h.0, not_sound short spelled few h.1)

    named : length text ≤ MOST_TEXT_BYTES → (q : QueryTree) → SpellsQuery text q → Told (AtMost MOST_VARIABLES (NameOf q)) → QueryOrFault text
    named short q spelled (inr many) = inr (TooManyVariables, too_many_captured short spelled many)
    named short q (ts, has, spells) (inl few) = checked short q (ts, has, spells) few (query_passes_or_fault q (query_formed text ts q bytes has spells))

    read : length text ≤ MOST_TEXT_BYTES → ReadOrRefused text → QueryOrFault text
    read short (inl (q, spelled)) = named short q spelled (told_names q)
    read short (inr (inl (e, f))) = inr (e, unreadable short f)
    read short (inr (inr many)) = inr (TooManyVariables, too_many_kept short many)

    by : (b : Bool) → nat_lt MOST_TEXT_BYTES (length text) ≡ b → QueryOrFault text
    by true e = inr (TooLong, too_long (grind (arith, nat_tests)))
    by false e = read (grind (arith, nat_tests)) (read_or_refused text)
