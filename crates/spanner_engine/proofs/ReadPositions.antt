-- Whether a position is read can be told.
use Rattle.std.proofs.Common.{ℕ, suc, ◌<◌, ◌≤◌, Bool, true, false, List, [], length, inl, inr, arith}
use Rattle.span_core.specs.Lists.{Has}
use Rattle.span_core.proofs.HasLaws.{place_of-Has}
use Rattle.span_core.proofs.Deciding.{Decided, decide_both, decide_either, decide_le}
use Rattle.spanner_model.specs.Captures.{VarName}
use Rattle.spanner_model.specs.Expression.{AtomTree, ExprTree, QueryTree, atom, named, union_end, union, join_end, join, minus, project}
use Rattle.spanner_model.specs.Sequential.{IsSequential}
use Rattle.spanner_model.specs.Sound.{AreJoined, AreUnited, IsSound, IsSoundExpr, IsSoundUnder}
use Rattle.spanner_model.specs.WellBuilt.{IsWellBuilt}
use Rattle.place_automaton.specs.Atom.{AreBytes}
use Rattle.place_automaton.specs.Words.{atom_automaton}
use Rattle.place_automaton.proofs.BuiltRepeats.{ordered_repeats}
use Rattle.segment_filter.specs.Idling.{IsLed, LeadsOut}
use Rattle.segment_filter.specs.Sharing.{IsShared, from_the_start, formula_places}
use Rattle.spanner_engine.specs.Touching.{HasMinus, HasMinusIn, SomeAtom, SomeAtomOf, TouchedOf}
use Rattle.segment_filter.specs.Touching.{IsTouchedBy}
use Rattle.segment_filter.proofs.SharingLaws.{sharing_law}
use Rattle.spanner_engine.specs.Begun.{IsReadAt}
use Rattle.spanner_engine.specs.Laws.{ReadAreASet}
use Rattle.spanner_engine.proofs.Deciding.{decide_below, decide_same, decide_some, is_so, so_where}
use Rattle.spanner_engine.proofs.PassDeciding.{decide_led, decide_out}

-- ---- an atom

decide_shared : (a : AtomTree) (d : List ℕ) (i : ℕ) → Decided (IsShared [] a d i)
decide_shared a d i =
    let A = atom_automaton [] a in
    let B = atom_automaton [] (from_the_start a) in
    let places = formula_places [] a.formula in
    decide_same
    ((r : ℕ) × (r < suc places) × (IsLed A d i r × LeadsOut B d i r))
    (IsShared [] a d i) (
      λ h. (h.0, (let l : h.0 ≤ places = omega (arith, h.1) in l), h.2.0, h.2.1),
      λ h. (h.0, (let l : h.0 < suc places = omega (arith, h.1) in l), (h.2, h.3)),
    )
    (decide_below
    (λ (r : ℕ). IsLed A d i r × LeadsOut B d i r)
    (λ r. decide_both (IsLed A d i r) (LeadsOut B d i r) (decide_led A d i r) (decide_out B d i r))
    (suc places))

decide_touched : (a : AtomTree) → IsWellBuilt a.formula → IsSequential a.formula → (d : List ℕ) → AreBytes d → (i : ℕ) → Decided (IsTouchedBy a d i)
decide_touched a built sequential d bytes i =
    let law = sharing_law [] a sequential (ordered_repeats a.formula built) d bytes i in
    decide_same (IsShared [] a d i) (IsTouchedBy a d i) (law.1, law.0) (decide_shared a d i)

-- ---- the atoms of a sound expression

-- each atom is well built and sequential
abbrev AtomsFit : ExprTree → Type 0
AtomsFit (atom a) = IsWellBuilt a.formula × IsSequential a.formula
AtomsFit (named k) = Unit {0}
AtomsFit union_end = Unit {0}
AtomsFit (union e rest) = AtomsFit e × AtomsFit rest
AtomsFit join_end = Unit {0}
AtomsFit (join e rest) = AtomsFit e × AtomsFit rest
AtomsFit (project names e) = AtomsFit e
AtomsFit (minus e g) = AtomsFit e × AtomsFit g

module _ (V S : ℕ → VarName → Type 0) (n : ℕ) where
  -- in each role in which an expression may stand
  record Fit (e : ExprTree) : Type 0 where
    whole : IsSoundExpr V S n e → AtomsFit e
    united : AreUnited V S n e → AtomsFit e
    joined : AreJoined V S n e → AtomsFit e

  all_fit : (e : ExprTree) → Fit e
  all_fit (atom a) = record { whole = λ h. h; united = λ h. absurd h; joined = λ h. absurd h }
  all_fit (named k) = record { whole = λ h. tt; united = λ h. absurd h; joined = λ h. absurd h }
  all_fit union_end = record { whole = λ h. absurd h; united = λ h. tt; joined = λ h. absurd h }
  all_fit (union e rest) =
      let a = all_fit e in
      let b = all_fit rest in
      record { whole = λ h. (a.whole h.0, b.united h.1); united = λ h. (a.whole h.0, b.united h.1); joined = λ h. absurd h }
  all_fit join_end = record { whole = λ h. absurd h; united = λ h. absurd h; joined = λ h. tt }
  all_fit (join e rest) =
      let a = all_fit e in
      let b = all_fit rest in
      record { whole = λ h. (a.whole h.0, b.joined h.1); united = λ h. absurd h; joined = λ h. (a.whole h.0, b.joined h.1) }
  all_fit (project names e) = let a = all_fit e in record { whole = λ h. a.whole h.0; united = λ h. absurd h; joined = λ h. absurd h }
  all_fit (minus e g) =
      let a = all_fit e in
      let b = all_fit g in
      record { whole = λ h. (a.whole h.0, b.whole h.1); united = λ h. absurd h; joined = λ h. absurd h }

  fits : (e : ExprTree) → IsSoundExpr V S n e → AtomsFit e
  fits e h = (all_fit e).whole h

module _ (P : AtomTree → Type 0) (decide : (a : AtomTree) → IsWellBuilt a.formula → IsSequential a.formula → Decided (P a)) where
  decide_atoms : (e : ExprTree) → AtomsFit e → Decided (SomeAtom P e)
  decide_atoms (atom a) fit = decide a fit.0 fit.1
  decide_atoms (named k) fit = inr (λ h. h)
  decide_atoms union_end fit = inr (λ h. h)
  decide_atoms (union e rest) fit = decide_either (SomeAtom P e) (SomeAtom P rest) (decide_atoms e fit.0) (decide_atoms rest fit.1)
  decide_atoms join_end fit = inr (λ h. h)
  decide_atoms (join e rest) fit = decide_either (SomeAtom P e) (SomeAtom P rest) (decide_atoms e fit.0) (decide_atoms rest fit.1)
  decide_atoms (project names e) fit = decide_atoms e fit
  decide_atoms (minus e g) fit = decide_either (SomeAtom P e) (SomeAtom P g) (decide_atoms e fit.0) (decide_atoms g fit.1)

-- whether a difference stands in an expression
decide_minus : (e : ExprTree) → Decided (HasMinusIn e)
decide_minus (atom a) = inr (λ h. h)
decide_minus (named k) = inr (λ h. h)
decide_minus union_end = inr (λ h. h)
decide_minus (union e rest) = decide_either (HasMinusIn e) (HasMinusIn rest) (decide_minus e) (decide_minus rest)
decide_minus join_end = inr (λ h. h)
decide_minus (join e rest) = decide_either (HasMinusIn e) (HasMinusIn rest) (decide_minus e) (decide_minus rest)
decide_minus (project names e) = decide_minus e
decide_minus (minus e g) = inl tt

-- ---- a query

module _ (q : QueryTree) (sound : IsSound q) (d : List ℕ) (bytes : AreBytes d) where
  let_fits : (l : VarName × ExprTree) → Has q.lets l → AtomsFit l.1
  let_fits l h =
      let place = place_of-Has q.lets l h in
      let under : IsSoundUnder q.lets place.0 l.1 = sound.sound_lets place.0 l place.2 in
      fits _ _ _ l.1 under.0

  -- some atom touches the position
  decide_touching : (i : ℕ) → Decided (SomeAtomOf (λ a. IsTouchedBy a d i) q)
  decide_touching i =
      let one : (a : AtomTree) → IsWellBuilt a.formula → IsSequential a.formula → Decided (IsTouchedBy a d i) =
      λ a built sequential. decide_touched a built sequential d bytes i in
      decide_either
      ((l : VarName × ExprTree) × Has q.lets l × SomeAtom (λ a. IsTouchedBy a d i) l.1)
      (SomeAtom (λ a. IsTouchedBy a d i) q.body)
      (decide_some (λ (l : VarName × ExprTree). SomeAtom (λ a. IsTouchedBy a d i) l.1) q.lets
      (λ l h. decide_atoms (λ a. IsTouchedBy a d i) one l.1 (let_fits l h)))
      (decide_atoms (λ a. IsTouchedBy a d i) one q.body (fits _ _ _ q.body sound.sound_body.0))

  decide_differs : Decided (HasMinus q)
  decide_differs =
      decide_either
      ((l : VarName × ExprTree) × Has q.lets l × HasMinusIn l.1)
      (HasMinusIn q.body)
      (decide_some (λ (l : VarName × ExprTree). HasMinusIn l.1) q.lets (λ l h. decide_minus l.1))
      (decide_minus q.body)

  decide_query : (i : ℕ) → Decided (TouchedOf q d i)
  decide_query i =
      decide_either
      (SomeAtomOf (λ a. IsTouchedBy a d i) q)
      (HasMinus q × (i ≤ length d))
      (decide_touching i)
      (decide_both (HasMinus q) (i ≤ length d) decide_differs (decide_le i (length d)))

  decide_read : (filter : Bool) (i : ℕ) → Decided (IsReadAt filter q d i)
  decide_read false i = decide_le i (length d)
  decide_read true i = decide_query i

pub read_are_a_set : ReadAreASet
read_are_a_set filter q sound d bytes =
    (λ i. is_so (decide_read q sound d bytes filter i), λ i. so_where (IsReadAt filter q d i) (decide_read q sound d bytes filter i))
