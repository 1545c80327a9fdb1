-- Sequential formulas have no fault, and others have one.
use Rattle.std.proofs.Common.{◌≡◌, ℕ, Option, inl, inr, refl, sym, ap, ◌∙◌}
use Rattle.spanner_model.specs.Tree.{Tree, empty, one, cat_end, cat, alt_end, alt, rep, cap}
use Rattle.spanner_model.specs.Captures.{VarName}
use Rattle.spanner_model.specs.Sequential.{HasVar, IsSequential}
use Rattle.functional_check.specs.declared.checking.CheckFault.{CheckFault}
use Rattle.functional_check.specs.declared.checking.CheckFault.TheVariants.{BoundTwice, UnderRepeat}
use Rattle.functional_check.specs.Faults.{IsLeast, InTwoParts, OwnFault, HasSequentialParts, IsFaultOver, InnerFault, IsFault}
use Rattle.functional_check.proofs.LeastLaws.{least_one}

-- ---- a sequential formula has no fault

pub sequential_parts : (f : Tree) → IsSequential f → HasSequentialParts f
sequential_parts empty ok = tt
sequential_parts (one bytes) ok = tt
sequential_parts cat_end ok = tt
sequential_parts (cat f rest) ok = (ok.0, sequential_parts rest ok.1)
sequential_parts alt_end ok = tt
sequential_parts (alt f rest) ok = (ok.0, sequential_parts rest ok.1)
sequential_parts (rep f least most) ok = ok.0
sequential_parts (cap x f) ok = ok.0

no_two : (f : Tree) (x : VarName) → IsSequential f → InTwoParts f x → ⊥
no_two (cat f rest) x ok (inl h) = ok.2 x h.0 h.1
no_two (cat f rest) x ok (inr h) = no_two rest x ok.1 h
no_two _ x ok h = h

no_own : (f : Tree) (e : CheckFault) → IsSequential f → OwnFault f e → ⊥
no_own (cat f rest) (BoundTwice x) ok h = no_two (cat f rest) x ok h.0
no_own (rep f least most) (UnderRepeat x) ok h = elim ok.1 [ inl none ↦ none x h.1.0 | inr once ↦ h.0 once ]
no_own (cap y f) (BoundTwice x) ok h = ok.1 h.1
no_own _ _ ok h = h

no_over : (f : Tree) (e : CheckFault) → IsSequential f → (InnerFault f e → ⊥) → IsFaultOver (InnerFault f e) f e → ⊥
no_over f e ok none (inl h) = none h
no_over f e ok none (inr h) = no_own f e ok h.1

no_inner : (f : Tree) (e : CheckFault) → HasSequentialParts f → InnerFault f e → ⊥
no_inner empty e ok h = h
no_inner (one bytes) e ok h = h
no_inner cat_end e ok h = h
no_inner (cat f rest) e ok (inl h) = no_over f e ok.0 (no_inner f e (sequential_parts f ok.0)) h
no_inner (cat f rest) e ok (inr h) = no_inner rest e ok.1 h.1
no_inner alt_end e ok h = h
no_inner (alt f rest) e ok (inl h) = no_over f e ok.0 (no_inner f e (sequential_parts f ok.0)) h
no_inner (alt f rest) e ok (inr h) = no_inner rest e ok.1 h.1
no_inner (rep f least most) e ok h = no_over f e ok (no_inner f e (sequential_parts f ok)) h
no_inner (cap x f) e ok h = no_over f e ok (no_inner f e (sequential_parts f ok)) h

pub no_fault : (f : Tree) (e : CheckFault) → IsSequential f → IsFault f e → ⊥
no_fault f e ok h = no_over f e ok (no_inner f e (sequential_parts f ok)) h

-- ---- no formula has two

own_cat : (f rest : Tree) (e : CheckFault) → OwnFault (cat f rest) e → (x : VarName) × (e ≡ BoundTwice x) × IsLeast (InTwoParts (cat f rest)) x
own_cat f rest (BoundTwice x) h = (x, refl, h)
own_cat f rest (UnderRepeat x) h = absurd h

own_alt : (f rest : Tree) (e : CheckFault) → OwnFault (alt f rest) e → ⊥
own_alt f rest (BoundTwice x) h = h
own_alt f rest (UnderRepeat x) h = h

own_rep : (f : Tree) (least : ℕ) (most : Option ℕ) (e : CheckFault) → OwnFault (rep f least most) e → (x : VarName) × (e ≡ UnderRepeat x) × IsLeast (HasVar f) x
own_rep f least most (BoundTwice x) h = absurd h
own_rep f least most (UnderRepeat x) h = (x, refl, h.1)

own_cap : (y : VarName) (f : Tree) (e : CheckFault) → OwnFault (cap y f) e → e ≡ BoundTwice y
own_cap y f (BoundTwice x) h = ap BoundTwice h.0
own_cap y f (UnderRepeat x) h = absurd h

own_one : (f : Tree) (e g : CheckFault) → OwnFault f e → OwnFault f g → e ≡ g
own_one (cat f rest) e g h k = let a = own_cat f rest e h in let b = own_cat f rest g k in a.1 ∙ ap BoundTwice (least_one (InTwoParts (cat f rest)) a.0 b.0 a.2 b.2) ∙ sym b.1
own_one (alt f rest) e g h k = absurd (own_alt f rest e h)
own_one (rep f least most) e g h k = let a = own_rep f least most e h in let b = own_rep f least most g k in a.1 ∙ ap UnderRepeat (least_one (HasVar f) a.0 b.0 a.2 b.2) ∙ sym b.1
own_one (cap y f) e g h k = own_cap y f e h ∙ sym (own_cap y f g k)
own_one empty (BoundTwice x) g h k = absurd h
own_one empty (UnderRepeat x) g h k = absurd h
own_one (one bytes) (BoundTwice x) g h k = absurd h
own_one (one bytes) (UnderRepeat x) g h k = absurd h
own_one cat_end (BoundTwice x) g h k = absurd h
own_one cat_end (UnderRepeat x) g h k = absurd h
own_one alt_end (BoundTwice x) g h k = absurd h
own_one alt_end (UnderRepeat x) g h k = absurd h

over_one : (f : Tree) (e g : CheckFault) → (InnerFault f e → InnerFault f g → e ≡ g) → IsFaultOver (InnerFault f e) f e → IsFaultOver (InnerFault f g) f g → e ≡ g
over_one f e g inside (inl h) (inl k) = inside h k
over_one f e g inside (inl h) (inr k) = absurd (no_inner f e k.0 h)
over_one f e g inside (inr h) (inl k) = absurd (no_inner f g h.0 k)
over_one f e g inside (inr h) (inr k) = own_one f e g h.1 k.1

pub inner_one : (f : Tree) (e g : CheckFault) → InnerFault f e → InnerFault f g → e ≡ g
inner_one empty e g h k = absurd h
inner_one (one bytes) e g h k = absurd h
inner_one cat_end e g h k = absurd h
inner_one (cat f rest) e g (inl h) (inl k) = over_one f e g (inner_one f e g) h k
inner_one (cat f rest) e g (inl h) (inr k) = absurd (no_fault f e k.0 h)
inner_one (cat f rest) e g (inr h) (inl k) = absurd (no_fault f g h.0 k)
inner_one (cat f rest) e g (inr h) (inr k) = inner_one rest e g h.1 k.1
inner_one alt_end e g h k = absurd h
inner_one (alt f rest) e g (inl h) (inl k) = over_one f e g (inner_one f e g) h k
inner_one (alt f rest) e g (inl h) (inr k) = absurd (no_fault f e k.0 h)
inner_one (alt f rest) e g (inr h) (inl k) = absurd (no_fault f g h.0 k)
inner_one (alt f rest) e g (inr h) (inr k) = inner_one rest e g h.1 k.1
inner_one (rep f least most) e g h k = over_one f e g (inner_one f e g) h k
inner_one (cap x f) e g h k = over_one f e g (inner_one f e g) h k

pub fault_one : (f : Tree) (e g : CheckFault) → IsFault f e → IsFault f g → e ≡ g
fault_one f e g h k = over_one f e g (inner_one f e g) h k
