-- Programs: the places of targets, and the edges of each source.
use Rattle.std.proofs.Common.{◌≡◌, ℕ, zero, suc, ◌<◌, ◌≤◌, List, [], ◌∷◌, ◌++◌, take, drop, length, Some, None, inl, inr, refl, sym, ap, ◌∙◌, subst, arith, nat_eq, eq-eqb, ne_eqb, slice_get, length-append}
use Rattle.std.specs.List.{flat_map}
use Rattle.std.proofs.lemmas.List.{take-append-drop}
use Rattle.std.proofs.lemmas.Bool.{cases_eq, cond-true, cond-false}
use Rattle.std.proofs.lemmas.Option.{same_Some}
use Rattle.output_graph.specs.declared.program.Move.{Move}
use Rattle.output_graph.specs.Forward.{Layer, set_cell}
use Rattle.output_graph.specs.Source.{Edges, Descend}
use Rattle.output_graph.specs.Graph.{sets_of}
use Rattle.output_graph.specs.Sets.{HasNot}
use Rattle.output_graph.specs.Programs.{AllDescend, ArePlaced, AreCounted, cut, edge_in, edges_in, place_in, targets_from, with_target}
use Rattle.output_graph.proofs.SetLaws.{AreSingle, not_first, not_later, single_tail, take_all}

-- ---- the place of a set among pairs

pub placed_there : (pairs : Layer) (s k : ℕ) → k ≡ place_in (sets_of pairs) s → k < length pairs → (c : ℕ) × (slice_get pairs k ≡ Some (s, c))
placed_there [] s k is h = absurd (omega arith)
placed_there (p ∷ pairs) s k is h = elim (cases_eq p.0 s) as (λ _. (c : ℕ) × (slice_get (p ∷ pairs) k ≡ Some (s, c))) [
  | inl e ↦
      let z : k ≡ 0 = is ∙ cond-true (nat_eq p.0 s) 0 (suc (place_in (sets_of pairs) s)) (eq-eqb p.0 s e) in
      (p.1, subst (λ n. slice_get (p ∷ pairs) n ≡ Some (s, p.1)) (sym z) (ap (λ (n : ℕ). Some (n, p.1)) e))
  | inr ne ↦
      let z : k ≡ suc (place_in (sets_of pairs) s) = is ∙ cond-false (nat_eq p.0 s) 0 (suc (place_in (sets_of pairs) s)) (ne_eqb p.0 s ne) in
      let r = placed_there pairs s (place_in (sets_of pairs) s) refl (omega arith) in
      (r.0, subst (λ n. slice_get (p ∷ pairs) n ≡ Some (s, r.0)) (sym z) r.1)
]

not_here : (q : ℕ × ℕ) (pairs : Layer) (s : ℕ) → (q.0 ≡ s → ⊥) → HasNot pairs s → HasNot (q ∷ pairs) s
not_here q pairs s ne rest zero p e is = ne (ap (λ (x : ℕ × ℕ). x.0) (same_Some q p e) ∙ is)
not_here q pairs s ne rest (suc j) p e is = rest j p e is

pub placed_none : (pairs : Layer) (s k : ℕ) → k ≡ place_in (sets_of pairs) s → length pairs ≤ k → HasNot pairs s
placed_none [] s k is h = λ j p (e : None ≡ Some p) i. cc
placed_none (q ∷ pairs) s k is h = elim (cases_eq q.0 s) as (λ _. HasNot (q ∷ pairs) s) [
  | inl e ↦
      let z : k ≡ 0 = is ∙ cond-true (nat_eq q.0 s) 0 (suc (place_in (sets_of pairs) s)) (eq-eqb q.0 s e) in absurd (omega arith)
  | inr ne ↦
      let z : k ≡ suc (place_in (sets_of pairs) s) = is ∙ cond-false (nat_eq q.0 s) 0 (suc (place_in (sets_of pairs) s)) (ne_eqb q.0 s ne) in
      not_here q pairs s ne (placed_none pairs s (place_in (sets_of pairs) s) refl (omega arith))
]

pub place_found : (pairs : Layer) (k s c : ℕ) → AreSingle pairs → slice_get pairs k ≡ Some (s, c) → k ≡ place_in (sets_of pairs) s
place_found [] k s c one e = cc
place_found (p ∷ pairs) zero s c one e =
    let is : p ≡ (s, c) = same_Some p (s, c) e in
    sym (cond-true (nat_eq p.0 s) 0 (suc (place_in (sets_of pairs) s)) (eq-eqb p.0 s (ap (λ (x : ℕ × ℕ). x.0) is)))
place_found (p ∷ pairs) (suc k) s c one e = elim (cases_eq p.0 s) as (λ _. suc k ≡ place_in (sets_of (p ∷ pairs)) s) [
  | inl is ↦ (let r : zero ≡ suc k = one zero (suc k) p (s, c) refl e is in absurd (omega arith))
  | inr ne ↦ ap suc (place_found pairs k s c (single_tail p pairs one) e) ∙ sym (cond-false (nat_eq p.0 s) 0 (suc (place_in (sets_of pairs) s)) (ne_eqb p.0 s ne))
]

pub place_missing : (pairs : Layer) (s : ℕ) → HasNot pairs s → length pairs ≡ place_in (sets_of pairs) s
place_missing [] s none = refl
place_missing (p ∷ pairs) s none =
    ap suc (place_missing pairs s (not_later p pairs s none))
    ∙ sym (cond-false (nat_eq p.0 s) 0 (suc (place_in (sets_of pairs) s)) (ne_eqb p.0 s (not_first p pairs s none)))

pub sets_with : (pairs : Layer) (s c : ℕ) → sets_of (set_cell pairs s c) ≡ with_target (sets_of pairs) s
sets_with [] s c = refl
sets_with (p ∷ pairs) s c = elim (cases_eq p.0 s) as (λ _. sets_of (set_cell (p ∷ pairs) s c) ≡ with_target (sets_of (p ∷ pairs)) s) [
  | inl e ↦
      ap (λ (l : Layer). sets_of l) (cond-true (nat_eq p.0 s) ((s, c) ∷ pairs) (p ∷ set_cell pairs s c) (eq-eqb p.0 s e))
      ∙ (ap (λ (n : ℕ). n ∷ sets_of pairs) (sym e) ∙ sym (cond-true (nat_eq p.0 s) (p.0 ∷ sets_of pairs) (p.0 ∷ with_target (sets_of pairs) s) (eq-eqb p.0 s e)))
  | inr ne ↦
      ap (λ (l : Layer). sets_of l) (cond-false (nat_eq p.0 s) ((s, c) ∷ pairs) (p ∷ set_cell pairs s c) (ne_eqb p.0 s ne))
      ∙ (ap (λ (ts : List ℕ). p.0 ∷ ts) (sets_with pairs s c) ∙ sym (cond-false (nat_eq p.0 s) (p.0 ∷ sets_of pairs) (p.0 ∷ with_target (sets_of pairs) s) (ne_eqb p.0 s ne)))
]

-- ---- a target among sets

pub with_last : (sets : List ℕ) (s : ℕ) → place_in sets s ≡ length sets → with_target sets s ≡ sets ++ s ∷ []
with_last [] s is = refl
with_last (t ∷ sets) s is = elim (cases_eq t s) as (λ _. with_target (t ∷ sets) s ≡ t ∷ (sets ++ s ∷ [])) [
  | inl e ↦ (let z = cond-true (nat_eq t s) 0 (suc (place_in sets s)) (eq-eqb t s e) in absurd (omega arith))
  | inr ne ↦
      let z = cond-false (nat_eq t s) 0 (suc (place_in sets s)) (ne_eqb t s ne) in
      cond-false (nat_eq t s) (t ∷ sets) (t ∷ with_target sets s) (ne_eqb t s ne) ∙ ap (λ (ts : List ℕ). t ∷ ts) (with_last sets s (omega arith))
]

pub with_same : (sets : List ℕ) (s : ℕ) → (place_in sets s ≡ length sets → ⊥) → with_target sets s ≡ sets
with_same [] s some = absurd (some refl)
with_same (t ∷ sets) s some = elim (cases_eq t s) as (λ _. with_target (t ∷ sets) s ≡ t ∷ sets) [
  | inl e ↦ cond-true (nat_eq t s) (t ∷ sets) (t ∷ with_target sets s) (eq-eqb t s e)
  | inr ne ↦
      let z = cond-false (nat_eq t s) 0 (suc (place_in sets s)) (ne_eqb t s ne) in
      cond-false (nat_eq t s) (t ∷ sets) (t ∷ with_target sets s) (ne_eqb t s ne) ∙ ap (λ (ts : List ℕ). t ∷ ts) (with_same sets s (λ e. some (z ∙ ap suc e)))
]

-- ---- moves, from the first

pub targets_more : (sets : List ℕ) (xs : List Move) (m : Move) → targets_from sets (xs ++ m ∷ []) ≡ with_target (targets_from sets xs) m.to
targets_more sets [] m = refl
targets_more sets (x ∷ xs) m = targets_more (with_target sets x.to) xs m

pub placed_more : (sets : List ℕ) (xs : List Move) (m : Move) → ArePlaced sets xs → m.place ≡ place_in (targets_from sets xs) m.to → ArePlaced sets (xs ++ m ∷ [])
placed_more sets [] m are is = (is, tt)
placed_more sets (x ∷ xs) m are is = (are.0, placed_more (with_target sets x.to) xs m are.1 is)

pub edges_snoc : (xs : List Move) (m : Move) → edges_in (xs ++ m ∷ []) ≡ edges_in xs ++ edge_in m ∷ []
edges_snoc [] m = refl
edges_snoc (x ∷ xs) m = ap (λ (es : Edges). edge_in x ∷ es) (edges_snoc xs m)

pub placed_take : (sets : List ℕ) (xs : List Move) (n : ℕ) → ArePlaced sets xs → ArePlaced sets (take n xs)
placed_take sets [] zero are = tt
placed_take sets [] (suc n) are = tt
placed_take sets (x ∷ xs) zero are = tt
placed_take sets (x ∷ xs) (suc n) are = (are.0, placed_take (with_target sets x.to) xs n are.1)

pub placed_drop : (sets : List ℕ) (xs : List Move) (n : ℕ) → ArePlaced sets xs → ArePlaced (targets_from sets (take n xs)) (drop n xs)
placed_drop sets [] zero are = tt
placed_drop sets [] (suc n) are = tt
placed_drop sets (x ∷ xs) zero are = are
placed_drop sets (x ∷ xs) (suc n) are = placed_drop (with_target sets x.to) xs n are.1

pub targets_split : (sets : List ℕ) (xs : List Move) (n : ℕ) → targets_from (targets_from sets (take n xs)) (drop n xs) ≡ targets_from sets xs
targets_split sets [] zero = refl
targets_split sets [] (suc n) = refl
targets_split sets (x ∷ xs) zero = refl
targets_split sets (x ∷ xs) (suc n) = targets_split (with_target sets x.to) xs n

pub edges_take : (xs : List Move) (n : ℕ) → edges_in (take n xs) ≡ take n (edges_in xs)
edges_take [] zero = refl
edges_take [] (suc n) = refl
edges_take (x ∷ xs) zero = refl
edges_take (x ∷ xs) (suc n) = ap (λ (es : Edges). edge_in x ∷ es) (edges_take xs n)

pub edges_drop : (xs : List Move) (n : ℕ) → edges_in (drop n xs) ≡ drop n (edges_in xs)
edges_drop [] zero = refl
edges_drop [] (suc n) = refl
edges_drop (x ∷ xs) zero = refl
edges_drop (x ∷ xs) (suc n) = edges_drop xs n

pub edges_length : (xs : List Move) → length (edges_in xs) ≡ length xs
edges_length [] = refl
edges_length (x ∷ xs) = ap suc (edges_length xs)

-- ---- one source more

pub take_more : {A : Type 0} (es more : List A) (n : ℕ) → n ≤ length es → take n (es ++ more) ≡ take n es
take_more [] [] zero h = refl
take_more [] (x ∷ more) zero h = refl
take_more [] more (suc n) h = absurd (omega arith)
take_more (e ∷ es) more zero h = refl
take_more {A = A} (e ∷ es) more (suc n) h = ap (λ (ys : List A). e ∷ ys) (take_more es more n (omega arith))

pub drop_more : {A : Type 0} (es more : List A) (n : ℕ) → n ≤ length es → drop n (es ++ more) ≡ drop n es ++ more
drop_more [] [] zero h = refl
drop_more [] (x ∷ more) zero h = refl
drop_more [] more (suc n) h = absurd (omega arith)
drop_more (e ∷ es) more zero h = refl
drop_more (e ∷ es) more (suc n) h = drop_more es more n (omega arith)

pub take_whole : {A : Type 0} (es : List A) (n : ℕ) → n ≡ length es → take n es ≡ es
take_whole es n h = take_all es n (omega arith)

pub drop_whole : {A : Type 0} (es : List A) (n : ℕ) → n ≡ length es → drop n es ≡ []
drop_whole [] zero h = refl
drop_whole [] (suc n) h = refl
drop_whole (e ∷ es) zero h = absurd (omega arith)
drop_whole (e ∷ es) (suc n) h = drop_whole es n (omega arith)

pub cut_more : (counts : List ℕ) (es more : Edges) (n : ℕ) → n ≡ length more → AreCounted counts es → cut (counts ++ n ∷ []) (es ++ more) ≡ cut counts es ++ more ∷ []
cut_more [] es more n h are =
    ap (λ (xs : Edges). cut (n ∷ []) (xs ++ more)) are ∙ ap (λ (xs : Edges). xs ∷ []) (take_whole more n h)
cut_more (m ∷ counts) es more n h are =
    ap (λ (xs : Edges). xs ∷ cut (counts ++ n ∷ []) (drop m (es ++ more))) (take_more es more m are.0)
    ∙ (ap (λ (xs : Edges). take m es ∷ cut (counts ++ n ∷ []) xs) (drop_more es more m are.0)
    ∙ ap (λ (gs : List Edges). take m es ∷ gs) (cut_more counts (drop m es) more n h are.1))

pub counted_more : (counts : List ℕ) (es more : Edges) (n : ℕ) → n ≡ length more → AreCounted counts es → AreCounted (counts ++ n ∷ []) (es ++ more)
counted_more [] es more n h are =
    subst (λ (xs : Edges). AreCounted (n ∷ []) (xs ++ more)) (sym are) ((let e = h in omega arith), drop_whole more n h)
counted_more (m ∷ counts) es more n h are = (
  (let l = length-append es more in let a = are.0 in omega arith),
  subst (λ (xs : Edges). AreCounted (counts ++ n ∷ []) xs) (sym (drop_more es more m are.0)) (counted_more counts (drop m es) more n h are.1),
)

pub descend_more : (groups : List Edges) (edges : Edges) → AllDescend groups → Descend edges → AllDescend (groups ++ edges ∷ [])
descend_more [] edges all one = (one, tt)
descend_more (g ∷ groups) edges all one = (all.0, descend_more groups edges all.1 one)

pub length_cut : (counts : List ℕ) (es : Edges) → length (cut counts es) ≡ length counts
length_cut [] es = refl
length_cut (n ∷ counts) es = ap suc (length_cut counts (drop n es))

-- the edges of all sources, one after another, are all edges
pub joined_cut : (counts : List ℕ) (es : Edges) → AreCounted counts es → flat_map (λ (group : Edges). group) (cut counts es) ≡ es
joined_cut [] es none = sym none
joined_cut (n ∷ counts) es are = ap (λ (rest : Edges). take n es ++ rest) (joined_cut counts (drop n es) are.1) ∙ take-append-drop n es
