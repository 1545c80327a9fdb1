-- The registers of places, beside the cells of the next layer.
use Rattle.std.proofs.Common.{◌≡◌, ℕ, zero, suc, ◌≤◌, List, [], ◌∷◌, ◌++◌, take, length, Some, None, IfSome, inl, inr, refl, sym, ap, ◌∙◌, subst, arith, nat_eq, eq-eqb, ne_eqb, slice_get}
use Rattle.std.proofs.lemmas.Bool.{cases_eq, cond-true, cond-false}
use Rattle.std.proofs.lemmas.Option.{same_Some}
use Rattle.span_core.specs.Lists.{Has}
use Rattle.span_core.proofs.ListLaws.{get_left}
use Rattle.output_graph.specs.declared.program.Register.{Register}
use Rattle.output_graph.specs.declared.program.Register.TheVariants.{Kept, Made}
use Rattle.output_graph.specs.Forward.{Layer, cell_of, set_cell}
use Rattle.output_graph.specs.Graph.{sets_of}
use Rattle.output_graph.specs.Plans.{put}
use Rattle.output_graph.specs.Programs.{place_in}
use Rattle.output_graph.specs.Running.{AreHeld, IsThere, also_in, cell_in}
use Rattle.output_graph.specs.Sets.{cells_in}

-- a register keeps its cell where one more is made
pub there_more : (sources : Layer) (made : List ℕ) (name : ℕ) (r : Register) (c : ℕ) → cell_in sources made r ≡ Some c → cell_in sources (made ++ name ∷ []) r ≡ Some c
there_more sources made name (Kept k) c e = e
there_more sources made name (Made k) c e = get_left made (name ∷ []) k c e

pub made_there : (made : List ℕ) (name k : ℕ) → k ≡ length made → slice_get (made ++ name ∷ []) k ≡ Some name
made_there [] name zero e = refl
made_there [] name (suc k) e = absurd (omega arith)
made_there (m ∷ made) name zero e = absurd (omega arith)
made_there (m ∷ made) name (suc k) e = made_there made name k (omega arith)

pub held_more : (sources : Layer) (made : List ℕ) (name : ℕ) (held : List Register) (next : Layer) → AreHeld sources made held next → AreHeld sources (made ++ name ∷ []) held next
held_more sources made name [] [] are = tt
held_more sources made name [] (p ∷ next) are = absurd are
held_more sources made name (r ∷ held) [] are = absurd are
held_more sources made name (r ∷ held) (p ∷ next) are = (there_more sources made name r p.1 are.0, held_more sources made name held next are.1)

pub held_length : (sources : Layer) (made : List ℕ) (held : List Register) (next : Layer) → AreHeld sources made held next → length held ≡ length next
held_length sources made [] [] are = refl
held_length sources made [] (p ∷ next) are = absurd are
held_length sources made (r ∷ held) [] are = absurd are
held_length sources made (r ∷ held) (p ∷ next) are = ap suc (held_length sources made held next are.1)

pub held_put : (sources : Layer) (made : List ℕ) (held : List Register) (next : Layer) (place to c : ℕ) (r : Register) → AreHeld sources made held next → place ≡ place_in (sets_of next) to →
    cell_in sources made r ≡ Some c → AreHeld sources made (put held place r) (set_cell next to c)
held_put sources made [] [] place to c r are is e = (e, tt)
held_put sources made [] (p ∷ next) place to c r are is e = absurd are
held_put sources made (x ∷ held) [] place to c r are is e = absurd are
held_put sources made (x ∷ held) (p ∷ next) place to c r are is e = elim (cases_eq p.0 to) as (λ _. AreHeld sources made (put (x ∷ held) place r) (set_cell (p ∷ next) to c)) [
  | inl same ↦
      let z : place ≡ 0 = is ∙ cond-true (nat_eq p.0 to) 0 (suc (place_in (sets_of next) to)) (eq-eqb p.0 to same) in
      let set : set_cell (p ∷ next) to c ≡ (to, c) ∷ next = cond-true (nat_eq p.0 to) ((to, c) ∷ next) (p ∷ set_cell next to c) (eq-eqb p.0 to same) in
      subst (λ (n : ℕ). AreHeld sources made (put (x ∷ held) n r) (set_cell (p ∷ next) to c)) (sym z) (subst (λ (l : Layer). AreHeld sources made (r ∷ held) l) (sym set) (e, are.1))
  | inr ne ↦
      let z : place ≡ suc (place_in (sets_of next) to) = is ∙ cond-false (nat_eq p.0 to) 0 (suc (place_in (sets_of next) to)) (ne_eqb p.0 to ne) in
      let set : set_cell (p ∷ next) to c ≡ p ∷ set_cell next to c = cond-false (nat_eq p.0 to) ((to, c) ∷ next) (p ∷ set_cell next to c) (ne_eqb p.0 to ne) in
      subst (λ (n : ℕ). AreHeld sources made (put (x ∷ held) n r) (set_cell (p ∷ next) to c)) (sym z)
      (subst (λ (l : Layer). AreHeld sources made (x ∷ put held (place_in (sets_of next) to) r) l) (sym set) (are.0, held_put sources made held next (place_in (sets_of next) to) to c r are.1 refl e))
]

-- what the target's place has is what the target has
pub also_is : (sources : Layer) (made : List ℕ) (held : List Register) (next : Layer) (place to : ℕ) → AreHeld sources made held next → place ≡ place_in (sets_of next) to →
    also_in sources made (slice_get held place) ≡ cell_of next to
also_is sources made [] [] place to are is = refl
also_is sources made [] (p ∷ next) place to are is = absurd are
also_is sources made (x ∷ held) [] place to are is = absurd are
also_is sources made (x ∷ held) (p ∷ next) place to are is = elim (cases_eq p.0 to) as (λ _. also_in sources made (slice_get (x ∷ held) place) ≡ cell_of (p ∷ next) to) [
  | inl same ↦
      let z : place ≡ 0 = is ∙ cond-true (nat_eq p.0 to) 0 (suc (place_in (sets_of next) to)) (eq-eqb p.0 to same) in
      ap (λ (n : ℕ). also_in sources made (slice_get (x ∷ held) n)) z ∙ (are.0 ∙ sym (cond-true (nat_eq p.0 to) (Some p.1) (cell_of next to) (eq-eqb p.0 to same)))
  | inr ne ↦
      let z : place ≡ suc (place_in (sets_of next) to) = is ∙ cond-false (nat_eq p.0 to) 0 (suc (place_in (sets_of next) to)) (ne_eqb p.0 to ne) in
      ap (λ (n : ℕ). also_in sources made (slice_get (x ∷ held) n)) z
      ∙ (also_is sources made held next (place_in (sets_of next) to) to are.1 refl ∙ sym (cond-false (nat_eq p.0 to) (Some p.1) (cell_of next to) (ne_eqb p.0 to ne)))
]

pub also_there : (sources : Layer) (made : List ℕ) (held : List Register) (next : Layer) (place : ℕ) → AreHeld sources made held next → IfSome (slice_get held place) (λ r. IsThere sources made r)
also_there sources made [] next place are = tt
also_there sources made (r ∷ held) [] place are = absurd are
also_there sources made (r ∷ held) (p ∷ next) zero are = (p.1, are.0)
also_there sources made (r ∷ held) (p ∷ next) (suc place) are = also_there sources made held next place are.1

-- a place behind all is that of a set that is not there
pub place_free : (next : Layer) (to : ℕ) → place_in (sets_of next) to ≡ length next → cell_of next to ≡ None
place_free [] to is = refl
place_free (p ∷ next) to is = elim (cases_eq p.0 to) as (λ _. cell_of (p ∷ next) to ≡ None) [
  | inl same ↦ (let z = cond-true (nat_eq p.0 to) 0 (suc (place_in (sets_of next) to)) (eq-eqb p.0 to same) in absurd (omega arith))
  | inr ne ↦
      let z = cond-false (nat_eq p.0 to) 0 (suc (place_in (sets_of next) to)) (ne_eqb p.0 to ne) in
      cond-false (nat_eq p.0 to) (Some p.1) (cell_of next to) (ne_eqb p.0 to ne) ∙ place_free next to (omega arith)
]

pub place_taken : (next : Layer) (to : ℕ) → (place_in (sets_of next) to ≡ length next → ⊥) → Has (sets_of next) to
place_taken [] to some = absurd (some refl)
place_taken (p ∷ next) to some = elim (cases_eq p.0 to) as (λ _. Has (sets_of (p ∷ next)) to) [
  | inl same ↦ inl same
  | inr ne ↦
      let z = cond-false (nat_eq p.0 to) 0 (suc (place_in (sets_of next) to)) (ne_eqb p.0 to ne) in
      inr (place_taken next to (λ e. some (z ∙ ap suc e)))
]

-- registers and names tell the layer
pub held_once : (sources : Layer) (made : List ℕ) (held : List Register) (xs ys : Layer) → AreHeld sources made held xs → AreHeld sources made held ys → sets_of xs ≡ sets_of ys → xs ≡ ys
held_once sources made [] [] [] a b e = refl
held_once sources made [] (x ∷ xs) ys a b e = absurd a
held_once sources made [] [] (y ∷ ys) a b e = absurd b
held_once sources made (r ∷ held) [] ys a b e = absurd a
held_once sources made (r ∷ held) (x ∷ xs) [] a b e = absurd b
held_once sources made (r ∷ held) (x ∷ xs) (y ∷ ys) a b e =
    let set : x.0 ≡ y.0 = first x.0 y.0 (sets_of xs) (sets_of ys) e in
    let cell : x.1 ≡ y.1 = same_Some x.1 y.1 (sym a.0 ∙ b.0) in
    let rest : xs ≡ ys = held_once sources made held xs ys a.1 b.1 (later x.0 y.0 (sets_of xs) (sets_of ys) e) in
    λ i. (set i, cell i) ∷ rest i
  where
    first : (m n : ℕ) (ms ns : List ℕ) → m ∷ ms ≡ n ∷ ns → m ≡ n
    first m n ms ns e = cc

    later : (m n : ℕ) (ms ns : List ℕ) → m ∷ ms ≡ n ∷ ns → ms ≡ ns
    later m n ms ns e = cc

pub cell_there : (sources : Layer) (k : ℕ) (p : ℕ × ℕ) → slice_get sources k ≡ Some p → slice_get (cells_in sources) k ≡ Some p.1
cell_there [] k p e = cc
cell_there (q ∷ sources) zero p e = ap (λ (x : ℕ × ℕ). Some x.1) (same_Some q p e)
cell_there (q ∷ sources) (suc k) p e = cell_there sources k p e

-- ---- one place after another

pub held_there : (sources : Layer) (made : List ℕ) (held : List Register) (next : Layer) (k : ℕ) (r : Register) → AreHeld sources made held next → slice_get held k ≡ Some r → IsThere sources made r
held_there sources made [] next k r are e = cc
held_there sources made (x ∷ held) [] k r are e = absurd are
held_there sources made (x ∷ held) (p ∷ next) zero r are e = (p.1, ap (λ (y : Register). cell_in sources made y) (sym (same_Some x r e)) ∙ are.0)
held_there sources made (x ∷ held) (p ∷ next) (suc k) r are e = held_there sources made held next k r are.1 e

pub held_snoc : (sources : Layer) (made : List ℕ) (held : List Register) (next : Layer) (r : Register) (p : ℕ × ℕ) → AreHeld sources made held next → cell_in sources made r ≡ Some p.1 →
    AreHeld sources made (held ++ r ∷ []) (next ++ p ∷ [])
held_snoc sources made [] [] r p are e = (e, tt)
held_snoc sources made [] (q ∷ next) r p are e = absurd are
held_snoc sources made (x ∷ held) [] r p are e = absurd are
held_snoc sources made (x ∷ held) (q ∷ next) r p are e = (are.0, held_snoc sources made held next r p are.1 e)

pub take_next : {A : Type 0} (xs : List A) (k : ℕ) (x : A) → slice_get xs k ≡ Some x → take (suc k) xs ≡ take k xs ++ x ∷ []
take_next [] k x e = cc
take_next {A = A} (y ∷ xs) zero x e = ap (λ (z : A). z ∷ []) (same_Some y x e)
take_next {A = A} (y ∷ xs) (suc k) x e = ap (λ (ys : List A). y ∷ ys) (take_next xs k x e)

pub take_length : {A : Type 0} (xs : List A) (k : ℕ) → k ≤ length xs → length (take k xs) ≡ k
take_length [] zero h = refl
take_length [] (suc k) h = absurd (omega arith)
take_length (x ∷ xs) zero h = refl
take_length (x ∷ xs) (suc k) h = ap suc (take_length xs k (omega arith))

sets_length : (next : Layer) → length (sets_of next) ≡ length next
sets_length [] = refl
sets_length (p ∷ next) = ap suc (sets_length next)

pub targets_long : (sources : Layer) (made : List ℕ) (held : List Register) (next : Layer) (targets : List ℕ) → AreHeld sources made held next → sets_of next ≡ targets → length targets ≡ length held
targets_long sources made held next targets are is = ap length (sym is) ∙ (sets_length next ∙ sym (held_length sources made held next are))
