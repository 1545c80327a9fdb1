-- What a program leaves in the registers: the cells of the next layer, under any names.
use Rattle.std.proofs.Common.{◌≡◌, ◌⊎◌, ℕ, zero, suc, ◌≤◌, List, [], ◌∷◌, ◌++◌, take, length, inl, inr, refl, sym, ap, ◌∙◌, subst, arith, length-append}
use Rattle.std.proofs.lemmas.Option.{same_Some}
use Rattle.span_core.specs.Lists.{Has, AreDistinct}
use Rattle.node_arena.specs.Cells.{Holds, NamedLink}
use Rattle.output_graph.specs.declared.program.Plan.{Plan}
use Rattle.output_graph.specs.declared.program.Register.{Register}
use Rattle.output_graph.specs.Forward.{Layer}
use Rattle.output_graph.specs.Graph.{Graph, sets_of}
use Rattle.output_graph.specs.Named.{named, renamed}
use Rattle.output_graph.specs.Programs.{IsNext}
use Rattle.output_graph.specs.Running.{AreHeld, HasCome}
use Rattle.output_graph.specs.Sound.{IsSound, graph_of}
use Rattle.output_graph.proofs.GoingLaws.{all, run_next, run_sound}
use Rattle.output_graph.proofs.HeldLaws.{held_length, targets_long}
use Rattle.output_graph.proofs.NamedLaws.{named_again, named_length, named_own, sound_named}

-- the first registers, by the sets of the next layer, are that layer
pub named_held : (sources : Layer) (made : List ℕ) (held rest : List Register) (registers next : Layer) →
    AreHeld sources made (held ++ rest) registers → AreHeld sources made held next → named (sets_of next) registers ≡ next
named_held sources made [] rest registers [] a b = refl
named_held sources made [] rest registers (p ∷ next) a b = absurd b
named_held sources made (r ∷ held) rest registers [] a b = absurd b
named_held sources made (r ∷ held) rest [] (p ∷ next) a b = absurd a
named_held sources made (r ∷ held) rest (q ∷ registers) (p ∷ next) a b =
    ap (λ c. (p.0, c) ∷ named (sets_of next) registers) (same_Some q.1 p.1 (sym a.0 ∙ b.0)) ∙ ap (λ (l : Layer). p ∷ l) (named_held sources made held rest registers next a.1 b.1)

take_take : (xs : List ℕ) (m n : ℕ) → m ≤ n → take m (take n xs) ≡ take m xs
take_take xs zero n h = none (take n xs) ∙ sym (none xs)
  where
    none : (ys : List ℕ) → take 0 ys ≡ []
    none [] = refl
    none (y ∷ ys) = refl
take_take [] (suc m) zero h = refl
take_take [] (suc m) (suc n) h = refl
take_take (x ∷ xs) (suc m) zero h = absurd (omega arith)
take_take (x ∷ xs) (suc m) (suc n) h = ap (λ ys. x ∷ ys) (take_take xs m n (omega arith))

has_take : (xs : List ℕ) (n x : ℕ) → Has (take n xs) x → Has xs x
has_take [] zero x h = absurd h
has_take [] (suc n) x h = absurd h
has_take (y ∷ xs) zero x h = absurd h
has_take (y ∷ xs) (suc n) x (inl e) = inl e
has_take (y ∷ xs) (suc n) x (inr h) = inr (has_take xs n x h)

distinct_take : (xs : List ℕ) (n : ℕ) → AreDistinct xs → AreDistinct (take n xs)
distinct_take [] zero d = tt
distinct_take [] (suc n) d = tt
distinct_take (x ∷ xs) zero d = tt
distinct_take (x ∷ xs) (suc n) d = ((λ h. d.0 (has_take xs n x h)), distinct_take xs n d.1)

sets_long : (layer : Layer) → length (sets_of layer) ≡ length layer
sets_long [] = refl
sets_long (p ∷ layer) = ap suc (sets_long layer)

module _ (first : Graph) (at : ℕ) (p : Plan) (before : ℕ) (registers : Layer) (cells : List NamedLink) (holds : Holds) (after : ℕ) (come : HasCome first at p before registers cells holds after) where
  pub come_long : length p.targets.items ≤ length registers
  come_long =
      let one = targets_long first.layer come.made p.held.items come.run.next p.targets.items come.run.held come.run.sets in
      let all_held = held_length first.layer come.made (p.held.items ++ come.rest) registers come.held in
      omega (arith, one, all_held, length-append p.held.items come.rest)

  module _ (every : length p.counts.items ≡ length first.layer) where
    abbrev pub whole : Graph
    whole = all first at p before come.made cells holds after come.run come.run.next come.run.held come.run.sets every

    next_sound : (was : ℕ) → IsSound (graph_of cells come.run.next [] 0 was) holds
    next_sound was = run_sound first at p before come.made cells holds after come.run come.run.next come.run.held come.run.sets every was

    pub come_distinct : AreDistinct p.targets.items
    come_distinct = subst AreDistinct come.run.sets (next_sound 0).sets

    module _ (layer : Layer) (same : named p.targets.items layer ≡ named p.targets.items registers) (long : length p.targets.items ≡ length layer) where
      next_is : named p.targets.items layer ≡ come.run.next
      next_is = same ∙ (ap (λ ss. named ss registers) (sym come.run.sets) ∙ named_held first.layer come.made p.held.items come.rest registers come.run.next come.held come.run.held)

      own_is : named (sets_of layer) come.run.next ≡ layer
      own_is = ap (named (sets_of layer)) (sym next_is) ∙ (named_again p.targets.items (sets_of layer) layer long ∙ named_own layer)

      many : length (sets_of layer) ≡ length come.run.next
      many = sets_long layer ∙ (sym (named_length p.targets.items layer long) ∙ ap length next_is)

      pub come_sound : (was : ℕ) → AreDistinct (sets_of layer) → IsSound (graph_of cells layer [] 0 was) holds
      come_sound was distinct =
          subst (λ (l : Layer). IsSound (graph_of cells l [] 0 was) holds) own_is (sound_named (sets_of layer) (graph_of cells come.run.next [] 0 was) holds distinct many (next_sound was))

      pub come_next : (was : ℕ) → IsNext whole (renamed p.targets.items (graph_of cells layer [] 0 was))
      come_next was =
          subst (λ (l : Layer). IsNext whole (graph_of cells l [] 0 was)) (sym next_is)
          (run_next first at p before come.made cells holds after come.run come.run.next come.run.held come.run.sets every was)

    -- the names that are left, or written, are distinct
    pub come_names : (layer : Layer) (n : ℕ) → ((sets_of layer ≡ p.targets.items) ⊎ ((length p.targets.items ≤ n) × (sets_of layer ≡ take (length p.targets.items) (sets_of registers)))) →
        take n (sets_of registers) ≡ sets_of first.layer → AreDistinct (sets_of first.layer) → AreDistinct (sets_of layer)
    come_names layer n (inl e) left distinct = subst AreDistinct (sym e) come_distinct
    come_names layer n (inr (few, e)) left distinct =
        let k : ℕ = length p.targets.items in
        let is : sets_of layer ≡ take k (sets_of first.layer) = e ∙ (sym (take_take (sets_of registers) k n few) ∙ ap (take k) left) in
        subst AreDistinct (sym is) (distinct_take (sets_of first.layer) k distinct)
