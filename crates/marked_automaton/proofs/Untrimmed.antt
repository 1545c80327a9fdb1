-- Where each state is kept, trimming changes nothing.
use Rattle.std.proofs.Common.{◌≡◌, ℕ, zero, suc, ◌+◌, ◌<◌, ◌↔◌, Bool, true, false, List, [], ◌∷◌, length, Option, Some, refl, sym, ap, subst, arith, inl, inr, ◌∙◌}
use Rattle.std.specs.List.{filter_map, cons_option}
use Rattle.span_core.specs.Lists.{Has}
use Rattle.marked_automaton.specs.declared.way.Way.{Way}
use Rattle.marked_automaton.specs.declared.way.Stop.{Stop}
use Rattle.marked_automaton.specs.Automaton.{Automaton, IsWhole}
use Rattle.marked_automaton.specs.Inside.{flagged}
use Rattle.marked_automaton.specs.Reach.{IsFlagged}
use Rattle.marked_automaton.specs.Reduct.{IsUseful}
use Rattle.marked_automaton.specs.Trimmed.{IsBetween, count_set, kept_flags, moved_stop, moved_way, number_of, numbered, stop_at, trimmed, way_between}
use Rattle.marked_automaton.proofs.Numbers.{count_le}
use Rattle.marked_automaton.proofs.TrimLaws.{trimmed_useful}

number_kept : (k : ℕ) (flags : List Bool) (p : ℕ) → count_set flags ≡ length flags → p < length flags → number_of (numbered k flags) p ≡ Some (k + p)
number_kept k [] p all l = absurd (omega arith)
number_kept k (true ∷ flags) zero all l = ap Some (omega arith)
number_kept k (true ∷ flags) (suc p) all l = number_kept (suc k) flags p (omega (arith, all)) (omega (arith, l)) ∙ ap Some (omega arith)
number_kept k (false ∷ flags) p all l = absurd (omega (arith, all, count_le flags))

flags_kept : (useful flags : List Bool) → count_set useful ≡ length useful → length useful ≡ length flags → kept_flags useful flags ≡ flags
flags_kept [] [] all len = refl
flags_kept [] (f ∷ flags) all len = absurd (omega (arith, len))
flags_kept (b ∷ useful) [] all len = absurd (omega (arith, len))
flags_kept (true ∷ useful) (f ∷ flags) all len = ap (λ (xs : List Bool). f ∷ xs) (flags_kept useful flags (omega (arith, all)) (omega (arith, len)))
flags_kept (false ∷ useful) (f ∷ flags) all len = absurd (omega (arith, all, count_le useful))

each_kept : {X : Type 0} (h : X → Option X) (xs : List X) → ((x : X) → Has xs x → h x ≡ Some x) → filter_map h xs ≡ xs
each_kept h [] all = refl
each_kept h (x ∷ xs) all =
    ap (λ o. cons_option o (filter_map h xs)) (all x (inl refl)) ∙ ap (λ ys. x ∷ ys) (each_kept h xs (λ y l. all y (inr l)))

module _ (B : Automaton) (whole : IsWhole B) (useful idle : List Bool) (len : length useful ≡ B.states) (len_idle : length useful ≡ length idle)
    (idle_is : B.idle ≡ flagged 0 idle) (all : count_set useful ≡ length useful) where
  kept : (p : ℕ) → p < B.states → number_of (numbered 0 useful) p ≡ Some p
  kept p l = number_kept 0 useful p all (omega (arith, l, len)) ∙ ap Some (omega arith)

  pub trimmed_itself : trimmed B useful idle ≡ B
  trimmed_itself =
      let numbers = numbered 0 useful in
      let starts : filter_map (number_of numbers) B.starts ≡ B.starts = each_kept (number_of numbers) B.starts (λ p h. kept p (whole.starts p h)) in
      let ways : filter_map (moved_way numbers) B.ways ≡ B.ways =
      each_kept (moved_way numbers) B.ways (λ (y : Way) h.
      ap (λ o. way_between o (number_of numbers y.to) y) (kept y.from (whole.froms y h))
      ∙ ap (λ o. way_between (Some y.from) o y) (kept y.to (whole.tos y h))) in
      let stops : filter_map (moved_stop numbers) B.stops ≡ B.stops =
      each_kept (moved_stop numbers) B.stops (λ (x : Stop) h. ap (λ o. stop_at o x) (kept x.state (whole.stops x h))) in
      let flags : flagged 0 (kept_flags useful idle) ≡ B.idle = ap (flagged 0) (flags_kept useful idle all len_idle) ∙ sym idle_is in
      let states : count_set useful ≡ B.states = all ∙ len in
      λ i. record { states = states i; starts = starts i; ways = ways i; stops = stops i; idle = flags i }

  pub all_useful : ((p : ℕ) → IsFlagged useful p ↔ IsBetween B.starts B.ways B.stops p) → (p : ℕ) → p < B.states → IsUseful B p
  all_useful exactly =
      subst (λ (A : Automaton). (p : ℕ) → p < A.states → IsUseful A p) trimmed_itself (trimmed_useful B whole useful idle len len_idle idle_is exactly)
