use Rattle.std.proofs.Common.{◌≡◌, ℕ, true, false, List, [], ◌∷◌, ◌++◌, cond, get_or, take, sym, ap, ◌∙◌}
use Rattle.std.specs.List.{filter}
use Rattle.std.proofs.lemmas.List.{append-nil}
use Rattle.std.proofs.lemmas.List.Elements.{filter_more}
use Rattle.std.proofs.lemmas.Bool.{false_from_ne_true, false≢true}
use Rattle.span_core.specs.Lists.{Has}
use Rattle.span_core.proofs.HasLaws.{Has-get_or}
use Rattle.automaton_reading.specs.Reading.{is_among}
use Rattle.automaton_reading.proofs.Determined.{among_has, has_among}
use Rattle.set_table.proofs.reaching.idle_members.Goals.{then-is_idle+in_ok-push, else-is_idle}
use Rattle.set_table.proofs.reaching.idle_members.Goals as goal

not_among : (xs : List ℕ) (x : ℕ) → (Has xs x → ⊥) → is_among xs x ≡ false
not_among xs x absent = false_from_ne_true (is_among xs x) (λ e. absent (among_has xs x e))

pub is_idle-requires : goal.is_idle-requires
is_idle-requires c =
    let xs = c.args.members.now in
    let i = c.loop-state.state-index in
    c.requires (get_or xs i 0) (Has-get_or xs i 0 c.loop-state-test.true)

pub loop-state-preserved : goal.loop-state-preserved
loop-state-preserved c =
    let xs = c.args.members.now in
    let i = c.loop-state.state-index in
    let x = get_or xs i 0 in
    let t = is_among c.args.automaton.now.graph.idle in
    let more = filter_more t xs i 0 c.loop-state-test.true in
    elim c.if-is_idle.branch [
      | then-is_idle+in_ok-push w ↦
          let yes : t x ≡ true = has_among c.args.automaton.now.graph.idle x (c.is_idle.ensures.0 w.if-is_idle.true) in
          (λ j. (w.idle-is j).items) ∙ (w.in_ok-push.ensures.items ∙ ((λ j. c.loop-state.invariant j ++ x ∷ []) ∙ sym (more ∙ ap (λ b. filter t (take i xs) ++ cond b (x ∷ []) []) yes)))
      | else-is_idle w ↦
          let not_there : t x ≡ false = not_among c.args.automaton.now.graph.idle x (λ h. false≢true (sym w.if-is_idle.false ∙ c.is_idle.ensures.1 h)) in
          (λ j. (w.idle-is j).items) ∙ (c.loop-state.invariant ∙ sym (more ∙ (ap (λ b. filter t (take i xs) ++ cond b (x ∷ []) []) not_there ∙ append-nil (filter t (take i xs)))))
    ]
