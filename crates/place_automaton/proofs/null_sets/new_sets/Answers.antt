use Rattle.std.proofs.Common.{◌≡◌, ◌∷◌, [], ◌++◌, Bool, true, false, refl, sym, ap, ◌∙◌, append_assoc}
use Rattle.std.proofs.lemmas.Bool.{false≢true}
use Rattle.std.specs.Prelude.{nat_eq, reverse, not, cond}
use Rattle.std.specs.HashSet.{contains}
use Rattle.std.specs.List.{list_any}
use Rattle.place_automaton.specs.Places.{either_once}
use Rattle.place_automaton.proofs.EitherLaws.{known_front, once_new, once_pushed}
use Rattle.place_automaton.proofs.null_sets.new_sets.Goals as goal

not_true : (b : Bool) → not b ≡ true → b ≡ false
not_true false e = refl
not_true true e = absurd (false≢true e)

pub loop-marks-preserved-in-Continue-branch-2 : goal.loop-marks-preserved-in-Continue-branch-2
loop-marks-preserved-in-Continue-branch-2 c =
    let i = c.loop-marks.invariant in
    let m = c.in-Some.marks in
    let front = c.pop.new.self.items in (
      m ∷ i.0,
      i.1 ∙ (ap (λ xs. xs ++ i.0) c.in-Some.ensures.items ∙ append_assoc front (m ∷ []) i.0),
      λ ns known.
          let h = i.2 ns known in
          let E = either_once i.0 ns in
          let n = c.number.result in
          let e : n ≡ m = c.number.ensures in
          let added : true ≡ not (contains nat_eq c.loop-marks.known n) = sym c.if-branch.true ∙ c.in_ok-insert.ensures.added in
          let fresh : list_any (nat_eq m) E ≡ false = sym (h.1 m) ∙ (ap (contains nat_eq c.loop-marks.known) (sym e) ∙ not_true (contains nat_eq c.loop-marks.known n) (sym added)) in (
            ap (λ xs. reverse xs ++ ns) c.in_ok-push.ensures.items ∙ once_pushed m c.loop-marks.new.items i.0 ns h.0 fresh,
            λ q.
                let put : contains nat_eq c.insert.new.self q ≡ cond (nat_eq n q) true (contains nat_eq c.loop-marks.known q) = c.in_ok-insert.ensures.updates.0 q in
                known_front (contains nat_eq c.insert.new.self q) (contains nat_eq c.loop-marks.known q) n q E put (h.1 q)
                ∙ (ap (λ y. list_any (nat_eq q) (y ∷ E)) e ∙ ap (list_any (nat_eq q)) (sym (once_new m i.0 ns fresh))),
          ),
    )
