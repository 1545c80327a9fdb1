use Rattle.std.proofs.Common.{List, ℕ, sym, ap, refl, Bool, ◌∙◌, Some}
use Rattle.std.specs.Global.{Vec}
use Rattle.std.specs.Str.{bytes_eq}
use Rattle.marked_automaton.proofs.Listed.{get_map}
use Rattle.automaton_reading.proofs.MeasureLaws.{same_bytes}
use Rattle.numbered_lists.specs.Numbered.{lists, with_set}
use Rattle.numbered_lists.proofs.SetsLaws.{insert_map}
use Rattle.numbered_lists.proofs.numbering.NumberedLists.number_of.Goals as goal

pub returns-clause-sets : goal.returns-clause-sets
returns-clause-sets c =
    let items : Vec ℕ → List ℕ = λ v. v.items in
    let eq : Vec ℕ → Vec ℕ → Bool = λ x y. bytes_eq x.items y.items in
    ap lists c.in_ok-number.ensures.keys ∙ (insert_map items eq (λ x y. refl) c.self.inside.index.keys c.args.set ∙ ap (λ (xs : List (List ℕ)). with_set xs c.args.set.items) c.self.view_is)

pub returns-clause-number : goal.returns-clause-number
returns-clause-number c =
    let items : Vec ℕ → List ℕ = λ v. v.items in
    let s = c.in_ok-number.ensures.stored in
    get_map items c.insert_full.new.self.keys c.in_ok-number.number s.0 s.1 ∙ ap (λ (xs : List ℕ). Some xs) (sym (same_bytes c.args.set.items s.0.items s.2))
