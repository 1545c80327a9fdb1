use Rattle.std.proofs.Common.{List, ℕ, refl, Bool}
use Rattle.std.specs.Global.{Vec}
use Rattle.std.specs.Str.{bytes_eq}
use Rattle.span_core.specs.Lists.{AreDistinct}
use Rattle.numbered_lists.proofs.SetsLaws.{lists_apart}
use Rattle.numbered_lists.proofs.numbering.NumberedLists.len.Goals as goal

pub returns-clause-apart : goal.returns-clause-apart
returns-clause-apart c =
    let items : Vec ℕ → List ℕ = λ v. v.items in
    let eq : Vec ℕ → Vec ℕ → Bool = λ x y. bytes_eq x.items y.items in
    rw (← c.self.view_is) (lists_apart items eq (λ x y. refl) c.self.inside.index.keys c.as_slice.ensures.unique)
