use Rattle.std.proofs.Common.{List, ℕ, sym, ap, ◌∙◌, take}
use Rattle.std.specs.Global.{Vec}
use Rattle.std.specs.List.{take-map}
use Rattle.numbered_lists.specs.Numbered.{lists}
use Rattle.numbered_lists.proofs.numbering.NumberedLists.truncate.Goals as goal

pub returns : goal.returns
returns c =
    let items : Vec ℕ → List ℕ = λ v. v.items in
    ap lists c.truncate.ensures.keys ∙ (sym (take-map items c.args.count c.self.inside.index.keys) ∙ ap (take c.args.count) c.self.view_is)
