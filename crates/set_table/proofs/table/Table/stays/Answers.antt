use Rattle.std.proofs.Common.{◌∙◌, ℕ, ◌<◌, sym, ap, subst, arith, length}
use Rattle.std.specs.Prelude.{IsTrue, ◌↔◌}
use Rattle.std.specs.FinSet as bytes
use Rattle.std.proofs.lemmas.List.{get_or_read}
use Rattle.set_table.specs.Tabled.{HasStayed, Stays, Tabled}
use Rattle.set_table.proofs.table.Table.stays.Goals as goal

pub returns : goal.returns
returns c =
    let s = c.self.inside.store in
    let sound = c.self.invariant in
    let k = c.args.set in
    subst (λ (t : Tabled). (b : ℕ) → IsTrue (bytes.contains c.index.result.now b) ↔ (HasStayed t k × Stays t k b)) c.self.view_is
    (λ b.
    let within = subst (λ (t : Tabled). k < length t.sets) (sym c.self.view_is) c.requires in
    let is = get_or_read s.stays.items k c.index.result.now (omega (arith, within, sound.stays.count)) c.index.ensures bytes.empty in
    let r = sound.stays.are k b within in
    ((λ t. r.0 (sym (ap (λ v. bytes.contains v b) is) ∙ t)), (λ h. ap (λ v. bytes.contains v b) is ∙ r.1 h)))
