use Rattle.std.proofs.Common.{◌⊎◌, inl, inr}
use Rattle.std.specs.Prelude.{IsTrue}
use Rattle.std.specs.FinSet as bytes
use Rattle.way_exits.specs.Home.{IsOnWay}
use Rattle.way_exits.proofs.RegionLaws.{union_cases}
use Rattle.way_exits.proofs.inside.with_bytes.Goals as goal

pub returns : goal.returns
returns c b h =
    elim (union_cases c.args.taken.now c.args.way.now.bytes c.union.result c.union.ensures b h) as (λ _. IsTrue (bytes.contains c.args.taken.now b) ⊎ IsOnWay c.args.way.now c.args.states.now c.args.state b) [
      | inl old ↦ inl old
      | inr here ↦ let l = c.leads_to.ensures c.if-not-leads_to.false in inr (l.0, l.1, l.2, here)
    ]
