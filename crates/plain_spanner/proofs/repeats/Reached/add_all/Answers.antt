use Rattle.std.proofs.Common.{◌≡◌, ℕ, get_or, refl}
use Rattle.span_core.specs.Lists.{Has}
use Rattle.span_core.proofs.ListLaws.{prefix_same, prefix_then}
use Rattle.plain_spanner.proofs.TellsLaws.{from_none, from_more, from_all}
use Rattle.plain_spanner.proofs.EndLaws.{only_equal}
use Rattle.plain_spanner.proofs.repeats.Reached.add_all.Goals as goal

abbrev Same : ℕ → ℕ → Type 0
Same x y = x ≡ y

pub loop-end-init : goal.loop-end-init
loop-end-init c = (from_none Same (Has c.args.self.now.ends.items), prefix_same c.args.self.now.ends.items)

pub loop-end-preserved : goal.loop-end-preserved
loop-end-preserved c = (
  from_more Same (Has c.args.self.now.ends.items) (Has c.loop-end.self.ends.items) (Has c.add.new.self.ends.items) c.args.ends.now
      c.loop-end.end-index (get_or c.args.ends.now c.loop-end.end-index 0) 0
      c.loop-end-test.true refl c.loop-end.invariant.0 c.in_ok-add.ensures.all,
  prefix_then c.args.self.now.ends.items c.loop-end.self.ends.items c.add.new.self.ends.items c.loop-end.invariant.1 c.in_ok-add.ensures.grown,
)

pub returns : goal.returns
returns c = record {
  all = only_equal c.args.ends.now (Has c.args.self.now.ends.items) (Has c.loop-end.self.ends.items)
      (from_all Same (Has c.args.self.now.ends.items) (Has c.loop-end.self.ends.items) c.args.ends.now c.loop-end.end-index c.loop-end.auto.end-index-end c.loop-end-test.false c.loop-end.invariant.0);
  grown = c.loop-end.invariant.1;
}
