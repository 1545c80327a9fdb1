use Rattle.std.proofs.lemmas.List.Filters.{dedup_is}
use Rattle.std.proofs.lemmas.List.Kept.{Contains-dedup, Contains-from_dedup, IsStrictlySortedBy-dedup}
use Rattle.std.proofs.lemmas.List.Sorted.{Contains-permutation, IsPermutation-sym}
use Rattle.span_core.proofs.HasLaws.{Has-Contains, Contains-Has}
use Rattle.plain_spanner.proofs.order.sort_once.Goals as goal

pub returns : goal.returns
returns g c =
    let is = dedup_is g.T.PartialEq.eq _ _ c.dedup.ensures.filtered in
    let moved = c.sort_unstable.ensures.permutation in
    record {
      in_order = rw is (IsStrictlySortedBy-dedup g.met.T.Ord.total g.met.T.Ord.matches_eq _ c.sort_unstable.ensures.sorted);
      keeps = λ x h. Has-Contains _ x (rw is (Contains-dedup g.met.T.Eq.laws c.requires.exact _ x (Contains-permutation _ _ x moved (Contains-Has _ x h))));
      adds_none = λ x h. Has-Contains _ x (Contains-permutation _ _ x (IsPermutation-sym _ _ moved) (Contains-from_dedup g.T.PartialEq.eq _ x (rw is at (Contains-Has _ x h))));
    }
