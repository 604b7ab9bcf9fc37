-- What is sorted is in order.
use Rattle.std.proofs.Common.{vec_items, subst}
use Rattle.std.specs.List.Sorted.{IsPermutation}
use Rattle.search.proofs.Sorting.{ranked_in_order}
use Rattle.search.proofs.ranking.in_order.Goals as goal

pub returns : goal.returns
returns c = ranked_in_order _ (vec_items c.sort_unstable.new.self) (subst (λ ps. IsPermutation ps (vec_items c.sort_unstable.new.self)) c.in_ok-order.ensures c.sort_unstable.ensures.permutation) c.sort_unstable.ensures.sorted
