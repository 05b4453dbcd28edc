use Rattle.std.proofs.Common.{rules}
use Rattle.std.proofs.lemmas.List.Sorted.{IsNonDecreasingBy-from_sort_by_key}
use Rattle.reg_alloc.proofs.Numbered.{in_order}
use Rattle.reg_alloc.proofs.scan.in_order.Goals as goal

pub returns : goal.returns
returns c =
    in_order _ _ _ c.in_ok-entries.ensures c.sort_by_key.ensures.permutation
    (IsNonDecreasingBy-from_sort_by_key (λ e. e.interval.first) _ c.in_ok-sort_by_key.ensures.sorted
    (λ a r f' k. search rules))
