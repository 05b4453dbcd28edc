use Rattle.std.proofs.lemmas.List.Sorted.{IsNonDecreasingBy-from_sort}
use Rattle.reg_alloc.proofs.calls.Calls.new.Goals as goal

pub invariant_of-result : goal.invariant_of-result
invariant_of-result c = record { ordered = IsNonDecreasingBy-from_sort (λ x. x) _ c.in_ok-sort.ensures.sorted }
