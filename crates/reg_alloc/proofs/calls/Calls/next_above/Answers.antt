use Rattle.std.proofs.Common.{rules, leb}
use Rattle.std.proofs.lemmas.List.Sorted.{IsPartitionPoint-from_clause, IsPartitionedBy-leb}
use Rattle.reg_alloc.proofs.NextCall.{next_above}
use Rattle.reg_alloc.proofs.calls.Calls.next_above.Goals as goal

pub returns : goal.returns
returns c =
    let e = c.as_slice-numbers.ensures.value in
    let point = IsPartitionPoint-from_clause (λ y. leb y c.args.number) _ _ c.partition_point-place.ensures.partitioned
    (rw e (IsPartitionedBy-leb (λ x. x) _ c.args.number c.args.self.now.ordered)) (λ a r f' k. search rules) in
    rw c.copied.ensures (next_above c.args.self.now.numbers.items c.args.number c.partition_point-place.result
    c.get.result c.args.self.now.ordered (rw e at point) (rw e at c.get.ensures.lookup))
