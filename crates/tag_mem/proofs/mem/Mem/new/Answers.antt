use Rattle.std.proofs.Common.{map, ap, ◌∙◌}
use Rattle.std.proofs.lemmas.List.{take_all}
use Rattle.tag_mem.specs.Regions.{LieFrom, fresh_area, fresh}
use Rattle.tag_mem.proofs.Fresh.{IsRegion-at, IsMemory-fresh, IsZeroed-fresh}
use Rattle.tag_mem.proofs.mem.Mem.new.Goals as goal

pub zeroed-requires : goal.zeroed-requires
zeroed-requires c =
    let lie : LieFrom 0 c.deref-region-items.result.now = rw c.deref-region-items.ensures.value c.requires in
    IsRegion-at 0 c.deref-region-items.result.now c.loop-region.region-index
    (record { base = 0; length = 0 }) lie c.loop-region-test.true

pub returns-clause-value : goal.returns-clause-value
unfolding fresh
returns-clause-value c =
    c.loop-region.invariant ∙ ap (map fresh_area)
    (take_all c.loop-region.region-index c.deref-region-items.result.now c.loop-region-test.false
    ∙ c.deref-region-items.ensures.value)

pub invariant_of-result : goal.invariant_of-result
invariant_of-result c = rw (returns-clause-value c) (IsMemory-fresh c.args.regions.now.items c.requires)

pub returns-clause-by_address : goal.returns-clause-by_address
returns-clause-by_address c = rw (returns-clause-value c) (IsZeroed-fresh c.args.regions.now.items c.requires)
