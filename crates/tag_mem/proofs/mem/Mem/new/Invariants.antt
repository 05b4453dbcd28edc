use Rattle.std.proofs.Common.{◌≡◌, take, map}
use Rattle.tag_mem.specs.Regions.{fresh_area}
use Rattle.tag_mem.proofs.mem.Mem.new.Given as goal

-- the regions so far have their areas
abbrev pub invariant-loop-region : goal.invariant-loop-region
invariant-loop-region l = l.areas.items ≡ map fresh_area (take l.region-index l.region-items)
