use Rattle.std.proofs.Common.{◌≡◌, ◌+◌, ◌-◌, ◌%◌, ◌≤◌, ◌⊎◌, length, take, false}
use Rattle.tag_mem.specs.Areas.{IsArea, end_of}
use Rattle.tag_mem.specs.Memory.{area_with}
use Rattle.tag_mem.proofs.area.Area.fill.Given as goal

-- the bytes so far are written, whole granules but for the last
abbrev pub invariant-loop-done : goal.invariant-loop-done
invariant-loop-done l = record {
  area : IsArea l.fn.self;
  fits : l.at + length l.bytes ≤ end_of l.fn.self;
  within : l.done ≤ length l.bytes;
  whole : (l.done % 16 ≡ 0) ⊎ (l.done ≡ length l.bytes);
  so_far : l.self ≡ area_with l.fn.self l.at (take l.done l.bytes) false;
}

abbrev pub decreases-loop-done : goal.decreases-loop-done
decreases-loop-done l = length l.bytes - l.done
