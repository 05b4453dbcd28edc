use Rattle.std.proofs.Common.{◌≡◌, ◌+◌, ◌^◌, ◌≤◌, drop, map}
use Rattle.cap_reloc.specs.Initial.{lowest, highest}
use Rattle.cap_reloc.specs.Pointers.{extent_of}
use Rattle.cap_reloc.proofs.bytes.stretch_of.Given as goal

abbrev pub invariant-loop-c : goal.invariant-loop-c
invariant-loop-c l = record {
  low : lowest l.base (map extent_of (drop l.c-index l.objects)) ≡ lowest l.fn.table.0 (map extent_of l.objects);
  high : highest l.end (map extent_of (drop l.c-index l.objects))
      ≡ highest (l.fn.table.0 + l.fn.table.1) (map extent_of l.objects);
  ordered : l.base ≤ l.end;
  most : l.end ≤ 2 ^ 40;
}
