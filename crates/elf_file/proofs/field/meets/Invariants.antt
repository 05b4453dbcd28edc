use Rattle.std.proofs.Common.{◌≡◌, ◌≤◌, length, drop}
use Rattle.elf_file.specs.Fields.{meets, size_of}
use Rattle.elf_file.proofs.field.meets.Given as goal

abbrev pub invariant-loop-field : goal.invariant-loop-field
invariant-loop-field l = record {
  same : meets (drop l.field-index l.fields) l.rest ≡ meets l.fields l.bytes;
  room : size_of (drop l.field-index l.fields) ≤ length l.rest;
}
