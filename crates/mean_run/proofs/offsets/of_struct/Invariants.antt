use Rattle.std.proofs.Common.{◌≡◌, length}
use Rattle.c_tree.specs.Layout.{extent}
use Rattle.mean_run.specs.Offsets.{AreWithin}
use Rattle.mean_run.proofs.Members.{Begun}
use Rattle.mean_run.proofs.offsets.of_struct.Given as goal

abbrev pub invariant-members : goal.invariant-members
invariant-members l = record {
  count : length l.offsets.items ≡ l.m-index;
  begun : AreWithin (extent l.p.types) 0 l.members →
      Begun (extent l.p.types) l.members l.offsets.items l.end l.m-index;
}
