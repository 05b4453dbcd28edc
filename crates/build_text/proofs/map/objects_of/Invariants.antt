use Rattle.std.proofs.Common.{◌≡◌, take}
use Rattle.std.specs.List.{filter}
use Rattle.obj_mem.specs.Needs.{is_object}
use Rattle.build_text.proofs.map.objects_of.Given as goal

abbrev pub invariant-loop-v : goal.invariant-loop-v
invariant-loop-v l = l.objects.items ≡ filter is_object (take l.v-index l.variables)
