use Rattle.std.proofs.Common.{◌<◌, ◌≤◌, length, rules}
use Rattle.object_memory.specs.Answers.{mode_of}
use Rattle.object_memory.proofs.Changed.{zero_set, zero_past}
use Rattle.object_memory.proofs.memory.Memory.zero.Goals as goal

pub returns-then-k-len-clause-memory : goal.returns-then-k-len-clause-memory
returns-then-k-len-clause-memory c =
    let past : length c.args.self.now.objects.items ≤ c.args.object = search rules in
    zero_past (mode_of c.args.self.now.mode) c.args.self.now.objects.items c.args.self.now.notes.items c.args.object
    past

pub returns-clause-memory : goal.returns-clause-memory
returns-clause-memory c =
    let within : c.args.object < length c.args.self.now.objects.items = search rules in
    rw (c.begin.ensures, c.fresh-each.ensures)
    (zero_set (mode_of c.args.self.now.mode) c.args.self.now.objects.items c.args.self.now.notes.items c.args.object
    c.index_mut.result.now within c.index_mut.ensures.value)
