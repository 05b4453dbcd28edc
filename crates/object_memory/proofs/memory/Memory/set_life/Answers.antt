use Rattle.std.proofs.Common.{◌<◌, ◌≤◌, length, rules}
use Rattle.object_memory.specs.Views.{life_of}
use Rattle.object_memory.proofs.Changed.{life_set, life_past}
use Rattle.object_memory.proofs.memory.Memory.set_life.Goals as goal

pub returns-then-k-len-clause-memory : goal.returns-then-k-len-clause-memory
returns-then-k-len-clause-memory c =
    let past : length c.args.self.now.objects.items ≤ c.args.object = search rules in
    life_past c.args.self.now.objects.items c.args.self.now.notes.items c.args.object (life_of c.args.life) past

pub returns-clause-memory : goal.returns-clause-memory
returns-clause-memory c =
    let within : c.args.object < length c.args.self.now.objects.items = search rules in
    rw c.set_life.ensures (life_set c.args.self.now.objects.items c.args.self.now.notes.items c.args.object
    (life_of c.args.life) c.index_mut.result.now within c.index_mut.ensures.value)
