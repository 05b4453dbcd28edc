use Rattle.std.proofs.Common.{ap, sym, ◌∙◌}
use Rattle.obj_mem.specs.Access.{reach}
use Rattle.obj_mem.specs.Values.{value_of}
use Rattle.object_memory.specs.Answers.{mode_of, spot_of}
use Rattle.object_memory.specs.Memories.{memory_at}
use Rattle.object_memory.proofs.Loads.{load_there}
use Rattle.object_memory.proofs.access.load.Goals as goal

pub returns-in-Ok : goal.returns-in-Ok
returns-in-Ok c =
    let p = value_of c.args.p in
    let there = ap (λ a. reach a p) (sym c.load_access.ensures.value) ∙ sym c.in-Ok.ensures.value in
    c.load_at.ensures ∙ sym (load_there (mode_of c.args.mode) (memory_at c.args.objects.now c.args.notes.now) p
    c.args.n (spot_of c.in-Ok.s) there)
