use Rattle.std.proofs.Common.{sym, ◌∙◌}
use Rattle.object_memory.specs.Answers.{mode_of, spot_of}
use Rattle.object_memory.specs.Memories.{memory_at}
use Rattle.object_memory.proofs.Loads.{load_fails, load_plain}
use Rattle.object_memory.proofs.access.load_at.Goals as goal

pub returns-in-Err : goal.returns-in-Err
returns-in-Err c =
    sym (load_fails (mode_of c.args.mode) (memory_at c.args.objects.now c.args.notes.now) (spot_of c.args.s) c.args.n
    c.in-Err.e (sym c.in-Err.ensures.value))

pub returns-in-None : goal.returns-in-None
returns-in-None c =
    let there = c.in-Ok.ensures.value in
    let none = c.in-None.ensures in
    c.read.ensures ∙ sym (load_plain (mode_of c.args.mode) (memory_at c.args.objects.now c.args.notes.now)
    (spot_of c.args.s) c.args.n _ (sym there) (sym none))
