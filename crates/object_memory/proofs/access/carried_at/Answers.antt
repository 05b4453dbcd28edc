use Rattle.std.proofs.Common.{sym, ◌∙◌}
use Rattle.object_memory.specs.Answers.{mode_of, spot_of}
use Rattle.object_memory.specs.Memories.{memory_at}
use Rattle.object_memory.proofs.Loads.{carried_fails, carried_plain}
use Rattle.object_memory.proofs.access.carried_at.Goals as goal

pub returns-in-Err-clause-value : goal.returns-in-Err-clause-value
returns-in-Err-clause-value c =
    sym (carried_fails (mode_of c.args.mode) (memory_at c.args.objects.now c.args.notes.now) (spot_of c.args.s) c.args.n
    c.in-Err.e (sym c.in-Err.ensures.value))

pub returns-in-Err-carried_bytes-clause-value : goal.returns-in-Err-carried_bytes-clause-value
returns-in-Err-carried_bytes-clause-value c =
    c.in-Err-carried_bytes.ensures.value
    ∙ sym (carried_plain (mode_of c.args.mode) (memory_at c.args.objects.now c.args.notes.now) (spot_of c.args.s)
    c.args.n _ (sym c.in-Ok.ensures.value) (sym c.in-None.ensures))

pub returns-in-Ok-carried_bytes-clause-value : goal.returns-in-Ok-carried_bytes-clause-value
returns-in-Ok-carried_bytes-clause-value c =
    c.in-Ok-carried_bytes.ensures.value
    ∙ sym (carried_plain (mode_of c.args.mode) (memory_at c.args.objects.now c.args.notes.now) (spot_of c.args.s)
    c.args.n _ (sym c.in-Ok.ensures.value) (sym c.in-None.ensures))
