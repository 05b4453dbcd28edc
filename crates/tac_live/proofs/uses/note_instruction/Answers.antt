use Rattle.std.proofs.Common.{length, arith}
use Rattle.tac_live.proofs.UseSteps.{argument_in, note_next}
use Rattle.tac_live.proofs.uses.note_instruction.Goals as goal

pub note-requires : goal.note-requires
note-requires c =
    let within = argument_in c.read-a.result.0 c.read-a.result.1 c.args.i.now c.arguments-t-items.result.now
    (length c.args.uses.now) c.loop-t.t-index c.arguments-t-items.ensures c.read-a.ensures c.requires.reads
    c.loop-t-test.true in
    omega arith

pub loop-t-preserved : goal.loop-t-preserved
loop-t-preserved c =
    let within = argument_in c.read-a.result.0 c.read-a.result.1 c.args.i.now c.arguments-t-items.result.now
    (length c.args.uses.now) c.loop-t.t-index c.arguments-t-items.ensures c.read-a.ensures c.requires.reads
    c.loop-t-test.true in
    note_next c.args.place _ c.arguments-t-items.result.now c.loop-t.t-index c.note_option-2.new.uses c.loop-t.uses
    c.note.new.uses c.loop-t-test.true (omega arith) c.note.ensures c.loop-t.invariant
