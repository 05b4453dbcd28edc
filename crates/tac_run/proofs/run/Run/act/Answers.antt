use Rattle.tac_run.proofs.run.Run.act.Goals as goal

pub returns-in-PutChar : goal.returns-in-PutChar
returns-in-PutChar g c = rw (c.in-Lib.is, c.in-PutChar.is, ← c.as_slice.ensures) (c.put_char.ensures _ _)

pub returns-in-GetChar : goal.returns-in-GetChar
returns-in-GetChar g c = rw (c.in-Lib.is, c.in-GetChar.is) (c.get_char.ensures c.in-Lib.args _ _)
