-- One step: the counter is checked, a word is read and decoded, and its row is done.
use Rattle.std.specs.Prelude.{ℕ, ◌-◌, ◌%◌, ◌^◌, ◌==◌, Bool, true, false, Option, Some, None, Result, Ok, Err}
use Rattle.std.specs.Prelude.{if◌then◌else◌}
use Rattle.ck_base.specs.Runs.{Act, Goes, Puts, Reads, Ends, Limits}
use Rattle.cap_ops.specs.Capability.{null_at}
use Rattle.cap_ops.specs.Access.{checked}
use Rattle.cap_ops.specs.declared.access.Access.TheVariants as access
use Rattle.cap_ops.specs.declared.access.Cause.{Cause}
use Rattle.cap_ops.specs.declared.access.Cause.TheVariants as cause
use Rattle.rv_instr.specs.declared.instr.Instr.{Instr}
use Rattle.rv_instr.specs.declared.instr.Instr.TheVariants.{Ecall}
use Rattle.rv_code.specs.Decoding.{decode_of}
use Rattle.tag_mem.specs.Memory.{number_at}
use Rattle.cap_machine.specs.declared.machine.Machine.{Machine}
use Rattle.cap_machine.specs.declared.end.End.{End}
use Rattle.cap_machine.specs.declared.end.End.TheVariants.{Exit, Trap, Illegal, Steps, ReadFault, WriteFault}
use Rattle.cap_machine.specs.declared.end.Step.{Step}
use Rattle.cap_machine.specs.declared.end.Step.TheVariants.{Next, Ended}
use Rattle.cap_machine.specs.State.{integer, with_register, next, counter}
use Rattle.cap_machine.specs.Rows.{row}

-- ---- the instruction at the counter, or how the step ends without one

abbrev pub decoded : Machine → Option Instr → Result Instr End
decoded m None = Err (Illegal (counter m))
decoded m (Some i) = Ok i

abbrev pub read : Machine → Option ℕ → Result Instr End
read m None = Err (Trap cause.Bounds (counter m))
read m (Some w) = decoded m (decode_of w)

abbrev pub fetch_checked : Machine → Result ℕ Cause → Result Instr End
fetch_checked m (Err e) = Err (Trap e (counter m))
fetch_checked m (Ok at) = read m (number_at m.mem at 4)

unfoldable pub fetched : Machine → Result Instr End
fetched m = fetch_checked m (checked m.pc (counter m) access.Jump)

-- ---- environment calls, by the integer of register 17

-- register 10 is set, and the next instruction follows
abbrev pub answered : Machine → ℕ → Machine
answered m n = next (with_register m 10 (null_at n))

-- what a read gives: the byte, or -1 at the end
abbrev pub read_value : Option ℕ → ℕ
read_value None = 2 ^ 64 - 1
read_value (Some byte) = byte

-- the low byte of register 10
abbrev pub low_byte : Machine → ℕ
low_byte m = integer m 10 % 256

unfoldable pub call : Machine → Act Machine End
call m =
    if integer m 17 == 1 then Puts (low_byte m) (answered m (low_byte m))
    else if integer m 17 == 2 then Reads (λ byte. answered m (read_value byte))
    else if integer m 17 == 3 then Ends (Exit (low_byte m))
    else Ends (Illegal (counter m))

-- ---- the step

-- a row as an act
abbrev pub act_of : Step × Machine → Act Machine End
act_of (Next, m) = Goes m
act_of (Ended e, m) = Ends e

abbrev pub is_call : Instr → Bool
is_call Ecall = true
is_call i = false

abbrev pub act_on : Machine → Instr → Act Machine End
act_on m Ecall = call m
act_on m i = act_of (row m i)

abbrev pub act_fetched : Machine → Result Instr End → Act Machine End
act_fetched m (Err e) = Ends e
act_fetched m (Ok i) = act_on m i

unfoldable pub act : Machine → Act Machine End
act m = act_fetched m (fetched m)

-- the endings of a run that come from its limit and from the outside
abbrev pub limits : Limits End
limits = record { steps = Steps; read_fault = ReadFault; write_fault = WriteFault }

-- how a step's answer ends the run
abbrev pub ending_of : Step → Option End
ending_of Next = None
ending_of (Ended e) = Some e
