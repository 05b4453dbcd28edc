use Rattle.c_type_sizes.proofs.Ends.{room_over}
use Rattle.c_type_sizes.proofs.records.whole_room.Goals as goal

pub returns-in-Err-TooLarge : goal.returns-in-Err-TooLarge
returns-in-Err-TooLarge c shared go ms h =
    room_over shared go ms c.args.end c.in-Err-TooLarge.field-0 c.in-Err-TooLarge.is
    (rw c.in-Err-TooLarge.is at c.in-Err-TooLarge.field-0-is) h
