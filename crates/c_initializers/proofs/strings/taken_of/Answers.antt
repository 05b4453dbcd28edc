use Rattle.std.proofs.Common.{◌+◌, min, sym, ap, ◌∙◌}
use Rattle.std.specs.Prelude.{◌==◌, nat_le, if◌then◌else◌}
use Rattle.c_initializers.proofs.strings.taken_of.Goals as goal

pub returns-then-has_room : goal.returns-then-has_room
returns-then-has_room c =
    let n = c.args.count in
    let room = c.room_of-room.ensures ∙ ap (λ k. (if k == 0 then n else k)) c.row_of-length.ensures.count in (
      ap (λ m. nat_le n (m + 1)) (sym room) ∙ sym c.has_room.ensures ∙ c.if-has_room.true,
      c.min.ensures ∙ ap (min n) room,
    )

pub returns-else-has_room : goal.returns-else-has_room
returns-else-has_room c =
    let n = c.args.count in
    let room = c.room_of-room.ensures ∙ ap (λ k. (if k == 0 then n else k)) c.row_of-length.ensures.count in
    ap (λ m. nat_le n (m + 1)) (sym room) ∙ sym c.has_room.ensures ∙ c.if-has_room.false
