use Rattle.cap_layout.proofs.Places.{has_member}
use Rattle.c_rows.proofs.layouts.offset.Goals as goal

pub offset_of-requires : goal.offset_of-requires
offset_of-requires c =
    has_member c.args.p.now.types c.as_slice.result.now c.args.t c.args.member _ _ _
    c.as_slice-in-Some-Struct.result.now c.as_slice.ensures
    c.in-Some-Struct.ensures.lookup.0 c.in-Some-Struct.ensures.lookup.1 c.in-Some-Struct.field-0-is
    c.as_slice-in-Some-Struct.ensures c.if-member-as_slice.true
