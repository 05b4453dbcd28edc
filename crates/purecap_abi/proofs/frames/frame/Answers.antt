use Rattle.std.proofs.Common.{◌+◌, ◌*◌, arith}
use Rattle.obj_mem.specs.declared.map.Frame.{Frame}
use Rattle.purecap_abi.proofs.FrameLaws.{kept_bytes_most, is_for, has_frame, make}
use Rattle.purecap_abi.proofs.frames.frame.Goals as goal

pub overflow_add-saved-2 : goal.overflow_add-saved-2
overflow_add-saved-2 c =
    let n = c.requires.homes.few in
    omega (
      arith,
      kept_bytes_most c.greatest-align.result c.args.places.now.homes c.requires.homes,
      c.kept_bytes.ensures,
      c.from.ensures,
    )

pub place-size-requires-clause-small : goal.place-size-requires-clause-small
place-size-requires-clause-small c =
    let n = c.requires.homes.few in
    omega (
      arith,
      kept_bytes_most c.greatest-align.result c.args.places.now.homes c.requires.homes,
      c.kept_bytes.ensures,
      c.from.ensures,
    )

pub returns-clause-frame : goal.returns-clause-frame
returns-clause-frame c =
    let e = c.place-size.ensures in
    let f : Frame = record {
      size = c.place-size.result;
      align = c.greatest-align.result;
      slots = c.from_vec.result;
      saved = 16 + 16 * c.from.result + c.kept_bytes.result;
    } in
    has_frame c.args.locals.now.items c.args.places.now.homes c.args.outgoing c.place-size.new.starts.items f
    c.requires.locals c.requires.homes c.requires.outgoing
    (make c.as_slice-objects.result.now c.args.locals.now.items c.args.places.now.homes c.args.outgoing
    c.as_slice.result.now c.place-size.new.starts.items c.in_ok-slots.slots.items f
    c.as_slice-objects.ensures.value c.as_slice.ensures.value c.from_vec.ensures c.greatest-align.ensures
    (omega (arith, c.from.ensures, c.kept_bytes.ensures)) c.in_ok-slots.ensures e.placed e.above e.multiple e.most)

pub returns-clause-saved : goal.returns-clause-saved
returns-clause-saved c =
    let e = c.place-size.ensures in
    let f : Frame = record {
      size = c.place-size.result;
      align = c.greatest-align.result;
      slots = c.from_vec.result;
      saved = 16 + 16 * c.from.result + c.kept_bytes.result;
    } in
    is_for c.args.locals.now.items c.args.places.now.homes c.args.outgoing c.place-size.new.starts.items f
    c.requires.locals c.requires.homes c.requires.outgoing
    (make c.as_slice-objects.result.now c.args.locals.now.items c.args.places.now.homes c.args.outgoing
    c.as_slice.result.now c.place-size.new.starts.items c.in_ok-slots.slots.items f
    c.as_slice-objects.ensures.value c.as_slice.ensures.value c.from_vec.ensures c.greatest-align.ensures
    (omega (arith, c.from.ensures, c.kept_bytes.ensures)) c.in_ok-slots.ensures e.placed e.above e.multiple e.most)
