use Rattle.std.proofs.Common.{◌≡◌, ◌/◌}
use Rattle.std.specs.Prelude.{option_map}
use Rattle.obj_mem.specs.Objects.{parts, value_at}
use Rattle.obj_mem.specs.Values.{value_of}
use Rattle.object_memory.specs.Answers.{cells_of, mode_of, plain_cells, shapes_of}
use Rattle.object_memory.proofs.Stores.{found, put_tagged, put_plain}
use Rattle.object_memory.proofs.access.put_piece.Goals as goal

pub returns-in-Tagged : goal.returns-in-Tagged
returns-in-Tagged c = λ notes o h.
    rw (c.put_value.ensures, c.in-Tagged.is) (put_tagged
    (mode_of c.args.mode) c.args.objects.now.items notes c.args.k c.args.at
    (value_of c.in-Tagged.v) c.index_mut.result.now o c.requires.place c.index_mut.ensures.value h)

pub returns-in-Plain : goal.returns-in-Plain
returns-in-Plain c = λ notes o h.
    let same = found c.args.objects.now.items c.args.k c.index.result.now o c.requires.place c.index.ensures h in
    let held : option_map cells_of c.held_parts-held.result
    ≡ option_map (λ v. parts (mode_of c.args.mode) (shapes_of c.args.objects.now.items) v 0 16)
    (value_at o.content (c.args.at / 16)) = rw (same, ← c.as_slice.ensures.value) c.held_parts-held.ensures in
    rw (c.write.ensures, c.in-Plain.is) (put_plain
    (mode_of c.args.mode) c.args.objects.now.items notes c.args.k c.args.at (plain_cells c.in-Plain.bytes)
    (option_map cells_of c.held_parts-held.result) c.index_mut-in-Plain.result.now o c.requires.place
    c.index_mut-in-Plain.ensures.value h held)
