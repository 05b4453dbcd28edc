use Rattle.std.proofs.Common.{◌∙◌, ap}
use Rattle.std.specs.Prelude.{option_map}
use Rattle.c_type_sizes.specs.Sizes.{room_extent}
use Rattle.c_types.proofs.Looking.{there_at, kept_extent}
use Rattle.c_types.proofs.scopes.Scopes.room_of.Goals as goal

pub returns-in-None-room-clause-is : goal.returns-in-None-room-clause-is
returns-in-None-room-clause-is c p s h =
    kept_extent c.args.self.now p s c.args.n c.in-Some.tag.now h
    (there_at c.args.self.now.tags.items _ c.args.n c.in-Some.tag.now c.deref.ensures.value
    c.in-Some.ensures.lookup.0 c.in-Some.ensures.lookup.1)
    ∙ ap (option_map room_extent) c.in-None-room.is

pub returns-in-Some-room-clause-is : goal.returns-in-Some-room-clause-is
returns-in-Some-room-clause-is c p s h =
    rw (c.layout.ensures.size, c.layout.ensures.align)
    (kept_extent c.args.self.now p s c.args.n c.in-Some.tag.now h
    (there_at c.args.self.now.tags.items _ c.args.n c.in-Some.tag.now c.deref.ensures.value
    c.in-Some.ensures.lookup.0 c.in-Some.ensures.lookup.1)
    ∙ ap (option_map room_extent) c.in-Some-room.is)
