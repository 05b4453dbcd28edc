-- The frame that tests give a function without locals.
use Rattle.std.specs.Prelude.{[]}
use Rattle.obj_mem.specs.declared.map.Frame.{Frame}

abbrev pub frame : Frame
frame = record { size = 16; align = 16; slots = []; saved = 16 }
