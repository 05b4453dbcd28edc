-- What the words of a function of a setting depend on.
use Rattle.std.specs.Prelude.{ℕ, ◌+◌, length, slice_get}
use Rattle.obj_mem.specs.Table.{heap_entry}
use Rattle.place_inject.specs.Frames.{Setting, homes_of}
use Rattle.select_words.specs.Selecting.{Selecting}

abbrev pub selecting : Setting → (fun : ℕ) → Selecting
selecting s fun = record {
  frame = slice_get s.map.frames fun;
  homes = homes_of s fun;
  numbers = s.numbers fun;
  literals = length s.needs.globals;
  functions = length s.needs.globals + length s.needs.literals;
  heap = heap_entry s.needs;
}
