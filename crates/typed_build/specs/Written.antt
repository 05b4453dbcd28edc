-- What is written of a program's machine code: a file that loads, under a legal map.
use Rattle.std.specs.Prelude.{◌≡◌, ℕ, ◌<◌, List, length, Ok}
use Rattle.std.specs.List.{All}
use Rattle.c_tree.specs.declared.typed.Typed.{Typed}
use Rattle.obj_mem.specs.Agreement.{Paired}
use Rattle.obj_mem.specs.Counted.{count_of}
use Rattle.obj_mem.specs.declared.map.Map.{Map}
use Rattle.bounds_place.specs.Placing.{IsPlacing}
use Rattle.bounds_place.specs.declared.sizes.Sizes.{Sizes}
use Rattle.cap_reloc.specs.Begins.{beginning, IsRelocation, IsInside}
use Rattle.cap_reloc.specs.Initial.{AreInitial, ObjectsBegin}
use Rattle.cap_reloc.specs.Stored.{IsPointer}
use Rattle.elf_file.specs.declared.image.Image.{Image}
use Rattle.elf_file.specs.declared.image.Reloc.{Reloc}
use Rattle.elf_file.specs.File.{file_of}
use Rattle.elf_file.specs.Reading.{reading}
use Rattle.image_load.specs.Judging.{judged}
use Rattle.typed_build.specs.Image.{image_of}
use Rattle.typed_build.specs.Text.{text_length, text_of}
use Rattle.typed_build.specs.declared.written.Selected.{Selected}

-- With these bytes and relocations a program begins under a map
pub record Begins (p : Typed) (m : Map) (base : ℕ) (bytes : List ℕ) (relocs : List Reloc) : Type 0 where
  pub relocates : Paired (IsRelocation m) (beginning p m) relocs
  pub inside : All (IsInside base (length bytes)) relocs
  pub pointers : All (IsPointer m) relocs
  pub initial : AreInitial p m base bytes
  pub objects : ObjectsBegin p m base bytes
  pub small : All (λ b. b < 256) bytes

abbrev pub image_with : Typed → Selected → Map → ℕ → List ℕ → List Reloc → Image
image_with p s m base bytes relocs =
    image_of m s.start (text_of s.code.items) base bytes relocs s.lines.items (count_of p)

-- The file of the code under a map: it is read as the image of that code and these initial data, and no test of the
-- loader refuses it
pub record IsWritten (p : Typed) (s : Selected) (sizes : Sizes) (m : Map) (file : List ℕ) : Type 0 where
  pub placing : IsPlacing p s.frames.items s.entries.items (text_length (length s.code.items)) sizes m
  pub base : ℕ
  pub bytes : List ℕ
  pub relocs : List Reloc
  pub begins : Begins p m base bytes relocs
  pub whole : file ≡ file_of (image_with p s m base bytes relocs)
  pub read : reading file ≡ Ok (image_with p s m base bytes relocs)
  pub fine : judged (image_with p s m base bytes relocs) ≡ Ok tt

-- the image
abbrev pub image_in : (p : Typed) (s : Selected) (sizes : Sizes) (m : Map) (file : List ℕ) →
    IsWritten p s sizes m file → Image
image_in p s sizes m file w = image_with p s m w.base w.bytes w.relocs
