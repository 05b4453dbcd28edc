-- A layout as the extent of a type, and a member beside the others.
use Rattle.std.specs.Prelude.{ℕ, Bool, true, false}
use Rattle.c_tree.specs.Layout.{Extent, behind, beside}
use Rattle.cap_layout.specs.declared.answers.Layout.{Layout}

abbrev pub extent_is : Layout → Extent
extent_is l = record { size = l.size; align = l.align }

-- no type within the limit has a greater alignment
abbrev pub greatest_align : ℕ
greatest_align = 131072

-- members of a union share their bytes
abbrev pub placing : Bool → Extent → Extent → Extent
placing false = behind
placing true = beside
