-- What a program asks of its map and begins with, apart from its lists. The parts of its types lie at most d levels
-- deep in one another.
use Rattle.std.specs.Prelude.{ℕ, ◌+◌, Bool, not, List, ◌++◌, length, map, slice_get}
use Rattle.std.specs.Prelude.{if◌then◌else◌}
use Rattle.std.specs.List.{filter, zip, flat_map}
use Rattle.ck_int.specs.Kinds.{kept_of}
use Rattle.cap_ops.specs.Permissions.{data_permissions, const_permissions}
use Rattle.c_tree.specs.Types.{Ty, is_const}
use Rattle.c_tree.specs.Terms.{Tag, Aim, To_global, To_literal, To_function, Pointing, Variable, Object, Text, Routine}
use Rattle.c_tree.specs.Terms.{Program}
use Rattle.c_tree.specs.TreeLayout.{tree_extent}
use Rattle.c_tree.specs.TreeWeight.{routine_weight}
use Rattle.obj_mem.specs.declared.map.Map.{Map}
use Rattle.obj_mem.specs.Legal.{ObjectNeed, FunctionNeed, Needs}
use Rattle.obj_mem.specs.Needs.{need_by}
use Rattle.obj_mem.specs.Table.{Start, Holds, table_starts, permissions_of}
use Rattle.obj_mem.specs.Values.{Live, Fun}
use Rattle.cap_reloc.specs.Begins.{Begun, entries_from}

module _ (d : ℕ) (tags : List Tag) where
  abbrev pub tree_need : Ty → ℕ → ObjectNeed
  tree_need t permissions = need_by (tree_extent d tags t) permissions

  abbrev pub tree_global : Object → ObjectNeed
  tree_global g = tree_need g.of (if is_const g.of then const_permissions else data_permissions)

  abbrev pub tree_local : Variable → ObjectNeed
  tree_local v = tree_need v.of data_permissions

abbrev pub tree_literal : Text → ObjectNeed
tree_literal t = record { length = length t.bytes; align = 1; permissions = const_permissions }

abbrev pub is_tree_object : Variable → Bool
is_tree_object v = not v.simple

abbrev pub routine_need : ℕ → List Tag → Routine → FunctionNeed
routine_need d tags r = record {
  locals = map (tree_local d tags) (filter is_tree_object r.vars);
  weight = routine_weight r;
}

abbrev pub tree_needs : ℕ → Program → Needs
tree_needs d q = record {
  globals = map (tree_global d q.tags) q.objects;
  literals = map tree_literal q.texts;
  functions = map (routine_need d q.tags) q.routines;
}

-- ---- where its pointers begin

abbrev pub tree_pointer : Pointing → (object permissions : ℕ) → Start
tree_pointer l object permissions = Holds (Live object l.low (l.low + l.length) (kept_of l.offset) permissions)

abbrev pub tree_start : Needs → Pointing → Aim → Start
tree_start n l (To_global g) = tree_pointer l g (permissions_of (slice_get n.globals g))
tree_start n l (To_literal k) = tree_pointer l (length n.globals + k) const_permissions
tree_start n l (To_function f) = Holds (Fun f)

abbrev pub pointing_begun : Needs → ℕ → Pointing → Begun
pointing_begun n base l = record { place = base + l.at; start = tree_start n l l.aim }

abbrev pub pointings_begun : Needs → Object × ℕ → List Begun
pointings_begun n g = map (pointing_begun n g.1) g.0.links

abbrev pub tree_beginning : ℕ → Program → Map → List Begun
tree_beginning d q m = entries_from m.table.0 (table_starts (tree_needs d q))
    ++ flat_map (pointings_begun (tree_needs d q)) (zip q.objects m.globals)
