-- Room for what is declared next.
use Rattle.std.specs.Prelude.{◌-◌, ◌<◌, List, length, slice_index_or}
use Rattle.indexmap.specs.IndexMap.{spare}
use Rattle.c_types.specs.declared.scopes.Scope.{Scope}

-- the innermost scope takes one more tag, and one more ordinary name, without memory
abbrev pub HasTagRoom : List Scope → Type 0
HasTagRoom cs = (c : Scope) → 0 < length cs → 0 < spare (slice_index_or cs (length cs - 1) c).tags

abbrev pub HasNameRoom : List Scope → Type 0
HasNameRoom cs = (c : Scope) → 0 < length cs → 0 < spare (slice_index_or cs (length cs - 1) c).names
