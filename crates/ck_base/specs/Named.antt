-- Bytes under names.
use Rattle.std.specs.Prelude.{◌≡◌, ◌≢◌, ℕ, List, map, position, slice_get, option_and_then, bytes_eq, string_bytes}
use Rattle.std.specs.Prelude.{Option, Some, String, Vec}
use Rattle.std.specs.declared.alloc.Global.{Global}

-- the bytes of each name that is there
abbrev pub FileMap : Type 0
FileMap = List ℕ → Option (List ℕ)

-- Names, and at the same places the bytes that stand under them.
pub record NamedBytes : Type 0 where
  pub names : List (List ℕ)
  pub contents : List (List ℕ)

abbrev pub named_bytes : List (String Global) → List (Vec ℕ Global) → NamedBytes
named_bytes names contents = record { names = map string_bytes names; contents = map (λ bytes. bytes.items) contents }

-- the place of the first of these names that is equal
abbrev pub place_of : List (List ℕ) → List ℕ → Option ℕ
place_of names name = position (λ other. bytes_eq other name) names

-- the bytes of each name that is there: of equal names the first counts
abbrev pub file_named : NamedBytes → FileMap
file_named files name = option_and_then (slice_get files.contents) (place_of files.names name)

-- the bytes stand under the name, and every other name is as it was
pub record PutsFile (old new : NamedBytes) (name bytes : List ℕ) : Type 0 where
  pub done : file_named new name ≡ Some bytes
  pub others : (other : List ℕ) → other ≢ name → file_named new other ≡ file_named old other
