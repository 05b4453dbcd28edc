-- What is known of the outside in memory.
use Rattle.std.specs.Prelude.{ℕ, ◌+◌, ◌-◌, ◌^◌, List, min}
pub use Rattle.ck_base.specs.Named.{NamedBytes, named_bytes, place_of, file_named, PutsFile}

-- A source: the bytes that are left, the numbers of the calls that fail, how many calls there were and how many failed.
pub record SourceInMemory : Type 0 where
  pub left : List ℕ
  pub fails : List ℕ
  pub calls : ℕ
  pub faults : ℕ

-- A sink: the bytes that it holds, the most that it can hold, and its calls as above.
pub record SinkInMemory : Type 0 where
  pub held : List ℕ
  pub room : ℕ
  pub fails : List ℕ
  pub calls : ℕ
  pub faults : ℕ

-- Files by name, and the calls of `get` and `put` together as above.
pub record FilesInMemory : Type 0 where
  pub files : NamedBytes
  pub fails : List ℕ
  pub calls : ℕ
  pub faults : ℕ

-- one more, up to the last value of a u64
abbrev pub one_more : ℕ → ℕ
one_more count = min (count + 1) (2 ^ 64 - 1)
