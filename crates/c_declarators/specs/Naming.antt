-- What an ordinary name denotes, where it stands for a type.
use Rattle.std.specs.Prelude.{◌≡◌, ℕ, Option, Some, None}
use Rattle.c_types.specs.declared.entries.Entity.{Entity}
use Rattle.c_types.specs.declared.entries.Entity.TheVariants.{Alias}

abbrev pub alias_in : Entity → Option ℕ
alias_in (Alias t) = Some t
alias_in e = None

-- a typedef name, by what is found
abbrev pub IsAlias : Option Entity → Option ℕ → Type 0
IsAlias None r = r ≡ None
IsAlias (Some e) r = r ≡ alias_in e
