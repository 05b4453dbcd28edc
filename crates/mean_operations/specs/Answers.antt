-- What the answers of operations are in the words of the meaning.
use Rattle.std.specs.Prelude.{◌≡◌, ℕ, ◌^◌, ◌<◌, ◌⊎◌, Result, Ok, Err}
use Rattle.obj_mem.specs.declared.value.Value as public
use Rattle.obj_mem.specs.Values.{Value, Int, value_of}
use Rattle.mean_operations.specs.declared.operations.Work as code
use Rattle.mean_operations.specs.declared.operations.Work.TheVariants as work
use Rattle.cheri_c_sem.specs.Operations as meaning

-- a value that is answered
abbrev pub seen : {E : Type 0} → Result public.Value E → Result Value E
seen (Ok v) = Ok (value_of v)
seen (Err e) = Err e

-- a number that is answered, as a value
abbrev pub number_seen : {E : Type 0} → Result ℕ E → Result Value E
number_seen (Ok n) = Ok (Int n)
number_seen (Err e) = Err e

-- an answer that is no number of more than 64 bits
abbrev pub IsWord : {E : Type 0} → Result Value E → Type 0
IsWord (Ok (Int n)) = n < 2 ^ 64
IsWord r = Unit {0}

-- the bytes that an access may take
abbrev pub IsAccess : ℕ → Type 0
IsAccess n = (n ≡ 1) ⊎ (n ≡ 2) ⊎ (n ≡ 4) ⊎ (n ≡ 8) ⊎ (n ≡ 16)

-- what was to be changed was, or is as it was
abbrev pub Changes : {M E : Type 0} → Result M E → M → M → Result (Unit {0}) E → Type 0
Changes r old new (Ok u) = r ≡ Ok new
Changes r old new (Err e) = (r ≡ Err e) × (new ≡ old)

-- what is asked of a capability, or made of it
abbrev pub work_of : code.Work → meaning.Work
work_of work.Offset = meaning.Offset
work_of work.Length = meaning.Length
work_of work.Tag = meaning.Tag
work_of work.Permissions = meaning.Perms
work_of work.Clear = meaning.Clear
work_of work.SetAddress = meaning.Set_address
work_of work.AndPermissions = meaning.And_perms
work_of work.EqualExact = meaning.Equal_exact
work_of work.Rounded = meaning.Rounded
work_of work.Mask = meaning.Mask
