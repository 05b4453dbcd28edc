-- When the lengths of two arrays agree.
use Rattle.std.specs.Prelude.{ℕ, Bool, ◌||◌, ◌==◌}
use Rattle.c_type_levels.specs.declared.agreement.Lengths.{Lengths}
use Rattle.c_type_levels.specs.declared.agreement.Lengths.TheVariants.{Equal, Compatible}

-- as `same` and `compatible` judge them
abbrev pub lengths_of : Lengths → ℕ → ℕ → Bool
lengths_of Equal m n = m == n
lengths_of Compatible m n = m == n || m == 0 || n == 0
