-- The count of a program, by which the steps of a machine that runs it are bounded.
use Rattle.std.specs.Prelude.{ℕ, ◌+◌, ◌*◌}
use Rattle.c_tree.specs.Counts.{granules, copies}
use Rattle.c_tree.specs.Weight.{weight}
use Rattle.c_tree.specs.declared.typed.Typed.{Typed}

-- the steps for each turn, and as many for the start
unfoldable pub count_of : Typed → ℕ
count_of p = 32 * weight p + 8 * granules p + 128 * copies p + 4096
