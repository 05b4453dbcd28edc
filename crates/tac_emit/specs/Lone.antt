-- Pointers to locals that did not become zero directly before.
use Rattle.std.specs.Prelude.{ℕ, ◌+◌, ◌==◌, if◌then◌else◌, List, [], ◌∷◌, Option, Some, None}
use Rattle.tac_ir.specs.declared.code.TacInstr.{TacInstr}
use Rattle.tac_ir.specs.declared.code.TacInstr.TheVariants as instr

-- the local that becomes zero
abbrev pub zeroed_by : TacInstr → Option ℕ
zeroed_by (instr.Zero v) = Some v
zeroed_by i = None

abbrev pub is_other : Option ℕ → ℕ → ℕ
is_other None w = 1
is_other (Some v) w = if v == w then 0 else 1

-- 1 where the pointer to a local is made that did not become zero directly before
abbrev pub is_lone : Option ℕ → TacInstr → ℕ
is_lone z (instr.Local to w) = is_other z w
is_lone z i = 0

-- how many such pointers there are, behind code that ends with the Zero of a local, if any
abbrev pub lone_behind : Option ℕ → List TacInstr → ℕ
lone_behind z [] = 0
lone_behind z (i ∷ is) = is_lone z i + lone_behind (zeroed_by i) is
