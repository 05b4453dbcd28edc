-- The objects that become zero in code: how often, and whether directly before the pointer to them is made.
use Rattle.std.specs.Prelude.{ℕ, ◌≤◌, ◌==◌, nat_lt, if◌then◌else◌, List, Option, Some, length}
use Rattle.std.specs.Prelude.{sum_by}
use Rattle.std.specs.Prelude.{slice_get}
use Rattle.c_tree.specs.declared.typed.FunDef.{FunDef}
use Rattle.c_tree.specs.declared.typed.Typed.{Typed}
use Rattle.tac_ir.specs.Temps.{ZeroesFirst}
use Rattle.tac_ir.specs.Within.{zeroes}
use Rattle.tac_ir.specs.declared.code.TacFun.{TacFun}
use Rattle.tac_lower.specs.declared.context.Home.{Home}
use Rattle.tac_lower.specs.declared.context.Home.TheVariants as home
use Rattle.tac_lower.specs.Parts.{declared_by}

-- ---- variables

-- 1 where object v is the home of a variable
abbrev pub is_object : ℕ → Option Home → ℕ
is_object v (Some (home.Object n t)) = if n == v then 1 else 0
is_object v h = 0

abbrev pub is_taken : List Home → (v x : ℕ) → ℕ
is_taken homes v x = is_object v (slice_get homes x)

-- how often object v is the home of some variables
abbrev pub taken : List Home → List ℕ → ℕ → ℕ
taken homes xs v = sum_by (is_taken homes v) xs

-- of those that are no parameters, so many
abbrev pub is_zeroed : ℕ → List Home → (v x : ℕ) → ℕ
is_zeroed n homes v x = if nat_lt x n then 0 else is_taken homes v x

abbrev pub zeroed : FunDef → List Home → List ℕ → ℕ → ℕ
zeroed d homes xs v = sum_by (is_zeroed (length d.params) homes v) xs

-- of those that blocks in a statement declare
abbrev pub zeroed_in : Typed → FunDef → List Home → (k v : ℕ) → ℕ
zeroed_in p d homes k v = declared_by p (is_zeroed (length d.params) homes v) k

abbrev pub all_zeroed_in : Typed → FunDef → List Home → List ℕ → ℕ → ℕ
all_zeroed_in p d homes ks v = sum_by (λ k. zeroed_in p d homes k v) ks

-- ---- a function

-- no local becomes zero twice, nor is its pointer made before
pub record ZeroesOnce (f : TacFun) : Type 0 where
  pub zeros : (v : ℕ) → sum_by (zeroes v) f.code ≤ 1
  pub first : ZeroesFirst f
