-- How many objects there are among the first variables of each function.
use Rattle.std.specs.Prelude.{◌≡◌, ℕ, ◌+◌, List, [], length, Option, Some, None, slice_get}
use Rattle.c_tree.specs.declared.typed.FunDef.{FunDef}
use Rattle.c_tree.specs.declared.typed.VarDef.{VarDef}
use Rattle.cheri_c_sem.specs.Types.{objects_before}

-- the counts of one function, for no variable up to all of them
pub record AreCounts (vars : List VarDef) (counts : List ℕ) : Type 0 where
  pub count : length counts ≡ length vars + 1
  pub each : (x n : ℕ) → slice_get counts x ≡ Some n → n ≡ objects_before vars x

abbrev pub vars_of : Option FunDef → List VarDef
vars_of None = []
vars_of (Some f) = f.vars

-- and of all functions
pub record AreLocals (funs : List FunDef) (all : List (List ℕ)) : Type 0 where
  pub count : length all ≡ length funs
  pub each : (f : ℕ) (counts : List ℕ) → slice_get all f ≡ Some counts → AreCounts (vars_of (slice_get funs f)) counts
