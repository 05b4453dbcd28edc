-- Calls as deep as the turns that are left allow, and meaning over these calls.
use Rattle.std.specs.Prelude.{ℕ, suc, List}
use Rattle.ck_base.specs.World.{World}
use Rattle.obj_mem.specs.Values.{Value}
use Rattle.cheri_c_sem.specs.Operations.{Operations}
use Rattle.cheri_c_sem.specs.Steps.{Then}
use Rattle.cheri_c_sem.specs.Tree.{Fun}
use Rattle.cheri_c_sem.specs.Calls.{calls}

abbrev pub deep : {M : Type 0} → Operations M → World → List Fun → ℕ → List Value → Then M Value
deep ops w funs f vs = λ s. calls ops w funs (suc s.left) f vs s
