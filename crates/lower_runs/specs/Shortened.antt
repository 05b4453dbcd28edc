-- Code that lacks what stands behind a return, where no run comes.
use Rattle.std.specs.Prelude.{◌≡◌, ℕ, List, [], ◌∷◌, ◌++◌, Option}
use Rattle.ck_base.specs.World.{World}
use Rattle.c_tree.specs.declared.typed.Typed.{Typed}
use Rattle.obj_mem.specs.declared.map.Map.{Map}
use Rattle.tac_ir.specs.Meaning.{tac}
use Rattle.tac_ir.specs.declared.code.Tac.{Tac}
use Rattle.tac_ir.specs.declared.code.TacFun.{TacFun}
use Rattle.tac_ir.specs.declared.code.TacInstr.{TacInstr}
use Rattle.tac_ir.specs.declared.code.TacInstr.TheVariants as instr

-- no label stands among them, and no `Zero` of an object
abbrev pub AreNeedless : List TacInstr → Type 0
AreNeedless [] = Unit {0}
AreNeedless (instr.Label l ∷ is) = ⊥
AreNeedless (instr.Zero v ∷ is) = ⊥
AreNeedless (i ∷ is) = AreNeedless is

-- The lists are one, or the first ends with a return, and the second goes on behind that
pub data IsShort : List TacInstr → List TacInstr → Type 0 where
  same : {is : List TacInstr} → IsShort is is
  left : (front is : List TacInstr) (v : Option ℕ) → AreNeedless is →
      IsShort (front ++ instr.Return v ∷ []) (front ++ instr.Return v ∷ is)

pub record IsShortFun (short whole : TacFun) : Type 0 where
  pub name : short.name ≡ whole.name
  pub kinds : short.kinds ≡ whole.kinds
  pub code : IsShort short.code whole.code

abbrev pub AreShort : List TacFun → List TacFun → Type 0
AreShort [] [] = Unit {0}
AreShort [] (g ∷ gs) = ⊥
AreShort (f ∷ fs) [] = ⊥
AreShort (f ∷ fs) (g ∷ gs) = IsShortFun f g × AreShort fs gs

-- Then they run alike
abbrev pub ShortCodeRuns : Type 0
ShortCodeRuns =
    (t u : Tac) → AreShort t.funs u.funs → (p : Typed) (m : Map) (w : World) (turns : ℕ) →
    tac t p m w turns ≡ tac u p m w turns
