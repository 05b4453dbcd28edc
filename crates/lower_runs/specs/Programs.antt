-- The code of a program stands for it, function by function; its run is then the program's.
use Rattle.std.specs.Prelude.{◌≡◌, ℕ, suc, List, [], ◌∷◌, Some}
use Rattle.ck_base.specs.World.{World, GivesBytes}
use Rattle.c_tree.specs.Typing.{Sound}
use Rattle.c_tree.specs.declared.typed.FunDef.{FunDef}
use Rattle.c_tree.specs.declared.typed.Typed.{Typed}
use Rattle.obj_mem.specs.Needs.{Legal}
use Rattle.obj_mem.specs.declared.map.Map.{Map}
use Rattle.cheri_c_sem.specs.Programs.{function_tree}
use Rattle.cheri_c_sem.specs.Runs.{placed}
use Rattle.tac_ir.specs.Meaning.{tac}
use Rattle.tac_ir.specs.declared.code.Tac.{Tac}
use Rattle.tac_ir.specs.declared.code.TacFun.{TacFun}
use Rattle.lower_runs.specs.Expressions.{Signature}
use Rattle.lower_runs.specs.Functions.{IsFunction}
use Rattle.lower_runs.specs.Shortened.{IsShortFun}

-- The code of a function stands for it, but that it may lack its end behind a return
pub record IsCodeOf (p : Typed) (signs : ℕ → Signature) (n : ℕ) (d : FunDef) (it : TacFun) : Type 0 where
  pub whole : TacFun
  pub short : IsShortFun it whole
  pub function : (limit : ℕ) → IsFunction p signs (Some whole) n (function_tree p n d) limit

-- those of functions from a number on
abbrev pub AreCodeOf : Typed → (ℕ → Signature) → ℕ → List FunDef → List TacFun → Type 0
AreCodeOf p signs n [] [] = Unit {0}
AreCodeOf p signs n [] (f ∷ fs) = ⊥
AreCodeOf p signs n (d ∷ ds) [] = ⊥
AreCodeOf p signs n (d ∷ ds) (f ∷ fs) = IsCodeOf p signs n d f × AreCodeOf p signs (suc n) ds fs

pub record IsProgram (p : Typed) (t : Tac) : Type 0 where
  pub signs : ℕ → Signature
  pub functions : AreCodeOf p signs 0 p.funs t.funs

-- Such code of a sound program runs under a legal map as the program does, in a world that gives bytes, for any number
-- of turns
abbrev pub ProgramsRun : Type 0
ProgramsRun =
    (p : Typed) → Sound p → (t : Tac) → IsProgram p t → (m : Map) → Legal p m → (w : World) → GivesBytes w →
    (turns : ℕ) → tac t p m w turns ≡ placed p m w turns
