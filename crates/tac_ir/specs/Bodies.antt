-- What is well formed in a function, said of the struct that has it.
use Rattle.std.specs.Prelude.{◌≡◌, ℕ, Bool, not, List, Option, count_by}
use Rattle.c_tree.specs.declared.typed.FunDef.{FunDef}
use Rattle.c_tree.specs.declared.typed.Typed.{Typed}
use Rattle.c_tree.specs.declared.typed.VarDef.{VarDef}
use Rattle.cheri_c_sem.specs.Kinds.{Kind}
use Rattle.tac_ir.specs.Signatures.{Signs}
use Rattle.tac_ir.specs.WellFormed as wf
use Rattle.tac_ir.specs.declared.body.Body.{Body}
use Rattle.tac_ir.specs.declared.code.TacInstr.{TacInstr}
use Rattle.tac_ir.specs.declared.code.TacKind.{TacKind}
use Rattle.tac_ir.specs.declared.signatures.Signature.{Signature}

-- a definition about a function, at the function of a body
abbrev pub in_body : {A : Type 0} → (Typed → FunDef → List TacKind → List TacInstr → A) → Body → A
in_body f b = f b.program.now b.def.now b.kinds.now b.code.now

-- the objects among its variables are counted
abbrev pub HasCounted : Body → Type 0
HasCounted b = b.objects ≡ count_by (λ (v : VarDef). not v.simple) b.def.now.vars

-- the temps are as many as the kinds, and have them
abbrev pub all_have_in : Body → List ℕ → List Kind → Bool
all_have_in b = wf.all_have (in_body wf.has b)

-- the answer for a call, by what was found of the function type
abbrev pub CallFits : Body → Option Signature → Option ℕ → List ℕ → Bool → Type 0
CallFits b found to args r =
    (s : Option wf.Signature) → Signs b.program.now.types s found → r ≡ in_body wf.call_fits b s to args
