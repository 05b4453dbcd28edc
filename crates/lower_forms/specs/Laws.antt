-- Which premises each of these facts has.
use Rattle.std.specs.Prelude.{◌≡◌, ℕ, ◌<◌, ◌≤◌, true, length}
use Rattle.c_tree.specs.Typing.{Sound}
use Rattle.c_tree.specs.TreeWeight.{HasLightFunctions}
use Rattle.c_tree.specs.declared.typed.Typed.{Typed}
use Rattle.cheri_c_sem.specs.Programs.{lengths_of}
use Rattle.tac_ir.specs.WellFormed.{is_well_formed}
use Rattle.tac_ir.specs.Within.{Within, WithinCosts}
use Rattle.tac_ir.specs.declared.code.Tac.{Tac}
use Rattle.tac_ir.specs.declared.code.TacInstr.TheVariants as instr
use Rattle.lower_runs.specs.Programs.{IsProgram}
use Rattle.lower_forms.specs.Forms.{Has, EachFunction, EachInstruction, IsNamed, TakesParameters, MainGives, IsMade}
use Rattle.lower_forms.specs.Forms.{IsCounted, IsShortCall, HasForm}

abbrev pub IsWellFormed : Tac → Typed → Type 0
IsWellFormed t p = is_well_formed t p ≡ true

abbrev pub CodeIsNamed : Type 0
CodeIsNamed = (p : Typed) (t : Tac) → IsWellFormed t p → EachFunction p t (λ d f. IsNamed p d f)

abbrev pub ParametersAreTaken : Type 0
ParametersAreTaken = (p : Typed) → Sound p → (t : Tac) → IsWellFormed t p → TakesParameters p t

abbrev pub MainGivesInt : Type 0
MainGivesInt = (p : Typed) → Sound p → MainGives p

abbrev pub CodeIsMade : Type 0
CodeIsMade = (p : Typed) → Sound p → (t : Tac) → IsProgram p t → EachInstruction t IsMade

abbrev pub CopiesAreCounted : Type 0
CopiesAreCounted = (p : Typed) → Sound p → (t : Tac) → IsProgram p t → IsWellFormed t p → EachInstruction t IsCounted

abbrev pub CallsAreShort : Type 0
CallsAreShort =
    (p : Typed) → HasLightFunctions p → (t : Tac) → WithinCosts t p → EachInstruction t IsShortCall

-- each object of a function becomes zero in its code
abbrev pub ObjectsBecomeZero : Type 0
ObjectsBecomeZero = (p : Typed) → Sound p → (t : Tac) → IsProgram p t →
    EachFunction p t (λ d f. (var : ℕ) → var < length (lengths_of p d.vars) → Has f (instr.Zero var))

-- all of them, of the code of a program of light functions
abbrev pub CodeHasForm : Type 0
CodeHasForm =
    (p : Typed) → Sound p → HasLightFunctions p → (t : Tac) → IsProgram p t → IsWellFormed t p → Within t p →
    HasForm p t
