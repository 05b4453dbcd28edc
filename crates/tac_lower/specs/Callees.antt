-- What is called: a function by its name, and what a library function or intrinsic is in the meaning.
use Rattle.std.specs.Prelude.{ℕ, Option, None}
use Rattle.c_tree.specs.declared.typed.ExprKind.TheVariants as exprs
use Rattle.c_tree.specs.declared.typed.Typed.{Typed}
use Rattle.cheri_c_sem.specs.Operations as work
use Rattle.cheri_c_sem.specs.Operations.{Work}
use Rattle.cheri_c_sem.specs.Tree as tree
use Rattle.tac_ir.specs.declared.code.CapWork.{CapWork}
use Rattle.tac_ir.specs.declared.code.CapWork.TheVariants as cap
use Rattle.tac_ir.specs.declared.code.LibOp.TheVariants as lib
use Rattle.tac_lower.specs.declared.calls.Intrinsic.{Intrinsic}
use Rattle.tac_lower.specs.declared.calls.Intrinsic.TheVariants as intrinsics
use Rattle.tac_lower.specs.declared.calls.Service.{Service}
use Rattle.tac_lower.specs.declared.calls.Service.TheVariants as services
use Rattle.tac_lower.specs.Trees.{IsNode}

-- a node is the name of a function, which stands for a pointer
pub record NamesFunction (p : Typed) (f n : ℕ) : Type 0 where
  pub name : ℕ
  pub decays : IsNode p f (exprs.Decay name)
  pub is : IsNode p name (exprs.Fun n)

abbrev pub work_as : CapWork → Work
work_as cap.Base = work.Base
work_as cap.Offset = work.Offset
work_as cap.Length = work.Length
work_as cap.Tag = work.Tag
work_as cap.Perms = work.Perms
work_as cap.Clear = work.Clear
work_as cap.SetAddress = work.Set_address
work_as cap.AndPerms = work.And_perms
work_as cap.EqualExact = work.Equal_exact
work_as cap.Rounded = work.Rounded
work_as cap.Mask = work.Mask

abbrev pub intrinsic_as : Intrinsic → tree.Service
intrinsic_as intrinsics.Address = tree.Address
intrinsic_as (intrinsics.Bounds exact) = tree.Bounds exact
intrinsic_as (intrinsics.Work op) = tree.Works (work_as op)

abbrev pub service_as : Service → tree.Service
service_as (services.Library lib.PutChar) = tree.Put_char
service_as (services.Library lib.GetChar) = tree.Get_char
service_as (services.Library lib.Malloc) = tree.Malloc
service_as (services.Library lib.Exit) = tree.Exit
service_as services.Exit = tree.Exit
service_as (services.Intrinsic i) = intrinsic_as i

-- bounds are set to a length
abbrev pub HasLength : Intrinsic → Option ℕ → Type 0
HasLength (intrinsics.Bounds exact) None = ⊥
HasLength i b = Unit {0}
