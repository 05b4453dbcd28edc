-- Where the code of an expression or statement is made: the program with the table of its types, the function with the
-- places of its variables, and the code so far.
use Rattle.std.specs.Prelude.{◌≡◌, ℕ, nat_lt, true, false, List, length, Some, slice_get}
use Rattle.c_tree.specs.Types as ty
use Rattle.c_tree.specs.Types.{Ty, Function, is_function}
use Rattle.c_tree.specs.Views.{IsOrdered}
use Rattle.c_tree.specs.WellTyped.{Frame, type_in}
use Rattle.c_tree.specs.declared.typed.FunDef.{FunDef}
use Rattle.c_tree.specs.declared.typed.Typed.{Typed}
use Rattle.c_tree.specs.declared.typed.VarDef.{VarDef}
use Rattle.cheri_c_sem.specs.Order.{Ordered}
use Rattle.cheri_c_sem.specs.Programs.{lengths_of}
use Rattle.tac_ir.specs.declared.code.TacKind.TheVariants as kinds
use Rattle.tac_lower.specs.declared.context.Home.{Home}
use Rattle.tac_lower.specs.declared.context.Home.TheVariants as home
use Rattle.tac_emit.specs.declared.emitter.Emitter.{Emitter}
use Rattle.tac_lower.specs.declared.types.TypeFacts.{TypeFacts}
use Rattle.tac_emit.specs.Emitted.{HasKind, IsWell, Built, Pending, Adds}
use Rattle.tac_lower.specs.Nodes.{kept_as, or_int}
use Rattle.tac_lower.specs.Tables.{TableFits}

-- what a function gives, as its type says it
abbrev pub given_in : Ty → Ty
given_in (Function r ps) = ty.bare r
given_in t = ty.Void

-- a function of a program as the place of expressions
abbrev pub frame_of : Typed → FunDef → Frame
frame_of p d = record { program = p; vars = d.vars; gives = given_in (type_in p d.of) }

-- the program, whose functions have function types, and the table of its types
pub record Ready (p : Typed) (types : List TypeFacts) : Type 0 where
  pub order : Ordered p
  pub ordered : IsOrdered p
  pub funs : (k : ℕ) (d : FunDef) → slice_get p.funs k ≡ Some d → is_function (type_in p d.of) ≡ true
  pub table : TableFits p.types types

-- where variable x stands: its value, or the pointer to it, is in a temp
abbrev pub HomeFits : Typed → FunDef → Emitter → VarDef → Home → Type 0
HomeFits p d e v (home.Temp t k) = HasKind e t k × (or_int (kept_as (type_in p v.of)) ≡ k) × (v.simple ≡ true)
HomeFits p d e v (home.Object n t) = HasKind e t (kinds.Cap false) × (nat_lt n (length (lengths_of p d.vars)) ≡ true)

pub record Housed (p : Typed) (d : FunDef) (homes : List Home) (e : Emitter) : Type 0 where
  pub many : length homes ≡ length d.vars
  pub stand : (x : ℕ) (h : Home) (v : VarDef) → slice_get homes x ≡ Some h → slice_get d.vars x ≡ Some v →
      HomeFits p d e v h

-- all of it
pub record Scene (p : Typed) (d : FunDef) (types : List TypeFacts) (homes : List Home) (e : Emitter) : Type 0 where
  pub ready : Ready p types
  pub housed : Housed p d homes e
  pub well : IsWell p d e

-- Code is added for a part of a function, with at most n temps and n labels
pub record Lowered (p : Typed) (d : FunDef) (types : List TypeFacts) (homes : List Home) (old new : Emitter) (n : ℕ) :
    Type 0 where
  pub built : Built p d old new
  pub scene : Scene p d types homes new
  pub adds : Adds old new n n

-- Code is added of which these labels do not stand so far, with at most n temps and n labels
pub record Opened (p : Typed) (d : FunDef) (types : List TypeFacts) (homes : List Home) (old new : Emitter)
    (ls : List ℕ) (n : ℕ) : Type 0 where
  pub pending : Pending p d old new ls
  pub scene : Scene p d types homes new
  pub adds : Adds old new n n
