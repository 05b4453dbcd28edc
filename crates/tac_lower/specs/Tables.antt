-- What the table of a program's types keeps of each.
use Rattle.std.specs.Prelude.{◌≡◌, ℕ, ◌^◌, ◌<◌, ◌≤◌, Bool, true, false, List, length, Option, Some, None, slice_get}
use Rattle.std.specs.Prelude.{if◌then◌else◌}
use Rattle.c_tree.specs.Counts.{parts, copied}
use Rattle.c_tree.specs.Layout.{Extent, bare, extent, members_of, size_limit}
use Rattle.c_tree.specs.declared.typed.Member.{Member}
use Rattle.c_tree.specs.declared.typed.CType.{CType}
use Rattle.c_tree.specs.declared.typed.CType.TheVariants as types
use Rattle.c_tree.specs.declared.typed.Typed.{Typed}
use Rattle.c_tree.specs.declared.typed.VarDef.{VarDef}
use Rattle.cap_layout.specs.Answers.{Fits}
use Rattle.cap_layout.specs.declared.answers.Layout.{Layout}
use Rattle.cheri_c_sem.specs.Expressions.{type_of, narrowing_of}
use Rattle.cheri_c_sem.specs.Tree.{Narrowing}
use Rattle.cheri_c_sem.specs.Types.{is_record, is_pointer, pointee_of, size_in, size_of_extent}
use Rattle.tac_ir.specs.declared.code.TacKind.{TacKind}
use Rattle.tac_ir.specs.declared.code.TacKind.TheVariants as kinds
use Rattle.tac_lower.specs.declared.types.TypeFacts.{TypeFacts}

-- of a type without `const` around it: how its scalars are kept, what a pointer points to, and what a function gives
abbrev pub kept_by : Option CType → Option TacKind
kept_by (Some (types.Int k n)) = Some (kinds.Int k)
kept_by (Some (types.Cap signed)) = Some (kinds.Cap signed)
kept_by (Some (types.Pointer t)) = Some (kinds.Cap false)
kept_by c = None

abbrev pub target_by : Option CType → Option ℕ
target_by (Some (types.Pointer t)) = Some t
target_by c = None

abbrev pub given_by : Option CType → Option ℕ
given_by (Some (types.Function t ps)) = Some t
given_by c = None

abbrev pub is_some : {A : Type 0} → Option A → Bool
is_some None = false
is_some (Some a) = true

-- the bytes of a struct or union; none of another type
abbrev pub record_size : TypeFacts → ℕ
record_size f = if f.«record» then f.size else 0

-- a type is no larger than an object may be
abbrev pub IsSmall : List CType → ℕ → Type 0
IsSmall all t = size_in all t ≤ size_limit

-- and so is that of each member of a struct or union
abbrev pub AreSmall : List CType → ℕ → Type 0
AreSmall all t = (k : ℕ) (m : Member) → slice_get (members_of (bare all t)) k ≡ Some m → IsSmall all m.of

abbrev pub HasLayout : Option Extent → Option Layout → Type 0
HasLayout o (Some l) = Fits o l
HasLayout o None = size_of_extent o ≤ size_limit → o ≡ None

-- the size and the alignment of a type that has an extent within the limit; of another one none
abbrev pub LaidOut : Bool → Option Extent → TypeFacts → Type 0
LaidOut true o f = Fits o (record { size = f.size; align = f.align })
LaidOut false o f = (f.size ≡ 0) × (f.align ≡ 1) × HasLayout o None

-- what a type is
pub record AreOwn (o : Option CType) (f : TypeFacts) : Type 0 where
  pub kept : f.kind ≡ kept_by o
  pub points : f.target ≡ target_by o
  pub given : f.gives ≡ given_by o
  pub is_record : f.«record» ≡ is_record o

pub record FactsFit (all : List CType) (t : ℕ) (f : TypeFacts) : Type 0 where
  pub kept : f.kind ≡ kept_by (bare all t)
  pub points : f.target ≡ target_by (bare all t)
  pub given : f.gives ≡ given_by (bare all t)
  pub copied : copied all t ≡ parts (record_size f)
  pub is_record : f.«record» ≡ is_record (bare all t)
  pub laid : LaidOut f.complete (extent all t) f

-- a table has the facts of the first types, and there are no others whose numbers have 32 bits
pub record TableFits (all : List CType) (table : List TypeFacts) : Type 0 where
  pub entries : (t : ℕ) (f : TypeFacts) → slice_get table t ≡ Some f → FactsFit all t f
  pub past : (t : ℕ) → t < 2 ^ 32 → length table ≤ t → length all ≤ t

-- ---- the types of expressions

-- the number of an expression's type
abbrev pub type_at : Typed → ℕ → ℕ
type_at p k = type_of (slice_get p.exprs k)

-- the pointer to an expression's place is narrowed, if that is a member
abbrev pub narrowing_at : Typed → List VarDef → ℕ → Option Narrowing
narrowing_at p vars k = narrowing_of p vars (slice_get p.exprs k)

-- a type is a pointer to a type of so many bytes
pub record IsPointed (all : List CType) (t n : ℕ) : Type 0 where
  pub pointer : is_pointer (bare all t) ≡ true
  pub size : IsSmall all (pointee_of (bare all t)) → n ≡ size_in all (pointee_of (bare all t))
