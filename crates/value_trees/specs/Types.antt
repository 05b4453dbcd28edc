-- What the lowering asks of the types of a program by their numbers.
use Rattle.std.specs.Prelude.{◌≡◌, ℕ, ◌≤◌, ◌⊎◌, List, Some, slice_get}
use Rattle.c_tree.specs.Layout.{bare, members_of, size_limit}
use Rattle.c_tree.specs.Types as ty
use Rattle.c_tree.specs.Types.{Ty}
use Rattle.c_tree.specs.Views.{terms_of, term_at}
use Rattle.c_tree.specs.WellTyped.{TermFits, type_in}
use Rattle.c_tree.specs.declared.typed.ExprKind.TheVariants as exprs
use Rattle.c_tree.specs.declared.typed.Member.{Member}
use Rattle.c_tree.specs.declared.typed.Typed.{Typed}
use Rattle.c_tree.specs.declared.typed.VarDef.{VarDef}
use Rattle.cheri_c_sem.specs.Types.{is_record, size_in}
use Rattle.value_trees.specs.Nodes.{IsExpr, type_at}

-- a type is another one, but for a `const`
abbrev pub IsBare : (s t : Ty) → Type 0
IsBare s t = (s ≡ t) ⊎ (s ≡ ty.bare t)

-- types that differ by `const` alone are laid out alike
pub record TypesAgree (p : Typed) : Type 0 where
  pub sizes : (t u : ℕ) → IsBare (type_in p t) (type_in p u) → size_in p.types t ≡ size_in p.types u
  pub records : (t u : ℕ) → IsBare (type_in p t) (type_in p u) →
      is_record (bare p.types t) ≡ is_record (bare p.types u)

-- a type is no larger than an object may be
abbrev pub IsSmall : Typed → ℕ → Type 0
IsSmall p t = size_in p.types t ≤ size_limit

-- no expression has a larger type, nor is a member larger that is taken of one
pub record AreSmall (p : Typed) : Type 0 where
  pub nodes : (vars : List VarDef) (gives : Ty) (k : ℕ) →
      TermFits (record { program = p; vars = vars; gives = gives }) (term_at (terms_of p) k) → IsSmall p (type_at p k)
  pub members : (k a n : ℕ) → IsExpr p k (exprs.Member a n) → (j : ℕ) (m : Member) →
      slice_get (members_of (bare p.types (type_at p a))) j ≡ Some m → IsSmall p m.of
