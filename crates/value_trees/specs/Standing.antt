-- Where the trees of a typed program's expressions are values and where places: as the expressions are.
use Rattle.std.specs.Prelude.{◌≡◌, ℕ, Bool, true, false, List, Some, slice_get}
use Rattle.typing_laws.specs.Scoping.{IsAmong, TermScoped}
use Rattle.c_tree.specs.Terms.{type_of}
use Rattle.c_tree.specs.Types.{Ty, is_tagged}
use Rattle.c_tree.specs.Views.{terms_of, term_at}
use Rattle.c_tree.specs.WellTyped.{TermFits}
use Rattle.c_tree.specs.declared.typed.Expr.{Expr}
use Rattle.c_tree.specs.declared.typed.Typed.{Typed}
use Rattle.c_tree.specs.declared.typed.VarDef.{VarDef}
use Rattle.typing_laws.specs.Valued.{IsValue, IsPlace}
use Rattle.cheri_c_sem.specs.Expressions.{expr_tree}
use Rattle.cheri_c_sem.specs.Tree.{Ex}
use Rattle.cheri_c_sem.specs.Types.{is_simple, objects_before}
use Rattle.lower_runs.specs.States.{Scene}
use Rattle.lower_runs.specs.Trees.{HasSpot, Values, Places}

-- the blocks of those of these variables that are objects have been entered
abbrev pub HaveSpots : List VarDef → Scene → List ℕ → Type 0
HaveSpots vars g js =
    (x : ℕ) → IsAmong js x → is_simple (slice_get vars x) ≡ false → HasSpot (g.spot (objects_before vars x))

-- a struct or union stands as a place, and another value as a value
abbrev pub Stands : Scene → (tagged : Bool) → Ex → Type 0
Stands g true e = Places g e
Stands g false e = Values g e

-- the tree of an expression that is a value, and that of one that is a place, where these variables are in scope
pub record TreeStands (p : Typed) (vars : List VarDef) (gives : Ty) (js : List ℕ) (g : Scene) (k : ℕ) : Type 0 where
  pub value : IsValue (term_at (terms_of p) k) →
      TermFits (record { program = p; vars = vars; gives = gives }) (term_at (terms_of p) k) →
      TermScoped js (term_at (terms_of p) k) →
      Stands g (is_tagged (type_of (term_at (terms_of p) k))) (expr_tree p vars k)
  pub place : IsPlace (term_at (terms_of p) k) →
      TermFits (record { program = p; vars = vars; gives = gives }) (term_at (terms_of p) k) →
      TermScoped js (term_at (terms_of p) k) → Places g (expr_tree p vars k)

abbrev pub TreesStand : Typed → Type 0
TreesStand p = (vars : List VarDef) (gives : Ty) (js : List ℕ) (g : Scene) → HaveSpots vars g js →
    (k : ℕ) (e : Expr) → slice_get p.exprs k ≡ Some e → TreeStands p vars gives js g k
