-- Functions that are called, and their arguments.
use Rattle.std.specs.Prelude.{◌≡◌, ℕ, ◌<◌, List, [], ◌∷◌, map, Option, Some, None}
use Rattle.std.specs.Global.{Vec}
use Rattle.ck_base.specs.declared.positions.Pos.{Pos}
use Rattle.c_tree.specs.Types.{Ty, Pointer, Function}
use Rattle.c_tree.specs.Terms.{Term}
use Rattle.c_tree.specs.Views.{tys}
use Rattle.c_tree.specs.Scopes.{refuse}
use Rattle.c_tree.specs.Conversions as meant
use Rattle.c_tree.specs.Expressions.{call_of}
use Rattle.c_operand_rules.specs.declared.calls.Signature.{Signature}
use Rattle.c_expressions.specs.declared.nodes.Nodes.{Nodes}
use Rattle.c_expressions.specs.declared.nodes.Operand.{Operand}
use Rattle.c_expressions.specs.Agreement.{AreBelow}
use Rattle.c_expressions.specs.Nodes.{type_in, term_in, type_count, term_count}

abbrev pub AreThere : ℕ → List Operand → Type 0
AreThere n [] = Unit {0}
AreThere n (x ∷ xs) = (x.node < n) × AreThere n xs

pub record AreTerms (n : Nodes) (ks : Vec ℕ) (xs : List Term) : Type 0 where
  pub there : AreBelow (term_count n) ks.items
  pub is : map (term_in n) ks.items ≡ xs

pub record Has (n : Nodes) (t : Ty) (g : Signature) : Type 0 where
  pub gives : g.gives < type_count n
  pub params : AreBelow (type_count n) g.params.items
  pub is : t ≡ Pointer (Function (type_in n g.gives) (tys (map (type_in n) g.params.items)))

-- what a call of a value of the type finds: a function, or that it is refused
abbrev pub IsCallee : Nodes → Ty → Option Signature → Type 0
IsCallee n t None = (f : meant.Operand) (xs : List meant.Operand) (p : Pos) → call_of t f xs p ≡ refuse 133 f.first
IsCallee n t (Some g) = Has n t g
