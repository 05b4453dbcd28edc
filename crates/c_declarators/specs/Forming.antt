-- The types that declarators make, over the types by their numbers.
use Rattle.std.specs.Prelude.{◌≡◌, ℕ, ◌<◌, not, ◌||◌, List, [], ◌∷◌, map, All}
use Rattle.c_tree.specs.Types.{Ty, Tys, Function, bare, in_signature}
use Rattle.c_tree.specs.Views.{tys}
use Rattle.c_tree.specs.Scopes.{State}
use Rattle.c_tree.specs.Readings as meant
use Rattle.c_tree.specs.Declarators as meant_types
use Rattle.c_tree.specs.Declarators.{wrap_on, is_given}
use Rattle.c_types.specs.Stands.{Stands}
use Rattle.c_expressions.specs.declared.nodes.Nodes.{Nodes}
use Rattle.c_expressions.specs.Nodes.{type_in, type_count, Keeps}
use Rattle.c_declarators.specs.declared.parts.Param.{Param}
use Rattle.c_declarators.specs.declared.parts.Wrap.{Wrap}
use Rattle.c_declarators.specs.declared.parts.Wrap.TheVariants.{Point, Row, Gives}
use Rattle.c_declarators.specs.declared.parts.Formed.{Formed}

abbrev pub formed_in : Nodes → Formed → meant_types.Formed
formed_in n f = record {
  of = type_in n f.of;
  lacks = f.faults.lacks;
  misfits = f.faults.misfits;
  too_large = f.faults.too_large;
}

-- the types of parameters in the type of their function
abbrev pub signature_types : Nodes → List Param → List Ty
signature_types n ps = map (λ (p : Param). in_signature (type_in n p.of)) ps

abbrev pub gives_on : Tys → meant_types.Formed → meant_types.Formed
gives_on ps f = record {
  of = Function (bare f.of) ps;
  lacks = f.lacks;
  misfits = f.misfits || not (is_given f.of);
  too_large = f.too_large;
}

-- what one part of a declarator makes
abbrev pub made_on : State → Nodes → Wrap → meant_types.Formed → meant_types.Formed
made_on s n (Point q) f = wrap_on s (meant.Point q) f
made_on s n (Row k) f = wrap_on s (meant.Row k) f
made_on s n (Gives p) f = gives_on (tys (signature_types n p.params.items)) f

-- what the parts of a declarator make, the last of the list first
abbrev pub all_on : State → Nodes → List Wrap → meant_types.Formed → meant_types.Formed
all_on s n [] f = f
all_on s n (w ∷ ws) f = made_on s n w (all_on s n ws f)

-- what is made of a type and what it breaks. The types are those of the old nodes, in states for which these stand
pub record Makes (old new : Nodes) (f g : Formed) (on : State → meant_types.Formed → meant_types.Formed) : Type 0 where
  pub keeps : Keeps old new
  pub there : g.of < type_count new
  pub is : (s : State) → Stands old.scopes old.p s → formed_in new g ≡ on s (formed_in old f)

-- the same where nothing was made before
pub record MakesOf (old new : Nodes) (g : Formed) (made : State → meant_types.Formed) : Type 0 where
  pub keeps : Keeps old new
  pub there : g.of < type_count new
  pub is : (s : State) → Stands old.scopes old.p s → formed_in new g ≡ made s

-- the parameters' types are there
abbrev pub ParamIsThere : Nodes → Param → Type 0
ParamIsThere n p = p.of < type_count n

abbrev pub WrapIsThere : Nodes → Wrap → Type 0
WrapIsThere n (Gives p) = All (ParamIsThere n) p.params.items
WrapIsThere n w = Unit {0}

-- numbers of types for a list of them
pub record AreTypes (n : Nodes) (ks : List ℕ) (ts : List Ty) : Type 0 where
  pub there : All (λ k. k < type_count n) ks
  pub are : map (type_in n) ks ≡ ts

pub record HasTypes (old new : Nodes) (ks : List ℕ) (ts : List Ty) : Type 0 where
  pub keeps : Keeps old new
  pub are : AreTypes new ks ts
