-- What the elaboration of a tree answers.
use Rattle.std.specs.Prelude.{ℕ, List, Result, Ok, Err}
use Rattle.ck_base.specs.declared.refusal.Refusal.{Refusal}
use Rattle.ck_base.specs.declared.refusal.Refusal.TheVariants.{Code, NoMemory}
use Rattle.c_tree.specs.declared.syntax.Tree.{Tree}
use Rattle.c_tree.specs.declared.typed.Typed.{Typed}
use Rattle.c_tree.specs.Syntax.{Syn}
use Rattle.c_tree.specs.Typing.{Reads, TypesSyntax, RefusesSyntax}

-- a tree is that of some syntax in a file
pub record HasReading (tree : Tree) (bytes : List ℕ) : Type 0 where
  pub syntax : Syn
  pub reads : Reads tree bytes syntax

-- the typed program, or the first rule that fails
abbrev pub Elaborated : Syn → Result Typed Refusal → Type 0
Elaborated x (Ok p) = TypesSyntax x p
Elaborated x (Err (Code code place)) = RefusesSyntax x code place
Elaborated x (Err NoMemory) = Unit {0}
