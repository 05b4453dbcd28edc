-- The laws of the meaning, gathered.
use Rattle.std.specs.Prelude.{List}
use Rattle.ck_base.specs.World.{World}
use Rattle.c_tree.specs.declared.typed.Typed.{Typed}
use Rattle.c_tree.specs.declared.typed.VarDef.{VarDef}
use Rattle.cheri_c_sem.specs.Operations.{Operations}
use Rattle.cheri_c_sem.specs.Modes.{Store}
use Rattle.cheri_c_sem.specs.Tree.{Fun}
use Rattle.cheri_c_sem.specs.Order.{Ordered}
use Rattle.cheri_c_sem.specs.Unfolding.{TurnsAlone, TreesOfOperands}
use Rattle.cheri_c_sem.proofs.Turns.{call_unfolds, depth_is_enough, while_unfolds, do_unfolds, for_unfolds}
use Rattle.cheri_c_sem.proofs.Unfold.{expression_node, statement_node}

pub turns_alone_law : (ops : Operations Store) (w : World) (funs : List Fun) → TurnsAlone ops w funs
turns_alone_law ops w funs = record {
  enough = λ a f vs s k l. depth_is_enough ops w funs a f vs s k l;
  calls = call_unfolds ops w funs;
  whiles = while_unfolds ops w funs;
  dos = do_unfolds ops w funs;
  fors = for_unfolds ops w funs;
}

pub trees_of_operands_law : (p : Typed) → Ordered p → (vars : List VarDef) → TreesOfOperands p vars
trees_of_operands_law p o vars = record { expressions = expression_node p vars o; statements = statement_node p vars o }
