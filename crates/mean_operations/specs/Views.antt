-- What operations are in the words of the meaning.
use Rattle.std.specs.Prelude.{not, Result, Ok}
use Rattle.c_tree.specs.declared.typed.UnaryOp.{UnaryOp}
use Rattle.c_tree.specs.declared.typed.UnaryOp.TheVariants as unary
use Rattle.ck_base.specs.World.{World}
use Rattle.obj_mem.specs.Values.{Value}
use Rattle.obj_mem.specs.declared.ending.Fault.{Fault}
use Rattle.cheri_c_sem.specs.Kinds.{Kind, truth}
use Rattle.cheri_c_sem.specs.Operations.{Operations, on_ok, is_true}
use Rattle.cheri_c_sem.specs.Meaning.{sign_by}
use Rattle.cheri_c_sem.specs.Tree as tree
use Rattle.mean_types.specs.Views.{kind_of}
use Rattle.mean_operations.specs.declared.arithmetic.Operation as code
use Rattle.mean_operations.specs.declared.arithmetic.Operation.TheVariants as operation

abbrev pub operation_of : code.Operation → tree.Operation
operation_of (operation.Whole op k count) = tree.Whole op k (kind_of count)
operation_of (operation.Derived d) = tree.Derived d.op d.signed (kind_of d.count) d.right d.plain
operation_of (operation.Moved m) = tree.Moved m.size m.minus m.left (kind_of m.index)
operation_of (operation.Apart size) = tree.Apart size

module _ {M : Type 0} (ops : Operations M) (w : World) where
  -- a unary operation on an operand of a kind (C11 6.5.3.3)
  abbrev pub unary_by : UnaryOp → Kind → M → Value → Result Value Fault
  unary_by unary.Plus k m x = sign_by ops w tree.Positive k m x
  unary_by unary.Minus k m x = sign_by ops w tree.Negative k m x
  unary_by unary.Complement k m x = sign_by ops w tree.Complement k m x
  unary_by unary.LogicalNot k m x = on_ok ops (λ b. Ok (truth (not b))) (is_true ops m k x)
