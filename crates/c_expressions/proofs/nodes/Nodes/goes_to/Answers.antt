use Rattle.std.proofs.Common.{refl}
use Rattle.std.proofs.lemmas.Result.{IfOk-weaker}
use Rattle.c_expressions.proofs.Keeping.{tells_same}
use Rattle.c_expressions.proofs.nodes.Nodes.goes_to.Goals as goal

pub returns-in-Int : goal.returns-in-Int
returns-in-Int c = tells_same c.args.self.now _ _ c.requires.whole
    (rw c.in-Int.ensures.is (rw c.in-Int.ensures.is at c.goes_to_integer.ensures))

pub returns-in-Cap : goal.returns-in-Cap
returns-in-Cap c = tells_same c.args.self.now _ _ c.requires.whole (rw c.in-Cap.ensures.is c.is_integer.ensures)

pub returns-in-Tagged : goal.returns-in-Tagged
returns-in-Tagged c = IfOk-weaker c.same.result _ _
    (λ b h. tells_same c.args.self.now _ b c.requires.whole
    (rw c.in-Tagged.ensures.is (rw c.in-Tagged.ensures.is at h))) c.same.ensures

pub returns-in-Void : goal.returns-in-Void
returns-in-Void c = tells_same c.args.self.now _ _ c.requires.whole (rw c.in-Void.ensures.is refl)

pub returns-in-Array : goal.returns-in-Array
returns-in-Array c = tells_same c.args.self.now _ _ c.requires.whole (rw c.in-Array.ensures.is refl)

pub returns-in-Function : goal.returns-in-Function
returns-in-Function c = tells_same c.args.self.now _ _ c.requires.whole (rw c.in-Function.ensures.is refl)

pub returns-in-Const : goal.returns-in-Const
returns-in-Const c = tells_same c.args.self.now _ _ c.requires.whole (rw c.in-Const.ensures.is refl)
