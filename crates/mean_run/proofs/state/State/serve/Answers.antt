use Rattle.std.proofs.Common.{[], refl, ap, ◌∙◌, arith}
use Rattle.std.specs.Prelude.{map}
use Rattle.obj_mem.specs.Values.{value_of}
use Rattle.cheri_c_sem.specs.Kinds.{number_of}
use Rattle.cheri_c_sem.specs.Types.{service_of}
use Rattle.mean_steps.specs.Machine.{turned}
use Rattle.mean_run.specs.Views.{funs_of, moment_of}
use Rattle.mean_run.proofs.Finishing.{same_act}
use Rattle.mean_run.proofs.Serving.{allocated_is, argument_base, asked_is, does_stepped, is_asked, put_is, read_is}
use Rattle.mean_run.proofs.Serving.{stepped_as}
use Rattle.mean_run.proofs.state.State.serve.Goals as goal

pub intrinsic-requires-clause-base : goal.intrinsic-requires-clause-base
intrinsic-requires-clause-base g c =
    let ops = g.B.Operations.meaning c.args.m.now in
    let held = g.B.Operations.held c.args.m.now in
    argument_base ops held c.args.count (map value_of c.args.self.now.values) (value_of c.take_arguments-first.result.0)
    c.take_arguments-first.ensures.first c.requires.bases

pub returns-in-0-clause-does : goal.returns-in-0-clause-does
returns-in-0-clause-does g c = λ p before.
    let ops = g.B.Operations.meaning c.args.m.now in
    let held = g.B.Operations.held c.args.m.now in
    let s = c.take_arguments-first.new.self in
    let vs = turned c.args.count (map value_of c.args.self.now.values) [] in
    let less = c.take_arguments-first.ensures.state p held in
    let n = c.number_of.ensures ∙ ap number_of c.take_arguments-first.ensures.first in
    rw c.in-0.is (stepped_as _ _ _ _ _ _ c.put_char.result
    (put_is ops (funs_of p) c.args.pos vs (moment_of p s held) _ less _ c.number_of.result n refl)
    (c.put_char.ensures p held _ _ before))

pub returns-in-1-clause-does : goal.returns-in-1-clause-does
returns-in-1-clause-does g c = λ p before.
    let ops = g.B.Operations.meaning c.args.m.now in
    let held = g.B.Operations.held c.args.m.now in
    let s = c.take_arguments-first.new.self in
    let vs = turned c.args.count (map value_of c.args.self.now.values) [] in
    let less = c.take_arguments-first.ensures.state p held in
    rw c.in-1.is (stepped_as _ _ _ _ _ _ c.get_char.result
    (read_is ops (funs_of p) c.args.pos vs (moment_of p s held) _ less)
    (c.get_char.ensures p held _ _ before))

pub returns-in-2-clause-does : goal.returns-in-2-clause-does
returns-in-2-clause-does g c = λ p before.
    let ops = g.B.Operations.meaning c.args.m.now in
    let held = g.B.Operations.held c.args.m.now in
    let s = c.take_arguments-first.new.self in
    let vs = turned c.args.count (map value_of c.args.self.now.values) [] in
    let less = c.take_arguments-first.ensures.state p held in
    let n = c.number_of-in-2.ensures ∙ ap number_of c.take_arguments-first.ensures.first in
    rw c.in-2.is (does_stepped _ _ _ _ c.allocate.result (same_act _ _ _ c.allocate.result
    (allocated_is ops (funs_of p) c.args.pos vs (moment_of p s held) _ less c.number_of-in-2.result n)
    (c.allocate.ensures.does p)))

pub returns-in-4-to-17-clause-does : goal.returns-in-4-to-17-clause-does
returns-in-4-to-17-clause-does g c = λ p before.
    let ops = g.B.Operations.meaning c.args.m.now in
    let held = g.B.Operations.held c.args.m.now in
    let s = c.take_arguments-first.new.self in
    let vs = turned c.args.count (map value_of c.args.self.now.values) [] in
    let less = c.take_arguments-first.ensures.state p held in
    let first = c.take_arguments-first.ensures.first in
    let second = c.take_arguments-first.ensures.second in
    does_stepped _ _ _ _ c.give_answer.result (same_act _ _ _ c.give_answer.result
    (asked_is ops (funs_of p) c.args.pos vs (moment_of p s held) _ less (service_of c.args.n) _ _ _
    (is_asked c.args.n (omega arith) (omega arith)) first second c.intrinsic.ensures) (c.give_answer.ensures p held))
