use Rattle.std.proofs.Common.{◌≡◌, length, ap, ◌∙◌, arith}
use Rattle.mean_run.specs.Locals.{vars_of}
use Rattle.mean_run.specs.Views.{vars_at}
use Rattle.mean_run.proofs.Calling.{objects_at}
use Rattle.mean_run.proofs.Counts.{few}
use Rattle.mean_run.proofs.calls.objects_of.Goals as goal

pub returns-in-Some-clause-is : goal.returns-in-Some-clause-is
returns-in-Some-clause-is c =
    let p = c.args.s.now.p.now in
    let vars = vars_at p c.args.g in
    let counted = c.count.ensures p c.requires.locals in
    let least = few vars (length vars) in
    let long : length c.as_slice.result.now ≡ length vars =
    ap length (c.as_slice.ensures ∙ ap vars_of c.in-Some.ensures) in
    let objects = objects_at p c.args.g in
    let min = c.min.ensures in
    omega arith
