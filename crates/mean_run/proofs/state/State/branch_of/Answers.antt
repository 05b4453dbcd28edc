use Rattle.std.proofs.Common.{subst}
use Rattle.cheri_c_sem.specs.Expressions.{kind_at}
use Rattle.mean_run.specs.declared.branches.Next.TheVariants as next
use Rattle.mean_work.specs.declared.work.Work.{Work}
use Rattle.mean_work.specs.declared.work.Work.TheVariants as work
use Rattle.mean_run.specs.Branches.{IsBranch}
use Rattle.mean_run.specs.Views.{vars_at}
use Rattle.mean_run.proofs.state.State.branch_of.Goals as goal

pub returns-in-If : goal.returns-in-If
returns-in-If g c =
    let p = c.args.s.now.p.now in
    let vars = vars_at p c.args.f in
    let P : Work → Type 0 = λ w.
    IsBranch (g.B.Operations.meaning c.args.m.now) (g.B.Operations.held c.args.m.now) p c.args.f c.args.k
    c.args.a.now.pos c.args.self.now c.by_truth.new.self c.by_truth.result (kind_at p vars c.in-If.c)
    (next.One (work.Statement c.args.f c.in-If.first)) (next.One w) in
    rw c.in-If.is (subst P c.other_branch.ensures (c.by_truth.ensures _ (c.kind_at.ensures vars)))
