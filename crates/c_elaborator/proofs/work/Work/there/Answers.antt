use Rattle.c_elaborator.proofs.Knowing.{void_past}
use Rattle.c_elaborator.proofs.work.Work.there.Goals as goal

pub returns-else-of-as_slice-clause-is : goal.returns-else-of-as_slice-clause-is
returns-else-of-as_slice-clause-is c =
    void_past c.args.self.now.nodes c.args.of c.requires (rw c.as_slice.ensures at c.if-of-as_slice.false)
