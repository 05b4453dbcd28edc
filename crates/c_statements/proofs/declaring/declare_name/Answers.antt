use Rattle.std.proofs.Common.{◌≡◌, sym, subst}
use Rattle.c_expressions.specs.declared.nodes.Nodes.{Nodes}
use Rattle.c_elaborator.specs.declared.work.Work.{Work}
use Rattle.c_elaborator.specs.Answers.{Answers, freely}
use Rattle.c_statements.specs.Declaring.{declares, EntryThere, IsEntry}
use Rattle.c_statements.proofs.Lifting.{named_answers}
use Rattle.c_statements.proofs.declaring.declare_name.Goals as goal

pub returns : goal.returns
returns c =
    let w : Work = c.args.work.now in
    let n : Nodes = c.declare_in.new.nodes in
    subst (λ (m : Nodes). Answers freely w (record w { nodes = m }) (declares w c.args.d) EntryThere IsEntry
    c.declare_in.result) (sym c.declare_in.ensures.others)
    (named_answers w n.scopes n.p c.args.d c.declare_in.result c.requires.what c.requires.whole c.requires.there
    c.declare_in.ensures.extends c.declare_in.ensures.file c.declare_in.ensures.answers)
