use Rattle.std.proofs.Common.{ap, ◌∙◌}
use Rattle.std.specs.Global.{Vec}
use Rattle.c_tree.specs.declared.typed.VarDef.{VarDef}
use Rattle.c_types.proofs.Added.{locals_taken}
use Rattle.c_types.proofs.scopes.Scopes.take_locals.Goals as goal

pub returns-clause-none : goal.returns-clause-none
returns-clause-none c p s h =
    locals_taken c.args.self.now c.replace.new.dest p s h
    (ap (λ (v : Vec VarDef). v.items) c.replace.ensures.after ∙ c.new.ensures.items)
